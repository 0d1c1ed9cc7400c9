use Rattle.erd_canon.proofs.Common.{◌++◌, ◌-◌, Some, ap, ◌∙◌, codes, length, take}
use Rattle.erd_canon.specs.code.ValuedInside.{entries_text}
use Rattle.erd_canon.proofs.data_values.DataTexts.{two_pieces}
use Rattle.erd_canon.proofs.data.valued_inside.push_selections.Goals as goal

pub returns : goal.returns
returns c =
    let was = c.args.text.now.items in
    let entries = entries_text c.args.contests.now (Some c.args.most_bytes) c.args.selections.now in
    two_pieces (take (length was - 1) was) (codes ",\"selections\":[") c.extend_from_slice.new.self.items (entries ++ codes "}")
    c.extend_from_slice-2.new.self.items
    (c.in_ok-extend_from_slice.ensures.items ∙ ap (λ t. t ++ codes ",\"selections\":[")
    (c.truncate.ensures.items ∙ ap (λ n. take n was) (c.saturating_sub-last.ensures ∙ ap (λ n. n - 1) (c.len.ensures ∙ c.args.text.now.ok.0))))
    (two_pieces c.extend_from_slice.new.self.items entries c.push_entries.new.text.items (codes "}") c.extend_from_slice-2.new.self.items
    c.in_ok-push_entries.ensures c.in_ok-extend_from_slice-2.ensures.items)

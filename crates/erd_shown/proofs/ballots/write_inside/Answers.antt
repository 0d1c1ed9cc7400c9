use Rattle.erd_shown.proofs.Common.{◌++◌, List, Some, codes, map, sym, ap, ◌∙◌, view, Data, NameParts, on_ok_weaker, value_tokens}
use Rattle.std.proofs.lemmas.Simd.{map-map}
use Rattle.erd_shown.proofs.MembersWritten.{member_then}
use Rattle.erd_shown.specs.Ballots.{thing_at, what_members}
use Rattle.erd_shown.specs.KeyData.{array_of, shown_name}
use Rattle.erd_shown.specs.ListedNames.{names_on}
use Rattle.erd_shown.specs.code.LentNames.{lent}
use Rattle.erd_shown.proofs.ballots.write_inside.Goals as goal

pub returns : goal.returns
returns c =
    let π = c.args.report.now.prefer in
    let t = view c.args.report.now.tree in
    let d = view c.args.node.now in
    let shown = λ (n : NameParts). shown_name (Some n) in
    on_ok_weaker c.write_what.result
    (λ last.
    member_then c.args.out.now c.key.new.self c.write_names.new.out c.write_what.new.out (codes "selections") (array_of (map shown (names_on π t d)))
    (what_members (thing_at π t d)) c.in_ok-key.ensures
    (c.in_ok-write_names.ensures
    ∙ ap (λ (ds : List Data). c.key.new.self ++ value_tokens (array_of ds))
    (sym (map-map shown lent c.deref.result.now) ∙ ap (map shown) (ap (map lent) c.deref.ensures.value ∙ c.in_ok-names_on.ensures))) last)
    c.write_what.ensures

use Rattle.erd_shown.proofs.Common.{◌≡◌, ℕ, List, Option, Some, None, Bor, NameParts, ◌++◌}
use Rattle.erd_shown.proofs.Common.{map, option_map, slice_get, slice_get-map, string_bytes, sym, ap, ◌∙◌, append-nil, on_ok_weaker}
use Rattle.erd_shown.specs.BallotLines.{lines_text, name_lines}
use Rattle.erd_shown.specs.code.LentNames.{lent}
use Rattle.erd_shown.proofs.differing_selections.push_name_at.Goals as goal

name_there : (ns : List (Bor NameParts)) (i : ℕ) (o p : Option (Bor NameParts)) → o ≡ slice_get ns i → o ≡ p → option_map lent p ≡ slice_get (map lent ns) i
name_there ns i o p is same = ap (option_map lent) (sym same ∙ is) ∙ sym (slice_get-map lent ns i)

pub returns-in-Some : goal.returns-in-Some
returns-in-Some c =
    let old = string_bytes c.args.text.now in
    let there = name_there c.args.names.now c.args.position c.name_in.result (Some c.in-Some.name) c.name_in.ensures c.in-Some.is in
    on_ok_weaker c.push_name.result (λ is. is ∙ ap (λ o. old ++ lines_text (name_lines c.args.how.now o)) there) c.push_name.ensures

pub returns-in-None : goal.returns-in-None
returns-in-None c =
    let old = string_bytes c.args.text.now in
    let there = name_there c.args.names.now c.args.position c.name_in.result None c.name_in.ensures c.in-None.is in
    sym (append-nil old) ∙ ap (λ o. old ++ lines_text (name_lines c.args.how.now o)) there

use Rattle.erd_shown.proofs.Common.{◌++◌, role, ap, ◌∙◌, view, on_ok_weaker, map}
use Rattle.erd_meaning.specs.Lookups.{rising_keys}
use Rattle.erd_shown.specs.code.LineLists.{of_place}
use Rattle.erd_shown.proofs.WordedObjects.{at_places}
use Rattle.erd_shown.proofs.word_list.push_family.Goals as goal

pub returns : goal.returns
returns c =
    let r = role.OfFamily c.args.family in
    let keys = rising_keys c.args.report.now.prefer (view c.args.report.now.tree) c.args.family in
    on_ok_weaker c.push_places.result
    (λ wrote. wrote ∙ ap (λ os. c.args.found.now.items ++ os)
    (at_places r c.deref.result.now keys (ap (map of_place) c.deref.ensures.value ∙ c.in_ok-places.ensures)))
    c.push_places.ensures

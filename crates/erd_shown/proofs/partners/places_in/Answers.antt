use Rattle.erd_text.proofs.Common.{◌+◌, ◌∷◌, [], ◌++◌, drop, drop_more, sym, ap, ◌∙◌}
use Rattle.std.specs.Map.{lookup}
use Rattle.std.specs.Ordering.{eq_by_cmp}
use Rattle.erd_shown.specs.code.PlacesFound.{occurrence_cmp}
use Rattle.erd_shown.proofs.PartnerLists.{map_next}
use Rattle.erd_shown.proofs.partners.places_in.Goals as goal

pub loop-occurrence-preserved : goal.loop-occurrence-preserved
loop-occurrence-preserved g c =
    let all = c.args.occurrences.now in
    let i = c.loop-occurrence.occurrence-index in
    let x = c.occurrence-item.result in
    map_next (λ p. lookup (eq_by_cmp (occurrence_cmp g.K.Ord.cmp) p) c.args.places.now.entries) all i x c.loop-occurrence.found.items c.push.new.self.items _
    (drop_more all i x c.loop-occurrence-test.true ∙ ap (λ w. w ∷ drop (i + 1) all) (sym c.occurrence-item.is))
    (c.in_ok-push.ensures.items ∙ ap (λ o. c.loop-occurrence.found.items ++ o ∷ []) (c.copied.ensures ∙ c.get.ensures.value))
    c.loop-occurrence.invariant

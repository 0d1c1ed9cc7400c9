use Rattle.erd_text.proofs.Common.{◌≡◌, ℕ, List, Option, map, ap, ◌∙◌, subst, fun_ext}
use Rattle.std.specs.Prelude.{IfOk}
use Rattle.std.specs.Map.{lookup}
use Rattle.std.specs.Ordering.{eq_by_cmp}
use Rattle.erd_shown.specs.Partners.{occurrences, place_from}
use Rattle.erd_shown.specs.code.PlacesFound.{occurrence_cmp}
use Rattle.erd_shown.proofs.partners.partners_of.Goals as goal

pub returns : goal.returns
returns g c =
    let same = eq_by_cmp g.K.Ord.cmp in
    subst (λ (xs : List (Option ℕ)). IfOk c.places_in.result (λ found. found.items ≡ xs))
    (ap (map (λ p. lookup (eq_by_cmp (occurrence_cmp g.K.Ord.cmp) p) c.in_ok-places.places.entries)) (c.deref-2.ensures.value ∙ c.in_ok-occurrences-2.ensures)
    ∙ ap (λ f. map f (occurrences same c.args.things.now))
    (fun_ext (λ p. c.in_ok-places.ensures p ∙ ap (λ os. place_from same 0 os p) (c.deref.ensures.value ∙ c.in_ok-occurrences.ensures))))
    c.places_in.ensures

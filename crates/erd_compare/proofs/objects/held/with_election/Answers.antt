use Rattle.erd_compare.proofs.Common.{◌≡◌, ℕ, List, Bor, map, ap, ◌∙◌, with_name}
use Rattle.std.specs.List.{insert}
use Rattle.erd_compare.proofs.differing.RecordWays.{inserted, lesser_count}
use Rattle.erd_compare.proofs.objects.held.with_election.Goals as goal

told : (name : Bor (List ℕ)) (ss new : List (Bor (List ℕ))) (i : ℕ) → new ≡ insert ss i name → i ≡ lesser_count name.now ss → map (λ s. s.now) new
    ≡ with_name name.now (map (λ s. s.now) ss)
told name ss new i put place = ap (map (λ s. s.now)) (put ∙ ap (λ j. insert ss j name) place) ∙ inserted name ss

pub returns : goal.returns
returns c = told _ c.args.names.items _ _ c.in_ok-insert.ensures.items (c.place_of-place.ensures.place ∙ ap (lesser_count _) c.deref.ensures.value)

use Rattle.erd_meaning.proofs.Common.{◌≡◌, length, drop, places_put}
use Rattle.erd_meaning.proofs.objects.order.places_in.Given as goal

abbrev pub invariant-loop-place : goal.invariant-loop-place
invariant-loop-place l =
    (places_put l.place (drop l.place l.rising) l.places.items ≡ places_put 0 l.rising l.initial.places.items) × (length l.places.items ≡ length l.rising)

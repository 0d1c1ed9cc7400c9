-- The objects of the list of what ballots print.
use Rattle.erd_shown.proofs.Common.{◌≡◌, ℕ, true, List, map, slice_get, Some, Option, option_map, sym, ap, ◌∙◌}
use Rattle.erd_shown.proofs.Common.{Data, Role, role, family, Bor, objects}
use Rattle.erd_meaning.proofs.Common.{map-map}
use Rattle.erd_meaning.specs.declared.keys.key.Key.{Key}
use Rattle.erd_shown.specs.Shown.{placed_in}
use Rattle.erd_shown.specs.WordList.{is_contest_role}
use Rattle.erd_shown.specs.code.LineLists.{of_place}
use Rattle.erd_shown.specs.declared.word_list.WordedObject.{WordedObject}

abbrev with_role : Role → ℕ → WordedObject
with_role r i = record { role = r; position = i }

abbrev at_key : Role → Option Key × ℕ → WordedObject
at_key r p = with_role r p.1

abbrev position : Option Key × ℕ → ℕ
position p = p.1

-- at the positions of keys
pub at_places : (r : Role) (places : List (Option (Bor Key) × ℕ)) (keys : List (Option Key × ℕ)) → map of_place places ≡ keys
    → map (λ (p : Option (Bor Key) × ℕ). with_role r p.1) places ≡ map (with_role r) (map position keys)
at_places r places keys e = sym (map-map (at_key r) of_place places) ∙ ap (map (at_key r)) e ∙ sym (map-map (with_role r) position keys)

-- an object with the role of contests
pub contest_there : (t : Data) (r : Role) (i : ℕ) (d : Data) → is_contest_role r ≡ true → option_map (λ o. o.value) (placed_in t r i) ≡ Some d
    → option_map (λ o. o.value) (slice_get (objects family.Contest t) i) ≡ Some d
contest_there t (role.OfFamily family.Contest) i d is there = there
contest_there t r i d is there = cc

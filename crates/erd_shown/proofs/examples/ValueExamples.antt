-- What members mean as JSON.
use Rattle.erd_shown.proofs.Common.{◌≡◌, Bool, true, false, [], ◌∷◌, Some, None, codes, refl, null, boolean, string, array, object, no_items, no_members}
use Rattle.erd_shown.proofs.Common.{member, is_same_json, json_set, kind, family, tree_of, fun_ext}
unfoldable use Rattle.erd_shown.proofs.Common.{serde_json_on_literals}
use Rattle.std.specs.Prelude.{◌||◌}
use Rattle.erd_shown.specs.KeyData.{array_of}
use Rattle.erd_shown.specs.ContentData.{content_data}
use Rattle.erd_shown.specs.Shown.{set_data, shown_value}

-- an empty array of the table means nothing, and `false` is something
nothing_and_false : (shown_value None null (kind.Many family.Party) (array no_items) ≡ None)
    × (shown_value None null kind.Flag (boolean false) ≡ Some (boolean false))
nothing_and_false = (refl, refl)

-- a reference that names nothing is null, as a missing key is
no_key : shown_value None null (kind.One family.Party) (string (codes "p")) ≡ Some null
no_key = refl

-- the entries of a set stand in the rising order of their texts
set_rises : set_data (string (codes "b") ∷ string (codes "a") ∷ []) ≡ array_of (string (codes "a") ∷ string (codes "b") ∷ [])
unfolding serde_json_on_literals
set_rises = refl

-- a contest on a ballot, with a member that it carries
contest_there : content_data None null (tree_of (codes "[{\"@type\":\"ElectionResults.OrderedContest\",\"ContestId\":\"c\",\"Note\":true}]"))
    ≡ array_of
    (object (member (codes "carried") (object (member (codes "Note") (boolean true) no_members))
    (member (codes "contest") null (member (codes "selections") (array no_items) no_members))) ∷ [])
unfolding serde_json_on_literals
contest_there = refl

-- why "no entry twice" is needed: one set, and two arrays
twice : (b : Bool) → (b || (b || false)) ≡ (b || false)
twice true = refl
twice false = refl

repeats_apart : (json_set (null ∷ null ∷ []) ≡ json_set (null ∷ [])) × (set_data (null ∷ null ∷ []) ≡ set_data (null ∷ []) → ⊥)
repeats_apart = (fun_ext (λ d. twice (is_same_json d null)), λ e. cc)

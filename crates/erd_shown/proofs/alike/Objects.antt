-- Two reports that mean the same have the same objects under each key.
use Rattle.erd_shown.proofs.Common.{◌≡◌, ℕ, true, false, List, Some, Option, codes, option_and_then, bytes_eq, sym}
use Rattle.erd_shown.proofs.Common.{refl, ap, ◌∙◌, In, contains_from_In, and_then-Some, find-Some, find-any, any_at, one_keyed, Data, object, Family}
use Rattle.erd_shown.proofs.Common.{family, role, has_keys, Preference, IsAccepted, key_of, Key, Placed, objects, placed_with_key, records_of}
use Rattle.erd_shown.proofs.Common.{placed_record, meaning, ObjectRecord, MemberValue, member_of_class}
use Rattle.erd_meaning.specs.Meaning.{Meaning}
use Rattle.erd_shown.specs.Laws.{IsTaken, placed_meaning}
use Rattle.erd_shown.specs.Shown.{holder_key, object_data}
use Rattle.erd_shown.proofs.KeysFound.{has_this_key, key_itself, key_told}
use Rattle.erd_shown.proofs.told.Laws.{Taken, meant, objects_tell, taken, without_key}

-- two reports that a call takes, and that mean the same
pub record AreAlike (π ρ : Preference) (t u : Data) : Type 0 where
  pub left : IsTaken π t
  pub right : IsTaken ρ u
  pub same : meaning π t ≡ meaning ρ u

pub turned : {π ρ : Preference} {t u : Data} → AreAlike π ρ t u → AreAlike ρ π u t
turned alike = record { left = alike.right; right = alike.left; same = sym alike.same }

-- ---- objects with keys

records_found : (π : Preference) (t : Data) (f : Family) (k : Key) → has_keys f ≡ true → records_of π t f k
    ≡ option_and_then (placed_record π t f) (placed_with_key π t f k)
records_found π t family.Selection k keyed = cc
records_found π t f k keyed = refl

pub meant_by_family : (π : Preference) (t : Data) (f : Family) (o : Placed) → has_keys f ≡ true → placed_meaning π t (role.OfFamily f) o ≡ placed_record π t f o
meant_by_family π t family.Selection o keyed = cc
meant_by_family π t f o keyed = refl

module _ (π : Preference) (t : Data) (f : Family) (k : Key) where
  pub found_here : IsAccepted π t → has_keys f ≡ true → (o : Placed) → In o (objects f t) → key_of π o.value ≡ Some k → placed_with_key π t f k ≡ Some o
  found_here accepted keyed o i e =
      let r = find-any (has_this_key π k) (objects f t) (any_at (has_this_key π k) o (objects f t) i (key_itself π k o e)) in
      r.1 ∙ ap Some (one_keyed π t accepted f r.0 o k keyed r.3 i (key_told π k r.0 r.2) e)

  pub found_has : (o : Placed) → placed_with_key π t f k ≡ Some o → In o (objects f t) × (key_of π o.value ≡ Some k)
  found_has o e = let r = find-Some (has_this_key π k) (objects f t) o e in (r.0, key_told π k o r.1)

-- the object of the other report that has the same key: it means the same, and is written alike
pub record Twin (π ρ : Preference) (t u : Data) (f : Family) (k : Key) (o : Placed) : Type 0 where
  pub other : Placed
  pub found : placed_with_key ρ u f k ≡ Some other
  pub there : In other (objects f u)
  pub key : key_of ρ other.value ≡ Some k
  pub records : placed_record π t f o ≡ placed_record ρ u f other
  pub written : object_data π t (role.OfFamily f) o ≡ object_data ρ u (role.OfFamily f) other

module _ (π ρ : Preference) (t u : Data) (alike : AreAlike π ρ t u) (f : Family) (keyed : has_keys f ≡ true) where
  some_record : (o : Placed) → In o (objects f t) → (r : ObjectRecord) × (placed_record π t f o ≡ Some r)
  some_record o i =
      let a = taken π t alike.left (role.OfFamily f) o (contains_from_In o (objects f t) i) in
      (_, sym (meant_by_family π t f o keyed) ∙ meant π t (role.OfFamily f) o a)

  pub twin : (k : Key) (o : Placed) → In o (objects f t) → key_of π o.value ≡ Some k → Twin π ρ t u f k o
  twin k o i e =
      let r = some_record o i in
      let here : records_of π t f k ≡ Some r.0 =
      records_found π t f k keyed ∙ ap (option_and_then (placed_record π t f)) (found_here π t f k alike.left.accepted keyed o i e) ∙ r.1 in
      let there : option_and_then (placed_record ρ u f) (placed_with_key ρ u f k) ≡ Some r.0 =
      sym (records_found ρ u f k keyed) ∙ sym (ap (λ (m : Meaning). m.objects f k) alike.same) ∙ here in
      let p = and_then-Some (placed_record ρ u f) (placed_with_key ρ u f k) r.0 there in
      let has = found_has ρ u f k p.0 p.1 in
      let records : placed_record π t f o ≡ placed_record ρ u f p.0 = r.1 ∙ sym p.2 in
      record {
        other = p.0;
        found = p.1;
        there = has.0;
        key = has.1;
        records = records;
        written =
            (objects_tell π ρ t u (role.OfFamily f) o p.0 alike.left alike.right (contains_from_In o (objects f t) i)
            (contains_from_In p.0 (objects f u) has.0)).1 (meant_by_family π t f o keyed ∙ records ∙ sym (meant_by_family ρ u f p.0 keyed));
      }

-- ---- members

abbrev pub member_in : List ℕ → Option ObjectRecord → Option MemberValue
member_in name o = option_and_then (λ (r : ObjectRecord). r.members name) o

-- a member of what an object means
pub member_meant : (π : Preference) (t : Data) (f : Family) (o : Placed) (a : Taken π t (role.OfFamily f) o) (name : List ℕ) → has_keys f ≡ true
    → bytes_eq name (codes "ElectionId") ≡ false → member_in name (placed_record π t f o)
    ≡ member_of_class π t (object a.object_there.ms) a.object_there.class name
member_meant π t f o a name keyed other =
    ap (member_in name) (sym (meant_by_family π t f o keyed) ∙ meant π t (role.OfFamily f) o a)
    ∙ without_key (holder_key π t (role.OfFamily f) o) (member_of_class π t (object a.object_there.ms) a.object_there.class) name other

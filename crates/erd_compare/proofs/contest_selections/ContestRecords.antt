-- A selection means what an object with its members does, and the selections of a contest are those of its record.
use Rattle.erd_compare.proofs.Common.{◌≡◌, ℕ, Bool, true, false, List, [], codes, Some, None, Option, option_map, option_and_then, sym, refl, ap, ◌∙◌, inl, inr}
use Rattle.erd_compare.proofs.Common.{fun_ext, Data, array, no_items, item, get, view, entries_of, entries_at, role_of_class, kind_of_member, Class, family}
use Rattle.erd_compare.proofs.Common.{role, MemberKind, kind, PlainValue, MemberValue, a_plain, a_selection_map, ObjectRecord, SelectionRecord, Preference}
use Rattle.erd_compare.proofs.Common.{Judged, Placed, NameParts, key_in, plain_member, member_of_class, member_value, unless_empty, object_record}
use Rattle.erd_compare.proofs.Common.{selection_record, selection_map, selection_role, name_of, name_in_class, key_named, meaning, record_at, How, Member}
use Rattle.erd_compare.proofs.Common.{OnlyLeft, OnlyRight, OtherClass, DifferIn, AgreeBut, Key, HasKeyAt, IsComparable, holder_key_in, other_than_election}
use Rattle.erd_compare.proofs.Common.{part, slice_get, same_Some, key_with_role, unwrap_or, contests, ◌+◌, cond, ◌==◌, ap₂, subst, slice_get-map, Decides-eqb}
use Rattle.erd_compare.proofs.Common.{selections_of_contest, objects, numbered_selections, option_map-Some, in_at, AreSelectionsIn, selections_before}
use Rattle.erd_compare.proofs.Common.{IsWholeTree, IsPlaced}
use Rattle.erd_check.specs.Wants.{class_of_object}
use Rattle.erd_check.proofs.Positions.{and_then-Some}
use Rattle.erd_meaning.specs.Lookups.{FindsKey, selection_in}
use Rattle.erd_meaning.proofs.accepted.Standing.{contest_selections, values-placed_entries}
use Rattle.erd_meaning.proofs.meanings.SelectionKinds.{class_role, is_selections, selections_family, selections_name}
use Rattle.erd_compare.specs.SelectionDifferences.{selections_in_member, selections_with_key}
use Rattle.erd_compare.specs.code.ContestSelections.{contest_map, selection_values, whole_record}
use Rattle.erd_compare.proofs.least_difference.RisingKeys.{record_here, records_at}
use Rattle.erd_compare.proofs.same_selections.SelectionWalks.{one_plain}
use Rattle.erd_meaning.proofs.selections.ContestSelections.{stand_from_start}
use Rattle.erd_meaning.proofs.selections.NamesTold.{numbered_at}
use Rattle.erd_meaning.specs.NameParts.{NameParts}
use Rattle.erd_meaning.specs.code.SelectionWalk.{if_of_contest, selection_of}
use Rattle.erd_compare.proofs.whole_trees.WholeTrees.{whole_object}

-- ---- selections as objects

-- the record of an object, and that of a selection, of a class
abbrev object_in : Preference → Data → Data → Class → ObjectRecord
object_in π tree d c = record { class = c; members = member_of_class π tree d c }

abbrev selection_in_class : Preference → Data → Data → Class → SelectionRecord
selection_in_class π tree d c = record { class = c; members = plain_member π tree d c }

-- members of a kind other than selections mean what they do by themselves
plain_kind : (π : Preference) (tree : Data) (k : MemberKind) (found : Option Data) (p : Option PlainValue) → is_selections k ≡ false
    → member_value π tree k found p ≡ option_map a_plain p
plain_kind π tree (kind.Keyed family.Selection) found p is = cc
plain_kind π tree k found p is = refl

-- a selection holds no selections
plain_in : (π : Preference) (tree d : Data) (c : Class) → role_of_class c ≡ selection_role → member_of_class π tree d c
    ≡ (λ name. option_map a_plain (plain_member π tree d c name))
plain_in π tree d c its = fun_ext (λ name. at name (is_selections (kind_of_member c name)) refl)
  where
    at : (name : List ℕ) (b : Bool) → is_selections (kind_of_member c name) ≡ b → member_of_class π tree d c name
        ≡ option_map a_plain (plain_member π tree d c name)
    at name true is =
        let clash : family.Selection ≡ family.Contest = selections_family c family.Selection its
        (ap (λ n. is_selections (kind_of_member c n)) (sym (selections_name c name is)) ∙ is) in
        cc
    at name false is = plain_kind π tree (kind_of_member c name) (get name d) (plain_member π tree d c name) is

-- so its record is that of any object
pub record_whole : (π : Preference) (tree d : Data) → object_record π tree selection_role d ≡ whole_record (selection_record π tree d)
record_whole π tree d = at (class_of_object selection_role d) refl
  where
    at : (o : Option Class) → class_of_object selection_role d ≡ o
        → option_map (object_in π tree d) o ≡ whole_record (option_map (selection_in_class π tree d) o)
    at None is = refl
    at (Some c) is = ap (λ (m : List ℕ → Option MemberValue). Some (record { class = c; members = m })) (plain_in π tree d c (class_role selection_role d c is))

-- a selection with a name means something
pub has_record : (π : Preference) (tree d : Data) (n : NameParts) → name_of π tree d ≡ Some n → (r : SelectionRecord) × (selection_record π tree d ≡ Some r)
has_record π tree d n named = at (class_of_object selection_role d) refl
  where
    at : (o : Option Class) → class_of_object selection_role d ≡ o → (r : SelectionRecord) × (selection_record π tree d ≡ Some r)
    at None is = let clash : None ≡ Some n = sym (ap (option_map (λ c. name_in_class π (key_named π tree) c d)) is) ∙ named in cc
    at (Some c) is = (selection_in_class π tree d c, ap (option_map (selection_in_class π tree d)) is)

-- ---- differences of selections as those of objects

pub differ_plain : (x y : Option SelectionRecord) (how : How) → DifferIn (whole_record x) (whole_record y) how → DifferIn x y how
differ_plain None None how h = h
differ_plain (Some a) None how h = h
differ_plain None (Some b) how h = h
differ_plain (Some a) (Some b) OnlyLeft h = h
differ_plain (Some a) (Some b) OnlyRight h = h
differ_plain (Some a) (Some b) OtherClass h = h
differ_plain (Some a) (Some b) (Member name) h = (h.0, λ same. h.1 (ap (option_map a_plain) same))

pub agree_plain : (told : How → Type 0) (x y : Option SelectionRecord) → AgreeBut told (whole_record x) (whole_record y) → AgreeBut told x y
agree_plain told None None h = h
agree_plain told (Some a) None h = h
agree_plain told None (Some b) h = h
agree_plain told (Some a) (Some b) (inl other) = inl other
agree_plain told (Some a) (Some b) (inr (class, members)) = inr (
  class,
  λ name. elim (members name) [
    | inl same ↦ inl (one_plain (a.members name) (b.members name) same)
    | inr is ↦ inr is
  ],
)

-- ---- the selections of a contest

-- the entries of a member that may be absent
abbrev entries_found : Option Data → List Data
entries_found None = []
entries_found (Some v) = entries_of v

module _ (π : Preference) (tree : Data) where
  -- the selections that a member of their kind means
  meant : (o : Option Data) → selections_in_member (option_and_then (λ v. unless_empty (a_selection_map (selection_map π tree (entries_of v))) v) o)
      ≡ selection_map π tree (entries_found o)
  meant None = fun_ext (λ n. refl)
  meant (Some (array no_items)) = fun_ext (λ n. refl)
  meant (Some (array (item d ds))) = refl
  meant (Some v) = refl

  found_entries : (name : List ℕ) (d : Data) → entries_found (get name d) ≡ entries_at name d
  found_entries name d = at (get name d) refl
    where
      at : (o : Option Data) → get name d ≡ o → entries_found o ≡ entries_at name d
      at None is = rw is refl
      at (Some v) is = rw is refl

  -- the selections of a record that is that of a contest
  of_record : (d : Data) (r : ObjectRecord) → object_record π tree (role.OfFamily family.Contest) d ≡ Some r
      → selections_in_member (r.members (codes "ContestSelection")) ≡ selection_map π tree (entries_at (codes "ContestSelection") d)
  of_record d r is = at (class_of_object (role.OfFamily family.Contest) d) refl is
    where
      at : (o : Option Class) → class_of_object (role.OfFamily family.Contest) d ≡ o → option_map (object_in π tree d) o ≡ Some r
          → selections_in_member (r.members (codes "ContestSelection")) ≡ selection_map π tree (entries_at (codes "ContestSelection") d)
      at None class e = cc
      at (Some c) class e =
          let same : object_in π tree d c ≡ r = same_Some (object_in π tree d c) r e in
          ap (λ (x : ObjectRecord). selections_in_member (x.members (codes "ContestSelection"))) (sym same)
          ∙ (ap (λ k. selections_in_member (member_value π tree k (get (codes "ContestSelection") d) (plain_member π tree d c (codes "ContestSelection"))))
          (contest_selections c (class_role (role.OfFamily family.Contest) d c class))
          ∙ (meant (get (codes "ContestSelection") d) ∙ ap (selection_map π tree) (found_entries (codes "ContestSelection") d)))

-- ---- the contest with a key

module _ (a : Judged) (comparable : IsComparable a.prefer (view a.tree)) where
  abbrev π : Preference
  π = a.prefer

  abbrev tree : Data
  tree = view a.tree

  -- a meaning without a record has no selections
  no_record : (k : Option Key) → record_at (meaning π tree) part.Contest k ≡ None → contest_map a None ≡ selections_with_key (meaning π tree) k
  no_record k none =
      sym (ap (λ (o : Option ObjectRecord). selections_in_member (option_and_then (λ r. r.members (codes "ContestSelection")) o)) none ∙ fun_ext (λ n. refl))

  pub without_key : contest_map a None ≡ selections_with_key (meaning π tree) None
  without_key = no_record None refl

  pub with_key : (k : Key) (found : Option ℕ) → FindsKey π tree family.Contest k found → contest_map a found ≡ selections_with_key (meaning π tree) (Some k)
  with_key k found finds = at found refl
    where
      key_here : (i : ℕ) (h : HasKeyAt π tree (role.OfFamily family.Contest) i (Some k)) → key_in π family.Contest tree i ≡ Some k
      key_here i h = ap (option_and_then (λ (o : Placed). key_with_role π (role.OfFamily family.Contest) o.value)) h.stands ∙ h.key

      stands_here : (i : ℕ) → key_in π family.Contest tree i ≡ Some k → HasKeyAt π tree (role.OfFamily family.Contest) i (Some k)
      stands_here i e = let o = and_then-Some (λ (o : Placed). key_with_role π (role.OfFamily family.Contest) o.value) (slice_get (contests tree) i) k e in
          record { object = o.0; stands = o.1; key = o.2 }

      at : (f : Option ℕ) → found ≡ f → contest_map a f ≡ selections_with_key (meaning π tree) (Some k)
      at None is = elim ((records_at π tree comparable part.Contest).beside (Some k)) [
        | inl none ↦ no_record (Some k) none
        | inr (i, h) ↦ let clash : None ≡ Some i = sym is ∙ (finds i).1 (key_here i h) in cc
      ]
      at (Some i) is =
          let h = stands_here i ((finds i).0 is) in
          let r = record_here π tree comparable part.Contest (Some k) i h in
          let values : selection_values a i ≡ entries_at (codes "ContestSelection") h.object.value =
          ap (λ (o : Option Placed). unwrap_or (option_map (λ o. entries_at (codes "ContestSelection") o.value) o) []) h.stands in
          fun_ext (λ n. ap (λ ds. selection_map π tree ds n) values)
          ∙ (sym (of_record π tree h.object.value r.0 r.1)
          ∙ (ap selections_in_member
          (sym (other_than_election (holder_key_in π (role.OfFamily family.Contest) tree i) r.0.members (codes "ContestSelection") refl))
          ∙ ap (λ (o : Option ObjectRecord). selections_in_member (option_and_then (λ r. r.members (codes "ContestSelection")) o)) (sym r.3)))

-- ---- the selections of a contest at their positions among those of the report, and which of them has a name

-- a selection with the number of its contest
abbrev Numbered : Type 0
Numbered = ℕ × Placed

-- a name with the position of its contest
abbrev in_contest : ℕ → NameParts → ℕ × NameParts
in_contest c n = (c, n)

-- the values of the selections of a contest that was found
abbrev pub values_of : Option Placed → List Data
values_of o = unwrap_or (option_map (λ o. entries_at (codes "ContestSelection") o.value) o) []

module _ (a : Judged) (c : ℕ) where
  abbrev t : Data
  t = view a.tree

  abbrev values : List Data
  values = selection_values a c

  -- they are those of the contest
  pub are_selections : AreSelectionsIn a c values
  are_selections i = at (slice_get (contests t) c)
    where
      at : (o : Option Placed) → option_map (λ (s : Placed). s.value) (option_and_then (λ (o : Placed). slice_get (selections_of_contest o) i) o)
          ≡ slice_get (values_of o) i
      at None = refl
      at (Some o) = sym (slice_get-map (λ (s : Placed). s.value) (selections_of_contest o) i)
          ∙ ap (λ ds. slice_get ds i) (values-placed_entries (codes "ContestSelection") o)

  own : (s : Option Numbered) (o : Placed) → option_and_then (if_of_contest c) s ≡ Some o → s ≡ Some (c, o)
  own None o e = cc
  own (Some s) o e = by (s.0 == c) refl e
    where
      by : (yes : Bool) → (s.0 == c) ≡ yes → cond yes (Some s.1) None ≡ Some o → Some s ≡ Some (c, o)
      by true is e = ap₂ (λ (k : ℕ) (p : Placed). Some (k, p)) ((Decides-eqb s.0 c).0 is) (same_Some s.1 o e)
      by false is e = cc

  -- ---- by position

  module _ (start : ℕ) (counted : start ≡ selections_before t c) where
    numbered_here : (i : ℕ) (d : Data) → slice_get values i ≡ Some d → (o : Placed) × (slice_get (numbered_selections t) (start + i) ≡ Some (c, o))
        × (o.value ≡ d)
    numbered_here i d at =
        let o = option_map-Some (λ (o : Placed). o.value) (selection_of t c i) d (are_selections i ∙ at) in
        (o.0, own (slice_get (numbered_selections t) (start + i)) o.0 (stand_from_start t c start counted i ∙ o.1), o.2)

    -- the selection there, and its name
    pub object_here : (i : ℕ) (d : Data) → slice_get values i ≡ Some d → (o : Placed) × (slice_get (objects family.Selection t) (start + i) ≡ Some o)
        × (o.value ≡ d)
    object_here i d at =
        let o = numbered_here i d at in
        (o.0, sym (numbered_at t (start + i)) ∙ ap (option_map (λ (s : Numbered). s.1)) o.1, o.2)

    pub name_here : (i : ℕ) (d : Data) → slice_get values i ≡ Some d → selection_in a.prefer t (start + i) ≡ option_map (λ n. (c, n)) (name_of a.prefer t d)
    name_here i d at =
        let o = numbered_here i d at in
        ap (option_and_then (λ (s : Numbered). option_map (λ n. (s.0, n)) (name_of a.prefer t s.1.value))) o.1
        ∙ ap (λ v. option_map (λ n. (c, n)) (name_of a.prefer t v)) o.2

-- a selection is a whole tree
pub whole_selection : (a : Judged) → IsComparable a.prefer (view a.tree) → (i : ℕ) (d : Data) → IsPlaced a selection_role i d → IsWholeTree d
whole_selection a c i d placed =
    let o = option_map-Some (λ (o : Placed). o.value) (slice_get (objects family.Selection (view a.tree)) i) d placed in
    subst IsWholeTree o.2 (whole_object (view a.tree) family.Selection c.whole o.0 (in_at (objects family.Selection (view a.tree)) i o.0 o.1))

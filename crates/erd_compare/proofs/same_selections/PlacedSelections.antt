-- The selections of a contest among those of their report.
use Rattle.erd_compare.proofs.Common.{◌≡◌, ℕ, ◌+◌, Bool, true, false, cond, List, map, ◌==◌, slice_get, Some, None, codes, Option, option_map, option_and_then}
use Rattle.erd_compare.proofs.Common.{sym, refl, ap, ◌∙◌, subst, slice_get-map, Data, get, view, role_of_class, kind_of_member, Class, class, family, role}
use Rattle.erd_compare.proofs.Common.{MemberKind, kind, In, In-flat_map, entries_of, entries_at, Judged, Placed, contests, selections_of_contest, objects}
use Rattle.erd_compare.proofs.Common.{numbered_selections, selection_map, name_of, option_and_then_some, option_map-Some, in_at, Decides, IsPairOf, IsPlaced}
use Rattle.erd_compare.proofs.Common.{AreSelectionsAt, AreSelectionsIn, on_side, is_selections, numbered_map, MemberPair, ComparedReport, Left, Right}
use Rattle.erd_compare.proofs.Common.{position_of}
use Rattle.erd_meaning.proofs.selections.NamesTold.{numbered_at}
use Rattle.erd_meaning.proofs.accepted.Standing.{values-placed_entries}
use Rattle.erd_meaning.specs.code.SelectionWalk.{StandFrom, if_of_contest, selection_of}
use Rattle.erd_compare.proofs.same_ranks.NameNumbers.{selection_named}
use Rattle.erd_compare.proofs.same_ranks.NumberedSelections.{AreNamed, maps_decide}
use Rattle.erd_compare.specs.declared.objects.selections.Selections.{Selections}
use Rattle.erd_meaning.proofs.meanings.SelectionKinds as kinds

-- ---- the member of a contest

holds_selections : (k : MemberKind) → is_selections k ≡ true → kinds.is_selections k ≡ true
holds_selections (kind.Keyed family.Selection) e = refl
holds_selections k e = cc

-- a class whose member holds selections is that of contests
selections_role : (c : Class) (name : List ℕ) → kinds.is_selections (kind_of_member c name) ≡ true → role_of_class c ≡ role.OfFamily family.Contest
selections_role c name is = at c (subst (λ n. kinds.is_selections (kind_of_member c n) ≡ true) (kinds.selections_name c name is) is)
  where
    at : (c : Class) → kinds.is_selections (kind_of_member c (codes "ContestSelection")) ≡ true → role_of_class c ≡ role.OfFamily family.Contest
    at class.CandidateContest e = refl
    at class.BallotMeasureContest e = refl
    at class.RetentionContest e = refl
    at class.PartyContest e = refl
    at c e = cc

through : (name : List ℕ) (d : Data) (o : Option Placed) → option_map (λ o. o.value) o ≡ Some d → option_and_then (λ o. get name o.value) o ≡ get name d
through name d None e = cc
through name d (Some o) e = let same : o.value ≡ d = cc in ap (get name) same

-- a member that holds selections is that of the contest at the position
placed_selections : (a : Judged) (c : Class) (name : List ℕ) (i : ℕ) (d : Data) (found : Option Data) → IsPlaced a (role_of_class c) i d → found ≡ get name d
    → is_selections (kind_of_member c name) ≡ true → AreSelectionsAt a i found
placed_selections a c name i d found placed is holds =
    let selections : kinds.is_selections (kind_of_member c name) ≡ true = holds_selections (kind_of_member c name) holds in
    let contest : IsPlaced a (role.OfFamily family.Contest) i d = subst (λ r. IsPlaced a r i d) (selections_role c name selections) placed in
    through (codes "ContestSelection") d (slice_get (contests (view a.tree)) i) contest ∙ ap (λ n. get n d) (sym (kinds.selections_name c name selections))
    ∙ sym is

-- what the objects at two positions have under a name
pub pair_one : (a : Judged) (c : Class) (i : ℕ) (d e : Data) (pair : MemberPair) → IsPlaced a (role_of_class c) i d → IsPairOf d e pair
    → is_selections (kind_of_member c pair.name.now) ≡ true → AreSelectionsAt a i (option_map (λ v. view v.now) pair.one)
pair_one a c i d e pair placed is = placed_selections a c pair.name.now i d (option_map (λ v. view v.now) pair.one) placed is.one

pub pair_other : (a : Judged) (c : Class) (i : ℕ) (d e : Data) (pair : MemberPair) → IsPlaced a (role_of_class c) i e → IsPairOf d e pair
    → is_selections (kind_of_member c pair.name.now) ≡ true → AreSelectionsAt a i (option_map (λ v. view v.now) pair.other)
pair_other a c i d e pair placed is = placed_selections a c pair.name.now i e (option_map (λ v. view v.now) pair.other) placed is.other

-- ---- the selections of a contest

entries_there : (d v : Data) → get (codes "ContestSelection") d ≡ Some v → entries_at (codes "ContestSelection") d ≡ entries_of v
entries_there d v e = rw e

at_contest : (o : Option Placed) (v : Data) (i : ℕ) → option_and_then (λ o. get (codes "ContestSelection") o.value) o ≡ Some v
    → option_map (λ (s : Placed). s.value) (option_and_then (λ o. slice_get (selections_of_contest o) i) o) ≡ slice_get (entries_of v) i
at_contest None v i e = cc
at_contest (Some o) v i e = sym (slice_get-map (λ (s : Placed). s.value) (selections_of_contest o) i)
    ∙ ap (λ ds. slice_get ds i) (values-placed_entries (codes "ContestSelection") o ∙ entries_there o.value v e)

-- the entries of the member are the selections of the contest at a position
pub selections_in : (a : Judged) (c : ℕ) (found : Option Data) (v : Data) (ds : List Data) → AreSelectionsAt a c found → found ≡ Some v → ds ≡ entries_of v
    → AreSelectionsIn a c ds
selections_in a c found v ds there is entries = subst (AreSelectionsIn a c) (sym entries)
    (λ i. at_contest (slice_get (contests (view a.tree)) c) v i (there ∙ is))

-- ---- among all selections

module _ (a : Judged) (c : ℕ) (ds : List Data) (are : AreSelectionsIn a c ds) (i : ℕ) (d : Data) (at : slice_get ds i ≡ Some d) where
  abbrev t : Data
  t = view a.tree

  -- the object of a selection
  object : (o : Placed) × (selection_of t c i ≡ Some o) × (o.value ≡ d)
  object = option_map-Some (λ (o : Placed). o.value) (selection_of t c i) d (are i ∙ at)

  -- it is one of the selections of the report
  pub stands_among : (o : Placed) × In o (objects family.Selection t) × (o.value ≡ d)
  stands_among = (object.0, inside, object.2)
    where
      inside : In object.0 (objects family.Selection t)
      inside =
          option_and_then_some (λ (x : Placed). slice_get (selections_of_contest x) i) (slice_get (contests t) c) object.0 object.1
          (λ x here there. In-flat_map selections_of_contest object.0 x (contests t) (in_at (contests t) c x here)
          (in_at (selections_of_contest x) i object.0 there))

  own_selection : (s : Option (ℕ × Placed)) (o : Placed) → option_and_then (if_of_contest c) s ≡ Some o → option_map (λ (x : ℕ × Placed). x.1) s ≡ Some o
  own_selection None o e = cc
  own_selection (Some s) o e = by (s.0 == c) e
    where
      by : (yes : Bool) → cond yes (Some s.1) None ≡ Some o → Some s.1 ≡ Some o
      by true e = e
      by false e = cc

  -- it stands as far after the first selection of its contest as in the contest
  pub stands_after : (start : ℕ) → StandFrom t c start → (o : Placed) × (slice_get (objects family.Selection t) (start + i) ≡ Some o) × (o.value ≡ d)
  stands_after start from =
      (object.0, sym (numbered_at t (start + i)) ∙ own_selection (slice_get (numbered_selections t) (start + i)) object.0 (from i ∙ object.1), object.2)

-- ---- the names of the selections of a contest have numbers

pub contest_named : (a b : Judged) (side : ComparedReport) (c : ℕ) (ds : List Data) → AreSelectionsIn (on_side side a b) c ds → AreNamed a b side ds
contest_named a b side c ds are d inside n is =
    let j = on_side side a b in
    let place = position_of ds d inside in
    let o = stands_among j c ds are place.0 d place.1 in
    selection_named a b side o.0 n o.1 (ap (name_of j.prefer (view j.tree)) o.2 ∙ is)

-- so what is decided of them by numbers is decided
pub contests_decide : (a b : Judged) (one other : Selections) → AreSelectionsIn a one.contest (map view one.values.now)
    → AreSelectionsIn b other.contest (map view other.values.now) → (answer : Bool)
    → Decides answer (numbered_map a b Left (map view one.values.now)) (numbered_map a b Right (map view other.values.now))
    → Decides answer (selection_map a.prefer (view a.tree) (map view one.values.now)) (selection_map b.prefer (view b.tree) (map view other.values.now))
contests_decide a b one other mine its answer told =
    let ds = map view one.values.now in
    let es = map view other.values.now in
    maps_decide a b ds es (contest_named a b Left one.contest ds mine) (contest_named a b Right other.contest es its) answer told

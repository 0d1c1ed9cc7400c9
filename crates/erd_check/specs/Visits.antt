-- What a walk over a report reports, in the order in which it visits the values, and what is known after it.
use Rattle.std.specs.Prelude.{◌≡◌, List, [], ◌∷◌, ◌++◌, Bool, false, ◌&&◌, map, length, IfSome, ⊤}
use Rattle.std.specs.List.{list_any}
use Rattle.std.specs.List.Sorted.{IsStrictlySortedBy}
use Rattle.std.specs.Option.{option_map_or}
use Rattle.erd_tables.specs.Texts.{text_cmp}
use Rattle.serde_json.specs.Data.{Data, null, boolean, number, string, array, object, Items, no_items, item, Members, no_members, member}
use Rattle.erd_tables.specs.declared.place.Step.{Step}
use Rattle.erd_tables.specs.declared.place.Step.TheVariants.{Name, At}
use Rattle.erd_tables.specs.declared.fault.Reason.{Reason}
use Rattle.erd_tables.specs.declared.fault.Fault.{Fault}
use Rattle.erd_check.specs.Paths.{fault_at}
use Rattle.erd_check.specs.Trees.{is_same_json}
use Rattle.erd_check.specs.Values.{names}
use Rattle.erd_check.specs.Wants.{scope_inside, want_of_name, entry_want, is_compared_set}
use Rattle.erd_tables.specs.declared.class.Role.TheVariants.{Report}
use Rattle.erd_check.specs.declared.want.Want.{Want}
use Rattle.erd_check.specs.declared.want.Want.TheVariants.{Object}
use Rattle.erd_check.specs.declared.want.Scope.{Scope}

-- The reasons as faults at one place.
abbrev pub faults_of : List Step → List Reason → List Fault
faults_of p = map (fault_at p)

-- What a walk reports of a value, given the value two steps above it, what is asked of it, whether it equals an earlier
-- entry of its set, and the value itself.
abbrev pub Telling : Type 0
Telling = Data → Want → Bool → Data → List Reason

-- What is reported of a value, or of entries or members, and of all values inside. Each is given the values two steps and
-- one step above it. For the report itself and its members, these are the report.
abbrev mutual
  pub told_at : Telling → Data → Data → List Step → Want → Bool → Data → List Fault
  told_at tells outer owner p w repeated null = faults_of p (tells outer w repeated null)
  told_at tells outer owner p w repeated (boolean b) = faults_of p (tells outer w repeated (boolean b))
  told_at tells outer owner p w repeated (number n) = faults_of p (tells outer w repeated (number n))
  told_at tells outer owner p w repeated (string s) = faults_of p (tells outer w repeated (string s))
  told_at tells outer owner p w repeated (array ds) =
      faults_of p (tells outer w repeated (array ds))
      ++ option_map_or (λ v. told_of_items tells owner (array ds) p v (is_compared_set w) [] ds) (entry_want w) []
  told_at tells outer owner p w repeated (object ms) =
      faults_of p (tells outer w repeated (object ms)) ++ told_of_members tells owner (object ms) p (scope_inside w (object ms)) ms

  pub told_of_items : Telling → Data → Data → List Step → Want → Bool → List Data → Items → List Fault
  told_of_items tells outer owner p w is_set earlier no_items = []
  told_of_items tells outer owner p w is_set earlier (item d ds) =
      told_at tells outer owner (p ++ At (length earlier) ∷ []) w (is_set && list_any (is_same_json d) earlier) d
      ++ told_of_items tells outer owner p w is_set (earlier ++ d ∷ []) ds

  pub told_of_members : Telling → Data → Data → List Step → Scope → Members → List Fault
  told_of_members tells outer owner p s no_members = []
  told_of_members tells outer owner p s (member k d ms) =
      option_map_or (λ v. told_at tells outer owner (p ++ Name k ∷ []) v false d) (want_of_name s k) [] ++ told_of_members tells outer owner p s ms

-- What the walk over a whole report reports.
abbrev pub told_of_report : Telling → Data → List Fault
told_of_report tells t = told_at tells t t [] (Object Report) false t

-- In each object that is walked, the members stand in the order of their names.
abbrev mutual
  pub IsInOrder : Want → Data → Type 0
  IsInOrder w null = ⊤
  IsInOrder w (boolean b) = ⊤
  IsInOrder w (number n) = ⊤
  IsInOrder w (string s) = ⊤
  IsInOrder w (array ds) = IfSome (entry_want w) (λ v. AreItemsInOrder v ds)
  IsInOrder w (object ms) = IsStrictlySortedBy text_cmp (names ms) × AreMembersInOrder (scope_inside w (object ms)) ms

  pub AreItemsInOrder : Want → Items → Type 0
  AreItemsInOrder w no_items = ⊤
  AreItemsInOrder w (item d ds) = IsInOrder w d × AreItemsInOrder w ds

  pub AreMembersInOrder : Scope → Members → Type 0
  AreMembersInOrder s no_members = ⊤
  AreMembersInOrder s (member k d ms) = IfSome (want_of_name s k) (λ v. IsInOrder v d) × AreMembersInOrder s ms

-- For each value that is visited, `Known` holds of the value and of what is asked of it.
abbrev mutual
  pub IsKnown : (Want → Data → Type 0) → Want → Data → Type 0
  IsKnown Known w null = Known w null
  IsKnown Known w (boolean b) = Known w (boolean b)
  IsKnown Known w (number n) = Known w (number n)
  IsKnown Known w (string s) = Known w (string s)
  IsKnown Known w (array ds) = Known w (array ds) × IfSome (entry_want w) (λ v. AreItemsKnown Known v ds)
  IsKnown Known w (object ms) = Known w (object ms) × AreMembersKnown Known (scope_inside w (object ms)) ms

  pub AreItemsKnown : (Want → Data → Type 0) → Want → Items → Type 0
  AreItemsKnown Known w no_items = ⊤
  AreItemsKnown Known w (item d ds) = IsKnown Known w d × AreItemsKnown Known w ds

  pub AreMembersKnown : (Want → Data → Type 0) → Scope → Members → Type 0
  AreMembersKnown Known s no_members = ⊤
  AreMembersKnown Known s (member k d ms) = IfSome (want_of_name s k) (λ v. IsKnown Known v d) × AreMembersKnown Known s ms

-- Nothing is told of a member, nor of the values inside it, wherever its object stands. The object, what is asked of the
-- member, and its value are given.
abbrev pub IsSilentMember : Telling → Data → Want → Data → Type 0
IsSilentMember tells owner w d = (outer : Data) (p : List Step) → told_at tells outer owner p w false d ≡ []

-- `Known` holds of the entries of an array of which this is asked, and of the values inside them.
abbrev pub AreEntriesKnown : (Want → Data → Type 0) → Want → Items → Type 0
AreEntriesKnown Known w ds = IfSome (entry_want w) (λ v. AreItemsKnown Known v ds)

-- In each object among the entries of an array of which this is asked, and inside them, the members stand in order.
abbrev pub AreEntriesInOrder : Want → Items → Type 0
AreEntriesInOrder w ds = IfSome (entry_want w) (λ v. AreItemsInOrder v ds)

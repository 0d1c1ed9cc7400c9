-- Other spellings of one report: other `@id` texts, and other orders of the entries of its sets.
use Rattle.std.specs.Prelude.{ℕ, zero, suc, ◌≡◌, ◌<◌, List, [], ◌∷◌, Bool, true, false, if◌then◌else◌, Option}
use Rattle.std.specs.Prelude.{Some, option_map, unwrap_or, map, find, Contains, swap, length, IsSomeAnd, IsTrue}
use Rattle.std.specs.List.{IsDistinct}
use Rattle.std.specs.Str.{bytes_eq}
use Rattle.serde_json.specs.Data.{Data, string, array, object, Items, no_items, item, Members, no_members, member}
use Rattle.serde_json.specs.View.{items_of}
use Rattle.erd_tables.specs.declared.class.Family.{Family}
use Rattle.erd_tables.specs.declared.class.Role.TheVariants as role
use Rattle.erd_tables.specs.declared.member.MemberKind.TheVariants as kind
use Rattle.erd_tables.specs.declared.place.Step.{Step}
use Rattle.erd_tables.specs.declared.place.Step.TheVariants.{Name, At}
use Rattle.erd_check.specs.Values.{list_of_items, entries_of}
use Rattle.erd_check.specs.Wants.{asked_at, scope_inside, want_of_name, entry_want, is_table_set}
use Rattle.erd_check.specs.declared.want.Scope.{Scope}
use Rattle.erd_check.specs.declared.want.Want.{Want}
use Rattle.erd_check.specs.declared.want.Want.TheVariants as want
use Rattle.erd_meaning.specs.Objects.{Placed, IsObject, id_of}

-- ---- renaming

-- Pairs of a text and the text that replaces it.
abbrev pub Renaming : Type 0
Renaming = List (List ℕ × List ℕ)

-- The text that replaces this one. A text that stands on the left of no pair is kept.
abbrev pub replaced_text : Renaming → List ℕ → List ℕ
replaced_text pairs s = unwrap_or (option_map (λ pair. pair.1) (find (λ pair. bytes_eq pair.0 s) pairs)) s

-- True where an `@id` or a reference is asked for.
abbrev pub is_id_text : Want → Bool
is_id_text (want.Reference f) = true
is_id_text (want.Member kind.Identity required) = true
is_id_text w = false

-- The value with each `@id` and each reference of the table replaced. Where nothing is asked, the value is kept.
abbrev mutual
  pub renamed_value : Renaming → Option Want → Data → Data
  renamed_value pairs (Some w) (string s) = if is_id_text w then string (replaced_text pairs s) else string s
  renamed_value pairs (Some w) (array ds) = array (renamed_items pairs (entry_want w) ds)
  renamed_value pairs (Some w) (object ms) = object (renamed_members pairs (scope_inside w (object ms)) ms)
  renamed_value pairs w d = d

  -- The entries of an array, each of them renamed.
  pub renamed_items : Renaming → Option Want → Items → Items
  renamed_items pairs w no_items = no_items
  renamed_items pairs w (item d ds) = item (renamed_value pairs w d) (renamed_items pairs w ds)

  -- The members of an object, each of them renamed.
  pub renamed_members : Renaming → Scope → Members → Members
  renamed_members pairs s no_members = no_members
  renamed_members pairs s (member k d ms) = member k (renamed_value pairs (want_of_name s k) d) (renamed_members pairs s ms)

-- The report with each `@id` and each reference of the table replaced.
abbrev pub renamed : Renaming → Data → Data
renamed pairs t = renamed_value pairs (Some (want.Object role.Report)) t

-- The texts that are replaced, in the order of the pairs.
abbrev pub old_texts : Renaming → List (List ℕ)
old_texts pairs = map (λ pair. pair.0) pairs

-- The texts that replace them, in the same order.
abbrev pub new_texts : Renaming → List (List ℕ)
new_texts pairs = map (λ pair. pair.1) pairs

-- Each `@id` of the report is among the old texts. The old texts are without repeats, and so are the new ones.
pub record IsRenaming (t : Data) (pairs : Renaming) : Type 0 where
  pub all : (f : Family) (o : Placed) (id : List ℕ) → IsObject t f o → id_of o.value ≡ Some id → Contains (old_texts pairs) id
  pub left : IsDistinct bytes_eq (old_texts pairs)
  pub right : IsDistinct bytes_eq (new_texts pairs)

-- ---- exchanging

-- The value with the change made to what stands at a place inside it. If nothing stands there, the value is kept.
abbrev mutual
  pub changed_at : (Data → Data) → List Step → Data → Data
  changed_at f [] d = f d
  changed_at f (Name n ∷ ss) (object ms) = object (member_changed f n ss ms)
  changed_at f (At i ∷ ss) (array ds) = array (item_changed f i ss ds)
  changed_at f (s ∷ ss) d = d

  -- The members with the change made inside the one that has this name.
  pub member_changed : (Data → Data) → List ℕ → List Step → Members → Members
  member_changed f n ss no_members = no_members
  member_changed f n ss (member k d ms) = if bytes_eq n k then member k (changed_at f ss d) ms else member k d (member_changed f n ss ms)

  -- The entries with the change made inside entry i.
  pub item_changed : (Data → Data) → ℕ → List Step → Items → Items
  item_changed f i ss no_items = no_items
  item_changed f zero ss (item d ds) = item (changed_at f ss d) ds
  item_changed f (suc i) ss (item d ds) = item d (item_changed f i ss ds)

-- The array with entries i and j exchanged. A value that is not an array is kept.
abbrev pub swapped : ℕ → ℕ → Data → Data
swapped i j (array ds) = array (items_of (swap (list_of_items ds) i j))
swapped i j d = d

-- The report with entries i and j of the array at the place exchanged.
abbrev pub exchanged : List Step → ℕ → ℕ → Data → Data
exchanged p i j t = changed_at (swapped i j) p t

-- An array that the table treats as a set stands at the place, and it has entries i and j.
abbrev pub HasEntries : Data → List Step → ℕ → ℕ → Type 0
HasEntries t p i j =
    IsSomeAnd (asked_at t p)
    (λ a. IsTrue (is_table_set a.want) × (i < length (entries_of a.value)) × (j < length (entries_of a.value)))

-- ---- one after another

-- One change to a report: a renaming, or an exchange of two entries of a set.
pub data Change : Type 0 where
  a_renaming : Renaming → Change
  an_exchange : List Step → ℕ → ℕ → Change

-- The change may be made to the report: a renaming as `IsRenaming` says, or an exchange as `HasEntries` says.
abbrev pub IsAllowed : Data → Change → Type 0
IsAllowed t (a_renaming pairs) = IsRenaming t pairs
IsAllowed t (an_exchange p i j) = HasEntries t p i j

-- The report after the change.
abbrev pub changed : Change → Data → Data
changed (a_renaming pairs) t = renamed pairs t
changed (an_exchange p i j) t = exchanged p i j t

-- u is t after these changes, one after another, and each change is allowed when it is made.
abbrev pub IsRearrangement : List Change → Data → Data → Type 0
IsRearrangement [] t u = t ≡ u
IsRearrangement (c ∷ cs) t u = IsAllowed t c × IsRearrangement cs (changed c t) u

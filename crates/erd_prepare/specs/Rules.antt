-- What a step does to a report, and what it tells of it. One recursion does every step; the member table leads it where it asks
-- something. Each place is that of the given report.
use Rattle.std.specs.Prelude.{ℕ, ◌+◌, List, [], ◌∷◌, ◌++◌, Bool, if◌then◌else◌, Option, Some, None, option_and_then, unwrap_or, map, String, string_bytes}
use Rattle.std.specs.declared.alloc.Global.{Global}
use Rattle.serde_json.specs.Data.{Data, null, boolean, number, string, array, object, Items, no_items, item, Members, no_members, member, put}
use Rattle.serde_json.specs.Find.{get}
use Rattle.serde_json.specs.View.{view}
use Rattle.serde_json.specs.declared.value.Value.{Value}
use Rattle.erd_tables.specs.declared.place.Step.{Step}
use Rattle.erd_tables.specs.declared.place.Step.TheVariants.{Name, At}
use Rattle.erd_check.specs.Wants.{entry_want, scope_inside, want_of_name}
use Rattle.erd_check.specs.declared.want.Scope.{Scope}
use Rattle.erd_check.specs.declared.want.Scope.TheVariants as scope
use Rattle.erd_check.specs.declared.want.Want.{Want}

-- A step. It says what decides what is asked of the members of a value. Each other part is given the place: the other form that
-- a value gets, if any; whether an object becomes a list of itself; whether a member goes, and an entry of an array of which
-- this is asked; and the members that are put into an object.
pub record Rule : Type 0 where
  pub scopes : Option Want → Data → Scope
  pub shapes : List Step → Option Want → Data → Option Data
  pub wraps : List Step → Option Want → Data → Bool
  pub drops : List Step → Scope → List ℕ → Data → Bool
  pub lets_go : List Step → Option Want → Data → Bool
  pub puts : List Step → Option Want → Data → List (List ℕ × Data)

-- What is told of a place: what stood there, and what stands there now; none if nothing stood or stands there.
pub record Told : Type 0 where
  pub place : List Step
  pub before : Option Data
  pub after : Option Data

-- The scope of the members of a value of which this is asked, or nothing.
abbrev pub scope_in : Option Want → Data → Scope
scope_in None d = scope.Nothing
scope_in (Some w) d = scope_inside w d

-- What is asked of the entries of an array of which this is asked, or nothing.
abbrev pub entry_in : Option Want → Option Want
entry_in w = option_and_then entry_want w

-- The array of one value.
abbrev pub list_of_one : Data → Data
list_of_one d = array (item d no_items)

-- The members with these put in, one after the other.
abbrev pub put_all : List (List ℕ × Data) → Members → Members
put_all [] ms = ms
put_all (p ∷ ps) ms = put_all ps (put p.0 p.1 ms)

-- The names and values of members that are put in, as they are written.
abbrev pub seen : List (String Global × Value) → List (List ℕ × Data)
seen ms = map (λ (m : String Global × Value). (string_bytes m.0, view m.1)) ms

-- ---- the report after the step

-- The object with the members that the step puts in, given those that it keeps.
abbrev pub object_with : Rule → List Step → Option Want → Members → Members → Data
object_with r p w ms kept = object (put_all (r.puts p w (object ms)) kept)

-- The value after the step. What has another form, or goes, is not looked into, and what is put in stays as it is.
abbrev mutual
  pub prepared : Rule → List Step → Option Want → Data → Data
  prepared r p w null = unwrap_or (r.shapes p w null) null
  prepared r p w (boolean b) = unwrap_or (r.shapes p w (boolean b)) (boolean b)
  prepared r p w (number n) = unwrap_or (r.shapes p w (number n)) (number n)
  prepared r p w (string s) = unwrap_or (r.shapes p w (string s)) (string s)
  prepared r p w (array ds) = unwrap_or (r.shapes p w (array ds)) (array (prepared_items r p w 0 ds))
  prepared r p w (object ms) =
      unwrap_or (r.shapes p w (object ms))
      (if r.wraps p w (object ms) then list_of_one (object_with r p (entry_in w) ms (prepared_members r p (r.scopes (entry_in w) (object ms)) ms))
      else object_with r p w ms (prepared_members r p (r.scopes w (object ms)) ms))

  -- The entries of the array at a place, from position i on.
  pub prepared_items : Rule → List Step → Option Want → ℕ → Items → Items
  prepared_items r p w i no_items = no_items
  prepared_items r p w i (item d ds) =
      if r.lets_go (p ++ At i ∷ []) w d then prepared_items r p w (i + 1) ds
      else item (prepared r (p ++ At i ∷ []) (entry_in w) d) (prepared_items r p w (i + 1) ds)

  -- The members of the object of this scope at a place.
  pub prepared_members : Rule → List Step → Scope → Members → Members
  prepared_members r p s no_members = no_members
  prepared_members r p s (member k d ms) =
      if r.drops (p ++ Name k ∷ []) s k d then prepared_members r p s ms
      else member k (prepared r (p ++ Name k ∷ []) (want_of_name s k) d) (prepared_members r p s ms)

-- An object after the step, that is no list of itself.
abbrev pub prepared_object : Rule → List Step → Option Want → Members → Data
prepared_object r p w ms = object_with r p w ms (prepared_members r p (r.scopes w (object ms)) ms)

-- ---- what is told

-- Told of a value that went, or got another form.
abbrev pub told_change : List Step → Data → Option Data → Told
told_change p d after = record { place = p; before = Some d; after = after }

-- Told of members that are put into the object at a place.
abbrev pub told_puts : List Step → Data → List (List ℕ × Data) → List Told
told_puts p d ps = map (λ (m : List ℕ × Data). record { place = p ++ Name m.0 ∷ []; before = get m.0 d; after = Some m.1 }) ps

-- Told of a value: of its other form alone, or else of what is in it.
abbrev pub told_shape : List Step → Data → Option Data → List Told → List Told
told_shape p d None inner = inner
told_shape p d (Some e) inner = told_change p d (Some e) ∷ []

-- All that the step tells of.
abbrev mutual
  pub told : Rule → List Step → Option Want → Data → List Told
  told r p w null = told_shape p null (r.shapes p w null) []
  told r p w (boolean b) = told_shape p (boolean b) (r.shapes p w (boolean b)) []
  told r p w (number n) = told_shape p (number n) (r.shapes p w (number n)) []
  told r p w (string s) = told_shape p (string s) (r.shapes p w (string s)) []
  told r p w (array ds) = told_shape p (array ds) (r.shapes p w (array ds)) (told_items r p w 0 ds)
  told r p w (object ms) =
      told_shape p (object ms) (r.shapes p w (object ms))
      (if r.wraps p w (object ms) then told_change p (object ms) (Some (list_of_one (object ms)))
      ∷ (told_members r p (r.scopes (entry_in w) (object ms)) ms ++ told_puts p (object ms) (r.puts p (entry_in w) (object ms)))
      else told_members r p (r.scopes w (object ms)) ms ++ told_puts p (object ms) (r.puts p w (object ms)))

  pub told_items : Rule → List Step → Option Want → ℕ → Items → List Told
  told_items r p w i no_items = []
  told_items r p w i (item d ds) =
      (if r.lets_go (p ++ At i ∷ []) w d then told_change (p ++ At i ∷ []) d None ∷ [] else told r (p ++ At i ∷ []) (entry_in w) d)
      ++ told_items r p w (i + 1) ds

  pub told_members : Rule → List Step → Scope → Members → List Told
  told_members r p s no_members = []
  told_members r p s (member k d ms) =
      (if r.drops (p ++ Name k ∷ []) s k d then told_change (p ++ Name k ∷ []) d None ∷ [] else told r (p ++ Name k ∷ []) (want_of_name s k) d)
      ++ told_members r p s ms

-- Told of what is in an object, that is no list of itself.
abbrev pub told_object : Rule → List Step → Option Want → Members → List Told
told_object r p w ms = told_members r p (r.scopes w (object ms)) ms ++ told_puts p (object ms) (r.puts p w (object ms))

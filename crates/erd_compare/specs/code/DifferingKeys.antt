-- All keys at which two reports differ in a part, and a walk in step by ranks that finds them one at a time.
use Rattle.std.specs.Prelude.{ℕ, ◌+◌, ◌-◌, ◌≡◌, ◌≢◌, Bool, length, List, [], ◌∷◌, ◌++◌, drop, Option, Some, None}
use Rattle.std.specs.Option.{option_cmp, option_copied}
use Rattle.std.specs.declared.cmp.Ordering.{Ordering}
use Rattle.std.specs.declared.cmp.Ordering.TheVariants.{Less}
use Rattle.serde_json.specs.View.{view}
use Rattle.erd_meaning.specs.Judged.{Judged}
use Rattle.erd_meaning.specs.Keys.{key_cmp}
use Rattle.erd_meaning.specs.declared.keys.key.Key.{Key}
use Rattle.erd_compare.specs.code.DifferingNames.{AreDiffering, IsWalked}
use Rattle.erd_compare.specs.code.DifferingWays.{AreWays, hows_of}
use Rattle.erd_compare.specs.code.KeyedDifferences.{map_of, rising_in_role, role_of_part}
use Rattle.erd_compare.specs.declared.difference.Part.{Part}
use Rattle.erd_compare.specs.declared.first.key_steps.Ranks.{Ranks}
use Rattle.erd_compare.specs.declared.first.keyed_ways.KeyedWays.{KeyedWays}
use Rattle.erd_compare.specs.declared.first.keyed_ways.Rising.{Rising}
use Rattle.erd_compare.specs.declared.objects.ways.Ways.{Ways}
use Rattle.erd_compare.specs.declared.objects.ways.Ways.TheVariants.{OnlyLeft, OnlyRight}

-- How many ranks are left.
abbrev pub ranks_left : Rising → Ranks → ℕ
ranks_left rising at = (length rising.ones.now - at.one) + (length rising.others.now - at.other)

-- Only one report has an object with this key, the ways say which one, and these are the ranks after it.
pub record IsPassedKey (k : Option Key) (h : Ways) (i j : ℕ) (after : Ranks) (d : KeyedWays) : Type 0 where
  pub its_key : option_copied d.key ≡ k
  pub its_ways : d.ways ≡ h
  pub at_one : after.one ≡ i
  pub at_other : after.other ≡ j

-- The answer is such a difference.
abbrev pub PassesKey : Option Key → Ways → ℕ → ℕ → Ranks → Option KeyedWays → Type 0
PassesKey k h i j after None = ⊥
PassesKey k h i j after (Some d) = IsPassedKey k h i j after d

-- The lesser of two keys, which compare like this, is passed by.
abbrev pub PassesLesser : Ordering → Option Key → Option Key → Ranks → Ranks → Option KeyedWays → Type 0
PassesLesser Less k l before after d = PassesKey k OnlyLeft (before.one + 1) before.other after d
PassesLesser o k l before after d = PassesKey l OnlyRight before.one (before.other + 1) after d

-- The answer at ranks where the reports have these keys, if they have any there.
abbrev pub TellsStep : Option (Option Key) → Option (Option Key) → Ranks → Ranks → Option KeyedWays → Type 0
TellsStep None None before after d = d ≡ None
TellsStep (Some k) None before after d = PassesKey k OnlyLeft (before.one + 1) before.other after d
TellsStep None (Some l) before after d = PassesKey l OnlyRight before.one (before.other + 1) after d
TellsStep (Some k) (Some l) before after d = PassesLesser (option_cmp key_cmp k l) k l before after d

-- The rising keys of a report in a part, from a rank on.
abbrev pub keys_from : Judged → Part → ℕ → List (Option Key)
keys_from a p i = drop i (rising_in_role a.prefer (view a.tree) (role_of_part p))

-- These keys were found, and those from these ranks on are left.
abbrev pub AreKeysFound : Judged → Judged → Part → List (Option Key) → Ranks → Type 0
AreKeysFound a b p found at = IsWalked (option_cmp key_cmp) (map_of a p) (map_of b p) found (keys_from a p at.one) (keys_from b p at.other)

-- The next key was found, the reports differ there in these ways, and those from these ranks on are left.
pub record IsNextKey (all : Bool) (a b : Judged) (p : Part) (found : List (Option Key)) (at : Ranks) (d : KeyedWays) : Type 0 where
  pub ways : AreWays all (map_of a p (option_copied d.key)) (map_of b p (option_copied d.key)) d.ways
  pub some : hows_of d.ways ≢ []
  pub walked : AreKeysFound a b p (found ++ (option_copied d.key ∷ [])) at

-- The walk goes on to the next key at which the reports differ, or to the end.
abbrev pub GoesOnToKey : Bool → Judged → Judged → Part → List (Option Key) → Ranks → Option KeyedWays → Type 0
GoesOnToKey all a b p found at None = AreDiffering (option_cmp key_cmp) (map_of a p) (map_of b p) found
GoesOnToKey all a b p found at (Some d) = IsNextKey all a b p found at d

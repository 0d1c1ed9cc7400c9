-- What holds of every step.
use Rattle.std.specs.Prelude.{◌≡◌, List, [], ◌++◌, true, Option, Some}
use Rattle.serde_json.specs.Data.{Data}
use Rattle.erd_tables.specs.declared.place.Step.{Step}
use Rattle.erd_check.specs.declared.want.Want.{Want}
use Rattle.erd_prepare.specs.Nulls.{nulls}
use Rattle.erd_prepare.specs.Places.{is_untold, place_after, value_at}
use Rattle.erd_prepare.specs.Rules.{Rule, prepared, told}

-- Nothing changes but what is told: at a place that no told place is at, in or around, there stands afterwards what stood there
-- before, or nothing if nothing stood there. An entry has moved up by the told entries before it.
abbrev pub UntoldStays : Type 0
UntoldStays =
    (r : Rule) (p : List Step) (w : Option Want) (d : Data) (q : List Step) → is_untold (p ++ q) (told r p w d) ≡ true
    → value_at (place_after r p w (Some d) q) (prepared r p w d) ≡ value_at q d

-- A step that tells of nothing changed nothing.
abbrev pub UntoldIsUnchanged : Type 0
UntoldIsUnchanged = (r : Rule) (p : List Step) (w : Option Want) (d : Data) → told r p w d ≡ [] → prepared r p w d ≡ d

-- Once nulls are taken out, there is nothing more to take out.
abbrev pub NullsAreGone : Type 0
NullsAreGone = (p : List Step) (w : Option Want) (d : Data) → told nulls p w (prepared nulls p w d) ≡ []

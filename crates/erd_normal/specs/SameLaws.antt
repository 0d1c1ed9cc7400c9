-- The laws of reports that say the same, as statements.
use Rattle.std.specs.Prelude.{ℕ, List, ◌∷◌, ◌≡◌, Bool, false, Some, IsTrue}
use Rattle.serde_json.specs.Data.{Data, string}
use Rattle.erd_tables.specs.Table.{is_envelope_name}
use Rattle.erd_tables.specs.declared.class.Family.{Family}
use Rattle.erd_tables.specs.declared.fault.Reason.{Reason}
use Rattle.erd_tables.specs.declared.place.Step.{Step}
use Rattle.erd_tables.specs.declared.place.Step.TheVariants.{Name}
use Rattle.erd_check.specs.Faults.{ShapeFault, is_reference}
use Rattle.erd_check.specs.Trees.{IsTree}
use Rattle.erd_check.specs.Wants.{Asked, asked_at}
use Rattle.erd_meaning.specs.Accepted.{IsAccepted}
use Rattle.erd_meaning.specs.Keys.{Preference}
use Rattle.erd_meaning.specs.LaterFaults.{RepeatsId}
use Rattle.erd_meaning.specs.SelectionNames.{key_named}
use Rattle.erd_normal.specs.Rearranged.{Change, HasEntries, IsRearrangement, IsRenaming, Renaming, exchanged, renamed}
use Rattle.erd_normal.specs.SaysTheSame.{SaysTheSame}

-- Each report says what it says.
abbrev pub SaysItself : Type 0
SaysItself = (t : Data) → SaysTheSame t t

-- If u says what t says, t says what u says.
abbrev pub SaysBack : Type 0
SaysBack = (t u : Data) → SaysTheSame t u → SaysTheSame u t

-- If v says what t says, and u what v says, u says what t says.
abbrev pub SaysInTurn : Type 0
SaysInTurn = (t v u : Data) → IsTree t → IsTree v → IsTree u → SaysTheSame t v → SaysTheSame v u → SaysTheSame t u

-- A report with two entries of a set exchanged says the same.
abbrev pub ExchangedSaysTheSame : Type 0
ExchangedSaysTheSame = (t : Data) (p : List Step) (i j : ℕ) → IsTree t → HasEntries t p i j → SaysTheSame t (exchanged p i j t)

-- A reference of the report is this text.
pub record IsUsed (t : Data) (s : List ℕ) : Type 0 where
  pub place : List Step
  pub asked : Asked
  pub stands : asked_at t place ≡ Some asked
  pub reference : IsTrue (is_reference asked.want)
  pub text : asked.value ≡ string s

-- In two reports that say the same, references that stand for one another name objects with one key.
abbrev pub ReferencesNameTheSame : Type 0
ReferencesNameTheSame =
    (π : Preference) (t u : Data) → IsTree t → IsTree u → IsAccepted π t → (h : SaysTheSame t u) (f : Family) (s s' : List ℕ)
    → IsUsed t s → IsUsed u s' → s' ≡ h.there s → s ≡ h.back s' → key_named π t f s ≡ key_named π u f s'

-- An accepted report with its `@id`s renamed says the same.
abbrev pub RenamedSaysTheSame : Type 0
RenamedSaysTheSame =
    (π : Preference) (t : Data) (pairs : Renaming) → IsTree t → IsAccepted π t → IsRenaming t pairs → SaysTheSame t (renamed pairs t)

-- Each rearrangement of an accepted report says the same.
abbrev pub RearrangedSaysTheSame : Type 0
RearrangedSaysTheSame =
    (π : Preference) (t u : Data) (changes : List Change) → IsTree t → IsAccepted π t → IsRearrangement changes t u → SaysTheSame t u

-- ---- acceptance

-- The place lies in a member of the report's envelope.
abbrev pub begins_in_envelope : List Step → Bool
begins_in_envelope (Name n ∷ p) = is_envelope_name n
begins_in_envelope p = false

-- The envelope of the report has no fault of shape.
abbrev pub HasSoundEnvelope : Data → Type 0
HasSoundEnvelope u = (p : List Step) (r : Reason) → IsTrue (begins_in_envelope p) → ¬ ShapeFault u p r

-- No object of the report has the `@id` of an earlier one, of whatever family.
abbrev pub HasDistinctIds : Data → Type 0
HasDistinctIds u = (p : List Step) → ¬ RepeatsId u p

-- Under every preference, a tree that says the same as an accepted report is accepted too, if its envelope has no fault of
-- shape and no two of its objects have one `@id`.
abbrev pub SameIsAccepted : Type 0
SameIsAccepted =
    (π : Preference) (t u : Data) → IsTree t → IsTree u → IsAccepted π t → SaysTheSame t u → HasSoundEnvelope u → HasDistinctIds u → IsAccepted π u

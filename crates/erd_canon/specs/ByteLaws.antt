-- The laws of canonical bytes and of comparisons, as statements.
use Rattle.std.specs.Prelude.{ℕ, ◌≡◌, ◌↔◌, List, Option, None}
use Rattle.serde_json.specs.Data.{Data}
use Rattle.erd_meaning.specs.Keys.{Preference}
use Rattle.erd_meaning.specs.Records.{meaning}
use Rattle.erd_compare.specs.declared.difference.Difference.{Difference}
use Rattle.erd_normal.specs.SaysTheSame.{SaysTheSame}
use Rattle.erd_canon.specs.Bytes.{IsAcceptedReport, IsCanonicalBytes, IsTreeOf}
use Rattle.erd_canon.specs.Headline.{IsOwnForm, KeepsForm, TellsMeanings}

-- Two reports have equal canonical bytes if and only if they mean the same.
abbrev pub OneFormForOneMeaning : Type 0
OneFormForOneMeaning = (π : Preference) (b c : List ℕ) → IsCanonicalBytes π b c → TellsMeanings π b c

-- All canonical bytes are their own canonical bytes, and they have no others.
abbrev pub IsItsOwnForm : Type 0
IsItsOwnForm = (π : Preference) (b c : List ℕ) → IsCanonicalBytes π b c → IsOwnForm π c

-- A rearranged report has the same canonical bytes as before.
abbrev pub SameFormWhenRearranged : Type 0
SameFormWhenRearranged = (π : Preference) (b c : List ℕ) → IsCanonicalBytes π b c → KeepsForm π b c

-- Under every preference that accepts both reports, the answer is none if and only if the reports mean the same.
abbrev pub AgreesUnderEach : List ℕ → List ℕ → Option Difference → Type 0
AgreesUnderEach left right found =
    (ρ : Preference) (t u : Data) → IsAcceptedReport ρ left t → IsAcceptedReport ρ right u → (found ≡ None) ↔ (meaning ρ t ≡ meaning ρ u)

-- The answer is none if and only if the right report says the same as the left one.
abbrev pub TellsWhatIsSaid : List ℕ → List ℕ → Option Difference → Type 0
TellsWhatIsSaid left right found = (t u : Data) → IsTreeOf left t → IsTreeOf right u → (found ≡ None) ↔ SaysTheSame t u

-- The headline, in one record. Two accepted reports have equal canonical bytes if and only if they mean the same, and if and
-- only if they say the same. Canonical bytes are accepted, mean what the report means, and are their own canonical bytes.
-- Renaming identifiers or reordering the entries of sets changes no byte.
use Rattle.std.specs.Prelude.{ℕ, ◌≡◌, ◌↔◌, List}
use Rattle.serde_json.specs.Data.{Data}
use Rattle.erd_meaning.specs.Keys.{Preference}
use Rattle.erd_meaning.specs.Records.{meaning}
use Rattle.erd_normal.specs.Rearranged.{Change, IsRearrangement}
use Rattle.erd_normal.specs.SaysTheSame.{SaysTheSame}
use Rattle.erd_canon.specs.Bytes.{IsAcceptedReport, IsCanonicalBytes, IsTreeOf}

-- The bytes b and c are accepted reports that mean the same.
pub record MeanTheSame (π : Preference) (b c : List ℕ) : Type 0 where
  pub left : Data
  pub right : Data
  pub left_accepted : IsAcceptedReport π b left
  pub right_accepted : IsAcceptedReport π c right
  pub same : meaning π left ≡ meaning π right

-- The bytes c equal the canonical bytes of any report if and only if that report means the same as the one in b.
abbrev pub TellsMeanings : Preference → List ℕ → List ℕ → Type 0
TellsMeanings π b c =
    (b2 c2 : List ℕ) (t t2 : Data) → IsCanonicalBytes π b2 c2 → IsTreeOf b t → IsTreeOf b2 t2 → (c ≡ c2) ↔ (meaning π t ≡ meaning π t2)

-- The bytes c equal the canonical bytes of any report if and only if that report says the same as the one in b.
abbrev pub TellsSayings : Preference → List ℕ → List ℕ → Type 0
TellsSayings π b c =
    (b2 c2 : List ℕ) (t t2 : Data) → IsCanonicalBytes π b2 c2 → IsTreeOf b t → IsTreeOf b2 t2 → (c ≡ c2) ↔ SaysTheSame t t2

-- The bytes are their own canonical bytes, and they have no others.
abbrev pub IsOwnForm : Preference → List ℕ → Type 0
IsOwnForm π c = IsCanonicalBytes π c c × ((d : List ℕ) → IsCanonicalBytes π c d → d ≡ c)

-- The bytes c are the canonical bytes of every input whose tree is a rearrangement of the report in b.
abbrev pub KeepsForm : Preference → List ℕ → List ℕ → Type 0
KeepsForm π b c =
    (d : List ℕ) (t u : Data) (changes : List Change) → IsTreeOf b t → IsTreeOf d u → IsRearrangement changes t u → IsCanonicalBytes π d c

-- The headline for one report b and its canonical bytes c: their form; that they are accepted, with the meaning of the report;
-- that equal bytes are equal meanings, and are reports that say the same; that they are their own form; and that no
-- rearrangement of the report changes them.
pub record Headline (π : Preference) (b c : List ℕ) : Type 0 where
  pub form : IsCanonicalBytes π b c
  pub accepted : MeanTheSame π b c
  pub equal_bytes : TellsMeanings π b c
  pub equal_sayings : TellsSayings π b c
  pub own_form : IsOwnForm π c
  pub rearranged : KeepsForm π b c

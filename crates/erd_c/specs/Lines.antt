-- What the call for a command line tells its caller.
use Rattle.std.specs.Prelude.{◌≡◌, ◌≢◌, ◌⊎◌, ◌++◌, ◌∷◌, ℕ, zero, suc, List, [], Option, Some, None, All, length, codes}
use Rattle.std.specs.Str.{IsUtf8}
use Rattle.erd_canon.specs.LineAnswers.{IsLineData}
use Rattle.erd_c.specs.Told.{HasNoText, IsPut}
use Rattle.erd_c.specs.declared.call_result.Told.{Told}

-- The words with this byte before the first of them, or with a first word of this byte alone if there are none.
abbrev pub begun_with : ℕ → List (List ℕ) → List (List ℕ)
begun_with byte [] = (byte ∷ []) ∷ []
begun_with byte (word ∷ words) = (byte ∷ word) ∷ words

-- The words in bytes. Each zero byte ends a word, and the end of the bytes ends a word that is not empty.
abbrev pub words_in : List ℕ → List (List ℕ)
words_in [] = []
words_in (zero ∷ bytes) = [] ∷ words_in bytes
words_in (suc n ∷ bytes) = begun_with (suc n) (words_in bytes)

-- Each word is UTF-8.
abbrev pub AreTexts : List (List ℕ) → Type 0
AreTexts words = All IsUtf8 words

-- The bytes of a command line are answered with this exit status and this text: its words as the command line is, or, if a
-- word is not UTF-8, as words are that are no text.
abbrev pub IsWordsAnswer : List ℕ → Option ℕ → List ℕ → Type 0
IsWordsAnswer bytes status text =
    (AreTexts (words_in bytes) × IsLineData (words_in bytes) status text)
    ⊎ ((¬ AreTexts (words_in bytes)) × (status ≡ Some 3) × (text ≡ codes "the arguments are not text" ++ 10 ∷ []))

-- The number that tells what a text is: the exit status of the program, or 1 for a request.
abbrev pub line_number : Option ℕ → ℕ
line_number None = 1
line_number (Some status) = status

-- The call tells some exit status by its number and some text by its length, and these answer the bytes. The text is put into the
-- room if it fits.
pub record IsLineTold (bytes : List ℕ) (told : Told) (before after : List ℕ) : Type 0 where
  pub status : Option ℕ
  pub text : List ℕ
  pub answers : IsWordsAnswer bytes status text
  pub number : told.outcome ≡ line_number status
  pub count : told.length ≡ length text
  pub put : IsPut text before after

-- All that the call for a command line tells: an answer, or 4 and no text if it is out of memory.
pub record IsLineCall (bytes : List ℕ) (told : Told) (before after : List ℕ) : Type 0 where
  pub answered : told.outcome ≢ 4 → IsLineTold bytes told before after
  pub silent : told.outcome ≡ 4 → HasNoText told before after

-- What a call of the C library tells its caller.
use Rattle.std.specs.Prelude.{◌≡◌, ◌≤◌, ◌<◌, ◌⊎◌, ◌↔◌, ◌++◌, ℕ, List, Bool, true, false, Some, None, length, drop}
use Rattle.std.specs.Str.{IsUtf8}
use Rattle.erd_meaning.specs.Keys.{Preference}
use Rattle.erd_canon.specs.Bytes.{IsCanonicalBytes}
use Rattle.erd_canon.specs.Limits.{most_bytes}
use Rattle.erd_canon.specs.Run.{IsToldFaults, IsToldNotJson}
use Rattle.erd_canon.specs.Statuses.{outcome_status}
use Rattle.erd_canon.specs.declared.data.piece.Piece.{Piece}
use Rattle.erd_canon.specs.declared.data.piece.Told.{Told as PieceTold}
use Rattle.erd_canon.specs.declared.engines.outcome.Outcome.{Outcome}
use Rattle.erd_canon.specs.declared.engines.outcome.Outcome.TheVariants.{Good, Bad, NotJson}
use Rattle.erd_c.specs.declared.call_result.Told.{Told}
use Rattle.erd_c.specs.declared.call_result.Wanted.{Wanted}

-- The preference that a call is given: this text if the flag is set, and otherwise none.
abbrev pub preference : Bool → List ℕ → Preference
preference false text = None
preference true text = Some text

-- The text is the canonical bytes of the report, or the lines that say why the bytes are refused, and the outcome says
-- which.
abbrev pub HasCanonicalText : Preference → List ℕ → Outcome → List ℕ → Type 0
HasCanonicalText π bytes Good text = IsCanonicalBytes π bytes text
HasCanonicalText π bytes Bad text = IsToldFaults π bytes text
HasCanonicalText π bytes NotJson text = IsToldNotJson bytes text

-- The text is at the front of the room if it fits, and the rest of the room is as before. If it does not fit, the room is as
-- before.
pub record IsPut (text before after : List ℕ) : Type 0 where
  pub fits : length text ≤ length before → after ≡ text ++ drop (length text) before
  pub too_long : length before < length text → after ≡ before

-- The call tells the outcome by its exit status and the text by its length, and the text is put into the room if it fits.
pub record IsTelling (outcome : Outcome) (text : List ℕ) (told : Told) (before after : List ℕ) : Type 0 where
  pub status : told.outcome ≡ outcome_status outcome
  pub count : told.length ≡ length text
  pub put : IsPut text before after

-- The call tells some outcome and some text, and these two are an answer.
pub record IsAnswerTold (Answers : Outcome → List ℕ → Type 0) (told : Told) (before after : List ℕ) : Type 0 where
  pub outcome : Outcome
  pub text : List ℕ
  pub answers : Answers outcome text
  pub telling : IsTelling outcome text told before after

-- The call has no text: its length is 0, and the room is as before.
pub record HasNoText (told : Told) (before after : List ℕ) : Type 0 where
  pub count : told.length ≡ 0
  pub kept : after ≡ before

-- The arguments of a call are wrong: the preference is not UTF-8, or the longest report has more bytes than a run reads.
abbrev pub IsWrong : Bool → List ℕ → ℕ → Type 0
IsWrong prefers prefer longest = ((prefers ≡ true) × ¬ IsUtf8 prefer) ⊎ (most_bytes < longest)

-- All that a call tells. With an outcome of 0, 1 or 2 it tells an answer under the preference. With 3 or 4 it has no text. It is
-- 3 if and only if the arguments are wrong.
pub record IsCall (Answers : Preference → Outcome → List ℕ → Type 0) (prefers : Bool) (prefer : List ℕ) (longest : ℕ) (told : Told)
    (before after : List ℕ) : Type 0 where
  pub answered : told.outcome < 3 → IsAnswerTold (Answers (preference prefers prefer)) told before after
  pub silent : 3 ≤ told.outcome → HasNoText told before after
  pub wrong : (told.outcome ≡ 3) ↔ IsWrong prefers prefer longest
  pub known : told.outcome ≤ 4

-- The piece of a list that is wanted.
abbrev pub piece_of : Wanted → Piece
piece_of wanted = record { first = wanted.first; most = wanted.most; enough_bytes = wanted.enough_bytes }

-- The call tells this of the list, and keeps what is wanted.
pub record IsToldOf (told : PieceTold) (before after : Wanted) : Type 0 where
  pub count : after.told ≡ told.count
  pub all : after.all ≡ told.all
  pub piece : piece_of after ≡ piece_of before
  pub prefers : after.prefers ≡ before.prefers

-- The call tells of no list.
abbrev pub IsToldNothing : Wanted → Wanted → Type 0
IsToldNothing before after = IsToldOf (record { count = 0; all = 0 }) before after

-- The call tells some outcome, some text and this of its list, and these are an answer.
pub record IsPieceTold (Answers : Piece → Outcome → PieceTold → List ℕ → Type 0) (before after : Wanted) (outcome : Outcome) (text : List ℕ) : Type 0 where
  pub told : PieceTold
  pub telling : IsToldOf told before after
  pub answers : Answers (piece_of before) outcome told text

-- All that a call tells that is asked for a piece of a list: with 3 or 4 it tells of no list.
pub record IsPieceCall (Answers : Preference → Piece → Outcome → PieceTold → List ℕ → Type 0) (prefer : List ℕ) (longest : ℕ) (wanted asked : Wanted)
    (told : Told) (before after : List ℕ) : Type 0 where
  pub call : IsCall (λ π. IsPieceTold (Answers π) wanted asked) wanted.prefers prefer longest told before after
  pub silent : 3 ≤ told.outcome → IsToldNothing wanted asked

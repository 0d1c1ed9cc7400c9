-- From what the engines promise of their devices to the bytes that these hold, and from an answer to what a call tells of it.
use Rattle.std.proofs.Common.{◌≡◌, ◌<◌, Bool, ◌≢◌, ℕ, List, [], ◌++◌, Option, Some, None, Result, Ok, Err, IfOk, IfErr, refl, sym, subst, ap, ◌∙◌, append-nil}
use Rattle.std.proofs.Common.{arith}
use Rattle.std.specs.Io.KnownBytes.{Appends}
use Rattle.erd_meaning.specs.Keys.{Preference}
use Rattle.erd_canon.specs.Reading.{IsReadWhole}
use Rattle.erd_canon.specs.Run.{IsAnswered, IsWholeRun}
use Rattle.erd_canon.specs.declared.engines.outcome.Outcome.{Outcome}
use Rattle.erd_canon.specs.declared.engines.outcome.Outcome.TheVariants.{Good, Bad, NotJson}
use Rattle.erd_canon.specs.Statuses.{outcome_status}
use Rattle.erd_canon.specs.declared.data.piece.Piece.{Piece}
use Rattle.erd_canon.specs.declared.data.piece.PieceAnswer.{PieceAnswer}
use Rattle.erd_canon.specs.declared.data.piece.Told.{Told as PieceTold}
use Rattle.erd_c.specs.Told.{HasCanonicalText, HasNoText, IsCall, IsPieceCall, IsPieceTold, IsTelling, IsToldNothing, IsToldOf, IsWrong, piece_of, preference}
use Rattle.erd_c.specs.declared.call_result.Told.{Told}
use Rattle.erd_c.specs.declared.call_result.Wanted.{Wanted}

-- a reader of these bytes that is at its end gave them
all_came : (bytes given came : List ℕ) (limit : ℕ) (after : Option (List ℕ)) → given ≡ bytes → IsReadWhole limit (Some given) after came → came ≡ bytes
all_came bytes given came limit None same whole = absurd whole.came
all_came bytes given came limit (Some rest) same whole = sym (whole.came ∙ ap (λ xs. came ++ xs) whole.ended ∙ append-nil came) ∙ same

-- a writer that was empty holds what was written
all_went : (first items text : List ℕ) → first ≡ [] → Appends (Some first) (Some items) text → text ≡ items
all_went first items text none wrote = sym (wrote ∙ ap (λ xs. xs ++ text) none)

-- two lists that are equal to others stand in their place
both : (P : List ℕ → List ℕ → Type 0) (a b c d : List ℕ) → a ≡ b → c ≡ d → P a c → P b d
both P a b c d p q it = subst (λ x. P b x) q (subst (λ x. P x c) p it)

answered_why : (π : Preference) (outcome : Outcome) (bytes out err : List ℕ) → outcome ≢ Good → IsAnswered π bytes outcome out err
    → HasCanonicalText π bytes outcome err
answered_why π Good bytes out err other is = absurd (other refl)
answered_why π Bad bytes out err other is = is.0
answered_why π NotJson bytes out err other is = is.0

-- why there are none stands in the second writer
pub refusal_of : (π : Preference) (limit : ℕ) (outcome : Outcome) (bytes given first items other others : List ℕ) (after : Option (List ℕ)) → outcome ≢ Good
    → given ≡ bytes → first ≡ []
    → IsWholeRun π limit outcome (Some given) after (Some other) (Some others) (Some first) (Some items) → HasCanonicalText π bytes outcome items
refusal_of π limit outcome bytes given first items other others after bad same none run =
    both (λ b x. HasCanonicalText π b outcome x) _ _ _ _ (all_came bytes given run.input limit after same run.whole)
    (all_went first items run.written.err_text none run.written.wrote_err)
    (answered_why π outcome run.input run.written.out_text run.written.err_text bad run.written.answered)

status_below : (outcome : Outcome) → outcome_status outcome < 3
status_below Good = omega arith
status_below Bad = omega arith
status_below NotJson = omega arith

-- a call whose arguments are right tells its answer, or that memory ran out
pub call_of : {T F : Type 0} (outcome : T → Outcome) (items : T → List ℕ) (Answers : Preference → Outcome → List ℕ → Type 0) (prefers : Bool) (prefer : List ℕ)
    (longest : ℕ) (r : Result T F) (told : Told) (before after : List ℕ)
    → ¬ IsWrong prefers prefer longest → IfOk r (λ it. Answers (preference prefers prefer) (outcome it) (items it))
    → IfOk r (λ it. IsTelling (outcome it) (items it) told before after)
    → IfErr r (λ _. (told.outcome ≡ 4) × HasNoText told before after) → IsCall Answers prefers prefer longest told before after
call_of outcome items Answers prefers prefer longest (Ok it) told before after right answers telling faulty =
    let low : told.outcome < 3 = omega (arith, telling.status, status_below (outcome it)) in
    record {
      answered = λ _. record { outcome = outcome it; text = items it; answers = answers; telling = telling };
      silent = λ high. absurd (omega (arith, high, low));
      wrong = (λ is. absurd (omega (arith, is, low)), λ wrong. absurd (right wrong));
      known = omega (arith, low);
    }
call_of outcome items Answers prefers prefer longest (Err fault) told before after right answers telling faulty = record {
  answered = λ low. absurd (omega (arith, faulty.0, low));
  silent = λ _. faulty.1;
  wrong = (λ is. absurd (omega (arith, is, faulty.0)), λ wrong. absurd (right wrong));
  known = omega (arith, faulty.0);
}

-- a call for a piece whose arguments are right tells its answer and of its list, or that memory ran out
pub piece_call_of : {F : Type 0} (Answers : Preference → Piece → Outcome → PieceTold → List ℕ → Type 0) (prefer : List ℕ) (longest : ℕ)
    (r : Result PieceAnswer F) (wanted asked : Wanted) (told : Told) (before after : List ℕ)
    → ¬ IsWrong wanted.prefers prefer longest → IfOk r (λ it. Answers (preference wanted.prefers prefer) (piece_of wanted) it.outcome it.told it.text.items)
    → IfOk r (λ it. IsTelling it.outcome it.text.items told before after × IsToldOf it.told wanted asked)
    → IfErr r (λ _. (told.outcome ≡ 4) × HasNoText told before after × IsToldNothing wanted asked)
    → IsPieceCall Answers prefer longest wanted asked told before after
piece_call_of {F = F} Answers prefer longest (Ok it) wanted asked told before after right answers telling faulty = record {
  call = call_of {T = PieceAnswer} {F = F} (λ it. it.outcome) (λ it. it.text.items) (λ π. IsPieceTold (Answers π) wanted asked) wanted.prefers prefer longest
      (Ok it) told before after right
      (record { told = it.told; telling = telling.1; answers = answers }) telling.0 faulty;
  silent = λ high. absurd (omega (arith, telling.0.status, status_below it.outcome, high));
}
piece_call_of {F = F} Answers prefer longest (Err fault) wanted asked told before after right answers telling faulty = record {
  call = call_of {T = PieceAnswer} {F = F} (λ it. it.outcome) (λ it. it.text.items) (λ π. IsPieceTold (Answers π) wanted asked) wanted.prefers prefer longest
      (Err fault) told before after right answers telling (faulty.0, faulty.1);
  silent = λ _. faulty.2;
}

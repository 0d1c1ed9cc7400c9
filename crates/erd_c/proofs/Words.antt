-- How the bytes of a command line are cut into words, and what is told of the answer.
use Rattle.std.proofs.Common.{◌≡◌, ◌≢◌, ℕ, zero, suc, List, [], ◌∷◌, ◌++◌, Option, Result, Ok, Err, inl, inr, refl, sym, ap, ◌∙◌, append_assoc, append-nil}
use Rattle.std.proofs.Common.{subst, map, length, drop, ◌+◌, ◌<◌, slice_index_or, ◌==◌, true, false, Bool, Vec, Global, String, string_bytes, arith, add-one}
use Rattle.std.proofs.Math.Seq.{drop-cons}
use Rattle.std.proofs.lemmas.List.{get_or-map, length-map}
use Rattle.std.proofs.lemmas.Bool.Decides.{nat_tests}
use Rattle.std.proofs.lemmas.Str.{IsUtf8-string_bytes}
use Rattle.std.specs.Str.{IsUtf8}
use Rattle.std.specs.Vec.{vec_len}
use Rattle.erd_canon.specs.LineAnswers.{IsAnswerTo, IsLineData}
use Rattle.erd_canon.specs.declared.commands.request.LineFault.{LineFault}
use Rattle.erd_canon.specs.declared.commands.request.LineFault.TheVariants.{Help, Usage, Memory}
use Rattle.erd_canon.specs.declared.commands.request.Request.{Request}
use Rattle.erd_c.specs.Lines.{AreTexts, IsLineCall, IsWordsAnswer, begun_with, line_number, words_in}
use Rattle.erd_c.specs.Told.{IsPut}
use Rattle.erd_c.specs.declared.call_result.Told.{Told}

-- the words with these bytes before the first of them
abbrev pub joined : List ℕ → List (List ℕ) → List (List ℕ)
joined [] words = words
joined (byte ∷ bytes) words = begun_with byte (joined bytes words)

joined_word : (word : List ℕ) (words : List (List ℕ)) → joined word ([] ∷ words) ≡ word ∷ words
joined_word [] words = refl
joined_word (b ∷ bs) words = ap (begun_with b) (joined_word bs words)

joined_next : (word : List ℕ) (b : ℕ) (words : List (List ℕ)) → joined (word ++ b ∷ []) words ≡ joined word (begun_with b words)
joined_next [] b words = refl
joined_next (c ∷ cs) b words = ap (begun_with c) (joined_next cs b words)

joined_end : (b : ℕ) (bs : List ℕ) → joined (b ∷ bs) [] ≡ (b ∷ bs) ∷ []
joined_end b [] = refl
joined_end b (c ∷ cs) = ap (begun_with b) (joined_end c cs)

zero_ends : (b : ℕ) (bytes : List ℕ) → b ≡ 0 → words_in (b ∷ bytes) ≡ [] ∷ words_in bytes
zero_ends zero bytes is = refl
zero_ends (suc n) bytes is = cc

other_begins : (b : ℕ) (bytes : List ℕ) → b ≢ 0 → words_in (b ∷ bytes) ≡ begun_with b (words_in bytes)
other_begins zero bytes other = absurd (other refl)
other_begins (suc n) bytes other = refl

-- a zero byte ends the word that was begun
pub word_ends : (done : List (List ℕ)) (word rest : List ℕ) (b : ℕ) (all : List (List ℕ)) → b ≡ 0 → done ++ joined word (words_in (b ∷ rest)) ≡ all
    → (done ++ word ∷ []) ++ joined [] (words_in rest) ≡ all
word_ends done word rest b all is so_far =
    append_assoc done (word ∷ []) (words_in rest) ∙ ap (λ ws. done ++ ws) (sym (ap (joined word) (zero_ends b rest is) ∙ joined_word word (words_in rest)))
    ∙ so_far

-- another byte is put behind it
pub word_goes_on : (done : List (List ℕ)) (word rest : List ℕ) (b : ℕ) (all : List (List ℕ)) → b ≢ 0 → done ++ joined word (words_in (b ∷ rest)) ≡ all
    → done ++ joined (word ++ b ∷ []) (words_in rest) ≡ all
word_goes_on done word rest b all other so_far =
    ap (λ ws. done ++ ws) (joined_next word b (words_in rest) ∙ sym (ap (joined word) (other_begins b rest other))) ∙ so_far

-- the end of the bytes ends a word that is not empty
pub last_word : (done : List (List ℕ)) (word : List ℕ) (all : List (List ℕ)) → word ≢ [] → done ++ joined word [] ≡ all → done ++ word ∷ [] ≡ all
last_word done [] all more so_far = absurd (more refl)
last_word done (b ∷ bs) all more so_far = ap (λ ws. done ++ ws) (sym (joined_end b bs)) ∙ so_far

-- the end of the bytes ends no empty word
pub nothing_left : (done : List (List ℕ)) (word : List ℕ) (all : List (List ℕ)) → word ≡ [] → done ++ joined word [] ≡ all → done ≡ all
nothing_left done word all none so_far = sym (append-nil done) ∙ subst (λ w. done ++ joined w [] ≡ all) none so_far

-- the bytes of a vector
abbrev pub held : Vec ℕ Global → List ℕ
held v = v.items

ahead : (i : ℕ) (bytes : List ℕ) → i < length bytes → drop i bytes ≡ slice_index_or bytes i 0 ∷ drop (i + 1) bytes
ahead i bytes low = rw add-one (drop-cons bytes i 0 low)

abbrev SoFar : List ℕ → List (List ℕ) → List ℕ → ℕ → Type 0
SoFar bytes done word i = done ++ joined word (words_in (drop i bytes)) ≡ words_in bytes

so_far_ahead : (bytes : List ℕ) (done : List (List ℕ)) (word : List ℕ) (i : ℕ) → i < length bytes → SoFar bytes done word i
    → done ++ joined word (words_in (slice_index_or bytes i 0 ∷ drop (i + 1) bytes)) ≡ words_in bytes
so_far_ahead bytes done word i low so_far = subst (λ r. done ++ joined word (words_in r) ≡ words_in bytes) (ahead i bytes low) so_far

-- the step of the loop over a zero byte
pub after_zero : (bytes : List ℕ) (done more : List (List ℕ)) (word next : List ℕ) (i : ℕ) → i < length bytes → slice_index_or bytes i 0 ≡ 0
    → more ≡ done ++ word ∷ [] → next ≡ []
    → SoFar bytes done word i → SoFar bytes more next (i + 1)
after_zero bytes done more word next i low is ended none so_far =
    subst (λ n. SoFar bytes more n (i + 1)) (sym none) (subst (λ m. SoFar bytes m [] (i + 1)) (sym ended)
    (word_ends done word (drop (i + 1) bytes) (slice_index_or bytes i 0) (words_in bytes) is (so_far_ahead bytes done word i low so_far)))

-- the step of the loop over another byte
pub after_other : (bytes : List ℕ) (done more : List (List ℕ)) (word next : List ℕ) (i : ℕ) → i < length bytes → slice_index_or bytes i 0 ≢ 0 → more ≡ done
    → next ≡ word ++ slice_index_or bytes i 0 ∷ [] → SoFar bytes done word i → SoFar bytes more next (i + 1)
after_other bytes done more word next i low other same longer so_far =
    subst (λ n. SoFar bytes more n (i + 1)) (sym longer) (subst (λ m. SoFar bytes m (word ++ slice_index_or bytes i 0 ∷ []) (i + 1)) (sym same)
    (word_goes_on done word (drop (i + 1) bytes) (slice_index_or bytes i 0) (words_in bytes) other (so_far_ahead bytes done word i low so_far)))

is_none : (xs : List ℕ) (n : ℕ) → n ≡ length xs → (n == 0) ≡ true → xs ≡ []
is_none [] n is zero_is = refl
is_none (x ∷ xs) n is zero_is = let e : n ≡ 0 = grind (arith, nat_tests) in absurd (omega (arith, e, is))

is_some_word : (xs : List ℕ) (n : ℕ) → n ≡ length xs → (n == 0) ≡ false → xs ≢ []
is_some_word xs n is other none = let e : n ≡ 0 = is ∙ ap length none in let f : (n == 0) ≡ true = ap (λ m. m == 0) e in cc

-- the vector is empty, or it is not, as `is_empty` says
pub empty_is : (v : Vec ℕ Global) (b : Bool) → b ≡ (vec_len v == 0) → b ≡ true → v.items ≡ []
empty_is v b tells is = is_none v.items v.len v.ok.0 (sym tells ∙ is)

pub full_is : (v : Vec ℕ Global) (b : Bool) → b ≡ (vec_len v == 0) → b ≡ false → v.items ≢ []
full_is v b tells is = is_some_word v.items v.len v.ok.0 (sym tells ∙ is)

-- a word among texts is text
pub text_among : (words : List (Vec ℕ Global)) (i : ℕ) (v : Vec ℕ Global) → i < length words → v ≡ slice_index_or words i v
    → AreTexts (map held words) → IsUtf8 v.items
text_among words i v low is all =
    let below : i < length (map held words) = omega (arith, low, length-map words held) in
    subst IsUtf8 (get_or-map held words i v [] low ∙ sym (ap held is)) (all i [] below)

status_known : (found : Result Request LineFault) (status : Option ℕ) (text : List ℕ) → IsAnswerTo found status text → line_number status ≢ 4
status_known (Ok request) status text is four = omega (arith, ap line_number is.0, four)
status_known (Err (Help words)) status text is four = omega (arith, ap line_number is.0, four)
status_known (Err (Usage words)) status text is four = omega (arith, ap line_number is.0, four)
status_known (Err Memory) status text is four = is

-- no answer is told by the number of a call that is out of memory
never_four : (bytes : List ℕ) (status : Option ℕ) (text : List ℕ) → IsWordsAnswer bytes status text → line_number status ≢ 4
never_four bytes status text (inl is) four = status_known is.1.found status text is.1.answer four
never_four bytes status text (inr is) four = omega (arith, ap line_number is.1, four)

-- the bytes of strings are UTF-8
strings_are_texts : (words : List (String Global)) → AreTexts (map string_bytes words)
strings_are_texts [] k d low = absurd (omega arith)
strings_are_texts (word ∷ words) zero d low = IsUtf8-string_bytes word
strings_are_texts (word ∷ words) (suc k) d low = strings_are_texts words k d (omega arith)

-- the answer for words that are texts
pub texts_answered : (bytes : List ℕ) (words : List (String Global)) (status : Option ℕ) (text : List ℕ) → map string_bytes words ≡ words_in bytes
    → IsLineData (map string_bytes words) status text
    → IsWordsAnswer bytes status text
texts_answered bytes words status text same is = inl (subst AreTexts same (strings_are_texts words), subst (λ w. IsLineData w status text) same is)

-- all that the call tells of an answer
pub answer_told : (bytes : List ℕ) (status : Option ℕ) (text : List ℕ) (told : Told) (before after : List ℕ) → IsWordsAnswer bytes status text → told.outcome
    ≡ line_number status → told.length ≡ length text
    → IsPut text before after → IsLineCall bytes told before after
answer_told bytes status text told before after is number count put = record {
  answered = λ _. record { status = status; text = text; answers = is; number = number; count = count; put = put };
  silent = λ four. absurd (never_four bytes status text is (sym number ∙ four));
}

-- How bytes are cut into words, and what the call for a command line tells of words that are no text.
use Rattle.std.proofs.Common.{◌≡◌, ◌<◌, ℕ, List, [], ◌∷◌, ◌++◌, Option, Some, None, codes, refl, subst, inl, inr, arith}
use Rattle.std.specs.Prelude.{All}
use Rattle.std.specs.Str.{IsUtf8}
use Rattle.erd_canon.specs.LineAnswers.{IsLineData}
use Rattle.erd_c.proofs.examples.CallExamples.{no_text}
use Rattle.erd_c.specs.Lines.{AreTexts, IsLineCall, IsLineTold, IsWordsAnswer, line_number, words_in}

-- each zero byte ends a word, and between two of them is an empty one
three_words : words_in (codes "erd" ++ 0 ∷ 0 ∷ codes "a b" ++ 0 ∷ []) ≡ codes "erd" ∷ [] ∷ codes "a b" ∷ []
three_words = refl

-- the end of the bytes ends a word too, and makes none behind a zero byte
last_word : words_in (codes "erd" ++ 0 ∷ codes "help") ≡ codes "erd" ∷ codes "help" ∷ []
last_word = refl

no_word : words_in [] ≡ []
no_word = refl

numbers : (line_number None ≡ 1) × (line_number (Some 0) ≡ 0) × (line_number (Some 3) ≡ 3)
numbers = (refl, refl, refl)

-- the second word is no text
not_texts : AreTexts (words_in (codes "a" ++ 0 ∷ 255 ∷ 0 ∷ [])) → ⊥
not_texts all = no_text (all 1 [] (omega arith))

not_text : IsLineCall (codes "a" ++ 0 ∷ 255 ∷ 0 ∷ []) (record { outcome = 3; length = 27 }) (codes "0123") (codes "0123")
not_text = record {
  answered = λ told. record {
    status = Some 3;
    text = codes "the arguments are not text\n";
    answers = inr (not_texts, refl, refl);
    number = refl;
    count = refl;
    put = record { fits = λ less. absurd (omega (arith, less)); too_long = λ less. refl };
  };
  silent = λ none. absurd (omega (arith, none));
}

-- such words make no request
no_request : IsLineCall (codes "a" ++ 0 ∷ 255 ∷ 0 ∷ []) (record { outcome = 1; length = 0 }) [] [] → ⊥
no_request call = none (call.answered (λ e. omega (arith, e)))
  where
    no : (status : Option ℕ) (text : List ℕ) → 1 ≡ line_number status → IsWordsAnswer (codes "a" ++ 0 ∷ 255 ∷ 0 ∷ []) status text → ⊥
    no status text number (inl (are, _)) = not_texts are
    no status text number (inr (_, is, _)) = let three : 1 ≡ 3 = subst (λ s. 1 ≡ line_number s) is number in omega (arith, three)

    none : IsLineTold (codes "a" ++ 0 ∷ 255 ∷ 0 ∷ []) (record { outcome = 1; length = 0 }) [] [] → ⊥
    none told = no told.status told.text told.number told.answers

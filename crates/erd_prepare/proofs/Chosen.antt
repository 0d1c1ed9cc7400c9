-- Steps by the words of a caller.
use Rattle.std.proofs.Common.{Bor, ◌≡◌, ◌∙◌, ◌+◌, ◌<◌, ◌≤◌, ◌++◌, ◌==◌, ℕ, Bool, true, false, List, [], ◌∷◌, Option, Some, None, ap, drop, get_or, length, map}
use Rattle.std.proofs.Common.{option_map, option_and_then, refl, sym, append_assoc}
use Rattle.std.proofs.lemmas.List.{append-nil, drop_all, drop_more, get_or-map, length-map}
use Rattle.std.specs.List.{filter, find, slice_split}
use Rattle.std.specs.Option.{MatchOption}
use Rattle.erd_prepare.specs.declared.step_group.StepGroup.{StepGroup}
use Rattle.erd_prepare.specs.StepWords.{group_named, step_named, steps_by_word, steps_by_words, steps_of_group, words_at_commas}
use Rattle.erd_prepare.specs.declared.step_name.StepName.{StepName}

-- the first element with a property, behind one that lacks it
pub find_more : (test : StepName → Bool) (xs : List StepName) (i : ℕ) (d : StepName) → i < length xs → test (get_or xs i d) ≡ false
    → find test (drop i xs) ≡ find test (drop (i + 1) xs)
find_more test xs i d low lacks = ap (find test) (drop_more xs i d low) ∙ rw lacks refl

pub filter_yes : (test : StepName → Bool) (xs : List StepName) (i : ℕ) (d : StepName) → i < length xs → test (get_or xs i d) ≡ true
    → filter test (drop i xs) ≡ get_or xs i d ∷ filter test (drop (i + 1) xs)
filter_yes test xs i d low has = ap (filter test) (drop_more xs i d low) ∙ rw has refl

pub filter_no : (test : StepName → Bool) (xs : List StepName) (i : ℕ) (d : StepName) → i < length xs → test (get_or xs i d) ≡ false
    → filter test (drop i xs) ≡ filter test (drop (i + 1) xs)
filter_no test xs i d low lacks = ap (filter test) (drop_more xs i d low) ∙ rw lacks refl

-- the words of a text that is not empty
pub words_of_some : (text : List ℕ) → (length text == 0) ≡ false → slice_split (λ c. c == 44) text ≡ words_at_commas text
words_of_some [] is_some = cc
words_of_some (b ∷ bs) is_some = refl

-- ---- what is chosen so far, and what the words behind choose

abbrev pub with_more : List StepName → List (List ℕ) → Option (List StepName)
with_more steps words = option_map (λ more. steps ++ more) (steps_by_words words)

pub nothing_chosen : (words : List (List ℕ)) → with_more [] words ≡ steps_by_words words
nothing_chosen words = at (steps_by_words words)
  where
    at : (o : Option (List StepName)) → option_map (λ more. [] ++ more) o ≡ o
    at None = refl
    at (Some more) = refl

pub all_chosen : (steps : List StepName) (words : List (List ℕ)) (i : ℕ) → length words ≤ i → with_more steps (drop i words) ≡ Some steps
all_chosen steps words i high = ap (with_more steps) (drop_all i words high) ∙ ap Some (append-nil steps)

word_chooses : (steps more : List StepName) (words : List (List ℕ)) (i : ℕ) (d : List ℕ) → i < length words → steps_by_word (get_or words i d) ≡ Some more
    → with_more steps (drop i words) ≡ with_more (steps ++ more) (drop (i + 1) words)
word_chooses steps more words i d low chooses =
    ap (with_more steps) (drop_more words i d low) ∙ rw chooses (at (steps_by_words (drop (i + 1) words)))
  where
    at : (o : Option (List StepName)) → option_map (λ rest. steps ++ rest) (option_map (λ rest. more ++ rest) o)
        ≡ option_map (λ rest. (steps ++ more) ++ rest) o
    at None = refl
    at (Some rest) = ap Some (sym (append_assoc steps more rest))

word_is_unknown : (steps : List StepName) (words : List (List ℕ)) (i : ℕ) (d : List ℕ) → i < length words → steps_by_word (get_or words i d) ≡ None
    → with_more steps (drop i words) ≡ None
word_is_unknown steps words i d low unknown = ap (with_more steps) (drop_more words i d low) ∙ rw unknown refl

-- the words that references stand for
abbrev pub words_of : List (Bor (List ℕ)) → List (List ℕ)
words_of items = map (λ word. word.now) items

word_at : (items : List (Bor (List ℕ))) (i : ℕ) (d : Bor (List ℕ)) → i < length items → (i < length (words_of items))
    × (get_or (words_of items) i [] ≡ (get_or items i d).now)
word_at items i d low = (rw (length-map items (λ (word : Bor (List ℕ)). word.now)) low, get_or-map (λ (word : Bor (List ℕ)). word.now) items i d [] low)

pub words_end : (items : List (Bor (List ℕ))) (i : ℕ) → length items ≤ i → length (words_of items) ≤ i
words_end items i high = rw (length-map items (λ (word : Bor (List ℕ)). word.now)) high

-- what is known of a word once its steps are added
abbrev IsWordAdded : List ℕ → Bool → List StepName → List StepName → Type 0
IsWordAdded word is_known steps news = MatchOption (steps_by_word word) (is_known ≡ false) (λ more. (is_known ≡ true) × (news ≡ steps ++ more))

pub word_adds : (items : List (Bor (List ℕ))) (i : ℕ) (d : Bor (List ℕ)) (is_known : Bool) (steps news : List StepName) → i < length items → is_known ≡ true
    → IsWordAdded (get_or items i d).now is_known steps news
    → with_more steps (drop i (words_of items)) ≡ with_more news (drop (i + 1) (words_of items))
word_adds items i d is_known steps news low known adds = at (steps_by_word (get_or items i d).now) refl adds
  where
    at : (o : Option (List StepName)) → steps_by_word (get_or items i d).now ≡ o → MatchOption o (is_known ≡ false)
        (λ more. (is_known ≡ true) × (news ≡ steps ++ more))
        → with_more steps (drop i (words_of items)) ≡ with_more news (drop (i + 1) (words_of items))
    at None is e = cc
    at (Some more) is (t, e) =
        let w = word_at items i d low in
        word_chooses steps more (words_of items) i [] w.0 (ap steps_by_word w.1 ∙ is) ∙ ap (λ ss. with_more ss (drop (i + 1) (words_of items))) (sym e)

pub word_ends : (items : List (Bor (List ℕ))) (i : ℕ) (d : Bor (List ℕ)) (is_known : Bool) (steps news : List StepName) → i < length items → is_known ≡ false
    → IsWordAdded (get_or items i d).now is_known steps news
    → with_more steps (drop i (words_of items)) ≡ None
word_ends items i d is_known steps news low unknown adds = at (steps_by_word (get_or items i d).now) refl adds
  where
    at : (o : Option (List StepName)) → steps_by_word (get_or items i d).now ≡ o → MatchOption o (is_known ≡ false)
        (λ more. (is_known ≡ true) × (news ≡ steps ++ more))
        → with_more steps (drop i (words_of items)) ≡ None
    at None is e = let w = word_at items i d low in word_is_unknown steps (words_of items) i [] w.0 (ap steps_by_word w.1 ∙ is)
    at (Some more) is (t, e) = cc

pub group_adds : (word : List ℕ) (g : StepGroup) (steps news : List StepName) → None ≡ step_named word → Some g ≡ group_named word
    → news ≡ steps ++ steps_of_group g
    → IsWordAdded word true steps news
group_adds word g steps news no_step is e = rw (sym no_step, sym is) (refl, e)

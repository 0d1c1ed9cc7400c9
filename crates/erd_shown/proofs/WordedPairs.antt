-- What ballots print of the selections of a contest, in the order of their names, and the last member of an object.
use Rattle.erd_shown.proofs.Common.{◌≡◌, ◌++◌, ◌∷◌, [], List, map, sym, refl, ap, ◌∙◌, Data, Preference, name_of, name_cmp, rising_list, by_first}
use Rattle.erd_shown.proofs.Common.{member, no_members, members_tokens, value_tokens}
use Rattle.json.specs.Token.{Token, key, end_object}
use Rattle.erd_text.proofs.WrittenTokens.{then_rest}
use Rattle.erd_meaning.proofs.Common.{map-map}
use Rattle.std.specs.Prelude.{ℕ}
use Rattle.erd_shown.specs.BallotWords.{in_name_order}
use Rattle.erd_shown.specs.WordList.{named_words}
use Rattle.erd_shown.specs.code.Selections.{named_selection, of_pair}
use Rattle.erd_shown.specs.code.Worded.{words_of_pair}
use Rattle.erd_shown.proofs.SelectionPairs.{Named, Pair, pairs_sorted}

abbrev words_named : Preference → Data → Named → Data
words_named π t x = named_words π t x.0 x.1

pub words_sorted : (π : Preference) (t : Data) (ds : List Data) (old sorted : List Pair) → map of_pair old ≡ map (named_selection π t) ds
    → sorted ≡ rising_list (by_first name_cmp) old
    → map (words_of_pair π t) sorted ≡ map (λ d. named_words π t (name_of π t d) d) (in_name_order π t ds)
words_sorted π t ds old sorted named rising =
    sym (map-map (words_named π t) of_pair sorted)
    ∙ ap (map (words_named π t)) (pairs_sorted π t ds old sorted named rising)
    ∙ map-map (words_named π t) (named_selection π t) (in_name_order π t ds)

-- the last member of an object
pub last_member : (o0 o1 o2 o3 : List Token) (k : List ℕ) (a : Data) → o1 ≡ o0 ++ key k ∷ [] → o2 ≡ o1 ++ value_tokens a → o3 ≡ o2 ++ end_object ∷ []
    → o3 ≡ o0 ++ members_tokens (member k a no_members)
last_member o0 o1 o2 o3 k a e1 e2 e3 =
    let all = o0 ++ members_tokens (member k a no_members) in
    let rest = value_tokens a ++ end_object ∷ [] in
    e3 ∙ then_rest o1 (value_tokens a) o2 (end_object ∷ []) all e2 (then_rest o0 (key k ∷ []) o1 rest all e1 refl)

-- Names of selections in lists, and in rising order.
use Rattle.erd_shown.proofs.Common.{◌≡◌, ℕ, ◌+◌, List, [], ◌∷◌, ◌++◌, drop, append_assoc, map-append, map, filter_map, cons_option, Some, Option, sym, refl, ap}
use Rattle.erd_shown.proofs.Common.{◌∙◌, Data, Preference, NameParts, name_of, name_cmp, rising_list, rising_list_map, by_first}
use Rattle.erd_meaning.proofs.Common.{map-map}
use denote.Ref.{Bor}
use Rattle.serde_json.specs.declared.value.Value.{Value}
use Rattle.erd_shown.specs.ListedNames.{sorted_names}
use Rattle.erd_shown.specs.code.Selections.{named_selection, of_pair}

-- values that all have names
pub all_named : (f : Data → Option NameParts) (ns : List NameParts) (ds : List Data) → map Some ns ≡ map f ds → ns ≡ filter_map f ds
all_named f [] [] e = refl
all_named f [] (d ∷ ds) e = cc
all_named f (n ∷ ns) [] e = cc
all_named f (n ∷ ns) (d ∷ ds) e =
    let first : Some n ≡ f d = cc in
    let rest : map Some ns ≡ map f ds = cc in
    ap (λ ms. n ∷ ms) (all_named f ns ds rest) ∙ ap (λ o. cons_option o (filter_map f ds)) first

pub firsts_rise : {T : Type 0} (old sorted : List (NameParts × T)) (ns : List NameParts) → sorted ≡ rising_list (by_first name_cmp) old
    → map (λ (p : NameParts × T). p.0) old ≡ ns
    → map (λ (p : NameParts × T). p.0) sorted ≡ rising_list name_cmp ns
firsts_rise {T} old sorted ns rising firsts =
    ap (map (λ (p : NameParts × T). p.0)) rising ∙ rising_list_map (λ (p : NameParts × T). p.0) name_cmp old ∙ ap (rising_list name_cmp) firsts

abbrev Pair : Type 0
Pair = NameParts × Bor Value

abbrev Named : Type 0
Named = Option NameParts × Data

pub names_rise : (π : Preference) (t : Data) (ds : List Data) (old sorted : List Pair) → map of_pair old ≡ map (named_selection π t) ds
    → sorted ≡ rising_list (by_first name_cmp) old
    → map (λ (p : Pair). p.0) sorted ≡ sorted_names π t ds
names_rise π t ds old sorted named rising =
    let some : map Some (map (λ (p : Pair). p.0) old) ≡ map (name_of π t) ds =
    map-map Some (λ (p : Pair). p.0) old ∙ sym (map-map (λ (x : Named). x.0) of_pair old) ∙ ap (map (λ (x : Named). x.0)) named
    ∙ map-map (λ (x : Named). x.0) (named_selection π t) ds in
    firsts_rise old sorted (filter_map (name_of π t) ds) rising (all_named (name_of π t) (map (λ (p : Pair). p.0) old) ds some)

-- one more of the things that a list gives
pub keep_next : {A B : Type 0} (g : A → B) (old new : List A) (a : A) (all : List B) (i : ℕ) → drop i all ≡ g a ∷ drop (i + 1) all → new ≡ old ++ a ∷ []
    → map g old ++ drop i all ≡ all
    → map g new ++ drop (i + 1) all ≡ all
keep_next g old new a all i rest pushed before =
    ap (λ xs. map g xs ++ drop (i + 1) all) pushed
    ∙ ap (λ ys. ys ++ drop (i + 1) all) (map-append g old (a ∷ []))
    ∙ append_assoc (map g old) (g a ∷ []) (drop (i + 1) all)
    ∙ ap (λ ys. map g old ++ ys) (sym rest)
    ∙ before

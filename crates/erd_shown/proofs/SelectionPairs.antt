-- The selections of a contest, each with its name, in the order of their names.
use Rattle.erd_shown.proofs.Common.{◌≡◌, Bool, true, false, cond, List, map, None, Option, sym, refl, ap, ◌∙◌, map-id, Ordering, option_cmp, Data, view, Value}
use Rattle.erd_shown.proofs.Common.{items_of, items_have_float, Preference, NameParts, name_of, name_cmp, rising_list, rising_list_map, by_first, MemberKind}
use Rattle.erd_shown.proofs.Common.{kind, family}
use Rattle.erd_meaning.proofs.Common.{map-map}
use denote.Ref.{Bor}
use Rattle.erd_text.proofs.WholeValues.{whole_rising}
use Rattle.erd_shown.specs.Shown.{named_record, selection_record_data, shown_in, shown_value}
use Rattle.erd_shown.specs.code.Selections.{is_selections, named_selection, of_pair, selection_of_pair}

abbrev pub Pair : Type 0
Pair = NameParts × Bor Value

abbrev pub Named : Type 0
Named = Option NameParts × Data

abbrev by_own_name : Named → Named → Ordering
by_own_name x y = option_cmp name_cmp x.0 y.0

module _ (π : Preference) (t : Data) (ds : List Data) (old sorted : List Pair) (named : map of_pair old ≡ map (named_selection π t) ds)
    (rising : sorted ≡ rising_list (by_first name_cmp) old) where
  abbrev pub in_order : List Data
  in_order = rising_list (λ a b. option_cmp name_cmp (name_of π t a) (name_of π t b)) ds

  pub pairs_sorted : map of_pair sorted ≡ map (named_selection π t) in_order
  pairs_sorted = ap (map of_pair) rising ∙ rising_list_map of_pair by_own_name old ∙ ap (rising_list by_own_name) named
      ∙ sym (rising_list_map (named_selection π t) by_own_name ds)

  abbrev record_named : Named → Data
  record_named x = named_record π t x.0 x.1

  pub records_sorted : map (selection_of_pair π t) sorted ≡ map (selection_record_data π t) in_order
  records_sorted = sym (map-map record_named of_pair sorted) ∙ ap (map record_named) pairs_sorted ∙ map-map record_named (named_selection π t) in_order

  abbrev value_named : Named → Data
  value_named x = x.1

  pub values_sorted : map (λ (p : Pair). view p.1.now) sorted ≡ in_order
  values_sorted = sym (map-map value_named of_pair sorted) ∙ ap (map value_named) pairs_sorted
      ∙ map-map value_named (named_selection π t) in_order ∙ map-id in_order

  pub values_whole : items_have_float (items_of ds) ≡ false → items_have_float (items_of (map (λ (p : Pair). view p.1.now) sorted)) ≡ false
  values_whole whole = ap (λ xs. items_have_float (items_of xs)) values_sorted
      ∙ whole_rising (λ a b. option_cmp name_cmp (name_of π t a) (name_of π t b)) ds whole

-- ---- members that hold selections, and others

pub kind_there : (k : MemberKind) → is_selections k ≡ true → k ≡ kind.Keyed family.Selection
kind_there (kind.Keyed family.Selection) e = refl
kind_there k e = cc

pub other_kind : (π : Preference) (t : Data) (hidden : Bool) (k : MemberKind) (d : Data) → is_selections k ≡ false → shown_in π t hidden k d
    ≡ cond hidden None (shown_value π t k d)
other_kind π t hidden (kind.Keyed family.Selection) d e = cc
other_kind π t hidden (kind.Keyed family.Unit) d e = refl
other_kind π t hidden (kind.Keyed family.Party) d e = refl
other_kind π t hidden (kind.Keyed family.Person) d e = refl
other_kind π t hidden (kind.Keyed family.Office) d e = refl
other_kind π t hidden (kind.Keyed family.Header) d e = refl
other_kind π t hidden (kind.Keyed family.Candidate) d e = refl
other_kind π t hidden (kind.Keyed family.Contest) d e = refl
other_kind π t hidden (kind.Keyed family.Style) d e = refl
other_kind π t hidden k d e = refl

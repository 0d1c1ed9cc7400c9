-- Whole trees are equal to themselves as JSON, and sets of JSON values are written alike if and only if they are the same. (the
-- first part is erd_compare's `WholeTrees`)
use Rattle.erd_text.proofs.Common.{◌≡◌, true, false, List, sym, refl, ap, ◌∙◌, subst, fun_ext, both_ways, or_parts, pos, Data, null, boolean, string, array}
use Rattle.erd_text.proofs.Common.{object, Items, no_items, item, Members, no_members, member, is_same_json, In, In-any, In-all, any_at, rising_list}
use Rattle.erd_text.proofs.Common.{compact_cmp, has_float, items_have_float, members_have_float}
use Rattle.std.specs.Prelude.{◌&&◌}
use Rattle.std.proofs.lemmas.Bool.{and_from}
use Rattle.std.proofs.lemmas.Bool.Decides.{Decides-int_eq}
use Rattle.serde_json.specs.Data.{number, Num, unsigned, negative, float}
use Rattle.erd_check.specs.Trees.{same_number, are_same_items, are_same_members}
use Rattle.erd_check.proofs.Exact.{is_same_exact, text_itself, flag_itself}
use Rattle.erd_text.proofs.RisingOrders.{compact_cmp_total}
use Rattle.erd_meaning.specs.Records.{json_set}
use Rattle.erd_shown.proofs.told.Sets.{array_exact, one_order, same_entries}
use Rattle.erd_shown.specs.KeyData.{array_of}
use Rattle.erd_shown.specs.code.Fitting.{SetsTell, IsSet, IsWholeTree}

number_itself : (n : Num) → has_float (number n) ≡ false → same_number n n ≡ true
number_itself (unsigned m) h = (Decides-int_eq (pos m) (pos m)).1 refl
number_itself (negative x) h = (Decides-int_eq x x).1 refl
number_itself (float x) h = cc

mutual
  pub itself : (d : Data) → has_float d ≡ false → is_same_json d d ≡ true
  itself null h = refl
  itself (boolean b) h = flag_itself b
  itself (number n) h = number_itself n h
  itself (string s) h = text_itself s
  itself (array ds) h = items_themselves ds h
  itself (object ms) h = members_themselves ms h

  items_themselves : (ds : Items) → items_have_float ds ≡ false → are_same_items ds ds ≡ true
  items_themselves no_items h = refl
  items_themselves (item d ds) h =
      let parts = or_parts (has_float d) (items_have_float ds) h in
      and_from (is_same_json d d) (are_same_items ds ds) (itself d parts.0) (items_themselves ds parts.1)

  members_themselves : (ms : Members) → members_have_float ms ≡ false → are_same_members ms ms ≡ true
  members_themselves no_members h = refl
  members_themselves (member k d ms) h =
      let parts = or_parts (has_float d) (members_have_float ms) h in
      and_from _ (is_same_json d d && are_same_members ms ms) (text_itself k)
      (and_from (is_same_json d d) (are_same_members ms ms) (itself d parts.0) (members_themselves ms parts.1))

-- ---- sets

-- an entry of a set is one of each set that is the same
entry_of : (ds es : List Data) → IsSet ds → IsSet es → json_set ds ≡ json_set es → (d : Data) → In d ds → In d es
entry_of ds es left right same d i =
    let here : IsWholeTree d = In-all IsWholeTree d ds left.trees i in
    let r = In-any (is_same_json d) es (sym (ap (λ s. s d) same) ∙ any_at (is_same_json d) d ds i (itself d here.whole)) in
    subst (λ e. In e es) (sym (is_same_exact d r.0 here.is_tree (In-all IsWholeTree r.0 es right.trees r.1).is_tree r.2)) r.1

pub set_from : (ds es : List Data) → IsSet ds → IsSet es → json_set ds ≡ json_set es → rising_list compact_cmp ds ≡ rising_list compact_cmp es
set_from ds es left right same =
    one_order compact_cmp compact_cmp_total ds es left.distinct right.distinct (entry_of ds es left right same) (entry_of es ds right left (sym same))

within : (ds es : List Data) → ((x : Data) → In x ds → In x es) → (d : Data) → json_set ds d ≡ true → json_set es d ≡ true
within ds es to d h = let r = In-any (is_same_json d) ds h in any_at (is_same_json d) r.0 es (to r.0 r.1) r.2

pub to_set : (ds es : List Data) → rising_list compact_cmp ds ≡ rising_list compact_cmp es → json_set ds ≡ json_set es
to_set ds es e =
    fun_ext (λ d. both_ways (json_set ds d) (json_set es d) (within ds es (same_entries compact_cmp ds es e) d)
    (within es ds (same_entries compact_cmp es ds (sym e)) d))

pub sets_tell : SetsTell
sets_tell ds es left right = (λ e. to_set ds es (array_exact _ _ e), λ e. ap array_of (set_from ds es left right e))

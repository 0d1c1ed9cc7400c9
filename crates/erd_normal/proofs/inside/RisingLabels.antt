-- Labels: the array of their translations, also in rising order.
use Rattle.erd_normal.proofs.Common.{◌≡◌, ℕ, Bool, true, false, List, Some, codes, bytes_eq, refl, ap, ◌∙◌, subst, Data, object, Members, get_member}
use Rattle.erd_normal.proofs.Common.{role_of_class, Class, class, role, kind, list_of_items, entries_of, entries_at, None, Option, option_and_then}
use Rattle.erd_normal.proofs.Common.{option_map_or, IsTree, AllByRecursion, array, Items, array_from, wanted_within, lacks_none, member_within, Within}
use Rattle.erd_normal.proofs.Common.{ShapeFault, NoneOf, asked, Member, of_label, classed, Classed, [], get_member-put, get, rising_list, compact_cmp}
use Rattle.erd_normal.proofs.Common.{with_rising_text, is_object, array_of, all_rising, class_of_object, as_str, class_in_role, get_member-tree, put-trees}
use Rattle.erd_normal.proofs.inside.Members.{put_elsewhere}
use Rattle.erd_normal.proofs.lists.Lists.{array_of-tree, trees_listed}

-- a class of labels is that of translated texts
pub label_class : (c : Class) → role_of_class c ≡ role.Label → c ≡ class.InternationalizedText
label_class class.InternationalizedText e = refl
label_class c e = cc

-- a label that is an object has an array of translations
pub label_texts : (t : Data) → NoneOf (ShapeFault t) → (r : Bool) (ms : Members) → Within t (asked (Member kind.Label r) (object ms))
    → (texts : Items) × (get_member (codes "Text") ms ≡ Some (array texts)) × Within t (asked (Member kind.Languages true) (array texts))
label_texts t clean r ms w =
    let cl : Classed role.Label (object ms) = classed t clean (Member kind.Label r) role.Label (object ms) of_label refl w in
    let is : cl.class ≡ class.InternationalizedText = label_class cl.class cl.role in
    (elim (get_member (codes "Text") ms) as (λ o. get_member (codes "Text") ms ≡ o → (texts : Items) × (get_member (codes "Text") ms ≡ Some (array texts))
    × Within t (asked (Member kind.Languages true) (array texts))) [
      | None ↦ λ e. absurd (lacks_none t clean (asked (Member kind.Label r) (object ms)) (codes "Text") w (rw (cl.text, is) refl) e)
      | Some v ↦ λ e.
          let inside : Within t (asked (Member kind.Languages true) v) = member_within t clean (Member kind.Label r) role.Label ms class.InternationalizedText
          (codes "Text") v of_label (cl.among ∙ ap Some is) refl w e in
          let ds = array_from v (wanted_within t clean (asked (Member kind.Languages true) v) inside) in
          (ds.0, e ∙ ap Some ds.1, subst (λ x. Within t (asked (Member kind.Languages true) x)) ds.1 inside)
    ]) refl

-- ---- the label with its translations in rising order

pub get_label-text : (d : Data) → is_object d ≡ true → get (codes "Text") (with_rising_text d)
    ≡ Some (array_of (rising_list compact_cmp (entries_at (codes "Text") d)))
get_label-text (object ms) is = get_member-put (codes "Text") (array_of (rising_list compact_cmp (entries_at (codes "Text") (object ms)))) ms
get_label-text d is = cc

pub get_label-other : (name : List ℕ) (d : Data) → bytes_eq name (codes "Text") ≡ false → get name (with_rising_text d) ≡ get name d
get_label-other name (object ms) other = put_elsewhere name (codes "Text") (array_of (rising_list compact_cmp (entries_at (codes "Text") (object ms)))) ms other
get_label-other name d other = refl

translations-tree : (o : Option Data) → ((d : Data) → o ≡ Some d → IsTree d) → AllByRecursion IsTree (option_map_or entries_of o [])
translations-tree (Some (array ds)) tree = trees_listed ds (tree (array ds) refl)
translations-tree o tree = tt

pub with_rising_text-tree : (d : Data) → IsTree d → IsTree (with_rising_text d)
with_rising_text-tree (object ms) tree =
    let texts : List Data = entries_at (codes "Text") (object ms) in
    let all = all_rising IsTree compact_cmp texts (translations-tree (get_member (codes "Text") ms) (λ d is. get_member-tree (codes "Text") d ms tree is)) in
    put-trees (codes "Text") (array_of (rising_list compact_cmp texts)) ms tree (array_of-tree (rising_list compact_cmp texts) all)
with_rising_text-tree d tree = tree

-- a label that is an object, and the one that is built of it, whose translations rise
pub record BuiltLabel (t : Data) (ms : Members) : Type 0 where
  pub texts : Items
  pub found : get_member (codes "Text") ms ≡ Some (array texts)
  pub inside : Within t (asked (Member kind.Languages true) (array texts))
  pub kept : class_of_object role.Label (object ms) ≡ Some class.InternationalizedText
  pub among : class_of_object role.Label (with_rising_text (object ms)) ≡ Some class.InternationalizedText
  pub stands : get (codes "Text") (with_rising_text (object ms)) ≡ Some (array_of (rising_list compact_cmp (list_of_items texts)))

pub built_label : (t : Data) → NoneOf (ShapeFault t) → (required : Bool) (ms : Members)
    → Within t (asked (Member kind.Label required) (object ms)) → BuiltLabel t ms
built_label t clean required ms w =
    let texts = label_texts t clean required ms w in
    let cl : Classed role.Label (object ms) = classed t clean (Member kind.Label required) role.Label (object ms) of_label refl w in
    let kept : class_of_object role.Label (object ms) ≡ Some class.InternationalizedText = cl.among ∙ ap Some (label_class cl.class cl.role) in
    record {
      texts = texts.0;
      found = texts.1;
      inside = texts.2;
      kept = kept;
      among = ap (λ o. option_and_then (class_in_role role.Label) (option_and_then as_str o)) (get_label-other (codes "@type") (object ms) refl) ∙ kept;
      stands = get_label-text (object ms) refl ∙ rw texts.1 refl;
    }

-- The worst case of the names of selections: a label with translations. Labels that say the same have one text, with their
-- translations in rising order.
use Rattle.erd_normal.proofs.Common.{◌≡◌, ℕ, Bool, true, false, List, [], ◌∷◌, ◌++◌, map, Some, None, codes, Option, bytes_eq, Ordering, Greater, sym, refl, ap}
use Rattle.erd_normal.proofs.Common.{◌∙◌, subst, ap₂, nat_list_cmp_total, exact_bytes, option_map_or, match_ordering, get_member-put, Data, null, array, object}
use Rattle.erd_normal.proofs.Common.{Members, no_members, member, put, get_member, items_of, comma_if, compact_text, items_text, members_text, kind_of_member}
use Rattle.erd_normal.proofs.Common.{text_cmp, class, role, kind, text_exact, members_unique, put-trees, kind_of_unlisted_has, IsTree, AreMembers, entries_of}
use Rattle.erd_normal.proofs.Common.{entries_at, class_of_object, want_of_name, Scope, scope, Member, rising_list_map, rising_list, compact_cmp}
use Rattle.erd_normal.proofs.Common.{with_rising_text, Sides, MayBeAbsent, Same, SameMembers, Items, list_of_items, Want, Object, JsonMap, JsonSet, Label}
use Rattle.erd_normal.proofs.Common.{untranslated, translated, json_set, label_beside_text, label_of, a_set, is_id_text, NameOneThing, true≢false}
use Rattle.erd_normal.proofs.Common.{IsPermutation, IsPermutation-map, IsPermutation-refl}
use Rattle.erd_normal.proofs.inside.Members.{put_elsewhere, put_twice}
use Rattle.erd_normal.proofs.lists.Matched.{matched_equal}
use Rattle.erd_normal.proofs.lists.Lists.{rising-reordered}
use Rattle.erd_normal.proofs.same.Lookups.{Aligned, both_there, not_both, MayLack, lookups, of_object, lacks_none, merged, is_steady, is_steady_kind, stays_one}
use Rattle.erd_normal.proofs.same.Lookups.{steady_of_kind, steady_same, is_plain, is_plain_kind, plain_of_kind, AllPlain, plain_entry, plain_no_id, plain_scope}
use Rattle.erd_normal.proofs.same.Related.{entries_matched, lacking_empty, ApartBy, AreSound, itself, json_sets_reordered, alike_self, alike_same, entries_same}
use Rattle.erd_normal.proofs.same.Related.{entries_self}
use Rattle.erd_normal.proofs.inside.Walks.{known_passes}

-- ---- texts of values in order

-- arrays whose entries have the same texts have one text
entries_one_text : (b : Bool) (xs ys : List Data) → map compact_text xs ≡ map compact_text ys → items_text b (items_of xs) ≡ items_text b (items_of ys)
entries_one_text b [] [] e = refl
entries_one_text b (x ∷ xs) (y ∷ ys) e =
    let first : compact_text x ≡ compact_text y = cc in
    let rest : map compact_text xs ≡ map compact_text ys = cc in
    ap₂ (λ s r. comma_if b ++ (s ++ r)) first (entries_one_text true xs ys rest)
entries_one_text b xs ys e = cc

array_one_text : (xs ys : List Data) → map compact_text xs ≡ map compact_text ys → compact_text (array (items_of xs)) ≡ compact_text (array (items_of ys))
array_one_text xs ys e = ap (λ s. 91 ∷ s) (entries_one_text false xs ys e)

-- objects one member of which has another value with the same text
put_one_text : (b : Bool) (k : List ℕ) (d e : Data) (ms : Members) → compact_text d ≡ compact_text e → members_text b (put k d ms) ≡ members_text b (put k e ms)
put_one_text b k d e no_members same = rw same
put_one_text b k d e (member l f ms) same = at (text_cmp k l) (put_one_text true k d e ms same)
  where
    at : (o : Ordering) → members_text true (put k d ms) ≡ members_text true (put k e ms)
        → members_text b (match_ordering o (member k d (member l f ms)) (member l d ms) (member l f (put k d ms)))
        ≡ members_text b (match_ordering o (member k e (member l f ms)) (member l e ms) (member l f (put k e ms)))
    at Greater later = rw later
    at x later = rw same

-- lists with the same entries have the same texts in rising order
rising_texts : {xs ys : List Data} → IsPermutation xs ys → map compact_text (rising_list compact_cmp xs) ≡ map compact_text (rising_list compact_cmp ys)
rising_texts {xs = xs} {ys = ys} h =
    rising_list_map compact_text text_cmp xs ∙ rising-reordered nat_list_cmp_total exact_bytes (IsPermutation-map compact_text _ _ h)
    ∙ sym (rising_list_map compact_text text_cmp ys)

-- ---- labels

abbrev pub in_label : Scope
in_label = scope.Members role.Label (Some class.InternationalizedText)

pub plain_beside : (k : List ℕ) → bytes_eq k (codes "@type") ≡ false → bytes_eq k (codes "Text") ≡ false
    → is_plain_kind (kind_of_member class.InternationalizedText k) ≡ true
plain_beside k e f = rw f (kind_of_unlisted_has is_plain_kind class.InternationalizedText k e refl refl refl)

pub steady_beside : (k : List ℕ) → bytes_eq k (codes "@type") ≡ false → bytes_eq k (codes "Text") ≡ false
    → is_steady_kind (kind_of_member class.InternationalizedText k) ≡ true
steady_beside k e f = rw f (kind_of_unlisted_has is_steady_kind class.InternationalizedText k e refl refl refl)

-- all that is asked beside `Text` is plain
pub all_plain_beside : (k : List ℕ) → bytes_eq k (codes "Text") ≡ false → AllPlain (want_of_name in_label k)
all_plain_beside k other = known_passes is_plain role.Label class.InternationalizedText k refl
    (λ e. plain_of_kind (kind_of_member class.InternationalizedText k) _ (plain_beside k e other))

-- the members of labels of the class
record LabelMembers (ms ns : Members) : Type 0 where
  beside : (k : List ℕ) → bytes_eq k (codes "Text") ≡ false → get_member k ms ≡ get_member k ns
  texts : IsPermutation (entries_at (codes "Text") (object ms)) (entries_at (codes "Text") (object ns))

module _ (m : Sides) where
  -- nothing beside `Text` may be absent
  beside_stays : (t : Data) (k : List ℕ) (d : Data) → bytes_eq k (codes "Text") ≡ false → MayBeAbsent t in_label k d → ⊥
  beside_stays t k d other h =
      stays_one t in_label k d
      (known_passes is_steady role.Label class.InternationalizedText k refl
      (λ e. steady_of_kind (kind_of_member class.InternationalizedText k) _ (steady_beside k e other))) refl h

  none_beside : (t : Data) (k : List ℕ) (o : Option Data) → bytes_eq k (codes "Text") ≡ false → MayLack t in_label k o → o ≡ None
  none_beside t k None other h = refl
  none_beside t k (Some d) other h = absurd (beside_stays t k d other (h.each d refl))

  same_beside : (k : List ℕ) (o p : Option Data) → bytes_eq k (codes "Text") ≡ false → Aligned m in_label k o p → o ≡ p
  same_beside k (Some d) (Some e) other (both_there h) = ap Some (steady_same m h (all_plain_beside k other))
  same_beside k o p other (not_both l r) = none_beside m.left k o other l ∙ sym (none_beside m.right k p other r)

  same_texts : (o p : Option Data) → Aligned m in_label (codes "Text") o p → IsPermutation (option_map_or entries_of o []) (option_map_or entries_of p [])
  same_texts (Some d) (Some e) (both_there h) =
      matched_equal (λ x y same. steady_same m same refl) (entries_matched m (Member kind.Languages true) h)
  same_texts o p (not_both l r) =
      subst (λ x. IsPermutation x (option_map_or entries_of p [])) (sym (lacking_empty m.left in_label (codes "Text") o refl l))
      (subst (IsPermutation []) (sym (lacking_empty m.right in_label (codes "Text") p refl r)) (IsPermutation-refl []))

  label_members : (ms ns : Members) → AreMembers ms → AreMembers ns → SameMembers m in_label ms ns → LabelMembers ms ns
  label_members ms ns left right h = record {
    beside = λ k other. same_beside k (get_member k ms) (get_member k ns) other (lookups m k h left right);
    texts = same_texts (get_member (codes "Text") ms) (get_member (codes "Text") ns) (lookups m (codes "Text") h left right);
  }

-- with their translations in rising order they have one text
text_of_members : (ms ns : Members) → AreMembers ms → AreMembers ns → LabelMembers ms ns → compact_text (with_rising_text (object ms))
    ≡ compact_text (with_rising_text (object ns))
text_of_members ms ns tree tree' h =
    let xs = rising_list compact_cmp (entries_at (codes "Text") (object ms)) in
    let ys = rising_list compact_cmp (entries_at (codes "Text") (object ns)) in
    let same : put (codes "Text") null ms ≡ put (codes "Text") null ns =
    members_unique (put (codes "Text") null ms) (put (codes "Text") null ns) (put-trees (codes "Text") null ms tree tt)
    (put-trees (codes "Text") null ns tree' tt)
    (λ k. at k (bytes_eq k (codes "Text")) refl) in
    let one : put (codes "Text") (array (items_of xs)) ms ≡ put (codes "Text") (array (items_of xs)) ns =
    sym (put_twice (codes "Text") (array (items_of xs)) null ms) ∙ ap (put (codes "Text") (array (items_of xs))) same
    ∙ put_twice (codes "Text") (array (items_of xs)) null ns in
    ap (λ x. compact_text (object x)) one
    ∙ ap (λ s. 123 ∷ s) (put_one_text false (codes "Text") (array (items_of xs)) (array (items_of ys)) ns (array_one_text xs ys (rising_texts h.texts)))
  where
    at : (k : List ℕ) (b : Bool) → bytes_eq k (codes "Text") ≡ b → get_member k (put (codes "Text") null ms) ≡ get_member k (put (codes "Text") null ns)
    at k true is =
        subst (λ n. get_member n (put (codes "Text") null ms) ≡ get_member n (put (codes "Text") null ns)) (sym (text_exact k (codes "Text") is))
        (get_member-put (codes "Text") null ms ∙ sym (get_member-put (codes "Text") null ns))
    at k false is = put_elsewhere k (codes "Text") null ms is ∙ h.beside k is ∙ sym (put_elsewhere k (codes "Text") null ns is)

-- labels that are objects
pub label_text : (m : Sides) (required : Bool) (ms : Members) (e : Data) → class_of_object role.Label (object ms) ≡ Some class.InternationalizedText
    → IsTree (object ms) → IsTree e
    → Same m (Some (Member kind.Label required)) (object ms) e → compact_text (with_rising_text (object ms)) ≡ compact_text (with_rising_text e)
label_text m required ms e among left right h =
    let o = of_object m (Member kind.Label required) ms e h in
    let tree : AreMembers o.members = subst IsTree o.is_object right in
    text_of_members ms o.members left tree
    (label_members m ms o.members left tree (subst (λ c. SameMembers m (scope.Members role.Label c) ms o.members) among o.same))
    ∙ sym (ap (λ x. compact_text (with_rising_text x)) o.is_object)

-- ---- completeness: labels of one class that mean the same say the same

plain_text : (m : Sides) (w : Want) (s : List ℕ) → is_plain w ≡ true → is_id_text w ≡ true → NameOneThing m s s
plain_text m w s plain is = absurd (true≢false (sym is ∙ plain_no_id w plain))

-- what is plain says what it says, whatever the functions of texts
pub plain_self : (m : Sides) (o : Option Want) (d : Data) → AllPlain o → Same m o d d
plain_self m o d plain = alike_same (alike_self m AllPlain (plain_text m) plain_entry plain_scope o d plain)

-- the parts of what a label means
abbrev map_of : Label → JsonMap
map_of (translated beside texts) = beside
map_of (untranslated s) = λ name. None

abbrev set_of : Label → JsonSet
set_of (translated beside texts) = texts
set_of (untranslated s) = λ d. false

-- the translations of a label, as an accepted report has them
pub record Translations (ms : Members) : Type 0 where
  pub items : Items
  pub stands : get_member (codes "Text") ms ≡ Some (array items)
  pub sound : AreSound (list_of_items items)
  pub apart : ApartBy itself (list_of_items items)

module _ (m : Sides) where
  -- equal members that are plain
  pub equal_aligned : (s : Scope) (k : List ℕ) (o p : Option Data) → AllPlain (want_of_name s k) → o ≡ p → Aligned m s k o p
  equal_aligned s k None p plain e = subst (Aligned m s k None) e (not_both (lacks_none m.left s k) (lacks_none m.right s k))
  equal_aligned s k (Some d) p plain e = subst (Aligned m s k (Some d)) e (both_there (plain_self m (want_of_name s k) d plain))

  texts_same : (ds es : Items) → IsPermutation (list_of_items ds) (list_of_items es) → Same m (Some (Member kind.Languages true)) (array ds) (array es)
  texts_same ds es h =
      a_set es refl h (entries_same (entries_self m AllPlain (plain_text m) plain_entry plain_scope (Some (Object role.Language)) es refl))

  pub labels_say : (ms ns : Members) → AreMembers ms → AreMembers ns → (left : Translations ms) (right : Translations ns) → get_member (codes "@type") ms
      ≡ get_member (codes "@type") ns → label_of (object ms) ≡ label_of (object ns) → SameMembers m in_label ms ns
  labels_say ms ns tree tree' left right types same =
      merged m in_label ms ns tree tree' (λ k. at k (bytes_eq k (codes "Text")) (bytes_eq k (codes "@type")) refl refl)
    where
      sets : json_set (list_of_items left.items) ≡ json_set (list_of_items right.items)
      sets = let h = ap set_of same in rw (left.stands, right.stands) at h

      at : (k : List ℕ) (a b : Bool) → bytes_eq k (codes "Text") ≡ a → bytes_eq k (codes "@type") ≡ b → Aligned m in_label k (get_member k ms) (get_member k ns)
      at k true b is type =
          let name : k ≡ codes "Text" = text_exact k (codes "Text") is in
          subst (λ x. Aligned m in_label x (get_member x ms) (get_member x ns)) (sym name)
          (rw (left.stands, right.stands)
          (both_there
          (texts_same left.items right.items (json_sets_reordered (list_of_items left.items) (list_of_items right.items) left.sound right.sound
          left.apart right.apart sets))))
      at k false true is type =
          let name : k ≡ codes "@type" = text_exact k (codes "@type") type in
          equal_aligned in_label k (get_member k ms) (get_member k ns) (all_plain_beside k is)
          (ap (λ x. get_member x ms) name ∙ types ∙ sym (ap (λ x. get_member x ns) name))
      at k false false is type =
          let h : label_beside_text (object ms) k ≡ label_beside_text (object ns) k = ap (λ l. map_of l k) same in
          equal_aligned in_label k (get_member k ms) (get_member k ns) (all_plain_beside k is)
          (rw (type, is) at h)

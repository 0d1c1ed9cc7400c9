-- Sets are written alike if and only if they are the same sets.
use Rattle.erd_text.proofs.Common.{◌≡◌, true, List, [], ◌∷◌, map, is_eq, Ordering, sym, refl, ap, ap₂, ◌∙◌, subst, fun_ext, both_ways, tied_itself}
use Rattle.erd_text.proofs.Common.{IsTotalOrder, IsDistinct, eq_by_cmp, Data, items_of, list_of_items, In, In-any, any_at, rising_unique, rising_list}
use Rattle.std.specs.Cmp.{Equal-is}
use Rattle.erd_check.proofs.Lists.{list_of_items-items_of}
use Rattle.erd_text.proofs.RisingOrders.{rising_strictly, In-rising, rising-In}
use Rattle.erd_meaning.specs.Keys.{key_cmp}
use Rattle.erd_meaning.specs.Records.{key_set}
use Rattle.erd_meaning.specs.code.Orders.{key_cmp_total, key_cmp_exact}
use Rattle.erd_meaning.specs.declared.keys.key.Key.{Key}
use Rattle.erd_shown.specs.KeyData.{array_of, shown_key}
use Rattle.erd_shown.specs.code.Fitting.{KeysTell}

-- ---- lists in rising order

module _ {A : Type 0} (cmp : A → A → Ordering) (order : IsTotalOrder cmp) where
  -- distinct entries have one rising order
  pub one_order : (xs ys : List A) → IsDistinct (eq_by_cmp cmp) xs → IsDistinct (eq_by_cmp cmp) ys → ((x : A) → In x xs → In x ys)
      → ((y : A) → In y ys → In y xs)
      → rising_list cmp xs ≡ rising_list cmp ys
  one_order xs ys left right to from =
      rising_unique cmp order (rising_list cmp xs) (rising_list cmp ys) (rising_strictly order xs left) (rising_strictly order ys right)
      (λ x i. rising-In cmp x ys (to x (In-rising cmp x xs i))) (λ y i. rising-In cmp y xs (from y (In-rising cmp y ys i)))

-- lists with one rising order have the same entries
pub same_entries : {A : Type 0} (cmp : A → A → Ordering) (xs ys : List A) → rising_list cmp xs ≡ rising_list cmp ys → (x : A) → In x xs → In x ys
same_entries cmp xs ys e x i = In-rising cmp x ys (subst (In x) e (rising-In cmp x xs i))

-- ---- arrays

pub array_exact : (xs ys : List Data) → array_of xs ≡ array_of ys → xs ≡ ys
array_exact xs ys e = let items : items_of xs ≡ items_of ys = cc in sym (list_of_items-items_of xs) ∙ ap list_of_items items ∙ list_of_items-items_of ys

pub key_exact : (k l : Key) → shown_key k ≡ shown_key l → k ≡ l
key_exact k l e =
    let kinds : k.kind ≡ l.kind = cc in
    let others : k.other ≡ l.other = cc in
    let values : k.value ≡ l.value = cc in
    λ i. record { kind = kinds i; other = others i; value = values i }

pub map_exact : {A B : Type 0} (f : A → B) → ((x y : A) → f x ≡ f y → x ≡ y) → (xs ys : List A) → map f xs ≡ map f ys → xs ≡ ys
map_exact f exact [] [] e = refl
map_exact f exact [] (y ∷ ys) e = cc
map_exact f exact (x ∷ xs) [] e = cc
map_exact f exact (x ∷ xs) (y ∷ ys) e =
    let first : f x ≡ f y = cc in
    let rest : map f xs ≡ map f ys = cc in
    ap₂ ◌∷◌ (exact x y first) (map_exact f exact xs ys rest)

-- ---- sets of keys

key_in : (ks : List Key) (k : Key) → key_set ks k ≡ true → In k ks
key_in ks k h = let r = In-any (λ l. is_eq (key_cmp l k)) ks h in subst (λ l. In l ks) (key_cmp_exact r.0 k ((Equal-is (key_cmp r.0 k)).0 r.2)) r.1

in_keys : (ks : List Key) (k : Key) → In k ks → key_set ks k ≡ true
in_keys ks k i = any_at (λ l. is_eq (key_cmp l k)) k ks i (ap is_eq (tied_itself key_cmp_total k))

pub keys_from : (ks ls : List Key) → IsDistinct (eq_by_cmp key_cmp) ks → IsDistinct (eq_by_cmp key_cmp) ls → key_set ks ≡ key_set ls → rising_list key_cmp ks
    ≡ rising_list key_cmp ls
keys_from ks ls left right same =
    one_order key_cmp key_cmp_total ks ls left right (λ k i. key_in ls k (sym (ap (λ s. s k) same) ∙ in_keys ks k i))
    (λ k i. key_in ks k (ap (λ s. s k) same ∙ in_keys ls k i))

pub to_keys : (ks ls : List Key) → rising_list key_cmp ks ≡ rising_list key_cmp ls → key_set ks ≡ key_set ls
to_keys ks ls e =
    fun_ext (λ k. both_ways (key_set ks k) (key_set ls k) (λ h. in_keys ls k (same_entries key_cmp ks ls e k (key_in ks k h)))
    (λ h. in_keys ks k (same_entries key_cmp ls ks (sym e) k (key_in ls k h))))

pub keys_tell : KeysTell
keys_tell π ρ t u f ds es left right = (
  λ e. to_keys _ _ (map_exact shown_key key_exact _ _ (array_exact _ _ e)),
  λ e. ap (λ ks. array_of (map shown_key ks)) (keys_from _ _ left right e),
)

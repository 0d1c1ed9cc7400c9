-- The rank of a key among the keys of a list is the number of entries with lesser keys. Wherever entries have the keys, the
-- ranks are in the order of the keys.
use Rattle.erd_meaning.proofs.Common.{◌≡◌, ℕ, ◌<◌, Bool, true, List, length, Some, None, filter, Option, nat_cmp, is_lt, Ordering, Less, Equal, Greater, sym}
use Rattle.erd_meaning.proofs.Common.{refl, ap, ◌∙◌, tied_itself, option_cmp, ordering_reverse, nat_cmp_total, less, In, key_cmp, key_cmp_total, key_cmp_exact}
use Rattle.erd_meaning.proofs.Common.{Key}
use Rattle.erd_check.proofs.Steps.{at_less}
use Rattle.erd_text.proofs.RisingOrders.{more_pass}

module _ {A : Type 0} (key : A → Option Key) (xs : List A) where
  -- an entry has the key
  pub record IsKeyOf (k : Key) : Type 0 where
    pub owner : A
    pub stands : In owner xs
    pub keyed : key owner ≡ Some k

  abbrev below : Key → A → Bool
  below k x = is_lt (option_cmp key_cmp (key x) (Some k))

  abbrev pub counted_rank : Key → ℕ
  counted_rank k = length (filter (below k) xs)

  below_later : (k l : Key) → key_cmp k l ≡ Less → (x : A) → below k x ≡ true → below l x ≡ true
  below_later k l low x h = at (key x) h
    where
      at : (o : Option Key) → is_lt (option_cmp key_cmp o (Some k)) ≡ true → is_lt (option_cmp key_cmp o (Some l)) ≡ true
      at None e = refl
      at (Some j) e = ap is_lt (key_cmp_total.trans j k l (less (key_cmp j k) e) low)

  rank_grows : (k l : Key) → IsKeyOf k → key_cmp k l ≡ Less → counted_rank k < counted_rank l
  rank_grows k l has less =
      more_pass (below k) (below l) (below_later k l less) has.owner xs
      (ap (λ o. is_lt (option_cmp key_cmp o (Some k))) has.keyed ∙ ap is_lt (tied_itself key_cmp_total k))
      (ap (λ o. is_lt (option_cmp key_cmp o (Some l))) has.keyed ∙ ap is_lt less)
      has.stands

  -- ranks compare as the keys do
  pub counted_as_key : (k l : Key) → IsKeyOf k → IsKeyOf l → nat_cmp (counted_rank k) (counted_rank l) ≡ key_cmp k l
  counted_as_key k l has other = at (key_cmp k l) refl
    where
      at : (o : Ordering) → key_cmp k l ≡ o → nat_cmp (counted_rank k) (counted_rank l) ≡ o
      at Less is = at_less (counted_rank k) (counted_rank l) (rank_grows k l has is)
      at Equal is = ap (λ x. nat_cmp (counted_rank k) (counted_rank x)) (sym (key_cmp_exact k l is)) ∙ tied_itself nat_cmp_total (counted_rank k)
      at Greater is =
          let turned : nat_cmp (counted_rank l) (counted_rank k) ≡ Less =
          at_less (counted_rank l) (counted_rank k) (rank_grows l k other (key_cmp_total.antisymm l k ∙ ap ordering_reverse is)) in
          nat_cmp_total.antisymm (counted_rank k) (counted_rank l) ∙ ap ordering_reverse turned

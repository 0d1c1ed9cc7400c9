-- The entries of arrays: what is asked of them, and that none of a set is equal to another.
use Rattle.erd_normal.proofs.Common.{◌≡◌, ℕ, true, false, List, Some, sym, refl, ap, ◌∙◌, subst, Data, list_of_items, entries_of, IsTree, zero, suc}
use Rattle.erd_normal.proofs.Common.{AllByRecursion, array, Items, no_items, item, get_item, At, Within-step, Within, entry_want, is_compared_set, asked, Want}
use Rattle.erd_normal.proofs.Common.{is_empty_array, [], length, nil_from_length, Decides-eqb, ◌∷◌, true≢false, is_repeated, take, false_from_ne_true}
use Rattle.erd_normal.proofs.Common.{IsDistinct, list_any, items_of, is_same_exact, list_of_items-items_of, is_same_json}
use Rattle.erd_normal.proofs.lists.Lists.{entry_holds}

pub no_entry : (d : Data) → is_empty_array d ≡ true → entries_of d ≡ []
no_entry (array ds) is = nil_from_length (list_of_items ds) ((Decides-eqb (length (list_of_items ds)) 0).0 is)
no_entry d is = cc

-- what holds of each entry by its position holds of all
pub all_items : (P : Data → Type 0) (ds : Items) → ((i : ℕ) (d : Data) → get_item i ds ≡ Some d → P d) → AllByRecursion P (list_of_items ds)
all_items P no_items each = tt
all_items P (item d ds) each = (each zero d refl, all_items P ds (λ i. each (suc i)))

-- what is asked of an entry of an array whose entries are not compared with one another
pub entry_asked : (t : Data) (w v : Want) (ds : Items) → entry_want w ≡ Some v → is_compared_set w ≡ false → Within t (asked w (array ds))
    → (i : ℕ) (d : Data) → get_item i ds ≡ Some d → Within t (asked v d)
entry_asked t w v ds want apart inside i d found = Within-step t (asked w (array ds)) (asked v d) (At i) inside (rw (want, apart, found) refl)

pub entries_asked : (t : Data) (w v : Want) (ds : Items) → entry_want w ≡ Some v → is_compared_set w ≡ false → Within t (asked w (array ds))
    → AllByRecursion (λ d. Within t (asked v d)) (list_of_items ds)
entries_asked t w v ds want apart inside = all_items (λ d. Within t (asked v d)) ds (entry_asked t w v ds want apart inside)

-- ---- entries that are equal as JSON

-- entries of which none is equal to an earlier one
abbrev pub AreUnlike : List Data → Type 0
AreUnlike ds = IsDistinct (λ d e. is_same_json e d) ds

pub same_turned : (d e : Data) → IsTree d → IsTree e → is_same_json e d ≡ false → is_same_json d e ≡ false
same_turned d e tree tree' apart = false_from_ne_true (is_same_json d e) (λ h.
    let same : d ≡ e = is_same_exact d e tree tree' h in
    true≢false (sym (subst (λ x. is_same_json x d ≡ true) same (subst (λ x. is_same_json d x ≡ true) (sym same) h)) ∙ apart))

none_taken : (ds : List Data) (i : ℕ) (d : Data) → AreUnlike ds → get_item i (items_of ds) ≡ Some d → list_any (is_same_json d) (take i ds) ≡ false
unfolding IsDistinct
none_taken [] i d all found = cc
none_taken (e ∷ ds) zero d all found = refl
none_taken (e ∷ ds) (suc i) d all found =
    let first : is_same_json d e ≡ false = entry_holds (λ x. is_same_json x e ≡ false) ds i d all.0 found in
    rw first (none_taken ds i d all.1 found)

-- no entry of their array is repeated
pub unlike_unrepeated : (ds : List Data) (i : ℕ) (d : Data) → AreUnlike ds → get_item i (items_of ds) ≡ Some d → is_repeated (items_of ds) i d ≡ false
unlike_unrepeated ds i d all found = ap (λ es. list_any (is_same_json d) (take i es)) (list_of_items-items_of ds) ∙ none_taken ds i d all found

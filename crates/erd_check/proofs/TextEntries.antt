-- The walk may pass over an array of references that are all texts.
use Rattle.erd_check.proofs.Common.{◌≡◌, ℕ, Bool, true, false, cond, ◌&&◌, List, [], ◌∷◌, ◌++◌, length, IfSome, Some, Option, refl, ap, ap₂, list_all, list_any}
use Rattle.erd_check.proofs.Common.{option_map_or, Data, string, array, Items, items_of, Family, kind, Step, At, is_text, is_empty_array, is_reference}
use Rattle.erd_check.proofs.Common.{is_same_json, faults_of, told_of_items, AreItemsInOrder, AreItemsKnown, IsInOrder, IsKnown, IsSilentMember, entry_want}
use Rattle.erd_check.proofs.Common.{is_compared_set, EmptyArray, reasons, IsAskedInRange, Want, Member, Reference}

no_reason : (f : Family) (repeated : Bool) (s : List ℕ) → reasons (Reference f) repeated (string s) ≡ []
no_reason f true s = refl
no_reason f false s = refl

in_range : (f : Family) (s : List ℕ) → IsAskedInRange (Reference f) (string s)
in_range f s h = cc

module _ (f : Family) where
  texts_told : (outer owner : Data) (p : List Step) (is_set : Bool) (earlier ds : List Data) → list_all is_text ds ≡ true
      → told_of_items (λ outer. reasons) outer owner p (Reference f) is_set earlier (items_of ds) ≡ []
  texts_told outer owner p is_set earlier [] e = refl
  texts_told outer owner p is_set earlier (string s ∷ ds) e =
      ap₂ ◌++◌ (ap (faults_of (p ++ At (length earlier) ∷ [])) (no_reason f (is_set && list_any (is_same_json (string s)) earlier) s))
      (texts_told outer owner p is_set (earlier ++ string s ∷ []) ds e)
  texts_told outer owner p is_set earlier (_ ∷ ds) e = cc

  texts_known : (ds : List Data) → list_all is_text ds ≡ true → AreItemsKnown IsAskedInRange (Reference f) (items_of ds)
  texts_known [] e = tt
  texts_known (string s ∷ ds) e = (in_range f s, texts_known ds e)
  texts_known (_ ∷ ds) e = cc

  texts_in_order : (ds : List Data) → list_all is_text ds ≡ true → AreItemsInOrder (Reference f) (items_of ds)
  texts_in_order [] e = tt
  texts_in_order (string s ∷ ds) e = (tt, texts_in_order ds e)
  texts_in_order (_ ∷ ds) e = cc

told_where : (o : Option Want) → option_map_or is_reference o false ≡ true → (outer owner : Data) (p : List Step) (is_set : Bool) (ds : List Data)
    → list_all is_text ds ≡ true → option_map_or (λ v. told_of_items (λ outer. reasons) outer owner p v is_set [] (items_of ds)) o [] ≡ []
told_where (Some (Reference f)) e outer owner p is_set ds t = texts_told f outer owner p is_set [] ds t
told_where _ e outer owner p is_set ds t = cc

known_where : (o : Option Want) → option_map_or is_reference o false ≡ true → (ds : List Data) → list_all is_text ds ≡ true
    → IfSome o (λ v. AreItemsKnown IsAskedInRange v (items_of ds))
known_where (Some (Reference f)) e ds t = texts_known f ds t
known_where _ e ds t = cc

in_order_where : (o : Option Want) → option_map_or is_reference o false ≡ true → (ds : List Data) → list_all is_text ds ≡ true
    → IfSome o (λ v. AreItemsInOrder v (items_of ds))
in_order_where (Some (Reference f)) e ds t = texts_in_order f ds t
in_order_where _ e ds t = cc

-- of the array itself, nothing is told if it has an entry
none_of_array : (w : Want) → option_map_or is_reference (entry_want w) false ≡ true → (ds : Items) → is_empty_array (array ds) ≡ false
    → reasons w false (array ds) ≡ []
none_of_array (Member (kind.Many f) true) e ds some = ap (λ b. cond b (EmptyArray ∷ []) [] ++ []) some
none_of_array (Member (kind.Many f) false) e ds some = refl
none_of_array (Member kind.Ordered required) e ds some = refl
none_of_array w e ds some = cc

module _ (w : Want) (references : option_map_or is_reference (entry_want w) false ≡ true) (ds : List Data) (texts : list_all is_text ds ≡ true) where
  pub texts_silent : is_empty_array (array (items_of ds)) ≡ false → (owner : Data) → IsSilentMember (λ outer. reasons) owner w (array (items_of ds))
  texts_silent some owner outer p =
      ap₂ ◌++◌ (ap (faults_of p) (none_of_array w references (items_of ds) some))
      (told_where (entry_want w) references owner (array (items_of ds)) p (is_compared_set w) ds texts)

  pub texts_are_known : IsKnown IsAskedInRange w (array (items_of ds))
  texts_are_known = (λ h. cc, known_where (entry_want w) references ds texts)

  pub texts_are_in_order : IsInOrder w (array (items_of ds))
  texts_are_in_order = in_order_where (entry_want w) references ds texts

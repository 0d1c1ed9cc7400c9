-- Arrays of references in which no reason is told: each names an object of the family, and no two entries of a set name one.
use Rattle.erd_meaning.proofs.Common.{◌≡◌, ℕ, ◌+◌, ◌<◌, ◌≤◌, Bool, true, false, ◌&&◌, ◌||◌, List, [], ◌∷◌, ◌++◌, map, length, get_or, drop, ◌==◌, Some, sym}
use Rattle.erd_meaning.proofs.Common.{refl, ap, ◌∙◌, subst, ap₂, append_assoc, arith, ne_eqb, eqb-false, false_from_ne_true, drop_more, at_drop_all}
use Rattle.erd_meaning.proofs.Common.{bytes_decides, AllByRecursion, IsDistinct, list_any, ⊤, Data, items_of, view, Value, Family, Repeated, Step, At}
use Rattle.erd_meaning.proofs.Common.{is_same_json, faults_of, told_at, told_of_items, Reference, number_among, Kept, reason_if, id_reasons}
use Rattle.erd_meaning.proofs.Common.{reference_reasons_told, AreClear, IsClear, IsRisingFrom}

-- ---- numbers that differ

all_from : (n m : ℕ) (xs : List ℕ) → n ≤ m → AllByRecursion (λ y. m ≤ y) xs → AllByRecursion (λ y. n ≤ y) xs
all_from n m [] l all = tt
all_from n m (x ∷ xs) l all = let low : m ≤ x = all.0 in (omega arith, all_from n m xs l all.1)

above : (n : ℕ) (xs : List ℕ) → IsRisingFrom n xs → AllByRecursion (λ y. n ≤ y) xs
above n [] rising = tt
above n (x ∷ xs) rising = (rising.0, all_from n (x + 1) xs (let low : n ≤ x = rising.0 in omega arith) (above (x + 1) xs rising.1))

not_equal : (x : ℕ) (ys : List ℕ) → AllByRecursion (λ y. x + 1 ≤ y) ys → AllByRecursion (λ y. (x == y) ≡ false) ys
not_equal x [] all = tt
not_equal x (y ∷ ys) all = (ne_eqb x y (λ same. let low : x + 1 ≤ y = all.0 in omega arith), not_equal x ys all.1)

pub rising_differ : (n : ℕ) (xs : List ℕ) → IsRisingFrom n xs → IsDistinct (λ a b. a == b) xs
unfolding IsDistinct
rising_differ n [] rising = tt
rising_differ n (x ∷ xs) rising = (not_equal x xs (above (x + 1) xs rising.1), rising_differ (x + 1) xs rising.1)

-- ---- entries and the positions of their objects

module _ (ks : List Kept) (outer : Data) (f : Family) where
  -- each entry names the object at its position
  abbrev pub ArePlaced : List Data → List ℕ → Type 0
  ArePlaced [] [] = ⊤
  ArePlaced (d ∷ ds) (n ∷ ns) = IsClear ks outer f d n × ArePlaced ds ns
  ArePlaced _ _ = ⊥

  placed_last : (ds : List Data) (ns : List ℕ) (d : Data) (n : ℕ) → ArePlaced ds ns → IsClear ks outer f d n → ArePlaced (ds ++ d ∷ []) (ns ++ n ∷ [])
  placed_last [] [] d n placed one = (one, tt)
  placed_last (e ∷ ds) (m ∷ ns) d n placed one = (placed.0, placed_last ds ns d n placed.1 one)
  placed_last [] (m ∷ ns) d n placed one = absurd placed
  placed_last (e ∷ ds) [] d n placed one = absurd placed

  one_object : (d e : Data) (n m : ℕ) → IsClear ks outer f d n → IsClear ks outer f e m → is_same_json d e ≡ true → m ≡ n
  one_object d e n m one other same =
      let texts : one.text ≡ other.text = (bytes_decides one.text other.text).0 (sym (ap₂ is_same_json one.is other.is) ∙ same) in
      let found : Some m ≡ Some n = sym other.named ∙ ap (number_among ks f) (sym texts) ∙ one.named in
      cc

  in_the_middle : (P : ℕ → Type 0) (ms : List ℕ) (n : ℕ) (ns : List ℕ) → AllByRecursion P (ms ++ n ∷ ns) → P n
  in_the_middle P [] n ns all = all.0
  in_the_middle P (m ∷ ms) n ns all = in_the_middle P ms n ns all.1

  not_repeated : (earlier : List Data) (ms : List ℕ) (d : Data) (n : ℕ) (ns : List ℕ) → ArePlaced earlier ms → IsClear ks outer f d n
      → IsDistinct (λ a b. a == b) (ms ++ n ∷ ns) → list_any (is_same_json d) earlier ≡ false
  unfolding IsDistinct
  not_repeated [] ms d n ns placed one differ = refl
  not_repeated (e ∷ earlier) [] d n ns placed one differ = absurd placed
  not_repeated (e ∷ earlier) (m ∷ ms) d n ns placed one differ =
      let apart : (m == n) ≡ false = in_the_middle (λ y. (m == y) ≡ false) ms n ns differ.0 in
      ap₂ ◌||◌ (false_from_ne_true (is_same_json d e) (λ same. eqb-false m n apart (one_object d e n m one placed.0 same)))
      (not_repeated earlier ms d n ns placed.1 one differ.1)

  repeats_nothing : (is_set : Bool) (earlier : List Data) (ms : List ℕ) (d : Data) (n : ℕ) (ns : List ℕ) → ArePlaced earlier ms → IsClear ks outer f d n
      → (is_set ≡ true → IsDistinct (λ a b. a == b) (ms ++ n ∷ ns)) → (is_set && list_any (is_same_json d) earlier) ≡ false
  repeats_nothing true earlier ms d n ns placed one differ = not_repeated earlier ms d n ns placed one (differ refl)
  repeats_nothing false earlier ms d n ns placed one differ = refl

  entry_told : (owner : Data) (q : List Step) (repeated : Bool) (d : Data) (n : ℕ) → IsClear ks outer f d n → repeated ≡ false
      → told_at (reference_reasons_told ks) outer owner q (Reference f) repeated d ≡ []
  entry_told owner q repeated d n one first =
      ap (told_at (reference_reasons_told ks) outer owner q (Reference f) repeated) one.is
      ∙ ap (λ b. faults_of q (reason_if b Repeated ++ id_reasons ks outer f one.text)) first ∙ ap (faults_of q) one.clear

  entries_told : (is_set : Bool) (earlier ds : List Data) (ms ns : List ℕ) → ArePlaced earlier ms → ArePlaced ds ns
      → (is_set ≡ true → IsDistinct (λ a b. a == b) (ms ++ ns))
      → (owner : Data) (p : List Step) → told_of_items (reference_reasons_told ks) outer owner p (Reference f) is_set earlier (items_of ds) ≡ []
  entries_told is_set earlier [] ms ns before placed differ owner p = refl
  entries_told is_set earlier (d ∷ ds) ms [] before placed differ owner p = absurd placed
  entries_told is_set earlier (d ∷ ds) ms (n ∷ ns) before placed differ owner p =
      ap₂ ◌++◌
      (entry_told owner (p ++ At (length earlier) ∷ []) (is_set && list_any (is_same_json d) earlier) d n placed.0
      (repeats_nothing is_set earlier ms d n ns before placed.0 differ))
      (entries_told is_set (earlier ++ d ∷ []) ds (ms ++ n ∷ []) ns (placed_last earlier ms d n before placed.0) placed.1
      (λ t. subst (IsDistinct (λ a b. a == b)) (sym (append_assoc ms (n ∷ []) ns)) (differ t)) owner p)

  pub clear_array : (is_set : Bool) (ds : List Data) (ns : List ℕ) → ArePlaced ds ns → (is_set ≡ true → IsDistinct (λ a b. a == b) ns)
      → AreClear ks outer f is_set (items_of ds)
  clear_array is_set ds ns placed differ owner p = entries_told is_set [] ds [] ns tt placed differ owner p

  -- ---- what is left of an array

  pub placed_left : (vs : List Value) (i : ℕ) (v : Value) (n : ℕ) (ns : List ℕ) → i < length vs → v ≡ get_or vs i v → IsClear ks outer f (view v) n
      → ArePlaced (map view (drop (i + 1) vs)) ns → ArePlaced (map view (drop i vs)) (n ∷ ns)
  placed_left vs i v n ns inside is one more =
      subst (λ (ws : List Value). ArePlaced (map view ws) (n ∷ ns)) (sym (drop_more vs i v inside ∙ ap (λ w. w ∷ drop (i + 1) vs) (sym is))) (one, more)

  pub none_left : (vs : List Value) (i : ℕ) → length vs ≤ i → ArePlaced (map view (drop i vs)) []
  none_left vs i over = subst (λ (ws : List Value). ArePlaced (map view ws) []) (sym (at_drop_all (λ (ws : List Value). ws) vs i over)) tt

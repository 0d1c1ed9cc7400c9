-- Nothing changes but what is told.
use Rattle.std.proofs.Common.{arith, ◌≡◌, ℕ, zero, suc, ◌+◌, ◌==◌, Bool, true, false, not, ◌&&◌, ◌||◌, if◌then◌else◌, List, [], ◌∷◌, ◌++◌, Option, Some, None}
use Rattle.std.proofs.Common.{option_and_then, unwrap_or, Ordering, Less, Equal, Greater, nat_cmp, is_some, refl, sym, ap, ap₂, ◌∙◌, subst, append_assoc}
use Rattle.std.proofs.Common.{append-nil, bytes_eq, rules}
use Rattle.std.proofs.lemmas.List.Folds.{list_all-append}
use Rattle.std.specs.Cmp.Lexicographic.{slice_cmp}
use Rattle.std.specs.Ordering.{match_ordering}
use Rattle.serde_json.specs.Data.{Data, null, boolean, number, string, array, object, Items, no_items, item, Members, no_members, member, put}
use Rattle.serde_json.specs.Find.{as_null}
use Rattle.erd_tables.specs.declared.place.Step.{Step}
use Rattle.erd_tables.specs.declared.place.Step.TheVariants.{Name, At}
use Rattle.erd_check.specs.Wants.{want_of_name}
use Rattle.erd_check.specs.declared.want.Scope.{Scope}
use Rattle.erd_check.specs.declared.want.Want.{Want}
use Rattle.erd_check.proofs.Common.{and_parts}
use Rattle.erd_check.proofs.Exact.{text_exact, text_itself}
use Rattle.erd_check.proofs.Steps.{text_from_equal}
use Rattle.erd_prepare.specs.Nulls.{nulls}
use Rattle.erd_prepare.specs.Places.{are_apart, entries_kept, entry_number, is_same_step, is_untold, member_named, place_after, value_at}
use Rattle.erd_prepare.specs.Rules.{Rule, Told, entry_in, list_of_one, prepared, prepared_items, prepared_members, prepared_object, put_all, scope_in, told}
use Rattle.erd_prepare.specs.Rules.{told_change, told_items, told_members, told_object, told_puts, told_shape}

-- ---- places

same_number : (i : ℕ) → (i == i) ≡ true
same_number i = search rules

same_step : (s : Step) → is_same_step s s ≡ true
same_step (Name k) = text_itself k
same_step (At i) = same_number i

along : (p x y : List Step) → are_apart (p ++ x) (p ++ y) ≡ are_apart x y
along [] x y = refl
along (s ∷ p) x y = ap (λ b. not b || are_apart (p ++ x) (p ++ y)) (same_step s) ∙ along p x y

inside_touches : (z x : List Step) → are_apart (z ++ x) z ≡ false
inside_touches [] [] = refl
inside_touches [] (s ∷ x) = refl
inside_touches (s ∷ z) x = ap (λ b. not b || are_apart (z ++ x) z) (same_step s) ∙ inside_touches z x

around_touches : (p q : List Step) → are_apart p (p ++ q) ≡ false
around_touches [] q = refl
around_touches (s ∷ p) q = ap (λ b. not b || are_apart p (p ++ q)) (same_step s) ∙ around_touches p q

told_there : {A : Type 0} (a b : Bool) → a ≡ false → (a && b) ≡ true → A
told_there true b e h = cc
told_there false b e h = cc

both_untold : (q : List Step) (xs ys : List Told) → is_untold q (xs ++ ys) ≡ true → (is_untold q xs ≡ true) × (is_untold q ys ≡ true)
both_untold q xs ys h = and_parts (is_untold q xs) (is_untold q ys) (sym (list_all-append (λ (c : Told). are_apart c.place q) xs ys) ∙ h)

-- ---- nothing told at, in or around a place

module _ (r : Rule) (z : List Step) where
  shape_kept : (p x : List Step) (d : Data) (o : Option Data) (inner : List Told) (rest : Data) → p ≡ z ++ x → is_untold z (told_shape p d o inner) ≡ true
      → (is_untold z inner ≡ true → rest ≡ d) → unwrap_or o rest ≡ d
  shape_kept p x d None inner rest e u h = h u
  shape_kept p x d (Some v) inner rest e u h = told_there (are_apart p z) _ (ap (λ y. are_apart y z) e ∙ inside_touches z x) u

  wrap_kept : (p x : List Step) (d : Data) (b : Bool) (first inner : List Told) (list rest : Data) → p ≡ z ++ x
      → is_untold z (if b then told_change p d (Some (list_of_one d)) ∷ first else inner) ≡ true → (is_untold z inner ≡ true → rest ≡ d)
      → (if b then list else rest) ≡ d
  wrap_kept p x d true first inner list rest e u h = told_there (are_apart p z) _ (ap (λ y. are_apart y z) e ∙ inside_touches z x) u
  wrap_kept p x d false first inner list rest e u h = h u

  put_kept : (p x : List Step) (d : Data) (ps : List (List ℕ × Data)) (ms : Members) → p ≡ z ++ x → is_untold z (told_puts p d ps) ≡ true → put_all ps ms ≡ ms
  put_kept p x d [] ms e u = refl
  put_kept p x d (m ∷ ps) ms e u =
      told_there (are_apart (p ++ Name m.0 ∷ []) z) _
      (ap (λ y. are_apart (y ++ Name m.0 ∷ []) z) e ∙ ap (λ y. are_apart y z) (append_assoc z x (Name m.0 ∷ [])) ∙ inside_touches z (x ++ Name m.0 ∷ [])) u

  item_kept : (p x : List Step) (b : Bool) (d : Data) (inner : List Told) (rest : Items) (e : Data) (ds : Items) → p ≡ z ++ x
      → is_untold z (if b then told_change p d None ∷ [] else inner) ≡ true → (is_untold z inner ≡ true → e ≡ d) → rest ≡ ds
      → (if b then rest else item e rest) ≡ item d ds
  item_kept p x true d inner rest v ds e u here later = told_there (are_apart p z) _ (ap (λ y. are_apart y z) e ∙ inside_touches z x) u
  item_kept p x false d inner rest v ds e u here later = ap₂ item (here u) later

  member_kept : (p x : List Step) (b : Bool) (d : Data) (inner : List Told) (k : List ℕ) (rest : Members) (e : Data) (ms : Members) → p ≡ z ++ x
      → is_untold z (if b then told_change p d None ∷ [] else inner) ≡ true → (is_untold z inner ≡ true → e ≡ d) → rest ≡ ms
      → (if b then rest else member k e rest) ≡ member k d ms
  member_kept p x true d inner k rest v ms e u here later = told_there (are_apart p z) _ (ap (λ y. are_apart y z) e ∙ inside_touches z x) u
  member_kept p x false d inner k rest v ms e u here later = ap₂ (member k) (here u) later

  deeper : (p x : List Step) (s : Step) → p ≡ z ++ x → p ++ s ∷ [] ≡ z ++ (x ++ s ∷ [])
  deeper p x s e = ap (λ y. y ++ s ∷ []) e ∙ append_assoc z x (s ∷ [])

  kept_object : (p x : List Step) → p ≡ z ++ x → (w : Option Want) (ms : Members)
      → (is_untold z (told_members r p (r.scopes w (object ms)) ms) ≡ true → prepared_members r p (r.scopes w (object ms)) ms ≡ ms)
      → is_untold z (told_object r p w ms) ≡ true → prepared_object r p w ms ≡ object ms
  kept_object p x e w ms later u =
      let s = r.scopes w (object ms) in
      let parts = both_untold z (told_members r p s ms) (told_puts p (object ms) (r.puts p w (object ms))) u in
      ap object (put_kept p x (object ms) (r.puts p w (object ms)) (prepared_members r p s ms) e parts.1 ∙ later parts.0)

  mutual
    kept : (p x : List Step) → p ≡ z ++ x → (w : Option Want) (d : Data) → is_untold z (told r p w d) ≡ true → prepared r p w d ≡ d
    kept p x e w null u = shape_kept p x null (r.shapes p w null) [] null e u (λ h. refl)
    kept p x e w (boolean b) u = shape_kept p x (boolean b) (r.shapes p w (boolean b)) [] (boolean b) e u (λ h. refl)
    kept p x e w (number n) u = shape_kept p x (number n) (r.shapes p w (number n)) [] (number n) e u (λ h. refl)
    kept p x e w (string s) u = shape_kept p x (string s) (r.shapes p w (string s)) [] (string s) e u (λ h. refl)
    kept p x e w (array ds) u =
        shape_kept p x (array ds) (r.shapes p w (array ds)) (told_items r p w 0 ds) (array (prepared_items r p w 0 ds)) e u
        (λ h. ap array (kept_items p x e w 0 ds h))
    kept p x e w (object ms) u =
        shape_kept p x (object ms) (r.shapes p w (object ms)) _ _ e u
        (λ h. wrap_kept p x (object ms) (r.wraps p w (object ms)) (told_object r p (entry_in w) ms) (told_object r p w ms)
        (list_of_one (prepared_object r p (entry_in w) ms)) (prepared_object r p w ms) e h
        (kept_object p x e w ms (λ k. kept_members p x e (r.scopes w (object ms)) ms k)))

    kept_items : (p x : List Step) → p ≡ z ++ x → (w : Option Want) (i : ℕ) (ds : Items) → is_untold z (told_items r p w i ds) ≡ true
        → prepared_items r p w i ds ≡ ds
    kept_items p x e w i no_items u = refl
    kept_items p x e w i (item d ds) u =
        let at = p ++ At i ∷ [] in
        let f : at ≡ z ++ (x ++ At i ∷ []) = deeper p x (At i) e in
        let parts = both_untold z (if r.lets_go at w d then told_change at d None ∷ [] else told r at (entry_in w) d) (told_items r p w (i + 1) ds) u in
        item_kept at (x ++ At i ∷ []) (r.lets_go at w d) d (told r at (entry_in w) d) (prepared_items r p w (i + 1) ds)
        (prepared r at (entry_in w) d) ds f parts.0
        (kept at (x ++ At i ∷ []) f (entry_in w) d) (kept_items p x e w (i + 1) ds parts.1)

    kept_members : (p x : List Step) → p ≡ z ++ x → (s : Scope) (ms : Members) → is_untold z (told_members r p s ms) ≡ true → prepared_members r p s ms ≡ ms
    kept_members p x e s no_members u = refl
    kept_members p x e s (member k d ms) u =
        let at = p ++ Name k ∷ [] in
        let f : at ≡ z ++ (x ++ Name k ∷ []) = deeper p x (Name k) e in
        let parts = both_untold z (if r.drops at s k d then told_change at d None ∷ [] else told r at (want_of_name s k) d) (told_members r p s ms) u in
        member_kept at (x ++ Name k ∷ []) (r.drops at s k d) d (told r at (want_of_name s k) d) k (prepared_members r p s ms)
        (prepared r at (want_of_name s k) d) ms f parts.0
        (kept at (x ++ Name k ∷ []) f (want_of_name s k) d) (kept_members p x e s ms parts.1)

pub unchanged : (r : Rule) (p : List Step) (w : Option Want) (d : Data) → told r p w d ≡ [] → prepared r p w d ≡ d
unchanged r p w d e = kept r p p [] (sym (append-nil p)) w d (ap (is_untold p) e)

-- ---- what stands where nothing is told

told_alone : (p q : List Step) (d : Data) (after : Option Data) {A : Type 0} → is_untold (p ++ q) (told_change p d after ∷ []) ≡ true → A
told_alone p q d after u = told_there (are_apart p (p ++ q)) true (around_touches p q) u

shape_stays : (p q at : List Step) (d : Data) (o : Option Data) (inner : List Told) (rest : Data) → is_untold (p ++ q) (told_shape p d o inner) ≡ true
    → (is_untold (p ++ q) inner ≡ true → value_at at rest ≡ value_at q d) → value_at at (unwrap_or o rest) ≡ value_at q d
shape_stays p q at d None inner rest u h = h u
shape_stays p q at d (Some v) inner rest u h = told_there (are_apart p (p ++ q)) _ (around_touches p q) u

wrap_stays : (p q at : List Step) (d : Data) (b : Bool) (first inner : List Told) (list rest : Data)
    → is_untold (p ++ q) (if b then told_change p d (Some (list_of_one d)) ∷ first else inner) ≡ true
    → (is_untold (p ++ q) inner ≡ true → value_at at rest ≡ value_at q d) → value_at at (if b then list else rest) ≡ value_at q d
wrap_stays p q at d true first inner list rest u h = told_there (are_apart p (p ++ q)) _ (around_touches p q) u
wrap_stays p q at d false first inner list rest u h = h u

other_than_equal : (k l m : List ℕ) → l ≡ m → bytes_eq k l ≡ false → bytes_eq k m ≡ false
other_than_equal k l m e f = sym (ap (bytes_eq k) e) ∙ f

put_at : (k l m : List ℕ) (x d : Data) (ms : Members) (o : Ordering) → slice_cmp nat_cmp l m ≡ o → bytes_eq k l ≡ false
    → member_named (put l x ms) k ≡ member_named ms k
    → member_named (match_ordering o (member l x (member m d ms)) (member m x ms) (member m d (put l x ms))) k ≡ member_named (member m d ms) k
put_at k l m x d ms Less is f later = ap (λ b. if b then Some x else member_named (member m d ms) k) f
put_at k l m x d ms Equal is f later =
    let g : bytes_eq k m ≡ false = other_than_equal k l m (text_from_equal l m is) f in
    ap (λ b. if b then Some x else member_named ms k) g ∙ sym (ap (λ b. if b then Some d else member_named ms k) g)
put_at k l m x d ms Greater is f later = ap (λ y. if bytes_eq k m then Some d else y) later

other_put : (k l : List ℕ) (x : Data) (ms : Members) → bytes_eq k l ≡ false → member_named (put l x ms) k ≡ member_named ms k
other_put k l x no_members f = ap (λ b. if b then Some x else None) f
other_put k l x (member m d ms) f = put_at k l m x d ms (slice_cmp nat_cmp l m) refl f (other_put k l x ms f)

named_apart : (k l : List ℕ) (p q : List Step) (b : Bool) → (are_apart (p ++ Name l ∷ []) (p ++ Name k ∷ q) && b) ≡ true → bytes_eq k l ≡ false
named_apart k l p q b u = at (bytes_eq k l) refl
  where
    at : (c : Bool) → bytes_eq k l ≡ c → bytes_eq k l ≡ false
    at false is = is
    at true is =
        let same : k ≡ l = text_exact k l is in
        told_there (are_apart (p ++ Name l ∷ []) (p ++ Name k ∷ q)) b
        (along p (Name l ∷ []) (Name k ∷ q) ∙ ap (λ n. not (bytes_eq l n) || false) same ∙ ap (λ c. not c || false) (text_itself l)) u

puts_apart : (k : List ℕ) (p q : List Step) (d : Data) (ps : List (List ℕ × Data)) (ms : Members) → is_untold (p ++ Name k ∷ q) (told_puts p d ps) ≡ true
    → member_named (put_all ps ms) k ≡ member_named ms k
puts_apart k p q d [] ms u = refl
puts_apart k p q d (m ∷ ps) ms u =
    puts_apart k p q d ps (put m.0 m.1 ms) (and_parts (are_apart (p ++ Name m.0 ∷ []) (p ++ Name k ∷ q)) (is_untold (p ++ Name k ∷ q) (told_puts p d ps)) u).1
    ∙ other_put k m.0 m.1 ms (named_apart k m.0 p q (is_untold (p ++ Name k ∷ q) (told_puts p d ps)) u)

passed_member : (b : Bool) (k l : List ℕ) (e : Data) (rest : Members) → bytes_eq k l ≡ false → member_named (if b then rest else member l e rest)
    k ≡ member_named rest k
passed_member true k l e rest f = refl
passed_member false k l e rest f = ap (λ b. if b then Some e else member_named rest k) f

found_member : (b : Bool) (k l : List ℕ) (p q : List Step) (d e : Data) (inner : List Told) (rest : Members) (at : List Step) → k ≡ l
    → is_untold (p ++ Name k ∷ q) (if b then told_change (p ++ Name l ∷ []) d None ∷ [] else inner) ≡ true
    → (is_untold (p ++ Name k ∷ q) inner ≡ true → value_at at e ≡ value_at q d)
    → option_and_then (value_at at) (member_named (if b then rest else member l e rest) k) ≡ value_at q d
found_member true k l p q d e inner rest at same u h =
    told_there (are_apart (p ++ Name l ∷ []) (p ++ Name k ∷ q)) true
    (along p (Name l ∷ []) (Name k ∷ q) ∙ ap (λ n. not (bytes_eq l n) || false) same ∙ ap (λ c. not c || false) (text_itself l)) u
found_member false k l p q d e inner rest at same u h =
    ap (λ b. option_and_then (value_at at) (if b then Some e else member_named rest k)) (ap (λ n. bytes_eq n l) same ∙ text_itself l) ∙ h u

passed_item : (b : Bool) (e : Data) (rest : Items) (i : ℕ) → entry_number (if b then rest else item e rest) (if b then i else suc i) ≡ entry_number rest i
passed_item true e rest i = refl
passed_item false e rest i = refl

found_item : (b : Bool) (n j : ℕ) (p q : List Step) (d e : Data) (inner : List Told) (rest : Items) (at : List Step) → n ≡ j
    → is_untold (p ++ At n ∷ q) (if b then told_change (p ++ At j ∷ []) d None ∷ [] else inner) ≡ true
    → (is_untold (p ++ At n ∷ q) inner ≡ true → value_at at e ≡ value_at q d)
    → option_and_then (value_at at) (entry_number (if b then rest else item e rest) 0) ≡ value_at q d
found_item true n j p q d e inner rest at same u h =
    told_there (are_apart (p ++ At j ∷ []) (p ++ At n ∷ q)) true
    (along p (At j ∷ []) (At n ∷ q) ∙ ap (λ m. not (j == m) || false) same ∙ ap (λ c. not c || false) (same_number j)) u
found_item false n j p q d e inner rest at same u h = h u

module _ (r : Rule) where
  object_stays : (p : List Step) (w : Option Want) (ms : Members) (s : Step) (q : List Step)
      → ((k : List ℕ) → is_untold (p ++ Name k ∷ q) (told_members r p (r.scopes w (object ms)) ms) ≡ true
      → option_and_then (value_at (place_after r (p ++ Name k ∷ []) (want_of_name (r.scopes w (object ms)) k) (member_named ms k) q))
      (member_named (prepared_members r p (r.scopes w (object ms)) ms) k)
      ≡ option_and_then (value_at q) (member_named ms k))
      → is_untold (p ++ s ∷ q) (told_object r p w ms) ≡ true → value_at (place_after r p w (Some (object ms)) (s ∷ q)) (prepared_object r p w ms)
      ≡ value_at (s ∷ q) (object ms)
  object_stays p w ms (At i) q later u = refl
  object_stays p w ms (Name k) q later u =
      let s = r.scopes w (object ms) in
      let parts = both_untold (p ++ Name k ∷ q) (told_members r p s ms) (told_puts p (object ms) (r.puts p w (object ms))) u in
      let at = place_after r (p ++ Name k ∷ []) (want_of_name s k) (member_named ms k) q in
      ap (option_and_then (value_at at)) (puts_apart k p q (object ms) (r.puts p w (object ms)) (prepared_members r p s ms) parts.1) ∙ later k parts.0

  member_stays : (p : List Step) (s : Scope) (l : List ℕ) (d : Data) (ms : Members) (k : List ℕ) (q : List Step) (b : Bool) → bytes_eq k l ≡ b
      → is_untold (p ++ Name k ∷ q) (if r.drops (p ++ Name l ∷ []) s l d then told_change (p ++ Name l ∷ []) d None ∷ [] else told r (p ++ Name l ∷ [])
      (want_of_name s l) d) ≡ true
      → option_and_then (value_at (place_after r (p ++ Name k ∷ []) (want_of_name s k) (member_named ms k) q)) (member_named (prepared_members r p s ms) k)
      ≡ option_and_then (value_at q) (member_named ms k)
      → (is_untold ((p ++ Name l ∷ []) ++ q) (told r (p ++ Name l ∷ []) (want_of_name s l) d) ≡ true
      → value_at (place_after r (p ++ Name l ∷ []) (want_of_name s l) (Some d) q) (prepared r (p ++ Name l ∷ []) (want_of_name s l) d) ≡ value_at q d)
      → option_and_then (value_at (place_after r (p ++ Name k ∷ []) (want_of_name s k) (if b then Some d else member_named ms k) q))
      (member_named (prepared_members r p s (member l d ms)) k)
      ≡ option_and_then (value_at q) (if b then Some d else member_named ms k)
  member_stays p s l d ms k q false is u later here =
      ap (option_and_then (value_at (place_after r (p ++ Name k ∷ []) (want_of_name s k) (member_named ms k) q)))
      (passed_member (r.drops (p ++ Name l ∷ []) s l d) k l (prepared r (p ++ Name l ∷ []) (want_of_name s l) d) (prepared_members r p s ms) is)
      ∙ later
  member_stays p s l d ms k q true is u later here =
      let same : k ≡ l = text_exact k l is in
      found_member (r.drops (p ++ Name l ∷ []) s l d) k l p q d (prepared r (p ++ Name l ∷ []) (want_of_name s l) d)
      (told r (p ++ Name l ∷ []) (want_of_name s l) d) (prepared_members r p s ms)
      (place_after r (p ++ Name k ∷ []) (want_of_name s k) (Some d) q) same u
      (λ h. subst (λ n. value_at (place_after r (p ++ Name n ∷ []) (want_of_name s n) (Some d) q) (prepared r (p ++ Name l ∷ []) (want_of_name s l) d)
      ≡ value_at q d) (sym same)
      (here (subst (λ z. is_untold z (told r (p ++ Name l ∷ []) (want_of_name s l) d) ≡ true)
      (ap (λ n. p ++ Name n ∷ q) same ∙ sym (append_assoc p (Name l ∷ []) q)) h)))

  mutual
    pub stays : (p : List Step) (w : Option Want) (d : Data) (q : List Step) → is_untold (p ++ q) (told r p w d) ≡ true
        → value_at (place_after r p w (Some d) q) (prepared r p w d) ≡ value_at q d
    stays p w d [] u = ap Some (kept r p p [] (sym (append-nil p)) w d (subst (λ z. is_untold z (told r p w d) ≡ true) (append-nil p) u))
    stays p w null (s ∷ q) u = shape_stays p (s ∷ q) (place_after r p w (Some null) (s ∷ q)) null (r.shapes p w null) [] null u (λ h. refl)
    stays p w (boolean b) (s ∷ q) u = shape_stays p (s ∷ q) (place_after r p w (Some (boolean b)) (s ∷ q)) (boolean b) (r.shapes p w (boolean b)) []
        (boolean b) u (λ h. refl)
    stays p w (number n) (s ∷ q) u = shape_stays p (s ∷ q) (place_after r p w (Some (number n)) (s ∷ q)) (number n) (r.shapes p w (number n)) []
        (number n) u (λ h. refl)
    stays p w (string t) (s ∷ q) u = shape_stays p (s ∷ q) (place_after r p w (Some (string t)) (s ∷ q)) (string t) (r.shapes p w (string t)) []
        (string t) u (λ h. refl)
    stays p w (array ds) (Name k ∷ q) u =
        shape_stays p (Name k ∷ q) (place_after r p w (Some (array ds)) (Name k ∷ q)) (array ds) (r.shapes p w (array ds)) (told_items r p w 0 ds)
        (array (prepared_items r p w 0 ds)) u (λ h. refl)
    stays p w (array ds) (At i ∷ q) u =
        shape_stays p (At i ∷ q) (place_after r p w (Some (array ds)) (At i ∷ q)) (array ds) (r.shapes p w (array ds)) (told_items r p w 0 ds)
        (array (prepared_items r p w 0 ds)) u
        (λ h. items_stay p w 0 ds i i q (omega arith) h)
    stays p w (object ms) (s ∷ q) u =
        shape_stays p (s ∷ q) (place_after r p w (Some (object ms)) (s ∷ q)) (object ms) (r.shapes p w (object ms)) _ _ u
        (λ h. wrap_stays p (s ∷ q) (place_after r p w (Some (object ms)) (s ∷ q)) (object ms) (r.wraps p w (object ms))
        (told_object r p (entry_in w) ms) (told_object r p w ms)
        (list_of_one (prepared_object r p (entry_in w) ms)) (prepared_object r p w ms) h
        (object_stays p w ms s q (λ k v. members_stay p (r.scopes w (object ms)) ms k q v)))

    items_stay : (p : List Step) (w : Option Want) (j : ℕ) (ds : Items) (i n : ℕ) (q : List Step) → n ≡ j + i
        → is_untold (p ++ At n ∷ q) (told_items r p w j ds) ≡ true
        → option_and_then (value_at (place_after r (p ++ At n ∷ []) (entry_in w) (entry_number ds i) q))
        (entry_number (prepared_items r p w j ds) (entries_kept r p w j ds i)) ≡ option_and_then (value_at q) (entry_number ds i)
    items_stay p w j no_items i n q e u = refl
    items_stay p w j (item d ds) zero n q e u =
        let here : n ≡ j = omega (arith, e) in
        let at = p ++ At j ∷ [] in
        let parts = both_untold (p ++ At n ∷ q) (if r.lets_go at w d then told_change at d None ∷ [] else told r at (entry_in w) d)
        (told_items r p w (j + 1) ds) u in
        found_item (r.lets_go at w d) n j p q d (prepared r at (entry_in w) d) (told r at (entry_in w) d) (prepared_items r p w (j + 1) ds)
        (place_after r (p ++ At n ∷ []) (entry_in w) (Some d) q) here parts.0
        (λ h. subst (λ m. value_at (place_after r (p ++ At m ∷ []) (entry_in w) (Some d) q) (prepared r at (entry_in w) d) ≡ value_at q d) (sym here)
        (stays at (entry_in w) d q
        (subst (λ z. is_untold z (told r at (entry_in w) d) ≡ true) (ap (λ m. p ++ At m ∷ q) here ∙ sym (append_assoc p (At j ∷ []) q)) h)))
    items_stay p w j (item d ds) (suc i) n q e u =
        let at = p ++ At j ∷ [] in
        let parts = both_untold (p ++ At n ∷ q) (if r.lets_go at w d then told_change at d None ∷ [] else told r at (entry_in w) d)
        (told_items r p w (j + 1) ds) u in
        ap (option_and_then (value_at (place_after r (p ++ At n ∷ []) (entry_in w) (entry_number ds i) q)))
        (passed_item (r.lets_go at w d) (prepared r at (entry_in w) d) (prepared_items r p w (j + 1) ds) (entries_kept r p w (j + 1) ds i))
        ∙ items_stay p w (j + 1) ds i n q (omega (arith, e)) parts.1

    members_stay : (p : List Step) (s : Scope) (ms : Members) (k : List ℕ) (q : List Step) → is_untold (p ++ Name k ∷ q) (told_members r p s ms) ≡ true
        → option_and_then (value_at (place_after r (p ++ Name k ∷ []) (want_of_name s k) (member_named ms k) q)) (member_named (prepared_members r p s ms) k)
        ≡ option_and_then (value_at q) (member_named ms k)
    members_stay p s no_members k q u = refl
    members_stay p s (member l d ms) k q u =
        let at = p ++ Name l ∷ [] in
        let parts = both_untold (p ++ Name k ∷ q) (if r.drops at s l d then told_change at d None ∷ [] else told r at (want_of_name s l) d)
        (told_members r p s ms) u in
        member_stays p s l d ms k q (bytes_eq k l) refl parts.0 (members_stay p s ms k q parts.1) (stays at (want_of_name s l) d q)

-- ---- nulls

both_empty : {A : Type 0} (xs ys : List A) → xs ≡ [] → ys ≡ [] → xs ++ ys ≡ []
both_empty xs ys e f = rw (e, f) refl

no_null : (p : List Step) (w : Option Want) (d : Data) → is_some (as_null d) ≡ false → is_some (as_null (prepared nulls p w d)) ≡ false
no_null p w null e = cc
no_null p w (boolean b) e = refl
no_null p w (number n) e = refl
no_null p w (string s) e = refl
no_null p w (array ds) e = refl
no_null p w (object ms) e = refl

unnulled : (b : Bool) (one : Told) (inner : List Told) → b ≡ false → inner ≡ [] → (if b then one ∷ [] else inner) ≡ []
unnulled true one inner e none = cc
unnulled false one inner e none = none

null_gone : (p : List Step) (s v : Scope) (k : List ℕ) (d : Data) (ms : Members) (b : Bool) → is_some (as_null d) ≡ b
    → told nulls (p ++ Name k ∷ []) (want_of_name v k) (prepared nulls (p ++ Name k ∷ []) (want_of_name s k) d) ≡ []
    → told_members nulls p v (prepared_members nulls p s ms) ≡ []
    → told_members nulls p v (if b then prepared_members nulls p s ms else member k (prepared nulls (p ++ Name k ∷ []) (want_of_name s k) d)
    (prepared_members nulls p s ms)) ≡ []
null_gone p s v k d ms true is here later = later
null_gone p s v k d ms false is here later =
    let e = prepared nulls (p ++ Name k ∷ []) (want_of_name s k) d in
    let inner = told nulls (p ++ Name k ∷ []) (want_of_name v k) e in
    both_empty (if is_some (as_null e) then told_change (p ++ Name k ∷ []) e None ∷ [] else inner) (told_members nulls p v (prepared_members nulls p s ms))
    (unnulled (is_some (as_null e)) (told_change (p ++ Name k ∷ []) e None) inner (no_null (p ++ Name k ∷ []) (want_of_name s k) d is) here) later

mutual
  pub nulls_gone : (p : List Step) (v w : Option Want) (d : Data) → told nulls p v (prepared nulls p w d) ≡ []
  nulls_gone p v w null = refl
  nulls_gone p v w (boolean b) = refl
  nulls_gone p v w (number n) = refl
  nulls_gone p v w (string s) = refl
  nulls_gone p v w (array ds) = nulls_gone_items p v w 0 ds
  nulls_gone p v w (object ms) =
      let after = prepared_members nulls p (scope_in w (object ms)) ms in
      both_empty (told_members nulls p (scope_in v (object after)) after) [] (nulls_gone_members p (scope_in w (object ms)) (scope_in v (object after)) ms) refl

  nulls_gone_items : (p : List Step) (v w : Option Want) (i : ℕ) (ds : Items) → told_items nulls p v i (prepared_items nulls p w i ds) ≡ []
  nulls_gone_items p v w i no_items = refl
  nulls_gone_items p v w i (item d ds) =
      both_empty (told nulls (p ++ At i ∷ []) (entry_in v) (prepared nulls (p ++ At i ∷ []) (entry_in w) d))
      (told_items nulls p v (i + 1) (prepared_items nulls p w (i + 1) ds))
      (nulls_gone (p ++ At i ∷ []) (entry_in v) (entry_in w) d) (nulls_gone_items p v w (i + 1) ds)

  nulls_gone_members : (p : List Step) (s v : Scope) (ms : Members) → told_members nulls p v (prepared_members nulls p s ms) ≡ []
  nulls_gone_members p s v no_members = refl
  nulls_gone_members p s v (member k d ms) =
      null_gone p s v k d ms (is_some (as_null d)) refl (nulls_gone (p ++ Name k ∷ []) (want_of_name v k) (want_of_name s k) d) (nulls_gone_members p s v ms)

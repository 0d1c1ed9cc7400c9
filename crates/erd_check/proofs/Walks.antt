-- What a walk over a report tells is the list of the reasons at each place: all faults, over all that is asked in the report.
use Rattle.erd_check.proofs.Common.{◌≡◌, List, [], ◌∷◌, map, Some, flat_map, Ordering, Less, sym, refl, ap, subst, inl, inr, IsStrictlySortedBy, Data}
use Rattle.erd_check.proofs.Common.{place_same, reason_cmp, fault_cmp, ListsAll, Report, Fault, Reason, Step, fault_at, IsInOrder, Asked, asked_at, Object, ◌-◌}
use Rattle.erd_check.proofs.Common.{◌≤◌, Bool, false, ◌&&◌, ◌++◌, length, take, IsSomeAnd, IsTrue, None, Option, ◌∙◌, ap₂, append-nil, arith, length-append}
use Rattle.erd_check.proofs.Common.{list_any, option_map_or, array, object, Items, no_items, item, Members, no_members, member, At, Name, is_shape_fault}
use Rattle.erd_check.proofs.Common.{ShapeFault, is_same_json, faults_of, Telling, told_at, told_of_items, told_of_members, told_of_report, scope_inside}
use Rattle.erd_check.proofs.Common.{want_of_name, entry_want, is_compared_set, asked_with, reasons, Scope, Want}
use Rattle.erd_tables.specs.Places.{place_cmp}
use Rattle.erd_check.proofs.AskedInside.{AskedPlace, all_asked, all_asked_complete, by_place, all_asked_rising, all_asked_sound, all_asked_from}
use Rattle.erd_check.proofs.AskedInside.{all_asked_items, all_asked_members}
use Rattle.erd_check.proofs.Order.{In, In-flat_map, In-map, In-map_from, In-all, In-from_contains, contains_from_In, Below, sorted_append, sorted_map}
use Rattle.erd_check.proofs.Order.{In-append_left, In-append_right, In-flat_map_from}
use Rattle.std.proofs.Math.Seq.{take-append_seam}
use Rattle.std.proofs.lemmas.List.{take-append-le}
use Rattle.std.proofs.lemmas.Grind.{flat_map-append}
use Rattle.erd_check.proofs.Reasons.{reasons_complete, reasons_sorted, reasons_sound}

-- ---- lists of lists

pub sorted_flat_map : {A B : Type 0} (f : A → List B) (cmp : A → A → Ordering) (cmp' : B → B → Ordering) → ((x : A) → IsStrictlySortedBy cmp' (f x))
    → ((x y : A) → cmp x y ≡ Less → Below cmp' (f x) (f y)) → (xs : List A) → IsStrictlySortedBy cmp xs → IsStrictlySortedBy cmp' (flat_map f xs)
unfolding IsStrictlySortedBy
sorted_flat_map f cmp cmp' each apart [] p = tt
sorted_flat_map f cmp cmp' each apart (x ∷ xs) p =
    sorted_append cmp' (f x) (flat_map f xs) (each x) (sorted_flat_map f cmp cmp' each apart xs p.1)
    (λ a b i j.
    let o = In-flat_map_from f xs b j in
    apart x o.0 (In-all (λ y. cmp x y ≡ Less) o.0 xs p.0 o.1) a b i o.2)

-- ---- reasons at one place

-- the reasons at a place as faults of it
abbrev pub faults_there : (List Step → Asked → List Reason) → AskedPlace → List Fault
faults_there reasons_at x = map (fault_at x.0) (reasons_at x.0 x.1)

-- the same over all that is asked in a report
abbrev pub faults_asked : (List Step → Asked → List Reason) → Data → List Fault
faults_asked reasons_at t = flat_map (faults_there reasons_at) (all_asked t)

-- the reasons at each place rise, and the faults are those
pub record AreReasons (t : Data) (reasons_at : List Step → Asked → List Reason) (IsFault : List Step → Reason → Type 0) : Type 0 where
  pub rising : (p : List Step) (a : Asked) → IsStrictlySortedBy reason_cmp (reasons_at p a)
  pub sound : (p : List Step) (a : Asked) (r : Reason) → asked_at t p ≡ Some a → In r (reasons_at p a) → IsFault p r
  pub complete : (p : List Step) (r : Reason) → IsFault p r → (a : Asked) × (asked_at t p ≡ Some a) × In r (reasons_at p a)

faults_apart : (x y : Fault) (p q : List Step) → p ≡ x.place → q ≡ y.place → place_cmp p q ≡ Less → fault_cmp x y ≡ Less
faults_apart x y p q e g h = rw (sym e, sym g, h)

below_there : (reasons_at : List Step → Asked → List Reason) (x y : AskedPlace) → by_place x y ≡ Less → Below fault_cmp (faults_there reasons_at x)
    (faults_there reasons_at y)
below_there reasons_at x y less f g i j =
    let a = In-map_from (fault_at x.0) (reasons_at x.0 x.1) f i in
    let b = In-map_from (fault_at y.0) (reasons_at y.0 y.1) g j in
    faults_apart f g x.0 y.0 (ap (λ (z : Fault). z.place) a.2) (ap (λ (z : Fault). z.place) b.2) less

rising_there : (t : Data) (reasons_at : List Step → Asked → List Reason) (IsFault : List Step → Reason → Type 0) → AreReasons t reasons_at IsFault
    → (x : AskedPlace) → IsStrictlySortedBy fault_cmp (faults_there reasons_at x)
rising_there t reasons_at IsFault are x = sorted_map (fault_at x.0) reason_cmp fault_cmp (λ q r e. rw (place_same x.0) e)
    (reasons_at x.0 x.1) (are.rising x.0 x.1)

sound_there : (t : Data) (reasons_at : List Step → Asked → List Reason) (IsFault : List Step → Reason → Type 0) → IsInOrder (Object Report) t
    → AreReasons t reasons_at IsFault
    → (f : Fault) → In f (faults_asked reasons_at t) → IsFault f.place f.reason
sound_there t reasons_at IsFault order are f i =
    let o = In-flat_map_from (faults_there reasons_at) (all_asked t) f i in
    let x = o.0 in
    let from = In-map_from (fault_at x.0) (reasons_at x.0 x.1) f o.2 in
    subst (λ (g : Fault). IsFault g.place g.reason) from.2 (are.sound x.0 x.1 from.0 (all_asked_sound t x.0 x.1 order o.1) from.1)

complete_there : (t : Data) (reasons_at : List Step → Asked → List Reason) (IsFault : List Step → Reason → Type 0) → AreReasons t reasons_at IsFault
    → (p : List Step) (r : Reason) → IsFault p r → In (fault_at p r) (faults_asked reasons_at t)
complete_there t reasons_at IsFault are p r h =
    let c = are.complete p r h in
    In-flat_map {A = AskedPlace} (faults_there reasons_at) (fault_at p r) (p, c.0) (all_asked t) (all_asked_complete t p c.0 c.1)
    (In-map (fault_at p) r (reasons_at p c.0) c.2)

pub faults_asked_listed : (t : Data) (reasons_at : List Step → Asked → List Reason) (IsFault : List Step → Reason → Type 0) → IsInOrder (Object Report) t
    → AreReasons t reasons_at IsFault → ListsAll IsFault (faults_asked reasons_at t)
faults_asked_listed t reasons_at IsFault order are = record {
  rising = sorted_flat_map {A = AskedPlace} (faults_there reasons_at) by_place fault_cmp (rising_there t reasons_at IsFault are) (below_there reasons_at)
      (all_asked t) (all_asked_rising t order);
  each = λ f. (
    λ h. sound_there t reasons_at IsFault order are f (In-from_contains f (faults_asked reasons_at t) h),
    λ h. contains_from_In f (faults_asked reasons_at t) (complete_there t reasons_at IsFault are f.place f.reason h),
  );
}

-- ---- the values around a place

-- a place without its last two steps
abbrev pub outer_place : List Step → List Step
outer_place p = take (length p - 2) p

-- the two values above a place
pub record Around (t : Data) (p : List Step) (outer owner : Data) : Type 0 where
  pub above : Asked
  pub above_stands : asked_at t (take (length p - 1) p) ≡ Some above
  pub above_is : above.value ≡ owner
  pub far : Asked
  pub far_stands : asked_at t (outer_place p) ≡ Some far
  pub far_is : far.value ≡ outer

place_above : (p : List Step) (s : Step) → take (length (p ++ s ∷ []) - 1) (p ++ s ∷ []) ≡ p
place_above p s =
    let e : length (p ++ s ∷ []) - 1 ≡ length p = omega (arith, length-append p (s ∷ [])) in
    ap (λ n. take n (p ++ s ∷ [])) e ∙ take-append_seam p (s ∷ [])

place_far : (p : List Step) (s : Step) → outer_place (p ++ s ∷ []) ≡ take (length p - 1) p
place_far p s =
    let e : length (p ++ s ∷ []) - 2 ≡ length p - 1 = omega (arith, length-append p (s ∷ [])) in
    let low : length p - 1 ≤ length p = omega arith in
    ap (λ n. take n (p ++ s ∷ [])) e ∙ take-append-le (length p - 1) p (s ∷ []) low

around_below : (t : Data) (p : List Step) (outer owner : Data) (w : Want) (repeated : Bool) (d : Data) (s : Step) → Around t p outer owner
    → asked_at t p ≡ Some (asked_with w repeated d) → Around t (p ++ s ∷ []) owner d
around_below t p outer owner w repeated d s around e = record {
  above = asked_with w repeated d;
  above_stands = ap (asked_at t) (place_above p s) ∙ e;
  above_is = refl;
  far = around.above;
  far_stands = ap (asked_at t) (place_far p s) ∙ around.above_stands;
  far_is = around.above_is;
}

around_report : (t : Data) → Around t [] t t
around_report t = record {
  above = asked_with (Object Report) false t;
  above_stands = refl;
  above_is = refl;
  far = asked_with (Object Report) false t;
  far_stands = refl;
  far_is = refl;
}

-- ---- the walk

-- what is told of a value is told at its place
pub record Agrees (t : Data) (tells : Telling) (reasons_at : List Step → Asked → List Reason) : Type 0 where
  pub same : (p : List Step) (outer owner : Data) (w : Want) (repeated : Bool) (d : Data) → Around t p outer owner → tells outer w repeated d
      ≡ reasons_at p (asked_with w repeated d)

module _ (t : Data) (tells : Telling) (reasons_at : List Step → Asked → List Reason) (agrees : Agrees t tells reasons_at)
    (order : IsInOrder (Object Report) t) where
  abbrev Inside : List AskedPlace → Type 0
  Inside xs = (x : AskedPlace) → In {A = AskedPlace} x xs → In {A = AskedPlace} x (all_asked t)

  abbrev told_of : List AskedPlace → List Fault
  told_of xs = flat_map {X = AskedPlace} (faults_there reasons_at) xs

  here : (outer owner : Data) (p : List Step) (w : Want) (repeated : Bool) (d : Data) → Around t p outer owner → faults_of p (tells outer w repeated d)
      ≡ faults_there reasons_at (p, asked_with w repeated d)
  here outer owner p w repeated d around = ap (faults_of p) (agrees.same p outer owner w repeated d around)

  alone : (outer owner : Data) (p : List Step) (w : Want) (repeated : Bool) (d : Data) → Around t p outer owner → faults_of p (tells outer w repeated d)
      ≡ told_of ((p, asked_with w repeated d) ∷ [])
  alone outer owner p w repeated d around = here outer owner p w repeated d around ∙ sym (append-nil (faults_there reasons_at (p, asked_with w repeated d)))

  entries_same : (owner : Data) (p : List Step) (is_set : Bool) (all ds : Items) (o : Option Want)
      → ((v : Want) → Inside (all_asked_items p v is_set [] ds) → told_of_items tells owner (array all) p v is_set [] ds
      ≡ told_of (all_asked_items p v is_set [] ds)) → Inside (option_map_or (λ v. all_asked_items p v is_set [] ds) o [])
      → option_map_or (λ v. told_of_items tells owner (array all) p v is_set [] ds) o [] ≡ told_of (option_map_or (λ v. all_asked_items p v is_set [] ds) o [])
  entries_same owner p is_set all ds None from inside = refl
  entries_same owner p is_set all ds (Some v) from inside = from v inside

  member_same : (outer owner : Data) (p : List Step) (d : Data) (o : Option Want)
      → ((v : Want) → Inside (all_asked_from p v false d) → told_at tells outer owner p v false d ≡ told_of (all_asked_from p v false d))
      → Inside (option_map_or (λ v. all_asked_from p v false d) o [])
      → option_map_or (λ v. told_at tells outer owner p v false d) o [] ≡ told_of (option_map_or (λ v. all_asked_from p v false d) o [])
  member_same outer owner p d None from inside = refl
  member_same outer owner p d (Some v) from inside = from v inside

  mutual
    walk_same : (outer owner : Data) (p : List Step) (w : Want) (repeated : Bool) (d : Data) → Around t p outer owner → Inside (all_asked_from p w repeated d)
        → told_at tells outer owner p w repeated d ≡ told_of (all_asked_from p w repeated d)
    walk_same outer owner p w repeated (array ds) around inside =
        let there : asked_at t p ≡ Some (asked_with w repeated (array ds)) =
        all_asked_sound t p (asked_with w repeated (array ds)) order (inside (p, asked_with w repeated (array ds)) (inl refl)) in
        ap₂ ◌++◌ (here outer owner p w repeated (array ds) around)
        (entries_same owner p (is_compared_set w) ds ds (entry_want w)
        (λ v i. items_same owner (array ds) p v (is_compared_set w) [] ds (λ s. around_below t p outer owner w repeated (array ds) s around there) i)
        (λ x i. inside x (inr i)))
    walk_same outer owner p w repeated (object ms) around inside =
        let there : asked_at t p ≡ Some (asked_with w repeated (object ms)) =
        all_asked_sound t p (asked_with w repeated (object ms)) order (inside (p, asked_with w repeated (object ms)) (inl refl)) in
        ap₂ ◌++◌ (here outer owner p w repeated (object ms) around)
        (members_same owner (object ms) p (scope_inside w (object ms)) ms (λ s. around_below t p outer owner w repeated (object ms) s around there)
        (λ x i. inside x (inr i)))
    walk_same outer owner p w repeated e around inside = alone outer owner p w repeated e around

    items_same : (outer owner : Data) (p : List Step) (w : Want) (is_set : Bool) (earlier : List Data) (ds : Items)
        → ((s : Step) → Around t (p ++ s ∷ []) outer owner) → Inside (all_asked_items p w is_set earlier ds)
        → told_of_items tells outer owner p w is_set earlier ds ≡ told_of (all_asked_items p w is_set earlier ds)
    items_same outer owner p w is_set earlier no_items around inside = refl
    items_same outer owner p w is_set earlier (item d ds) around inside =
        let repeated = is_set && list_any (is_same_json d) earlier in
        let first = all_asked_from (p ++ At (length earlier) ∷ []) w repeated d in
        let rest = all_asked_items p w is_set (earlier ++ d ∷ []) ds in
        ap₂ ◌++◌
        (walk_same outer owner (p ++ At (length earlier) ∷ []) w repeated d (around (At (length earlier)))
        (λ x i. inside x (In-append_left {A = AskedPlace} x first rest i)))
        (items_same outer owner p w is_set (earlier ++ d ∷ []) ds around (λ x i. inside x (In-append_right {A = AskedPlace} x first rest i)))
        ∙ sym (flat_map-append {X = AskedPlace} (faults_there reasons_at) first rest)

    members_same : (outer owner : Data) (p : List Step) (s : Scope) (ms : Members) → ((s : Step) → Around t (p ++ s ∷ []) outer owner)
        → Inside (all_asked_members p s ms) → told_of_members tells outer owner p s ms ≡ told_of (all_asked_members p s ms)
    members_same outer owner p s no_members around inside = refl
    members_same outer owner p s (member k d ms) around inside =
        let first = option_map_or (λ v. all_asked_from (p ++ Name k ∷ []) v false d) (want_of_name s k) [] in
        let rest = all_asked_members p s ms in
        ap₂ ◌++◌
        (member_same outer owner (p ++ Name k ∷ []) d (want_of_name s k) (λ v i. walk_same outer owner (p ++ Name k ∷ []) v false d (around (Name k)) i)
        (λ x i. inside x (In-append_left {A = AskedPlace} x first rest i)))
        (members_same outer owner p s ms around (λ x i. inside x (In-append_right {A = AskedPlace} x first rest i)))
        ∙ sym (flat_map-append {X = AskedPlace} (faults_there reasons_at) first rest)

  pub walk_told : told_of_report tells t ≡ faults_asked reasons_at t
  walk_told = walk_same t t [] (Object Report) false t (around_report t) (λ x i. i)

-- a walk that tells at each place the reasons that make a fault there tells all faults, each once and in their order
pub walk_lists : (t : Data) (tells : Telling) (reasons_at : List Step → Asked → List Reason) (IsFault : List Step → Reason → Type 0) → Agrees t tells reasons_at
    → IsInOrder (Object Report) t → AreReasons t reasons_at IsFault → ListsAll IsFault (told_of_report tells t)
walk_lists t tells reasons_at IsFault agrees order are =
    subst (ListsAll IsFault) (sym (walk_told t tells reasons_at agrees order)) (faults_asked_listed t reasons_at IsFault order are)

-- ---- the walk that judges the shape tells exactly the faults of the shape

-- the reasons of the shape of what is asked at a place
abbrev pub shape_reasons : List Step → Asked → List Reason
shape_reasons p a = reasons a.want a.repeated a.value

fault_there : (t : Data) (p : List Step) (r : Reason) (o : Option Asked) → asked_at t p ≡ o → IsSomeAnd o (λ a. IsTrue (is_shape_fault a r)) → (a : Asked)
    × (asked_at t p ≡ Some a) × In r (shape_reasons p a)
fault_there t p r None e h = absurd h
fault_there t p r (Some a) e h = (a, e, reasons_complete a.want a.repeated a.value r h)

are_reasons : (t : Data) → AreReasons t shape_reasons (ShapeFault t)
are_reasons t = record {
  rising = λ p a. reasons_sorted a.want a.repeated a.value;
  sound = λ p a r e i. subst (λ (o : Option Asked). IsSomeAnd o (λ b. IsTrue (is_shape_fault b r))) (sym e) (reasons_sound a.want a.repeated a.value r i);
  complete = λ p r h. fault_there t p r (asked_at t p) refl h;
}

pub shape_walk_lists : (t : Data) → IsInOrder (Object Report) t → ListsAll (ShapeFault t) (told_of_report (λ outer. reasons) t)
shape_walk_lists t order = walk_lists t (λ outer. reasons) shape_reasons (ShapeFault t) (record { same = λ p outer owner w repeated d around. refl }) order
    (are_reasons t)

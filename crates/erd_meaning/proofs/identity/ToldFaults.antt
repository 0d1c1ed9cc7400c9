-- What is told of what a walk meets: of each election and each object, after all that stand before it, and in order.
use Rattle.erd_meaning.proofs.Common.{◌≡◌, Bool, true, false, ◌⊎◌, List, [], ◌∷◌, ◌++◌, Less, sym, refl, ap, ◌∙◌, subst, inl, inr, list_any, IsStrictlySortedBy}
use Rattle.erd_meaning.proofs.Common.{place_cmp_total, start_less, place_same, fault_cmp, place_cmp, Fault, DuplicateId, NoIdentifier, TwinIdentifier, Step, In}
use Rattle.erd_meaning.proofs.Common.{In-append_left, In-append_right, In-append, In-all, Below, sorted_append, fault_at, Met, Located, fault_if, is_keyless}
use Rattle.erd_meaning.proofs.Common.{are_twins, are_named_alike, faults_after}
use Rattle.erd_meaning.proofs.identity.ObjectPlaces.{AreApart, apart, id_place}

-- ---- the walk as lists

abbrev pub told : List Met → List Located → List Fault
told earlier [] = []
told earlier (x ∷ xs) = faults_after earlier x.place x.met ++ told (earlier ++ x.met ∷ []) xs

-- ---- what is told of an object

pub less_itself : (p : List Step) → place_cmp p p ≡ Less → ⊥
less_itself p e = let h = sym (place_same p) ∙ e in cc

pub turned : (p q : List Step) → place_cmp p q ≡ Less → place_cmp q p ≡ Less → ⊥
turned p q a b = less_itself p (place_cmp_total.trans p q p a b)

pub before_apart : (x y : Located) → apart x y ≡ Less → place_cmp x.place y.place ≡ Less
before_apart x y e = place_cmp_total.trans x.place (id_place x.place) y.place (start_less x.place _ []) e

-- an object of the list, with those that were met before it
pub record Told (earlier : List Met) (xs : List Located) (f : Fault) : Type 0 where
  pub one : Located
  pub there : In one xs
  pub before : List Met
  pub origin : (k : Met) → In k before → In k earlier ⊎ ((y : Located) × In y xs × (y.met ≡ k) × (place_cmp y.place one.place ≡ Less))
  pub fault : In f (faults_after before one.place one.met)

abbrev pub Origin : List Met → List Located → Located → Met → Type 0
Origin earlier xs one k = In k earlier ⊎ ((y : Located) × In y xs × (y.met ≡ k) × (place_cmp y.place one.place ≡ Less))

later_origin : (earlier : List Met) (x : Located) (xs : List Located) (one : Located) (k : Met) → place_cmp x.place one.place ≡ Less
    → Origin (earlier ++ x.met ∷ []) xs one k → Origin earlier (x ∷ xs) one k
later_origin earlier x xs one k less (inl h) = elim (In-append k earlier (x.met ∷ []) h) [
  | inl a ↦ inl a
  | inr b ↦ inr (x, inl refl, elim b [ inl e ↦ e | inr n ↦ absurd n ], less)
]
later_origin earlier x xs one k less (inr (y, i, e, l)) = inr (y, inr i, e, l)

pub told_sound : (earlier : List Met) (xs : List Located) (f : Fault) → AreApart xs → In f (told earlier xs) → Told earlier xs f
unfolding IsStrictlySortedBy
told_sound earlier [] f parted h = absurd h
told_sound earlier (x ∷ xs) f parted h = elim (In-append f (faults_after earlier x.place x.met) (told (earlier ++ x.met ∷ []) xs) h) [
  | inl a ↦ record { one = x; there = inl refl; before = earlier; origin = λ k i. inl i; fault = a }
  | inr b ↦
      let t = told_sound (earlier ++ x.met ∷ []) xs f parted.1 b in
      let less = before_apart x t.one (In-all (λ y. apart x y ≡ Less) t.one xs parted.0 t.there) in
      record { one = t.one; there = inr t.there; before = t.before; origin = λ k i. later_origin earlier x xs t.one k less (t.origin k i); fault = t.fault }
]

-- the objects met before one: all earlier ones, and all of the list that stand before it
pub record Complete (earlier : List Met) (xs : List Located) (one : Located) : Type 0 where
  pub before : List Met
  pub earlier_in : (k : Met) → In k earlier → In k before
  pub covers : (y : Located) → In y xs → place_cmp y.place one.place ≡ Less → In y.met before
  pub tells : (f : Fault) → In f (faults_after before one.place one.met) → In f (told earlier xs)

pub complete : (earlier : List Met) (xs : List Located) (one : Located) → AreApart xs → In one xs → Complete earlier xs one
unfolding IsStrictlySortedBy
complete earlier [] one parted i = absurd i
complete earlier (x ∷ xs) one parted (inl e) = record {
  before = earlier;
  earlier_in = λ k h. h;
  covers = λ y j less. let first : place_cmp y.place x.place ≡ Less = subst (λ z. place_cmp y.place z.place ≡ Less) (sym e) less in absurd (elim j [
    | inl s ↦ less_itself x.place (subst (λ z. place_cmp z.place x.place ≡ Less) (sym s) first)
    | inr k ↦ turned x.place y.place (before_apart x y (In-all (λ z. apart x z ≡ Less) y xs parted.0 k)) first
  ]);
  tells = λ f h. In-append_left f (faults_after earlier x.place x.met) (told (earlier ++ x.met ∷ []) xs)
      (subst (λ z. In f (faults_after earlier z.place z.met)) (sym e) h);
}
complete earlier (x ∷ xs) one parted (inr i) =
    let c = complete (earlier ++ x.met ∷ []) xs one parted.1 i in
    record {
      before = c.before;
      earlier_in = λ k h. c.earlier_in k (In-append_left k earlier (x.met ∷ []) h);
      covers = λ y j less. elim j [
        | inl s ↦ c.earlier_in y.met (In-append_right y.met earlier (x.met ∷ []) (inl (ap (λ (z : Located). z.met) s)))
        | inr j ↦ c.covers y j less
      ];
      tells = λ f h. In-append_right f (faults_after earlier x.place x.met) (told (earlier ++ x.met ∷ []) xs) (c.tells f h);
    }

-- ---- what is told rises

pub in_if : (b : Bool) (f g : Fault) → In g (fault_if b f) → (b ≡ true) × (f ≡ g)
in_if true f g (inl e) = (refl, e)
in_if true f g (inr h) = absurd h
in_if false f g h = absurd h

pub if_sorted : (b : Bool) (f : Fault) → IsStrictlySortedBy fault_cmp (fault_if b f)
unfolding IsStrictlySortedBy
if_sorted true f = (tt, tt)
if_sorted false f = tt

if_below : (b c : Bool) (f g : Fault) → fault_cmp f g ≡ Less → Below fault_cmp (fault_if b f) (fault_if c g)
if_below b c f g less x y i j = subst (λ z. fault_cmp z y ≡ Less) (in_if b f x i).1 (subst (λ z. fault_cmp f z ≡ Less) (in_if c g y j).1 less)

below_both : (xs ys zs : List Fault) → Below fault_cmp xs ys → Below fault_cmp xs zs → Below fault_cmp xs (ys ++ zs)
below_both xs ys zs a b x y i j = elim (In-append y ys zs j) [ inl k ↦ a x y i k | inr k ↦ b x y i k ]

abbrev pub no_identifier : Bool → List Step → List Fault
no_identifier b p = fault_if b (fault_at p NoIdentifier)

abbrev pub twin_identifier : Bool → List Step → List Fault
twin_identifier b p = fault_if b (fault_at p TwinIdentifier)

abbrev pub duplicate_id : Bool → List Step → List Fault
duplicate_id b p = fault_if b (fault_at (id_place p) DuplicateId)

-- the faults of one object, by what holds of it
abbrev pub three : Bool → Bool → Bool → List Step → List Fault
three a b c p = no_identifier a p ++ (twin_identifier b p ++ duplicate_id c p)

three_sorted : (a b c : Bool) (p : List Step) → IsStrictlySortedBy fault_cmp (three a b c p)
three_sorted a b c p =
    let lacks = fault_at p NoIdentifier in
    let twin = fault_at p TwinIdentifier in
    let double = fault_at (id_place p) DuplicateId in
    sorted_append fault_cmp (no_identifier a p) (twin_identifier b p ++ duplicate_id c p) (if_sorted a lacks)
    (sorted_append fault_cmp (twin_identifier b p) (duplicate_id c p) (if_sorted b twin) (if_sorted c double)
    (if_below b c twin double (rw (start_less p _ []))))
    (below_both (no_identifier a p) (twin_identifier b p) (duplicate_id c p) (if_below a b lacks twin (rw (place_same p)))
    (if_below a c lacks double (rw (start_less p _ []))))

-- a fault of an object is told at its place or at its `@id`
abbrev IsNear : List Step → Fault → Type 0
IsNear p f = (p ≡ f.place) ⊎ (id_place p ≡ f.place)

three_near : (a b c : Bool) (p : List Step) (f : Fault) → In f (three a b c p) → IsNear p f
three_near a b c p f h =
    let place = λ (g : Fault). g.place in
    elim (In-append f (no_identifier a p) (twin_identifier b p ++ duplicate_id c p) h) [
      | inl i ↦ inl (ap place (in_if a (fault_at p NoIdentifier) f i).1)
      | inr i ↦ elim (In-append f (twin_identifier b p) (duplicate_id c p) i) [
        | inl j ↦ inl (ap place (in_if b (fault_at p TwinIdentifier) f j).1)
        | inr j ↦ inr (ap place (in_if c (fault_at (id_place p) DuplicateId) f j).1)
      ]
    ]

-- what holds of what is met after these earlier things
abbrev pub has_twin : List Met → Met → Bool
has_twin earlier k = list_any (are_twins k) earlier

abbrev pub is_named_before : List Met → Met → Bool
is_named_before earlier k = list_any (are_named_alike k) earlier

one_sorted : (earlier : List Met) (p : List Step) (k : Met) → IsStrictlySortedBy fault_cmp (faults_after earlier p k)
one_sorted earlier p k = three_sorted (is_keyless k) (has_twin earlier k) (is_named_before earlier k) p

near : (earlier : List Met) (p : List Step) (k : Met) (f : Fault) → In f (faults_after earlier p k) → IsNear p f
near earlier p k f h = three_near (is_keyless k) (has_twin earlier k) (is_named_before earlier k) p f h

up_to : (p q : List Step) (f : Fault) → IsNear p f → place_cmp (id_place p) q ≡ Less → place_cmp f.place q ≡ Less
up_to p q f (inl e) less = subst (λ r. place_cmp r q ≡ Less) e (place_cmp_total.trans p (id_place p) q (start_less p _ []) less)
up_to p q f (inr e) less = subst (λ r. place_cmp r q ≡ Less) e less

from_there : (r q : List Step) (g : Fault) → IsNear q g → place_cmp r q ≡ Less → place_cmp r g.place ≡ Less
from_there r q g (inl e) less = subst (λ s. place_cmp r s ≡ Less) e less
from_there r q g (inr e) less = subst (λ s. place_cmp r s ≡ Less) e (place_cmp_total.trans r q (id_place q) less (start_less q _ []))

pub earlier_fault : (f g : Fault) → place_cmp f.place g.place ≡ Less → fault_cmp f g ≡ Less
earlier_fault f g e = rw e

pub told_rising : (earlier : List Met) (xs : List Located) → AreApart xs → IsStrictlySortedBy fault_cmp (told earlier xs)
unfolding IsStrictlySortedBy
told_rising earlier [] parted = tt
told_rising earlier (x ∷ xs) parted =
    sorted_append fault_cmp (faults_after earlier x.place x.met) (told (earlier ++ x.met ∷ []) xs) (one_sorted earlier x.place x.met)
    (told_rising (earlier ++ x.met ∷ []) xs parted.1)
    (λ f g i j.
    let t = told_sound (earlier ++ x.met ∷ []) xs g parted.1 j in
    let less = In-all (λ y. apart x y ≡ Less) t.one xs parted.0 t.there in
    earlier_fault f g
    (from_there f.place t.one.place g (near t.before t.one.place t.one.met g t.fault) (up_to x.place t.one.place f (near earlier x.place x.met f i) less)))

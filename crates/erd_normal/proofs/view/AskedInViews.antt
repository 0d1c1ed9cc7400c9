-- Whatever is asked in a report that is written anew is asked of what is written of a value, or of what is put in.
use Rattle.erd_normal.proofs.Common.{◌≡◌, ℕ, zero, suc, Bool, true, false, ◌||◌, inl, inr, List, [], ◌∷◌, map, if◌then◌else◌, Some, None, codes, Option}
use Rattle.erd_normal.proofs.Common.{option_and_then, bytes_eq, sym, refl, ap, ◌∙◌, subst, AllByRecursion, Data, null, boolean, string, number, array, object}
use Rattle.erd_normal.proofs.Common.{Items, no_items, item, Members, get_member, get_item, items_of, Class, class, Role, role, kind, Step, IsTree, In}
use Rattle.erd_normal.proofs.Common.{entry_want, scope_inside, scope, Scope, want_of_name, ClassText, Member, Want, Object, Asked, asked, asked_at, put_all}
use Rattle.erd_normal.proofs.Common.{as_str, class_of_object, class_in_role, is_envelope}
use Rattle.erd_normal.proofs.inside.Members.{put_value}
use Rattle.erd_normal.proofs.inside.Walks.{all_inside}
use Rattle.erd_normal.proofs.view.Views.{viewed, get_view, is_put, IsPutOrNot, one_put, none_put, put_or_not, second, entry_kept, right_false, each_in_order}
use Rattle.erd_normal.proofs.view.Views.{Holding, GoesInward}
use Rattle.erd_normal.specs.code.View.{Style, is_dropped, is_left_out, set_in_order, view, view_entries, view_members, whole}

pub data IsViewOf (n : Style) (H : Holding) (v : Want) (x : Data) : Type 0 where
  of_value : (o d : Data) → H o v d → is_dropped (Some v) d ≡ false → x ≡ view n o (Some v) d → IsViewOf n H v x
  of_put : (o : Data) (w : Want) (ms : Members) (k : List ℕ) → H o w (object ms) → In (k, x) (n.puts o w (object ms))
      → want_of_name (scope_inside w (object ms)) k ≡ Some v → IsViewOf n H v x

-- a value with nothing inside
abbrev pub is_flat : Data → Bool
is_flat (array ds) = false
is_flat (object ms) = false
is_flat d = true

-- ---- the class of an object stays

pub not_put : (ps : List (List ℕ × Data)) (k : List ℕ) (o : Option Data) → is_put ps k ≡ false → put_value ps k o ≡ o
not_put [] k o h = refl
not_put (p ∷ ps) k o h = at (bytes_eq k p.0) h (not_put ps k o)
  where
    at : (b : Bool) → (b || is_put ps k) ≡ false → (is_put ps k ≡ false → put_value ps k o ≡ o) → (if b then Some p.1 else put_value ps k o) ≡ o
    at true h later = cc
    at false h later = later h

type_apart : (r : Role) (c : Option Class) → is_envelope (scope.Members r c) (codes "@type") ≡ false
type_apart r (Some class.ElectionReport) = refl
type_apart r c = refl

text_kept : (n : Style) (o : Data) (r : Role) (d : Data) → as_str (view n o (Some (ClassText r)) d) ≡ as_str d
text_kept n o r null = refl
text_kept n o r (boolean b) = refl
text_kept n o r (number k) = refl
text_kept n o r (string s) = refl
text_kept n o r (array ds) = refl
text_kept n o r (object ms) = refl

found_text : (n : Style) (o : Data) (r : Role) (c : Option Class) (found : Option Data)
    → option_and_then as_str (option_and_then (viewed n o (scope.Members r c) (codes "@type")) found) ≡ option_and_then as_str found
found_text n o r c None = refl
found_text n o r c (Some d) =
    ap (λ b. option_and_then as_str (if b || is_dropped (want_of_name (scope.Members r c) (codes "@type")) d then None
    else Some (view n o (want_of_name (scope.Members r c) (codes "@type")) d))) (type_apart r c) ∙ text_kept n o r d

-- ---- one step, and all steps

seconds_each : (n : Style) (o : Data) (w : Option Want) (P : Data → Type 0) (ds : Items) → ((i : ℕ) (d : Data) → get_item i ds ≡ Some d → P (view n o w d))
    → AllByRecursion (λ p. P p.1) (view_entries n o w ds)
seconds_each n o w P no_items each = tt
seconds_each n o w P (item d ds) each = (each zero d refl, seconds_each n o w P ds (λ i x e. each (suc i) x e))

one_second : (P : Data → Type 0) (ps : List (Data × Data)) (i : ℕ) (x : Data) → AllByRecursion (λ p. P p.1) ps
    → get_item i (items_of (map second ps)) ≡ Some x → P x
one_second P [] i x all e = cc
one_second P (p ∷ ps) zero x all e = let same : p.1 ≡ x = cc in subst P same all.0
one_second P (p ∷ ps) (suc i) x all e = one_second P ps i x all.1 e

no_put : (ps : List (List ℕ × Data)) (k : List ℕ) (x : Data) → AllByRecursion (λ p. is_flat p.1 ≡ true) ps → In (k, x) ps → is_flat x ≡ true
no_put (p ∷ ps) k x flat (inl is) = let same : p.1 ≡ x = ap (λ (q : List ℕ × Data). q.1) is in subst (λ v. is_flat v ≡ true) same flat.0
no_put (p ∷ ps) k x flat (inr h) = no_put ps k x flat.1 h
no_put [] k x flat h = absurd h

-- a member that is written
pub record Written (n : Style) (o : Data) (s : Scope) (ms : Members) (k : List ℕ) (x : Data) : Type 0 where
  pub from : Data
  pub found : get_member k ms ≡ Some from
  pub kept : is_left_out s k from ≡ false
  pub is : x ≡ view n o (want_of_name s k) from

pub written_from : (n : Style) (o : Data) (s : Scope) (ms : Members) (k : List ℕ) (x : Data) (f : Option Data) → get_member k ms ≡ f
    → option_and_then (viewed n o s k) f ≡ Some x → Written n o s ms k x
written_from n o s ms k x None found e = cc
written_from n o s ms k x (Some d) found e = at (is_left_out s k d) refl e
  where
    at : (b : Bool) → is_left_out s k d ≡ b → (if b then None else Some (view n o (want_of_name s k) d)) ≡ Some x → Written n o s ms k x
    at true kept e = cc
    at false kept e = let same : view n o (want_of_name s k) d ≡ x = cc in record { from = d; found = found; kept = kept; is = sym same }

module _ (n : Style) (H : Holding) (inward : GoesInward H) (no_type : (o : Data) (w : Want) (d : Data) → is_put (n.puts o w d) (codes "@type") ≡ false)
    (flat : (o : Data) (w : Want) (d : Data) → AllByRecursion (λ p. is_flat p.1 ≡ true) (n.puts o w d)) where
  pub class_kept : (r : Role) (o : Data) (w : Want) (ms : Members) → scope_inside w (object ms)
      ≡ scope.Members r (class_of_object r (object ms)) → IsTree (object ms) → class_of_object r (view n o (Some w) (object ms)) ≡ class_of_object r (object ms)
  class_kept r o w ms is tree =
      ap (λ f. option_and_then (class_in_role r) (option_and_then as_str f))
      (get_view n (object ms) (scope_inside w (object ms)) (n.puts o w (object ms)) (codes "@type") ms tree
      ∙ not_put (n.puts o w (object ms)) (codes "@type") (option_and_then (viewed n (object ms) (scope_inside w (object ms)) (codes "@type"))
      (get_member (codes "@type") ms)) (no_type o w (object ms))
      ∙ ap (λ s. option_and_then (viewed n (object ms) s (codes "@type")) (get_member (codes "@type") ms)) is)
      ∙ ap (option_and_then (class_in_role r)) (found_text n (object ms) r (class_of_object r (object ms)) (get_member (codes "@type") ms))

  pub scope_kept : (o : Data) (w : Want) (ms : Members) → IsTree (object ms) → scope_inside w (view n o (Some w) (object ms)) ≡ scope_inside w (object ms)
  scope_kept o (Object r) ms tree = ap (scope.Members r) (class_kept r o (Object r) ms refl tree)
  scope_kept o (Member kind.Label required) ms tree = ap (scope.Members role.Label) (class_kept role.Label o (Member kind.Label required) ms refl tree)
  scope_kept o w ms tree = refl

  -- what stands under a name of an object that is written
  pub member_of_view : (o : Data) (w : Want) (ms : Members) (k : List ℕ) (v : Want) (x : Data) → H o w (object ms)
      → want_of_name (scope_inside w (view n o (Some w) (object ms))) k ≡ Some v
      → get_member k (put_all (n.puts o w (object ms)) (view_members n (object ms) (scope_inside w (object ms)) ms)) ≡ Some x → IsViewOf n H v x
  member_of_view o w ms k v x h asks found = at (put_or_not (n.puts o w (object ms)) k)
      (sym (get_view n (object ms) (scope_inside w (object ms)) (n.puts o w (object ms)) k ms (inward.trees o w (object ms) h)) ∙ found)
    where
      asks' : want_of_name (scope_inside w (object ms)) k ≡ Some v
      asks' = ap (λ s. want_of_name s k) (sym (scope_kept o w ms (inward.trees o w (object ms) h))) ∙ asks

      at : IsPutOrNot (n.puts o w (object ms)) k → put_value (n.puts o w (object ms)) k
          (option_and_then (viewed n (object ms) (scope_inside w (object ms)) k) (get_member k ms)) ≡ Some x → IsViewOf n H v x
      at (one_put u here puts) e =
          let some : Some u ≡ Some x = sym (puts (option_and_then (viewed n (object ms) (scope_inside w (object ms)) k) (get_member k ms))) ∙ e in
          let same : u ≡ x = cc in of_put o w ms k h (subst (λ y. In (k, y) (n.puts o w (object ms))) same here) asks'
      at (none_put none puts) e =
          let m : Written n (object ms) (scope_inside w (object ms)) ms k x =
          written_from n (object ms) (scope_inside w (object ms)) ms k x (get_member k ms) refl
          (sym (puts (option_and_then (viewed n (object ms) (scope_inside w (object ms)) k) (get_member k ms))) ∙ e) in
          of_value (object ms) m.from (inward.members o w v ms k m.from h asks' m.found)
          (subst (λ a. is_dropped a m.from ≡ false) asks'
          (right_false (is_envelope (scope_inside w (object ms)) k) (is_dropped (want_of_name (scope_inside w (object ms)) k) m.from) m.kept))
          (m.is ∙ ap (λ a. view n (object ms) a m.from) asks')

  pub entry_of_view : (o : Data) (w : Want) (ds : Items) (i : ℕ) (v : Want) (x : Data) → H o w (array ds) → entry_want w ≡ Some v
      → get_item i (items_of (map second (set_in_order n w (view_entries n o (entry_want w) ds)))) ≡ Some x → IsViewOf n H v x
  entry_of_view o w ds i v x h asks found =
      one_second (IsViewOf n H v) (set_in_order n w (view_entries n o (entry_want w) ds)) i x
      (each_in_order n (λ p. IsViewOf n H v p.1) w (view_entries n o (entry_want w) ds)
      (seconds_each n o (entry_want w) (IsViewOf n H v) ds
      (λ j d e. of_value o d (inward.entries o w v ds j d h asks e) (subst (λ a. is_dropped a d ≡ false) asks (entry_kept w d)) (ap (λ a. view n o a d) asks))))
      found

  in_object : (w v : Want) (ns : Members) (k : List ℕ) (x o d : Data) → H o w d → object ns ≡ view n o (Some w) d → want_of_name (scope_inside w (object ns)) k
      ≡ Some v → get_member k ns ≡ Some x → IsViewOf n H v x
  in_object w v ns k x o null h is asks found = cc
  in_object w v ns k x o (boolean b) h is asks found = cc
  in_object w v ns k x o (number m) h is asks found = cc
  in_object w v ns k x o (string s) h is asks found = cc
  in_object w v ns k x o (array ds) h is asks found = cc
  in_object w v ns k x o (object ms) h is asks found =
      let these : ns ≡ put_all (n.puts o w (object ms)) (view_members n (object ms) (scope_inside w (object ms)) ms) = cc in
      member_of_view o w ms k v x h (ap (λ y. want_of_name (scope_inside w y) k) (sym is) ∙ asks) (ap (get_member k) (sym these) ∙ found)

  in_array : (w v : Want) (es : Items) (i : ℕ) (x o d : Data) → H o w d → array es ≡ view n o (Some w) d → entry_want w ≡ Some v → get_item i es
      ≡ Some x → IsViewOf n H v x
  in_array w v es i x o null h is asks found = cc
  in_array w v es i x o (boolean b) h is asks found = cc
  in_array w v es i x o (number m) h is asks found = cc
  in_array w v es i x o (string s) h is asks found = cc
  in_array w v es i x o (object ms) h is asks found = cc
  in_array w v es i x o (array ds) h is asks found =
      let these : es ≡ items_of (map second (set_in_order n w (view_entries n o (entry_want w) ds))) =
      cc in entry_of_view o w ds i v x h asks (ap (get_item i) (sym these) ∙ found)

  pub asked_viewed : (t : Data) → H null (Object role.Report) t → (p : List Step) (a : Asked) → asked_at (whole n t) p ≡ Some a → IsViewOf n H a.want a.value
  asked_viewed t h p a e =
      all_inside (IsViewOf n H) (λ w ns k v x h asks found. inside_object w v ns k x h asks found)
      (λ w es i v x h asks found. inside_array w v es i x h asks found)
      (asked (Object role.Report) (whole n t)) p a (of_value null t h refl refl) e
    where
      inside_object : (w v : Want) (ns : Members) (k : List ℕ) (x : Data) → IsViewOf n H w (object ns) → want_of_name (scope_inside w (object ns)) k ≡ Some v
          → get_member k ns ≡ Some x → IsViewOf n H v x
      inside_object w v ns k x (of_value o d h read is) asks found = in_object w v ns k x o d h is asks found
      inside_object w v ns k x (of_put o u ms l h put of) asks found = let no : is_flat (object ns) ≡ true =
          no_put (n.puts o u (object ms)) l (object ns) (flat o u (object ms)) put in cc

      inside_array : (w v : Want) (es : Items) (i : ℕ) (x : Data) → IsViewOf n H w (array es) → entry_want w ≡ Some v → get_item i es
          ≡ Some x → IsViewOf n H v x
      inside_array w v es i x (of_value o d h read is) asks found = in_array w v es i x o d h is asks found
      inside_array w v es i x (of_put o u ms l h put of) asks found = let no : is_flat (array es) ≡ true =
          no_put (n.puts o u (object ms)) l (array es) (flat o u (object ms)) put in cc

-- What is asked inside a value, step by step: what passes on to members and to entries holds all the way.
use Rattle.erd_normal.proofs.Common.{◌≡◌, ℕ, Bool, true, false, ◌&&◌, List, Some, codes, bytes_eq, refl, ap, ◌∙◌, subst, list_all, Data, object, Members}
use Rattle.erd_normal.proofs.Common.{get_member, role_of_class, rows_of_class, kind_of_member, Class, class, Role, role, MemberKind, kind, None, Option}
use Rattle.erd_normal.proofs.Common.{option_map, option_and_then, option_map_or, array, Items, get_item, At, entry_want, is_compared_set, asked, Want, Member}
use Rattle.erd_normal.proofs.Common.{[], ◌∷◌, if◌then◌else◌, ◌||◌, is_reference_name, Step, Name, kind_of_class, class_of_object, scope_inside, want_of_kind}
use Rattle.erd_normal.proofs.Common.{member_want, carried_want, want_of_name, Asked, is_repeated, asked_inside, asked_from, scope, Carried, ClassText, Object}
use Rattle.erd_normal.proofs.Common.{class_role, same_Some, kind_of_identity, Status, Scope, is_report_class, is_required, want_unless_status}

-- ---- along a place

pub along : (P : Asked → Type 0) → ((a b : Asked) (s : Step) → P a → asked_inside a.want a.value s ≡ Some b → P b) → (a : Asked) (p : List Step) (b : Asked)
    → P a → asked_from a p ≡ Some b → P b
along P step a [] b here e = let same : a ≡ b = cc in subst P same here
along P step a (s ∷ p) b here e = at (asked_inside a.want a.value s) refl e (λ x. along P step x p b)
  where
    at : (o : Option Asked) → asked_inside a.want a.value s ≡ o → option_and_then (λ x. asked_from x p) o ≡ Some b
        → ((x : Asked) → P x → asked_from x p ≡ Some b → P b) → P b
    at None is e rest = cc
    at (Some x) is e rest = rest x (step a x s here is) e

some_asked : (Q : Want → Data → Type 0) (make : Want → Data → Asked) → ((v : Want) (d : Data) → Q v d → Q (make v d).want (make v d).value)
    → (o : Option Want) (p : Option Data) (c : Asked)
    → ((v : Want) (d : Data) → o ≡ Some v → p ≡ Some d → Q v d) → option_and_then (λ v. option_map (make v) p) o ≡ Some c → Q c.want c.value
some_asked Q make keeps (Some v) (Some d) c each e = let one : make v d ≡ c = cc in subst (λ (x : Asked). Q x.want x.value) one (keeps v d (each v d refl refl))
some_asked Q make keeps o p c each e = cc

-- what passes on to members and to entries
module _ (Q : Want → Data → Type 0)
    (members : (w : Want) (ms : Members) (n : List ℕ) (v : Want) (x : Data) → Q w (object ms) → want_of_name (scope_inside w (object ms)) n ≡ Some v
    → get_member n ms ≡ Some x → Q v x)
    (entries : (w : Want) (ds : Items) (i : ℕ) (v : Want) (x : Data) → Q w (array ds) → entry_want w ≡ Some v → get_item i ds ≡ Some x → Q v x) where
  pub one_inside : (w : Want) (d : Data) (s : Step) (c : Asked) → Q w d → asked_inside w d s ≡ Some c → Q c.want c.value
  one_inside w (object ms) (Name n) c h e = some_asked Q asked (λ v d q. q) (want_of_name (scope_inside w (object ms)) n) (get_member n ms) c
      (λ v x asks found. members w ms n v x h asks found) e
  one_inside w (array ds) (At i) c h e =
      some_asked Q (λ v d. record { want = v; value = d; repeated = is_compared_set w && is_repeated ds i d }) (λ v d q. q) (entry_want w) (get_item i ds) c
      (λ v x asks found. entries w ds i v x h asks found) e
  one_inside w d s c h e = cc

  pub all_inside : (a : Asked) (p : List Step) (b : Asked) → Q a.want a.value → asked_from a p ≡ Some b → Q b.want b.value
  all_inside = along (λ x. Q x.want x.value) (λ x y s. one_inside x.want x.value s y)

-- ---- what is asked of names

-- in an object of this class, or of an unknown one
pub name_passes : (P : Want → Bool) (r : Role) (o : Option Class) (name : List ℕ) → P (ClassText r) ≡ true
    → ((c : Class) → o ≡ Some c → bytes_eq name (codes "@type") ≡ false → P (member_want c name) ≡ true)
    → option_map_or P (want_of_name (scope.Members r o) name) true ≡ true
name_passes P r o name text other = at (bytes_eq name (codes "@type")) refl o other
  where
    at : (b : Bool) → bytes_eq name (codes "@type") ≡ b → (o : Option Class)
        → ((c : Class) → o ≡ Some c → bytes_eq name (codes "@type") ≡ false → P (member_want c name) ≡ true)
        → option_map_or P (if b then Some (ClassText r) else option_map (λ c. member_want c name) o) true ≡ true
    at true is o other = text
    at false is None other = refl
    at false is (Some c) other = other c refl is

-- in one of a known class
pub known_passes : (P : Want → Bool) (r : Role) (c : Class) (name : List ℕ) → P (ClassText r) ≡ true
    → (bytes_eq name (codes "@type") ≡ false → P (member_want c name) ≡ true) → option_map_or P (want_of_name (scope.Members r (Some c)) name) true ≡ true
known_passes P r c name text other = name_passes P r (Some c) name text (λ d is no. subst (λ x. P (member_want x name) ≡ true) (same_Some c d is) (other no))

-- in what is carried
pub carried_passes : (P : Want → Bool) → P (Member kind.StrangeIdentity false) ≡ true → P Carried ≡ true → (name : List ℕ) → P (carried_want name) ≡ true
carried_passes P strange carried name = at (bytes_eq name (codes "@id") || is_reference_name name)
  where
    at : (b : Bool) → P (if b then Member kind.StrangeIdentity false else Carried) ≡ true
    at true = strange
    at false = carried

-- ---- values that hold no objects but external identifiers, translations and what is carried

abbrev pub is_apart_role : Role → Bool
is_apart_role role.Identifier = true
is_apart_role role.Language = true
is_apart_role r = false

abbrev pub is_closed : Want → Bool
is_closed (Object r) = is_apart_role r
is_closed (Member kind.Label required) = false
is_closed w = true

-- what holds of the kinds of their members holds of all that is asked of these
module _ (P : Want → Bool) (K : MemberKind → Bool) (of_kind : (k : MemberKind) (required : Bool) → K k ≡ true → P (want_of_kind k required) ≡ true)
    (text : (r : Role) → P (ClassText r) ≡ true)
    (rows : list_all (λ m. K m.kind) (rows_of_class class.ExternalIdentifier) ≡ true)
    (other_rows : list_all (λ m. K m.kind) (rows_of_class class.LanguageString) ≡ true)
    (identity : K kind.StrangeIdentity ≡ true) (reference : K kind.StrangeReference ≡ true) (carried : K kind.Carried ≡ true) where
  closed_member : (r : Role) (c : Class) (name : List ℕ) → is_apart_role r ≡ true → role_of_class c ≡ r → bytes_eq name (codes "@type") ≡ false
      → P (member_want c name) ≡ true
  closed_member r class.ExternalIdentifier name h e other = of_kind (kind_of_member class.ExternalIdentifier name) _
      (kind_of_class K class.ExternalIdentifier name other rows identity reference carried)
  closed_member r class.LanguageString name h e other = of_kind (kind_of_member class.LanguageString name) _
      (kind_of_class K class.LanguageString name other other_rows identity reference carried)
  closed_member r c name h e other = let x : is_apart_role (role_of_class c) ≡ true = ap is_apart_role e ∙ h in cc

  pub closed_names : (w : Want) (ms : Members) → is_closed w ≡ true → (name : List ℕ)
      → option_map_or P (want_of_name (scope_inside w (object ms)) name) true ≡ true
  closed_names (Object r) ms closed name = name_passes P r (class_of_object r (object ms)) name (text r)
      (λ c is other. closed_member r c name closed (class_role r (object ms) c is) other)
  closed_names Carried ms closed name = carried_passes P (of_kind kind.StrangeIdentity false identity) (of_kind kind.Carried false carried) name
  closed_names (Member kind.Label required) ms closed name = cc
  closed_names w ms closed name = refl

-- ---- what passes a test wherever it is asked, since the kinds of all members pass a test of kinds

module _ (P : Want → Bool) (K : MemberKind → Bool) (of_kind : (k : MemberKind) (required : Bool) → K k ≡ true → P (want_of_kind k required) ≡ true)
    (rows : (c : Class) → (list_all (λ m. K m.kind) (rows_of_class c) ≡ true) × (K (kind_of_identity c) ≡ true)) (reference : K kind.StrangeReference ≡ true)
    (member_carried : K kind.Carried ≡ true)
    (status : P Status ≡ true) (text : (r : Role) → P (ClassText r) ≡ true) (identity : P (Member kind.StrangeIdentity false) ≡ true)
    (carried : P Carried ≡ true)
    (entry : (w : Want) → P w ≡ true → option_map_or P (entry_want w) true ≡ true) where
  member_passes : (c : Class) (name : List ℕ) → bytes_eq name (codes "@type") ≡ false → P (member_want c name) ≡ true
  member_passes c name other = at (is_report_class c && bytes_eq name (codes "Status")) refl
    where
      at : (b : Bool) → (is_report_class c && bytes_eq name (codes "Status")) ≡ b → P (member_want c name) ≡ true
      at true is = rw is status
      at false is = ap P (want_unless_status c name is) ∙ of_kind (kind_of_member c name) (is_required c name)
          (kind_of_class K c name other (rows c).0 (rows c).1 reference member_carried)

  scope_passes : (s : Scope) (name : List ℕ) → option_map_or P (want_of_name s name) true ≡ true
  scope_passes scope.Nothing name = refl
  scope_passes scope.Carried name = carried_passes P identity carried name
  scope_passes (scope.Members r o) name = name_passes P r o name (text r) (λ c is other. member_passes c name other)

  pub all_pass : (a : Asked) (p : List Step) (b : Asked) → P a.want ≡ true → asked_from a p ≡ Some b → P b.want ≡ true
  all_pass =
      all_inside (λ w d. P w ≡ true) (λ w ms n v x h asks found. subst (λ o. option_map_or P o true ≡ true) asks (scope_passes (scope_inside w (object ms)) n))
      (λ w ds i v x h asks found. subst (λ o. option_map_or P o true ≡ true) asks (entry w h))

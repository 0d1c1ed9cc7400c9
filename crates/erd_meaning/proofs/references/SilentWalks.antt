-- The reasons of a reference, by one look-up of its text; where no reference stands, none is told.
use Rattle.erd_meaning.proofs.Common.{◌≡◌, ℕ, Bool, true, false, ◌&&◌, ◌||◌, List, [], ◌∷◌, ◌++◌, Some, None, codes, Option, option_and_then, bytes_eq, sym}
use Rattle.erd_meaning.proofs.Common.{refl, ap, ◌∙◌, ap₂, list_all, option_map_or, Data, object, Members, get, as_str, role_of_class, class_in_role}
use Rattle.erd_meaning.proofs.Common.{rows_of_class, is_reference_name, kind_of_identity, kind_of_member, is_required, Class, class, Role, role, MemberKind}
use Rattle.erd_meaning.proofs.Common.{kind, kind_of_class, class_of_object, scope_inside, want_of_kind, is_report_class, member_want, carried_want}
use Rattle.erd_meaning.proofs.Common.{want_of_name, entry_want, Want, Carried, ClassText, Member, Status, leads_to_references, cond_both, not, is_some, is_none}
use Rattle.erd_meaning.proofs.Common.{◌==◌, option_map, option_to_list, and-false, string, family_number, Family, family, Reason, SelectionOfOtherContest}
use Rattle.erd_meaning.proofs.Common.{Unresolved, WrongFamily, Reference, number_of_id, is_in_contest, number_among, object_among, Kept, is_known, is_of_others}
use Rattle.erd_meaning.proofs.Common.{is_selection_family, is_selection_elsewhere, is_elsewhere, reason_if, id_reasons, reference_reasons_told, arith}
use Rattle.erd_tables.proofs.Roles.{class_in_role_named}
use Rattle.erd_check.proofs.Silence.{silent_member}
use Rattle.erd_check.specs.Visits.{IsSilentMember}
use Rattle.erd_check.specs.declared.want.Scope.{Scope as scope}
use Rattle.erd_check.specs.declared.want.Want.TheVariants.{Object}
use Rattle.std.specs.Bool.{then_some}
use Rattle.erd_meaning.proofs.finding.Found.{with_id_none, with_id_of_other, with_id_some}
use Rattle.erd_meaning.proofs.finding.Known.{id_known}

-- ---- what is asked inside

abbrev is_plain_kind : MemberKind → Bool
is_plain_kind (kind.One f) = false
is_plain_kind (kind.Many f) = false
is_plain_kind (kind.Keyed f) = false
is_plain_kind kind.Elections = false
is_plain_kind kind.Content = false
is_plain_kind kind.Ordered = false
is_plain_kind k = true

plain_kind : (k : MemberKind) (required : Bool) → is_plain_kind k ≡ true → leads_to_references (want_of_kind k required) ≡ false
plain_kind (kind.One f) required e = cc
plain_kind (kind.Many f) required e = cc
plain_kind (kind.Keyed f) required e = cc
plain_kind kind.Elections required e = cc
plain_kind kind.Content required e = cc
plain_kind kind.Ordered required e = cc
plain_kind k required e = refl

-- the roles of objects that have no references
abbrev is_plain_role : Role → Bool
is_plain_role role.Identifier = true
is_plain_role role.Label = true
is_plain_role role.Language = true
is_plain_role r = false

plain_rows : (c : Class) → is_plain_role (role_of_class c) ≡ true → list_all (λ m. is_plain_kind m.kind) (rows_of_class c) ≡ true
plain_rows class.ExternalIdentifier e = refl
plain_rows class.InternationalizedText e = refl
plain_rows class.LanguageString e = refl
plain_rows c e = cc

plain_identity : (c : Class) → is_plain_kind (kind_of_identity c) ≡ true
plain_identity class.ElectionReport = refl
plain_identity c = refl

plain_member : (c : Class) (name : List ℕ) → is_plain_role (role_of_class c) ≡ true → bytes_eq name (codes "@type") ≡ false
    → leads_to_references (member_want c name) ≡ false
plain_member c name e other =
    cond_both (is_report_class c && bytes_eq name (codes "Status")) Status (want_of_kind (kind_of_member c name) (is_required c name))
    (λ w. leads_to_references w ≡ false) (λ is. refl)
    (λ is. plain_kind (kind_of_member c name) (is_required c name) (kind_of_class is_plain_kind c name other (plain_rows c e) (plain_identity c) refl refl))

class_role : (r : Role) (o : Option (List ℕ)) (c : Class) → option_and_then (class_in_role r) o ≡ Some c → role_of_class c ≡ r
class_role r None c e = cc
class_role r (Some text) c e = (class_in_role_named r text c e).role

-- in an object without references, nothing that leads to one is asked for
plain_named : (r : Role) (o : Option Class) → is_plain_role r ≡ true → ((c : Class) → o ≡ Some c → role_of_class c ≡ r) → (name : List ℕ) (v : Want)
    → want_of_name (scope.Members r o) name ≡ Some v → leads_to_references v ≡ false
plain_named r o plain classes name v = at (bytes_eq name (codes "@type")) refl o classes
  where
    at : (b : Bool) → bytes_eq name (codes "@type") ≡ b → (o : Option Class) → ((c : Class) → o ≡ Some c → role_of_class c ≡ r)
        → want_of_name (scope.Members r o) name ≡ Some v → leads_to_references v ≡ false
    at true is o own e =
        let named : want_of_name (scope.Members r o) name ≡ Some (ClassText r) = rw is in
        let k : ClassText r ≡ v = cc in
        ap leads_to_references (sym k)
    at false is None own e =
        let unnamed : want_of_name (scope.Members r None) name ≡ None = rw is in
        cc
    at false is (Some c) own e =
        let named : want_of_name (scope.Members r (Some c)) name ≡ Some (member_want c name) = rw is in
        let k : member_want c name ≡ v = cc in
        ap leads_to_references (sym k) ∙ plain_member c name (ap is_plain_role (own c refl) ∙ plain) is

plain_object : (r : Role) (ms : Members) → is_plain_role r ≡ true → (name : List ℕ) (v : Want) → want_of_name (scope.Members r (class_of_object r (object ms)))
    name ≡ Some v → leads_to_references v ≡ false
plain_object r ms plain = plain_named r (class_of_object r (object ms)) plain (class_role r (option_and_then as_str (get (codes "@type") (object ms))))

plain_carried : (name : List ℕ) (v : Want) → want_of_name scope.Carried name ≡ Some v → leads_to_references v ≡ false
plain_carried name v e =
    let h : carried_want name ≡ v = cc in
    ap leads_to_references (sym h)
    ∙ cond_both (bytes_eq name (codes "@id") || is_reference_name name) (Member kind.StrangeIdentity false) Carried (λ w. leads_to_references w ≡ false)
    (λ is. refl) (λ is. refl)

nothing_named : (name : List ℕ) (v : Want) → want_of_name scope.Nothing name ≡ Some v → leads_to_references v ≡ false
nothing_named name v e = cc

-- what is asked of the members of a value that does not lead to references
named_inside : (w : Want) (ms : Members) → leads_to_references w ≡ false → (name : List ℕ) (v : Want) → want_of_name (scope_inside w (object ms)) name ≡ Some v
    → leads_to_references v ≡ false
named_inside (Object role.Identifier) ms h = plain_object role.Identifier ms refl
named_inside (Object role.Label) ms h = plain_object role.Label ms refl
named_inside (Object role.Language) ms h = plain_object role.Language ms refl
named_inside (Object r) ms h = cc
named_inside (Member kind.Label required) ms h = plain_object role.Label ms refl
named_inside Carried ms h = plain_carried
named_inside w ms h = nothing_named

-- and of its entries
entries_inside : (w v : Want) → leads_to_references w ≡ false → entry_want w ≡ Some v → leads_to_references v ≡ false
entries_inside (Member kind.Identifiers required) v h e = let k : Object role.Identifier ≡ v = cc in ap leads_to_references (sym k)
entries_inside (Member kind.Languages required) v h e = let k : Object role.Language ≡ v = cc in ap leads_to_references (sym k)
entries_inside Carried v h e = let k : Carried ≡ v = cc in ap leads_to_references (sym k)
entries_inside w v h e = cc

-- ---- reasons of references are told where a reference is asked for, and nowhere else

no_reason : (ks : List Kept) (outer : Data) (w : Want) (repeated : Bool) (d : Data) → leads_to_references w ≡ false
    → reference_reasons_told ks outer w repeated d ≡ []
no_reason ks outer (Reference f) repeated d h = cc
no_reason ks outer w repeated d h = refl

pub no_reference : (ks : List Kept) (owner : Data) (w : Want) (d : Data) → leads_to_references w ≡ false → IsSilentMember (reference_reasons_told ks) owner w d
no_reference ks = silent_member (reference_reasons_told ks) (λ w. leads_to_references w ≡ false)
    (record { nothing = no_reason ks; of_entries = entries_inside; of_members = named_inside })

-- ---- the reasons of a reference, by one look-up of its text

-- the reasons by what is known of the text
abbrev told : Bool → Bool → Bool → List Reason
told known others elsewhere = reason_if (not known) Unresolved ++ (reason_if others WrongFamily ++ reason_if elsewhere SelectionOfOtherContest)

told-same : (ks : List Kept) (outer : Data) (f : Family) (id : List ℕ) (known others elsewhere : Bool) → is_known ks id ≡ known → is_of_others ks f id ≡ others
    → (is_selection_family f && is_elsewhere ks outer id) ≡ elsewhere
    → id_reasons ks outer f id ≡ told known others elsewhere
told-same ks outer f id known others elsewhere a b c =
    ap₂ ◌++◌ (ap (λ k. reason_if (not k) Unresolved) a) (ap₂ (λ o e. reason_if o WrongFamily ++ reason_if e SelectionOfOtherContest) b c)

known_by : (ks : List Kept) (id : List ℕ) (o : Option (Family × ℕ)) → number_of_id ks id ≡ o → is_known ks id ≡ is_some o
known_by ks id o e = sym (id_known ks id) ∙ ap is_some e

others_by : (ks : List Kept) (f : Family) (id : List ℕ) (o : Option Kept) (known : Bool) → object_among ks f id ≡ o → is_known ks id ≡ known
    → is_of_others ks f id ≡ (is_none o && known)
others_by ks f id o known e k = ap₂ (λ (q : Option Kept) (b : Bool). is_none (option_map (λ k. k.value) q) && b) e k ∙ at o
  where
    at : (o : Option Kept) → (is_none (option_map (λ (k : Kept). k.value) o) && known) ≡ (is_none o && known)
    at o = grind arith

elsewhere_by : (ks : List Kept) (outer : Data) (id : List ℕ) (o : Option ℕ) → number_among ks family.Selection id ≡ o → is_elsewhere ks outer id
    ≡ option_map_or (is_selection_elsewhere ks outer) o false
elsewhere_by ks outer id o e = ap (λ (q : Option ℕ). option_map_or (is_selection_elsewhere ks outer) q false) e

among_none : (ks : List Kept) (f : Family) (id : List ℕ) → number_of_id ks id ≡ None → number_among ks f id ≡ None
among_none ks f id e = rw e

among_other : (ks : List Kept) (f g : Family) (id : List ℕ) (i : ℕ) → number_of_id ks id ≡ Some (g, i) → (family_number g == family_number f) ≡ false
    → number_among ks f id ≡ None
among_other ks f g id i e other = rw (e, other)

pub among_family : (ks : List Kept) (f g : Family) (id : List ℕ) (i : ℕ) → number_of_id ks id ≡ Some (g, i) → (family_number g == family_number f) ≡ true
    → number_among ks f id ≡ Some i
among_family ks f g id i e same = rw (e, same)

-- no object has the text
pub reasons_of_unknown : (ks : List Kept) (outer : Data) (f : Family) (id : List ℕ) → number_of_id ks id ≡ None → id_reasons ks outer f id ≡ Unresolved ∷ []
reasons_of_unknown ks outer f id e =
    let known = known_by ks id None e in
    told-same ks outer f id false false false known (others_by ks f id None false (with_id_none ks f id e) known)
    (ap (λ b. is_selection_family f && b) (elsewhere_by ks outer id None (among_none ks family.Selection id e)) ∙ and-false (is_selection_family f))

elsewhere_of_other : (ks : List Kept) (outer : Data) (f g : Family) (id : List ℕ) (i : ℕ) → number_of_id ks id ≡ Some (g, i)
    → (family_number g == family_number f) ≡ false → (is_selection_family f && is_elsewhere ks outer id) ≡ false
elsewhere_of_other ks outer family.Selection g id i e other = elsewhere_by ks outer id None (among_other ks family.Selection g id i e other)
elsewhere_of_other ks outer f g id i e other = refl

-- an object of another family has it
pub reasons_of_other : (ks : List Kept) (outer : Data) (f g : Family) (id : List ℕ) (i : ℕ) → number_of_id ks id ≡ Some (g, i)
    → (family_number g == family_number f) ≡ false → id_reasons ks outer f id ≡ WrongFamily ∷ []
reasons_of_other ks outer f g id i e other =
    let known = known_by ks id (Some (g, i)) e in
    told-same ks outer f id true true false known (others_by ks f id None true (with_id_of_other ks f g id i e other) known)
    (elsewhere_of_other ks outer f g id i e other)

elsewhere_of_family : (ks : List Kept) (outer : Data) (f g : Family) (id : List ℕ) (i : ℕ) → number_of_id ks id ≡ Some (g, i)
    → (family_number g == family_number f) ≡ true
    → (is_selection_family f && is_elsewhere ks outer id) ≡ (is_selection_family f && is_selection_elsewhere ks outer i)
elsewhere_of_family ks outer family.Selection g id i e same = elsewhere_by ks outer id (Some i) (among_family ks family.Selection g id i e same)
elsewhere_of_family ks outer f g id i e same = refl

-- an object of the family has it
pub reasons_of_family : (ks : List Kept) (outer : Data) (f g : Family) (id : List ℕ) (i : ℕ) → number_of_id ks id ≡ Some (g, i)
    → (family_number g == family_number f) ≡ true
    → id_reasons ks outer f id ≡ reason_if (is_selection_family f && is_selection_elsewhere ks outer i) SelectionOfOtherContest
reasons_of_family ks outer f g id i e same =
    let known = known_by ks id (Some (g, i)) e in
    let one = with_id_some ks f g id i e same in
    told-same ks outer f id true false (is_selection_family f && is_selection_elsewhere ks outer i) known (others_by ks f id (Some one.0) true one.1 known)
    (elsewhere_of_family ks outer f g id i e same)

pub told_if : (b : Bool) (r : Reason) → option_to_list (then_some b r) ≡ reason_if b r
told_if b r = grind arith

-- a value with this text
pub text_read : (d : Data) (s : List ℕ) → as_str d ≡ Some s → d ≡ string s
text_read (string t) s e = let same : t ≡ s = cc in ap string same
text_read _ s e = cc

-- an object of the family has the text, and no selection of another contest is named
pub clear_of_family : (ks : List Kept) (outer : Data) (f g : Family) (id : List ℕ) (i : ℕ) → number_of_id ks id ≡ Some (g, i)
    → (family_number g == family_number f) ≡ true → (is_selection_family f && is_selection_elsewhere ks outer i) ≡ false → id_reasons ks outer f id ≡ []
clear_of_family ks outer f g id i found same inside = reasons_of_family ks outer f g id i found same ∙ ap (λ b. reason_if b SelectionOfOtherContest) inside

-- ---- a selection is not elsewhere if it is in the contest that an object names

pub in_own_contest : (ks : List Kept) (contest selection : ℕ) (id : List ℕ) → number_of_id ks id ≡ Some (family.Contest, contest)
    → is_in_contest ks contest selection ≡ true → option_map_or {T = ℕ} (λ c. not (is_in_contest ks c selection)) (number_among ks family.Contest id) false
    ≡ false
in_own_contest ks contest selection id named inside =
    ap (λ (o : Option ℕ). option_map_or {T = ℕ} (λ c. not (is_in_contest ks c selection)) o false)
    (among_family ks family.Contest family.Contest id contest named refl) ∙ ap not inside

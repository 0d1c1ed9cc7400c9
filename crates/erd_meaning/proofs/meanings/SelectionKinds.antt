-- Which members hold selections: `ContestSelection` of contests alone.
use Rattle.erd_meaning.proofs.Common.{◌≡◌, ℕ, Bool, true, false, not, ◌||◌, List, is_some, if◌then◌else◌, Some, codes, option_and_then, bytes_eq, sym, refl, ap}
use Rattle.erd_meaning.proofs.Common.{◌∙◌, subst, list_all, Data, get, as_str, role_of_class, family_of_class, class_in_role, rows_of_class, kind_of_member}
use Rattle.erd_meaning.proofs.Common.{Class, class, Family, family, Role, role, MemberKind, kind, kind_of_name, kind_of_id, class_of_object, and_then-Some}
use Rattle.erd_tables.proofs.Roles.{class_in_role_named}
use Rattle.erd_check.proofs.Exact.{text_exact}

-- `@type` is in no class's rows
pub kind_of_type : (c : Class) → kind_of_member c (codes "@type") ≡ kind.ClassText
kind_of_type class.ElectionReport = refl
kind_of_type c = refl

abbrev pub is_selections : MemberKind → Bool
is_selections (kind.Keyed family.Selection) = true
is_selections k = false

pub selections_kind : (k : MemberKind) → is_selections k ≡ true → k ≡ kind.Keyed family.Selection
selections_kind (kind.Keyed family.Selection) e = refl
selections_kind k e = cc

-- selections stand under one name alone
abbrev selections_named : List ℕ → MemberKind → Bool
selections_named name k = not (is_selections k) || bytes_eq name (codes "ContestSelection")

rows_named : (c : Class) → list_all (λ m. selections_named m.name m.kind) (rows_of_class c) ≡ true
rows_named class.ElectionReport = refl
rows_named c = refl

kind_named : (c : Class) (name : List ℕ) → selections_named name (kind_of_member c name) ≡ true
kind_named c name = at (bytes_eq name (codes "@type")) refl (bytes_eq name (codes "@id")) refl
  where
    identity : (b : Bool) → selections_named (codes "@id") (if b then kind.Identity else kind.StrangeIdentity) ≡ true
    identity true = refl
    identity false = refl

    at : (a : Bool) → bytes_eq name (codes "@type") ≡ a → (b : Bool) → bytes_eq name (codes "@id") ≡ b → selections_named name (kind_of_member c name) ≡ true
    at true e b f = ap (λ n. selections_named n (kind_of_member c n)) (text_exact name (codes "@type") e)
        ∙ ap (selections_named (codes "@type")) (kind_of_type c)
    at false e true f = ap (λ n. selections_named n (kind_of_member c n)) (text_exact name (codes "@id") f) ∙ ap (selections_named (codes "@id")) (kind_of_id c)
        ∙ identity (is_some (family_of_class c))
    at false e false f =
        kind_of_name (λ m. selections_named m.name m.kind) (selections_named name) c name e f (rows_named c)
        (λ m h g. subst (λ n. selections_named n m.kind ≡ true) (sym (text_exact name m.name g)) h) refl refl

pub selections_name : (c : Class) (name : List ℕ) → is_selections (kind_of_member c name) ≡ true → name ≡ codes "ContestSelection"
selections_name c name is = text_exact name (codes "ContestSelection") (rw is at (kind_named c name))

-- and in contests alone
pub selections_family : (c : Class) (f : Family) → role_of_class c ≡ role.OfFamily f → is_selections (kind_of_member c (codes "ContestSelection"))
    ≡ true → f ≡ family.Contest
selections_family class.CandidateContest f e is = cc
selections_family class.BallotMeasureContest f e is = cc
selections_family class.RetentionContest f e is = cc
selections_family class.PartyContest f e is = cc
selections_family c f e is = cc

-- the class of an object has the role that is asked for
pub class_role : (r : Role) (d : Data) (c : Class) → class_of_object r d ≡ Some c → role_of_class c ≡ r
class_role r d c e = let text = and_then-Some (class_in_role r) (option_and_then as_str (get (codes "@type") d)) c e in
    (class_in_role_named r text.0 c text.2).role

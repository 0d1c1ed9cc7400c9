-- The class that an `@type` text names has the role, and the text is its own.
use Rattle.std.proofs.Common.{◌≡◌, ℕ, List, [], ◌∷◌, Bool, true, false, cond, ◌==◌, Option, Some, None, option_and_then, find, refl, sym, ap, ◌∙◌}
use Rattle.std.proofs.lemmas.Bool.Decides.{Decides-eqb}
use Rattle.erd_tables.specs.Classes.{text_of_class, class_of_text, role_of_class, role_number, class_in_role}
use Rattle.erd_tables.specs.declared.class.Class.{Class}
use Rattle.erd_tables.specs.declared.class.Role.{Role}
use Rattle.erd_tables.specs.declared.class.Role.TheVariants.{Report, Election, OfFamily, Content, Identifier, Label, Language}
use Rattle.erd_tables.proofs.ClassTexts.{names_its_class}
use Rattle.erd_tables.specs.declared.class.Family.TheVariants as family

roles : List Role
roles =
    OfFamily family.Unit ∷ OfFamily family.Party ∷ OfFamily family.Person ∷ OfFamily family.Office ∷ OfFamily family.Header ∷ OfFamily family.Candidate
    ∷ OfFamily family.Contest ∷ OfFamily family.Style ∷ OfFamily family.Selection ∷ Report ∷ Election ∷ Content ∷ Identifier ∷ Label ∷ Language ∷ []

role_numbered : ℕ → Option Role
role_numbered n = find (λ r. role_number r == n) roles

own_number : (r : Role) → role_numbered (role_number r) ≡ Some r
unfolding role_numbered roles
own_number (OfFamily family.Unit) = refl
own_number r = refl

role_number_exact : (q r : Role) → role_number q ≡ role_number r → q ≡ r
role_number_exact q r e = let h : Some q ≡ Some r = sym (own_number q) ∙ ap role_numbered e ∙ own_number r in cc

-- a class that an `@type` text names where the role is wanted
pub record Named (r : Role) (s : List ℕ) (c : Class) : Type 0 where
  pub role : role_of_class c ≡ r
  pub text : s ≡ text_of_class c

kept_at : (r : Role) (c e : Class) (b : Bool) → (role_number (role_of_class e) == role_number r) ≡ b → cond b (Some e) None ≡ Some c → (e ≡ c)
    × (role_of_class e ≡ r)
kept_at r c e true is h = (cc, role_number_exact (role_of_class e) r ((Decides-eqb (role_number (role_of_class e)) (role_number r)).0 is))
kept_at r c e false is h = cc

named_at : (r : Role) (text : List ℕ) (c : Class) (o : Option Class) → class_of_text text ≡ o
    → option_and_then (λ e. cond (role_number (role_of_class e) == role_number r) (Some e) None) o ≡ Some c → Named r text c
named_at r text c None e h = cc
named_at r text c (Some d) e h =
    let k = kept_at r c d (role_number (role_of_class d) == role_number r) refl h in
    record { role = ap role_of_class (sym k.0) ∙ k.1; text = (names_its_class text c).0 (e ∙ ap Some k.0) }

pub class_in_role_named : (r : Role) (text : List ℕ) (c : Class) → class_in_role r text ≡ Some c → Named r text c
class_in_role_named r text c h = named_at r text c (class_of_text text) refl h

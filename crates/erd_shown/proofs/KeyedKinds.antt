-- What the table asks of a member names objects with keys, if it asks for references.
use Rattle.erd_shown.proofs.Common.{◌≡◌, ℕ, Bool, true, false, List, codes, bytes_eq, refl, ap, ◌∙◌, list_all, Class, class, rows_of_class, kind_of_member}
use Rattle.erd_shown.proofs.Common.{kind_of_identity, kind_of_class, kind_of_type, text_exact}
use Rattle.erd_shown.specs.code.Writing.{names_keys}

rows_keyed : (c : Class) → list_all (λ m. names_keys m.kind) (rows_of_class c) ≡ true
rows_keyed class.ElectionReport = refl
rows_keyed c = refl

identity_keyed : (c : Class) → names_keys (kind_of_identity c) ≡ true
identity_keyed class.ElectionReport = refl
identity_keyed c = refl

pub keyed_kind : (c : Class) (name : List ℕ) → names_keys (kind_of_member c name) ≡ true
keyed_kind c name = at (bytes_eq name (codes "@type")) refl
  where
    at : (b : Bool) → bytes_eq name (codes "@type") ≡ b → names_keys (kind_of_member c name) ≡ true
    at true is = ap names_keys (ap (kind_of_member c) (text_exact name (codes "@type") is) ∙ kind_of_type c)
    at false is = kind_of_class names_keys c name is (rows_keyed c) (identity_keyed c) refl refl

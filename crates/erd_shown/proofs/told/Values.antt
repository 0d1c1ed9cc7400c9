-- Any member but the selections of a contest is written alike if and only if it means the same.
use Rattle.erd_text.proofs.Common.{◌≡◌, Some, None, option_and_then, sym, refl, ap}
use Rattle.erd_text.proofs.Common.{◌∙◌, Data, array, no_items, item, as_str, entries_of, kind}
use Rattle.std.specs.Prelude.{◌↔◌}
use Rattle.erd_meaning.specs.Meaning.{a_json, a_label, a_json_set, a_key, a_key_set, a_content}
use Rattle.erd_meaning.specs.Records.{content_of, json_set, key_set, label_of, unless_empty}
use Rattle.erd_meaning.specs.SelectionNames.{key_named, keys_named}
use Rattle.erd_shown.proofs.told.Sets.{keys_tell}
use Rattle.erd_shown.proofs.told.JsonSets.{sets_tell}
use Rattle.erd_shown.proofs.told.Labels.{labels_tell}
use Rattle.erd_shown.proofs.told.Names.{keys_exact}
use Rattle.erd_shown.proofs.told.Contents.{contents_tell}
use Rattle.erd_shown.specs.KeyData.{shown_key_or_null}
use Rattle.erd_shown.specs.code.Fitting.{ValuesTell}

-- what stands under one constructor tells as much
under : {A V : Type 0} (f : A → V) → ((a b : A) → f a ≡ f b → a ≡ b) → {x y : Data} (a b : A) → (x ≡ y) ↔ (a ≡ b) → (Some x ≡ Some y)
    ↔ (Some (f a) ≡ Some (f b))
under f exact {x} {y} a b h = (
  λ e. let same : x ≡ y = cc in ap (λ z. Some (f z)) (h.0 same),
  λ e. let same : f a ≡ f b = cc in ap Some (h.1 (exact a b same)),
)

pub data Held (V : Type 0) (d : Data) : Type 0 where
  none : ((x : Data) → unless_empty x d ≡ None) → ((v : V) → unless_empty v d ≡ None) → Held V d
  some : ((x : Data) → unless_empty x d ≡ Some x) → ((v : V) → unless_empty v d ≡ Some v) → Held V d

pub held : {V : Type 0} (d : Data) → Held V d
held (array no_items) = none (λ x. refl) (λ v. refl)
held (array (item d ds)) = some (λ x. refl) (λ v. refl)
held d = some (λ x. refl) (λ v. refl)

-- and so it does where an empty array means nothing
pub unless : {A V : Type 0} (f : A → V) → ((a b : A) → f a ≡ f b → a ≡ b) → (d e x y : Data) (a b : A) → (x ≡ y) ↔ (a ≡ b)
    → (unless_empty x d ≡ unless_empty y e) ↔ (unless_empty (f a) d ≡ unless_empty (f b) e)
unless {V = V} f exact d e x y a b h = at (held d) (held e)
  where
    at : Held V d → Held V e → (unless_empty x d ≡ unless_empty y e) ↔ (unless_empty (f a) d ≡ unless_empty (f b) e)
    at (none p q) (none r s) = (λ z. q (f a) ∙ sym (s (f b)), λ z. p x ∙ sym (r y))
    at (none p q) (some r s) = (λ z. let w : None ≡ Some y = sym (p x) ∙ z ∙ r y in cc, λ z. let w : None ≡ Some (f b) = sym (q (f a)) ∙ z ∙ s (f b) in cc)
    at (some p q) (none r s) = (λ z. let w : Some x ≡ None = sym (p x) ∙ z ∙ r y in cc, λ z. let w : Some (f a) ≡ None = sym (q (f a)) ∙ z ∙ s (f b) in cc)
    at (some p q) (some r s) =
        let u = under f exact a b h in
        (λ z. q (f a) ∙ u.0 (sym (p x) ∙ z ∙ r y) ∙ sym (s (f b)), λ z. p x ∙ u.1 (sym (q (f a)) ∙ z ∙ s (f b)) ∙ sym (r y))

itself : {d e : Data} → (d ≡ e) ↔ (d ≡ e)
itself = (λ e. e, λ e. e)

pub values_tell : ValuesTell
values_tell π ρ t u kind.Label d e g h = under a_label (λ a b s. cc) (label_of d) (label_of e) (labels_tell d e g h)
values_tell π ρ t u (kind.One f) d e g h =
    under a_key (λ a b s. cc) (option_and_then (key_named π t f) (as_str d)) (option_and_then (key_named ρ u f) (as_str e))
    (keys_exact _ _, λ s. ap shown_key_or_null s)
values_tell π ρ t u (kind.Many f) d e g h =
    unless a_key_set (λ a b s. cc) d e _ _ (key_set (keys_named π t f (entries_of d))) (key_set (keys_named ρ u f (entries_of e)))
    (keys_tell π ρ t u f (entries_of d) (entries_of e) g h)
values_tell π ρ t u kind.Identifiers d e g h = unless a_json_set (λ a b s. cc) d e _ _ (json_set (entries_of d)) (json_set (entries_of e))
    (sets_tell (entries_of d) (entries_of e) g h)
values_tell π ρ t u kind.Languages d e g h = unless a_json_set (λ a b s. cc) d e _ _ (json_set (entries_of d)) (json_set (entries_of e))
    (sets_tell (entries_of d) (entries_of e) g h)
values_tell π ρ t u kind.Content d e g h = unless a_content (λ a b s. cc) d e _ _ (content_of π t d) (content_of ρ u e)
    (contents_tell π ρ t u d e g.1 h.1 g.0 h.0)
values_tell π ρ t u kind.Word d e g h = under a_json (λ a b s. cc) d e itself
values_tell π ρ t u kind.Flag d e g h = under a_json (λ a b s. cc) d e itself
values_tell π ρ t u kind.Whole d e g h = under a_json (λ a b s. cc) d e itself
values_tell π ρ t u kind.Carried d e g h = under a_json (λ a b s. cc) d e itself
values_tell π ρ t u k d e g h = (λ s. refl, λ s. refl)

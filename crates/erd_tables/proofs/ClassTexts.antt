-- A class is answered exactly for its own text.
use Rattle.std.proofs.Common.{◌≡◌, ℕ, List, [], ◌∷◌, Bool, true, false, cond, Option, Some, refl, ap, ◌∙◌, subst}
use Rattle.std.specs.List.{find}
use Rattle.std.specs.Str.{bytes_eq}
use Rattle.std.proofs.lemmas.Slice.Eq.{bytes_eq-Decides}
use Rattle.erd_tables.specs.Classes.{text_of_class, classes, class_of_text, NamesItsClass}
use Rattle.erd_tables.specs.declared.class.Class.{Class}
use Rattle.erd_tables.specs.declared.class.Class.TheVariants as class

found_head : {A : Type 0} (p : A → Bool) (y x : A) (rest : Option A) (b : Bool) → p y ≡ b → cond b (Some y) rest ≡ Some x
    → (rest ≡ Some x → p x ≡ true) → p x ≡ true
found_head p y x rest true e h more = let same : y ≡ x = cc in subst (λ z. p z ≡ true) same e
found_head p y x rest false e h more = more h

find_passes : {A : Type 0} (p : A → Bool) (xs : List A) (x : A) → find p xs ≡ Some x → p x ≡ true
find_passes p [] x h = absurd (cc h)
find_passes p (y ∷ ys) x h = found_head p y x (find p ys) (p y) refl h (find_passes p ys x)

own_text : (c : Class) → class_of_text (text_of_class c) ≡ Some c
own_text class.ElectionReport = refl
own_text c = refl

pub names_its_class : (text : List ℕ) → NamesItsClass text (class_of_text text)
names_its_class text = λ c. (
  λ h. (bytes_eq-Decides text (text_of_class c)).0 (find_passes (λ k. bytes_eq text (text_of_class k)) classes c h),
  λ e. ap class_of_text e ∙ own_text c,
)

-- Lists that are made entry by entry.
use Rattle.erd_text.proofs.Common.{◌≡◌, ℕ, ◌+◌, ◌<◌, List, [], ◌∷◌, ◌++◌, map, length, get_or, take, sym, ap, ◌∙◌, ap₂, map-append, take_more}

-- one value more
pub one_value : {B C : Type 0} (h : B → C) (built : List C) (vs : List B) (i : ℕ) (v : B) (x : C) → i < length vs → v ≡ get_or vs i v → x ≡ h v
    → built ≡ map h (take i vs) → built ++ x ∷ [] ≡ map h (take (i + 1) vs)
one_value h built vs i v x low here new earlier =
    ap₂ (λ ds d. ds ++ d ∷ []) earlier (new ∙ ap h here) ∙ sym (ap (map h) (take_more vs i v low) ∙ map-append h (take i vs) (get_or vs i v ∷ []))

-- one entry more
pub one_more : {A B C : Type 0} (f : A → C) (h : B → C) (built : List A) (vs : List B) (i : ℕ) (v : B) (x : A) → i < length vs → v ≡ get_or vs i v → f x ≡ h v
    → map f built ≡ map h (take i vs) → map f (built ++ x ∷ []) ≡ map h (take (i + 1) vs)
one_more f h built vs i v x low here new earlier = map-append f built (x ∷ []) ∙ one_value h (map f built) vs i v (f x) low here new earlier

-- What is told, one entry after the other.
use Rattle.std.proofs.Common.{◌≡◌, ◌∙◌, ◌+◌, ◌<◌, ◌≤◌, ◌++◌, ℕ, List, [], ◌∷◌, Some, ap, length, map, subst, sym, take, drop, get_or, min, refl, inl, inr}
use Rattle.std.proofs.Math.Nat.{min-le_left}
use Rattle.std.proofs.lemmas.List.{append-nil, map-append, take_all, take_more, take-append-drop}
use Rattle.json.specs.Lex.{tokens}
use Rattle.json.specs.Print.{print}
use Rattle.serde_json.specs.Data.{Data, depth}
use Rattle.serde_json.specs.Read.{read, max_depth}
use Rattle.serde_json.specs.View.{view}
use Rattle.serde_json.specs.declared.value.Value.{Value}
use Rattle.erd_prepare.specs.Tellings.{AreEach, AreEnough, AreFirst, HaveBytes, more_entries, more_values}

-- the values so far, with one more, whose text has so many bytes
pub bytes_more : (olds : List Value) (entry : Value) (news : List Value) (n m k most : ℕ) (text : List ℕ) → news ≡ olds ++ entry ∷ []
    → (depth (view entry) ≤ max_depth → read text ≡ Some (view entry)) → text ≡ print (tokens text) → m ≡ min (n + k) most → k ≡ length text
    → HaveBytes (map view olds) n → HaveBytes (map view news) m
bytes_more olds entry news n m k most text is value compact sum size h =
    let low : m ≤ n + length text =
    subst (λ (x : ℕ). x ≤ n + length text) (sym sum) (subst (λ (x : ℕ). min (n + x) most ≤ n + length text) (sym size) (min-le_left (n + length text) most)) in
    subst (λ (ds : List Data). HaveBytes ds m) (sym (ap (map view) is ∙ map-append view olds (entry ∷ [])))
    (more_values (map view olds) (view entry) n m text h (record { value = value; compact = compact }) low)

-- the entries so far, with the one at the next position of the list as it is lent
pub each_more : {A : Type 0} (Is : A → Data → Type 0) (xs ws : List A) (i : ℕ) (v : A) (olds news : List Value) (entry : Value) → ws ≡ xs → i < length ws
    → v ≡ get_or ws i v → news ≡ olds ++ entry ∷ [] → Is v (view entry) → AreEach Is (take i xs) (map view olds) → AreEach Is (take (i + 1) xs) (map view news)
each_more {A = A} Is xs ws i v olds news entry lent low here is one h =
    let below = subst (λ (ys : List A). i < length ys) lent low in
    let there = here ∙ ap (λ (ys : List A). get_or ys i v) lent in
    subst (λ (ys : List A). AreEach Is ys (map view news)) (sym (take_more xs i v below))
    (subst (λ (ds : List Data). AreEach Is (take i xs ++ get_or xs i v ∷ []) ds) (sym (ap (map view) is ∙ map-append view olds (entry ∷ [])))
    (more_entries (take i xs) (map view olds) (get_or xs i v) (view entry) h (subst (λ (x : A). Is x (view entry)) there one)))

-- ---- where a list ends

pub all_are_told : {A : Type 0} (Is : A → Data → Type 0) (xs : List A) (i : ℕ) (ds : List Data) → length xs ≤ i → AreEach Is (take i xs) ds → AreFirst Is xs ds
all_are_told Is xs i ds high h = record {
  shown = take i xs;
  rest = [];
  split = sym (append-nil (take i xs) ∙ take_all i xs high);
  each = h;
  ends = inl refl;
}

pub enough_are_told : {A : Type 0} (Is : A → Data → Type 0) (xs : List A) (i : ℕ) (ds : List Data) → AreEnough ds
    → AreEach Is (take i xs) ds → AreFirst Is xs ds
enough_are_told Is xs i ds enough h = record {
  shown = take i xs;
  rest = drop i xs;
  split = sym (take-append-drop i xs);
  each = h;
  ends = inr enough;
}

-- A set whose keys have numbers answers as the list of its keys.
use Rattle.std.proofs.Common.{◌≡◌, ℕ, ◌+◌, Bool, true, cond, not, ◌&&◌, ◌||◌, ◌==◌, List, [], ◌∷◌, ◌++◌, Some, position, refl, sym, ap, ◌∙◌, ap₂, inl, inr}
use Rattle.std.proofs.Common.{arith}
use Rattle.std.proofs.lemmas.Bool.{cases_Bool}
use Rattle.std.proofs.lemmas.Bool.Decides.{Decides-eqb}
use Rattle.std.proofs.lemmas.Iterator.Adapters.{position_from-zero}
use Rattle.std.specs.Hash.{HashWrites}
use Rattle.std.specs.List.{list_any, position_from, position_or_len}
use Rattle.indexmap.specs.IndexSet.{insert_key}
use Rattle.erd_index.specs.Salts.{salted_number, keys_in, AreNumbered}
use Rattle.erd_index.specs.declared.salt.Salt.{Salt}
use Rattle.erd_index.specs.declared.salted.Salted.{Salted}

-- ---- a test that compares the numbers of keys too says no more than the test of the keys, where these have their numbers

and_implied : (a b : Bool) → (b ≡ true → a ≡ true) → (a && b) ≡ b
and_implied a b h = grind arith

pub number_implied : (m n : ℕ) (b : Bool) → (b ≡ true → m ≡ n) → ((m == n) && b) ≡ b
number_implied m n b h = and_implied (m == n) b (λ e. (Decides-eqb m n).1 (h e))

-- ---- a set whose keys have numbers answers as the list of its keys

module _ {K : Type 0} (writes : K → HashWrites) (salt : Salt) where
  -- what a test finds that asks for a number too, where it holds of keys with this number alone
  module _ (n : ℕ) (test : K → Bool) (alike : (k : K) → test k ≡ true → n ≡ salted_number salt (writes k)) where
    abbrev asked : Salted K → Bool
    asked s = (n == s.number) && test s.key

    one_asked : (s : Salted K) → s.number ≡ salted_number salt (writes s.key) → asked s ≡ test s.key
    one_asked s is = number_implied n s.number (test s.key) (λ e. alike s.key e ∙ sym is)

    pub any_numbered : (keys : List (Salted K)) → AreNumbered writes salt keys → list_any asked keys ≡ list_any test (keys_in keys)
    any_numbered [] all = refl
    any_numbered (s ∷ keys) all = ap₂ (λ a b. a || b) (one_asked s all.0) (any_numbered keys all.1)

    pub place_numbered : (keys : List (Salted K)) → AreNumbered writes salt keys → position_or_len asked keys ≡ position_or_len test (keys_in keys)
    place_numbered [] all = refl
    place_numbered (s ∷ keys) all = ap₂ (λ b n. cond (not b) (1 + n) 0) (one_asked s all.0) (place_numbered keys all.1)

    from_numbered : (i : ℕ) (keys : List (Salted K)) → AreNumbered writes salt keys → position_from asked i keys ≡ position_from test i (keys_in keys)
    from_numbered i [] all = refl
    from_numbered i (s ∷ keys) all = ap₂ (λ b o. cond b (Some i) o) (one_asked s all.0) (from_numbered (i + 1) keys all.1)

    pub position_numbered : (keys : List (Salted K)) → AreNumbered writes salt keys → position asked keys ≡ position test (keys_in keys)
    position_numbered keys all = position_from-zero asked keys ∙ from_numbered 0 keys all ∙ sym (position_from-zero test (keys_in keys))

  keys_push : (keys : List (Salted K)) (s : Salted K) → keys_in (keys ++ s ∷ []) ≡ keys_in keys ++ s.key ∷ []
  keys_push [] s = refl
  keys_push (x ∷ keys) s = ap (λ ks. x.key ∷ ks) (keys_push keys s)

  -- one more key, with its number
  module _ (same : K → K → Bool) (alike : (x y : K) → same x y ≡ true → writes x ≡ writes y) where
    abbrev same_salted : Salted K → Salted K → Bool
    same_salted a b = (a.number == b.number) && same a.key b.key

    module _ (n : ℕ) (k : K) (is : n ≡ salted_number salt (writes k)) (keys : List (Salted K)) (all : AreNumbered writes salt keys) where
      -- the key with its number
      abbrev s : Salted K
      s = record { number = n; key = k }

      pub inserted_any : list_any (same_salted s) keys ≡ list_any (same s.key) (keys_in keys)
      inserted_any = any_numbered s.number (same s.key) (λ l e. is ∙ ap (λ ws. salted_number salt ws) (alike k l e)) keys all

      pub inserted_index : position_or_len (same_salted s) keys ≡ position_or_len (same s.key) (keys_in keys)
      inserted_index = place_numbered s.number (same s.key) (λ l e. is ∙ ap (λ ws. salted_number salt ws) (alike k l e)) keys all

      pub inserted_keys : keys_in (insert_key same_salted keys s) ≡ insert_key same (keys_in keys) s.key
      inserted_keys =
          elim (cases_Bool (list_any (same_salted s) keys)) [
            | inl is ↦ rw (is, ← inserted_any, is) refl
            | inr is ↦ rw (is, ← inserted_any, is) (keys_push keys s)
          ]

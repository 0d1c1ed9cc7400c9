-- Tokens that are written one value after another.
use Rattle.erd_text.proofs.Common.{◌≡◌, ℕ, List, [], ◌∷◌, ◌++◌, string_bytes, sym, refl, ap, ◌∙◌, append_assoc, Data, view, members_view, Entry, members_tokens}
use Rattle.erd_text.proofs.Common.{value_tokens}
use Rattle.json.specs.Token.{Token, key}

-- one more piece, and then the rest
pub then_rest : (was more now rest all : List Token) → now ≡ was ++ more → was ++ (more ++ rest) ≡ all → now ++ rest ≡ all
then_rest was more now rest all e before = ap (λ ts. ts ++ rest) e ∙ (append_assoc was more rest ∙ before)

-- the first of the members that are left
pub member_written : (left rest : List Entry) (e : Entry) (name : List ℕ) (was keyed now all : List Token)
    → left ≡ e ∷ rest → name ≡ string_bytes e.0 → keyed ≡ was ++ key name ∷ [] → now ≡ keyed ++ value_tokens (view e.1)
    → was ++ members_tokens (members_view left) ≡ all → now ++ members_tokens (members_view rest) ≡ all
member_written left rest e name was keyed now all split named first second before =
    then_rest keyed (value_tokens (view e.1)) now (members_tokens (members_view rest)) all second
    (then_rest was (key name ∷ []) keyed (value_tokens (view e.1) ++ members_tokens (members_view rest)) all first
    (ap (λ n. was ++ key n ∷ (value_tokens (view e.1) ++ members_tokens (members_view rest))) named
    ∙ (ap (λ es. was ++ members_tokens (members_view es)) (sym split) ∙ before)))

-- a name and a value, and then the rest
pub member_then : (name : List ℕ) (d : Data) (rest was keyed now : List Token) → keyed ≡ was ++ key name ∷ [] → now ≡ keyed ++ value_tokens d
    → was ++ key name ∷ (value_tokens d ++ rest) ≡ now ++ rest
member_then name d rest was keyed now first second =
    sym (then_rest keyed (value_tokens d) now rest _ second (then_rest was (key name ∷ []) keyed (value_tokens d ++ rest) _ first refl))

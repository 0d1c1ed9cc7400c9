-- A member that is written before others, and the start of an object.
use Rattle.erd_text.proofs.Common.{◌≡◌, ℕ, List, [], ◌∷◌, ◌++◌, refl, ◌∙◌, Data, object, Members, member, members_tokens, value_tokens}
use Rattle.json.specs.Token.{Token, begin_object, key}
use Rattle.erd_text.proofs.WrittenTokens.{then_rest}

pub member_then : (o0 o1 o2 o3 : List Token) (k : List ℕ) (a : Data) (ms : Members) → o1 ≡ o0 ++ key k ∷ [] → o2 ≡ o1 ++ value_tokens a
    → o3 ≡ o2 ++ members_tokens ms
    → o3 ≡ o0 ++ members_tokens (member k a ms)
member_then o0 o1 o2 o3 k a ms e1 e2 e3 =
    let all = o0 ++ members_tokens (member k a ms) in
    let rest = value_tokens a ++ members_tokens ms in
    e3 ∙ then_rest o1 (value_tokens a) o2 (members_tokens ms) all e2 (then_rest o0 (key k ∷ []) o1 rest all e1 refl)

-- the start of an object, and its members
pub object_then : (o0 o1 o2 : List Token) (ms : Members) → o1 ≡ o0 ++ begin_object ∷ [] → o2 ≡ o1 ++ members_tokens ms → o2 ≡ o0 ++ value_tokens (object ms)
object_then o0 o1 o2 ms e1 e2 = e2 ∙ then_rest o0 (begin_object ∷ []) o1 (members_tokens ms) (o0 ++ value_tokens (object ms)) e1 refl

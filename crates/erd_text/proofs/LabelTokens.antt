-- A label that is written member by member, with its translations at the place of `Text`.
use Rattle.erd_text.proofs.Common.{◌≡◌, true, List, [], ◌∷◌, ◌++◌, codes, sym, ap, ◌∙◌, append_assoc, Data, object, Members, entries_at, with_rising_text}
use Rattle.erd_text.proofs.Common.{members_tokens, value_tokens}
use Rattle.json.specs.Token.{Token, begin_object}
use Rattle.erd_text.specs.code.Writing.{with_due_text}

-- a label that is an object
pub object_written : (d : Data) (ms : Members) (ds : List Data) (was begun now : List Token) → d ≡ object ms → ds ≡ entries_at (codes "Text") d
    → begun ≡ was ++ begin_object ∷ [] → now ≡ begun ++ members_tokens (with_due_text true ds ms) → now ≡ was ++ value_tokens (with_rising_text d)
object_written d ms ds was begun now is entries first second =
    second ∙ ap (λ ts. ts ++ members_tokens (with_due_text true ds ms)) first ∙ append_assoc was (begin_object ∷ []) (members_tokens (with_due_text true ds ms))
    ∙ ap (λ es. was ++ begin_object ∷ members_tokens (with_due_text true es ms)) (entries ∙ ap (entries_at (codes "Text")) is)
    ∙ ap (λ e. was ++ value_tokens (with_rising_text e)) (sym is)

use Rattle.erd_compare.proofs.Common.{ℕ, List, [], false, sym, ap₂, subst, IfOk-weaker, Option, Key, TellsLeast, map_of}
use Rattle.erd_compare.specs.code.DifferingKeys.{AreKeysFound, GoesOnToKey}
use Rattle.erd_compare.proofs.differing.KeySteps.{first_told, start}
use Rattle.erd_compare.proofs.first.key_steps.first_keyed.Goals as goal

pub returns : goal.returns
returns c =
    let a = c.args.comparer.now.left in
    let b = c.args.comparer.now.right in
    let p = c.args.part in
    let after = c.next_difference.new.at in
    let begins : AreKeysFound a b p [] c.start-at.result =
    subst (AreKeysFound a b p []) (sym (ap₂ (λ (i j : ℕ). record { one = i; other = j }) c.start-at.ensures.one c.start-at.ensures.other))
    (start false a b p c.rising_in.result c.rising_in.ensures) in
    IfOk-weaker c.next_difference.result (λ next. (found : List (Option Key)) → AreKeysFound a b p found c.start-at.result
    → GoesOnToKey false a b p found after next) (TellsLeast (map_of a p) (map_of b p))
    (λ next told. first_told false a b p after next (told [] begins)) c.next_difference.ensures.next

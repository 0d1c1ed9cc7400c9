use Rattle.erd_shown.proofs.Common.{◌≡◌, ℕ, List, [], Option, Some, None, refl, option_map, Bor, Value, string_bytes, view}
use Rattle.erd_shown.specs.code.Pairs.{TellsBelow}
use Rattle.erd_shown.specs.declared.pairs.Pair.{Pair}
use Rattle.erd_shown.proofs.differing_styles.text_of_both.Goals as goal

module _ (p : Pair) (text : List ℕ) (empty : text ≡ []) where
  none_left : (o q : Option (Bor Value)) → o ≡ None → TellsBelow p (option_map (λ v. view v.now) o) (option_map (λ v. view v.now) q) text
  none_left None q e = ([], refl, empty)
  none_left (Some v) q e = cc

  none_right : (o q : Option (Bor Value)) → q ≡ None → TellsBelow p (option_map (λ v. view v.now) o) (option_map (λ v. view v.now) q) text
  none_right None q e = ([], refl, empty)
  none_right (Some v) None e = ([], refl, empty)
  none_right (Some v) (Some w) e = cc

pub returns-in-None-other : goal.returns-in-None-other
returns-in-None-other c = none_right c.args.pair.now (string_bytes c.new.result) c.new.ensures.bytes c.args.one c.args.other c.in-None-other.is

pub returns-in-None : goal.returns-in-None
returns-in-None c = none_left c.args.pair.now (string_bytes c.new-in-None.result) c.new-in-None.ensures.bytes c.args.one c.args.other c.in-None.is

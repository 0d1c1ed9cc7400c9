use Rattle.erd_shown.proofs.Common.{◌≡◌, ◌++◌, List, Option, Some, None, refl, option_map, Bor, Data, null, Preference, Token, Value, view, on_ok_weaker}
use Rattle.erd_shown.proofs.Common.{value_tokens}
use Rattle.erd_shown.specs.code.BesideWritten.{WritesBesideIf}
use Rattle.erd_shown.proofs.beside_texts.write_beside_if.Goals as goal

module _ (π : Preference) (t : Data) (ρ : Preference) (u : Data) (before after : List Token) (wrote : after ≡ before ++ value_tokens null) where
  none_left : (o p : Option (Bor Value)) → o ≡ None → WritesBesideIf π t (option_map (λ v. view v.now) o) ρ u (option_map (λ v. view v.now) p) before after
  none_left None p e = (null, refl, wrote)
  none_left (Some v) p e = cc

  none_right : (o p : Option (Bor Value)) → p ≡ None → WritesBesideIf π t (option_map (λ v. view v.now) o) ρ u (option_map (λ v. view v.now) p) before after
  none_right None p e = (null, refl, wrote)
  none_right (Some v) None e = (null, refl, wrote)
  none_right (Some v) (Some w) e = cc

pub returns-in-None-other : goal.returns-in-None-other
returns-in-None-other c =
    on_ok_weaker c.null.result
    (λ wrote. none_right c.args.left.now.prefer (view c.args.left.now.tree) c.args.right.now.prefer (view c.args.right.now.tree) c.args.out.now c.null.new.self
    wrote c.args.one c.args.other c.in-None-other.is)
    c.null.ensures

pub returns-in-None : goal.returns-in-None
returns-in-None c =
    on_ok_weaker c.null-in-None.result
    (λ wrote. none_left c.args.left.now.prefer (view c.args.left.now.tree) c.args.right.now.prefer (view c.args.right.now.tree) c.args.out.now
    c.null-in-None.new.self wrote c.args.one c.args.other c.in-None.is)
    c.null-in-None.ensures

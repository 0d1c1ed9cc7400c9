use Rattle.std.proofs.Common.{◌∙◌, ap, inr, map, sym}
use Rattle.std.proofs.lemmas.List.{map-append}
use Rattle.serde_json.specs.View.{view}
use Rattle.erd_prepare.proofs.preparation.SoFar.tell.Goals as goal

pub returns-in_ok-push-clause-told : goal.returns-in_ok-push-clause-told
returns-in_ok-push-clause-told c = inr (
  sym c.is_quiet.ensures ∙ c.if-not-is_quiet.true,
  (view c.in_ok-value.value, c.in_ok-value.ensures, ap (map view) c.in_ok-push.ensures.items ∙ map-append view _ _),
)

use Rattle.erd_meaning.proofs.Common.{◌≡◌, map, sym, ap, ◌∙◌, view, shown}
use Rattle.erd_meaning.proofs.selections.RankedKeys.{name_with, ranked_selection}
use Rattle.erd_meaning.proofs.names.naming.name_of_selection.Goals as goal

pub returns : goal.returns
returns c =
    let ks = map shown c.args.objects.now.objects in
    let d = view c.args.selection.now in
    let class = c.in-Some.class in
    let chosen = c.in_ok-chosen.chosen.items in
    let keys = c.in_ok-named.ensures ∙ ap (map (λ x. x.1)) c.deref-2.ensures.value in
    let name : c.of.result.name ≡ name_with c.args.keys.now class d (map (λ x. x.1) chosen) =
    c.of.ensures.name ∙ (λ i. record {
      class = class;
      keys = keys i;
      write_in = c.is_write_in.ensures i;
      order = c.sequence_order.ensures i;
      label = c.in_ok-label.ensures i;
      identifier = c.in_ok-identifier.ensures i;
    }) in
    ranked_selection ks c.args.keys.now d class chosen c.of.result (sym c.class_of_object.ensures ∙ c.in-Some.is) c.in_ok-chosen.ensures name
    (c.of.ensures.ranks ∙ c.in_ok-ranks.ensures ∙ ap (map (λ x. x.0)) c.deref.ensures.value)

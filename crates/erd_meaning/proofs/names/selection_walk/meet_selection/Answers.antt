use Rattle.erd_meaning.proofs.Common.{map, Option, sym, ap, ◌∙◌, IfOk-weaker, option_map_or, view, steps_of, NameParts, with_name, shown, names_met}
use Rattle.erd_meaning.proofs.selections.RankedKeys.{ranked_name_is}
use Rattle.erd_meaning.proofs.names.selection_walk.meet_selection.Goals as goal

pub returns-in-Some-clause-met : goal.returns-in-Some-clause-met
returns-in-Some-clause-met c =
    let ks = map shown c.args.objects.now.objects in
    let name = c.in-Some.name in
    let is = ranked_name_is ks c.args.keys.now (view c.args.selection.now) name (sym c.in_ok-name.ensures ∙ c.in-Some.is) in
    let before = names_met c.args.walk.now in
    IfOk-weaker c.meet_name.result _ _
    (λ _ met. met ks c.requires.ranked is.0
    ∙ sym (ap (λ (o : Option NameParts). option_map_or (with_name before (steps_of c.args.path.now) c.args.contest) o before) is.1))
    c.meet_name.ensures.met

pub returns-in-Some-clause-ranked : goal.returns-in-Some-clause-ranked
returns-in-Some-clause-ranked c =
    let ks = map shown c.args.objects.now.objects in
    let is = ranked_name_is ks c.args.keys.now (view c.args.selection.now) c.in-Some.name (sym c.in_ok-name.ensures ∙ c.in-Some.is) in
    IfOk-weaker c.meet_name.result _ _ (λ _ all. all ks c.requires.ranked is.0) c.meet_name.ensures.ranked

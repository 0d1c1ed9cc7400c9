use Rattle.erd_meaning.proofs.Common.{ℕ, List, map, option_map, sym, ap, ◌∙◌, Bor, view, shown, not-false}
use Rattle.erd_meaning.proofs.finding.Pushed.{families_same}
use Rattle.erd_meaning.proofs.references.SilentWalks.{among_family, clear_of_family, text_read}
use Rattle.erd_meaning.proofs.report.reference_judge.ReferenceJudge.clear_position.Goals as goal

pub returns-clause-clear : goal.returns-clause-clear
returns-clause-clear c =
    let ks = map shown c.args.self.now.objects.now.objects in
    let id = c.in_ok-id.id.now in
    let own = c.in_ok-own.own in
    let position = c.in_ok-own.position in
    let found = sym (c.position_on_trail.ensures c.args.self.now.told_apart) ∙ c.in_ok-own.was in
    let same = sym (families_same own c.args.family) ∙ not-false _ (sym c.if-ne.ensures) in
    record {
      text = id;
      is = text_read (view c.args.item.now) id (sym c.as_str.ensures ∙ ap (option_map (λ (s : Bor (List ℕ)). s.now)) c.in_ok-id.was);
      named = among_family ks c.args.family own id position found same;
      clear = clear_of_family ks (view c.args.object.now) c.args.family own id position found same (sym c.is_away.ensures.away ∙ c.if-is_away.false);
    }

use Rattle.erd_meaning.proofs.Common.{List, map, flat_map, Located, ◌≡◌, ◌≢◌, ◌^◌, ◌<◌, length, length-map, sym, subst, ap, ◌∙◌, view, [], all_located, met_all}
use Rattle.erd_meaning.proofs.Common.{met_of}
use Rattle.erd_index.specs.Salts.{fed, salt_start, start_of, unfed}
use Rattle.erd_meaning.specs.SaltWrites.{Hashed, hashed_writes, report_start}
use Rattle.erd_meaning.specs.declared.objects.collected.Found.{Found}
use Rattle.erd_meaning.specs.code.HashedMet.{hashed}
use Rattle.erd_meaning.specs.code.ObjectWalk.{nothing_met}
use Rattle.erd_meaning.proofs.salts.HashedReports.{hashed_report}
use Rattle.erd_meaning.proofs.salts.SaltedKeys.{keeps_each_index}
use Rattle.erd_meaning.proofs.identity.MetLists.{all_told, none_told, filled_elections, filled_objects}
use Rattle.erd_meaning.specs.code.CollectedWalks.{found}
use Rattle.erd_meaning.proofs.finding.OneObject.{few_objects}
use Rattle.erd_meaning.proofs.report.resolving.objects_told_apart.Goals as goal

pub returns-then-len-eq0 : goal.returns-then-len-eq0
returns-then-len-eq0 c =
    let π = c.args.keys.now in
    let t = view c.args.tree.now in
    let v = c.in_ok-objects.field-0 in
    let met : met_of v ≡ met_all nothing_met (all_located π t) = c.in_ok-objects.ensures.met ∙ ap (met_all nothing_met) c.in_ok-found.ensures in
    let writes = λ (hs : List Hashed). salt_start (fed unfed (flat_map hashed_writes hs)) in
    let start : start_of c.salt_of-salt.result ≡ report_start π t =
    c.salt_of-salt.ensures ∙ ap (λ (fs : List Found). writes (map hashed (map (λ x. x.met) (map found fs)))) c.deref.ensures.value
    ∙ ap (λ (xs : List Located). writes (map hashed (map (λ x. x.met) xs))) c.in_ok-found.ensures ∙ ap writes (hashed_report π t) in
    record {
      identified = none_told π v t met c.of-identity.result c.of-identity.ensures (sym c.len.ensures ∙ c.if-len-eq0.true);
      kept = filled_objects π v t met;
      elections = filled_elections π v t met;
      salted = record {
        objects_are = c.in_ok-objects.ensures.salted.objects_are ∙ start;
        elections_are = c.in_ok-objects.ensures.salted.elections_are ∙ start;
      };
      covers = keeps_each_index π t;
      few = few_objects π t (subst (λ n. n < 2 ^ 64) (sym (length-map c.in_ok-found.found.items found) ∙ ap length c.in_ok-found.ensures)
          c.in_ok-objects.ensures.few);
      refused = tt;
    }

pub returns-clause-refused : goal.returns-clause-refused
returns-clause-refused c =
    let π = c.args.keys.now in
    let t = view c.args.tree.now in
    let v = c.in_ok-objects.field-0 in
    let met : met_of v ≡ met_all nothing_met (all_located π t) = c.in_ok-objects.ensures.met ∙ ap (met_all nothing_met) c.in_ok-found.ensures in
    let list = c.of-identity.result in
    let some : list ≢ [] = λ empty. let zero : length list ≡ 0 = ap length empty in c.if-len-eq0.false (c.len.ensures ∙ zero) in
    (all_told π v t met list c.of-identity.ensures, some)

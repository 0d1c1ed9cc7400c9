use Rattle.erd_meaning.proofs.Common.{HeldObjects, ◌≡◌, ◌≢◌, map, length, sym, ap, ◌∙◌, view, shown, rules, []}
use Rattle.erd_meaning.specs.declared.names.selection_walk.SelectionWalk.{SelectionWalk}
use Rattle.erd_meaning.proofs.selections.WalkedNames.{NamesWalked, names_left, no_twin_left, twins_left}
use Rattle.erd_meaning.proofs.report.resolving.names_told_apart.Goals as goal

pub returns-then-len-eq0 : goal.returns-then-len-eq0
returns-then-len-eq0 c =
    let before : SelectionWalk = record { names = c.new.result; faults = c.new-2.result } in
    let after = c.meet_selections.new.walk in
    let kept = map shown c.args.objects.now.objects in
    let tree = view c.args.tree.now in
    let walked : NamesWalked c.args.keys.now before after kept tree =
    record {
      no_name = c.new.ensures.keys;
      no_fault = c.new-2.ensures.items;
      kept = c.requires.kept;
      identified = c.requires.identified;
      met = c.in_ok-meet_selections.ensures.met;
    } in
    let none = sym c.len.ensures ∙ c.if-len-eq0.true in
    record {
      told_apart = no_twin_left c.args.keys.now before after kept tree walked c.of-twins.result c.of-twins.ensures none;
      named = names_left c.args.keys.now before after kept tree walked c.requires.faultless c.of-twins.result c.of-twins.ensures none;
      ranked = search rules;
      start = c.in_ok-meet_selections.ensures.start ∙ (c.new.ensures.start ∙ (c.salt.ensures ∙ ap (λ (h : HeldObjects). h.start) c.table.ensures));
      refused = tt;
    }

pub returns-else-len-eq0-clause-refused : goal.returns-else-len-eq0-clause-refused
returns-else-len-eq0-clause-refused c =
    let before : SelectionWalk = record { names = c.new.result; faults = c.new-2.result } in
    let after = c.meet_selections.new.walk in
    let kept = map shown c.args.objects.now.objects in
    let tree = view c.args.tree.now in
    let walked : NamesWalked c.args.keys.now before after kept tree =
    record {
      no_name = c.new.ensures.keys;
      no_fault = c.new-2.ensures.items;
      kept = c.requires.kept;
      identified = c.requires.identified;
      met = c.in_ok-meet_selections.ensures.met;
    } in
    let list = c.of-twins.result in
    let some : list ≢ [] = λ empty. let zero : length list ≡ 0 = ap length empty in c.if-len-eq0.false (c.len.ensures ∙ zero) in
    (twins_left c.args.keys.now before after kept tree walked list c.of-twins.ensures, some)

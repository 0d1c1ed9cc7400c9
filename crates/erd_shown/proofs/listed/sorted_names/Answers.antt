use Rattle.erd_shown.proofs.Common.{◌≡◌, map, ◌∙◌, IfOk-weaker, view, name_cmp, name_cmp_total, rising_list, by_first}
use Rattle.erd_text.proofs.StableRising.{rising_from_stable}
use Rattle.erd_shown.proofs.NameLists.{names_rise}
use Rattle.erd_shown.proofs.listed.sorted_names.Goals as goal

pub returns : goal.returns
returns c =
    let π = c.args.report.now.prefer in
    let t = view c.args.report.now.tree in
    let ds = map view c.args.selections.now in
    let old = c.in_ok-named_selections.field-0.items in
    let sorted = c.deref.result.now in
    let rising : sorted ≡ rising_list (by_first name_cmp) old =
    c.deref.ensures.value ∙ rising_from_stable name_cmp name_cmp_total old c.in_ok-pairs.pairs.items c.in_ok-pairs.ensures in
    IfOk-weaker c.first_names.result _ _ (λ names firsts named. firsts ∙ names_rise π t ds old sorted (c.in_ok-named_selections.ensures named) rising)
    c.first_names.ensures

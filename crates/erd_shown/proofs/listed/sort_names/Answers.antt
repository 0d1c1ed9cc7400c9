use Rattle.erd_shown.proofs.Common.{◌≡◌, map, ◌∙◌, IfOk-weaker, name_cmp, name_cmp_total, rising_list, by_first}
use Rattle.erd_text.proofs.StableRising.{rising_from_stable}
use Rattle.erd_shown.specs.code.LentNames.{lent}
use Rattle.erd_shown.proofs.NameLists.{firsts_rise}
use Rattle.erd_shown.proofs.listed.sort_names.Goals as goal

pub returns : goal.returns
returns c =
    let old = c.in_ok-lent_names.field-0.items in
    let sorted = c.deref.result.now in
    let rising : sorted ≡ rising_list (by_first name_cmp) old =
    c.deref.ensures.value ∙ rising_from_stable name_cmp name_cmp_total old c.in_ok-pairs.pairs.items c.in_ok-pairs.ensures in
    IfOk-weaker c.first_names.result _ _ (λ names firsts. firsts ∙ firsts_rise old sorted (map lent c.args.names.now) rising c.in_ok-lent_names.ensures)
    c.first_names.ensures

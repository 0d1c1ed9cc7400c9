use Rattle.erd_normal.proofs.Common.{◌≡◌, ℕ, List, ◌++◌, map, OnOk, IsPermutation, sym, ap, ◌∙◌, subst, Data, string, view, text_of, rising_list, id_of_rank}
use Rattle.erd_normal.proofs.Common.{reference_cmp, array_of, rank_named, value_tokens}
use Rattle.erd_normal.proofs.canonical.NormalKeys.{reference_cmp_total}
use Rattle.erd_normal.proofs.lists.Lists.{numbers_in_order}
use Rattle.erd_text.proofs.StableRising.{map_after}
use Rattle.erd_normal.proofs.ranks.RankedReferences.{ranks_rise, text_named}
use Rattle.erd_normal.proofs.values.reference_set.write_rising_references.Goals as goal

pub returns : goal.returns
returns c =
    let π = c.args.writer.now.prefer in
    let t = view c.args.writer.now.tree in
    let f = c.args.family in
    let ds = map view c.args.values.now in
    let rising = rising_list (reference_cmp π t f) ds in
    let number : Data → ℕ = λ d. rank_named π t f (text_of d) in
    let reference : ℕ → Data = λ n. string (id_of_rank f n) in
    let all = subst (λ (ns : List ℕ). IsPermutation ns c.sort_unstable.new.self.items) (c.in_ok-ranks.ensures ∙ map_after view number c.args.values.now)
    c.sort_unstable.ensures.permutation in
    subst (λ (es : List Data). OnOk c.write_references_to.result (c.write_references_to.new.out ≡ c.args.out.now ++ value_tokens (array_of es)))
    (ap (map reference) (c.deref.ensures.value ∙ numbers_in_order (reference_cmp_total π t f) number (ranks_rise π t f) ds c.sort_unstable.new.self.items all
    c.sort_unstable.ensures.sorted) ∙ (sym (map_after number reference rising)
    ∙ ap (λ (each : Data → Data). map each rising) (λ i d. string (text_named π t f (text_of d) i))))
    c.write_references_to.ensures

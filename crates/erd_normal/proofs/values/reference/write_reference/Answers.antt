use Rattle.erd_normal.proofs.Common.{◌≡◌, ◌++◌, OnOk, ap, ◌∙◌, subst, Data, string, view, id_of_rank, normal_id, value_tokens}
use Rattle.erd_normal.proofs.ranks.RankedReferences.{text_named}
use Rattle.erd_normal.proofs.values.reference.write_reference.Goals as goal

pub returns : goal.returns
returns c =
    let π = c.args.writer.now.prefer in
    let t = view c.args.writer.now.tree in
    subst (λ (d : Data). OnOk c.write_reference_to.result (c.write_reference_to.new.out ≡ c.args.out.now ++ value_tokens d))
    (ap string
    (ap (id_of_rank c.args.family) c.rank_named-rank.ensures ∙ (text_named π t c.args.family c.text_of.result.now
    ∙ ap (normal_id π t c.args.family) c.text_of.ensures)))
    c.write_reference_to.ensures

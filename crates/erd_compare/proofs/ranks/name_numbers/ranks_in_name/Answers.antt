use Rattle.erd_compare.proofs.Common.{◌≡◌, filter_map, ◌∙◌, ap₂, IfOk-weaker, ranks_told, common_rank_of}
use Rattle.erd_tables.specs.declared.class.Role.TheVariants.{OfFamily}
use Rattle.erd_compare.proofs.ranks.name_numbers.ranks_in_name.Goals as goal

pub returns : goal.returns
returns c =
    let common = c.args.common.now in
    IfOk-weaker c.common_ranks_of.result (λ found. found.items ≡ filter_map (common_rank_of common c.args.side (OfFamily c.family.result)) c.ranks.result.now)
    (λ ranks. ranks.items ≡ ranks_told common c.args.side c.args.name.now)
    (λ ns e. e ∙ ap₂ (λ f ranks. filter_map (common_rank_of common c.args.side (OfFamily f)) ranks) c.family.ensures c.ranks.ensures)
    c.common_ranks_of.ensures

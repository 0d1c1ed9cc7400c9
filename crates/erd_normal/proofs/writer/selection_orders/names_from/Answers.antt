use Rattle.erd_normal.proofs.Common.{◌≡◌, ◌<◌, ◌≤◌, [], ◌∷◌, ◌++◌, map, length, slice_get, Some, Option, option_map, option_copied, ap, ◌∙◌, arith, take_all}
use Rattle.erd_normal.proofs.Common.{map-append, length-map, slice_get-map, view, at_low, positioned}
use Rattle.erd_meaning.specs.NumberedNames.{RankedParts}
use Rattle.erd_meaning.specs.RankedNames.{ranked_name}
use Rattle.erd_meaning.proofs.selections.RankedReports.{ranked_name_of}
use Rattle.erd_normal.proofs.ranks.SelectionRanks.{one_placed, see}
use Rattle.erd_normal.proofs.writer.selection_orders.names_from.Goals as goal

pub loop-index-preserved : goal.loop-index-preserved
loop-index-preserved c =
    let π = c.args.report.now.prefer in
    let t = view c.args.report.now.tree in
    let vs = c.args.selections.now in
    let ds = map view vs in
    let ks = map (ranked_name_of π t) ds in
    let i = c.loop-index.index in
    let long : length ds ≡ length vs = length-map vs view in
    let test = c.loop-index-test.true in
    let low : i < length ds = omega (arith, long, test) in
    let hit = at_low ds i low in
    let k = ranked_name_of π t hit.0 in
    let here : slice_get ks i ≡ Some k = slice_get-map (ranked_name_of π t) ds i ∙ ap (option_map (ranked_name_of π t)) hit.1 in
    let name : option_copied c.name_at.result ≡ k = c.name_at.ensures ∙ ap (option_map (ranked_name π t)) (c.requires.named i hit.0 hit.1) in
    let seen = map see c.loop-index.names.items in
    ap (map see) c.in_ok-push.ensures.items ∙ (map-append see c.loop-index.names.items _
    ∙ (ap (λ (n : Option RankedParts). seen ++ (n, i) ∷ []) name ∙ one_placed ks i k seen here c.loop-index.invariant))

pub returns : goal.returns
returns c =
    let vs = c.args.selections.now in
    let ds = map view vs in
    let ks = map (ranked_name_of c.args.report.now.prefer (view c.args.report.now.tree)) ds in
    let long : length ds ≡ length vs = length-map vs view in
    let many : length ks ≡ length ds = length-map ds (ranked_name_of c.args.report.now.prefer (view c.args.report.now.tree)) in
    let end = c.loop-index-test.false in
    let all : length ks ≤ c.loop-index.index = omega (arith, long, many, end) in
    c.loop-index.invariant ∙ ap (positioned 0) (take_all c.loop-index.index ks all)

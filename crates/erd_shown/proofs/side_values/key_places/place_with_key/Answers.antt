use Rattle.erd_shown.proofs.Common.{◌≡◌, sym, subst, option_and_then, option_copied, view, Role}
use Rattle.erd_shown.specs.Shown.{placed_in}
use Rattle.erd_shown.specs.SideValues.{object_with_key}
use Rattle.erd_shown.proofs.side_values.key_places.place_with_key.Goals as goal

pub returns-in-Report : goal.returns-in-Report
returns-in-Report c =
    let π = c.args.report.now.prefer in
    let t = view c.args.report.now.tree in
    subst (λ (r : Role). option_and_then (placed_in t r) c.place_of_report.result ≡ object_with_key π t r (option_copied c.args.key)) (sym c.in-Report.is)
    (c.place_of_report.ensures π t)

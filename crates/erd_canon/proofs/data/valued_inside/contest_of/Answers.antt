use Rattle.erd_canon.proofs.Common.{ap, view}
use Rattle.std.specs.Prelude.{option_and_then}
use Rattle.erd_compare.specs.Differences.{member_of}
use Rattle.erd_shown.specs.SideValues.{told_at_name}
use Rattle.erd_canon.proofs.data.valued_inside.contest_of.Goals as goal

pub returns : goal.returns
returns c =
    let r = c.args.report.now in
    ap (λ o. λ d. option_and_then (told_at_name r.prefer (view r.tree) d.name (member_of d.how)) o) c.contest_with_key.ensures

use Rattle.erd_text.proofs.Common.{◌≡◌, ◌<◌, None, length, subst, arith}
use Rattle.std.proofs.lemmas.Option.{slice_get-get_or}
use Rattle.erd_shown.proofs.rows.rows_of.Goals as goal
use Rattle.erd_shown.specs.Rows.{from, lefts}

pub loop-one-preserved : goal.loop-one-preserved
loop-one-preserved c =
    let i = c.loop-one.one in
    let low : i < length c.args.left.now = c.loop-one-test.true in
    (c.in_ok-other.ensures.rows c.args.left.now (slice_get-get_or c.args.left.now i None low) c.loop-one.invariant.0, c.in_ok-other.ensures.within)

pub returns : goal.returns
returns c =
    let up = c.in_ok-push_rights.ensures c.args.left.now c.loop-one.one c.loop-one.invariant.0 in
    let end : c.loop-one.one ≡ length c.args.left.now = omega (arith, c.loop-one-test.false, c.loop-one.auto.one-end) in
    record {
      left_lines = subst (λ n. lefts c.push_rights.new.rows.items ≡ from 0 n) end up.left_lines;
      right_lines = up.right_lines;
      so = up.so;
    }

use Rattle.erd_normal.proofs.Common.{◌≡◌, ◌++◌, slice_get, option_map, sym, ap, ◌∙◌, on_ok_weaker, Data, view, elections, value_tokens, written_election}
use Rattle.erd_normal.proofs.ranks.WrittenTrees.{found_below, found_value}
use Rattle.erd_normal.proofs.texts.DueTokens.{put_none}
use Rattle.erd_normal.proofs.report.election.write_election_at.Goals as goal

pub write_object-requires-clause-whole : goal.write_object-requires-clause-whole
write_object-requires-clause-whole c = c.election.ensures.whole c.in-Some.election c.in-Some.is

pub returns : goal.returns
returns c =
    let π = c.args.writer.now.prefer in
    let t = view c.args.writer.now.tree in
    let i = c.args.position in
    let v = view c.in-Some.election.now in
    on_ok_weaker c.write_object.result
    (λ written e at.
    let same : v ≡ e.value = found_value (slice_get (elections t) i) v e (sym (ap (option_map (λ v. view v.now)) c.in-Some.is) ∙ c.election.ensures.election)
    at in
    written ∙ ap (λ (d : Data). c.args.out.now ++ value_tokens d) (put_none (written_election π t i v) ∙ ap (written_election π t i) same))
    c.write_object.ensures

pub unreachable-requires : goal.unreachable-requires
unreachable-requires c =
    found_below (elections (view c.args.writer.now.tree)) c.args.position c.requires.there
    (sym (ap (option_map (λ v. view v.now)) c.in-None.is) ∙ c.election.ensures.election)

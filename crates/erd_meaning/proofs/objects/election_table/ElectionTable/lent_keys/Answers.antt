use Rattle.erd_meaning.proofs.Common.{◌<◌, ◌≤◌, List, length, ap, ◌∙◌, subst, take_all, positioned, seen_keys}
use Rattle.erd_meaning.proofs.selections.PositionedKeys.{KeyEntry, one_positioned}
use Rattle.erd_meaning.proofs.objects.election_table.ElectionTable.lent_keys.Goals as goal

pub loop-index-preserved : goal.loop-index-preserved
loop-index-preserved c =
    let ks = c.args.self.now.keys in
    let low : c.loop-index.index < length ks = subst (λ n. c.loop-index.index < n) c.len-count.ensures c.loop-index-test.true in
    ap (λ (es : List KeyEntry). seen_keys es) c.in_ok-push.ensures.items
    ∙ one_positioned ks c.loop-index.index c.loop-index.keys.items c.key_at.result low c.loop-index.invariant c.key_at.ensures

pub returns : goal.returns
returns c =
    let ks = c.args.self.now.keys in
    let all : length ks ≤ c.loop-index.index = subst (λ n. n ≤ c.loop-index.index) c.len-count.ensures c.loop-index-test.false in
    c.loop-index.invariant ∙ ap (positioned 0) (take_all c.loop-index.index ks all)

use Rattle.erd_meaning.proofs.Common.{◌<◌, ◌≤◌, List, map, length, sym, ap, ◌∙◌, subst, take_all, length-map, positioned, seen_keys, family_keys, those_of}
use Rattle.erd_meaning.proofs.Common.{Kept, shown}
use Rattle.erd_meaning.proofs.selections.PositionedKeys.{KeyEntry, key_of_those, one_positioned}
use Rattle.erd_meaning.proofs.objects.ranked_objects.keys_of_family.Goals as goal

pub loop-index-preserved : goal.loop-index-preserved
loop-index-preserved c =
    let os = those_of c.args.family (map shown c.args.objects.now.objects) in
    let ks = family_keys (map shown c.args.objects.now.objects) c.args.family in
    let many = c.count-count.ensures ∙ sym (length-map os (λ (k : Kept). k.key)) in
    let low : c.loop-index.index < length ks = subst (λ n. c.loop-index.index < n) many c.loop-index-test.true in
    ap (λ (es : List KeyEntry). seen_keys es) c.in_ok-push.ensures.items
    ∙ one_positioned ks c.loop-index.index c.loop-index.keys.items c.key_at.result low c.loop-index.invariant
    (c.key_at.ensures ∙ key_of_those os c.loop-index.index)

pub returns : goal.returns
returns c =
    let os = those_of c.args.family (map shown c.args.objects.now.objects) in
    let ks = family_keys (map shown c.args.objects.now.objects) c.args.family in
    let many = c.count-count.ensures ∙ sym (length-map os (λ (k : Kept). k.key)) in
    let all : length ks ≤ c.loop-index.index = subst (λ n. n ≤ c.loop-index.index) many c.loop-index-test.false in
    c.loop-index.invariant ∙ ap (positioned 0) (take_all c.loop-index.index ks all)

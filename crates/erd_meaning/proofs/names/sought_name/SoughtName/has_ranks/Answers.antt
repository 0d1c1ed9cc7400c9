use Rattle.erd_meaning.proofs.Common.{◌≡◌, ◌&&◌, List, map, length, get_or, ◌==◌, Some, sym, ap, ◌∙◌, NameParts, family_chosen, rank_among, is_key_among}
use Rattle.erd_meaning.proofs.Common.{are_ranks_of, shown, Key}
use Rattle.erd_meaning.proofs.selections.RankedTests.{all_pass_at, lengths_differ, next_left, one_fails}
use Rattle.erd_meaning.proofs.names.sought_name.SoughtName.has_ranks.Goals as goal

pub returns-then-len-ranks : goal.returns-then-len-ranks
returns-then-len-ranks c =
    let keys : c.name.inside.keys.items ≡ c.args.self.now.name.now.keys = ap (λ (n : NameParts). n.keys) (c.name.view_is) in
    lengths_differ (map shown c.args.self.now.objects.now.objects) (family_chosen c.args.self.now.name.now.class) c.args.self.now.name.now.keys c.args.ranks.now
    (λ e. c.if-len-ranks.true (c.len.ensures ∙ c.name.inside.keys.ok.0 ∙ ap length keys ∙ e))

pub returns-then-not-has_rank : goal.returns-then-not-has_rank
returns-then-not-has_rank c =
    let ks = map shown c.args.self.now.objects.now.objects in
    let f = family_chosen c.args.self.now.name.now.class in
    let items = c.deref-key-items.result.now in
    let keys : items ≡ c.args.self.now.name.now.keys = c.deref-key-items.ensures.value ∙ ap (λ (n : NameParts). n.keys) (c.name.view_is) in
    let many : length items ≡ length c.args.ranks.now = c.deref-key-items.ensures.len ∙ sym c.len.ensures ∙ c.if-len-ranks.false in
    one_fails ks f items c.args.ranks.now many c.loop-index.index c.key-item.result (are_ranks_of ks f items c.args.ranks.now)
    c.loop-index-test.true c.key-item.is
    (ap (λ (k : Key). is_key_among ks f k && (rank_among ks f (Some k) == get_or c.args.ranks.now c.loop-index.index 0)) (sym c.key.ensures)
    ∙ sym c.has_rank.ensures ∙ c.if-not-has_rank.true)
    c.loop-index.invariant
    ∙ ap (λ (ls : List Key). are_ranks_of ks f ls c.args.ranks.now) keys

pub loop-index-preserved : goal.loop-index-preserved
loop-index-preserved c =
    let ks = map shown c.args.self.now.objects.now.objects in
    let f = family_chosen c.args.self.now.name.now.class in
    let items = c.deref-key-items.result.now in
    let many : length items ≡ length c.args.ranks.now = c.deref-key-items.ensures.len ∙ sym c.len.ensures ∙ c.if-len-ranks.false in
    next_left ks f items c.args.ranks.now many c.loop-index.index c.key-item.result (are_ranks_of ks f items c.args.ranks.now)
    c.loop-index-test.true c.key-item.is
    (ap (λ (k : Key). is_key_among ks f k && (rank_among ks f (Some k) == get_or c.args.ranks.now c.loop-index.index 0)) (sym c.key.ensures)
    ∙ sym c.has_rank.ensures ∙ c.if-not-has_rank.false)
    c.loop-index.invariant

pub returns : goal.returns
returns c =
    let ks = map shown c.args.self.now.objects.now.objects in
    let f = family_chosen c.args.self.now.name.now.class in
    let items = c.deref-key-items.result.now in
    let keys : items ≡ c.args.self.now.name.now.keys = c.deref-key-items.ensures.value ∙ ap (λ (n : NameParts). n.keys) (c.name.view_is) in
    let many : length items ≡ length c.args.ranks.now = c.deref-key-items.ensures.len ∙ sym c.len.ensures ∙ c.if-len-ranks.false in
    all_pass_at ks f items c.args.ranks.now many c.loop-index.index (are_ranks_of ks f items c.args.ranks.now) c.loop-index-test.false c.loop-index.invariant
    ∙ ap (λ (ls : List Key). are_ranks_of ks f ls c.args.ranks.now) keys

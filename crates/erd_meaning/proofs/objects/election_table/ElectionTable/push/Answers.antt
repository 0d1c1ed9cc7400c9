use Rattle.erd_meaning.proofs.Common.{HeldElections, List, [], ◌∷◌, ◌++◌, Option, sym, ap, ◌∙◌, subst, ap₂, list_any, AreSeen, same_key, Key}
use Rattle.erd_meaning.proofs.identity.MetLists.{seen_is, seen_more}
use Rattle.erd_meaning.proofs.objects.election_table.ElectionTable.push.Goals as goal

pub invariant_of-self-2 : goal.invariant_of-self-2
invariant_of-self-2 c =
    let keys = c.self.inside.keys.items in
    let more = seen_more keys c.self.inside.seen.keys c.args.key c.self.invariant in
    let all = c.push_reserved.ensures.items ∙ ap₂ (λ (ks : List (Option Key)) k. ks ++ k ∷ []) c.in_ok-reserve.ensures.items c.in_ok-shared.ensures in
    subst (λ ks. AreSeen ks c.note.new.seen.keys) (sym all) (subst (λ seen. AreSeen (keys ++ c.args.key ∷ []) seen) (sym c.in_ok-known.ensures.noted) more)

pub returns-clause-known : goal.returns-clause-known
returns-clause-known c =
    c.in_ok-known.ensures.known ∙ seen_is c.self.inside.keys.items c.self.inside.seen.keys c.args.key c.self.invariant
    ∙ ap (λ (h : HeldElections). list_any (same_key c.args.key) h.keys) c.self.view_is

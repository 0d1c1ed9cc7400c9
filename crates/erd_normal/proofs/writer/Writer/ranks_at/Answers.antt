use Rattle.erd_normal.proofs.Common.{◌≡◌, ℕ, [], slice_get, Some, None, option_map, sym, ap, ◌∙◌, subst, ap₂, same_Some, option_map_or, string, view, family}
use Rattle.erd_normal.proofs.Common.{Judged, key_in, rank_of, id_in, NameParts, canonical_selection_id, normal_selection_reference}
use Rattle.erd_normal.proofs.ranks.RankedReferences.{rank_there, reference_there, selection_at, selection_there}
use Rattle.erd_normal.proofs.writer.Writer.ranks_at.Goals as goal

pub returns : goal.returns
returns c id here =
    let r = c.self.inside.report.now in
    let at = c.args.position in
    let contest = c.in_ok-contest.contest in
    let n = c.in_ok-rank.rank in
    ap (λ m. string (canonical_selection_id m n)) c.rank_at.ensures
    ∙ subst (λ (r : Judged). id_in family.Selection (view r.tree) at ≡ Some id
    → string (canonical_selection_id (rank_of r.prefer (view r.tree) family.Contest (key_in r.prefer family.Contest (view r.tree) contest)) n)
    ≡ normal_selection_reference r.prefer (view r.tree) (string id)) c.self.view_is
    (λ e.
    let s = selection_at r.prefer (view r.tree) id at c.self.invariant.accepted e in
    let there = sym (ap (option_map (λ s. (s.0, s.1.now))) c.in_ok-contest.was) ∙ (c.selection_at.ensures ∙ selection_there r.prefer (view r.tree) id at s) in
    let number : contest ≡ s.number = ap (λ o. option_map_or (λ (x : ℕ × NameParts). x.0) o contest) there in
    let rank =
    same_Some n _
    (sym c.in_ok-rank.was ∙ (c.rank_in.ensures
    ∙ (ap (λ ns. slice_get ns at) c.deref.ensures.value ∙ rank_there r.prefer (view r.tree) id at s c.self.inside.orders.now.selections.ranks.items
    c.self.invariant.selections))) in
    ap₂ (λ k m. string (canonical_selection_id (rank_of r.prefer (view r.tree) family.Contest (key_in r.prefer family.Contest (view r.tree) k)) m)) number rank
    ∙ reference_there r.prefer (view r.tree) id at s)
    here

pub returns-in_err-contest : goal.returns-in_err-contest
returns-in_err-contest c id here =
    let r = c.self.inside.report.now in
    let at = c.args.position in
    ap (λ o. string (option_map_or (λ (x : ℕ × ℕ). canonical_selection_id x.0 x.1) o [])) c.from_residual.ensures
    ∙ subst (λ (r : Judged). id_in family.Selection (view r.tree) at ≡ Some id → string [] ≡ normal_selection_reference r.prefer (view r.tree) (string id))
    c.self.view_is
    (λ e.
    let s = selection_at r.prefer (view r.tree) id at c.self.invariant.accepted e in
    let clash : None ≡ Some (s.number, s.name) = sym (ap (option_map (λ s. (s.0, s.1.now))) c.in_err-contest.was)
    ∙ (c.selection_at.ensures ∙ selection_there r.prefer (view r.tree) id at s) in
    cc)
    here

pub returns-in_err-rank : goal.returns-in_err-rank
returns-in_err-rank c id here =
    let r = c.self.inside.report.now in
    let at = c.args.position in
    ap (λ o. string (option_map_or (λ (x : ℕ × ℕ). canonical_selection_id x.0 x.1) o [])) c.from_residual-in_err-rank.ensures
    ∙ subst (λ (r : Judged). id_in family.Selection (view r.tree) at ≡ Some id → string [] ≡ normal_selection_reference r.prefer (view r.tree) (string id))
    c.self.view_is
    (λ e.
    let s = selection_at r.prefer (view r.tree) id at c.self.invariant.accepted e in
    let clash =
    sym c.in_err-rank.was ∙ (c.rank_in.ensures
    ∙ (ap (λ ns. slice_get ns at) c.deref.ensures.value ∙ rank_there r.prefer (view r.tree) id at s c.self.inside.orders.now.selections.ranks.items
    c.self.invariant.selections)) in
    none_some clash)
    here
  where
    none_some : {A B : Type 0} {x : A} → None ≡ Some x → B
    none_some e = cc

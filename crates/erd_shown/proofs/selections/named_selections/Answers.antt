use Rattle.erd_shown.proofs.Common.{◌≡◌, ◌+◌, ◌++◌, length, slice_get, drop, map, Some, None, sym, refl, ap, ◌∙◌, subst, option_map, option_copied}
use Rattle.erd_shown.proofs.Common.{slice_get-map, view}
use Rattle.std.proofs.lemmas.Option.{slice_get_read}
use Rattle.erd_shown.specs.code.Selections.{named_selection, of_pair}
use Rattle.erd_shown.proofs.Written.{next_named}
use Rattle.erd_shown.proofs.selections.named_selections.Goals.{in-Some+in_ok-push, in_default}
use Rattle.erd_shown.proofs.selections.named_selections.Goals as goal

pub loop-index-preserved : goal.loop-index-preserved
loop-index-preserved c are =
    let π = c.args.report.now.prefer in
    let t = view c.args.report.now.tree in
    let vs = c.args.selections.now in
    let i = c.loop-index.index in
    let v = c.index-selections-index.result in
    let there : slice_get vs i ≡ Some v = slice_get_read vs (length vs) i v refl c.loop-index-test.true c.index-selections-index.is in
    let n = are.named i (view v) (slice_get-map view vs i ∙ ap (option_map view) there) in
    let copied : option_copied c.name_from.result ≡ Some n.0 = c.name_from.ensures n.3 ∙ n.1 in
    elim c.match-name_from.branch [
      | in-Some+in_ok-push w ↦ subst (λ ps. map of_pair ps.items ++ map (named_selection π t) (map view (drop (i + 1) vs)) ≡ map (named_selection π t)
          (map view vs)) (sym w.pairs-is)
          (next_named of_pair (named_selection π t) c.loop-index.pairs.items w.push.new.self.items _ vs i v _ w.in_ok-push.ensures.items
          (ap (λ o. (o, view v)) (sym (ap option_copied w.in-Some.is) ∙ copied ∙ sym n.2)) there (c.loop-index.invariant are))
      | in_default w ↦ let clash : None ≡ Some n.0 = sym (ap option_copied w.in_default.is) ∙ copied in absurd (cc clash)
    ]

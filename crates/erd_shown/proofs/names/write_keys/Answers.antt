use Rattle.erd_shown.proofs.Common.{◌≡◌, ◌+◌, ◌<◌, ◌++◌, length, drop, map, Some, None, sym, ap, ◌∙◌, subst, option_copied, at_low, items_of, items_tokens}
use Rattle.erd_shown.specs.KeyData.{shown_key}
use Rattle.erd_shown.proofs.Written.{key_next}
use Rattle.erd_shown.proofs.names.write_keys.Goals.{in-Some+in_ok-write_key, in_default}
use Rattle.erd_shown.proofs.names.write_keys.Goals as goal

pub loop-index-preserved : goal.loop-index-preserved
loop-index-preserved c =
    let ks = c.args.name.now.keys in
    let i = c.loop-index.index in
    let low : i < length ks = subst (λ n. i < n) c.key_count-index-end.ensures c.loop-index-test.true in
    elim c.match-key_at.branch [
      | in-Some+in_ok-write_key w ↦ subst (λ x. x ++ items_tokens (items_of (map shown_key (drop (i + 1) ks))) ≡ c.begin_array.new.self
          ++ items_tokens (items_of (map shown_key ks))) (sym w.out-is)
          (key_next ks i w.in-Some.key.now c.loop-index.out w.write_key.new.out _ (sym c.key_at.ensures ∙ ap option_copied w.in-Some.is) c.loop-index.invariant
          w.in_ok-write_key.ensures)
      | in_default w ↦ let some = at_low ks i low in
          let clash : None ≡ Some some.0 = sym (ap option_copied w.in_default.is) ∙ (c.key_at.ensures ∙ some.1) in
          absurd (cc clash)
    ]

use Rattle.erd_text.proofs.Common.{◌≡◌, ◌++◌, List, map, sym, ap, ◌∙◌, subst, Data, value_tokens, rising_list}
use Rattle.std.specs.Result.{OnOk}
use Rattle.std.proofs.lemmas.Simd.{map-map}
use Rattle.erd_text.proofs.RisingLists.{by_first, rising_list_map}
use Rattle.erd_text.proofs.StableRising.{rising_from_stable}
use Rattle.erd_meaning.specs.Keys.{key_cmp}
use Rattle.erd_meaning.specs.code.Orders.{key_cmp_total}
use Rattle.erd_meaning.specs.declared.keys.key.Key.{Key}
use Rattle.erd_shown.proofs.references.write_reference_set.Goals as goal
use Rattle.erd_shown.specs.KeyData.{array_of, shown_key}

pub returns : goal.returns
returns c =
    let old = c.in_ok-keys_of.field-0.items in
    let new = c.in_ok-keys.keys.items in
    let first = λ (p : Key × Unit {0}). p.0 in
    let sorted : new ≡ rising_list (by_first key_cmp) old = rising_from_stable key_cmp key_cmp_total old new c.in_ok-keys.ensures in
    subst (λ (ds : List Data). OnOk c.write_keys.result (c.write_keys.new.out ≡ c.args.out.now ++ value_tokens (array_of ds)))
    (sym (map-map shown_key first c.deref.result.now)
    ∙ ap (map shown_key) (ap (map first) (c.deref.ensures.value ∙ sorted) ∙ rising_list_map first key_cmp old
    ∙ ap (rising_list key_cmp) c.in_ok-keys_of.ensures))
    c.write_keys.ensures

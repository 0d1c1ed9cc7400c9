use Rattle.erd_meaning.proofs.Common.{◌≡◌, true, List, [], map, Option, sym, ap, ◌∙◌, subst, IfOk-weaker, IsDistinct, has_keys, positioned, keys_seen}
use Rattle.erd_meaning.proofs.Common.{AreDistinct, family_keys, IsOrder, shown, Key}
use Rattle.erd_meaning.proofs.identity.ObjectFamilies.{keyed_unless}
use Rattle.erd_meaning.proofs.selections.PositionedKeys.{KeyEntry, keys_placed}
use Rattle.erd_meaning.proofs.objects.ranked_objects.order_of.Goals as goal

none_distinct : AreDistinct []
unfolding IsDistinct
none_distinct = tt

pub of-requires-clause-distinct : goal.of-requires-clause-distinct
of-requires-clause-distinct c = subst (λ (es : List KeyEntry). AreDistinct (keys_seen es)) (sym c.new.ensures.items) none_distinct

pub of-requires-in_default : goal.of-requires-in_default
of-requires-in_default c =
    let ks = family_keys (map shown c.args.objects.now.objects) c.args.family in
    let are = keys_placed c.in_ok-keys_of_family-in_default.field-0.items ks c.in_ok-keys_of_family-in_default.ensures in record {
      placed = c.in_ok-keys_of_family-in_default.ensures ∙ ap (positioned 0) (sym are);
      distinct = subst AreDistinct (sym are) (c.requires.distinct c.args.family (keyed_unless c.args.family c.in_default.not-Selection));
    }

pub returns-in_ok-keys_of_family-in_default : goal.returns-in_ok-keys_of_family-in_default
returns-in_ok-keys_of_family-in_default c =
    let f = c.args.family in
    let ks = family_keys (map shown c.args.objects.now.objects) f in
    let keys = c.in_ok-keys_of_family-in_default.field-0.items in
    IfOk-weaker c.of-in_default.result (IsOrder (keys_seen keys)) (λ order. has_keys f ≡ true → IsOrder ks order)
    (λ order is keyed. subst (λ (ls : List (Option Key)). IsOrder ls order) (keys_placed keys ks c.in_ok-keys_of_family-in_default.ensures) is)
    c.of-in_default.ensures

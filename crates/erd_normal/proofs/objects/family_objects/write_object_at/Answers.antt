use Rattle.erd_normal.proofs.Common.{◌≡◌, ◌++◌, slice_get, option_map, sym, ap, ◌∙◌, ap₂, on_ok_weaker, Data, view, role, class_of_object, key_of, rank_of}
use Rattle.erd_normal.proofs.Common.{objects, canonical_id, normal_object_with, with_id, value_tokens, written_object_value}
use Rattle.erd_normal.proofs.ranks.WrittenTrees.{found_below, found_key, found_value}
use Rattle.erd_normal.proofs.objects.family_objects.write_object_at.Goals as goal

pub write_identified-requires : goal.write_identified-requires
write_identified-requires c = record { whole = c.object.ensures.whole c.in-Some.object c.in-Some.is }

pub returns : goal.returns
returns c =
    let π = c.args.writer.now.prefer in
    let t = view c.args.writer.now.tree in
    let f = c.args.family in
    let i = c.args.position in
    let v = view c.in-Some.object.now in
    let built : (Data → Data) = λ d. normal_object_with (λ name k v. written_object_value π t i k v) (class_of_object (role.OfFamily f) d) d in
    on_ok_weaker c.write_identified.result
    (λ written o at.
    let same : v ≡ o.value = found_value (slice_get (objects f t) i) v o (sym (ap (option_map (λ v. view v.now)) c.in-Some.is) ∙ c.object.ensures.object) at in
    let id : option_map (λ text. text.bytes) c.in_ok-id-in-Some.id ≡ canonical_id f (rank_of π t f (key_of π o.value)) =
    c.in_ok-id-in-Some.ensures ∙ ap (canonical_id f) (c.rank_at-rank.ensures ∙ ap (rank_of π t f) (found_key π t f i o c.requires.keyed at)) in
    written ∙ ap (λ d. c.args.out.now ++ value_tokens d) (ap₂ (λ x d. with_id x (built d)) id same))
    c.write_identified.ensures

pub unreachable-requires : goal.unreachable-requires
unreachable-requires c =
    found_below (objects c.args.family (view c.args.writer.now.tree)) c.args.position c.requires.there
    (sym (ap (option_map (λ v. view v.now)) c.in-None.is) ∙ c.object.ensures.object)

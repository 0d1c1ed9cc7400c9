use Rattle.erd_normal.proofs.Common.{◌≡◌, ◌+◌, ◌++◌, drop, Option, sym, ap, ◌∙◌, or_parts, option_map_or, member as member_of, view, items_view, members_view}
use Rattle.erd_normal.proofs.Common.{has_float, items_have_float, MemberKind, on_ok_weaker, Entry, normal_node_value, normal_content, normal_nodes, normal_node}
use Rattle.erd_normal.proofs.Common.{normal_node_members, value_tokens, items_tokens, members_tokens, member_tokens}
use Rattle.erd_text.proofs.WholeValues.{whole_first, whole_rest}
use Rattle.erd_normal.proofs.inside.Members.{node_value}
use Rattle.erd_text.proofs.WrittenTokens.{then_rest}
use Rattle.erd_normal.proofs.texts.DueTokens.{entries_from, kept_member, member_or_none}
use Rattle.erd_normal.proofs.values.ordered_content.+content.Goals as goal

pub write_node_member-returns-in_ok-key : goal.write_node_member-returns-in_ok-key
write_node_member-returns-in_ok-key t c =
    let π = c.args.writer.now.prefer in
    let report = view c.args.writer.now.tree in
    let inside = normal_content π report (view c.args.value.now) in
    let value = normal_node_value π report c.args.kind (view c.args.value.now) inside in
    on_ok_weaker c.write_node_value.result
    (λ written whole.
    kept_member c.args.name.now value c.args.out.now c.key.new.self c.write_node_value.new.out
    (sym (c.is_kept_in_node.ensures π report inside) ∙ c.if-is_kept_in_node.true)
    c.in_ok-key.ensures
    (written whole))
    c.write_node_value.ensures

pub write_node_members-loop-name-preserved : goal.write_node_members-loop-name-preserved
write_node_members-loop-name-preserved t c whole =
    let π = c.args.writer.now.prefer in
    let report = view c.args.writer.now.tree in
    let entry : Entry = (c.in-Some.name.now, c.in-Some.member.now) in
    let before = c.loop-name.invariant whole in
    let left = c.loop-name.name-iterator in
    let rest = c.next.new.self in
    let value = node_value π report c.args.class in
    let name = c.as_str-name.result.now in
    let member = view c.in-Some.member.now in
    let first = whole_first left rest entry c.in-Some.ensures.steps before.0 in
    let written : c.write_node_member.new.out ≡ c.loop-name.out ++ member_tokens name (value name member) =
    c.in_ok-write_node_member.ensures first
    ∙ ap (λ (k : Option MemberKind). c.loop-name.out ++ member_tokens name (normal_node_value π report k member (normal_content π report member)))
    c.kind_in.ensures in (
      whole_rest left rest entry c.in-Some.ensures.steps before.0,
      member_or_none name (value name member) (normal_node_members π report c.args.class (members_view rest)) c.loop-name.out
          c.write_node_member.new.out _ written
          (ap (λ n. c.loop-name.out ++ members_tokens (option_map_or (λ v. member_of n v (normal_node_members π report c.args.class (members_view rest)))
          (value n member) (normal_node_members π report c.args.class (members_view rest)))) c.as_str-name.ensures.value
          ∙ (ap (λ es. c.loop-name.out ++ members_tokens (normal_node_members π report c.args.class (members_view es))) (sym c.in-Some.ensures.steps)
          ∙ before.1)),
    )

pub write_nodes-loop-item-preserved : goal.write_nodes-loop-item-preserved
write_nodes-loop-item-preserved t c whole =
    let π = c.args.writer.now.prefer in
    let report = view c.args.writer.now.tree in
    let vs = c.deref-item-items.result.now in
    let i = c.loop-item.item-index in
    let v = c.item-item.result in
    let before = c.loop-item.invariant whole in
    let left = entries_from vs i v c.loop-item-test.true c.item-item.is in
    let parts = or_parts (has_float (view v)) (items_have_float (items_view (drop (i + 1) vs))) (ap items_have_float (sym left) ∙ before.0) in (
      parts.1,
      then_rest c.loop-item.out (value_tokens (normal_node π report (view v))) c.write_node.new.out
          (items_tokens (normal_nodes π report (items_view (drop (i + 1) vs)))) _
          (c.in_ok-write_node.ensures parts.0)
          (ap (λ ds. c.loop-item.out ++ items_tokens (normal_nodes π report ds)) (sym left) ∙ before.1),
    )

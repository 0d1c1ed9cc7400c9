-- Members that are no selections mean what they do by themselves.
use Rattle.erd_compare.proofs.Common.{sym, ap, ◌∙◌, is_selections}
use Rattle.erd_compare.proofs.same_selections.SelectionWalks.{other_member, seen}
use Rattle.erd_compare.proofs.objects.records.is_same_member.Goals as goal

pub returns-else-is_selections : goal.returns-else-is_selections
returns-else-is_selections c =
    other_member c.args.comparer.now.left c.args.comparer.now.right c.args.class c.args.pair.name.now (seen c.args.pair.one) (seen c.args.pair.other)
    c.is_same_plain_member.result
    (ap is_selections (sym c.member_kind.ensures) ∙ sym c.is_selections.ensures ∙ c.if-is_selections.false) c.is_same_plain_member.ensures

pub is_same_selections-requires-clause-one_placed : goal.is_same_selections-requires-clause-one_placed
is_same_selections-requires-clause-one_placed c =
    c.requires.one_placed (ap is_selections (sym c.member_kind.ensures) ∙ sym c.is_selections.ensures ∙ c.if-is_selections.true)

pub is_same_selections-requires-clause-other_placed : goal.is_same_selections-requires-clause-other_placed
is_same_selections-requires-clause-other_placed c =
    c.requires.other_placed (ap is_selections (sym c.member_kind.ensures) ∙ sym c.is_selections.ensures ∙ c.if-is_selections.true)

use Rattle.erd_compare.proofs.Common.{◌≡◌, true, Some, codes, bytes_eq, sym, ap, ◌∙◌, rules, bytes_eq-Decides, no_members, member, as_str, as_object, view}
use Rattle.erd_compare.proofs.Common.{members_view, class}
use Rattle.erd_tables.specs.Classes.{text_of_class}
use Rattle.erd_compare.proofs.same_content.SameContents.{plain_parts, table_members}
use Rattle.erd_compare.proofs.values.plain_contest.plain_contest.Goals as goal

pub returns-in-None : goal.returns-in-None
returns-in-None c =
    let a = view c.in_ok-next_named.field-0.now in
    let b = view c.in_ok-contest.contest.now in
    let d = view c.in_ok-selections.selections.now in
    let all : as_object (view c.args.node.now) ≡ Some (members_view c.iter-members.result) = search rules in
    let first : members_view c.iter-members.result ≡ member (codes "@type") a (members_view c.next_named.new.members) = c.in_ok-next_named.ensures in
    let second : members_view c.next_named.new.members ≡ member (codes "ContestId") b (members_view c.next_named-2.new.members) = c.in_ok-contest.ensures in
    let third : members_view c.next_named-2.new.members ≡ member (codes "OrderedContestSelectionIds") d (members_view c.next_named-3.new.members) =
    c.in_ok-selections.ensures in
    let last : members_view c.next_named-3.new.members ≡ no_members = search rules in
    let members : as_object (view c.args.node.now) ≡ Some (table_members a b d) =
    all ∙ ap Some
    (first ∙ ap (member (codes "@type") a)
    (second ∙ ap (member (codes "ContestId") b) (third ∙ ap (member (codes "OrderedContestSelectionIds") d) last))) in
    let named : bytes_eq c.in_ok-class.class.now c.type_text.result.now ≡ true = search rules in
    let type : as_str a ≡ Some (text_of_class class.OrderedContest) =
    sym c.in_ok-class.ensures ∙ ap Some ((bytes_eq-Decides c.in_ok-class.class.now c.type_text.result.now).0 named ∙ c.type_text.ensures) in
    plain_parts (view c.args.node.now) a b d _ members type c.text_of.ensures c.entries_of.ensures

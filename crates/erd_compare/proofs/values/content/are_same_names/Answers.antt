use Rattle.erd_compare.proofs.Common.{map, Option, option_and_then, sym, ◌∙◌, iter_rest, Data, as_str, view, Value, Preference, NameParts, name_named}
use Rattle.erd_compare.proofs.same_content.SameContents.{differ_here, one_further}
use Rattle.erd_compare.proofs.values.content.are_same_names.Goals as goal

-- the name of the selection that a reference names
abbrev name_in : Preference → Data → Value → Option NameParts
name_in π t v = option_and_then (name_named π t) (as_str (view v))

pub returns-then-not-is_same_name : goal.returns-then-not-is_same_name
returns-then-not-is_same_name c =
    let f = name_in c.args.comparer.now.left.prefer (view c.args.comparer.now.left.tree) in
    let g = name_in c.args.comparer.now.right.prefer (view c.args.comparer.now.right.tree) in
    differ_here f g c.args.ones.now c.loop-one.one-index c.one-item.result c.in-Some.other.now (iter_rest c.loop-one.rest) (iter_rest c.next.new.self)
    (map f c.args.ones.now) (map g c.args.others.now) c.loop-one-test.true c.one-item.is c.in-Some.ensures.steps
    (λ e. sym c.if-not-is_same_name.true ∙ c.is_same_name.ensures.1 e)
    c.loop-one.invariant

pub loop-one-preserved : goal.loop-one-preserved
loop-one-preserved c =
    let f = name_in c.args.comparer.now.left.prefer (view c.args.comparer.now.left.tree) in
    let g = name_in c.args.comparer.now.right.prefer (view c.args.comparer.now.right.tree) in
    one_further f g c.args.ones.now c.loop-one.one-index c.one-item.result c.in-Some.other.now (iter_rest c.loop-one.rest) (iter_rest c.next.new.self)
    (map f c.args.ones.now) (map g c.args.others.now) c.loop-one-test.true c.one-item.is c.in-Some.ensures.steps
    (c.is_same_name.ensures.0 c.if-not-is_same_name.false)
    c.loop-one.invariant

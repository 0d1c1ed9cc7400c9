use Rattle.erd_canon.proofs.Common.{◌+◌, drop, subst, arith, string_bytes}
use Rattle.std.proofs.lemmas.List.{drop_more, drop_all}
use Rattle.erd_canon.specs.code.Fronts.{IsReached}
use Rattle.erd_canon.specs.code.WordTexts.{AnyObject, worded_size, worded_text}
use Rattle.erd_canon.proofs.data_values.Fronts.{ended}
use Rattle.erd_canon.proofs.data.word_pieces.push_entries.Goals as goal

pub loop-object-preserved : goal.loop-object-preserved
loop-object-preserved c =
    let found = c.args.objects.now in
    let i = c.loop-object.object-index in
    let size = worded_size c.args.report.now in
    let text_of = worded_text c.args.report.now in
    c.in_ok-pass_entry.ensures found (string_bytes c.args.text.now) (drop (i + 1) found)
    (subst (IsReached size text_of AnyObject c.args.piece.now found (string_bytes c.args.text.now) (string_bytes c.loop-object.text) c.loop-object.ahead)
    (drop_more found i _ c.loop-object-test.true)
    c.loop-object.invariant)

pub returns : goal.returns
returns c =
    let found = c.args.objects.now in
    let size = worded_size c.args.report.now in
    let text_of = worded_text c.args.report.now in
    ended size text_of AnyObject c.args.piece.now found (string_bytes c.args.text.now) (string_bytes c.loop-object.text) c.loop-object.ahead
    (subst (IsReached size text_of AnyObject c.args.piece.now found (string_bytes c.args.text.now) (string_bytes c.loop-object.text) c.loop-object.ahead)
    (drop_all c.loop-object.object-index found (omega (arith, c.loop-object-test.false))) c.loop-object.invariant)

use Rattle.erd_normal.proofs.Common.{◌++◌, ap, ◌∙◌, subst, on_ok_weaker, view, role, IsTree, class_of_object, IsAccepted, put_in, normal_object_with}
use Rattle.erd_normal.proofs.Common.{envelope_values, value_tokens, written_report_value}
use Rattle.erd_normal.proofs.view.WrittenViews.{written_is_view}
use Rattle.erd_normal.proofs.texts.DueTokens.{put_envelope}
use Rattle.erd_normal.proofs.report.report_text.write_report.Goals as goal

pub returns : goal.returns
returns c =
    let t = view c.args.writer.now.tree in
    let is = ap view c.requires.root in
    let accepted : IsAccepted c.args.writer.now.prefer t = subst (IsAccepted c.args.writer.now.prefer) is c.requires.accepted in
    let tree : IsTree t = subst IsTree is c.requires.is_tree in
    let same =
    ap (λ x. put_in envelope_values (normal_object_with (written_report_value c.args.writer.now.prefer t) (class_of_object role.Report x) x)) is
    ∙ (put_envelope (normal_object_with (written_report_value c.args.writer.now.prefer t) (class_of_object role.Report t) t)
    ∙ written_is_view c.args.writer.now.prefer t accepted tree) in
    on_ok_weaker c.write_object.result (λ written. written ∙ ap (λ d. c.args.out.now ++ value_tokens d) same) c.write_object.ensures

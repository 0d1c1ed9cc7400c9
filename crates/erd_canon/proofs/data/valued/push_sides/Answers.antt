use Rattle.erd_canon.proofs.Common.{◌++◌, ◌-◌, ap, ◌∙◌, codes, take, option_copied, comma_if}
use Rattle.erd_canon.specs.code.ValuedTexts.{have_both, side_text}
use Rattle.erd_canon.proofs.data_values.ValuedTexts.{five_pieces}
use Rattle.erd_canon.proofs.data.valued.push_sides.Goals as goal

pub returns : goal.returns
returns c =
    let l = option_copied c.args.left in
    let r = option_copied c.args.right in
    five_pieces _ c.extend_from_slice.new.self.items c.push_side.new.text.items c.push_comma.new.text.items c.push_side-2.new.text.items
    c.extend_from_slice-2.new.self.items
    (codes ",\"values\":{") (side_text (codes "\"left\":") l) (comma_if (have_both l r)) (side_text (codes "\"right\":") r) (codes "}}")
    (c.in_ok-extend_from_slice.ensures.items ∙ ap (λ t. t ++ codes ",\"values\":{")
    (c.truncate.ensures.items ∙ ap (λ n. take n c.args.text.now.items)
    (c.saturating_sub-last.ensures ∙ ap (λ n. n - 1) (c.len.ensures ∙ c.args.text.now.ok.0))))
    c.in_ok-push_side.ensures
    (c.in_ok-push_comma.ensures ∙ ap (λ b. c.push_side.new.text.items ++ comma_if b) c.have_both.ensures) c.in_ok-push_side-2.ensures
    c.in_ok-extend_from_slice-2.ensures.items

use Rattle.erd_shown.proofs.Common.{◌++◌, codes, string_bytes, ap, ◌∙◌, family, view, on_ok_weaker}
use Rattle.erd_shown.proofs.LineLaws.{two_pieces}
use Rattle.erd_shown.specs.BallotLines.{line_unless, lines_text}
use Rattle.erd_shown.specs.code.Pairs.{has_same_voters_in}
use Rattle.erd_shown.proofs.differing_voters.push_voters.Goals as goal

pub returns : goal.returns
returns c =
    let pair = c.args.pair.now in
    let d = view c.args.style.now in
    let e = view c.args.other.now in
    let old = string_bytes c.args.text.now in
    let one = string_bytes c.append_unless.new.text in
    let parties = has_same_voters_in pair family.Party (codes "PartyIds") d e in
    let units = has_same_voters_in pair family.Unit (codes "GpUnitIds") d e in
    on_ok_weaker c.append_unless-2.result
    (λ last.
    two_pieces old one (string_bytes c.append_unless-2.new.text) (line_unless parties (codes "  changed parties")) (line_unless units (codes "  changed units"))
    (c.in_ok-append_unless.ensures ∙ ap (λ so. old ++ lines_text (line_unless so (codes "  changed parties"))) c.in_ok-parties.ensures)
    (last ∙ ap (λ so. one ++ lines_text (line_unless so (codes "  changed units"))) c.in_ok-units.ensures))
    c.append_unless-2.ensures

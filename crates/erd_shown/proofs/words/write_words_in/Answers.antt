use Rattle.erd_shown.proofs.Common.{◌++◌, sym, ap, ◌∙◌, option_map_or, view, member, members_view, Entry, members_tokens}
use Rattle.erd_text.proofs.WholeValues.{whole_first, whole_rest}
use Rattle.erd_shown.specs.Shown.{shown_members}
use Rattle.erd_shown.specs.BallotWords.{word_value}
use Rattle.erd_shown.proofs.Written.{told_one}
use Rattle.erd_shown.proofs.words.write_words_in.Goals as goal

pub loop-name-preserved : goal.loop-name-preserved
loop-name-preserved c whole =
    let entry : Entry = (c.in-Some.name.now, c.in-Some.member.now) in
    let before = c.loop-name.invariant whole in
    let left = c.loop-name.name-iterator in
    let rest = c.next.new.self in
    let name = c.as_str-name.result.now in
    let d = view c.in-Some.member.now in
    let f = word_value c.args.report.now.prefer (view c.args.report.now.tree) c.args.class in
    let ms = shown_members f (members_view rest) in (
      whole_rest left rest entry c.in-Some.ensures.steps before.0,
      told_one name (f name d) ms c.loop-name.out c.write_word.new.out _
          (c.in_ok-write_word.ensures (whole_first left rest entry c.in-Some.ensures.steps before.0))
          (ap (λ n. c.loop-name.out ++ members_tokens (option_map_or (λ v. member n v ms) (f n d) ms)) c.as_str-name.ensures.value
          ∙ (ap (λ es. c.loop-name.out ++ members_tokens (shown_members f (members_view es))) (sym c.in-Some.ensures.steps)
          ∙ before.1)),
    )

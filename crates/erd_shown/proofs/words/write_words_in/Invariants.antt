use Rattle.erd_shown.proofs.Common.{◌≡◌, ◌++◌, false, view, members_view, members_have_float, members_tokens}
use Rattle.erd_shown.specs.Shown.{shown_members}
use Rattle.erd_shown.specs.BallotWords.{word_value}
use Rattle.erd_shown.proofs.words.write_words_in.Given as goal

abbrev pub invariant-loop-name : goal.invariant-loop-name
invariant-loop-name l =
    members_have_float (members_view l.members.entries) ≡ false
    → (members_have_float (members_view l.name-iterator) ≡ false)
    × (l.out ++ members_tokens (shown_members (word_value l.report.prefer (view l.report.tree) l.class) (members_view l.name-iterator))
    ≡ l.initial.out ++ members_tokens (shown_members (word_value l.report.prefer (view l.report.tree) l.class) (members_view l.members.entries)))

use Rattle.erd_canon.proofs.Common.{ℕ, List, [], Option, unwrap_or, refl, ap, ◌∙◌, Bor, found_of}
use Rattle.clap.proofs.WalkLemmas.{first_value-rows}
use Rattle.erd_canon.proofs.lines.PlainWords.{text_or}
use Rattle.erd_canon.proofs.commands.words.file_name.Goals as goal

pub returns : goal.returns
returns c =
    c.of.ensures ∙ c.in_ok-name.ensures.ok ∙ ap (λ (s : Bor (List ℕ)). s.now) c.unwrap_or.ensures ∙ text_or c.get_str.result _ refl
    ∙ ap (λ (o : Option (List ℕ)). unwrap_or o []) (c.get_str.ensures ∙ first_value-rows (found_of c.args.matches.now) c.args.id.now)

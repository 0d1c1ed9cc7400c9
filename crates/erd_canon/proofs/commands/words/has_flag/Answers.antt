use Rattle.erd_canon.proofs.Common.{ℕ, List, [], codes, bytes_eq, Option, unwrap_or, refl, ap, ◌∙◌, Bor, found_of}
use Rattle.clap.proofs.WalkLemmas.{first_value-rows}
use Rattle.erd_canon.proofs.lines.PlainWords.{text_or}
use Rattle.erd_canon.proofs.commands.words.has_flag.Goals as goal

pub returns : goal.returns
returns c =
    let word = ap (λ (s : Bor (List ℕ)). s.now) c.unwrap_or.ensures ∙ text_or c.get_str.result _ refl
    ∙ ap (λ (o : Option (List ℕ)). unwrap_or o []) (c.get_str.ensures ∙ first_value-rows (found_of c.args.matches.now) c.args.id.now) in
    c.eq.ensures ∙ ap (λ (text : List ℕ). bytes_eq text (codes "true")) word

use Rattle.erd_canon.proofs.Common.{◌≡◌, ℕ, List, Some, Option, option_map, sym, ap, ◌∙◌, Bor, found_of, first_of, rows_of}
use Rattle.clap.proofs.WalkLemmas.{first_value-rows}
use Rattle.erd_canon.proofs.commands.words.option_text.Goals as goal

-- the text behind the reference, if there is one
abbrev text_of : Option (Bor (List ℕ)) → Option (List ℕ)
text_of = option_map (λ s. s.now)

pub returns-in_ok-from_str-in-Some : goal.returns-in_ok-from_str-in-Some
returns-in_ok-from_str-in-Some c =
    let found : text_of c.get_str.result ≡ first_of c.args.id.now (rows_of (found_of c.args.matches.now)) =
    c.get_str.ensures ∙ first_value-rows (found_of c.args.matches.now) c.args.id.now in
    ap Some (c.of.ensures ∙ c.in_ok-from_str-in-Some.ensures.ok) ∙ ap text_of (sym c.in-Some.is) ∙ found

pub returns-in-None : goal.returns-in-None
returns-in-None c =
    let found : text_of c.get_str.result ≡ first_of c.args.id.now (rows_of (found_of c.args.matches.now)) =
    c.get_str.ensures ∙ first_value-rows (found_of c.args.matches.now) c.args.id.now in
    ap text_of (sym c.in-None.is) ∙ found

use Rattle.erd_meaning.proofs.Common.{◌≡◌, Some, None, Option, option_map, sym, refl, ap, ◌∙◌, Data, view, Preference, selection_in, NameParts, ranked_name}
use Rattle.erd_meaning.proofs.Common.{PlacedName, NumberedName}
use Rattle.erd_meaning.proofs.report.Report.selection_at.Goals as goal

-- a name without its ranks
abbrev plain : PlacedName → NumberedName
plain s = (s.0, s.1.name)

plain_again : (π : Preference) (t : Data) (o : Option NumberedName) → option_map plain (option_map (λ s. (s.0, ranked_name π t s.1)) o) ≡ o
plain_again π t None = refl
plain_again π t (Some s) = refl

pub returns : goal.returns
returns c =
    let π = c.args.self.now.prefer in
    let t = view c.args.self.now.tree in
    ap (λ (n : NameParts). option_map (λ (m : NameParts). (c.in_ok-contest.contest, m)) (Some n)) c.name.ensures
    ∙ ap (option_map plain) (sym (ap (option_map (λ s. (s.0, s.1.now))) c.in_ok-contest.was) ∙ c.ranked_name_at.ensures)
    ∙ plain_again π t (selection_in π t c.args.index)

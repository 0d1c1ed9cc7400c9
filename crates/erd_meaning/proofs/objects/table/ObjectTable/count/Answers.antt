use Rattle.erd_meaning.proofs.Common.{List, map, length, ap, ◌∙◌, those_of, shown, HeldObjects}
use Rattle.erd_meaning.proofs.finding.Pushed.{places_length}
use Rattle.erd_meaning.proofs.objects.table.ObjectTable.count.Goals as goal

pub returns : goal.returns
returns c =
    let ks = map shown c.self.inside.objects.items in
    ap length (c.of.ensures ∙ c.self.invariant.places_are c.args.family) ∙ places_length c.args.family 0 ks
    ∙ ap (λ (os : HeldObjects). length (those_of c.args.family (map shown os.objects))) c.self.view_is

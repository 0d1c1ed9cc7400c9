use Rattle.erd_meaning.proofs.Common.{Bool, List, map, ap, ◌∙◌, get_by, Family, is_salted_owned, number_of_key, shown, Key, Salted, HeldObjects}
use Rattle.erd_meaning.proofs.finding.Pushed.{owned_asked}
use Rattle.erd_meaning.proofs.objects.table.ObjectTable.position_of_key.Goals as goal

pub returns : goal.returns
returns c =
    c.copied.ensures ∙ c.get.ensures.value
    ∙ ap (λ (test : Salted (Family × Key) → Bool). get_by test c.self.inside.keys)
    (owned_asked c.self.inside.salt c.number-number.result c.args.family c.of_key-key.result c.number-number.ensures)
    ∙ ap (λ (k : Key). get_by (is_salted_owned c.self.inside.salt (c.args.family, k)) c.self.inside.keys) c.of_key-key.ensures
    ∙ c.self.invariant.keys_are c.args.family c.args.key.now
    ∙ ap (λ (os : HeldObjects). number_of_key (map shown os.objects) c.args.family c.args.key.now) c.self.view_is

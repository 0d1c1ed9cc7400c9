use Rattle.erd_meaning.proofs.Common.{◌≡◌, ℕ, List, map, slice_get, Some, None, Option, option_map, option_and_then, sym, ap, ◌∙◌, Family, family_chosen}
use Rattle.erd_meaning.proofs.Common.{key_among, number_among, those_of, Kept, ranked_key, shown, HeldObjects}
use Rattle.erd_meaning.proofs.finding.Found.{object_numbered}
use Rattle.erd_meaning.proofs.objects.ranked_objects.RankedObjects.key_referred.Goals as goal

-- the key of the object at a position that is found by an `@id`
key_numbered : (ks : List Kept) (f : Family) (id : List ℕ) (o : Option ℕ) → number_among ks f id ≡ o → option_and_then (λ (k : Kept). k.key)
    (option_and_then (slice_get (those_of f ks)) o) ≡ key_among ks f id
key_numbered ks f id o e = ap (option_and_then (λ (k : Kept). k.key)) (ap (option_and_then (slice_get (those_of f ks))) (sym e) ∙ object_numbered ks f id)

pub returns-in_err-index : goal.returns-in_err-index
returns-in_err-index c =
    let ks = map shown c.args.self.now.objects in
    let f = family_chosen c.args.class in
    let id = c.in_ok-as_str.field-0.now in
    let found : number_among ks f id ≡ None =
    ap (λ g. number_among ks g id) (sym c.family_chosen-family.ensures)
    ∙ ap (λ (os : HeldObjects). number_among (map shown os.objects) c.family_chosen-family.result id) (sym c.self.view_is)
    ∙ sym c.position_in.ensures ∙ c.in_err-index.was in
    ap (option_map (λ r. (r.0, r.1.now))) c.from_residual-in_err-index.ensures
    ∙ ap (option_map (ranked_key ks f)) (key_numbered ks f id None found ∙ ap (option_and_then (key_among ks f)) c.in_ok-as_str.ensures)

pub returns : goal.returns
returns c =
    let ks = map shown c.args.self.now.objects in
    let f = family_chosen c.args.class in
    let id = c.in_ok-as_str.field-0.now in
    let i = c.in_ok-index.index in
    let found : number_among ks f id ≡ Some i =
    ap (λ g. number_among ks g id) (sym c.family_chosen-family.ensures)
    ∙ ap (λ (os : HeldObjects). number_among (map shown os.objects) c.family_chosen-family.result id) (sym c.self.view_is)
    ∙ sym c.position_in.ensures ∙ c.in_ok-index.was in
    c.ranked_at.ensures ∙ ap (option_map (ranked_key ks f)) (key_numbered ks f id (Some i) found ∙ ap (option_and_then (key_among ks f)) c.in_ok-as_str.ensures)

use Rattle.erd_meaning.proofs.Common.{◌≡◌, ℕ, List, map, length, slice_get, Some, None, option_map, option_and_then, sym, refl, ap, ◌∙◌, arith, slice_get-map}
use Rattle.erd_meaning.proofs.Common.{slice_get_read, slice_get_past, those_of, shown, HeldObjects, Object}
use Rattle.erd_meaning.proofs.finding.Pushed.{places_get}
use Rattle.erd_meaning.proofs.objects.table.ObjectTable.get.Goals as goal

pub returns-in_err-place : goal.returns-in_err-place
returns-in_err-place c =
    let os = c.self.inside.objects.items in
    let list = c.of.ensures ∙ c.self.invariant.places_are c.args.family in
    let past : slice_get c.of.result.now c.args.index ≡ None = slice_get_past c.of.result.now c.args.index (omega (arith, c.in_err-place.ensures.lookup)) in
    ap (option_map (λ o. shown o.now)) c.from_residual.ensures
    ∙ sym (ap (option_and_then (slice_get (map shown os))) (sym (ap (λ (ps : List ℕ). slice_get ps c.args.index) list) ∙ past))
    ∙ places_get c.args.family (map shown os) c.args.index
    ∙ ap (λ (os : HeldObjects). slice_get (those_of c.args.family (map shown os.objects)) c.args.index) c.self.view_is

pub returns-in_err-object : goal.returns-in_err-object
returns-in_err-object c =
    let os = c.self.inside.objects.items in
    let list = c.of.ensures ∙ c.self.invariant.places_are c.args.family in
    let n = c.in_ok-place.field-0.now in
    let place : slice_get c.of.result.now c.args.index ≡ Some n =
    slice_get_read c.of.result.now (length c.of.result.now) c.args.index n refl c.in_ok-place.ensures.lookup.3.0 c.in_ok-place.ensures.lookup.1 in
    let past : slice_get os n ≡ None = ap (λ (os : List Object). slice_get os n) (sym c.deref.ensures.value) ∙ slice_get_past c.deref.result.now n
    (omega (arith, c.in_err-object.ensures.lookup)) in
    ap (option_map (λ o. shown o.now)) c.from_residual-in_err-object.ensures ∙ sym (slice_get-map shown os n ∙ ap (option_map shown) past)
    ∙ sym (ap (option_and_then (slice_get (map shown os))) (sym (ap (λ (ps : List ℕ). slice_get ps c.args.index) list) ∙ place))
    ∙ places_get c.args.family (map shown os) c.args.index
    ∙ ap (λ (os : HeldObjects). slice_get (those_of c.args.family (map shown os.objects)) c.args.index) c.self.view_is

pub returns : goal.returns
returns c =
    let os = c.self.inside.objects.items in
    let list = c.of.ensures ∙ c.self.invariant.places_are c.args.family in
    let n = c.in_ok-place.field-0.now in
    let o = c.in_ok-object.object.now in
    let place : slice_get c.of.result.now c.args.index ≡ Some n =
    slice_get_read c.of.result.now (length c.of.result.now) c.args.index n refl c.in_ok-place.ensures.lookup.3.0 c.in_ok-place.ensures.lookup.1 in
    let there : slice_get os n ≡ Some o =
    ap (λ (os : List Object). slice_get os n) (sym c.deref.ensures.value)
    ∙ slice_get_read c.deref.result.now (length c.deref.result.now) n o refl c.in_ok-object.ensures.lookup.3.0 c.in_ok-object.ensures.lookup.1 in
    sym (slice_get-map shown os n ∙ ap (option_map shown) there)
    ∙ sym (ap (option_and_then (slice_get (map shown os))) (sym (ap (λ (ps : List ℕ). slice_get ps c.args.index) list) ∙ place))
    ∙ places_get c.args.family (map shown os) c.args.index
    ∙ ap (λ (os : HeldObjects). slice_get (those_of c.args.family (map shown os.objects)) c.args.index) c.self.view_is

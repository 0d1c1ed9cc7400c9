use Rattle.erd_shown.proofs.Common.{◌≡◌, ◌++◌, ℕ, Some, Option, option_and_then, option_map_or, option_map-Some, slice_get, sym, ap, ◌∙◌, on_ok_weaker}
use Rattle.erd_shown.proofs.Common.{Data, null, view, value_tokens, family, role, Preference, Key, key_of, Placed, objects}
use Rattle.erd_meaning.specs.Lookups.{key_in}
use Rattle.erd_shown.specs.Ballots.{ballot_data, ballot_in, keyed_ballot}
use Rattle.erd_shown.specs.Shown.{holder_key}
use Rattle.erd_shown.proofs.ballots.write_ballot.Goals as goal

-- the ballot of a style that stands at a position
standing : (π : Preference) (t : Data) (i : ℕ) (o : Placed) (election key : Option Key) (d : Data) → slice_get (objects family.Style t) i ≡ Some o
    → o.value ≡ d → election ≡ holder_key π t (role.OfFamily family.Style) o → key ≡ key_in π family.Style t i
    → keyed_ballot π t election key d ≡ ballot_in π t i
standing π t i o election key d there is held keyed =
    let told : ballot_in π t i ≡ ballot_data π t o = ap (λ x. option_map_or (ballot_data π t) x null) there in
    let its : key ≡ key_of π o.value = keyed ∙ ap (λ x. option_and_then (λ (o : Placed). key_of π o.value) x) there in
    let own : d ≡ o.value = sym is in
    let whole : keyed_ballot π t election key d ≡ ballot_data π t o = λ x. keyed_ballot π t (held x) (its x) (own x) in
    whole ∙ sym told

pub returns-in-Some : goal.returns-in-Some
returns-in-Some c =
    let π = c.args.report.now.prefer in
    let t = view c.args.report.now.tree in
    let i = c.args.position in
    let o = option_map-Some (λ (o : Placed). o.value) (slice_get (objects family.Style t) i) (view c.in-Some.style.now) (sym c.in-Some.ensures) in
    let held = c.holder-election.ensures o.0 o.1 in
    on_ok_weaker c.write_held.result
    (λ wrote.
    wrote
    ∙ ap (λ d. c.args.out.now ++ value_tokens d) (standing π t i o.0 _ _ (view c.in-Some.style.now) o.1 o.2 held c.key_at-key.ensures))
    c.write_held.ensures

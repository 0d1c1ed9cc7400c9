use Rattle.erd_meaning.proofs.Common.{◌≡◌, List, map, drop, option_copied, view, Value, triple_of, choice_of}
use Rattle.erd_meaning.proofs.keys.key_of.chosen_triple.Given as goal

abbrev pub invariant-loop-identifier : goal.invariant-loop-identifier
invariant-loop-identifier l =
    let triples = λ (vs : List Value). map triple_of (map view vs) in
    let π = option_copied l.prefer in
    choice_of π l.chosen (triples (drop l.identifier-index l.rest)) ≡ choice_of π l.initial.chosen (triples l.rest)

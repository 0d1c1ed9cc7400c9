-- All names that were found are all at which the objects differ.
use Rattle.erd_compare.proofs.Common.{[], ◌≡◌, ℕ, List, ◌∷◌, ◌++◌, map, Option, option_map, Some, None, true≢false, sym, ap, ◌∙◌, subst, rules, view}
use Rattle.erd_compare.proofs.Common.{map-append, absent_member}
use Rattle.erd_compare.specs.code.DifferingNames.{AreFound, AreNames, GoesOn}
use Rattle.erd_compare.proofs.differing.RecordWays.{all_names, first_name}
use Rattle.erd_compare.proofs.differing.Walks.{goes_on, ones, others, stand_on}
use Rattle.erd_compare.proofs.objects.records.differing_members.Goals.{In_ok-name}
use Rattle.erd_compare.proofs.objects.records.differing_members.Goals as goal

-- one step of the walk over what the objects mean under each name
step : (c : In_ok-name) (o : Option (List ℕ)) → option_map (λ s. s.now) c.in_ok-name.field-0 ≡ o
    → GoesOn (ones c.args.comparer.now.left c.args.comparer.now.right (view c.args.one.value.now) (view c.args.other.value.now) c.args.class)
    (others c.args.comparer.now.left c.args.comparer.now.right (view c.args.one.value.now) (view c.args.other.value.now) c.args.class)
    (map (λ s. s.now) c.loop-found.found.items) c.next_differing.new.self o
step c o is =
    goes_on c.args.comparer.now.left c.args.comparer.now.right (view c.args.one.value.now) (view c.args.other.value.now) c.args.class _
    (λ pair answer h. search rules) c.loop-found.left c.next_differing.new.self (option_map (λ s. s.now) c.in_ok-name.field-0) o
    c.loop-found.invariant.stand.one c.loop-found.invariant.stand.other c.in_ok-name.ensures.next is (map (λ s. s.now) c.loop-found.found.items)
    c.loop-found.invariant.left

pub loop-found-init : goal.loop-found-init
loop-found-init c =
    let a = c.args.comparer.now.left in
    let b = c.args.comparer.now.right in
    let d = view c.args.one.value.now in
    let e = view c.args.other.value.now in
    record {
      stand = c.in-Some.ensures.stand;
      none = λ not_all. c.new-found.ensures.items;
      left = subst (λ xs. AreFound (ones a b d e c.args.class) (others a b d e c.args.class) (map (λ s. s.now) xs) c.in-Some.left)
          (sym c.new-found.ensures.items)
          (c.in-Some.ensures.left _ _ (absent_member a.prefer (view a.tree) d c.args.class) (absent_member b.prefer (view b.tree) e c.args.class));
    }

pub loop-found-preserved : goal.loop-found-preserved
loop-found-preserved c =
    let mine = ones c.args.comparer.now.left c.args.comparer.now.right (view c.args.one.value.now) (view c.args.other.value.now) c.args.class in
    let its = others c.args.comparer.now.left c.args.comparer.now.right (view c.args.one.value.now) (view c.args.other.value.now) c.args.class in
    let old = c.loop-found.left in
    let new = c.next_differing.new.self in
    record {
      stand = stand_on (view c.args.one.value.now) (view c.args.other.value.now) (view old.one.now) (view old.other.now) new c.loop-found.invariant.stand.one
          c.loop-found.invariant.stand.other c.in_ok-name.ensures.stand;
      none = λ not_all. absurd (true≢false (sym c.if-not-all.false ∙ not_all));
      left = subst (λ xs. AreFound mine its xs new)
          (sym (ap (map (λ s. s.now)) c.in_ok-push.ensures.items ∙ map-append (λ s. s.now) c.loop-found.found.items (c.in-Some-2.name ∷ [])))
          (step (goal.at.loop-found-preserved c).In_ok-name (Some c.in-Some-2.name.now) (ap (option_map (λ s. s.now)) c.in-Some-2.is));
    }

pub returns-then-not-all : goal.returns-then-not-all
returns-then-not-all c =
    let mine = ones c.args.comparer.now.left c.args.comparer.now.right (view c.args.one.value.now) (view c.args.other.value.now) c.args.class in
    let its = others c.args.comparer.now.left c.args.comparer.now.right (view c.args.one.value.now) (view c.args.other.value.now) c.args.class in
    let name = c.in-Some-2.name in
    let nothing : c.loop-found.found.items ≡ [] = c.loop-found.invariant.none c.if-not-all.true in
    subst (λ xs. AreNames c.args.all mine its (map (λ s. s.now) xs)) (sym (c.in_ok-push.ensures.items ∙ ap (λ xs. xs ++ (name ∷ [])) nothing))
    (first_name mine its c.args.all name.now _ _ c.if-not-all.true
    (subst (λ xs. AreFound mine its (map (λ s. s.now) xs ++ (name.now ∷ [])) c.next_differing.new.self) nothing
    (step (goal.at.returns-then-not-all c).In_ok-name (Some name.now) (ap (option_map (λ s. s.now)) c.in-Some-2.is))))

pub returns : goal.returns
returns c = all_names _ _ c.args.all _ (step (goal.at.returns c).In_ok-name None (ap (option_map (λ s. s.now)) c.in_default-2.is))

use Rattle.erd_compare.proofs.Common.{◌≡◌, ◌<◌, Bool, Some, None, Ok, get, option_map, subst, view, names_left, first_of, lesser_name, IsPairOf, MemberPair}
use Rattle.erd_compare.proofs.Common.{arith}
use Rattle.erd_compare.specs.code.DifferingNames.{StandInPair, count_left}
use Rattle.erd_compare.specs.declared.objects.differing_names.PairsLeft.{PairsLeft}
use Rattle.erd_compare.proofs.differing.Walks.{differs, ended, passed, fewer, firsts_left}
use Rattle.erd_compare.proofs.objects.differing_names.PairsLeft.next_differing.Given.{Over}
use Rattle.erd_compare.proofs.objects.differing_names.PairsLeft.next_differing.Goals.{After-pass-in-Some}
use Rattle.erd_compare.proofs.objects.differing_names.PairsLeft.next_differing.Goals as goal

-- the next name, and the pair that stands there
next : (g : Over) (c : After-pass-in-Some g) → lesser_name (first_of (names_left c.loop-name.self.ones)) (first_of (names_left c.loop-name.self.others))
    ≡ Some c.in-Some.name.now
next g c =
    firsts_left c.first_name.result c.first_name-in-loop-name.result (names_left c.loop-name.self.ones) (names_left c.loop-name.self.others)
    (Some c.in-Some.name.now) c.first_name.ensures c.first_name-in-loop-name.ensures c.in-Some.ensures

abbrev pair_of : (g : Over) → After-pass-in-Some g → MemberPair
pair_of g c = record { name = c.in-Some.name; one = c.value_in.result; other = c.value_in-in-Some.result }

there : (g : Over) (c : After-pass-in-Some g) → IsPairOf (view c.args.self.now.one.now) (view c.args.self.now.other.now) (pair_of g c)
there g c = record {
  one = subst (λ x. option_map (λ v. view v.now) c.value_in.result ≡ get c.in-Some.name.now x) c.loop-name.invariant.stand.one c.value_in.ensures;
  other = subst (λ x. option_map (λ v. view v.now) c.value_in-in-Some.result ≡ get c.in-Some.name.now x) c.loop-name.invariant.stand.other
      c.value_in-in-Some.ensures;
}

-- what is left behind it
abbrev left_behind : (g : Over) → After-pass-in-Some g → PairsLeft
left_behind g c = record c.loop-name.self { ones = c.pass.new.self; others = c.pass-in-Some.new.self }

low : (g : Over) (c : After-pass-in-Some g) → count_left (left_behind g c) < count_left c.loop-name.self
low g c = fewer (names_left c.loop-name.self.ones) (names_left c.loop-name.self.others) c.in-Some.name.now (next g c) (names_left c.pass.new.self)
    (names_left c.pass-in-Some.new.self) c.pass.ensures.names c.pass-in-Some.ensures.names

stand : (g : Over) (c : After-pass-in-Some g) → StandInPair (view c.args.self.now.one.now) (view c.args.self.now.other.now) (left_behind g c)
stand g c = record {
  one = c.loop-name.invariant.stand.one;
  other = c.loop-name.invariant.stand.other;
  ones = c.pass.ensures.members (view c.args.self.now.one.now) c.loop-name.invariant.stand.ones;
  others = c.pass-in-Some.ensures.members (view c.args.self.now.other.now) c.loop-name.invariant.stand.others;
}

pub returns-then-not-same-clause-stand : goal.returns-then-not-same-clause-stand
returns-then-not-same-clause-stand g c = stand g (goal.at.returns-then-not-same-clause-stand g c).After-pass-in-Some

pub returns-then-not-same-clause-next : goal.returns-then-not-same-clause-next
returns-then-not-same-clause-next g c m n found of_one of_other decided given =
    let here = (goal.at.returns-then-not-same-clause-next g c).After-pass-in-Some in
    let answers : MemberPair → Bool → Type 0 = λ pair answer. goal.F-post g c.args.is_same pair (Ok answer) in
    differs answers (view c.args.self.now.one.now) (view c.args.self.now.other.now) m n decided (names_left c.loop-name.self.ones)
    (names_left c.loop-name.self.others) found (c.loop-name.invariant.left m n found of_one of_other decided given) (pair_of g here)
    (next g here) (there g here)
    (names_left c.pass.new.self) (names_left c.pass-in-Some.new.self) c.pass.ensures.names c.pass-in-Some.ensures.names
    (subst (answers (pair_of g here)) c.if-not-same.true c.in_ok-same.ensures)

pub returns-then-not-same-clause-fewer : goal.returns-then-not-same-clause-fewer
returns-then-not-same-clause-fewer g c = omega (arith, low g (goal.at.returns-then-not-same-clause-fewer g c).After-pass-in-Some, c.loop-name.invariant.count)

pub loop-name-smaller : goal.loop-name-smaller
loop-name-smaller g c = low g (goal.at.loop-name-smaller g c).After-pass-in-Some

pub loop-name-preserved : goal.loop-name-preserved
loop-name-preserved g c =
    let here = (goal.at.loop-name-preserved g c).After-pass-in-Some in
    let answers : MemberPair → Bool → Type 0 = λ pair answer. goal.F-post g c.args.is_same pair (Ok answer) in
    record {
      stand = stand g here;
      count = omega (arith, low g here, c.loop-name.invariant.count);
      left = λ m n found of_one of_other decided given.
          passed answers (view c.args.self.now.one.now) (view c.args.self.now.other.now) m n decided (names_left c.loop-name.self.ones)
          (names_left c.loop-name.self.others) found (c.loop-name.invariant.left m n found of_one of_other decided given) (pair_of g here)
          (next g here) (there g here)
          (names_left c.pass.new.self) (names_left c.pass-in-Some.new.self) c.pass.ensures.names c.pass-in-Some.ensures.names
          (subst (answers (pair_of g here)) c.if-not-same.false c.in_ok-same.ensures);
    }

pub returns-clause-next : goal.returns-clause-next
returns-clause-next g c m n found of_one of_other decided given =
    ended (λ pair answer. goal.F-post g c.args.is_same pair (Ok answer)) (view c.args.self.now.one.now) (view c.args.self.now.other.now) m n decided _ _ found
    (c.loop-name.invariant.left m n found of_one of_other decided given)
    (firsts_left c.first_name.result c.first_name-in-loop-name.result _ _ None c.first_name.ensures c.first_name-in-loop-name.ensures c.in_default.ensures)

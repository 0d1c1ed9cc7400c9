use Rattle.erd_compare.proofs.Common.{refl, sym, ap, subst, view, members_view, names, AreMembersOf}
use Rattle.erd_compare.proofs.differing.Walks.{all_members, both_left}
use Rattle.erd_compare.proofs.objects.differing_names.PairsLeft.of.Goals as goal

pub returns-clause-stand : goal.returns-clause-stand
returns-clause-stand c =
    let d = view c.args.one.now in
    let e = view c.args.other.now in
    record {
      one = refl;
      other = refl;
      ones = subst (AreMembersOf d) (sym c.of-ones.ensures)
          (all_members d (members_view c.in-Some-Some.ones.now.entries) c.requires.one c.in-Some-Some.ensures);
      others = subst (AreMembersOf e) (sym c.of-others.ensures)
          (all_members e (members_view c.in-Some-Some.others.now.entries) c.requires.other c.in-Some-Some.ensures');
    }

pub returns-clause-left : goal.returns-clause-left
returns-clause-left c =
    both_left (view c.args.one.now) (view c.args.other.now) (members_view c.in-Some-Some.ones.now.entries) (members_view c.in-Some-Some.others.now.entries)
    c.requires.one c.requires.other c.in-Some-Some.ensures c.in-Some-Some.ensures'
    _ _ (ap names c.of-ones.ensures) (ap names c.of-others.ensures)

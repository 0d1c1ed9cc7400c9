-- The report of one unit as bytes: it is accepted, these are its canonical bytes, and the engines write these texts.
use Rattle.erd_canon.proofs.Common.{[], None, codes, sym, refl, inl, inr, digits, serde_json_on_literals, IsTreeOf, IsAcceptedReport, IsCanonicalBytes}
use Rattle.erd_canon.proofs.Common.{IsCheckText, IsCanonicalOutput, IsCanonicalErrors, IsCompareText, IsComparison}
use Rattle.erd_check.proofs.Reports.{one_unit, tree_of}
use Rattle.erd_meaning.proofs.examples.RefusedExamples.{one_unit_is_accepted}
use Rattle.erd_normal.proofs.examples.CanonicalReports.{form_of_one_unit, one_unit_canonical}

pub tree_of_one_unit : IsTreeOf one_unit (tree_of one_unit)
unfolding serde_json_on_literals
tree_of_one_unit = ((one_unit, (refl, refl)), refl)

tree_of_canonical : IsTreeOf one_unit_canonical (tree_of one_unit_canonical)
unfolding serde_json_on_literals
tree_of_canonical = ((one_unit_canonical, (refl, refl)), refl)

accepted : IsAcceptedReport None one_unit (tree_of one_unit)
accepted = record { read = tree_of_one_unit; accepted = one_unit_is_accepted }

canonical_accepted : IsAcceptedReport None one_unit_canonical (tree_of one_unit_canonical)
canonical_accepted = record { read = tree_of_canonical; accepted = form_of_one_unit.canonical.accepted }

canonical_bytes : IsCanonicalBytes None one_unit one_unit_canonical
unfolding serde_json_on_literals digits
canonical_bytes = record {
  report = tree_of one_unit;
  is_accepted = accepted;
  tree = tree_of one_unit_canonical;
  is_canonical = form_of_one_unit;
  written = refl;
  reads_back = tree_of_canonical;
}

-- canonical bytes are their own
own_form : IsCanonicalBytes None one_unit_canonical one_unit_canonical
unfolding serde_json_on_literals digits
own_form =
    let form = tree_of one_unit_canonical in
    record {
      report = form;
      is_accepted = canonical_accepted;
      tree = form;
      is_canonical = record { canonical = form_of_one_unit.canonical; same = refl };
      written = refl;
      reads_back = tree_of_canonical;
    }

checked : IsCheckText None one_unit (codes "accepted\n")
checked = inl (tree_of one_unit, accepted, refl)

written : IsCanonicalOutput None one_unit one_unit_canonical
written = inl canonical_bytes

no_errors : IsCanonicalErrors None one_unit []
no_errors = inl (tree_of one_unit, accepted, refl)

-- the report and its canonical form mean the same
comparison : IsComparison None one_unit one_unit_canonical None
comparison = record {
  left_tree = tree_of one_unit;
  right_tree = tree_of one_unit_canonical;
  left_accepted = accepted;
  right_accepted = canonical_accepted;
  difference = sym form_of_one_unit.same;
}

compared : IsCompareText None one_unit one_unit_canonical (codes "same\n")
compared = inr (inr (None, comparison, refl))

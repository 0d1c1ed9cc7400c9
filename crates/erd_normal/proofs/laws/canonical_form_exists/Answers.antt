use Rattle.erd_normal.specs.code.View.{style_of, whole}
use Rattle.erd_normal.proofs.view.CanonicalStyles.{viewed_tree}
use Rattle.erd_normal.proofs.view.ViewForms.{form_written, no_deeper_form}
use Rattle.erd_normal.proofs.laws.canonical_form_exists.Goals as goal

pub returns : goal.returns
returns c = record {
  law = λ π t given accepted.
      record {
        form = whole (style_of π t) t;
        is_tree = viewed_tree π t given.is_tree;
        is_form = form_written π t accepted given.is_tree given.bounded given.fits;
        no_deeper = no_deeper_form π t;
      };
}

use Rattle.erd_canon.proofs.Common.{string_bytes, sym, subst, refl, view, Preference}
use Rattle.erd_shown.specs.RowData.{IsBesideText}
use Rattle.erd_canon.proofs.data.ballot_pairs.told_beside.Goals as goal

pub returns : goal.returns
returns c =
    let left = c.args.left.now in (
      refl,
      subst (λ (σ : Preference). IsBesideText left.prefer (view left.tree) c.args.one σ (view c.args.right.now.tree) c.args.other
          (string_bytes c.in_ok-text.text)) (sym c.requires.one_preference) c.in_ok-text.ensures,
    )

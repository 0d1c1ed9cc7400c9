use Rattle.erd_meaning.proofs.Common.{codes, sym, view}
use Rattle.erd_text.proofs.WholeValues.{whole_get}
use Rattle.erd_meaning.proofs.names.naming.selection_label.Goals as goal

pub label_text-requires : goal.label_text-requires
label_text-requires c = record {
  whole = whole_get (codes "Selection") (view c.args.selection.now) (view c.in-Some.label.now) c.requires.whole (sym c.in-Some.ensures);
}

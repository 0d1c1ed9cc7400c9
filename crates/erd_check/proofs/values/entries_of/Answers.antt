use Rattle.erd_check.proofs.Common.{map, sym, ap, ◌∙◌, view, entries_of}
use Rattle.serde_json.proofs.Views.{view-Array}
use Rattle.erd_check.proofs.Lists.{list_of_items-items_of}
use Rattle.erd_check.proofs.values.entries_of.Goals as goal

pub returns-in-Array : goal.returns-in-Array
returns-in-Array c =
    ap (map view) c.as_slice.ensures.value ∙ sym (list_of_items-items_of (map view c.in-Array.items.items))
    ∙ sym (ap entries_of (ap view c.in-Array.is ∙ view-Array c.in-Array.items))

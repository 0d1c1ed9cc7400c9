use Rattle.erd_canon.proofs.Common.{drop, string_bytes}
use Rattle.erd_canon.specs.code.Fronts.{IsReached}
use Rattle.erd_canon.specs.code.WordTexts.{AnyObject, worded_size, worded_text}
use Rattle.erd_canon.proofs.data.word_pieces.push_entries.Given as goal

abbrev pub invariant-loop-object : goal.invariant-loop-object
invariant-loop-object l =
    IsReached (worded_size l.report) (worded_text l.report) AnyObject l.piece l.objects (string_bytes l.fn.text) (string_bytes l.text) l.ahead
    (drop l.object-index l.objects)

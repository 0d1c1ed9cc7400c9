use Rattle.erd_canon.proofs.Common.{◌-◌, length, vec_len}
use Rattle.erd_canon.specs.declared.devices.source.TheConstants.{MOST_BYTES}
use Rattle.erd_canon.proofs.runs.KnownBytes.{IsFilled}
use Rattle.erd_canon.proofs.devices.source.fill.Given as goal

abbrev pub invariant-reads : goal.invariant-reads
invariant-reads g l = IsFilled MOST_BYTES (length l.chunk) (g.S.Source.reader.has_failed l.source)
    (g.S.Source.reader.reads l.fn.source) (g.S.Source.reader.reads l.source) (g.S.Source.reader.given l.fn.source) (g.S.Source.reader.given l.source)
    (g.S.Source.reader.remaining l.fn.source) (g.S.Source.reader.remaining l.source) l.bytes.items

abbrev pub decreases-reads : goal.decreases-reads
decreases-reads g l = MOST_BYTES - vec_len l.bytes

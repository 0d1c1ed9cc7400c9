-- What a run of each engine does to its devices, one record for each.
use Rattle.std.specs.Prelude.{◌≡◌, ◌≢◌, ◌↔◌, ◌⊎◌, ◌+◌, ◌<◌, ◌≤◌, true, Result, Err, IfOk, IfErr, IsErrOf, OnOk}
use Rattle.std.specs.Io.KnownBytes.{IsAtEnd}
use Rattle.erd_canon.specs.Devices.{BeforeAfter, Reader, Writer}
use Rattle.erd_canon.specs.declared.engines.outcome.Outcome.{Outcome}
use Rattle.erd_canon.specs.declared.engines.outcome.RunFault.{RunFault}
use Rattle.erd_canon.specs.declared.engines.outcome.RunFault.TheVariants.{TooLong, Read, Write}
use Rattle.erd_canon.specs.Limits.{most_bytes, most_reads}
use Rattle.erd_canon.specs.Reading.{Exceeds}
use Rattle.erd_canon.specs.Run.{IsAcceptedInput, IsRefusedInput, IsToldCheck, IsToldCompare, IsToldRun, IsWholeCheck, IsWholeCompare, IsWholeRun}
use Rattle.erd_canon.specs.Writing.{IsBrokenCheck, IsBrokenCompare, IsBrokenRun}
use Rattle.erd_meaning.specs.Keys.{Preference}

-- A report was checked under the preference, with this answer.
pub record IsCheckRun {S O : Type 0} (source : Reader S) (sink : Writer O) (π : Preference) (answer : Result Outcome RunFault) (reader : BeforeAfter S)
    (out : BeforeAfter O) : Type 0 where
  -- What an outcome means.
  pub whole : IfOk answer (λ outcome. IsWholeCheck π most_bytes outcome (source.remaining reader.before) (source.remaining reader.after)
      (sink.contents out.before) (sink.contents out.after))
  pub told : IfOk answer (λ _. IsToldCheck π most_bytes (source.remaining reader.before) (source.remaining reader.after)
      (sink.contents out.before) (sink.contents out.after))
  pub flushed : OnOk answer (sink.is_flushed out.after ≡ true)
  -- If the fault is not `Write`, nothing was written or flushed. If it is, the writer holds a first part of the text.
  pub quiet : IfErr answer (λ fault. fault ≢ Write → out.after ≡ out.before)
  pub broken : answer ≡ Err Write → IsBrokenCheck π most_bytes (source.remaining reader.before) (source.remaining reader.after)
      (sink.contents out.before) (sink.contents out.after)
  -- When each fault is returned.
  pub read : IsErrOf answer Read ↔ (source.has_failed reader.after ≡ true)
  pub write : IsErrOf answer Write ↔ (sink.has_failed out.after ≡ true)
  pub too_long : answer ≡ Err TooLong → Exceeds most_bytes (source.remaining reader.before) (source.remaining reader.after)
  pub too_many : answer ≡ Err TooLong → source.given reader.before + most_bytes < source.given reader.after
  pub calls : source.reads reader.after ≤ source.reads reader.before + most_reads

-- A report was canonicalised under the preference, with this answer.
pub record IsCanonRun {S O E : Type 0} (source : Reader S) (sink : Writer O) (errors : Writer E) (π : Preference) (answer : Result Outcome RunFault)
    (reader : BeforeAfter S) (out : BeforeAfter O) (err : BeforeAfter E) : Type 0 where
  -- What an outcome means.
  pub whole : IfOk answer (λ outcome. IsWholeRun π most_bytes outcome (source.remaining reader.before) (source.remaining reader.after)
      (sink.contents out.before) (sink.contents out.after) (errors.contents err.before) (errors.contents err.after))
  pub told : IfOk answer (λ _. IsToldRun π most_bytes (source.remaining reader.before) (source.remaining reader.after)
      (sink.contents out.before) (sink.contents out.after) (errors.contents err.before) (errors.contents err.after))
  pub flushed : OnOk answer ((sink.is_flushed out.after ≡ true) × (errors.is_flushed err.after ≡ true))
  -- If the fault is not `Write`, nothing was written or flushed. If it is, each writer holds a first part of its text.
  pub quiet : IfErr answer (λ fault. fault ≢ Write → (out.after ≡ out.before) × (err.after ≡ err.before))
  pub broken : answer ≡ Err Write → IsBrokenRun π most_bytes (source.remaining reader.before) (source.remaining reader.after)
      (sink.contents out.before) (sink.contents out.after) (errors.contents err.before) (errors.contents err.after)
  -- After a failed write to `out`, `err` is unchanged. Before a failed write, nothing is flushed. `err` is flushed only after
  -- `out`.
  pub out_first : sink.has_failed out.after ≡ true → sink.flushes out.after ≡ sink.flushes out.before → err.after ≡ err.before
  pub writes_first : errors.has_failed err.after ≡ true → errors.flushes err.after ≡ errors.flushes err.before
      → sink.flushes out.after ≡ sink.flushes out.before
  pub flush_order : (errors.flushes err.after ≡ errors.flushes err.before) ⊎ (sink.is_flushed out.after ≡ true)
  -- If a write to `out` fails, the report is accepted. If a write to `err` fails, the report is refused.
  pub out_needed : sink.has_failed out.after ≡ true → sink.flushes out.after ≡ sink.flushes out.before
      → IsAcceptedInput π most_bytes (source.remaining reader.before) (source.remaining reader.after)
  pub err_needed : errors.has_failed err.after ≡ true → errors.flushes err.after ≡ errors.flushes err.before
      → IsRefusedInput π most_bytes (source.remaining reader.before) (source.remaining reader.after)
  -- When each fault is returned.
  pub read : IsErrOf answer Read ↔ (source.has_failed reader.after ≡ true)
  pub write : IsErrOf answer Write ↔ ((sink.has_failed out.after ≡ true) ⊎ (errors.has_failed err.after ≡ true))
  pub too_long : answer ≡ Err TooLong → Exceeds most_bytes (source.remaining reader.before) (source.remaining reader.after)
  pub too_many : answer ≡ Err TooLong → source.given reader.before + most_bytes < source.given reader.after
  pub calls : source.reads reader.after ≤ source.reads reader.before + most_reads

-- Two reports were compared under the preference, with this answer.
pub record IsCompareRun {S T O : Type 0} (lefts : Reader S) (rights : Reader T) (sink : Writer O) (π : Preference) (answer : Result Outcome RunFault)
    (left : BeforeAfter S) (right : BeforeAfter T) (out : BeforeAfter O) : Type 0 where
  -- What an outcome means.
  pub whole : IfOk answer (λ outcome. IsWholeCompare π most_bytes outcome (lefts.remaining left.before) (lefts.remaining left.after)
      (rights.remaining right.before) (rights.remaining right.after) (sink.contents out.before) (sink.contents out.after))
  pub told : IfOk answer (λ _. IsToldCompare π most_bytes (lefts.remaining left.before) (lefts.remaining left.after)
      (rights.remaining right.before) (rights.remaining right.after) (sink.contents out.before) (sink.contents out.after))
  pub flushed : OnOk answer (sink.is_flushed out.after ≡ true)
  -- If the fault is not `Write`, nothing was written or flushed. If it is, the writer holds a first part of the text.
  pub quiet : IfErr answer (λ fault. fault ≢ Write → out.after ≡ out.before)
  pub broken : answer ≡ Err Write → IsBrokenCompare π most_bytes (lefts.remaining left.before) (lefts.remaining left.after)
      (rights.remaining right.before) (rights.remaining right.after) (sink.contents out.before) (sink.contents out.after)
  -- The right reader is read only after the left one was read to its end, and not after a read of the left one failed.
  pub left_first : (right.after ≡ right.before) ⊎ IsAtEnd (lefts.remaining left.after)
  pub left_failed : lefts.has_failed left.after ≡ true → right.after ≡ right.before
  -- When each fault is returned. If the left report is too long, the right one is not read.
  pub read : IsErrOf answer Read ↔ ((lefts.has_failed left.after ≡ true) ⊎ (rights.has_failed right.after ≡ true))
  pub write : IsErrOf answer Write ↔ (sink.has_failed out.after ≡ true)
  pub too_long : answer ≡ Err TooLong
      → (Exceeds most_bytes (lefts.remaining left.before) (lefts.remaining left.after) × (right.after ≡ right.before))
      ⊎ Exceeds most_bytes (rights.remaining right.before) (rights.remaining right.after)
  pub too_many : answer ≡ Err TooLong
      → ((lefts.given left.before + most_bytes < lefts.given left.after) × (right.after ≡ right.before))
      ⊎ (rights.given right.before + most_bytes < rights.given right.after)
  pub left_calls : lefts.reads left.after ≤ lefts.reads left.before + most_reads
  pub right_calls : rights.reads right.after ≤ rights.reads right.before + most_reads

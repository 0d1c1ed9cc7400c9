-- Runs of the engines on the JSON `null`, which has one fault: what a run may answer, and what not.
use Rattle.erd_canon.proofs.Common.{◌≡◌, ℕ, ◌⊎◌, Bool, true, false, List, [], ◌∷◌, length, Some, None, Ok, Err, codes, refl, ap, inl, inr, arith}
use Rattle.erd_canon.proofs.Common.{most_bytes, IsReadWhole, Bad, NotJson}
use Rattle.erd_canon.specs.Answering.{IsReportRun, IsPairRun}
use Rattle.erd_canon.specs.AskedCommands.{pair_answers, report_answers}
use Rattle.erd_canon.specs.Devices.{Reader, Writer, between}
use Rattle.erd_canon.specs.Engines.{IsCanonRun, IsCheckRun, IsCompareRun}
use Rattle.erd_canon.specs.declared.engines.asked.PairCommand.TheVariants as asked_of_two
use Rattle.erd_canon.specs.declared.engines.asked.ReportCommand.TheVariants as asked_of_one
use Rattle.erd_canon.specs.declared.engines.outcome.RunFault.TheVariants.{Memory, Read, Write}
use Rattle.erd_canon.proofs.examples.DataExamples.{null_checked as data_checked}
use Rattle.erd_canon.proofs.examples.EngineExamples.{canonical_errors, canonical_output, no_bytes, null_checked, null_compared, null_refused, root_kind}

-- ---- devices whose bytes are known

-- a reader: what it has left, whether a read has failed, and how many reads gave how many bytes
pub record Source : Type 0 where
  pub left : List ℕ
  pub failed : Bool
  pub calls : ℕ
  pub came : ℕ

abbrev pub known_source : Reader Source
known_source = record { remaining = λ s. Some s.left; has_failed = λ s. s.failed; reads = λ s. s.calls; given = λ s. s.came }

-- a writer: what it holds, whether a write has failed, and whether and how often it was flushed
pub record Sink : Type 0 where
  pub held : List ℕ
  pub failed : Bool
  pub flushed : Bool
  pub times : ℕ

abbrev pub known_sink : Writer Sink
known_sink = record { contents = λ s. Some s.held; has_failed = λ s. s.failed; is_flushed = λ s. s.flushed; flushes = λ s. s.times }

-- a reader of these bytes before a run, and after one that read all of them
abbrev pub full : List ℕ → Source
full bytes = record { left = bytes; failed = false; calls = 0; came = 0 }

abbrev pub read_out : List ℕ → Source
read_out bytes = record { left = []; failed = false; calls = 2; came = length bytes }

-- a writer before a run, and after one that wrote this text and flushed it
abbrev pub empty : Sink
empty = record { held = []; failed = false; flushed = false; times = 0 }

abbrev pub holding : List ℕ → Sink
holding text = record { held = text; failed = false; flushed = true; times = 1 }

-- a reader that failed after one byte, and a writer that failed after four
abbrev failed_source : Source
failed_source = record { left = codes "ull"; failed = true; calls = 2; came = 1 }

abbrev failed_sink : Sink
failed_sink = record { held = codes ": wr"; failed = true; flushed = false; times = 0 }

pub null_read : IsReadWhole most_bytes (Some (codes "null")) (Some []) (codes "null")
null_read = record { came = refl; ended = refl; in_limit = omega arith }

pub nothing_read : IsReadWhole most_bytes (Some []) (Some []) []
nothing_read = record { came = refl; ended = refl; in_limit = omega arith }

-- ---- checking

pub check_run : IsCheckRun known_source known_sink None (Ok Bad) (between (full (codes "null")) (read_out (codes "null")))
    (between empty (holding (codes ": wrong kind\n")))
unfolding root_kind
check_run = record {
  whole = record {
    input = codes "null";
    whole = null_read;
    written = record { text = codes ": wrong kind\n"; checked = (root_kind ∷ [], null_refused, refl); wrote = refl };
  };
  told = record { input = codes "null"; text = codes ": wrong kind\n"; whole = null_read; is_text = null_checked; wrote = refl };
  flushed = refl;
  quiet = tt;
  broken = λ e. absurd (cc e);
  read = (λ e. absurd (cc e), λ e. absurd (cc e));
  write = (λ e. absurd (cc e), λ e. absurd (cc e));
  too_long = λ e. absurd (cc e);
  too_many = λ e. absurd (cc e);
  calls = omega arith;
}

-- where a write fails, the writer holds a first part of the text
pub broken_check : IsCheckRun known_source known_sink None (Err Write) (between (full (codes "null")) (read_out (codes "null"))) (between empty failed_sink)
unfolding root_kind
broken_check = record {
  whole = tt;
  told = tt;
  flushed = tt;
  quiet = λ other. absurd (other refl);
  broken = λ e. record {
    input = codes "null";
    whole = null_read;
    written = record {
      outcome = Bad;
      text = codes ": wrong kind\n";
      checked = (root_kind ∷ [], null_refused, refl);
      part = record { count = 4; wrote = refl };
    };
  };
  read = (λ e. absurd (cc e), λ e. absurd (cc e));
  write = (λ e. refl, λ e. refl);
  too_long = λ e. absurd (cc e);
  too_many = λ e. absurd (cc e);
  calls = omega arith;
}

-- where a read fails, nothing is written
pub unread_check : IsCheckRun known_source known_sink None (Err Read) (between (full (codes "null")) failed_source) (between empty empty)
unread_check = record {
  whole = tt;
  told = tt;
  flushed = tt;
  quiet = λ other. refl;
  broken = λ e. absurd (cc e);
  read = (λ e. refl, λ e. refl);
  write = (λ e. absurd (cc e), λ e. absurd (cc e));
  too_long = λ e. absurd (cc e);
  too_many = λ e. absurd (cc e);
  calls = omega arith;
}

-- a run may not take a failed read for the end of the file, stop before the end, or write on a fault that is none of writing
not_the_end : IsCheckRun known_source known_sink None (Ok Bad) (between (full (codes "null")) failed_source)
    (between empty (holding (codes ": wrong kind\n"))) → ⊥
not_the_end is = absurd (cc (is.read.1 refl))

not_a_part : IsCheckRun known_source known_sink None (Ok Bad)
    (between (full (codes "null")) (record { left = codes "l"; failed = false; calls = 1; came = 3 })) (between empty (holding (codes ": wrong kind\n"))) → ⊥
not_a_part is = absurd (cc (is.whole.whole.ended))

not_beside : IsCheckRun known_source known_sink None (Err Memory) (between (full (codes "null")) (read_out (codes "null")))
    (between empty (holding (codes ": wrong kind\n"))) → ⊥
not_beside is = let same = ap (λ s. s.held) (is.quiet (λ e. absurd (cc e))) in absurd (cc same)

-- nor may it leave its text unflushed
not_unflushed : IsCheckRun known_source known_sink None (Ok Bad) (between (full (codes "null")) (read_out (codes "null")))
    (between empty (record { held = codes ": wrong kind\n"; failed = false; flushed = false; times = 0 })) → ⊥
not_unflushed is = absurd (cc (is.flushed))

-- with JSON as the answer
pub report_run : IsReportRun known_source known_sink (report_answers asked_of_one.CheckData None) (Ok Bad)
    (between (full (codes "null")) (read_out (codes "null")))
    (between empty (holding (codes "[{\"place\":[],\"reason\":1}]\n")))
report_run = record {
  whole = record {
    input = codes "null";
    whole = null_read;
    written = record {
      text = codes "[{\"place\":[],\"reason\":1}]\n";
      answers = (codes "[{\"place\":[],\"reason\":1}]", data_checked, refl);
      wrote = refl;
    };
  };
  flushed = refl;
  quiet = tt;
  broken = λ e. absurd (cc e);
  read = (λ e. absurd (cc e), λ e. absurd (cc e));
  write = (λ e. absurd (cc e), λ e. absurd (cc e));
  too_long = λ e. absurd (cc e);
  too_many = λ e. absurd (cc e);
  calls = omega arith;
}

-- ---- canonicalising

-- of no bytes: the output is flushed and holds nothing, and the errors say why
pub canon_run : IsCanonRun known_source known_sink known_sink None (Ok NotJson) (between (full []) (read_out [])) (between empty (holding []))
    (between empty (holding (codes "not JSON\n")))
canon_run = record {
  whole = record {
    input = [];
    whole = nothing_read;
    written = record { out_text = []; err_text = codes "not JSON\n"; answered = ((no_bytes, refl), refl); wrote_out = refl; wrote_err = refl };
  };
  told = record {
    input = [];
    out_text = [];
    err_text = codes "not JSON\n";
    whole = nothing_read;
    output = canonical_output;
    errors = canonical_errors;
    wrote_out = refl;
    wrote_err = refl;
  };
  flushed = (refl, refl);
  quiet = tt;
  broken = λ e. absurd (cc e);
  out_first = λ e. absurd (cc e);
  writes_first = λ e. absurd (cc e);
  flush_order = inr refl;
  out_needed = λ e. absurd (cc e);
  err_needed = λ e. absurd (cc e);
  read = (λ e. absurd (cc e), λ e. absurd (cc e));
  write = (λ e. absurd (cc e), no_failure);
  too_long = λ e. absurd (cc e);
  too_many = λ e. absurd (cc e);
  calls = omega arith;
}
  where
    no_failure : (false ≡ true) ⊎ (false ≡ true) → Ok NotJson ≡ Err Write
    no_failure (inl e) = absurd (cc e)
    no_failure (inr e) = absurd (cc e)

-- the errors may not be flushed before the output
not_errors_first : IsCanonRun known_source known_sink known_sink None (Err Write) (between (full []) (read_out []))
    (between empty (record { held = []; failed = true; flushed = false; times = 1 }))
    (between empty (holding (codes "not JSON\n"))) → ⊥
not_errors_first is = elim (is.flush_order) [
  | inl e ↦ absurd (omega (arith, e))
  | inr e ↦ absurd (cc e)
]

-- ---- comparing

-- the left report is refused, and both were read to their ends
pub compare_run : IsCompareRun known_source known_source known_sink None (Ok Bad) (between (full (codes "null")) (read_out (codes "null")))
    (between (full []) (read_out [])) (between empty (holding (codes "left: : wrong kind\n")))
unfolding root_kind
compare_run = record {
  whole = record {
    left = codes "null";
    right = [];
    left_whole = null_read;
    right_whole = nothing_read;
    written = record { text = codes "left: : wrong kind\n"; compared = null_compared []; wrote = refl };
  };
  told = record {
    left = codes "null";
    right = [];
    text = codes "left: : wrong kind\n";
    left_whole = null_read;
    right_whole = nothing_read;
    is_text = inl (codes ": wrong kind" ∷ [], inr (root_kind ∷ [], null_refused, refl), refl);
    wrote = refl;
  };
  flushed = refl;
  quiet = tt;
  broken = λ e. absurd (cc e);
  left_first = inr refl;
  left_failed = λ e. absurd (cc e);
  read = (λ e. absurd (cc e), no_failure);
  write = (λ e. absurd (cc e), λ e. absurd (cc e));
  too_long = λ e. absurd (cc e);
  too_many = λ e. absurd (cc e);
  left_calls = omega arith;
  right_calls = omega arith;
}
  where
    no_failure : (false ≡ true) ⊎ (false ≡ true) → Ok Bad ≡ Err Read
    no_failure (inl e) = absurd (cc e)
    no_failure (inr e) = absurd (cc e)

-- the right report may not be read while the left one has bytes left
not_right_first : IsCompareRun known_source known_source known_sink None (Err Read) (between (full (codes "null")) failed_source)
    (between (full (codes "null")) (read_out (codes "null"))) (between empty empty) → ⊥
not_right_first is = elim (is.left_first) [
  | inl e ↦ let calls = ap (λ s. s.calls) e in absurd (omega (arith, calls))
  | inr e ↦ absurd (cc e)
]

-- a list of differences says why the left report is refused, as a comparison does
pub pair_run : IsPairRun known_source known_source known_sink (pair_answers asked_of_two.Differences None) (Ok Bad)
    (between (full (codes "null")) (read_out (codes "null"))) (between (full []) (read_out [])) (between empty (holding (codes "left: : wrong kind\n")))
unfolding root_kind
pair_run = record {
  whole = record {
    left = codes "null";
    right = [];
    left_whole = null_read;
    right_whole = nothing_read;
    written = record { text = codes "left: : wrong kind\n"; answers = inl (root_kind ∷ [], null_refused, refl); wrote = refl };
  };
  flushed = refl;
  quiet = tt;
  broken = λ e. absurd (cc e);
  left_first = inr refl;
  left_failed = λ e. absurd (cc e);
  read = (λ e. absurd (cc e), no_failure);
  write = (λ e. absurd (cc e), λ e. absurd (cc e));
  too_long = λ e. absurd (cc e);
  too_many = λ e. absurd (cc e);
  left_calls = omega arith;
  right_calls = omega arith;
}
  where
    no_failure : (false ≡ true) ⊎ (false ≡ true) → Ok Bad ≡ Err Read
    no_failure (inl e) = absurd (cc e)
    no_failure (inr e) = absurd (cc e)

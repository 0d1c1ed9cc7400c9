-- What the program does for its words, on worked rows: words that are no text, a file that can't be opened, files that are
-- refused, and help.
use Rattle.erd_canon.proofs.Common.{◌≡◌, ℕ, false, List, [], ◌∷◌, None, Ok, Err, Result, codes, refl, ap, ◌∙◌, inl, arith}
use Rattle.erd_canon.proofs.Common.{request_in, program, subcommand_of, clap_on_literals, IsLineRead}
use Rattle.std.specs.Str.{chars}
use lib.Utf8.{encode}
use Rattle.erd_canon.proofs.examples.RunExamples.{Sink, Source, check_run, compare_run, empty, full, holding, known_sink, known_source, read_out}
use Rattle.erd_canon.proofs.lines.LineReadings.{line_taken}
use Rattle.erd_canon.specs.Devices.{between}
use Rattle.erd_canon.specs.declared.engines.outcome.Outcome.TheVariants.{Bad}
use Rattle.erd_canon.specs.ReadLines.{IsReadExactly}
use Rattle.erd_canon.specs.declared.commands.request.Request.TheVariants.{Check, Compare}
use Rattle.erd_program.specs.Files.{IsFileDone, IsFileChecked}
use Rattle.erd_program.specs.Messages.{name_in_line, unopened_words}
use Rattle.erd_program.specs.Program.{IsProgramRun}
use Rattle.erd_program.specs.World.{Outside}
use Rattle.erd_program.specs.declared.files.WorldFault.{WorldFault}
use Rattle.erd_program.specs.declared.files.WorldFault.TheVariants.{Refused}
use Rattle.erd_program.specs.declared.world.World.{World}

-- ---- lines

-- a control character in the name of a file can't make a line of its own
names : (name_in_line (codes "a b.json") ≡ codes "a b.json") × (name_in_line (codes "a\naccepted") ≡ codes "a?accepted")
    × (unopened_words (codes "gone.json") ≡ codes "cannot open\ngone.json")
unfolding chars encode
names = (refl, refl, refl)

-- ---- an outside whose files and streams are known

record Disk : Type 0 where
  pub opened_files : List (List ℕ × Result Source WorldFault)
  pub beside_files : List (List ℕ × Result Source WorldFault)
  pub closed_files : List (List ℕ × Source)

abbrev known : Outside Disk Source Source Sink Sink
known = record {
  opened = λ d. d.opened_files;
  beside = λ d. d.beside_files;
  closed = λ d. d.closed_files;
  file = known_source;
  input = known_source;
  out = known_sink;
  err = known_sink;
}

-- nothing has been opened, read or written
abbrev before : World Disk Source Sink Sink
before = record { files = record { opened_files = []; beside_files = []; closed_files = [] }; input = full []; out = empty; err = empty }

-- a writer that holds this text and was not flushed
abbrev said : List ℕ → Sink
said text = record { held = text; failed = false; flushed = false; times = 0 }

abbrev no_files : Disk
no_files = record { opened_files = []; beside_files = []; closed_files = [] }

-- ---- words that are no text

not_text : IsProgramRun known (Err Refused) 3
    (between before (record { files = no_files; input = full []; out = empty; err = said (codes "the arguments are not text\n") }))
not_text = (
  refl,
  (
    refl,
    record {
      status_is = refl;
      said = record { part = record { count = 27; wrote = refl }; all = λ e. refl; quiet = λ e. absurd (cc e) };
      quiet = refl;
    },
  ),
)

-- the status is not that of an accepted report
not_accepted : IsProgramRun known (Err Refused) 0
    (between before (record { files = no_files; input = full []; out = empty; err = said (codes "the arguments are not text\n") })) → ⊥
not_accepted is = let status = is.1.1.status_is in omega (arith, status)

-- ---- one file

abbrev check_words : List (List ℕ)
check_words = codes "erd" ∷ codes "check" ∷ codes "gone.json" ∷ []

check_exact : IsReadExactly check_words (Ok (Check (codes "gone.json") None))
unfolding clap_on_literals
check_exact request name plain is =
    let taken = line_taken request name plain in
    let read : Check (codes "gone.json") None ≡ request_in (subcommand_of program check_words) = refl in
    read ∙ ap (λ words. request_in (subcommand_of program words)) is ∙ taken.1

check_read : IsLineRead check_words (Ok (Check (codes "gone.json") None))
unfolding clap_on_literals
check_read = (refl, refl)

-- where the file can't be opened, two lines say so with its name, and the status is 3
unopened : IsProgramRun known (Ok check_words) 3 (between before (record {
  files = record { opened_files = (codes "gone.json", Err Refused) ∷ []; beside_files = []; closed_files = [] };
  input = full [];
  out = empty;
  err = said (codes "cannot open\ngone.json\n");
}))
unfolding chars encode
unopened = record {
  found = Ok (Check (codes "gone.json") None);
  exact = check_exact;
  read = check_read;
  answered = record {
    given = Err Refused;
    input = refl;
    opened = refl;
    answer = (
      refl,
      inl (record {
        status_is = refl;
        said = record { part = record { count = 22; wrote = refl }; all = λ e. refl; quiet = λ e. absurd (cc e) };
        quiet = refl;
      }),
    );
  };
}

-- where it has the JSON `null`, its fault is written, the file is closed as the run left it, and the status is 1
refused : IsProgramRun known (Ok check_words) 1 (between before (record {
  files = record {
    opened_files = (codes "gone.json", Ok (full (codes "null"))) ∷ [];
    beside_files = [];
    closed_files = (codes "gone.json", read_out (codes "null")) ∷ [];
  };
  input = full [];
  out = holding (codes ": wrong kind\n");
  err = empty;
}))
refused = record {
  found = Ok (Check (codes "gone.json") None);
  exact = check_exact;
  read = check_read;
  answered = record {
    given = Ok (full (codes "null"));
    input = refl;
    opened = refl;
    answer = record {
      answer = Ok Bad;
      file_left = read_out (codes "null");
      err_left = empty;
      run = (check_run, refl);
      is_closed = refl;
      status_is = refl;
      told = refl;
    };
  };
}

-- a file that was checked may not be left open
not_left_open : (status : ℕ) → IsFileDone known (IsFileChecked None) (codes "a") (full (codes "null")) status (between [] []) (between empty empty)
    (between empty empty) → ⊥
not_left_open status is = absurd (cc (is.is_closed))

-- ---- two files

abbrev compare_words : List (List ℕ)
compare_words = codes "erd" ∷ codes "compare" ∷ codes "a" ∷ codes "b" ∷ []

compare_exact : IsReadExactly compare_words (Ok (Compare (codes "a") (codes "b") None))
unfolding clap_on_literals
compare_exact request name plain is =
    let taken = line_taken request name plain in
    let read : Compare (codes "a") (codes "b") None ≡ request_in (subcommand_of program compare_words) = refl in
    read ∙ ap (λ words. request_in (subcommand_of program words)) is ∙ taken.1

compare_read : IsLineRead compare_words (Ok (Compare (codes "a") (codes "b") None))
unfolding clap_on_literals
compare_read = (refl, refl)

-- both files are opened before either is read; the left one is at fault, and both are closed
left_refused : IsProgramRun known (Ok compare_words) 1 (between before (record {
  files = record {
    opened_files = (codes "a", Ok (full (codes "null"))) ∷ (codes "b", Ok (full [])) ∷ [];
    beside_files = (codes "b", Ok (full (codes "null"))) ∷ [];
    closed_files = (codes "a", read_out (codes "null")) ∷ (codes "b", read_out []) ∷ [];
  };
  input = full [];
  out = holding (codes "left: : wrong kind\n");
  err = empty;
}))
left_refused = record {
  found = Ok (Compare (codes "a") (codes "b") None);
  exact = compare_exact;
  read = compare_read;
  answered = record {
    left_given = Ok (full (codes "null"));
    right_given = Ok (full []);
    input = refl;
    opened = refl;
    beside = refl;
    answer = record {
      answer = Ok Bad;
      left_left = read_out (codes "null");
      right_left = read_out [];
      run = compare_run;
      are_closed = refl;
      status_is = refl;
      told = refl;
    };
  };
}

-- where the right file can't be opened, the left one is closed unread
right_unopened : IsProgramRun known (Ok compare_words) 3 (between before (record {
  files = record {
    opened_files = (codes "a", Ok (full (codes "null"))) ∷ (codes "b", Err Refused) ∷ [];
    beside_files = (codes "b", Ok (full (codes "null"))) ∷ [];
    closed_files = (codes "a", full (codes "null")) ∷ [];
  };
  input = full [];
  out = empty;
  err = said (codes "cannot open\nb\n");
}))
unfolding chars encode
right_unopened = record {
  found = Ok (Compare (codes "a") (codes "b") None);
  exact = compare_exact;
  read = compare_read;
  answered = record {
    left_given = Ok (full (codes "null"));
    right_given = Err Refused;
    input = refl;
    opened = refl;
    beside = refl;
    answer = (
      refl,
      inl (record {
        status_is = refl;
        said = record { part = record { count = 14; wrote = refl }; all = λ e. refl; quiet = λ e. absurd (cc e) };
        quiet = refl;
      }),
    );
  };
}

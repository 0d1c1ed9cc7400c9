-- What `clap` makes of the exact lines.
use Rattle.erd_canon.proofs.Common.{◌≡◌, ℕ, Bool, true, false, ◌&&◌, ◌⊎◌, List, [], ◌∷◌, ◌++◌, length, nat_lt, Some, None, Ok, Err, codes, Option, Result}
use Rattle.erd_canon.proofs.Common.{MatchResult, sym, refl, ap, ◌∙◌, subst, ap₂, inl, inr, arith, lt-ltb, clap_on_literals, Shape, settle_passes, step_passes}
use Rattle.erd_canon.proofs.Common.{turn_passes, level_passes, arg_by_index, Held, value, Walk, to_positional, walked, finished, nothing_held, rows_after, Row}
use Rattle.erd_canon.proofs.Common.{Text, is_simple, subcommand_of, takes, IsAmong, fault_of, is_simple_and_free, OutOfMemory, words_of, IsOptionText}
use Rattle.erd_canon.proofs.Common.{HasPlainWords, preference_words, steps_words, ballots_request, check_request, compare_request, differences_request}
use Rattle.erd_canon.proofs.Common.{request_in, IsLineRead, IsFaultFor, program}
use Rattle.clap.specs.declared.error.kind.ErrorKind.{ErrorKind}
use Rattle.erd_canon.proofs.lines.PlainWords.{IsPlainWord, at, walked_plain, turn_plain}
use Rattle.erd_canon.proofs.lines.OptionWords.{Leads, ballots_prefers, canon_prefers, check_prefers, compare_prefers, differences_prefers, ends, file_plain}
use Rattle.erd_canon.proofs.lines.OptionWords.{flagged, given, held_first, json_words, leads_flag, leads_json, leads_on, leads_option, level_behind}
use Rattle.erd_canon.proofs.lines.OptionWords.{prepare_chooses, prepare_prefers, rows_behind, subcommand}
use Rattle.erd_canon.specs.declared.commands.request.Request.{Request}
use Rattle.erd_canon.specs.declared.commands.request.Request.TheVariants.{Filter, Check, Canon, Compare, CheckData, CompareData, Differences, DifferencesData}
use Rattle.erd_canon.specs.declared.commands.request.Request.TheVariants.{Prepare, PrepareList, PrepareReport, Ballots, BallotsData, BallotDifferences}
use Rattle.erd_canon.specs.declared.commands.request.Request.TheVariants.{BallotDifferencesData}
use Rattle.erd_canon.specs.declared.commands.request.LineFault.{LineFault}
use Rattle.erd_canon.specs.declared.commands.request.LineFault.TheVariants.{Help, Usage, Memory}

-- the words are taken, and they make this request
abbrev pub IsTaken : List Text → Request → Type 0
IsTaken words request = (takes program words ≡ true) × (request_in (subcommand_of program words) ≡ request)

-- ---- no word

none_taken : (name : Text) → IsTaken (name ∷ []) Filter
unfolding clap_on_literals
none_taken name = (refl, refl)

-- a text that is there passes the parser of an option
text_passes : (x : ℕ) (xs : Text) → (nat_lt 0 (length (x ∷ xs)) && true) ≡ true
text_passes x xs = ap (λ (b : Bool). b && true) (lt-ltb 0 (length (x ∷ xs)) (omega arith))

-- and so it is before the first file
then_passes : (x : ℕ) (xs : Text) → (((nat_lt 0 (length (x ∷ xs)) && true) && true) && true) ≡ true
then_passes x xs = ap (λ (b : Bool). (b && true) && true) (text_passes x xs)

-- ---- one file

-- the walk after one word
abbrev first : Shape → Held → Text → Walk
first s h word = to_positional s.rules (arg_by_index s.rules 1) word (at h 1) h

-- whether a level takes one word
level_one : (s : Shape) (h : Held) (word : Text) → IsPlainWord word
    → level_passes s [] h (word ∷ []) false ≡ ((step_passes s 1 h value && true) && ends s (first s h word).held)
unfolding clap_on_literals
level_one s h word plain =
    ap₂ (λ (b : Bool) (w : Walk). (b && true) && ends s w.held) (turn_plain s h 1 word plain) (walked_plain s.rules h 1 word plain)

-- the subcommand of this place and name takes one file after the options, behind which this is held, and then makes this request
record TakesFile (i : ℕ) (name : Text) (options : List Text) (k : Held) (request : Text → Request) : Type 0 where
  leads : Leads (subcommand i) options nothing_held k
  passes : (word : Text) → ((step_passes (subcommand i) 1 k value && true) && ends (subcommand i) (first (subcommand i) k word).held) ≡ true
  enters : (program_name word : Text) → takes program (program_name ∷ name ∷ (options ++ word ∷ []))
      ≡ (level_passes (subcommand i) [] nothing_held (options ++ word ∷ []) false && true)
  named : (program_name word : Text) → subcommand_of program (program_name ∷ name ∷ (options ++ word ∷ []))
      ≡ Some (name, rows_after (subcommand i).rules [] (options ++ word ∷ []))
  makes : (word : Text) → request_in (Some (name, finished (subcommand i).rules (first (subcommand i) k word).held)) ≡ request word

file_taken : {i : ℕ} {name : Text} {options : List Text} {k : Held} {request : Text → Request} → TakesFile i name options k request
    → (program_name word : Text) → IsPlainWord word → IsTaken (program_name ∷ name ∷ (options ++ word ∷ [])) (request word)
file_taken {i = i} {name} {options} {k} file program_name word plain =
    let s = subcommand i in
    let passes = level_behind s options k (word ∷ []) file.leads ∙ (level_one s k word plain ∙ file.passes word) in
    let found = rows_behind s options k (word ∷ []) file.leads ∙ ap (λ (w : Walk). finished s.rules w.held) (walked_plain s.rules k 1 word plain) in (
      file.enters program_name word ∙ ap (λ b. b && true) passes,
      ap request_in (file.named program_name word ∙ ap (λ (r : List Row). Some (name, r)) found) ∙ file.makes word,
    )

check_leads : (json : Bool) (prefer : Option Text) → IsOptionText prefer → Leads (subcommand 0) (json_words json prefer) nothing_held (held_first 0 json prefer)
unfolding clap_on_literals
check_leads json prefer is = leads_json 0 (leads_flag {s = subcommand 0} {word = codes "--json"} {h = nothing_held} {k = flagged 0 (codes "--json")} refl refl)
    refl check_prefers json prefer is

check_takes : (json : Bool) (prefer : Option Text) → IsOptionText prefer → TakesFile 0 (codes "check") (json_words json prefer) (held_first 0 json prefer)
    (λ file. check_request json file prefer)
unfolding clap_on_literals
check_takes false None is =
    record { leads = check_leads false None is; passes = λ word. refl; enters = λ name word. refl; named = λ name word. refl; makes = λ word. refl }
check_takes false (Some []) is = absurd is
check_takes false (Some (x ∷ xs)) is =
    record {
      leads = check_leads false (Some (x ∷ xs)) is;
      passes = λ word. then_passes x xs;
      enters = λ name word. refl;
      named = λ name word. refl;
      makes = λ word. refl;
    }
check_takes true None is =
    record { leads = check_leads true None is; passes = λ word. refl; enters = λ name word. refl; named = λ name word. refl; makes = λ word. refl }
check_takes true (Some []) is = absurd is
check_takes true (Some (x ∷ xs)) is =
    record {
      leads = check_leads true (Some (x ∷ xs)) is;
      passes = λ word. then_passes x xs;
      enters = λ name word. refl;
      named = λ name word. refl;
      makes = λ word. refl;
    }

canon_takes : (prefer : Option Text) → IsOptionText prefer → TakesFile 1 (codes "canon") (preference_words prefer) (held_first 1 false prefer)
    (λ file. Canon file prefer)
unfolding clap_on_literals
canon_takes None is =
    record {
      leads = leads_option canon_prefers None nothing_held is refl;
      passes = λ word. refl;
      enters = λ name word. refl;
      named = λ name word. refl;
      makes = λ word. refl;
    }
canon_takes (Some []) is = absurd is
canon_takes (Some (x ∷ xs)) is =
    record {
      leads = leads_option canon_prefers (Some (x ∷ xs)) nothing_held is refl;
      passes = λ word. then_passes x xs;
      enters = λ name word. refl;
      named = λ name word. refl;
      makes = λ word. refl;
    }

ballots_leads : (json : Bool) (prefer : Option Text) → IsOptionText prefer → Leads (subcommand 4) (json_words json prefer) nothing_held
    (held_first 4 json prefer)
unfolding clap_on_literals
ballots_leads json prefer is =
    leads_json 4 (leads_flag {s = subcommand 4} {word = codes "--json"} {h = nothing_held} {k = flagged 4 (codes "--json")} refl refl) refl
    ballots_prefers json prefer is

ballots_takes : (json : Bool) (prefer : Option Text) → IsOptionText prefer → TakesFile 4 (codes "ballots") (json_words json prefer) (held_first 4 json prefer)
    (λ file. ballots_request json file None prefer)
unfolding clap_on_literals
ballots_takes false None is =
    record { leads = ballots_leads false None is; passes = λ word. refl; enters = λ name word. refl; named = λ name word. refl; makes = λ word. refl }
ballots_takes false (Some []) is = absurd is
ballots_takes false (Some (x ∷ xs)) is =
    record {
      leads = ballots_leads false (Some (x ∷ xs)) is;
      passes = λ word. then_passes x xs;
      enters = λ name word. refl;
      named = λ name word. refl;
      makes = λ word. refl;
    }
ballots_takes true None is =
    record { leads = ballots_leads true None is; passes = λ word. refl; enters = λ name word. refl; named = λ name word. refl; makes = λ word. refl }
ballots_takes true (Some []) is = absurd is
ballots_takes true (Some (x ∷ xs)) is =
    record {
      leads = ballots_leads true (Some (x ∷ xs)) is;
      passes = λ word. then_passes x xs;
      enters = λ name word. refl;
      named = λ name word. refl;
      makes = λ word. refl;
    }

-- what is held behind the steps, and behind the preference
abbrev held_steps : Held → Option Text → Held
held_steps h steps = given (subcommand 5).rules (codes "STEPS") steps h

abbrev held_both : Option Text → Option Text → Held
held_both steps prefer = given (subcommand 5).rules (codes "TYPE") prefer (held_steps nothing_held steps)

-- the steps are settled before the preference
steps_settle : (steps : Option Text) → IsOptionText steps → settle_passes (subcommand 5).rules (subcommand 5).args_override_self
    (held_steps nothing_held steps) ≡ true
unfolding clap_on_literals
steps_settle None is = refl
steps_settle (Some []) is = absurd is
steps_settle (Some (x ∷ xs)) is = text_passes x xs

prepare_leads : (steps prefer : Option Text) → IsOptionText steps → IsOptionText prefer → Leads (subcommand 5) (steps_words steps ++ preference_words prefer)
    nothing_held (held_both steps prefer)
prepare_leads steps prefer is is2 =
    leads_on (leads_option prepare_chooses steps nothing_held is refl)
    (leads_option prepare_prefers prefer (held_steps nothing_held steps) is2 (steps_settle steps is))

prepare_takes : (steps prefer : Option Text) → IsOptionText steps → IsOptionText prefer
    → TakesFile 5 (codes "prepare") (steps_words steps ++ preference_words prefer) (held_both steps prefer) (λ file. Prepare file steps prefer)
unfolding clap_on_literals
prepare_takes None None is is2 =
    record { leads = prepare_leads None None is is2; passes = λ word. refl; enters = λ name word. refl; named = λ name word. refl; makes = λ word. refl }
prepare_takes None (Some []) is is2 = absurd is2
prepare_takes None (Some (y ∷ ys)) is is2 =
    record {
      leads = prepare_leads None (Some (y ∷ ys)) is is2;
      passes = λ word. then_passes y ys;
      enters = λ name word. refl;
      named = λ name word. refl;
      makes = λ word. refl;
    }
prepare_takes (Some []) prefer is is2 = absurd is
prepare_takes (Some (x ∷ xs)) None is is2 =
    record {
      leads = prepare_leads (Some (x ∷ xs)) None is is2;
      passes = λ word. then_passes x xs;
      enters = λ name word. refl;
      named = λ name word. refl;
      makes = λ word. refl;
    }
prepare_takes (Some (x ∷ xs)) (Some []) is is2 = absurd is2
prepare_takes (Some (x ∷ xs)) (Some (y ∷ ys)) is is2 =
    record {
      leads = prepare_leads (Some (x ∷ xs)) (Some (y ∷ ys)) is is2;
      passes = λ word. then_passes y ys;
      enters = λ name word. refl;
      named = λ name word. refl;
      makes = λ word. refl;
    }

report_leads : (steps : Option Text) → IsOptionText steps → Leads (subcommand 5) (codes "--report" ∷ steps_words steps) nothing_held
    (held_steps (flagged 5 (codes "--report")) steps)
unfolding clap_on_literals
report_leads steps is = leads_on (leads_flag {s = subcommand 5} {word = codes "--report"} {h = nothing_held} {k = flagged 5 (codes "--report")} refl refl)
    (leads_option prepare_chooses steps (flagged 5 (codes "--report")) is refl)

report_takes : (steps : Option Text) → IsOptionText steps → TakesFile 5 (codes "prepare") (codes "--report" ∷ steps_words steps)
    (held_steps (flagged 5 (codes "--report")) steps) (λ file. PrepareReport file steps)
unfolding clap_on_literals
report_takes None is =
    record { leads = report_leads None is; passes = λ word. refl; enters = λ name word. refl; named = λ name word. refl; makes = λ word. refl }
report_takes (Some []) is = absurd is
report_takes (Some (x ∷ xs)) is =
    record {
      leads = report_leads (Some (x ∷ xs)) is;
      passes = λ word. then_passes x xs;
      enters = λ name word. refl;
      named = λ name word. refl;
      makes = λ word. refl;
    }

list_takes : TakesFile 5 (codes "prepare") (codes "--list" ∷ []) (flagged 5 (codes "--list")) (λ file. PrepareList file)
unfolding clap_on_literals
list_takes =
    record {
      leads = leads_flag {s = subcommand 5} {word = codes "--list"} {h = nothing_held} {k = flagged 5 (codes "--list")} refl refl;
      passes = λ word. refl;
      enters = λ name word. refl;
      named = λ name word. refl;
      makes = λ word. refl;
    }

-- ---- two files

-- the walk after two words, where the first leaves it at the second place
abbrev second : Shape → Held → Text → Text → Walk
second s h left right = to_positional s.rules (arg_by_index s.rules 2) right (at (first s h left).held 2) (first s h left).held

-- the first word leaves the walk ready for the second
abbrev GoesOn : Shape → Held → Text → Type 0
GoesOn s h left = first s h left ≡ at (first s h left).held 2

walked_two : (s : Shape) (h : Held) (left right : Text) → GoesOn s h left → IsPlainWord left → IsPlainWord right
    → walked s.rules [] (walked s.rules [] (at h 1) left) right ≡ second s h left right
walked_two s h left right goes_on plain plain2 =
    ap (λ (w : Walk). walked s.rules [] w right) (walked_plain s.rules h 1 left plain ∙ goes_on) ∙ walked_plain s.rules (first s h left).held 2 right plain2

turn_two : (s : Shape) (h : Held) (left right : Text) → GoesOn s h left → IsPlainWord left → IsPlainWord right
    → turn_passes s [] (walked s.rules [] (at h 1) left) right ≡ step_passes s 2 (first s h left).held value
turn_two s h left right goes_on plain plain2 =
    ap (λ (w : Walk). turn_passes s [] w right) (walked_plain s.rules h 1 left plain ∙ goes_on) ∙ turn_plain s (first s h left).held 2 right plain2

level_two : (s : Shape) (h : Held) (left right : Text) → GoesOn s h left → IsPlainWord left → IsPlainWord right
    → level_passes s [] h (left ∷ right ∷ []) false
    ≡ ((step_passes s 1 h value && (step_passes s 2 (first s h left).held value && true)) && ends s (second s h left right).held)
unfolding clap_on_literals
level_two s h left right goes_on plain plain2 =
    ap₂ (λ (b : Bool) (w : Walk). b && ends s w.held)
    (ap₂ (λ (b : Bool) (d : Bool). b && (d && true)) (turn_plain s h 1 left plain) (turn_two s h left right goes_on plain plain2))
    (walked_two s h left right goes_on plain plain2)

-- the subcommand of this place and name takes two files after the options, behind which this is held, and then makes this request
record TakesPair (i : ℕ) (name : Text) (options : List Text) (k : Held) (request : Text → Text → Request) : Type 0 where
  leads : Leads (subcommand i) options nothing_held k
  goes_on : (left : Text) → GoesOn (subcommand i) k left
  passes : (left right : Text)
      → ((step_passes (subcommand i) 1 k value && (step_passes (subcommand i) 2 (first (subcommand i) k left).held value && true))
      && ends (subcommand i) (second (subcommand i) k left right).held) ≡ true
  enters : (program_name left right : Text) → takes program (program_name ∷ name ∷ (options ++ left ∷ right ∷ []))
      ≡ (level_passes (subcommand i) [] nothing_held (options ++ left ∷ right ∷ []) false && true)
  named : (program_name left right : Text) → subcommand_of program (program_name ∷ name ∷ (options ++ left ∷ right ∷ []))
      ≡ Some (name, rows_after (subcommand i).rules [] (options ++ left ∷ right ∷ []))
  makes : (left right : Text) → request_in (Some (name, finished (subcommand i).rules (second (subcommand i) k left right).held)) ≡ request left right

pair_taken : {i : ℕ} {name : Text} {options : List Text} {k : Held} {request : Text → Text → Request} → TakesPair i name options k request
    → (program_name left right : Text) → IsPlainWord left → IsPlainWord right
    → IsTaken (program_name ∷ name ∷ (options ++ left ∷ right ∷ [])) (request left right)
pair_taken {i = i} {name} {options} {k} pair program_name left right plain plain2 =
    let s = subcommand i in
    let passes = level_behind s options k (left ∷ right ∷ []) pair.leads
    ∙ (level_two s k left right (pair.goes_on left) plain plain2 ∙ pair.passes left right) in
    let found = rows_behind s options k (left ∷ right ∷ []) pair.leads
    ∙ ap (λ (w : Walk). finished s.rules w.held) (walked_two s k left right (pair.goes_on left) plain plain2) in (
      pair.enters program_name left right ∙ ap (λ b. b && true) passes,
      ap request_in (pair.named program_name left right ∙ ap (λ (r : List Row). Some (name, r)) found) ∙ pair.makes left right,
    )

compare_leads : (json : Bool) (prefer : Option Text) → IsOptionText prefer → Leads (subcommand 2) (json_words json prefer) nothing_held
    (held_first 2 json prefer)
unfolding clap_on_literals
compare_leads json prefer is =
    leads_json 2 (leads_flag {s = subcommand 2} {word = codes "--json"} {h = nothing_held} {k = flagged 2 (codes "--json")} refl refl) refl
    compare_prefers json prefer is

compare_takes : (json : Bool) (prefer : Option Text) → IsOptionText prefer → TakesPair 2 (codes "compare") (json_words json prefer) (held_first 2 json prefer)
    (λ left right. compare_request json left right prefer)
unfolding clap_on_literals
compare_takes false None is =
    record {
      leads = compare_leads false None is;
      goes_on = λ left. refl;
      passes = λ left right. refl;
      enters = λ name left right. refl;
      named = λ name left right. refl;
      makes = λ left right. refl;
    }
compare_takes false (Some []) is = absurd is
compare_takes false (Some (x ∷ xs)) is =
    record {
      leads = compare_leads false (Some (x ∷ xs)) is;
      goes_on = λ left. refl;
      passes = λ left right. then_passes x xs;
      enters = λ name left right. refl;
      named = λ name left right. refl;
      makes = λ left right. refl;
    }
compare_takes true None is =
    record {
      leads = compare_leads true None is;
      goes_on = λ left. refl;
      passes = λ left right. refl;
      enters = λ name left right. refl;
      named = λ name left right. refl;
      makes = λ left right. refl;
    }
compare_takes true (Some []) is = absurd is
compare_takes true (Some (x ∷ xs)) is =
    record {
      leads = compare_leads true (Some (x ∷ xs)) is;
      goes_on = λ left. refl;
      passes = λ left right. then_passes x xs;
      enters = λ name left right. refl;
      named = λ name left right. refl;
      makes = λ left right. refl;
    }

differences_leads : (json : Bool) (prefer : Option Text) → IsOptionText prefer → Leads (subcommand 3) (json_words json prefer) nothing_held
    (held_first 3 json prefer)
unfolding clap_on_literals
differences_leads json prefer is =
    leads_json 3 (leads_flag {s = subcommand 3} {word = codes "--json"} {h = nothing_held} {k = flagged 3 (codes "--json")} refl refl) refl
    differences_prefers json prefer is

differences_takes : (json : Bool) (prefer : Option Text) → IsOptionText prefer → TakesPair 3 (codes "differences") (json_words json prefer)
    (held_first 3 json prefer) (λ left right. differences_request json left right prefer)
unfolding clap_on_literals
differences_takes false None is =
    record {
      leads = differences_leads false None is;
      goes_on = λ left. refl;
      passes = λ left right. refl;
      enters = λ name left right. refl;
      named = λ name left right. refl;
      makes = λ left right. refl;
    }
differences_takes false (Some []) is = absurd is
differences_takes false (Some (x ∷ xs)) is =
    record {
      leads = differences_leads false (Some (x ∷ xs)) is;
      goes_on = λ left. refl;
      passes = λ left right. then_passes x xs;
      enters = λ name left right. refl;
      named = λ name left right. refl;
      makes = λ left right. refl;
    }
differences_takes true None is =
    record {
      leads = differences_leads true None is;
      goes_on = λ left. refl;
      passes = λ left right. refl;
      enters = λ name left right. refl;
      named = λ name left right. refl;
      makes = λ left right. refl;
    }
differences_takes true (Some []) is = absurd is
differences_takes true (Some (x ∷ xs)) is =
    record {
      leads = differences_leads true (Some (x ∷ xs)) is;
      goes_on = λ left. refl;
      passes = λ left right. then_passes x xs;
      enters = λ name left right. refl;
      named = λ name left right. refl;
      makes = λ left right. refl;
    }

both_ballots_take : (json : Bool) (prefer : Option Text) → IsOptionText prefer → TakesPair 4 (codes "ballots") (json_words json prefer)
    (held_first 4 json prefer) (λ left right. ballots_request json left (Some right) prefer)
unfolding clap_on_literals
both_ballots_take false None is =
    record {
      leads = ballots_leads false None is;
      goes_on = λ left. refl;
      passes = λ left right. refl;
      enters = λ name left right. refl;
      named = λ name left right. refl;
      makes = λ left right. refl;
    }
both_ballots_take false (Some []) is = absurd is
both_ballots_take false (Some (x ∷ xs)) is =
    record {
      leads = ballots_leads false (Some (x ∷ xs)) is;
      goes_on = λ left. refl;
      passes = λ left right. then_passes x xs;
      enters = λ name left right. refl;
      named = λ name left right. refl;
      makes = λ left right. refl;
    }
both_ballots_take true None is =
    record {
      leads = ballots_leads true None is;
      goes_on = λ left. refl;
      passes = λ left right. refl;
      enters = λ name left right. refl;
      named = λ name left right. refl;
      makes = λ left right. refl;
    }
both_ballots_take true (Some []) is = absurd is
both_ballots_take true (Some (x ∷ xs)) is =
    record {
      leads = ballots_leads true (Some (x ∷ xs)) is;
      goes_on = λ left. refl;
      passes = λ left right. then_passes x xs;
      enters = λ name left right. refl;
      named = λ name left right. refl;
      makes = λ left right. refl;
    }

-- ---- each exact line

pub line_taken : (request : Request) (name : Text) → HasPlainWords request → IsTaken (name ∷ words_of request) request
line_taken Filter name h = none_taken name
line_taken (Check file prefer) name h = file_taken (check_takes false prefer h.1) name file (file_plain file h.0)
line_taken (CheckData file prefer) name h = file_taken (check_takes true prefer h.1) name file (file_plain file h.0)
line_taken (Canon file prefer) name h = file_taken (canon_takes prefer h.1) name file (file_plain file h.0)
line_taken (Compare left right prefer) name h = pair_taken (compare_takes false prefer h.2) name left right (file_plain left h.0) (file_plain right h.1)
line_taken (CompareData left right prefer) name h = pair_taken (compare_takes true prefer h.2) name left right (file_plain left h.0) (file_plain right h.1)
line_taken (Differences left right prefer) name h = pair_taken (differences_takes false prefer h.2) name left right (file_plain left h.0) (file_plain right h.1)
line_taken (DifferencesData left right prefer) name h = pair_taken (differences_takes true prefer h.2) name left right
    (file_plain left h.0) (file_plain right h.1)
line_taken (Prepare file steps prefer) name h = file_taken (prepare_takes steps prefer h.1 h.2) name file (file_plain file h.0)
line_taken (PrepareList file) name h = file_taken list_takes name file (file_plain file h)
line_taken (PrepareReport file steps) name h = file_taken (report_takes steps h.1) name file (file_plain file h.0)
line_taken (Ballots file prefer) name h = file_taken (ballots_takes false prefer h.1) name file (file_plain file h.0)
line_taken (BallotsData file prefer) name h = file_taken (ballots_takes true prefer h.1) name file (file_plain file h.0)
line_taken (BallotDifferences left right prefer) name h = pair_taken (both_ballots_take false prefer h.2) name left right
    (file_plain left h.0) (file_plain right h.1)
line_taken (BallotDifferencesData left right prefer) name h =
    pair_taken (both_ballots_take true prefer h.2) name left right (file_plain left h.0) (file_plain right h.1)

pub program_simple : is_simple program ≡ true
unfolding clap_on_literals
program_simple = refl

pub program_free : is_simple_and_free program ≡ true
unfolding clap_on_literals
program_free = refl

-- ---- the request that a parse makes, and the fault that its error is passed on as

-- where the answer is a request, or else out of memory
pub exact_of : (r : Result Request LineFault) (found request : Request) → MatchResult r (λ answer. answer ≡ found) (λ fault. fault ≡ Memory) → found ≡ request
    → MatchResult r (λ answer. answer ≡ request) (λ fault. fault ≡ Memory)
exact_of (Ok answer) found request is e = is ∙ e
exact_of (Err fault) found request is e = is

pub read_of : (words : List (List ℕ)) (r : Result Request LineFault) (found : Request) → MatchResult r (λ answer. answer ≡ found) (λ fault. fault ≡ Memory)
    → found ≡ request_in (subcommand_of program words) → fault_of program words ≡ [] → IsLineRead words r
read_of words (Ok answer) found is e none = (is ∙ e, none)
read_of words (Err Memory) found is e none = tt
read_of words (Err (Help text)) found is e none = absurd (cc)
read_of words (Err (Usage text)) found is e none = absurd (cc)

-- where it is a fault
pub fault_read : (words : List (List ℕ)) (kind : ErrorKind) (fault : LineFault) → IsFaultFor kind fault → (takes program words ≡ true → kind ≡ OutOfMemory)
    → (kind ≡ OutOfMemory → fault ≡ Memory) → (kind ≡ OutOfMemory) ⊎ IsAmong kind (fault_of program words) → IsLineRead words (Err fault)
fault_read words kind Memory is passes memory among = tt
fault_read words kind (Help text) is passes memory (inl none) = let e : Help text ≡ Memory = memory none in absurd (cc)
fault_read words kind (Help text) is passes memory (inr among) =
    (λ taken. let e : Help text ≡ Memory = memory (passes taken) in absurd (cc), subst (λ (k : ErrorKind). IsAmong k (fault_of program words)) is among)
fault_read words kind (Usage text) is passes memory (inl none) = let e : Usage text ≡ Memory = memory none in absurd (cc)
fault_read words kind (Usage text) is passes memory (inr among) =
    (λ taken. let e : Usage text ≡ Memory = memory (passes taken) in absurd (cc), (kind, is.0, among))

-- What any words of a command line are read as, by `clap`'s rules.
use Rattle.std.specs.Prelude.{◌≡◌, ◌≢◌, true, false, ℕ, Bool, List, [], ◌∷◌, Option, Some, None, Result, Ok, Err, MatchResult, codes, bytes_eq, if◌then◌else◌}
use Rattle.std.specs.Prelude.{unwrap_or}
use Rattle.clap.specs.Words.{IsAmong, Row, fault_of, first_of, subcommand_of, takes}
use Rattle.clap.specs.declared.error.kind.ErrorKind.{ErrorKind}
use Rattle.clap.specs.declared.error.kind.ErrorKind.TheVariants.{DisplayHelp, OutOfMemory}
use Rattle.erd_canon.specs.declared.commands.request.LineFault.{LineFault}
use Rattle.erd_canon.specs.declared.commands.request.LineFault.TheVariants.{Help, Usage, Memory}
use Rattle.erd_canon.specs.declared.commands.request.Request.{Request}
use Rattle.erd_canon.specs.declared.commands.request.Request.TheVariants.{Filter, Check, Canon, Compare, CheckData, CompareData, Differences, DifferencesData}
use Rattle.erd_canon.specs.declared.commands.request.Request.TheVariants.{Prepare, PrepareList, PrepareReport, Ballots, BallotsData, BallotDifferences}
use Rattle.erd_canon.specs.declared.commands.request.Request.TheVariants.{BallotDifferencesData}
use Rattle.erd_canon.specs.ExactLines.{HasPlainWords, words_of}
use Rattle.erd_canon.specs.Options.{has_flag, preference_in, steps_in}
use Rattle.erd_canon.specs.Subcommands.{program}

-- The word that was given for the required argument with this name.
abbrev pub word_for : List ℕ → List Row → List ℕ
word_for id rows = unwrap_or (first_of id rows) []

-- The request to check a file, with JSON or with lines as the answer.
abbrev pub check_request : Bool → List ℕ → Option (List ℕ) → Request
check_request false file prefer = Check file prefer
check_request true file prefer = CheckData file prefer

-- The request to compare two files, with JSON or with a line as the answer.
abbrev pub compare_request : Bool → List ℕ → List ℕ → Option (List ℕ) → Request
compare_request false left right prefer = Compare left right prefer
compare_request true left right prefer = CompareData left right prefer

-- The request to list the differences of two files, with JSON or with lines as the answer.
abbrev pub differences_request : Bool → List ℕ → List ℕ → Option (List ℕ) → Request
differences_request false left right prefer = Differences left right prefer
differences_request true left right prefer = DifferencesData left right prefer

-- The request of the subcommand with this name that takes two files.
abbrev pub pair_request : List ℕ → Bool → List ℕ → List ℕ → Option (List ℕ) → Request
pair_request name json left right prefer =
    if bytes_eq name (codes "compare") then compare_request json left right prefer else differences_request json left right prefer

-- The request for the ballots of one file, or for those that differ if there is a second one, with JSON or with lines as the
-- answer.
abbrev pub ballots_request : Bool → List ℕ → Option (List ℕ) → Option (List ℕ) → Request
ballots_request false file None prefer = Ballots file prefer
ballots_request true file None prefer = BallotsData file prefer
ballots_request false left (Some right) prefer = BallotDifferences left right prefer
ballots_request true left (Some right) prefer = BallotDifferencesData left right prefer

-- The request to prepare a file: with the list of what the steps would do as the answer, or else with a report on what they did,
-- or else with the prepared file. The list goes before the report if both are asked for.
abbrev pub prepare_request : Bool → Bool → List ℕ → Option (List ℕ) → Option (List ℕ) → Request
prepare_request true report file steps prefer = PrepareList file
prepare_request false true file steps prefer = PrepareReport file steps
prepare_request false false file steps prefer = Prepare file steps prefer

-- The request of the subcommand `ballots`, for what was given for its arguments.
abbrev pub ballots_in : List Row → Request
ballots_in rows = ballots_request (has_flag (codes "json") rows) (word_for (codes "FILE") rows) (first_of (codes "RIGHT") rows) (preference_in rows)

-- The request of the subcommand `prepare`, for what was given for its arguments.
abbrev pub preparation_in : List Row → Request
preparation_in rows = prepare_request (has_flag (codes "list") rows) (has_flag (codes "report") rows) (word_for (codes "FILE") rows)
    (steps_in rows) (preference_in rows)

-- The request of the subcommand with this name, for what was given for its arguments.
abbrev pub subcommand_request : List ℕ → List Row → Request
subcommand_request name rows =
    if bytes_eq name (codes "check") then check_request (has_flag (codes "json") rows) (word_for (codes "FILE") rows) (preference_in rows)
    else (if bytes_eq name (codes "canon") then Canon (word_for (codes "FILE") rows) (preference_in rows)
    else (if bytes_eq name (codes "ballots") then ballots_in rows
    else (if bytes_eq name (codes "prepare") then preparation_in rows
    else pair_request name (has_flag (codes "json") rows) (word_for (codes "LEFT") rows) (word_for (codes "RIGHT") rows) (preference_in rows))))

-- The request of the subcommand that was found in the words, if any.
abbrev pub request_in : Option (List ℕ × List Row) → Request
request_in None = Filter
request_in (Some found) = subcommand_request found.0 found.1

-- The words are read as this request only if the grammar has no fault for them, and then it is the one that they make.
-- Help and usage are the answer only if the grammar does not take the words, and by the kind of a fault that it has for
-- them. Out of memory may always be the answer.
abbrev pub IsLineRead : List (List ℕ) → Result Request LineFault → Type 0
IsLineRead words (Ok request) = (request ≡ request_in (subcommand_of program words)) × (fault_of program words ≡ [])
IsLineRead words (Err (Help text)) = (takes program words ≢ true) × IsAmong DisplayHelp (fault_of program words)
IsLineRead words (Err (Usage text)) =
    (takes program words ≢ true) × ((kind : ErrorKind) × (kind ≢ DisplayHelp) × IsAmong kind (fault_of program words))
IsLineRead words (Err Memory) = Unit {0}

-- If the words are an exact line of a request, this request was read, or else the program is out of memory.
abbrev pub IsReadExactly : List (List ℕ) → Result Request LineFault → Type 0
IsReadExactly words found = (request : Request) (name : List ℕ) → HasPlainWords request → words ≡ name ∷ words_of request
    → MatchResult found (λ answer. answer ≡ request) (λ fault. fault ≡ Memory)

-- An error of the parser with this kind is passed on as this fault.
abbrev pub IsFaultFor : ErrorKind → LineFault → Type 0
IsFaultFor kind (Help text) = kind ≡ DisplayHelp
IsFaultFor kind (Usage text) = (kind ≢ DisplayHelp) × (kind ≢ OutOfMemory)
IsFaultFor kind Memory = Unit {0}

-- What the words of a command line are answered with as data. docs/API.md describes the answers.
use Rattle.std.specs.Prelude.{◌≡◌, ℕ, Bool, true, false, List, [], ◌∷◌, map, codes, Option, Some, None, Result, Ok, Err}
use Rattle.serde_json.specs.Data.{Data, string, array, object, member}
use Rattle.serde_json.specs.View.{items_of}
use Rattle.erd_canon.specs.DataAnswers.{IsDataText}
use Rattle.erd_canon.specs.Options.{option_members, preparation_members}
use Rattle.erd_canon.specs.ReadLines.{IsLineRead, IsReadExactly}
use Rattle.erd_canon.specs.declared.commands.request.LineFault.{LineFault}
use Rattle.erd_canon.specs.declared.commands.request.LineFault.TheVariants.{Help, Usage, Memory}
use Rattle.erd_canon.specs.declared.commands.request.Request.{Request}
use Rattle.erd_canon.specs.declared.commands.request.Request.TheVariants.{Filter, Check, Canon, Compare, CheckData, CompareData, Differences, DifferencesData}
use Rattle.erd_canon.specs.declared.commands.request.Request.TheVariants.{Prepare, PrepareList, PrepareReport, Ballots, BallotsData, BallotDifferences}
use Rattle.erd_canon.specs.declared.commands.request.Request.TheVariants.{BallotDifferencesData}

-- The JSON object of a command. Its members are `command`, `files` with the names of the files, and each option.
abbrev pub command_data : List ℕ → List (List ℕ) → Bool → Option (List ℕ) → Data
command_data command files json prefer =
    object (member (codes "command") (string command) (member (codes "files") (array (items_of (map string files))) (option_members json prefer)))

-- The JSON object of a preparation. It has members for its own options too.
abbrev pub preparation_data : Bool → Bool → List ℕ → Option (List ℕ) → Option (List ℕ) → Data
preparation_data list report file steps prefer =
    object (member (codes "command") (string (codes "prepare"))
    (member (codes "files") (array (items_of (map string (file ∷ [])))) (preparation_members list report steps prefer)))

-- The JSON object of a request. The command without a word is `filter`, and the left file of a comparison is the first.
abbrev pub request_data : Request → Data
request_data Filter = command_data (codes "filter") [] false None
request_data (Check file prefer) = command_data (codes "check") (file ∷ []) false prefer
request_data (Canon file prefer) = command_data (codes "canon") (file ∷ []) false prefer
request_data (Compare left right prefer) = command_data (codes "compare") (left ∷ right ∷ []) false prefer
request_data (CheckData file prefer) = command_data (codes "check") (file ∷ []) true prefer
request_data (CompareData left right prefer) = command_data (codes "compare") (left ∷ right ∷ []) true prefer
request_data (Differences left right prefer) = command_data (codes "differences") (left ∷ right ∷ []) false prefer
request_data (DifferencesData left right prefer) = command_data (codes "differences") (left ∷ right ∷ []) true prefer
request_data (Prepare file steps prefer) = preparation_data false false file steps prefer
request_data (PrepareList file) = preparation_data true false file None None
request_data (PrepareReport file steps) = preparation_data false true file steps None
request_data (Ballots file prefer) = command_data (codes "ballots") (file ∷ []) false prefer
request_data (BallotsData file prefer) = command_data (codes "ballots") (file ∷ []) true prefer
request_data (BallotDifferences left right prefer) = command_data (codes "ballots") (left ∷ right ∷ []) false prefer
request_data (BallotDifferencesData left right prefer) = command_data (codes "ballots") (left ∷ right ∷ []) true prefer

-- A line that was read as this is answered with this exit status and this text: a request with no status and the text of its
-- object, help with status 0 and the help text, wrong words with status 3 and the text that says why. Running out of memory is
-- no answer.
abbrev pub IsAnswerTo : Result Request LineFault → Option ℕ → List ℕ → Type 0
IsAnswerTo (Ok request) status text = (status ≡ None) × IsDataText text (request_data request)
IsAnswerTo (Err (Help words)) status text = (status ≡ Some 0) × (text ≡ words)
IsAnswerTo (Err (Usage words)) status text = (status ≡ Some 3) × (text ≡ words)
IsAnswerTo (Err Memory) status text = ⊥

-- Some line was read from the words, as the command line is read, and it is answered with this exit status and this text.
pub record IsLineData (words : List (List ℕ)) (status : Option ℕ) (text : List ℕ) : Type 0 where
  pub found : Result Request LineFault
  pub exact : IsReadExactly words found
  pub read : IsLineRead words found
  pub answer : IsAnswerTo found status text

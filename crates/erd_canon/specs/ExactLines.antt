-- The exact command lines.
use Rattle.std.specs.Prelude.{◌≢◌, ◌++◌, ℕ, List, [], ◌∷◌, Option, Some, None, codes}
use Rattle.erd_canon.specs.Options.{preference_words, steps_words}
use Rattle.erd_canon.specs.declared.commands.request.Request.{Request}
use Rattle.erd_canon.specs.declared.commands.request.Request.TheVariants.{Filter, Check, Canon, Compare, CheckData, CompareData, Differences, DifferencesData}
use Rattle.erd_canon.specs.declared.commands.request.Request.TheVariants.{Prepare, PrepareList, PrepareReport, Ballots, BallotsData, BallotDifferences}
use Rattle.erd_canon.specs.declared.commands.request.Request.TheVariants.{BallotDifferencesData}

-- The words after the program's name that make this request.
abbrev pub words_of : Request → List (List ℕ)
words_of Filter = []
words_of (Check file prefer) = codes "check" ∷ (preference_words prefer ++ file ∷ [])
words_of (Canon file prefer) = codes "canon" ∷ (preference_words prefer ++ file ∷ [])
words_of (Compare left right prefer) = codes "compare" ∷ (preference_words prefer ++ left ∷ right ∷ [])
words_of (CheckData file prefer) = codes "check" ∷ codes "--json" ∷ (preference_words prefer ++ file ∷ [])
words_of (CompareData left right prefer) = codes "compare" ∷ codes "--json" ∷ (preference_words prefer ++ left ∷ right ∷ [])
words_of (Differences left right prefer) = codes "differences" ∷ (preference_words prefer ++ left ∷ right ∷ [])
words_of (DifferencesData left right prefer) = codes "differences" ∷ codes "--json" ∷ (preference_words prefer ++ left ∷ right ∷ [])
words_of (Prepare file steps prefer) = codes "prepare" ∷ ((steps_words steps ++ preference_words prefer) ++ file ∷ [])
words_of (PrepareList file) = codes "prepare" ∷ codes "--list" ∷ file ∷ []
words_of (PrepareReport file steps) = codes "prepare" ∷ codes "--report" ∷ (steps_words steps ++ file ∷ [])
words_of (Ballots file prefer) = codes "ballots" ∷ (preference_words prefer ++ file ∷ [])
words_of (BallotsData file prefer) = codes "ballots" ∷ codes "--json" ∷ (preference_words prefer ++ file ∷ [])
words_of (BallotDifferences left right prefer) = codes "ballots" ∷ (preference_words prefer ++ left ∷ right ∷ [])
words_of (BallotDifferencesData left right prefer) = codes "ballots" ∷ codes "--json" ∷ (preference_words prefer ++ left ∷ right ∷ [])

-- The file name is not empty and does not begin with a hyphen.
abbrev pub IsFileName : List ℕ → Type 0
IsFileName [] = ⊥
IsFileName (first ∷ rest) = first ≢ 45

-- The text of an option, if the option is there, is not empty and does not begin with a hyphen.
abbrev pub IsOptionText : Option (List ℕ) → Type 0
IsOptionText None = Unit {0}
IsOptionText (Some text) = IsFileName text

-- No file name, no preferred type and no names of steps in the request are empty or begin with a hyphen.
abbrev pub HasPlainWords : Request → Type 0
HasPlainWords Filter = Unit {0}
HasPlainWords (Check file prefer) = IsFileName file × IsOptionText prefer
HasPlainWords (Canon file prefer) = IsFileName file × IsOptionText prefer
HasPlainWords (Compare left right prefer) = IsFileName left × IsFileName right × IsOptionText prefer
HasPlainWords (CheckData file prefer) = IsFileName file × IsOptionText prefer
HasPlainWords (CompareData left right prefer) = IsFileName left × IsFileName right × IsOptionText prefer
HasPlainWords (Differences left right prefer) = IsFileName left × IsFileName right × IsOptionText prefer
HasPlainWords (DifferencesData left right prefer) = IsFileName left × IsFileName right × IsOptionText prefer
HasPlainWords (Prepare file steps prefer) = IsFileName file × IsOptionText steps × IsOptionText prefer
HasPlainWords (PrepareList file) = IsFileName file
HasPlainWords (PrepareReport file steps) = IsFileName file × IsOptionText steps
HasPlainWords (Ballots file prefer) = IsFileName file × IsOptionText prefer
HasPlainWords (BallotsData file prefer) = IsFileName file × IsOptionText prefer
HasPlainWords (BallotDifferences left right prefer) = IsFileName left × IsFileName right × IsOptionText prefer
HasPlainWords (BallotDifferencesData left right prefer) = IsFileName left × IsFileName right × IsOptionText prefer

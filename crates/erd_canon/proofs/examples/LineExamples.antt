-- The exact lines, and what `clap` makes of others, on examples.
use Rattle.erd_canon.proofs.Common.{◌≡◌, ℕ, Bool, true, false, List, [], ◌∷◌, map, Option, Some, None, codes, refl, arith, clap_on_literals, subcommand_of}
use Rattle.erd_canon.proofs.Common.{takes, Kinds, fault_of, DisplayHelp, MissingRequiredArgument, UnknownArgument, words_of, HasPlainWords, request_in, program}
use Rattle.erd_canon.specs.declared.commands.request.Request.{Request}
use Rattle.erd_canon.specs.declared.commands.request.Request.TheVariants.{Filter, Check, Canon, Compare, CheckData, CompareData, Differences, DifferencesData}
use Rattle.erd_canon.specs.declared.commands.request.Request.TheVariants.{Prepare, PrepareList, PrepareReport, Ballots, BallotsData, BallotDifferences}
use Rattle.erd_canon.specs.declared.commands.request.Request.TheVariants.{BallotDifferencesData}

-- the rows of the program's table; a type stands between the subcommand and the first file
words : map words_of (Filter ∷ Check (codes "a") None ∷ Canon (codes "a") None ∷ Compare (codes "a") (codes "b") None
    ∷ Check (codes "a") (Some (codes "fips")) ∷ Compare (codes "a") (codes "b") (Some (codes "fips")) ∷ [])
    ≡ [] ∷ (codes "check" ∷ codes "a" ∷ []) ∷ (codes "canon" ∷ codes "a" ∷ []) ∷ (codes "compare" ∷ codes "a" ∷ codes "b" ∷ [])
    ∷ (codes "check" ∷ codes "--prefer" ∷ codes "fips" ∷ codes "a" ∷ []) ∷ (codes "compare" ∷ codes "--prefer" ∷ codes "fips" ∷ codes "a" ∷ codes "b" ∷ []) ∷ []
words = refl

-- `--json` stands behind the subcommand, and a type behind it
words_for_json : map words_of (CheckData (codes "a") None ∷ CompareData (codes "a") (codes "b") None ∷ Differences (codes "a") (codes "b") (Some (codes "fips"))
    ∷ DifferencesData (codes "a") (codes "b") (Some (codes "fips")) ∷ [])
    ≡ (codes "check" ∷ codes "--json" ∷ codes "a" ∷ []) ∷ (codes "compare" ∷ codes "--json" ∷ codes "a" ∷ codes "b" ∷ [])
    ∷ (codes "differences" ∷ codes "--prefer" ∷ codes "fips" ∷ codes "a" ∷ codes "b" ∷ [])
    ∷ (codes "differences" ∷ codes "--json" ∷ codes "--prefer" ∷ codes "fips" ∷ codes "a" ∷ codes "b" ∷ []) ∷ []
words_for_json = refl

-- ballots of one file and of two, with the same options
words_for_ballots : map words_of (Ballots (codes "a") None ∷ BallotsData (codes "a") (Some (codes "fips")) ∷ BallotDifferences (codes "a")
    (codes "b") (Some (codes "fips"))
    ∷ BallotDifferencesData (codes "a") (codes "b") None ∷ [])
    ≡ (codes "ballots" ∷ codes "a" ∷ []) ∷ (codes "ballots" ∷ codes "--json" ∷ codes "--prefer" ∷ codes "fips" ∷ codes "a" ∷ [])
    ∷ (codes "ballots" ∷ codes "--prefer" ∷ codes "fips" ∷ codes "a" ∷ codes "b" ∷ []) ∷ (codes "ballots" ∷ codes "--json" ∷ codes "a" ∷ codes "b" ∷ []) ∷ []
words_for_ballots = refl

-- steps stand before a type, and behind `--report`
words_for_steps : map words_of (Prepare (codes "a") None None ∷ Prepare (codes "a") (Some (codes "nulls,codes")) (Some (codes "fips")) ∷ PrepareList (codes "a")
    ∷ PrepareReport (codes "a") None ∷ PrepareReport (codes "a") (Some (codes "visible")) ∷ [])
    ≡ (codes "prepare" ∷ codes "a" ∷ []) ∷ (codes "prepare" ∷ codes "--steps" ∷ codes "nulls,codes" ∷ codes "--prefer" ∷ codes "fips" ∷ codes "a" ∷ [])
    ∷ (codes "prepare" ∷ codes "--list" ∷ codes "a" ∷ []) ∷ (codes "prepare" ∷ codes "--report" ∷ codes "a" ∷ [])
    ∷ (codes "prepare" ∷ codes "--report" ∷ codes "--steps" ∷ codes "visible" ∷ codes "a" ∷ []) ∷ []
words_for_steps = refl

-- a name may have blanks and hyphens inside, and so may a type
names : HasPlainWords (Compare (codes "a -b") (codes " -") (Some (codes " -c")))
names = (λ e. absurd (omega (arith, e)), λ e. absurd (omega (arith, e)), λ e. absurd (omega (arith, e)))

-- it is not empty, and does not begin with a hyphen, on either side
no_names : (HasPlainWords (Check [] None) → ⊥) × (HasPlainWords (Check (codes "a") (Some [])) → ⊥) × (HasPlainWords (Canon (codes "-a") None) → ⊥)
    × (HasPlainWords (Compare (codes "a") (codes "-") None) → ⊥) × (HasPlainWords (Canon (codes "a") (Some (codes "--prefer"))) → ⊥)
no_names = (λ h. h.0, λ h. h.1, λ h. h.0 refl, λ h. h.1 refl, λ h. h.1 refl)

-- whether the words after the program's name are a line of it
abbrev is_line : List (List ℕ) → Bool
is_line words = takes program (codes "erd" ∷ words)

-- another subcommand, and none of its own names in other letters; too few names, and too many
other_words : map is_line ((codes "nosuch" ∷ []) ∷ (codes "Check" ∷ codes "a" ∷ []) ∷ (codes "check" ∷ []) ∷ (codes "compare" ∷ codes "a" ∷ [])
    ∷ (codes "canon" ∷ codes "a" ∷ codes "b" ∷ []) ∷ (codes "compare" ∷ codes "a" ∷ codes "b" ∷ codes "c" ∷ []) ∷ [])
    ≡ false ∷ false ∷ false ∷ false ∷ false ∷ false ∷ []
unfolding clap_on_literals
other_words = refl

-- no type, an empty one, a type where there is no subcommand, and two
other_types : map is_line ((codes "check" ∷ codes "--prefer" ∷ codes "a" ∷ []) ∷ (codes "check" ∷ codes "a" ∷ codes "--prefer" ∷ [])
    ∷ (codes "canon" ∷ codes "--prefer" ∷ [] ∷ codes "a" ∷ [])
    ∷ (codes "--prefer" ∷ codes "fips" ∷ []) ∷ (codes "check" ∷ codes "--prefer" ∷ codes "b" ∷ codes "--prefer" ∷ codes "c" ∷ codes "a" ∷ []) ∷ [])
    ≡ false ∷ false ∷ false ∷ false ∷ false ∷ []
unfolding clap_on_literals
other_types = refl

-- `--json` where there is no subcommand, after `canon`, twice, and with a value
other_json : map is_line ((codes "--json" ∷ []) ∷ (codes "canon" ∷ codes "--json" ∷ codes "a" ∷ [])
    ∷ (codes "check" ∷ codes "--json" ∷ codes "--json" ∷ codes "a" ∷ [])
    ∷ (codes "check" ∷ codes "--json=true" ∷ codes "a" ∷ []) ∷ [])
    ≡ false ∷ false ∷ false ∷ false ∷ []
unfolding clap_on_literals
other_json = refl

-- `--json` of a preparation, an option of one where it isn't known, no steps, too few names, and too many
other_options : map is_line ((codes "prepare" ∷ codes "--json" ∷ codes "a" ∷ []) ∷ (codes "check" ∷ codes "--list" ∷ codes "a" ∷ [])
    ∷ (codes "ballots" ∷ codes "--steps" ∷ codes "b" ∷ codes "a" ∷ [])
    ∷ (codes "prepare" ∷ codes "--steps" ∷ [] ∷ codes "a" ∷ []) ∷ (codes "prepare" ∷ codes "--list" ∷ []) ∷ (codes "prepare" ∷ codes "a" ∷ codes "b" ∷ [])
    ∷ (codes "ballots" ∷ []) ∷ (codes "ballots" ∷ codes "a" ∷ codes "b" ∷ codes "c" ∷ []) ∷ [])
    ≡ false ∷ false ∷ false ∷ false ∷ false ∷ false ∷ false ∷ false ∷ []
unfolding clap_on_literals
other_options = refl

-- ---- what other words are read as

abbrev read_as : List (List ℕ) → Request
read_as words = request_in (subcommand_of program (codes "erd" ∷ words))

abbrev faults_of : List (List ℕ) → Kinds
faults_of words = fault_of program (codes "erd" ∷ words)

type_joined_taken : is_line (codes "compare" ∷ codes "--prefer=fips" ∷ codes "a" ∷ codes "b" ∷ []) ≡ true
unfolding clap_on_literals
type_joined_taken = refl

-- the type after an equals sign, the option after a file, and a file whose name begins with a hyphen, after two hyphens
read_so : map read_as ((codes "compare" ∷ codes "--prefer=fips" ∷ codes "a" ∷ codes "b" ∷ [])
    ∷ (codes "check" ∷ codes "a" ∷ codes "--prefer" ∷ codes "fips" ∷ [])
    ∷ (codes "compare" ∷ codes "a" ∷ codes "--prefer=fips" ∷ codes "b" ∷ []) ∷ (codes "canon" ∷ codes "--" ∷ codes "-a" ∷ []) ∷ [])
    ≡ Compare (codes "a") (codes "b") (Some (codes "fips")) ∷ Check (codes "a") (Some (codes "fips")) ∷ Compare (codes "a") (codes "b") (Some (codes "fips"))
    ∷ Canon (codes "-a") None ∷ []
unfolding clap_on_literals
read_so = refl

-- `--json` behind a type, and after a file
json_read : map read_as ((codes "compare" ∷ codes "--prefer" ∷ codes "fips" ∷ codes "--json" ∷ codes "a" ∷ codes "b" ∷ [])
    ∷ (codes "check" ∷ codes "a" ∷ codes "--json" ∷ [])
    ∷ (codes "differences" ∷ codes "a" ∷ codes "--json" ∷ codes "b" ∷ []) ∷ [])
    ≡ CompareData (codes "a") (codes "b") (Some (codes "fips")) ∷ CheckData (codes "a") None ∷ DifferencesData (codes "a") (codes "b") None ∷ []
unfolding clap_on_literals
json_read = refl

-- the list goes before the report, the steps and the type; options in another order, and a second file behind one
steps_read : map read_as ((codes "prepare" ∷ codes "--report" ∷ codes "--list" ∷ codes "--steps" ∷ codes "b" ∷ codes "a" ∷ [])
    ∷ (codes "prepare" ∷ codes "--prefer" ∷ codes "fips" ∷ codes "--report" ∷ codes "a" ∷ [])
    ∷ (codes "prepare" ∷ codes "a" ∷ codes "--prefer=fips" ∷ codes "--steps=b" ∷ []) ∷ (codes "ballots" ∷ codes "a" ∷ codes "--json" ∷ codes "b" ∷ []) ∷ [])
    ≡ PrepareList (codes "a") ∷ PrepareReport (codes "a") None ∷ Prepare (codes "a") (Some (codes "b")) (Some (codes "fips")) ∷ BallotDifferencesData
    (codes "a") (codes "b") None ∷ []
unfolding clap_on_literals
steps_read = refl

-- help, and words that are none of the program's
faults : map faults_of ((codes "--help" ∷ []) ∷ (codes "check" ∷ codes "-h" ∷ []) ∷ (codes "check" ∷ [])
    ∷ (codes "check" ∷ codes "--nosuch" ∷ codes "a" ∷ []) ∷ [])
    ≡ (DisplayHelp ∷ []) ∷ (DisplayHelp ∷ []) ∷ (MissingRequiredArgument ∷ []) ∷ (UnknownArgument ∷ []) ∷ []
unfolding clap_on_literals
faults = refl

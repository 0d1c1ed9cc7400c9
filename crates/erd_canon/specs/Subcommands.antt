-- The command line as the parser of command lines sees it.
use Rattle.std.specs.Prelude.{true, List, ℕ, Some, codes}
use Rattle.clap.specs.Words.{App, Rule, new_app, new_rule, with_rule, with_subcommand}
use Rattle.clap.specs.declared.builder.action.ArgAction.TheVariants.{SetTrue}
use Rattle.clap.specs.declared.builder.value_parser.ValueParser.TheVariants.{NonEmptyString}

-- A required argument.
abbrev pub file_rule : List ℕ → Rule
file_rule id = record (new_rule id) { required = true }

-- An argument that may be left out.
abbrev pub optional_file_rule : List ℕ → Rule
optional_file_rule id = new_rule id

-- A flag with this name, which may be left out, as `--json`.
abbrev pub flag_rule : List ℕ → Rule
flag_rule name = record (new_rule name) { long = Some name; action = Some SetTrue }

-- An option with this name that takes a text, as `--prefer TYPE`, and may be left out. The text must not be empty.
abbrev pub text_rule : List ℕ → List ℕ → Rule
text_rule id name = record (new_rule id) { long = Some name; parser = Some NonEmptyString }

-- The option `--json`.
abbrev pub json_rule : Rule
json_rule = flag_rule (codes "json")

-- The option `--list`.
abbrev pub list_rule : Rule
list_rule = flag_rule (codes "list")

-- The option `--report`.
abbrev pub report_rule : Rule
report_rule = flag_rule (codes "report")

-- The option `--prefer TYPE`.
abbrev pub prefer_rule : Rule
prefer_rule = text_rule (codes "TYPE") (codes "prefer")

-- The option `--steps STEPS`.
abbrev pub steps_rule : Rule
steps_rule = text_rule (codes "STEPS") (codes "steps")

-- A subcommand with this name that takes `--prefer TYPE`.
abbrev pub preferring : List ℕ → App
preferring name = with_rule (new_app name) prefer_rule

-- A subcommand with this name that takes `--json` and `--prefer TYPE`.
abbrev pub answering : List ℕ → App
answering name = with_rule (with_rule (new_app name) json_rule) prefer_rule

-- `check FILE`
abbrev pub check_subcommand : App
check_subcommand = with_rule (answering (codes "check")) (file_rule (codes "FILE"))

-- `canon FILE`
abbrev pub canon_subcommand : App
canon_subcommand = with_rule (preferring (codes "canon")) (file_rule (codes "FILE"))

-- `compare LEFT RIGHT`
abbrev pub compare_subcommand : App
compare_subcommand = with_rule (with_rule (answering (codes "compare")) (file_rule (codes "LEFT"))) (file_rule (codes "RIGHT"))

-- `differences LEFT RIGHT`
abbrev pub differences_subcommand : App
differences_subcommand = with_rule (with_rule (answering (codes "differences")) (file_rule (codes "LEFT"))) (file_rule (codes "RIGHT"))

-- `ballots FILE` and `ballots FILE RIGHT`
abbrev pub ballots_subcommand : App
ballots_subcommand = with_rule (with_rule (answering (codes "ballots")) (file_rule (codes "FILE"))) (optional_file_rule (codes "RIGHT"))

-- `prepare FILE`
abbrev pub prepare_subcommand : App
prepare_subcommand = with_rule (with_rule (with_rule (with_rule (with_rule (new_app (codes "prepare")) list_rule) report_rule) steps_rule) prefer_rule)
    (file_rule (codes "FILE"))

-- The program and its six subcommands.
abbrev pub program : App
program = with_subcommand (with_subcommand (with_subcommand (with_subcommand (with_subcommand (with_subcommand (new_app (codes "erd"))
    check_subcommand.top) canon_subcommand.top) compare_subcommand.top) differences_subcommand.top) ballots_subcommand.top) prepare_subcommand.top

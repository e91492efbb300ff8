-- The commands and their arguments, as clap's definition of what a parse reads has them.
use Rattle.std.specs.Prelude.{true, [], ◌∷◌, ◌++◌, Some, codes}
use Rattle.clap.specs.Walk.{Rule, Text}
use Rattle.clap.specs.Simple.{App, Shape, new_app, new_rule, new_shape, with_subcommand}
use Rattle.clap.specs.declared.builder.action.ArgAction.TheVariants.{SetTrue}

-- a word that has to be there
abbrev pub required_rule : Text → Rule
required_rule id = record (new_rule id) { required = true }

-- `--id VALUE`
abbrev pub option_rule : Text → Rule
option_rule id = record (new_rule id) { long = Some id }

-- `--id`
abbrev pub flag_rule : Text → Rule
flag_rule id = record (new_rule id) { long = Some id; action = Some SetTrue }

-- a command with one more argument, the last
abbrev pub with_argument : Shape → Rule → Shape
with_argument s rule = record s { rules = s.rules ++ rule ∷ [] }

-- a command of this name that takes SPEC QUESTION
unfoldable pub on_question : Text → Shape
on_question name = record (new_shape name) {
  rules = required_rule (codes "SPEC") ∷ required_rule (codes "QUESTION") ∷ [];
}

-- a command with the options of a search behind its other arguments: [--budget B] [--guide K]
abbrev pub with_search_options : Shape → Shape
with_search_options s = with_argument (with_argument s (option_rule (codes "budget"))) (option_rule (codes "guide"))

-- a command of this name that takes SPEC QUESTION [--budget N] [--guide K] [--brief] [--csv]
abbrev pub asked_shape : Text → Shape
asked_shape name = record (new_shape name) {
  rules = required_rule (codes "SPEC") ∷ required_rule (codes "QUESTION") ∷ option_rule (codes "budget")
      ∷ option_rule (codes "guide") ∷ flag_rule (codes "brief") ∷ flag_rule (codes "csv") ∷ [];
}

-- ask SPEC QUESTION [--budget N] [--guide K] [--brief] [--csv] [--verdict] [--exit]
unfoldable pub ask_shape : Shape
ask_shape = with_argument (with_argument (asked_shape (codes "ask")) (flag_rule (codes "verdict"))) (flag_rule (codes "exit"))

-- verify SPEC QUESTION REPORT
unfoldable pub verify_shape : Shape
verify_shape = record (new_shape (codes "verify")) {
  rules = required_rule (codes "SPEC") ∷ required_rule (codes "QUESTION") ∷ required_rule (codes "REPORT") ∷ [];
}

-- forced SPEC
unfoldable pub forced_shape : Shape
forced_shape = record (new_shape (codes "forced")) { rules = required_rule (codes "SPEC") ∷ [] }

-- trial N
unfoldable pub trial_shape : Shape
trial_shape = record (new_shape (codes "trial")) { rules = required_rule (codes "N") ∷ [] }

-- explain SPEC QUESTION N [--budget B] [--guide K]
unfoldable pub explain_shape : Shape
explain_shape = record (new_shape (codes "explain")) {
  rules = required_rule (codes "SPEC") ∷ required_rule (codes "QUESTION") ∷ required_rule (codes "N")
      ∷ option_rule (codes "budget") ∷ option_rule (codes "guide") ∷ [];
}

-- conflicts SPEC [--budget B] [--guide K]
unfoldable pub conflicts_shape : Shape
conflicts_shape = record (new_shape (codes "conflicts")) {
  rules = required_rule (codes "SPEC") ∷ option_rule (codes "budget") ∷ option_rule (codes "guide") ∷ [];
}

-- golden SPEC RELATION [--budget B] [--guide K]
unfoldable pub golden_shape : Shape
golden_shape = record (new_shape (codes "golden")) {
  rules = required_rule (codes "SPEC") ∷ required_rule (codes "RELATION") ∷ option_rule (codes "budget")
      ∷ option_rule (codes "guide") ∷ [];
}

-- possible SPEC QUESTION [--budget N] [--guide K] [--brief] [--csv]
unfoldable pub possible_shape : Shape
possible_shape = asked_shape (codes "possible")

-- session SPEC SCRIPT [--budget B] [--guide K] [--brief]
unfoldable pub session_shape : Shape
session_shape = record (new_shape (codes "session")) {
  rules = required_rule (codes "SPEC") ∷ required_rule (codes "SCRIPT") ∷ option_rule (codes "budget")
      ∷ option_rule (codes "guide") ∷ flag_rule (codes "brief") ∷ [];
}

-- the program with no command yet: one has to be named, and neither help nor a version is added
unfoldable pub bare_line : App
bare_line = record (new_app (codes "currency")) {
  top = record (new_shape (codes "currency")) {
    disable_help_flag = true;
    disable_help_subcommand = true;
    disable_version_flag = true;
    subcommand_required = true;
  };
}

-- the program with its nine commands
unfoldable pub line : App
line = with_subcommand (with_subcommand (with_subcommand (with_subcommand (with_subcommand (with_subcommand (with_subcommand
    (with_subcommand (with_subcommand bare_line ask_shape) verify_shape) forced_shape) trial_shape) explain_shape)
    conflicts_shape) golden_shape) possible_shape) session_shape

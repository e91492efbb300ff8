-- Words of examples, and what they say.
use Rattle.std.specs.Prelude.{ℕ, Bool, List, ◌∷◌, Option, Some, codes}
use Rattle.clap.specs.Walk.{Text}
use Rattle.program_words.specs.Words.{AskFor, CertainTableFor, CommandSaid, ConflictsIn, ExplainFor, GoldenIn, PossibleFor}
use Rattle.program_words.specs.Words.{PossibleTableFor, SessionOver, command_of, table_for}
use Rattle.program_words.specs.declared.command.AnswerForm.{AnswerForm}

-- the command that these words say after the program's name
abbrev pub said : List Text → Option CommandSaid
said words = command_of (codes "currency" ∷ words)

-- the command that `ask s q` and these words say
abbrev pub said_after_ask : List Text → Option CommandSaid
said_after_ask options = said (codes "ask" ∷ codes "s" ∷ codes "q" ∷ options)

-- `ask` for s and q, with these options
abbrev pub ask_for : ℕ → AnswerForm → Bool → Option ℕ → Option CommandSaid
ask_for budget form exit guide = Some (AskFor (record {
  spec = codes "s";
  question = codes "q";
  budget = budget;
  form = form;
  exit = exit;
  guide = guide;
}))

-- the command that `explain s q`, this word and these options say
abbrev pub said_after_explain : Text → List Text → Option CommandSaid
said_after_explain unit options = said (codes "explain" ∷ codes "s" ∷ codes "q" ∷ unit ∷ options)

-- `explain` for s, q and this unit, with these options
abbrev pub explain_for : ℕ → ℕ → Option ℕ → Option CommandSaid
explain_for unit budget guide =
    Some (ExplainFor (record { spec = codes "s"; question = codes "q"; unit = unit; budget = budget; guide = guide }))

-- the command that `conflicts s` and these words say
abbrev pub said_after_conflicts : List Text → Option CommandSaid
said_after_conflicts options = said (codes "conflicts" ∷ codes "s" ∷ options)

-- `conflicts` in s, with these options
abbrev pub conflicts_in_s : ℕ → Option ℕ → Option CommandSaid
conflicts_in_s budget guide = Some (ConflictsIn (record { spec = codes "s"; budget = budget; guide = guide }))

-- the command that `golden s r` and these words say
abbrev pub said_after_golden : List Text → Option CommandSaid
said_after_golden options = said (codes "golden" ∷ codes "s" ∷ codes "r" ∷ options)

-- `golden` in s for r, with these options
abbrev pub golden_in_s : ℕ → Option ℕ → Option CommandSaid
golden_in_s budget guide =
    Some (GoldenIn (record { spec = codes "s"; relation = codes "r"; budget = budget; guide = guide }))

-- the command that `possible s q` and these words say
abbrev pub said_after_possible : List Text → Option CommandSaid
said_after_possible options = said (codes "possible" ∷ codes "s" ∷ codes "q" ∷ options)

-- `possible` for s and q, with these options
abbrev pub possible_for : ℕ → Bool → Option ℕ → Option CommandSaid
possible_for budget brief guide =
    Some (PossibleFor (record { spec = codes "s"; question = codes "q"; budget = budget; brief = brief; guide = guide }))

-- the command that `session s t` and these words say
abbrev pub said_after_session : List Text → Option CommandSaid
said_after_session options = said (codes "session" ∷ codes "s" ∷ codes "t" ∷ options)

-- `session` over s with t, with these options
abbrev pub session_over_s : ℕ → Bool → Option ℕ → Option CommandSaid
session_over_s budget brief guide =
    Some (SessionOver (record { spec = codes "s"; script = codes "t"; budget = budget; brief = brief; guide = guide }))

-- `ask --csv` and `possible --csv` for s and q, with these options
abbrev pub certain_table_for : ℕ → Option ℕ → Option CommandSaid
certain_table_for budget guide = Some (CertainTableFor (table_for (codes "s") (codes "q") budget guide))

abbrev pub possible_table_for : ℕ → Option ℕ → Option CommandSaid
possible_table_for budget guide = Some (PossibleTableFor (table_for (codes "s") (codes "q") budget guide))

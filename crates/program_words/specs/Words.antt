-- The words of the program.
use Rattle.std.specs.Prelude.{◌≡◌, ◌⊎◌, ◌&&◌, ◌||◌, ℕ, Bool, true, false, not, is_some, List, [], ◌∷◌, Option, None}
use Rattle.std.specs.Prelude.{if◌then◌else◌, codes, option_map, option_and_then}
use Rattle.std.specs.Option.{option_map_or}
use Rattle.std.specs.Str.{bytes_eq}
use Rattle.clap.specs.Walk.{Row, Text, first_of}
use Rattle.clap.specs.Simple.{subcommand_of}
use Rattle.clap.specs.Kinds.{Kinds}
use Rattle.clap.specs.Faults.{fault_of}
use Rattle.program_words.specs.Numbers.{number_if_given, number_or, number_up_to}
use Rattle.program_words.specs.Line.{line}
use Rattle.program_words.specs.declared.command.AnswerForm.{AnswerForm}
use Rattle.program_words.specs.declared.command.AnswerForm.TheVariants.{Brief, Verdict, Whole}

-- ask SPEC QUESTION, with its options: the budget, how much is told, whether the status tells an answer of no, and the one guide
-- that is kept, counted from 1
pub record AskSaid : Type 0 where
  pub spec : List ℕ
  pub question : List ℕ
  pub budget : ℕ
  pub form : AnswerForm
  pub exit : Bool
  pub guide : Option ℕ

-- verify SPEC QUESTION REPORT
pub record VerifySaid : Type 0 where
  pub spec : List ℕ
  pub question : List ℕ
  pub report : List ℕ

-- explain SPEC QUESTION N, with its options: the number of the unit, the budget, and the one guide that is kept
pub record ExplainSaid : Type 0 where
  pub spec : List ℕ
  pub question : List ℕ
  pub unit : ℕ
  pub budget : ℕ
  pub guide : Option ℕ

-- conflicts SPEC, with its options: the budget, and the one guide that is kept
pub record ConflictsSaid : Type 0 where
  pub spec : List ℕ
  pub budget : ℕ
  pub guide : Option ℕ

-- golden SPEC RELATION, with its options: the budget, and the one guide that is kept
pub record GoldenSaid : Type 0 where
  pub spec : List ℕ
  pub relation : List ℕ
  pub budget : ℕ
  pub guide : Option ℕ

-- possible SPEC QUESTION, with the options of ask: the budget, whether the text is brief, and the one guide that is kept
pub record PossibleSaid : Type 0 where
  pub spec : List ℕ
  pub question : List ℕ
  pub budget : ℕ
  pub brief : Bool
  pub guide : Option ℕ

-- session SPEC SCRIPT, with its options: the budget of each question, whether the reports are brief, and the one guide that is
-- kept
pub record SessionSaid : Type 0 where
  pub spec : List ℕ
  pub script : List ℕ
  pub budget : ℕ
  pub brief : Bool
  pub guide : Option ℕ

-- ask SPEC QUESTION --csv, or possible SPEC QUESTION --csv, with their options: the budget, and the one guide that is kept
pub record TableSaid : Type 0 where
  pub spec : List ℕ
  pub question : List ℕ
  pub budget : ℕ
  pub guide : Option ℕ

-- a command: ask, verify, forced SPEC, trial N, explain, conflicts, golden, possible, or session; ask and possible may ask for a
-- table
pub data CommandSaid : Type 0 where
  AskFor : AskSaid → CommandSaid
  VerifyOf : VerifySaid → CommandSaid
  ForcedOf : List ℕ → CommandSaid
  TrialOf : ℕ → CommandSaid
  ExplainFor : ExplainSaid → CommandSaid
  ConflictsIn : ConflictsSaid → CommandSaid
  GoldenIn : GoldenSaid → CommandSaid
  PossibleFor : PossibleSaid → CommandSaid
  CertainTableFor : TableSaid → CommandSaid
  PossibleTableFor : TableSaid → CommandSaid
  SessionOver : SessionSaid → CommandSaid

-- a flag's text says that it was given
abbrev pub is_set : Option Text → Bool
is_set text = option_map_or (λ t. bytes_eq t (codes "true")) text false

-- the command of the budget and the guide in these rows; none where one of them is wrong
abbrev pub searched_in : List Row → (ℕ → Option ℕ → CommandSaid) → Option CommandSaid
searched_in rows said =
    option_and_then (λ budget. option_map (λ guide. said budget guide) (number_if_given 4 (first_of (codes "guide") rows)))
    (number_or 100000 10000000 (first_of (codes "budget") rows))

-- the command of SPEC, QUESTION, the budget and the guide in these rows; none where a number is wrong
abbrev pub asked_in : List Row → (Text → Text → ℕ → Option ℕ → CommandSaid) → Option CommandSaid
asked_in rows said = option_and_then (λ spec. option_and_then (λ question.
    searched_in rows (λ budget guide. said spec question budget guide))
    (first_of (codes "QUESTION") rows)) (first_of (codes "SPEC") rows)

-- a flag of this name is given
abbrev pub has_flag : Text → List Row → Bool
has_flag name rows = is_set (first_of name rows)

-- two of a brief text, the verdict alone and a table are asked for, or a table whose status tells an answer of no: that of a table
-- tells it anyway
abbrev pub tells_two_ways : List Row → Bool
tells_two_ways rows = (has_flag (codes "brief") rows && has_flag (codes "verdict") rows)
    || (has_flag (codes "csv") rows && (has_flag (codes "brief") rows
    || (has_flag (codes "verdict") rows || has_flag (codes "exit") rows)))

-- how much is told, where a brief text or the verdict alone is asked for
abbrev pub form_of : Bool → Bool → AnswerForm
form_of true verdict = Brief
form_of false true = Verdict
form_of false false = Whole

-- the same, where it is to tell in one way
abbrev pub asked_in_one_way : List Row → (Text → Text → ℕ → Option ℕ → CommandSaid) → Option CommandSaid
asked_in_one_way rows said = if tells_two_ways rows then None else asked_in rows said

-- the table of these rows
abbrev pub table_for : Text → Text → ℕ → Option ℕ → TableSaid
table_for spec question budget guide = record { spec = spec; question = question; budget = budget; guide = guide }

-- what `ask` with these rows says of SPEC, QUESTION, the budget and the guide
abbrev pub ask_for : List Row → Text → Text → ℕ → Option ℕ → CommandSaid
ask_for rows spec question budget guide =
    if has_flag (codes "csv") rows then CertainTableFor (table_for spec question budget guide) else AskFor (record {
      spec = spec;
      question = question;
      budget = budget;
      form = form_of (has_flag (codes "brief") rows) (has_flag (codes "verdict") rows);
      exit = has_flag (codes "exit") rows;
      guide = guide;
    })

-- `ask` with these rows; none where a number is wrong, or it is to tell in two ways
abbrev pub ask_in : List Row → Option CommandSaid
ask_in rows = asked_in_one_way rows (ask_for rows)

-- `verify` with these rows
abbrev pub verify_in : List Row → Option CommandSaid
verify_in rows = option_and_then (λ spec. option_and_then (λ question.
    option_map (λ report. VerifyOf (record { spec = spec; question = question; report = report }))
    (first_of (codes "REPORT") rows))
    (first_of (codes "QUESTION") rows)) (first_of (codes "SPEC") rows)

-- `forced` with these rows
abbrev pub forced_in : List Row → Option CommandSaid
forced_in rows = option_map (λ spec. ForcedOf spec) (first_of (codes "SPEC") rows)

-- `trial` with these rows; none where the number is wrong
abbrev pub trial_in : List Row → Option CommandSaid
trial_in rows = option_and_then (λ text. option_map (λ size. TrialOf size) (number_up_to 1000 text)) (first_of (codes "N") rows)

-- the number of a unit that a text writes
abbrev pub unit_in : Text → Option ℕ
unit_in text = number_up_to 4294967295 text

-- `explain` with these rows; none where a number is wrong
abbrev pub explain_in : List Row → Option CommandSaid
explain_in rows = option_and_then (λ spec. option_and_then (λ question. option_and_then (λ unit.
    searched_in rows (λ budget guide. ExplainFor (record {
      spec = spec;
      question = question;
      unit = unit;
      budget = budget;
      guide = guide;
    })))
    (option_and_then unit_in (first_of (codes "N") rows)))
    (first_of (codes "QUESTION") rows)) (first_of (codes "SPEC") rows)

-- `conflicts` with these rows; none where a number is wrong
abbrev pub conflicts_in : List Row → Option CommandSaid
conflicts_in rows = option_and_then (λ spec.
    searched_in rows (λ budget guide. ConflictsIn (record { spec = spec; budget = budget; guide = guide })))
    (first_of (codes "SPEC") rows)

-- `golden` with these rows; none where a number is wrong
abbrev pub golden_in : List Row → Option CommandSaid
golden_in rows = option_and_then (λ spec. option_and_then (λ relation.
    searched_in rows (λ budget guide. GoldenIn (record {
      spec = spec;
      relation = relation;
      budget = budget;
      guide = guide;
    })))
    (first_of (codes "RELATION") rows)) (first_of (codes "SPEC") rows)

-- what `possible` with these rows says of SPEC, QUESTION, the budget and the guide
abbrev pub possible_for : List Row → Text → Text → ℕ → Option ℕ → CommandSaid
possible_for rows spec question budget guide =
    if has_flag (codes "csv") rows then PossibleTableFor (table_for spec question budget guide) else PossibleFor (record {
      spec = spec;
      question = question;
      budget = budget;
      brief = has_flag (codes "brief") rows;
      guide = guide;
    })

-- `possible` with these rows; none where a number is wrong, or it is to tell in two ways
abbrev pub possible_in : List Row → Option CommandSaid
possible_in rows = asked_in_one_way rows (possible_for rows)

-- `session` with these rows; none where a number is wrong
abbrev pub session_in : List Row → Option CommandSaid
session_in rows = option_and_then (λ spec. option_and_then (λ script.
    searched_in rows (λ budget guide. SessionOver (record {
      spec = spec;
      script = script;
      budget = budget;
      brief = has_flag (codes "brief") rows;
      guide = guide;
    })))
    (first_of (codes "SCRIPT") rows)) (first_of (codes "SPEC") rows)

-- the command of this name with these rows
abbrev pub command_in : Text × List Row → Option CommandSaid
command_in p = if bytes_eq p.0 (codes "ask") then ask_in p.1
    else if bytes_eq p.0 (codes "trial") then trial_in p.1
    else if bytes_eq p.0 (codes "explain") then explain_in p.1
    else if bytes_eq p.0 (codes "conflicts") then conflicts_in p.1
    else if bytes_eq p.0 (codes "golden") then golden_in p.1
    else if bytes_eq p.0 (codes "possible") then possible_in p.1
    else if bytes_eq p.0 (codes "session") then session_in p.1
    else if bytes_eq p.0 (codes "verify") then verify_in p.1
    else if bytes_eq p.0 (codes "forced") then forced_in p.1
    else None

-- what stands where there is no fault
abbrev pub unless_fault : Kinds → Option CommandSaid → Option CommandSaid
unless_fault [] said = said
unless_fault (kind ∷ kinds) said = None

-- the command that words say, the first being the program's name; none where clap sees a fault in them or options are wrong.
-- A required text that was missing where clap sees no fault would be read as none too: that there is no such text is a law
-- (`refusals_have_causes`).
unfoldable pub command_of : List (List ℕ) → Option CommandSaid
command_of words = unless_fault (fault_of line words) (option_and_then command_in (subcommand_of line words))

-- the budget or the guide that a search is given is wrong
abbrev pub is_search_wrong : List Row → Bool
is_search_wrong rows = not (is_some (number_or 100000 10000000 (first_of (codes "budget") rows)))
    || not (is_some (number_if_given 4 (first_of (codes "guide") rows)))

-- that is so, or it is to tell in two ways
abbrev pub is_telling_wrong : List Row → Bool
is_telling_wrong rows = tells_two_ways rows || is_search_wrong rows

-- the number that `trial` is given is wrong
abbrev pub is_trial_wrong : List Row → Bool
is_trial_wrong rows = option_map_or (λ text. not (is_some (number_up_to 1000 text))) (first_of (codes "N") rows) false

-- a number that `explain` is given is wrong
abbrev pub is_explain_wrong : List Row → Bool
is_explain_wrong rows = option_map_or (λ text. not (is_some (unit_in text))) (first_of (codes "N") rows) false
    || is_search_wrong rows

-- a number that this command is given is wrong, or it is to tell in two ways
abbrev pub has_wrong_options : Text × List Row → Bool
has_wrong_options p = if bytes_eq p.0 (codes "ask") then is_telling_wrong p.1
    else if bytes_eq p.0 (codes "trial") then is_trial_wrong p.1
    else if bytes_eq p.0 (codes "explain") then is_explain_wrong p.1
    else if bytes_eq p.0 (codes "conflicts") then is_search_wrong p.1
    else if bytes_eq p.0 (codes "golden") then is_search_wrong p.1
    else if bytes_eq p.0 (codes "possible") then is_telling_wrong p.1
    else if bytes_eq p.0 (codes "session") then is_search_wrong p.1
    else false

-- clap sees a fault in the words, or options in them are wrong
abbrev pub IsRefused : List Text → Type 0
IsRefused words = (fault_of line words ≡ [] → ⊥) ⊎ (option_map_or has_wrong_options (subcommand_of line words) false ≡ true)

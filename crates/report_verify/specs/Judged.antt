-- What each part of the judge says.
use Rattle.std.specs.Prelude.{◌≡◌, ◌≢◌, ◌+◌, ℕ, true, List, [], take, All, Option, Some, None, slice_get}
use Rattle.log_checker.specs.Accepted.{IsFirstFault}
use Rattle.log_checker.specs.Shown.{IsShownBy, Shown}
use Rattle.common_answers.specs.Common.{AreCommon}
use Rattle.query_model.specs.declared.query.Query.{Query}
use Rattle.refutation_log.specs.Counted.{counted_steps}
use Rattle.refutation_log.specs.Steps.{clauses_of}
use Rattle.refutation_log.specs.declared.log.Log.{Log}
use Rattle.spec_model.specs.Completion.{Rankings}
use Rattle.spec_model.specs.Spec.{Spec}
use Rattle.spec_model.specs.declared.relation.Relation.{Relation}
use Rattle.report_model.specs.declared.report.Part.{Part}
use Rattle.report_model.specs.declared.report.Part.TheVariants as part
use Rattle.report_model.specs.declared.report.Report.{Report}
use Rattle.report_model.specs.declared.verdict.Verdict.{Verdict}
use Rattle.report_model.specs.declared.verdict.Verdict.TheVariants as verdict
use Rattle.spec_model.specs.declared.question.Question.{Question}
use Rattle.spec_model.specs.declared.question.Question.TheVariants as asked
use Rattle.report_verify.specs.Shown.{IsFirstBad, IsMiscounted, IsUnbroken, IsUncommon, IsUndifferent, asks_completion, step_of_fault}
use Rattle.report_verify.specs.Supported.{FailsInOne, HasEmpty, IsDerived, Need, TwoDiffer}
use Rattle.report_verify.specs.declared.fault.Missing.{Missing}
use Rattle.report_verify.specs.declared.fault.Missing.TheVariants.{NoEmptyClause, NoCompletion, NoUnit, NotBroken, NotDifferent, NotCommon, WrongCount}
use Rattle.report_verify.specs.declared.fault.Unshown.TheVariants.{BadCompletion, BadLog, NotShown}
use Rattle.report_verify.specs.declared.fault.VerifyFault.{VerifyFault}
use Rattle.report_verify.specs.declared.fault.VerifyFault.TheVariants.{Refused, NoMemory}

-- ---- completions and the log

-- a refusal of the first listed completion that is not consistent; of want of memory nothing is said
abbrev pub IsBadAmong : Spec → List Rankings → VerifyFault → Type 0
IsBadAmong s completions (Refused (part.Completion place) (BadCompletion flaw)) = IsFirstBad s completions place flaw
IsBadAmong s completions NoMemory = Unit {0}
IsBadAmong s completions other = ⊥

-- a refusal of the log for what it fails first, at the step that this names; of want of memory nothing is said
abbrev pub IsBadIn : Spec → Option Query → Log → VerifyFault → Type 0
IsBadIn s query log (Refused (part.Step step) (BadLog fault)) =
    IsFirstFault s query log fault × (step_of_fault fault ≡ Some step)
IsBadIn s query log NoMemory = Unit {0}
IsBadIn s query log other = ⊥

-- what a log that was checked shows; one with no step needs no check
abbrev pub IsShownOf : Log → Option Shown → Type 0
IsShownOf log None = log.steps ≡ []
IsShownOf log (Some shown) = IsShownBy (clauses_of log.steps) shown

-- ---- what a verdict asks for

-- what a verdict asks of the completions and of the log, other than units
abbrev pub IsBacked : Spec → Verdict → List Rankings → Log → Type 0
IsBacked s verdict.Inconsistent completions log = HasEmpty log
IsBacked s (verdict.Undecided counted) completions log = counted_steps log.steps ≡ counted
IsBacked s (verdict.NotCertain p) completions log = FailsInOne p completions
IsBacked s (verdict.NotSame rel attr ent) completions log = TwoDiffer s.relations rel attr ent completions
IsBacked s v completions log = completions ≢ []

-- what a verdict asks for and the report lacks, other than units
abbrev pub IsLacking : Spec → Report → Missing → Type 0
IsLacking s report NoEmptyClause = (report.verdict ≡ verdict.Inconsistent) × (HasEmpty report.log → ⊥)
IsLacking s report NoCompletion = (asks_completion report.verdict ≡ true) × (report.completions ≡ [])
IsLacking s report NotBroken = (report.completions ≢ []) × IsUnbroken report.verdict report.completions
IsLacking s report NotDifferent = (report.completions ≢ []) × IsUndifferent s report.verdict report.completions
IsLacking s report WrongCount = IsMiscounted report.verdict report.log
IsLacking s report other = ⊥

-- ---- answers

-- the printed answers are those that the completions have in common, where answers are asked for
abbrev pub AreCommonOf : Spec → Question → Verdict → List Rankings → Type 0
AreCommonOf s question (verdict.Answers tuples) completions = of question
  where
    of : Question → Type 0
    of (asked.Answers query) = AreCommon s.relations query tuples completions
    of other = Unit {0}
AreCommonOf s question v completions = Unit {0}

-- a refusal since they are not; of want of memory nothing is said
abbrev pub IsUncommonIn : Spec → Question → Verdict → List Rankings → VerifyFault → Type 0
IsUncommonIn s q v completions (Refused part.Verdict (NotShown NotCommon)) = IsUncommon s q v completions
IsUncommonIn s q v completions NoMemory = Unit {0}
IsUncommonIn s q v completions other = ⊥

-- ---- units

-- the first of these claims whose unit the log does not have, and the part that makes it
pub record IsFirstUnmet (relations : List Relation) (log : Log) (needs : List Need) (part : Part) (place : ℕ) : Type 0 where
  pub need : Need
  pub claimed : slice_get needs place ≡ Some need
  pub of_part : need.part ≡ part
  pub underived : IsDerived relations log need → ⊥
  pub before : All (IsDerived relations log) (take place needs)

-- a refusal of the first such claim, where so many claims stand before these; of want of memory nothing is said
abbrev pub IsUnmetFrom : ℕ → List Relation → Log → List Need → VerifyFault → Type 0
IsUnmetFrom from relations log needs (Refused part (NotShown (NoUnit place))) =
    (at : ℕ) × (place ≡ from + at) × IsFirstUnmet relations log needs part at
IsUnmetFrom from relations log needs NoMemory = Unit {0}
IsUnmetFrom from relations log needs other = ⊥

-- the same, where none stands before these
abbrev pub IsUnmet : List Relation → Log → List Need → VerifyFault → Type 0
IsUnmet relations log needs fault = IsUnmetFrom 0 relations log needs fault

-- Reports that show their verdict, and what a report that does not fails first.
use Rattle.std.specs.Prelude.{◌≡◌, ◌≢◌, ℕ, Bool, true, false, List, [], take, All, Option, Some, None, slice_get}
use Rattle.common_answers.specs.Common.{AreCommon}
use Rattle.log_checker.specs.Accepted.{IsAccepted, IsFirstFault}
use Rattle.log_checker.specs.declared.fault.LogFault.{LogFault}
use Rattle.log_checker.specs.declared.fault.LogFault.TheVariants as log_fault
use Rattle.refutation_log.specs.Counted.{counted_steps}
use Rattle.refutation_log.specs.declared.log.Log.{Log}
use Rattle.spec_model.specs.Completion.{Rankings}
use Rattle.spec_model.specs.Consistent.{IsConsistent}
use Rattle.spec_model.specs.FirstFlaw.{IsFirstFlaw}
use Rattle.spec_model.specs.declared.flaw.Flaw.{Flaw}
use Rattle.spec_model.specs.declared.question.Question.{Question}
use Rattle.spec_model.specs.declared.question.Question.TheVariants as asked
use Rattle.spec_model.specs.Spec.{Spec}
use Rattle.report_model.specs.declared.report.Part.{Part}
use Rattle.report_model.specs.declared.report.Part.TheVariants as part
use Rattle.report_model.specs.declared.report.Report.{Report}
use Rattle.report_model.specs.declared.verdict.Verdict.{Verdict}
use Rattle.report_model.specs.declared.verdict.Verdict.TheVariants as verdict
use Rattle.report_verify.specs.Asked.{query_of}
use Rattle.report_verify.specs.Right.{PairHolds}
use Rattle.report_verify.specs.Supported.{IsOneOf, IsSupported, Need, needs_of, IsDerived, HasEmpty, TwoDiffer}
use Rattle.report_verify.specs.declared.fault.Missing.TheVariants.{Shape, NoEmptyClause, NoCompletion, NoUnit, NotBroken, NotDifferent, NotCommon, WrongCount}
use Rattle.report_verify.specs.declared.fault.Unshown.{Unshown}
use Rattle.report_verify.specs.declared.fault.Unshown.TheVariants.{BadCompletion, BadLog, NotShown}
use Rattle.report_verify.specs.declared.fault.VerifyFault.{VerifyFault}
use Rattle.report_verify.specs.declared.fault.VerifyFault.TheVariants.{Refused, NoMemory}

-- the verdict is one of the question's, each listed completion is consistent, and the log is accepted
pub record IsSound (s : Spec) (question : Question) (report : Report) : Type 0 where
  pub one_of : IsOneOf s question report.verdict
  pub consistent : All (IsConsistent s) report.completions
  pub accepted : IsAccepted s (query_of question) report.log

-- a report that shows its verdict: it is sound, and lists and derives what the verdict asks for
pub record ShowsVerdict (s : Spec) (question : Question) (report : Report) : Type 0 where
  pub sound : IsSound s question report
  pub supported : IsSupported s question report.verdict report.completions report.log

-- ---- what a report fails first

-- the first listed completion that is not consistent, with its first flaw
pub record IsFirstBad (s : Spec) (completions : List Rankings) (place : ℕ) (flaw : Flaw) : Type 0 where
  pub rankings : Rankings
  pub listed : slice_get completions place ≡ Some rankings
  pub flawed : IsFirstFlaw s rankings flaw
  pub before : All (IsConsistent s) (take place completions)

-- the verdict is of the question, and this is the first bad completion
pub record IsBadCompletion (s : Spec) (question : Question) (report : Report) (place : ℕ) (flaw : Flaw) : Type 0 where
  pub one_of : IsOneOf s question report.verdict
  pub first : IsFirstBad s report.completions place flaw

-- the step that a fault of a log names
abbrev pub step_of_fault : LogFault → Option ℕ
step_of_fault (log_fault.NotAnAxiom step) = Some step
step_of_fault (log_fault.NotDerived step place) = Some step
step_of_fault (log_fault.UnknownHint step) = Some step
step_of_fault log_fault.NoMemory = None

-- the verdict is of the question, the listed completions are consistent, and this is what the log fails first
pub record IsBadLog (s : Spec) (question : Question) (report : Report) (step : ℕ) (fault : LogFault) : Type 0 where
  pub one_of : IsOneOf s question report.verdict
  pub consistent : All (IsConsistent s) report.completions
  pub first : IsFirstFault s (query_of question) report.log fault
  pub at_step : step_of_fault fault ≡ Some step

-- a decided verdict other than `inconsistent`, which asks for a completion
abbrev pub asks_completion : Verdict → Bool
asks_completion verdict.Inconsistent = false
asks_completion (verdict.Undecided counted) = false
asks_completion v = true

-- the first claim of a verdict whose unit the log does not have, and the part that makes it
pub record IsFirstUnderived (s : Spec) (question : Question) (report : Report) (part : Part) (place : ℕ) : Type 0 where
  pub need : Need
  pub claimed : slice_get (needs_of question report.verdict) place ≡ Some need
  pub of_part : need.part ≡ part
  pub underived : IsDerived s.relations report.log need → ⊥
  pub before : All (IsDerived s.relations report.log) (take place (needs_of question report.verdict))

-- the pair of `not certain` holds in each listed completion
abbrev pub IsUnbroken : Verdict → List Rankings → Type 0
IsUnbroken (verdict.NotCertain p) completions = All (PairHolds p) completions
IsUnbroken v completions = ⊥

-- no two listed completions differ at the place of `not same`
abbrev pub IsUndifferent : Spec → Verdict → List Rankings → Type 0
IsUndifferent s (verdict.NotSame rel attr ent) completions = TwoDiffer s.relations rel attr ent completions → ⊥
IsUndifferent s v completions = ⊥

-- the answers that the listed completions have in common are not the printed ones
abbrev pub IsUncommon : Spec → Question → Verdict → List Rankings → Type 0
IsUncommon s question (verdict.Answers tuples) completions = of question
  where
    of : Question → Type 0
    of (asked.Answers query) = AreCommon s.relations query tuples completions → ⊥
    of other = ⊥
IsUncommon s question v completions = ⊥

-- the log of `undecided` has another number of counted steps
abbrev pub IsMiscounted : Verdict → Log → Type 0
IsMiscounted (verdict.Undecided counted) log = counted_steps log.steps ≢ counted
IsMiscounted v log = ⊥

-- what a report fails first: the verdict's shape, a completion, the log, and then what the verdict asks for, in this order
abbrev pub IsFirstUnshown : Spec → Question → Report → Part → Unshown → Type 0
IsFirstUnshown s question report part.Verdict (NotShown Shape) = IsOneOf s question report.verdict → ⊥
IsFirstUnshown s question report (part.Completion place) (BadCompletion flaw) = IsBadCompletion s question report place flaw
IsFirstUnshown s question report (part.Step step) (BadLog fault) = IsBadLog s question report step fault
IsFirstUnshown s question report part.Verdict (NotShown NoEmptyClause) =
    IsSound s question report × (report.verdict ≡ verdict.Inconsistent) × (HasEmpty report.log → ⊥)
IsFirstUnshown s question report part.Verdict (NotShown NoCompletion) =
    IsSound s question report × (asks_completion report.verdict ≡ true) × (report.completions ≡ [])
IsFirstUnshown s question report part (NotShown (NoUnit place)) =
    IsSound s question report × (report.completions ≢ []) × IsFirstUnderived s question report part place
IsFirstUnshown s question report part.Verdict (NotShown NotBroken) =
    IsSound s question report × (report.completions ≢ []) × IsUnbroken report.verdict report.completions
IsFirstUnshown s question report part.Verdict (NotShown NotDifferent) =
    IsSound s question report × (report.completions ≢ []) × IsUndifferent s report.verdict report.completions
IsFirstUnshown s question report part.Verdict (NotShown NotCommon) =
    IsSound s question report × (report.completions ≢ [])
    × All (IsDerived s.relations report.log) (needs_of question report.verdict)
    × IsUncommon s question report.verdict report.completions
IsFirstUnshown s question report part.Verdict (NotShown WrongCount) =
    IsSound s question report × IsMiscounted report.verdict report.log
IsFirstUnshown s question report _ _ = ⊥

-- a refusal names the first check that fails; of want of memory nothing is said
abbrev pub Refuses : Spec → Question → Report → VerifyFault → Type 0
Refuses s question report (Refused part why) = IsFirstUnshown s question report part why
Refuses s question report NoMemory = Unit {0}

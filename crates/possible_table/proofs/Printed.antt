-- What each way in which the job goes comes to.
use Rattle.std.proofs.Common.{◌≡◌, ◌<◌, ℕ, List, [], ◌∷◌, All, IfErr, IfOk, Result, Ok, Err, ap, arith, false, length, true}
use Rattle.std.proofs.Common.{refl, subst}
use Rattle.std.proofs.lemmas.List.Elements.{All-head}
use Rattle.command_stages.specs.Named.{IsDetermined, IsDeterminedTrouble}
use Rattle.command_stages.specs.declared.done.Done.{Done}
use Rattle.command_stages.specs.declared.done.Ending.TheVariants as ending
use Rattle.command_stages.specs.declared.trouble.Trouble.{Trouble}
use Rattle.command_stages.specs.declared.trouble.Trouble.TheVariants as trouble
use Rattle.possible_values.specs.Possible.{HasTooMany}
use Rattle.currency_base.specs.declared.value.Value.{Value}
use Rattle.possible_values.specs.Possible.{IsSpent}
use Rattle.possible_answers.specs.Answers.{ArePossibleAnswers}
use Rattle.possible_values.specs.Possible.{AreFindings, HasFewCandidates, IsPosed, IsShownInconsistent, posed_question}
use Rattle.possible_values.specs.declared.found.Found.{Found}
use Rattle.possible_values.specs.declared.found.Posed.{Posed}
use Rattle.query_model.specs.Answers.{AreAscending}
use Rattle.query_model.specs.declared.query.Query.{Query}
use Rattle.query_syntax.specs.declared.trees.QueryTree.{QueryTree}
use Rattle.report_model.specs.Verdicts.{is_decided, kind_of}
use Rattle.report_model.specs.declared.report.Report.{Report}
use Rattle.report_model.specs.declared.verdict.Verdict.{Verdict}
use Rattle.report_model.specs.declared.verdict.Verdict.TheVariants as verdict
use Rattle.question_bind.specs.Bound.{AsksQuery}
use Rattle.report_verify.specs.Right.{IsRight}
use Rattle.report_verify.specs.Supported.{IsOneOf}
use Rattle.spec_model.specs.Completion.{Rankings}
use Rattle.spec_model.specs.Consistent.{IsConsistent, IsSatisfiable}
use Rattle.spec_model.specs.Spec.{Spec}
use Rattle.spec_model.specs.declared.question.Question.{Question}
use Rattle.spec_model.specs.declared.question.Question.TheVariants as asked
use Rattle.answer_texts.specs.Answers.{IsAnswer, answer_text}
use Rattle.possible_table.specs.Table.{IsPossibleTableOf, bare, left_open, left_short, many_answers, tabled}
use Rattle.possible_table.specs.Text.{possible_text, undecided_text}

module _ (s : Spec) (q : Question) (budget : ℕ) (query : QueryTree) (outcome : Result Done Trouble)
    (memory : IfErr outcome (λ e. e ≡ trouble.NoMemory)) (determined : IsDetermined outcome) where
  -- what is not for want of memory is told
  by_text : (done : Done) → IfOk outcome (λ d. d ≡ done) → outcome ≡ Ok done
  by_text done told = at outcome memory determined told
    where
      at : (o : Result Done Trouble) → IfErr o (λ e. e ≡ trouble.NoMemory) → IsDetermined o → IfOk o (λ d. d ≡ done) → o ≡ Ok done
      at (Ok d) m k is = ap Ok is
      at (Err e) m k is = absurd (subst IsDeterminedTrouble m k)

  pub bare_printed : (r : Report) → HasFewCandidates s q → IsShownInconsistent s q r
      → IfOk outcome (λ d. d ≡ record { text = answer_text s.relations true r; ending = ending.Inconsistent })
      → IsPossibleTableOf budget s q query outcome
  bare_printed r few shown told =
      bare few (record { report = r; verdict_is = shown.verdict_is; none = shown.none; comes = by_text _ told })

  pub open_printed : (p : Posed) (r : Report) → HasFewCandidates s q → IsPosed s p → IsSpent s (posed_question s p) budget r
      → IfOk outcome (λ d. d ≡ record { text = undecided_text s p r; ending = ending.Open })
      → IsPossibleTableOf budget s q query outcome
  open_printed p r few posed spent told =
      left_open few (record { posed = p; is_posed = posed; report = r; spent = spent; comes = by_text _ told })

  -- the certain answers are not known
  pub short_printed : (r : Report) → HasFewCandidates s q → IsAnswer s q budget r → is_decided (kind_of r.verdict) ≡ false
      → IfOk outcome (λ d. d ≡ record { text = answer_text s.relations true r; ending = ending.Open })
      → IsPossibleTableOf budget s q query outcome
  short_printed r few answer undecided told =
      left_short few (record { report = r; answer = answer; undecided = undecided; comes = by_text _ told })

-- ---- the table

right_of : (s : Spec) (q : Question) (budget : ℕ) (r : Report) (v : Verdict) → r.verdict ≡ v → IsAnswer s q budget r
    → is_decided (kind_of v) ≡ true → IsRight s q v
right_of s q budget r v is answer decided =
    subst (λ (w : Verdict). is_decided (kind_of w) ≡ true → IsRight s q w) is answer.right decided

-- where candidates are found there is a consistent completion
satisfied : (s : Spec) (q : Question) (f : Found) → AreFindings s q f → IsSatisfiable s
satisfied s q f findings = by f.completions findings.consistent findings.some
  where
    by : (list : List Rankings) → All (IsConsistent s) list → 0 < length list → IsSatisfiable s
    by [] all some = absurd (omega (arith, some))
    by (c ∷ list) all some = (c, All-head (IsConsistent s) c list all)

-- a verdict that lists no answers is undecided, where there is a consistent completion
pub undecided_by : (s : Spec) (bound : Query) (budget : ℕ) (r : Report) → IsAnswer s (asked.Answers bound) budget r
    → IsSatisfiable s → (v : Verdict) → r.verdict ≡ v → ((tuples : List (List Value)) → v ≡ verdict.Answers tuples → ⊥)
    → is_decided (kind_of v) ≡ false
undecided_by s bound budget r answer some (verdict.Undecided n) is other = refl
undecided_by s bound budget r answer some (verdict.Answers tuples) is other = absurd (other tuples refl)
undecided_by s bound budget r answer some verdict.Inconsistent is other =
    absurd (right_of s (asked.Answers bound) budget r verdict.Inconsistent is answer refl some)
undecided_by s bound budget r answer some verdict.Consistent is other =
    absurd (right_of s (asked.Answers bound) budget r verdict.Consistent is answer refl)
undecided_by s bound budget r answer some verdict.Certain is other =
    absurd (right_of s (asked.Answers bound) budget r verdict.Certain is answer refl)
undecided_by s bound budget r answer some (verdict.NotCertain p) is other =
    absurd (right_of s (asked.Answers bound) budget r (verdict.NotCertain p) is answer refl)
undecided_by s bound budget r answer some (verdict.Same items) is other =
    absurd (right_of s (asked.Answers bound) budget r (verdict.Same items) is answer refl)
undecided_by s bound budget r answer some (verdict.NotSame rel attr ent) is other =
    absurd (right_of s (asked.Answers bound) budget r (verdict.NotSame rel attr ent) is answer refl)

pub undecided_of : (s : Spec) (q : Question) (budget : ℕ) (r : Report) (f : Found) → AsksQuery q → IsAnswer s q budget r
    → AreFindings s q f → ((tuples : List (List Value)) → r.verdict ≡ verdict.Answers tuples → ⊥)
    → is_decided (kind_of r.verdict) ≡ false
undecided_of s q budget r f asks answer findings other =
    undecided_by s asks.0 budget r (subst (λ (x : Question). IsAnswer s x budget r) asks.1 answer)
    (satisfied s q f findings) r.verdict refl other

-- candidates that are found are few
pub few_of : (s : Spec) (q : Question) (f : Found) → AreFindings s q f → HasFewCandidates s q
few_of s q f findings = (f.candidates, findings.candidates)

pub table_printed : (s : Spec) (q : Question) (budget : ℕ) (query : QueryTree) (outcome : Result Done Trouble) (bound : Query)
    (r : Report) (f : Found) (certain tuples : List (List Value))
    → IfErr outcome (λ e. e ≡ trouble.NoMemory) → IsDetermined outcome → q ≡ asked.Answers bound → IsAnswer s q budget r
    → AreFindings s q f → r.verdict ≡ verdict.Answers certain → ArePossibleAnswers s bound tuples
    → IfOk outcome (λ d. d ≡ record { text = possible_text query certain tuples; ending = ending.Tabled })
    → IsPossibleTableOf budget s q query outcome
table_printed s q budget query outcome bound r f certain tuples memory determined asks answer findings is possible told =
    let right : IsRight s (asked.Answers bound) (verdict.Answers certain) =
    right_of s (asked.Answers bound) budget r (verdict.Answers certain) is
    (subst (λ (x : Question). IsAnswer s x budget r) asks answer) refl in
    tabled (few_of s q f findings) (record {
      bound = bound;
      is_bound = asks;
      satisfiable = right.0;
      tuples = tuples;
      possible = possible;
      certain = certain;
      are_certain = right.1;
      comes = by_text s q budget query outcome memory determined _ told;
    })

-- a query has too many answers
pub many_printed : (s : Spec) (q : Question) (budget : ℕ) (query : QueryTree) (f : Found) (e : Trouble) → AreFindings s q f
    → (IsDeterminedTrouble e → (c : Rankings) × HasTooMany s q c × (e ≡ trouble.Limit 3)) → IsDetermined {A = Done} (Err e)
    → IsPossibleTableOf budget s q query (Err e)
many_printed s q budget query f e findings many determined =
    let m = many determined in
    many_answers {c = m.0} (few_of s q f findings) m.1 (ap Err m.2)

-- the certain answers ascend
pub ascending : (s : Spec) (q : Question) (budget : ℕ) (bound : Query) (r : Report) (certain : List (List Value))
    → q ≡ asked.Answers bound → IsAnswer s q budget r → r.verdict ≡ verdict.Answers certain → AreAscending certain
ascending s q budget bound r certain asks answer is =
    subst (λ (v : Verdict). IsOneOf s (asked.Answers bound) v) is
    (subst (λ (x : Question). IsOneOf s x r.verdict) asks answer.shown.sound.one_of)

-- What `ask --csv` told, by the status it ended with.
use Rattle.std.proofs.Common.{◌≡◌, ℕ, true, false, List, Result, Ok, Err, ap, arith, inl, inr, refl, subst, sym}
use Rattle.answer_tables.proofs.Stages.{is_answers}
use Rattle.certain_table.proofs.Replies.{of_inconsistent, of_table}
use Rattle.certain_table.specs.Table.{IsCertainTableOf, IsCertainTablePrinted, IsCertainTabled, IsTableBare, IsTableOfCertain}
use Rattle.certain_table.specs.Table.{IsTableShort, table_done, verdict_done}
use Rattle.command_stages.specs.Endings.{IsOfTable, ending_status}
use Rattle.command_stages.specs.declared.done.Done.{Done}
use Rattle.command_stages.specs.declared.done.Ending.{Ending}
use Rattle.command_stages.specs.declared.done.Ending.TheVariants as ending
use Rattle.command_stages.specs.declared.trouble.Trouble.{Trouble}
use Rattle.program_words.specs.Words.{TableSaid}
use Rattle.query_model.specs.declared.query.Query.{Query}
use Rattle.query_syntax.specs.declared.trees.QueryTree.{QueryTree}
use Rattle.report_model.specs.Verdicts.{is_decided, kind_of}
use Rattle.report_model.specs.declared.report.Report.{Report}
use Rattle.report_model.specs.declared.verdict.Verdict.{Verdict}
use Rattle.report_model.specs.declared.verdict.Verdict.TheVariants as verdict
use Rattle.report_verify.specs.Right.{IsRight}
use Rattle.report_verify.specs.Supported.{IsOneOf}
use Rattle.spec_model.specs.Spec.{Spec}
use Rattle.spec_model.specs.declared.question.Question.{Question}
use Rattle.spec_model.specs.declared.question.Question.TheVariants as asked
use Rattle.answer_texts.proofs.Spent.{short}
use Rattle.answer_texts.specs.Answers.{IsAnswer, answer_text}

-- ---- what is told is what a report comes to

-- the report whose text is told
record IsReported (s : Spec) (q : Question) (budget : ℕ) (query : QueryTree) (d : Done) : Type 0 where
  pub report : Report
  pub answer : IsAnswer s q budget report
  pub comes : d ≡ table_done s.relations query report

reported : (s : Spec) (q : Question) (budget : ℕ) (query : QueryTree) (d : Done) → IsCertainTableOf budget s q query (Ok d)
    → IsReported s q budget query d
reported s q budget query d (inl h) = record { report = h.0; answer = h.1; comes = same h.2 }
  where
    same : {a b : Done} → ◌≡◌ {A = Result Done Trouble} (Ok a) (Ok b) → a ≡ b
    same e = cc
reported s q budget query d (inr h) = absurd (no h.2)
  where
    no : {e : Trouble} → ◌≡◌ {A = Result Done Trouble} (Ok d) (Err e) → ⊥
    no e = cc

-- it ends as a table does
pub ends_as_table : (told : List (List ℕ × List ℕ)) (a : TableSaid) (text : List ℕ) (e : Ending)
    → IsCertainTablePrinted told a text e → IsOfTable e
ends_as_table told a text e h =
    let r = reported h.spec h.question a.budget h.query (record { text = text; ending = e }) h.job in
    subst IsOfTable (sym (ap (λ (d : Done). d.ending) r.comes)) (of_table h.spec.relations h.query r.report r.report.verdict)

-- ---- what each ending says of the verdict

right_of : (s : Spec) (q : Question) (budget : ℕ) (r : Report) (v : Verdict) → r.verdict ≡ v → IsAnswer s q budget r
    → is_decided (kind_of v) ≡ true → IsRight s q v
right_of s q budget r v is answer decided =
    subst (λ (w : Verdict). is_decided (kind_of w) ≡ true → IsRight s q w) is answer.right decided

one_of : (s : Spec) (q : Question) (budget : ℕ) (r : Report) (v : Verdict) → r.verdict ≡ v → IsAnswer s q budget r
    → IsOneOf s q v
one_of s q budget r v is answer = subst (IsOneOf s q) is answer.shown.sound.one_of

text_of_done : {text other : List ℕ} {e f : Ending} → ◌≡◌ {A = Done} (record { text = text; ending = e })
    (record { text = other; ending = f }) → text ≡ other
text_of_done e = ap (λ (d : Done). d.text) e

-- one is not told as another
ending_of_done : {text other : List ℕ} {e f : Ending} → ◌≡◌ {A = Done} (record { text = text; ending = e })
    (record { text = other; ending = f }) → e ≡ f
ending_of_done e = ap (λ (d : Done). d.ending) e

tabled_none : {text other : List ℕ} → ◌≡◌ {A = Done} (record { text = text; ending = ending.Tabled })
    (record { text = other; ending = ending.Inconsistent }) → ⊥
tabled_none e = by (ending_of_done e)
  where
    by : ending.Tabled ≡ ending.Inconsistent → ⊥
    by is = cc

tabled_open : {text other : List ℕ} → ◌≡◌ {A = Done} (record { text = text; ending = ending.Tabled })
    (record { text = other; ending = ending.Open }) → ⊥
tabled_open e = by (ending_of_done e)
  where
    by : ending.Tabled ≡ ending.Open → ⊥
    by is = cc

none_open : {text other : List ℕ} → ◌≡◌ {A = Done} (record { text = text; ending = ending.Inconsistent })
    (record { text = other; ending = ending.Open }) → ⊥
none_open e = by (ending_of_done e)
  where
    by : ending.Inconsistent ≡ ending.Open → ⊥
    by is = cc

module _ (s : Spec) (bound : Query) (budget : ℕ) (query : QueryTree) (text : List ℕ) (r : Report)
    (answer : IsAnswer s (asked.Answers bound) budget r) where
  certain_by : (v : Verdict) → r.verdict ≡ v
      → ◌≡◌ {A = Done} (record { text = text; ending = ending.Tabled }) (verdict_done s.relations query r v)
      → IsTableOfCertain s (asked.Answers bound) query text
  certain_by (verdict.Answers tuples) is e =
      let right = right_of s (asked.Answers bound) budget r (verdict.Answers tuples) is answer refl in
      record {
        bound = bound;
        is_bound = refl;
        satisfiable = right.0;
        tuples = tuples;
        certain = right.1;
        ascending = one_of s (asked.Answers bound) budget r (verdict.Answers tuples) is answer;
        is_text = text_of_done e;
      }
  certain_by verdict.Inconsistent is e = absurd (tabled_none e)
  certain_by verdict.Consistent is e = absurd (tabled_open e)
  certain_by verdict.Certain is e = absurd (tabled_open e)
  certain_by (verdict.NotCertain p) is e = absurd (tabled_open e)
  certain_by (verdict.Same items) is e = absurd (tabled_open e)
  certain_by (verdict.NotSame rel attr ent) is e = absurd (tabled_open e)
  certain_by (verdict.Undecided n) is e = absurd (tabled_open e)

  -- the budget was spent
  undecided_by : (v : Verdict) → r.verdict ≡ v
      → ◌≡◌ {A = Done} (record { text = text; ending = ending.Open }) (verdict_done s.relations query r v)
      → (is_decided (kind_of r.verdict) ≡ false) × (text ≡ answer_text s.relations true r)
  undecided_by (verdict.Undecided n) is e = (ap (λ (w : Verdict). is_decided (kind_of w)) is, text_of_done e)
  undecided_by (verdict.Answers tuples) is e = absurd (tabled_open (sym e))
  undecided_by verdict.Inconsistent is e = absurd (none_open (sym e))
  undecided_by verdict.Consistent is e =
      absurd (right_of s (asked.Answers bound) budget r verdict.Consistent is answer refl)
  undecided_by verdict.Certain is e = absurd (right_of s (asked.Answers bound) budget r verdict.Certain is answer refl)
  undecided_by (verdict.NotCertain p) is e =
      absurd (right_of s (asked.Answers bound) budget r (verdict.NotCertain p) is answer refl)
  undecided_by (verdict.Same items) is e =
      absurd (right_of s (asked.Answers bound) budget r (verdict.Same items) is answer refl)
  undecided_by (verdict.NotSame rel attr ent) is e =
      absurd (right_of s (asked.Answers bound) budget r (verdict.NotSame rel attr ent) is answer refl)

  -- there is no consistent completion
  inconsistent_by : (v : Verdict) → r.verdict ≡ v
      → ◌≡◌ {A = Done} (record { text = text; ending = ending.Inconsistent }) (verdict_done s.relations query r v)
      → r.verdict ≡ verdict.Inconsistent
  inconsistent_by verdict.Inconsistent is e = is
  inconsistent_by (verdict.Answers tuples) is e = absurd (tabled_none (sym e))
  inconsistent_by verdict.Consistent is e = absurd (none_open e)
  inconsistent_by verdict.Certain is e = absurd (none_open e)
  inconsistent_by (verdict.NotCertain p) is e = absurd (none_open e)
  inconsistent_by (verdict.Same items) is e = absurd (none_open e)
  inconsistent_by (verdict.NotSame rel attr ent) is e = absurd (none_open e)
  inconsistent_by (verdict.Undecided n) is e = absurd (none_open e)

-- ---- by the status

module _ (told : List (List ℕ × List ℕ)) (a : TableSaid) (text : List ℕ) where
  whole : (h : IsCertainTablePrinted told a text ending.Tabled) → IsTableOfCertain h.spec h.question h.query text
  whole h =
      let r = reported h.spec h.question a.budget h.query (record { text = text; ending = ending.Tabled }) h.job in
      let is = is_answers told a (IsCertainTableOf a.budget) h.spec h.question h.query h.is_read in
      subst (λ (q : Question). IsTableOfCertain h.spec q h.query text) (sym is.1)
      (certain_by h.spec is.0 a.budget h.query text r.report
      (subst (λ (q : Question). IsAnswer h.spec q a.budget r.report) is.1 r.answer) r.report.verdict refl r.comes)

  pub tabled_printed : (e : Ending) → ending_status e ≡ 0 → IsCertainTablePrinted told a text e → IsCertainTabled told a text
  tabled_printed ending.Tabled zero h = (h, whole h)
  tabled_printed ending.Printed zero h = absurd (ends_as_table told a text ending.Printed h)
  tabled_printed ending.Decided zero h = absurd (ends_as_table told a text ending.Decided h)
  tabled_printed ending.Denied zero h = absurd (ends_as_table told a text ending.Denied h)
  tabled_printed ending.Undecided zero h = absurd (ends_as_table told a text ending.Undecided h)
  tabled_printed ending.Inconsistent zero h = absurd (omega (arith, zero))
  tabled_printed ending.Open zero h = absurd (omega (arith, zero))

  left : (h : IsCertainTablePrinted told a text ending.Open) → IsTableShort told a text
  left h =
      let r = reported h.spec h.question a.budget h.query (record { text = text; ending = ending.Open }) h.job in
      let is = is_answers told a (IsCertainTableOf a.budget) h.spec h.question h.query h.is_read in
      let answer : IsAnswer h.spec (asked.Answers is.0) a.budget r.report =
      subst (λ (q : Question). IsAnswer h.spec q a.budget r.report) is.1 r.answer in
      let undecided = undecided_by h.spec is.0 a.budget h.query text r.report answer r.report.verdict refl r.comes in
      record {
        table = h;
        report = r.report;
        short = short h.spec h.question a.budget r.report r.answer undecided.0;
        is_text = undecided.1;
      }

  pub open_printed : (e : Ending) → ending_status e ≡ 3 → IsCertainTablePrinted told a text e → IsTableShort told a text
  open_printed ending.Open three h = left h
  open_printed ending.Printed three h = absurd (ends_as_table told a text ending.Printed h)
  open_printed ending.Decided three h = absurd (ends_as_table told a text ending.Decided h)
  open_printed ending.Denied three h = absurd (ends_as_table told a text ending.Denied h)
  open_printed ending.Undecided three h = absurd (ends_as_table told a text ending.Undecided h)
  open_printed ending.Tabled three h = absurd (omega (arith, three))
  open_printed ending.Inconsistent three h = absurd (omega (arith, three))

  none : (h : IsCertainTablePrinted told a text ending.Inconsistent) → IsTableBare told a text
  none h =
      let r = reported h.spec h.question a.budget h.query (record { text = text; ending = ending.Inconsistent }) h.job in
      let is = is_answers told a (IsCertainTableOf a.budget) h.spec h.question h.query h.is_read in (
        h,
        of_inconsistent h.spec h.question a.budget r.report r.answer
            (inconsistent_by h.spec is.0 a.budget h.query text r.report
            (subst (λ (q : Question). IsAnswer h.spec q a.budget r.report) is.1 r.answer) r.report.verdict refl r.comes),
      )

  pub bare_printed : (e : Ending) → ending_status e ≡ 10 → IsCertainTablePrinted told a text e → IsTableBare told a text
  bare_printed ending.Inconsistent ten h = none h
  bare_printed ending.Printed ten h = absurd (ends_as_table told a text ending.Printed h)
  bare_printed ending.Decided ten h = absurd (ends_as_table told a text ending.Decided h)
  bare_printed ending.Denied ten h = absurd (ends_as_table told a text ending.Denied h)
  bare_printed ending.Undecided ten h = absurd (ends_as_table told a text ending.Undecided h)
  bare_printed ending.Tabled ten h = absurd (omega (arith, ten))
  bare_printed ending.Open ten h = absurd (omega (arith, ten))

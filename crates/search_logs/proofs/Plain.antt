-- Logs that can be written and are well formed: those of a search, and what these are trimmed to.
use Rattle.std.proofs.Common.{◌≡◌, ◌<◌, ◌≤◌, ◌^◌, ℕ, List, All, Some, None, length, slice_get, subst, arith}
use Rattle.std.proofs.lemmas.Option.{slice_get_within}
use Rattle.currency_base.specs.Lists.{OnlyOnce}
use Rattle.currency_base.specs.Literals.{var_of}
use Rattle.currency_base.specs.declared.lit.Lit.{Lit}
use Rattle.query_model.specs.Answers.{AreAscending}
use Rattle.spec_model.specs.Facts.{AreRelations}
use Rattle.spec_model.specs.declared.relation.Relation.{Relation}
use Rattle.refutation_log.specs.Counted.{AreWithin}
use Rattle.refutation_log.specs.Steps.{clause_of}
use Rattle.refutation_log.specs.declared.log.Log.{Log}
use Rattle.refutation_log.specs.declared.statement.Statement.{Statement}
use Rattle.refutation_log.specs.declared.statement.Statement.TheVariants.{Before, Top, Last, Answer}
use Rattle.refutation_log.specs.declared.step.Step.{Step}
use Rattle.refutation_log.specs.declared.step.Step.TheVariants.{Axiom, OnDemand, Learn}
use Rattle.log_form.specs.Form.{first_fault}
use Rattle.log_trim.specs.Trimmed.{AreInPlace, hints_of}
use Rattle.refutation_log.specs.Writable.{IsPlace, AreFew, IsLit, IsWritableLabel, IsWritableStep, IsWritableStatement, AreAnswered, IsWritable}
use Rattle.currency_base.specs.Values.{IsValue}
use Rattle.order_literals.proofs.Ascents.{Ascends}
use Rattle.order_literals.proofs.Items.{IsIn, in_at}
use Rattle.order_literals.proofs.Order.{IsBelow}
use Rattle.search_logs.proofs.Bounds.{rel_place, attr_place, row_place}
use Rattle.search_logs.proofs.Forms.{well_formed}
use Rattle.search_logs.proofs.Numbered.{IsOnRows}
use Rattle.search_logs.proofs.OnceLists.{all_placed, list_at, few_numbers, few_lits}

-- a step whose label can be written, and in which no literal and no hint stands twice
abbrev pub IsPlainStep : Step → Type 0
IsPlainStep (Axiom l lits) = IsWritableLabel l × OnlyOnce lits
IsPlainStep (OnDemand l lits) = IsWritableLabel l × OnlyOnce lits
IsPlainStep (Learn lits hints counted) = OnlyOnce lits × OnlyOnce hints

-- a log of such steps, whose answers and statements ascend and are on what is there
pub record IsPlain (relations : List Relation) (log : Log) : Type 0 where
  pub ascending : AreAscending log.answers
  pub values : All (AreFew IsValue) log.answers
  pub answered : AreAnswered 0 log.statements log.answers
  pub few_steps : length log.steps ≤ 4294967294
  pub ascend : Ascends IsBelow log.statements
  pub statements : (st : Statement) → IsIn log.statements st → IsOnRows relations (length log.answers) st
  pub steps : (place : ℕ) (step : Step) → slice_get log.steps place ≡ Some step → IsPlainStep step

-- ---- statements

writable_statement : (relations : List Relation) → AreRelations relations → (answers : ℕ) (st : Statement)
    → IsOnRows relations answers st → IsWritableStatement st
writable_statement relations are answers (Before rel attr a b) on =
    let r = on.relation in
    let at = on.is_relation in (
      rel_place relations are rel r at,
      attr_place relations are rel r attr at on.attr_in,
      row_place relations are rel r a on.ent at on.earlier_of,
      row_place relations are rel r b on.ent at on.later_of,
    )
writable_statement relations are answers (Top rel attr row) on =
    let r = on.relation in
    let at = on.is_relation in (
      rel_place relations are rel r at,
      attr_place relations are rel r attr at on.attr_in,
      row_place relations are rel
          r row on.ent at on.row_of,
    )
writable_statement relations are answers (Last rel attr row) on =
    let its = on.on in
    let r = its.relation in
    let at = its.is_relation in (
      rel_place relations are rel r at,
      attr_place relations are rel r attr at its.attr_in,
      row_place relations are
          rel r row its.ent at its.row_of,
    )
writable_statement relations are answers (Answer tuple) on = tt

-- ---- steps

lits_few : (n : ℕ) (lits : List Lit) → n < 2 ^ 31 → All (λ lit. var_of lit < n) lits → OnlyOnce lits → AreFew IsLit lits
lits_few n lits few within once =
    let count = few_lits lits n once within in
    record { few = omega (arith, count, few); each = λ k d below. (let low = within k d below in omega (arith, low, few)) }

hints_few : (place : ℕ) (hints : List ℕ) → place < 4294967295 → All (λ hint. hint < place) hints → OnlyOnce hints
    → AreFew IsPlace hints
hints_few place hints few earlier once =
    let count = few_numbers hints place once earlier in
    record { few = omega (arith, count, few); each = λ k d below. (let low = earlier k d below in omega (arith, low, few)) }

writable_step : (n place : ℕ) (step : Step) → n < 2 ^ 31 → place < 4294967295 → All (λ lit. var_of lit < n) (clause_of step)
    → All (λ hint. hint < place) (hints_of step) → IsPlainStep step → IsWritableStep step
writable_step n place (Axiom l lits) few early within earlier plain = (plain.0, lits_few n lits few within plain.1)
writable_step n place (OnDemand l lits) few early within earlier plain = (plain.0, lits_few n lits few within plain.1)
writable_step n place (Learn lits hints counted) few early within earlier plain =
    (lits_few n lits few within plain.0, hints_few place hints early earlier plain.1)

-- ---- the log

module _ (relations : List Relation) (are : AreRelations relations) (log : Log) (goals : List ℕ) (plain : IsPlain relations log)
    (inside : AreInPlace log goals) where
  lits_in : (place : ℕ) (step : Step) → slice_get log.steps place ≡ Some step
      → All (λ lit. var_of lit < length log.statements) (clause_of step)
  lits_in place step at =
      subst (λ (lits : List Lit). All (λ lit. var_of lit < length log.statements) lits)
      (list_at clause_of log.steps place step at)
      (inside.vars_in place)

  hints_in : (place : ℕ) (step : Step) → slice_get log.steps place ≡ Some step → All (λ hint. hint < place) (hints_of step)
  hints_in place step at =
      subst (λ (hints : List ℕ). All (λ hint. hint < place) hints) (list_at hints_of log.steps place step at)
      (inside.hints_in place)

  step_written : (place : ℕ) (step : Step) → slice_get log.steps place ≡ Some step → IsWritableStep step
  step_written place step at =
      let within = slice_get_within log.steps place step at in
      let few = plain.few_steps in
      writable_step (length log.statements) place step inside.few_statements (omega (arith, within, few)) (lits_in place step at)
      (hints_in place step at) (plain.steps place step at)

  pub written : IsWritable log
  written =
      let few = inside.few_statements in
      record {
        answered = plain.answered;
        answers = plain.values;
        statements = record {
          few = omega (arith, few);
          each = all_placed IsWritableStatement log.statements
              (λ k st at. writable_statement relations are (length log.answers) st
              (plain.statements st (in_at log.statements k st at)));
        };
        steps = record { few = plain.few_steps; each = all_placed IsWritableStep log.steps step_written };
      }

  pub formed : first_fault relations log ≡ None
  formed =
      let within : AreWithin (length log.statements) log.steps =
      all_placed (λ step. All (λ lit. var_of lit < length log.statements) (clause_of step)) log.steps lits_in in
      well_formed relations are log plain.ascending plain.ascend plain.statements within

-- A log that is spelled is not too long.
use Rattle.std.proofs.Common.{◌≡◌, ℕ, ◌≤◌, ◌<◌, ◌^◌, Bool, true, false, List, [], ◌∷◌, length, inl, inr, refl, sym, ap, subst, ◌∙◌, arith}
use Rattle.std.specs.Prelude.{All}
use Rattle.std.proofs.lemmas.List.{length-map}
use Rattle.std.proofs.lemmas.List.Elements.{All-nil, All-cons}
use Rattle.text_tokens.specs.Lexeme.{Lexeme}
use Rattle.text_grammar.specs.Grammar.{Many}
use Rattle.currency_base.specs.declared.lit.Lit.{Lit}
use Rattle.refutation_log.specs.declared.step.Label.{Label}
use Rattle.refutation_log.specs.declared.step.Step.{Step}
use Rattle.refutation_log.specs.declared.step.Step.TheVariants.{Axiom, OnDemand, Learn}
use Rattle.log_syntax.specs.declared.trees.ReadLog.{ReadLog}
use Rattle.log_syntax.specs.declared.trees.StepOnLine.{StepOnLine}
use Rattle.log_syntax.specs.Grammar.{SpellsEndedStep, SpellsLog, SpellsLogPart, SpellsStatements, SpellsStep, SpellsSteps}
use Rattle.log_syntax.proofs.Logs.{as_many, said_of}
use Rattle.log_syntax.proofs.StepRules.{steps_of}

-- no more statements and steps than numbers for them, and a line for each
pub record IsSmall (r : ReadLog) : Type 0 where
  pub few_statements : length r.log.statements ≤ 4294967294
  pub few_steps : length r.log.steps ≤ 4294967294
  pub statement_lines : length r.statements ≡ length r.log.statements
  pub step_lines : length r.steps ≡ length r.log.steps

of_log : (r : ReadLog) (tokens : List Lexeme) → SpellsLog r tokens → IsSmall r
of_log r tokens h = record {
  few_statements = (let a = statements in let b = said.spelled.few in omega arith);
  few_steps = (let a = steps in let b = stepped.spelled.few in omega arith);
  statement_lines = ap length said.lines_are ∙ length-map said.trees (λ t. t.line) ∙ sym statements;
  step_lines = ap length stepped.lines_are ∙ length-map stepped.trees (λ s. s.line) ∙ sym steps;
}
  where
    said : SpellsStatements r.log.answers r.log.statements r.statements h.second.second.front
    said = h.second.second.first

    stepped : SpellsSteps r.log.steps r.steps h.second.second.rest
    stepped = h.second.second.second

    statements : length r.log.statements ≡ length said.trees
    statements = ap length said.statements_are ∙ as_many 0 (said_of said.trees) ∙ length-map said.trees (λ t. t.statement)

    steps : length r.log.steps ≡ length stepped.trees
    steps = ap length stepped.steps_are ∙ length-map stepped.trees (λ s. s.step)

pub is_small : (r : ReadLog) (tokens : List Lexeme) → SpellsLogPart r tokens → IsSmall r
is_small r tokens (inl h) = subst IsSmall (sym h.0)
    (record { few_statements = omega arith; few_steps = omega arith; statement_lines = refl; step_lines = refl })
is_small r tokens (inr h) = of_log r tokens h

-- ---- hints

-- what holds of each step with fewer hints than 2^32 holds of a step that is spelled
of_step : (P : Step → Type 0) → ((l : Label) (lits : List Lit) → P (Axiom l lits)) →
    ((l : Label) (lits : List Lit) → P (OnDemand l lits))
    → ((lits : List Lit) (hints : List ℕ) (counted : Bool) → length hints < 2 ^ 32 → P (Learn lits hints counted))
    → (line : ℕ) (s : Step) (tokens : List Lexeme) → SpellsStep line s tokens → P s
of_step P given brought learned line (Axiom l lits) tokens h = given l lits
of_step P given brought learned line (OnDemand l lits) tokens h = brought l lits
of_step P given brought learned line (Learn lits hints true) tokens h =
    learned lits hints true (let few : length hints ≤ 4294967294 = h.second.second.second.few in omega arith)
of_step P given brought learned line (Learn lits hints false) tokens h =
    learned lits hints false (let few : length hints ≤ 4294967294 = h.second.second.second.few in omega arith)

of_steps : (P : Step → Type 0) → ((line : ℕ) (s : Step) (tokens : List Lexeme) → SpellsStep line s tokens → P s)
    → (trees : List StepOnLine) (tokens : List Lexeme) → Many SpellsEndedStep trees tokens → All P (steps_of trees)
of_steps P each [] tokens h = All-nil P
of_steps P each (s ∷ trees) tokens h =
    All-cons P s.step (steps_of trees) (each s.line s.step h.first.front h.first.first) (of_steps P each trees h.rest h.second)

-- ... and of all the steps of a log: with `P` by these three cases, as "a step has fewer hints than 2^32" is said elsewhere
pub few_hints : (P : Step → Type 0) → ((l : Label) (lits : List Lit) → P (Axiom l lits)) →
    ((l : Label) (lits : List Lit) → P (OnDemand l lits))
    → ((lits : List Lit) (hints : List ℕ) (counted : Bool) → length hints < 2 ^ 32 → P (Learn lits hints counted))
    → (r : ReadLog) (tokens : List Lexeme) → SpellsLogPart r tokens → All P r.log.steps
few_hints P given brought learned r tokens (inl h) = subst (λ (r : ReadLog). All P r.log.steps) (sym h.0) (All-nil P)
few_hints P given brought learned r tokens (inr h) =
    let stepped : SpellsSteps r.log.steps r.steps h.second.second.rest = h.second.second.second in
    subst (All P) (sym stepped.steps_are) (of_steps P (of_step P given brought learned) stepped.trees
    h.second.second.rest stepped.spelled.spelled)

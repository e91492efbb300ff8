-- The lists of a report that is spelled are short.
use Rattle.std.proofs.Common.{ℕ, ◌<◌, ◌^◌, Bool, List, length, Result, Ok, Err, IfOk}
use Rattle.std.specs.Prelude.{All}
use Rattle.text_tokens.specs.Lexeme.{Lexeme}
use Rattle.text_tokens.specs.declared.token.TextFault.{TextFault}
use Rattle.currency_base.specs.declared.lit.Lit.{Lit}
use Rattle.refutation_log.specs.declared.step.Label.{Label}
use Rattle.refutation_log.specs.declared.step.Step.{Step}
use Rattle.refutation_log.specs.declared.step.Step.TheVariants.{Axiom, OnDemand, Learn}
use Rattle.log_syntax.proofs.Sizes as log
use Rattle.report_syntax.specs.declared.tree.ClaimTree.{ClaimTree}
use Rattle.report_syntax.specs.declared.tree.ClaimTree.TheVariants.{Inconsistent, Consistent, Certain, NotCertain, Same, NotSame, Answers, Undecided}
use Rattle.report_syntax.specs.declared.tree.ReportTree.{ReportTree}
use Rattle.report_syntax.specs.Reads.{ReadsReportText}
use Rattle.report_syntax.specs.Sizes.{HasFewItems, HasShortLists}
use Rattle.report_syntax.specs.Spells.{SpellsClaim, SpellsReport}

few_items : (c : ClaimTree) (tokens : List Lexeme) → SpellsClaim c tokens → HasFewItems c
few_items Inconsistent tokens h = tt
few_items Consistent tokens h = tt
few_items Certain tokens h = tt
few_items (NotCertain relation attr earlier later) tokens h = tt
few_items (Same items) tokens h = h.second.second.few
few_items (NotSame relation attr entity) tokens h = tt
few_items (Answers items) tokens h = h.second.second.few
few_items (Undecided counted) tokens h = tt

pub has_short_lists : (t : ReportTree) (tokens : List Lexeme) → SpellsReport t tokens → HasShortLists t
has_short_lists t tokens h =
    let verdict = h.second.second.second.second in
    let small = log.is_small t.log verdict.second.second.front verdict.second.second.first in
    record {
      few_items = few_items t.verdict.claim verdict.first.rest verdict.first.second;
      few_completions = verdict.second.first.few;
      few_statements = small.few_statements;
      few_steps = small.few_steps;
      statement_lines = small.statement_lines;
      step_lines = small.step_lines;
    }

-- what holds of each step with fewer hints than 2^32 holds of the steps of a report's log: with `P` by these three cases, as "a
-- step has fewer hints than 2^32" is said elsewhere
pub few_hints : (P : Step → Type 0) → ((l : Label) (lits : List Lit) → P (Axiom l lits)) →
    ((l : Label) (lits : List Lit) → P (OnDemand l lits))
    → ((lits : List Lit) (hints : List ℕ) (counted : Bool) → length hints < 2 ^ 32 → P (Learn lits hints counted))
    → (t : ReportTree) (tokens : List Lexeme) → SpellsReport t tokens → All P t.log.log.steps
few_hints P at_axiom at_demand at_learn t tokens h =
    let verdict = h.second.second.second.second in
    log.few_hints P at_axiom at_demand at_learn t.log verdict.second.second.front verdict.second.second.first

-- ... of a report that was read
pub read_short : (source : List ℕ) (result : Result ReportTree TextFault) → IfOk result (ReadsReportText source)
    → IfOk result HasShortLists
read_short source (Ok t) h = has_short_lists t h.lexemes h.spelled
read_short source (Err e) h = h

-- What is known of a report that was read, and of one that was refused.
use Rattle.std.proofs.Common.{◌≡◌, ◌∙◌, ◌<◌, ◌^◌, ◌≤◌, ◌+◌, ℕ, List, [], ◌∷◌, length, map, Option, Some, None, Result, Ok, Err, IfOk, IfErr, refl, sym, subst, arith, inl, inr, ◌⊎◌}
use Rattle.std.proofs.lemmas.List.{length-map}
use Rattle.currency_base.specs.declared.ids.RowId.{RowId}
use Rattle.refutation_log.specs.Numbered.{HasFewHints, IsNumbered}
use Rattle.log_form.specs.Form.{first_fault}
use Rattle.log_form.specs.declared.form.FormFault.{FormFault}
use Rattle.log_syntax.proofs.Sizes.{few_hints, is_small}
use Rattle.log_syntax.specs.Grammar.{SpellsLogPart}
use Rattle.refutation_log.specs.Counted.{AreWithin}
use Rattle.refutation_log.specs.declared.log.Log.{Log}
use Rattle.report_model.specs.Verdicts.{item_count}
use Rattle.report_model.specs.declared.verdict.Current.{Current}
use Rattle.report_model.specs.declared.verdict.Verdict.{Verdict}
use Rattle.report_model.specs.declared.verdict.Verdict.TheVariants as verdict
use Rattle.report_syntax.specs.Spells.{SpellsReport}
use Rattle.report_syntax.specs.declared.tree.ClaimTree.{ClaimTree}
use Rattle.report_syntax.specs.declared.tree.ClaimTree.TheVariants.{Inconsistent, Consistent, Certain, NotCertain, Same, NotSame, Answers, Undecided}
use Rattle.report_syntax.specs.declared.tree.CompletionTree.{CompletionTree}
use Rattle.report_syntax.specs.declared.tree.CurrentTree.{CurrentTree}
use Rattle.report_syntax.specs.declared.tree.ReportTree.{ReportTree}
use Rattle.report_syntax.specs.declared.tree.Version.{Version}
use Rattle.spec_model.specs.Completion.{Rankings}
use Rattle.spec_model.specs.declared.relation.Relation.{Relation}
use Rattle.text_grammar.specs.Texts.{ReadsText}
use Rattle.text_grammar.specs.declared.named.Named.{Named}
use Rattle.text_tokens.specs.Lexeme.{Lexeme}
use Rattle.currency_report.proofs.Outcomes.{same_length}
use Rattle.currency_report.specs.Claimed.{claim_said, current_said, currents_said, item_lines, pair_of, pair_said, place_said}
use Rattle.currency_report.specs.Completed.{all_completed, completed, later_completed, later_ones}
use Rattle.currency_report.specs.Lines.{AreLinesOf}
use Rattle.currency_report.specs.Outcomes.{and_then, IsDue}
use Rattle.currency_report.specs.Places.{AttrPlace, Place, attr_named, entity_named, place_named, row_named}
use Rattle.currency_report.specs.Reads.{log_or_fault, report_of, said, RefusesReport}
use Rattle.currency_report.specs.declared.report.ReadReport.{ReadReport}
use Rattle.currency_report.specs.declared.report.ReportFault.{ReportFault}
use Rattle.currency_report.specs.declared.report.ReportFault.TheVariants.{Refused, NoMemory}

-- ---- as many as are written

as_many_currents : (relations : List Relation) (ts : List CurrentTree) (items : List Current)
    → currents_said relations ts ≡ Ok items → length items ≡ length ts
as_many_currents relations ts items h =
    same_length (λ t. current_said t (entity_named relations t.relation t.entity)) (currents_said relations)
    (λ t ts. refl) refl ts items h

as_many_later : (version : Version) (relations : List Relation) (first : Rankings) (ts : List CompletionTree) (cs : List Rankings)
    → later_ones version relations first ts ≡ Ok cs → length cs ≡ length ts
as_many_later version relations first ts cs h =
    same_length (later_completed version relations first) (later_ones version relations first) (λ t ts. refl) refl ts cs h

first_and_more : (first : Result Rankings ReportFault) (later : Rankings → Result (List Rankings) ReportFault)
    (n : ℕ) (cs : List Rankings)
    → ((c : Rankings) (more : List Rankings) → later c ≡ Ok more → length more ≡ n) → and_then first
    (λ c. and_then (later c) (λ more. Ok (c ∷ more))) ≡ Ok cs
    → length cs ≡ n + 1
first_and_more (Err e) later n cs h same = cc
first_and_more (Ok c) later n cs h same = behind (later c) refl same
  where
    behind : (rest : Result (List Rankings) ReportFault) → later c ≡ rest → and_then rest (λ more. Ok (c ∷ more)) ≡
        Ok cs → length cs ≡ n + 1
    behind (Err e) is same = cc
    behind (Ok more) is same =
        let all : ◌≡◌ {A = List Rankings} (c ∷ more) cs = cc in
        let e = h c more is in
        rw (← all) (omega (arith, e))

as_many_completed : (version : Version) (relations : List Relation) (ts : List CompletionTree) (cs : List Rankings)
    → all_completed version relations ts ≡ Ok cs → length cs ≡ length ts
as_many_completed version relations [] cs h = let is : ◌≡◌ {A = List Rankings} [] cs = cc in rw (← is) refl
as_many_completed version relations (t ∷ ts) cs h =
    let e = first_and_more (completed relations t) (λ first. later_ones version relations first ts) (length ts) cs
    (λ first more. as_many_later version relations first ts more) h in
    omega (arith, e)

-- ---- the items of a claim

no_pair_items : (line : ℕ) (a : AttrPlace) (earlier later : Option RowId) (v : Verdict) → pair_of line a earlier
    later ≡ Ok v → item_count v ≡ 0
no_pair_items line a None later v h = cc
no_pair_items line a (Some earlier) None v h = cc
no_pair_items line a (Some earlier) (Some later) v h =
    let is : verdict.NotCertain record {
      rel = record { 0 = a.rel };
      pair = record { attr = record { 0 = a.attr }; earlier = earlier; later = later };
    } ≡ v = cc in
    rw (← is) refl

no_items_of_pair : (line : ℕ) (earlier later : Named) (o : Option AttrPlace) (v : Verdict) → pair_said line earlier
    later o ≡ Ok v → item_count v ≡ 0
no_items_of_pair line earlier later None v h = cc
no_items_of_pair line earlier later (Some a) v h = no_pair_items line a (row_named a.relation earlier)
    (row_named a.relation later) v h

no_items_of_place : (line : ℕ) (o : Option Place) (v : Verdict) → place_said line o ≡ Ok v → item_count v ≡ 0
no_items_of_place line None v h = cc
no_items_of_place line (Some p) v h =
    let is : verdict.NotSame (record { 0 = p.rel }) (record { 0 = p.attr }) (record { 0 = p.ent }) ≡ v = cc in
    rw (← is) refl

items_of_same : (items : List CurrentTree) (due : Result (List Current) ReportFault) (v : Verdict) →
    ((cs : List Current) → due ≡ Ok cs → length cs ≡ length items)
    → and_then due (λ cs. Ok (verdict.Same cs)) ≡ Ok v → length (item_lines (Same items)) ≡ item_count v
items_of_same items (Err e) v h same = cc
items_of_same items (Ok cs) v h same =
    let is : verdict.Same cs ≡ v = cc in
    rw (← is) (length-map items (λ t. t.line) ∙ sym (h cs refl))

lined_items : (relations : List Relation) (line : ℕ) (claim : ClaimTree) (v : Verdict) → claim_said relations line claim ≡ Ok v
    → length (item_lines claim) ≡ item_count v
lined_items relations line Inconsistent v h = let is : verdict.Inconsistent ≡ v = cc in rw (← is) refl
lined_items relations line Consistent v h = let is : verdict.Consistent ≡ v = cc in rw (← is) refl
lined_items relations line Certain v h = let is : verdict.Certain ≡ v = cc in rw (← is) refl
lined_items relations line (NotCertain relation attr earlier later) v h =
    sym (no_items_of_pair line earlier later (attr_named relations relation attr) v h)
lined_items relations line (Same items) v h =
    items_of_same items (currents_said relations items) v (λ cs. as_many_currents relations items cs) h
lined_items relations line (NotSame relation attr entity) v h =
    sym (no_items_of_place line (place_named relations relation attr entity) v h)
lined_items relations line (Answers items) v h =
    let is : verdict.Answers (map (λ t. t.values) items) ≡ v = cc in
    rw (← is) (length-map items (λ t. t.line) ∙ sym (length-map items (λ t. t.values)))
lined_items relations line (Undecided counted) v h = let is : verdict.Undecided counted ≡ v = cc in rw (← is) refl

-- ---- the parts of a report

-- a report is that of a tree with a verdict, completions and a well-formed log
record IsSaid (relations : List Relation) (t : ReportTree) (r : ReadReport) : Type 0 where
  verdict : Verdict
  completions : List Rankings
  claimed : claim_said relations t.verdict.line t.verdict.claim ≡ Ok verdict
  completed : all_completed t.version relations t.completions ≡ Ok completions
  well_formed : first_fault relations t.log.log ≡ None
  is : report_of t verdict completions t.log.log ≡ r

from_parts : (relations : List Relation) (t : ReportTree) (r : ReadReport) (v : Result Verdict ReportFault)
    (cs : Result (List Rankings) ReportFault)
    (fault : Option FormFault) → claim_said relations t.verdict.line t.verdict.claim ≡ v → all_completed t.version
    relations t.completions ≡ cs
    → first_fault relations t.log.log ≡ fault
    → and_then v (λ v. and_then cs (λ cs. and_then (log_or_fault t.log fault) (λ log. Ok (report_of t v cs log)))) ≡
    Ok r → IsSaid relations t r
from_parts relations t r (Err e) cs fault claimed listed formed h = cc
from_parts relations t r (Ok v) (Err e) fault claimed listed formed h = cc
from_parts relations t r (Ok v) (Ok cs) (Some fault) claimed listed formed h = cc
from_parts relations t r (Ok v) (Ok cs) None claimed listed formed h =
    record { verdict = v; completions = cs; claimed = claimed; completed = listed; well_formed = formed; is = cc }

parts_of : (relations : List Relation) (t : ReportTree) (r : ReadReport) → said relations t ≡ Ok r → IsSaid relations t r
unfolding said
parts_of relations t r h =
    from_parts relations t r (claim_said relations t.verdict.line t.verdict.claim)
    (all_completed t.version relations t.completions)
    (first_fault relations t.log.log) refl refl refl h

-- ---- what the grammar bounds

-- a report that is spelled has few completions, and a log that is spelled
record IsBounded (t : ReportTree) : Type 0 where
  few : length t.completions ≤ 4294967294
  log_tokens : List Lexeme
  log : SpellsLogPart t.log log_tokens

bounded : (source : List ℕ) (t : ReportTree) → ReadsText SpellsReport source t → IsBounded t
bounded source t text =
    let rest = text.spelled.second.second.second.second.second in
    record { few = rest.first.few; log_tokens = rest.second.front; log = rest.second.first }

numbered_log : (t : ReportTree) → IsBounded t → AreWithin (length t.log.log.statements) t.log.log.steps
    → IsNumbered t.log.log.statements t.log.log.steps
numbered_log t h within =
    let small = is_small t.log h.log_tokens h.log in
    record {
      within = within;
      few_statements = omega (arith, small.few_statements);
      few_steps = omega (arith, small.few_steps);
      few_hints = few_hints HasFewHints (λ l lits. tt) (λ l lits. tt) (λ lits hints counted few. few) t.log h.log_tokens h.log;
    }

-- ---- what is known of the outcome

module _ (relations : List Relation) (source : List ℕ) (t : ReportTree) where
  pub few : (result : Result ReadReport ReportFault) → ReadsText SpellsReport source t → IsDue (said relations t) result
      → IfOk result (λ r. length r.report.completions < 2 ^ 32)
  few (Ok r) text due =
      let is = parts_of relations t r due in
      let count = as_many_completed t.version relations t.completions is.completions is.completed in
      subst (λ (r : ReadReport). length r.report.completions < 2 ^ 32) is.is (omega (arith, count, (bounded source t text).few))
  few (Err e) text due = tt

  pub numbered : (result : Result ReadReport ReportFault) → ReadsText SpellsReport source t → IsDue (said relations t) result
      → ((relations : List Relation) (log : Log) → first_fault relations log ≡ None → AreWithin (length log.statements) log.steps)
      → IfOk result (λ r. IsNumbered r.report.log.statements r.report.log.steps)
  numbered (Ok r) text due law =
      let is = parts_of relations t r due in
      subst (λ (r : ReadReport). IsNumbered r.report.log.statements r.report.log.steps) is.is
      (numbered_log t (bounded source t text) (law relations t.log.log is.well_formed))
  numbered (Err e) text due law = tt

  pub well_formed : (result : Result ReadReport ReportFault) → IsDue (said relations t) result
      → IfOk result (λ r. first_fault relations r.report.log ≡ None)
  well_formed (Ok r) due =
      let is = parts_of relations t r due in
      subst (λ (r : ReadReport). first_fault relations r.report.log ≡ None) is.is is.well_formed
  well_formed (Err e) due = tt

  pub lines : (result : Result ReadReport ReportFault) → ReadsText SpellsReport source t → IsDue (said relations t) result
      → IfOk result (λ r. AreLinesOf r.report r.lines)
  lines (Ok r) text due =
      let is = parts_of relations t r due in
      let bound = bounded source t text in
      let small = is_small t.log bound.log_tokens bound.log in
      let count = as_many_completed t.version relations t.completions is.completions is.completed in
      subst (λ (r : ReadReport). AreLinesOf r.report r.lines) is.is record {
        items = lined_items relations t.verdict.line t.verdict.claim is.verdict is.claimed;
        completions = length-map t.completions (λ c. c.line) ∙ sym count;
        steps = small.step_lines;
      }
  lines (Err e) text due = tt

  pub refused : (result : Result ReadReport ReportFault) → ReadsText SpellsReport source t → IsDue (said relations t) result
      → IfErr result (λ e. (e ≡ NoMemory) ⊎ RefusesReport relations source e)
  refused (Ok r) text due = tt
  refused (Err (Refused code line)) text due = inr (inr record { tree = t; spelled = text; refuses = due })
  refused (Err NoMemory) text due = inl refl

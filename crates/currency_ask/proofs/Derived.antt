-- The report of claims that are derived: each goal's unit stands in the trimmed log, and says what is claimed.
use Rattle.std.proofs.Common.{eq-eqb, rules, ◌≡◌, ◌≢◌, ◌<◌, ◌≤◌, ◌∙◌, ◌==◌, ℕ, Bool, true, false, List, [], ◌∷◌, All, Contains, Option, Some, None, get_or, length, map, option_map, slice_get, refl, sym, ap, subst, inl, inr, arith}
use Rattle.std.specs.List.{list_any}
use Rattle.std.proofs.lemmas.Bool.{and_from}
use Rattle.std.proofs.lemmas.List.{length-map}
use Rattle.std.proofs.lemmas.List.Folds.{list_any_at}
use Rattle.std.proofs.lemmas.Option.{get_or_from_slice_get, same_Some, slice_get-get_or, slice_get_within}
use Rattle.axiom_agreement.specs.Agreement.{OrdersAgree, ValuesAgree}
use Rattle.checked_logs.specs.Trimmed.{GoalAnswersKeep, GoalClausesKeep, GoalMeaningsKeep, TrimmedAreAccepted, renumbered_signed}
use Rattle.currency_base.specs.declared.lit.Lit.{Lit}
use Rattle.currency_base.specs.declared.ids.AttrId.{AttrId}
use Rattle.currency_base.specs.declared.ids.EntId.{EntId}
use Rattle.currency_base.specs.declared.ids.RelId.{RelId}
use Rattle.currency_base.specs.declared.ids.RowId.{RowId}
use Rattle.currency_base.specs.Literals.{is_negative, var_of}
use Rattle.currency_base.specs.declared.value.Value.{Value}
use Rattle.common_answers.specs.Common.{AreCommon}
use Rattle.log_axioms.specs.Axioms.{answer, before, is_said, last, lit_says, says_same}
use Rattle.log_axioms.specs.Posed.{Posed}
use Rattle.log_axioms.specs.Truth.{meaning}
use Rattle.log_axioms.specs.declared.signed.Signed.{Signed}
use Rattle.log_checker.specs.Shown.{is_unit}
use Rattle.log_form.specs.Form.{first_fault}
use Rattle.log_trim.specs.Trimmed.{AreInPlace, IsTrimmed, lits_at, rank, renumbered_lit, renumbered_statement}
use Rattle.log_trim.specs.declared.trimming.Trimmed.{Trimmed}
use Rattle.refutation_log.specs.Writable.{IsWritable}
use Rattle.order_literals.specs.Said as made
use Rattle.order_literals.specs.Said.{Said, Says, positive}
use Rattle.order_literals.specs.declared.wanted.Wanted.{Wanted}
use Rattle.order_search.specs.Searches.{IsSearch, Search}
use Rattle.query_model.specs.declared.query.Query.{Query}
use Rattle.refutation_log.specs.Counted.{counted_steps}
use Rattle.refutation_log.specs.Steps.{clause_of, clauses_of}
use Rattle.refutation_log.specs.declared.log.Log.{Log}
use Rattle.refutation_log.specs.declared.statement.Statement.{Statement}
use Rattle.refutation_log.specs.declared.statement.Statement.TheVariants as says
use Rattle.report_model.specs.declared.report.Part.{Part}
use Rattle.report_model.specs.declared.verdict.Verdict.{Verdict}
use Rattle.report_model.specs.declared.verdict.Verdict.TheVariants as verdict
use Rattle.report_verify.specs.Asked.{query_of}
use Rattle.report_verify.specs.Supported.{Claim, IsDerived, IsOneOf, IsSupported, Need, needs_of}
use Rattle.report_verify.specs.Supported.Claim.{Holds, HasValue, HasAnswer}
use Rattle.report_model.specs.Writable.{IsWritableVerdict}
use Rattle.search_logs.specs.Laws.{CompletionsAreWritable, LogsAreAccepted, LogsAreInPlace, TrimmedAreAmong, TrimmedAreNoMore, TrimmedAreReached, TrimmedAreRight, TrimmedAreUsed, TrimmedAreWritable}
use Rattle.search_logs.specs.SearchLogs.{HasFewSteps}
use Rattle.spec_model.specs.Completion.{Rankings}
use Rattle.spec_model.specs.Consistent.{IsConsistent}
use Rattle.spec_model.specs.Spec.{Spec}
use Rattle.spec_model.specs.declared.question.Asked.{Asked}
use Rattle.spec_model.specs.declared.question.Question.{Question}
use Rattle.spec_model.specs.declared.question.Question.TheVariants as asked
use Rattle.spec_model.specs.declared.relation.Relation.{Relation}
use Rattle.value_names.specs.Names.{name_of}
use Rattle.currency_ask.specs.Answered.{IsAnswerWithin, IsDecidedBy, IsOfClaims, IsUnitOf, NamesFirst, SaysClaim}
use Rattle.currency_ask.specs.Goals.{AreClaims, AreProved, IsClaimOf, IsGoalOn, rows_at, said_of}
use Rattle.currency_ask.specs.Reported.{IsListedFor, IsReported, IsSearchFor}
use Rattle.currency_ask.specs.declared.goal.Goal.{Goal}
use Rattle.currency_ask.specs.declared.goal.Goal.TheVariants.{Pair, Current, Answer}
use Rattle.currency_ask.proofs.Completions.{AreShown, shown_each}
use Rattle.currency_ask.proofs.Places.{item_at}
use Rattle.currency_ask.proofs.Wants.{accepted_for, among_of, needed_of}

-- the laws of search logs, of what they are trimmed to, and of what literals say
pub record ClaimLaws : Type 0 where
  pub accepted : LogsAreAccepted
  pub in_place : LogsAreInPlace
  pub trimmed_accepted : TrimmedAreAccepted
  pub clauses : GoalClausesKeep
  pub meanings : GoalMeaningsKeep
  pub answers : GoalAnswersKeep
  pub writable : TrimmedAreWritable
  pub among : TrimmedAreAmong
  pub reached : TrimmedAreReached
  pub used : TrimmedAreUsed
  pub no_more : TrimmedAreNoMore
  pub right : TrimmedAreRight
  pub completions : CompletionsAreWritable
  pub orders : OrdersAgree
  pub values : ValuesAgree

-- ---- what is said stays said when answers are renumbered

before_kept : (relations : List Relation) (keep : ℕ → Bool) (rel : RelId) (attr : AttrId) (a b : RowId)
    (st : Statement) (n : Bool)
    → says_same relations (record { statement = renumbered_statement keep st; negative = n }) (before rel attr a b)
    ≡ says_same relations (record { statement = st; negative = n }) (before rel attr a b)
before_kept relations keep rel attr a b (says.Before rel' attr' c d) n = refl
before_kept relations keep rel attr a b (says.Top rel' attr' row) n = refl
before_kept relations keep rel attr a b (says.Last rel' attr' row) n = refl
before_kept relations keep rel attr a b (says.Answer tuple) n = refl

last_kept : (relations : List Relation) (keep : ℕ → Bool) (rel : RelId) (attr : AttrId) (row : RowId) (st : Statement) (n : Bool)
    → says_same relations (record { statement = renumbered_statement keep st; negative = n }) (last rel attr row)
    ≡ says_same relations (record { statement = st; negative = n }) (last rel attr row)
last_kept relations keep rel attr row (says.Before rel' attr' c d) n = refl
last_kept relations keep rel attr row (says.Top rel' attr' row') n = refl
last_kept relations keep rel attr row (says.Last rel' attr' row') n = refl
last_kept relations keep rel attr row (says.Answer tuple) n = refl

said_kept : (relations : List Relation) (keep : ℕ → Bool) (s : Signed)
    → ((st : Statement) (n : Bool) → says_same relations (record { statement = renumbered_statement keep st; negative = n }) s
    ≡ says_same relations (record { statement = st; negative = n }) s)
    → (o : Option Signed) → is_said relations s (option_map (renumbered_signed keep) o) ≡ is_said relations s o
said_kept relations keep s same None = refl
said_kept relations keep s same (Some m) = same m.statement m.negative

-- ---- one goal

-- what a goal's literal says for the judge
abbrev SaysOf : Spec → List Statement → Lit → Goal → Type 0
SaysOf s statements lit (Pair p) = lit_says s.relations statements
    (before p.rel p.pair.attr p.pair.earlier p.pair.later) lit ≡ true
SaysOf s statements lit (Current p) = lit_says s.relations statements (last p.rel p.attr p.row) lit ≡ true
SaysOf s statements lit (Answer place) = meaning statements lit ≡ Some (answer place)

-- a literal that is made to say that a tuple is an answer has this meaning, since there are no other words for it
answer_told : (o : Option Statement) (negative : Bool) (place : ℕ)
    → option_map (λ (st : Statement). let x : Said = record { statement = st; negative = negative } in x) o ≡ Some
    (positive (says.Answer place))
    → option_map (λ (st : Statement). let x : Signed = record { statement = st; negative = negative } in x) o ≡ Some
    (answer place)
answer_told None negative place e = let no : ⊥ = cc in absurd no
answer_told (Some st) negative place e =
    let one : ◌≡◌ {A = Said} (record { statement = st; negative = negative }) (positive (says.Answer place)) =
    same_Some (record { statement = st; negative = negative }) (positive (says.Answer place)) e in
    ap (λ (x : Said). let y : Signed = record { statement = x.statement; negative = x.negative } in Some y) one

answer_meant : (statements : List Statement) (lit : Lit) (place : ℕ) → Says statements lit (positive (says.Answer place))
    → meaning statements lit ≡ Some (answer place)
answer_meant statements lit place (inl told) = answer_told (slice_get statements (var_of lit)) (is_negative lit) place told
answer_meant statements lit place (inr told) = answer_told (slice_get statements (var_of lit)) (is_negative lit) place told

judged : ClaimLaws → (seen : Search) (goal : Goal) (lit : Lit) → IsSearch seen → IsGoalOn seen.spec seen.wanted goal
    → Says seen.log.statements lit (said_of seen.spec goal) → SaysOf seen.spec seen.log.statements lit goal
judged laws seen (Pair p) lit is g told = laws.orders seen.spec.relations seen.log.statements lit p.rel p.pair.attr
    p.pair.earlier p.pair.later told
judged laws seen (Current p) lit is g told =
    laws.values seen.spec seen.log.statements lit p.rel p.attr p.row g.relation is.within.specification g.is_relation
    g.attr_within g.row_within
    (subst (λ (o : Option Relation). Says seen.log.statements lit
    (made.last p.rel p.attr (name_of (rows_at o) p.attr.0 p.row))) g.is_relation told)
judged laws seen (Answer place) lit is g told = answer_meant seen.log.statements lit place told

-- a literal of a log, and its new number in what the log is trimmed to, where it says the same but for the number of an
-- answer; the answer that it names stands there at its new number
record IsMoved (old new : Log) (keep : ℕ → Bool) (lit renumbered : Lit) : Type 0 where
  means : meaning new.statements renumbered ≡ option_map (renumbered_signed keep) (meaning old.statements lit)
  answers : (place : ℕ) → meaning old.statements lit ≡ Some (answer place) → slice_get new.answers
      (rank keep place) ≡ slice_get old.answers place

answer_itself : (relations : List Relation) (place : ℕ) → says_same relations (answer place) (answer place) ≡ true
answer_itself relations place = and_from (place == place) true (eq-eqb place place refl) refl

-- what it says is what is claimed
claimed : (s : Spec) (posed : Posed) (wanted : Wanted) (old new : Log) (keep : ℕ → Bool) (goal : Goal)
    (claim : Claim) (lit renumbered : Lit)
    → IsGoalOn s wanted goal → IsClaimOf s posed goal claim → old.answers ≡ posed.answers → IsMoved old new keep lit renumbered
    → SaysOf s old.statements lit goal → SaysClaim s new renumbered claim
claimed s posed wanted old new keep (Pair p) (Holds q) lit renumbered g same answers moved told =
    let it = before p.rel p.pair.attr p.pair.earlier p.pair.later in
    subst (λ (x : Asked). lit_says s.relations new.statements (before x.rel x.pair.attr x.pair.earlier x.pair.later)
    renumbered ≡ true) same
    (ap (is_said s.relations it) moved.means
    ∙ said_kept s.relations keep it (before_kept s.relations keep p.rel p.pair.attr p.pair.earlier p.pair.later)
    (meaning old.statements lit) ∙ told)
claimed s posed wanted old new keep (Pair p) (HasValue rel attr ent v) lit renumbered g same answers moved told = absurd same
claimed s posed wanted old new keep (Pair p) (HasAnswer tuple) lit renumbered g same answers moved told = absurd same
claimed s posed wanted old new keep (Current p) (Holds q) lit renumbered g same answers moved told = absurd same
claimed s posed wanted old new keep (Current p) (HasValue rel attr ent v) lit renumbered g same answers moved told =
    let it = last p.rel p.attr p.row in
    subst (λ (x : RelId). SaysClaim s new renumbered (HasValue x attr ent v)) same.0
    (subst (λ (x : AttrId). SaysClaim s new renumbered (HasValue p.rel x ent v)) same.1
    (subst (λ (x : EntId). SaysClaim s new renumbered (HasValue p.rel p.attr x v)) same.2 record {
      relation = g.relation;
      row = p.row;
      is_relation = g.is_relation;
      of_entity = g.of_entity;
      of_value = same.3 g.relation g.is_relation;
      says = ap (is_said s.relations it) moved.means
          ∙ said_kept s.relations keep it (last_kept s.relations keep p.rel p.attr p.row) (meaning old.statements lit) ∙ told;
    }))
claimed s posed wanted old new keep (Current p) (HasAnswer tuple) lit renumbered g same answers moved told = absurd same
claimed s posed wanted old new keep (Answer place) (Holds q) lit renumbered g same answers moved told = absurd same
claimed s posed wanted old new keep (Answer place) (HasValue rel attr ent v) lit renumbered g same answers moved
    told = absurd same
claimed s posed wanted old new keep (Answer place) (HasAnswer tuple) lit renumbered g same answers moved told = record {
  place = rank keep place;
  is_tuple = moved.answers place told ∙ ap (λ (xs : List (List Value)). slice_get xs place) answers ∙ same;
  says = ap (is_said s.relations (answer (rank keep place))) (moved.means ∙ ap (option_map (renumbered_signed keep)) told)
      ∙ answer_itself s.relations (rank keep place);
}

-- ---- units

unit_itself : (lit : Lit) → is_unit lit (lit ∷ []) ≡ true
unit_itself lit = rw (itself lit.0) refl
  where
    itself : (n : ℕ) → (n == n) ≡ true
    itself n = search rules

unit_there : (log : Log) (lit : Lit) (place : ℕ) → slice_get (clauses_of log.steps) place ≡ Some (lit ∷ [])
    → list_any (is_unit lit) (clauses_of log.steps) ≡ true
unit_there log lit place at =
    list_any_at (is_unit lit) (clauses_of log.steps) place (lit ∷ []) (slice_get_within (clauses_of log.steps) place
    (lit ∷ []) at)
    (ap (is_unit lit) (get_or_from_slice_get (clauses_of log.steps) place (lit ∷ []) (lit ∷ []) at) ∙ unit_itself lit)

pub derived_claim : (s : Spec) (log : Log) (part : Part) (claim : Claim) (place : ℕ) → IsUnitOf s log claim place
    → IsDerived s.relations log (record { part = part; claim = claim })
derived_claim s log part (Holds p) place u = record { lit = u.lit; says = u.says; there = unit_there log u.lit place u.is_unit }
derived_claim s log part (HasValue rel attr ent v) place u = record {
  relation = u.says.relation;
  row = u.says.row;
  is_relation = u.says.is_relation;
  of_entity = u.says.of_entity;
  of_value = u.says.of_value;
  unit = record { lit = u.lit; says = u.says.says; there = unit_there log u.lit place u.is_unit };
}
derived_claim s log part (HasAnswer tuple) place u = record {
  place = u.says.place;
  is_tuple = u.says.is_tuple;
  unit = record { lit = u.lit; says = u.says.says; there = unit_there log u.lit place u.is_unit };
}

-- ---- all goals

module _ (laws : ClaimLaws) (seen : Search) (is : IsSearch seen) (few : HasFewSteps seen.log) (goals : List Goal) (steps : List ℕ)
    (on : All (IsGoalOn seen.spec seen.wanted) goals) (proved : AreProved seen goals steps) where
  within_steps : All (λ goal. goal < length seen.log.steps) steps
  within_steps k d below =
      let goal = item_at goals k (omega (arith, below, proved.as_many)) in
      let one = proved.each k goal.0 (get_or steps k d) goal.1 (slice_get-get_or steps k d below) in
      let inside = slice_get_within (clauses_of seen.log.steps) (get_or steps k d) (one.lit ∷ []) one.is_unit in
      let same = length-map seen.log.steps clause_of in
      omega (arith, inside, same)

  pub in_place : AreInPlace seen.log steps
  in_place = (laws.in_place seen.spec seen.posed seen.wanted seen.log steps is.within is.log few within_steps).1

  module _ (trimmed : Trimmed) (t : IsTrimmed seen.log steps trimmed) where
    -- the unit of a claim stands at the new place of its step
    unit_at : (k : ℕ) (goal : Goal) (claim : Claim) (new : ℕ) → slice_get goals k ≡ Some goal → IsClaimOf seen.spec
        seen.posed goal claim
        → slice_get trimmed.goals k ≡ Some new → IsUnitOf seen.spec trimmed.log claim new
    unit_at k goal claim new at same at_new =
        let below : k < length steps = let b = slice_get_within goals k goal at in omega (arith, b, proved.as_many) in
        let step = item_at steps k below in
        let one = proved.each k goal step.0 at step.1 in
        let kept = laws.clauses seen.log steps trimmed in_place t k step.0 step.1 in
        let new_is : kept.0 ≡ new = same_Some kept.0 new (sym kept.1 ∙ at_new) in
        let lits : lits_at seen.log.steps step.0 ≡ one.lit ∷ [] =
        get_or_from_slice_get (clauses_of seen.log.steps) step.0 (one.lit ∷ []) [] one.is_unit in
        let is_in : Contains (lits_at seen.log.steps step.0) one.lit = subst (λ (xs : List Lit). Contains xs one.lit)
        (sym lits) (0, omega arith, refl) in
        let is_goal : Contains steps step.0 = (k, below, get_or_from_slice_get steps k step.0 step.0 step.1) in
        let g : IsGoalOn seen.spec seen.wanted goal =
        subst (IsGoalOn seen.spec seen.wanted) (get_or_from_slice_get goals k goal goal at)
        (on k goal (slice_get_within goals k goal at)) in
        let moved : IsMoved seen.log trimmed.log t.answer_kept one.lit (renumbered_lit t.statement_kept one.lit) = record {
          means = laws.meanings seen.log steps trimmed in_place t step.0 one.lit is_goal is_in;
          answers = λ place means. laws.answers seen.log steps trimmed in_place t step.0 one.lit is_goal is_in place false means;
        } in
        record {
          lit = renumbered_lit t.statement_kept one.lit;
          is_unit = ap (slice_get (clauses_of trimmed.log.steps)) (sym new_is) ∙ kept.2
              ∙ ap (λ (xs : List Lit). Some (map (renumbered_lit t.statement_kept) xs)) lits;
          says = claimed seen.spec seen.posed seen.wanted seen.log trimmed.log t.answer_kept goal claim one.lit
              (renumbered_lit t.statement_kept one.lit) g same
              is.log.answers moved (judged laws seen goal one.lit is g one.says);
        }

    as_many : length trimmed.goals ≡ length goals
    as_many = ap (λ (xs : List ℕ). length xs) t.new_goals ∙ length-map steps (rank t.step_kept) ∙ proved.as_many

    all_derived : (needs : List Need) → AreClaims seen.spec seen.posed goals needs
        → All (IsDerived seen.spec.relations trimmed.log) needs
    all_derived needs are k d below =
        let need = get_or needs k d in
        let goal = item_at goals k (omega (arith, below, are.as_many)) in
        let new = item_at trimmed.goals k (omega (arith, below, are.as_many, as_many)) in
        derived_claim seen.spec trimmed.log need.part need.claim new.0
        (unit_at k goal.0 need.claim new.0 goal.1 (are.each k goal.0 need goal.1 (slice_get-get_or needs k d below)) new.1)

    units_of : (needs : List Need) → AreClaims seen.spec seen.posed goals needs → (k : ℕ) (need : Need) (new : ℕ)
        → slice_get needs k ≡ Some need → slice_get trimmed.goals k ≡ Some new → IsUnitOf seen.spec trimmed.log need.claim new
    units_of needs are k need new at at_new =
        let below = slice_get_within needs k need at in
        let goal = item_at goals k (omega (arith, below, are.as_many)) in
        unit_at k goal.0 need.claim new goal.1 (are.each k goal.0 need goal.1 at) at_new

    of_claims : (q : Question) (budget : ℕ) (v : Verdict) → IsSearchFor q seen → counted_steps seen.log.steps ≤ budget
        → AreClaims seen.spec seen.posed goals (needs_of q v) → IsOfClaims seen.spec q budget v trimmed.log
    of_claims q budget v for_it within are = record {
      goals = trimmed.goals;
      one_each = as_many ∙ are.as_many;
      units = units_of (needs_of q v) are;
      needed = needed_of laws.reached laws.used laws.no_more laws.right budget seen steps trimmed is in_place t within;
      among = among_of laws.among laws.no_more q seen steps trimmed is for_it few t;
    }

    written : IsWritable trimmed.log × (first_fault seen.spec.relations trimmed.log ≡ None)
    written = laws.writable seen.spec seen.posed seen.wanted seen.log steps trimmed is.within is.log few within_steps t

    -- the report, but for what the verdict asks of the completions
    report_with : (q : Question) (budget : ℕ) (v : Verdict) (completions : List Rankings) → IsSearchFor q seen
        → AreShown seen.spec completions
        → IsWritableVerdict seen.spec.relations v → IsOneOf seen.spec q v → IsSupported seen.spec q v completions trimmed.log
        → IsAnswerWithin seen.spec q budget (record { verdict = v; completions = completions; log = trimmed.log })
        → IsDecidedBy seen.spec q budget (record { verdict = v; completions = completions; log = trimmed.log })
        → NamesFirst seen.spec q v
        → IsReported seen.spec q budget (record { verdict = v; completions = completions; log = trimmed.log })
    report_with q budget v completions for_it shown verdict_written one_of supported lists enough first = record {
      shown = record {
        sound = record {
          one_of = one_of;
          consistent = shown.consistent;
          accepted = laws.trimmed_accepted seen.spec (query_of q) seen.log steps trimmed in_place
              (accepted_for laws.accepted q seen is for_it) t;
        };
        supported = supported;
      };
      writable = record {
        verdict = verdict_written;
        completions = shown.writable;
        cover = shown.cover;
        log = written.0;
        well_formed = written.1;
      };
      lists = lists;
      enough = enough;
      first = first;
    }

    one_is_some : (completions : List Rankings) → length completions ≡ 1 → completions ≢ []
    one_is_some completions one none = let no : 0 ≡ 1 = sym (ap (λ (xs : List Rankings). length xs) none)
        ∙ one in absurd (omega (arith, no))

    answers_supported : (q : Question) (query : Query) (tuples : List (List Value)) (completions : List Rankings)
        → query_of q ≡ Some query
        → completions ≢ [] → All (IsDerived seen.spec.relations trimmed.log) (needs_of q (verdict.Answers tuples))
        → AreCommon seen.spec.relations query tuples completions → IsSupported seen.spec q (verdict.Answers tuples)
        completions trimmed.log
    answers_supported (asked.Answers own) query tuples completions e some derived common = (
      some,
      derived,
      subst (λ (x : Query). AreCommon seen.spec.relations x tuples completions)
          (sym (same_Some own query e)) common,
    )
    answers_supported asked.Consistent query tuples completions e some derived common = let no : ⊥ = cc in absurd no
    answers_supported (asked.Certain pairs) query tuples completions e some derived common = let no : ⊥ = cc in absurd no
    answers_supported (asked.Same rels) query tuples completions e some derived common = let no : ⊥ = cc in absurd no

    report_of : (q : Question) (budget : ℕ) (v : Verdict) (completions : List Rankings) → IsSearchFor q seen
        → counted_steps seen.log.steps ≤ budget → AreShown seen.spec completions
        → IsWritableVerdict seen.spec.relations v → IsOneOf seen.spec q v → AreClaims seen.spec seen.posed goals (needs_of q v)
        → IsListedFor seen.spec q v completions → IsReported seen.spec q budget
        (record { verdict = v; completions = completions; log = trimmed.log })
    report_of q budget verdict.Certain completions for_it within shown verdict_written one_of are listed =
        report_with q budget verdict.Certain completions for_it shown verdict_written one_of
        (one_is_some completions listed, all_derived (needs_of q verdict.Certain) are)
        (listed, of_claims q budget verdict.Certain for_it within are)
        (λ count counts enough. refl) tt
    report_of q budget (verdict.Same items) completions for_it within shown verdict_written one_of are listed =
        report_with q budget (verdict.Same items) completions for_it shown verdict_written one_of
        (one_is_some completions listed, all_derived (needs_of q (verdict.Same items)) are)
        (listed, of_claims q budget (verdict.Same items) for_it within are)
        (λ count counts enough. refl) tt
    report_of q budget (verdict.Answers tuples) completions for_it within shown verdict_written one_of are listed =
        report_with q budget (verdict.Answers tuples) completions for_it shown verdict_written one_of
        (answers_supported q listed.1 tuples completions listed.2 listed.0
        (all_derived (needs_of q (verdict.Answers tuples)) are) listed.3)
        (listed.0, listed.4, of_claims q budget (verdict.Answers tuples) for_it within are) (λ count counts enough. refl) tt
    report_of q budget verdict.Inconsistent completions for_it within shown verdict_written one_of are listed = absurd listed
    report_of q budget verdict.Consistent completions for_it within shown verdict_written one_of are listed = absurd listed
    report_of q budget (verdict.NotCertain p) completions for_it within shown verdict_written one_of are listed = absurd listed
    report_of q budget (verdict.NotSame rel attr ent) completions for_it within shown verdict_written one_of are
        listed = absurd listed
    report_of q budget (verdict.Undecided counted) completions for_it within shown verdict_written one_of are
        listed = absurd listed

-- the log of a search with few steps, of which these are the units of goals
pub record HasUnits (seen : Search) (log : Log) (goals : List Goal) (steps : List ℕ) : Type 0 where
  pub search_is : IsSearch seen
  pub log_is : log ≡ seen.log
  pub few : HasFewSteps seen.log
  pub on : All (IsGoalOn seen.spec seen.wanted) goals
  pub proved : AreProved seen goals steps

pub can_trim_units : ClaimLaws → (seen : Search) (log : Log) (goals : List Goal) (steps : List ℕ)
    → HasUnits seen log goals steps → AreInPlace log steps
can_trim_units laws seen log goals steps has =
    subst (λ (l : Log). AreInPlace l steps) (sym has.log_is) (in_place laws seen has.search_is has.few goals steps
    has.on has.proved)

pub claims_reported : ClaimLaws → (seen : Search) (log : Log) (goals : List Goal) (steps : List ℕ)
    → HasUnits seen log goals steps → (trimmed : Trimmed)
    → IsTrimmed log steps trimmed → (v : Verdict) (completions : List Rankings) → All (IsConsistent seen.spec)
    completions → length completions ≤ 4294967294
    → IsWritableVerdict seen.spec.relations v → (q : Question) (budget : ℕ) → IsSearchFor q seen
    → counted_steps seen.log.steps ≤ budget → IsOneOf seen.spec q v
    → AreClaims seen.spec seen.posed goals (needs_of q v) → IsListedFor seen.spec q v completions
    → IsReported seen.spec q budget (record { verdict = v; completions = completions; log = trimmed.log })
claims_reported laws seen log goals steps has trimmed t v completions consistent few verdict_written q budget for_it within
    one_of are listed =
    report_of laws seen has.search_is has.few goals steps has.on has.proved trimmed
    (subst (λ (l : Log). IsTrimmed l steps trimmed) has.log_is t) q budget v
    completions for_it within (shown_each laws.completions seen.spec completions has.search_is.within consistent few)
    verdict_written one_of are listed

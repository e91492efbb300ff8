-- Of the log of a search, and of what it is trimmed to, those steps alone are not counted that may be so, and no hint is idle.
use Rattle.std.proofs.Common.{◌≡◌, ◌∙◌, ◌<◌, inl, inr, ℕ, Bool, true, false, List, [], ◌∷◌, All, Contains, Some, length, map, take, slice_get, refl, sym, ap, subst, arith}
use Rattle.std.proofs.lemmas.List.{length-map}
use Rattle.std.proofs.lemmas.Option.{get_or_from_slice_get}
use Rattle.currency_base.specs.Literals.{var_of, is_negative}
use Rattle.currency_base.specs.declared.ids.AttrId.{AttrId}
use Rattle.currency_base.specs.declared.ids.RelId.{RelId}
use Rattle.currency_base.specs.declared.ids.RowId.{RowId}
use Rattle.currency_base.specs.declared.lit.Lit.{Lit}
use Rattle.spec_model.specs.Spec.{Spec}
use Rattle.value_names.specs.Names.{name_of}
use Rattle.lean_hints.specs.Lean.{AreLean, EachAdds}
use Rattle.refutation_log.specs.Follows.{clause_at, clauses_at}
use Rattle.refutation_log.specs.Steps.{clauses_of}
use Rattle.refutation_log.specs.declared.log.Log.{Log}
use Rattle.refutation_log.specs.declared.statement.Statement.{Statement}
use Rattle.refutation_log.specs.declared.step.Step.{Step}
use Rattle.refutation_log.specs.declared.step.Step.TheVariants.{Axiom, OnDemand, Learn}
use Rattle.log_axioms.specs.Posed.{Posed}
use Rattle.log_trim.specs.Trimmed.{IsTrimmed, hints_of, lits_at, rank, renumbered_lit, renumbered_statement, renumbered_step}
use Rattle.log_trim.specs.declared.trimming.Trimmed.{Trimmed}
use Rattle.log_trim.proofs.NewPlaces.{changed_from, rank_lt, statements_keep}
use Rattle.log_trim.proofs.RenumberedLits.{AreKeptLits}
use Rattle.log_trim.proofs.StillFollows.{clauses_keep, kept_lits}
use Rattle.order_literals.specs.Said.{Said, Says, before, last, said_by, top, turned}
use Rattle.order_literals.specs.declared.wanted.Wanted.{Wanted}
use Rattle.order_literals.proofs.Items.{IsIn, from_map, in_left}
use Rattle.order_literals.proofs.Sayings.{literal_sign, literal_var, tells, told_from}
use Rattle.search_logs.specs.Free.{IsFreeClause, SaysCurrent, SaysLastOrAfter}
use Rattle.search_logs.specs.Laws.{SearchLogsAreRight, TrimmedAreRight}
use Rattle.search_logs.specs.Right.{AreStepsRight, IsMatchLabel}
use Rattle.search_logs.specs.SearchLogs.{IsSearchLog, IsSearchStep, variables}
use Rattle.search_logs.proofs.OnceLists.{all_in}
use Rattle.search_logs.proofs.Renumbered.{adds_stay, early_clause, front_of, mapped_clauses, rows_stay}
use Rattle.search_logs.proofs.Searched.{earlier_count, hints_below}
use Rattle.search_logs.proofs.Trimmed.{hint_kept, new_hints_once}

-- ---- one step

-- a step is right, over these statements and after these clauses
abbrev IsStepRight : Spec → List Statement → List (List Lit) → Step → Type 0
IsStepRight s statements earlier (Axiom l lits) = Unit {0}
IsStepRight s statements earlier (OnDemand l lits) = IsMatchLabel l
IsStepRight s statements earlier (Learn lits hints counted) =
    (counted ≡ false → IsFreeClause s statements lits) × AreLean earlier lits hints

steps_right : (s : Spec) (log : Log)
    → ((place : ℕ) (step : Step) → slice_get log.steps place ≡ Some step
    → IsStepRight s log.statements (clauses_of (take place log.steps)) step)
    → AreStepsRight s log
steps_right s log each = record {
  demanded = λ place l lits at. each place (OnDemand l lits) at;
  free = λ place lits hints at. (each place (Learn lits hints false) at).0 refl;
  lean = λ place lits hints counted at. (each place (Learn lits hints counted) at).1;
}

searched_right : (s : Spec) (posed : Posed) (statements : List Statement) (earlier : List (List Lit)) (step : Step)
    → IsSearchStep s posed statements earlier step → IsStepRight s statements earlier step
searched_right s posed statements earlier (Axiom l lits) is = tt
searched_right s posed statements earlier (OnDemand l lits) is = subst IsMatchLabel (sym is.is_match) tt
searched_right s posed statements earlier (Learn lits hints counted) is = (is.free, is.lean)

each_right : (s : Spec) (posed : Posed) (wanted : Wanted) (log : Log) → IsSearchLog s posed wanted log → (place : ℕ) (step : Step)
    → slice_get log.steps place ≡ Some step → IsStepRight s log.statements (clauses_of (take place log.steps)) step
each_right s posed wanted log is place step at =
    let earlier = clauses_of (take place log.steps) in
    subst (λ (statements : List Statement). IsStepRight s statements earlier step) (sym is.statements)
    (searched_right s posed (variables s wanted) earlier step (is.steps place step at))

pub search_logs_right : SearchLogsAreRight
search_logs_right s posed wanted log is = steps_right s log (each_right s posed wanted log is)

-- ---- what a log is trimmed to

module _ (log : Log) (goals : List ℕ) (trimmed : Trimmed) (t : IsTrimmed log goals trimmed) where
  -- a literal whose variable is kept, and whose statement names no answer, says the same when it is renumbered
  told_stays : (lit : Lit) (said : Said) → t.statement_kept (var_of lit) ≡ true
      → renumbered_statement t.answer_kept said.statement ≡ said.statement → said_by log.statements lit ≡ Some said
      → said_by trimmed.log.statements (renumbered_lit t.statement_kept lit) ≡ Some said
  told_stays lit said kept same told =
      let var = rank t.statement_kept (var_of lit) in
      let was = tells log.statements lit said told in
      told_from trimmed.log.statements (renumbered_lit t.statement_kept lit) said (record {
        at = ap (slice_get trimmed.log.statements) (literal_var var (is_negative lit))
            ∙ statements_keep log goals trimmed t (var_of lit) said.statement ((t.kept_statements (var_of lit)).0 kept) was.at
            ∙ ap Some same;
        sign = literal_sign var (is_negative lit) ∙ was.sign;
      })

  says_stays : (lit : Lit) (said : Said) → t.statement_kept (var_of lit) ≡ true
      → renumbered_statement t.answer_kept said.statement ≡ said.statement
      → renumbered_statement t.answer_kept (turned said).statement ≡ (turned said).statement
      → Says log.statements lit said → Says trimmed.log.statements (renumbered_lit t.statement_kept lit) said
  says_stays lit said kept same turned_same (inl told) = inl (told_stays lit said kept same told)
  says_stays lit said kept same turned_same (inr told) = inr (told_stays lit (turned said) kept turned_same told)

  module _ (s : Spec) (lits : List Lit) (kept : AreKeptLits t.statement_kept lits) where
    last_or_after : (rel : RelId) (attr : AttrId) (own row : RowId) (lit : Lit) → Contains lits lit
        → SaysLastOrAfter log.statements rel attr own row lit
        → SaysLastOrAfter trimmed.log.statements rel attr own row (renumbered_lit t.statement_kept lit)
    last_or_after rel attr own row lit is_in (inl says) =
        inl (says_stays lit (top rel attr row) (kept lit is_in) refl refl says)
    last_or_after rel attr own row lit is_in (inr says) =
        inr (says_stays lit (before rel attr own row) (kept lit is_in) refl refl says)

    free_stays : IsFreeClause s log.statements lits
        → IsFreeClause s trimmed.log.statements (map (renumbered_lit t.statement_kept) lits)
    free_stays (inl few) = let many = length-map lits (renumbered_lit t.statement_kept) in inl (omega (arith, few, many))
    free_stays (inr (inl is)) = inr (inl (record {
      rel = is.rel;
      attr = is.attr;
      relation = is.relation;
      is_relation = is.is_relation;
      ent = is.ent;
      own = is.own;
      own_of = is.own_of;
      told = rows_stay is.relation is.ent (SaysLastOrAfter log.statements is.rel is.attr is.own)
          (SaysLastOrAfter trimmed.log.statements is.rel is.attr is.own) (renumbered_lit t.statement_kept) lits
          (λ row lit is_in says. last_or_after is.rel is.attr is.own row lit is_in says) is.told;
    }))
    free_stays (inr (inr is)) = inr (inr (record {
      rel = is.rel;
      attr = is.attr;
      relation = is.relation;
      is_relation = is.is_relation;
      ent = is.ent;
      told = rows_stay is.relation is.ent (SaysCurrent log.statements is.rel is.attr is.relation)
          (SaysCurrent trimmed.log.statements is.rel is.attr is.relation) (renumbered_lit t.statement_kept) lits
          (λ row lit is_in says.
          says_stays lit (last is.rel is.attr (name_of is.relation.rows is.attr.0 row)) (kept lit is_in) refl refl says) is.told;
    }))

  -- the clause of a kept step before a kept one stands, renumbered, at its new place
  clause_stays : (place hint : ℕ) → hint < place → hint < length log.steps → t.step_kept hint ≡ true
      → clause_at (clauses_of (take (rank t.step_kept place) trimmed.log.steps)) (rank t.step_kept hint)
      ≡ map (renumbered_lit t.statement_kept) (clause_at (clauses_of (take place log.steps)) hint)
  clause_stays place hint below within kept =
      early_clause trimmed.log.steps (rank t.step_kept place) (rank t.step_kept hint)
      (rank_lt t.step_kept hint place kept below)
      ∙ get_or_from_slice_get (clauses_of trimmed.log.steps) (rank t.step_kept hint)
      (map (renumbered_lit t.statement_kept) (lits_at log.steps hint)) []
      (clauses_keep log goals trimmed t hint ((t.kept_steps hint).0 kept) within)
      ∙ ap (map (renumbered_lit t.statement_kept)) (sym (early_clause log.steps place hint below))

  -- the clause of a kept step has literals of variables that are kept
  clause_kept : (place hint : ℕ) → hint < place → hint < length log.steps → t.step_kept hint ≡ true
      → AreKeptLits t.statement_kept (clause_at (clauses_of (take place log.steps)) hint)
  clause_kept place hint below within kept lit is_in =
      (t.kept_statements (var_of lit)).1 (record {
        place = hint;
        reached = (t.kept_steps hint).0 kept;
        lit = lit;
        is_in = subst (λ (lits : List Lit). Contains lits lit) (early_clause log.steps place hint below) is_in;
        is_var = refl;
      })

  module _ (place : ℕ) (lits : List Lit) (hints : List ℕ) (counted : Bool)
      (at : slice_get log.steps place ≡ Some (Learn lits hints counted)) (kept : t.step_kept place ≡ true)
      (earlier : All (λ hint. hint < place) hints) (within : place < length log.steps) where
    front_adds : (front : List ℕ) → ((hint : ℕ) → IsIn front hint → IsIn hints hint)
        → EachAdds lits (clauses_at (clauses_of (take place log.steps)) front)
        → EachAdds (map (renumbered_lit t.statement_kept) lits)
        (clauses_at (clauses_of (take (rank t.step_kept place) trimmed.log.steps)) (map (rank t.step_kept) front))
    front_adds front among adds =
        let old = clauses_of (take place log.steps) in
        let new = clauses_of (take (rank t.step_kept place) trimmed.log.steps) in
        let below : (hint : ℕ) → IsIn front hint → hint < place =
        λ hint is_in. all_in (λ h. h < place) hints hint earlier (among hint is_in) in
        let hint_stays : (hint : ℕ) → IsIn front hint → t.step_kept hint ≡ true =
        λ hint is_in. hint_kept log goals trimmed t place (Learn lits hints counted) at kept hint (among hint is_in) in
        let inside : (hint : ℕ) → IsIn front hint → hint < length log.steps =
        λ hint is_in. let low = below hint is_in in omega (arith, low, within) in
        let same = mapped_clauses old new (rank t.step_kept) (renumbered_lit t.statement_kept) front
        (λ hint is_in. clause_stays place hint (below hint is_in) (inside hint is_in) (hint_stays hint is_in)) in
        subst (λ (clauses : List (List Lit)). EachAdds (map (renumbered_lit t.statement_kept) lits) clauses) (sym same)
        (adds_stay t.statement_kept lits (clauses_at old front)
        (kept_lits log goals trimmed t place (Learn lits hints counted) ((t.kept_steps place).0 kept) at)
        (λ c is_in.
        let one = from_map (clause_at old) front c is_in in
        subst (AreKeptLits t.statement_kept) one.2
        (clause_kept place one.0 (below one.0 one.1) (inside one.0 one.1) (hint_stays one.0 one.1))) adds)

    lean_stays : AreLean (clauses_of (take place log.steps)) lits hints
        → AreLean (clauses_of (take (rank t.step_kept place) trimmed.log.steps)) (map (renumbered_lit t.statement_kept) lits)
        (map (rank t.step_kept) hints)
    lean_stays lean = record {
      once = new_hints_once log goals trimmed t place (Learn lits hints counted) at kept lean.once;
      adds = λ front last are.
          let was = front_of (rank t.step_kept) hints front last are in
          let among : (hint : ℕ) → IsIn was.old hint → IsIn hints hint =
          λ hint is_in. subst (λ (hs : List ℕ). IsIn hs hint) (sym was.are) (in_left was.old (was.last ∷ []) hint is_in) in
          subst (λ (hs : List ℕ). EachAdds (map (renumbered_lit t.statement_kept) lits)
          (clauses_at (clauses_of (take (rank t.step_kept place) trimmed.log.steps)) hs)) was.front_is
          (front_adds was.old among (lean.adds was.old was.last was.are));
    }

  -- a step that is right stays so at its new place
  step_stays : (s : Spec) (place : ℕ) (step : Step) → slice_get log.steps place ≡ Some step → t.step_kept place ≡ true
      → All (λ hint. hint < length (clauses_of (take place log.steps))) (hints_of step)
      → IsStepRight s log.statements (clauses_of (take place log.steps)) step
      → IsStepRight s trimmed.log.statements (clauses_of (take (rank t.step_kept place) trimmed.log.steps))
      (renumbered_step t.step_kept t.statement_kept step)
  step_stays s place (Axiom l lits) at kept earlier right = tt
  step_stays s place (OnDemand l lits) at kept earlier right = right
  step_stays s place (Learn lits hints counted) at kept earlier right =
      let reached = (t.kept_steps place).0 kept in
      let count = earlier_count log.steps place (Learn lits hints counted) at in (
        λ free. free_stays s lits (kept_lits log goals trimmed t place (Learn lits hints counted) reached at) (right.0 free),
        lean_stays place lits hints counted at kept (subst (λ (n : ℕ). All (λ hint. hint < n) hints) count.0 earlier) count.1
            right.1,
      )

pub trimmed_right : TrimmedAreRight
trimmed_right s posed wanted log goals trimmed is t =
    steps_right s trimmed.log (λ place step at.
    let was = changed_from (renumbered_step t.step_kept t.statement_kept) t.step_kept log.steps
    trimmed.log.steps place step t.steps at in
    let from = was.1 in
    let old = was.0 in
    let earlier = hints_below s posed (variables s wanted) (clauses_of (take from.place log.steps)) old
    (is.steps from.place old from.there) in
    let stays = step_stays log goals trimmed t s from.place old from.there from.kept earlier
    (each_right s posed wanted log is from.place old from.there) in
    subst (IsStepRight s trimmed.log.statements (clauses_of (take place trimmed.log.steps))) was.2
    (subst (λ (n : ℕ). IsStepRight s trimmed.log.statements (clauses_of (take n trimmed.log.steps))
    (renumbered_step t.step_kept t.statement_kept old)) from.is_new stays))

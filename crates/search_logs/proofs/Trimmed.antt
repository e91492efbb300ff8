-- What a plain log is trimmed to is plain, and each of its steps is reached from its goals.
use Rattle.std.proofs.Common.{◌≡◌, ◌⊎◌, inl, inr, ⊎_elim, ◌∙◌, ◌<◌, ◌≤◌, ℕ, Bool, true, false, List, [], ◌∷◌, All, Contains, Some, length, map, slice_get, slice_index_or, eq-or-lt_of_le, refl, sym, ap, subst, arith}
use Rattle.std.proofs.lemmas.Bool.{cases_Bool, cases_lt}
use Rattle.std.proofs.lemmas.List.{length-map, get_or_past}
use Rattle.std.proofs.lemmas.Option.{slice_get_cases, slice_get-get_or, slice_get_within}
use Rattle.currency_base.specs.Lists.{OnlyOnce}
use Rattle.currency_base.specs.Literals.{var_of}
use Rattle.currency_base.specs.declared.lit.Lit.{Lit}
use Rattle.currency_base.specs.declared.value.Value.{Value}
use Rattle.query_model.specs.Answers.{AreAscending}
use Rattle.spec_model.specs.declared.relation.Relation.{Relation}
use Rattle.refutation_log.specs.Steps.{clause_of}
use Rattle.refutation_log.specs.declared.log.Log.{Log}
use Rattle.refutation_log.specs.declared.statement.Statement.{Statement}
use Rattle.refutation_log.specs.declared.statement.Statement.TheVariants.{Before, Top, Last, Answer}
use Rattle.refutation_log.specs.declared.step.Step.{Step}
use Rattle.refutation_log.specs.declared.step.Step.TheVariants.{Axiom, OnDemand, Learn}
use Rattle.log_trim.specs.Trimmed.{Reaches, is_goal, is_hint, IsTrimmed, kept_of, lits_at, hints_at, hints_of, rank, renumbered_lit, renumbered_step, renumbered_statement}
use Rattle.log_trim.specs.declared.trimming.Trimmed.{Trimmed}
use Rattle.log_trim.proofs.NewPlaces.{changed_from, kept_at, kept_from, rank_lt, rank_same, steps_keep}
use Rattle.log_trim.proofs.Ranks.{behind, rank_le}
use Rattle.log_trim.proofs.RenumberedLits.{renumbered_same}
use Rattle.refutation_log.specs.Writable.{AreFew}
use Rattle.currency_base.specs.Values.{IsValue}
use Rattle.order_literals.proofs.Ascents.{Ascends, Precedes}
use Rattle.order_literals.proofs.Items.{IsIn, contained, from_map, in_at, in_contained, in_map, place_of}
use Rattle.order_literals.proofs.Order.{IsBelow}
use Rattle.order_clauses.proofs.Reading.{all_at}
use Rattle.search_logs.proofs.Answered.{answer_less, answered}
use Rattle.search_logs.proofs.Numbered.{IsOnRows}
use Rattle.search_logs.proofs.OnceLists.{all_placed, once_mapped, list_at}
use Rattle.search_logs.proofs.Plain.{IsPlainStep, IsPlain}

-- ---- lists of which some items are kept

kept_in : {X : Type 0} (keep : ℕ → Bool) (xs : List X) (x : X) → IsIn (kept_of keep xs) x → IsIn xs x
kept_in keep [] x at = absurd at
kept_in {X} keep (y ∷ ys) x at = go (cases_Bool (keep 0)) (kept_in (behind keep) ys x)
  where
    go : (keep 0 ≡ true) ⊎ (keep 0 ≡ false) → (IsIn (kept_of (behind keep) ys) x → IsIn ys x) → IsIn (y ∷ ys) x
    go (inl e) later =
        let here : IsIn (y ∷ kept_of (behind keep) ys) x = rw e at at in
        first here later
      where
        first : IsIn (y ∷ kept_of (behind keep) ys) x → (IsIn (kept_of (behind keep) ys) x → IsIn ys x) → IsIn (y ∷ ys) x
        first (inl same) later = inl same
        first (inr there) later = inr (later there)
    go (inr e) later = let here : IsIn (kept_of (behind keep) ys) x = rw e at at in inr (later here)

kept_ascends : {X : Type 0} (R : X → X → Type 0) (keep : ℕ → Bool) (xs : List X) → Ascends R xs → Ascends R (kept_of keep xs)
kept_ascends R keep [] up = tt
kept_ascends {X} R keep (y ∷ ys) up =
    let later : Ascends R (kept_of (behind keep) ys) = kept_ascends R (behind keep) ys up.1 in
    elim (cases_Bool (keep 0)) [
      | inl e ↦ rw e (λ x at. up.0 x (kept_in (behind keep) ys x at), later)
      | inr e ↦ rw e later
    ]

kept_count : {X : Type 0} (keep : ℕ → Bool) (xs : List X) → length (kept_of keep xs) ≤ length xs
kept_count keep [] = omega arith
kept_count keep (x ∷ xs) =
    let rest : length (kept_of (behind keep) xs) ≤ length xs = kept_count (behind keep) xs in
    elim (cases_Bool (keep 0)) [ inl e ↦ rw e (omega arith) | inr e ↦ rw e (omega arith) ]

-- what a function makes of an ascending list ascends, where it keeps what is below of its items
ascends_made : {X Y : Type 0} (R : X → X → Type 0) (S : Y → Y → Type 0) (f : X → Y) (xs : List X)
    → ((x y : X) → IsIn xs x → IsIn xs y → R x y → S (f x) (f y)) → Ascends R xs → Ascends S (map f xs)
ascends_made R S f [] keeps up = tt
ascends_made {X} {Y} R S f (x ∷ xs) keeps up = (
  λ y at. (let from = from_map f xs y at in subst (S (f x)) from.2 (keeps x from.0 (inl refl) (inr from.1) (up.0 from.0 from.1))),
  ascends_made R S f xs (λ z y in_z in_y below. keeps z y (inr in_z) (inr in_y) below) up.1,
)

-- ---- statements

-- where an answer that a statement names is kept
abbrev IsKeptIn : (ℕ → Bool) → Statement → Type 0
IsKeptIn keep (Answer tuple) = keep tuple ≡ true
IsKeptIn keep other = Unit {0}

-- of two statements on answers, the order is that of their numbers
answers_below : (keep : ℕ → Bool) (a b : ℕ) → keep a ≡ true → a < b → IsBelow (Answer (rank keep a)) (Answer (rank keep b))
answers_below keep a b kept below = inr (refl, inl (rank_lt keep a b kept below))

-- a statement on rows stays below one on an answer, whatever its number
below_answer : (x : ℕ) (xs : List ℕ) (a b : ℕ) → x < 3 → Precedes (x ∷ xs) (3 ∷ a ∷ []) → Precedes (x ∷ xs) (3 ∷ b ∷ [])
below_answer x xs a b low p = inl low

-- no statement on an answer is below one on rows
not_below : (a y : ℕ) (ys : List ℕ) → y < 3 → Precedes (3 ∷ a ∷ []) (y ∷ ys) → ⊥
not_below a y ys low (inl below) = absurd (omega (arith, low, below))
not_below a y ys low (inr more) = let e = more.0 in absurd (omega (arith, low, e))

stays_below : (keep : ℕ → Bool) (s t : Statement) → IsKeptIn keep s → IsBelow s t
    → IsBelow (renumbered_statement keep s) (renumbered_statement keep t)
stays_below keep (Before rel attr a b) (Before rel' attr' a' b') kept below = below
stays_below keep (Before rel attr a b) (Top rel' attr' row') kept below = below
stays_below keep (Before rel attr a b) (Last rel' attr' row') kept below = below
stays_below keep (Before rel attr a b) (Answer tuple') kept below =
    below_answer 0 (rel.0 ∷ attr.0 ∷ a.0 ∷ b.0 ∷ []) tuple' (rank keep tuple') (omega arith) below
stays_below keep (Top rel attr row) (Before rel' attr' a' b') kept below = below
stays_below keep (Top rel attr row) (Top rel' attr' row') kept below = below
stays_below keep (Top rel attr row) (Last rel' attr' row') kept below = below
stays_below keep (Top rel attr row) (Answer tuple') kept below =
    below_answer 1 (rel.0 ∷ attr.0 ∷ row.0 ∷ []) tuple' (rank keep tuple') (omega arith) below
stays_below keep (Last rel attr row) (Before rel' attr' a' b') kept below = below
stays_below keep (Last rel attr row) (Top rel' attr' row') kept below = below
stays_below keep (Last rel attr row) (Last rel' attr' row') kept below = below
stays_below keep (Last rel attr row) (Answer tuple') kept below =
    below_answer 2 (rel.0 ∷ attr.0 ∷ row.0 ∷ []) tuple' (rank keep tuple') (omega arith) below
stays_below keep (Answer tuple) (Before rel' attr' a' b') kept below =
    absurd (not_below tuple 0 (rel'.0 ∷ attr'.0 ∷ a'.0 ∷ b'.0 ∷ []) (omega arith) below)
stays_below keep (Answer tuple) (Top rel' attr' row') kept below =
    absurd (not_below tuple 1 (rel'.0 ∷ attr'.0 ∷ row'.0 ∷ []) (omega arith) below)
stays_below keep (Answer tuple) (Last rel' attr' row') kept below =
    absurd (not_below tuple 2 (rel'.0 ∷ attr'.0 ∷ row'.0 ∷ []) (omega arith) below)
stays_below keep (Answer tuple) (Answer tuple') kept below = answers_below keep tuple tuple' kept (answer_less tuple tuple' below)

-- a statement on what is there stays one, where the answer that it names is kept
stays_on : (relations : List Relation) (keep : ℕ → Bool) (answers : List (List Value)) (st : Statement) → IsKeptIn keep st
    → IsOnRows relations (length answers) st → IsOnRows relations (length (kept_of keep answers)) (renumbered_statement keep st)
stays_on relations keep answers (Before rel attr a b) kept on = on
stays_on relations keep answers (Top rel attr row) kept on = on
stays_on relations keep answers (Last rel attr row) kept on = on
stays_on relations keep answers (Answer tuple) kept on =
    let there = slice_get-get_or answers tuple [] on in
    slice_get_within (kept_of keep answers) (rank keep tuple) (slice_index_or answers tuple [])
    (kept_at keep answers tuple (slice_index_or answers tuple []) there kept)

-- ---- answers

-- places whose new places ascend ascend
rank_below : (keep : ℕ → Bool) (a b : ℕ) → keep b ≡ true → rank keep a < rank keep b → a < b
rank_below keep a b kept below = ⊎_elim
    (λ (less : a < b). less)
    (λ (more : b ≤ a). ⊎_elim
    (λ (same : b ≡ a). let e = ap (rank keep) same in absurd (omega (arith, below, e)))
    (λ (apart : b < a). let high = rank_lt keep b a kept apart in absurd (omega (arith, below, high)))
    (eq-or-lt_of_le more))
    (cases_lt a b)

kept_ascending : (keep : ℕ → Bool) (answers : List (List Value)) → AreAscending answers → AreAscending (kept_of keep answers)
kept_ascending keep answers up i j a b below at_i at_j =
    let from_i = kept_from keep answers i a at_i in
    let from_j = kept_from keep answers j b at_j in
    let new_i = from_i.is_new in
    let new_j = from_j.is_new in
    up from_i.place from_j.place a b (rank_below keep from_i.place from_j.place from_j.kept
    (omega (arith, below, new_i, new_j))) from_i.there from_j.there

-- a statement on an answer that is there
abbrev pub IsLessAnswer : List (List Value) → Statement → Type 0
IsLessAnswer answers (Answer tuple) = tuple < length answers
IsLessAnswer answers other = ⊥

-- ---- the log

module _ (log : Log) (goals : List ℕ) (trimmed : Trimmed) (t : IsTrimmed log goals trimmed) where
  -- the variable of a literal of a kept step is kept
  pub lit_kept : (place : ℕ) (step : Step) → slice_get log.steps place ≡ Some step → t.step_kept place ≡ true → (lit : Lit)
      → IsIn (clause_of step) lit → t.statement_kept (var_of lit) ≡ true
  lit_kept place step at kept lit is_in =
      let there : Contains (lits_at log.steps place) lit =
      subst (λ (lits : List Lit). Contains lits lit) (sym (list_at clause_of log.steps place step at))
      (contained (clause_of step) lit is_in) in
      (t.kept_statements (var_of lit)).1
      (record { place = place; reached = (t.kept_steps place).0 kept; lit = lit; is_in = there; is_var = refl })

  -- a hint of a kept step is kept
  pub hint_kept : (place : ℕ) (step : Step) → slice_get log.steps place ≡ Some step → t.step_kept place ≡ true → (hint : ℕ)
      → IsIn (hints_of step) hint → t.step_kept hint ≡ true
  hint_kept place step at kept hint is_in =
      let there : Contains (hints_at log.steps place) hint =
      subst (λ (hints : List ℕ). Contains hints hint) (sym (list_at hints_of log.steps place step at))
      (contained (hints_of step) hint is_in) in
      (t.kept_steps hint).1 (is_hint place hint ((t.kept_steps place).0 kept) there)

  new_lits_once : (place : ℕ) (step : Step) → slice_get log.steps place ≡ Some step → t.step_kept place ≡ true
      → OnlyOnce (clause_of step)
      → OnlyOnce (map (renumbered_lit t.statement_kept) (clause_of step))
  new_lits_once place step at kept once =
      once_mapped (renumbered_lit t.statement_kept) (clause_of step) once
      (λ a b in_a in_b same. renumbered_same t.statement_kept a b (lit_kept place step at kept a in_a)
      (lit_kept place step at kept b in_b) same)

  pub new_hints_once : (place : ℕ) (step : Step) → slice_get log.steps place ≡ Some step → t.step_kept place ≡ true
      → OnlyOnce (hints_of step)
      → OnlyOnce (map (rank t.step_kept) (hints_of step))
  new_hints_once place step at kept once =
      once_mapped (rank t.step_kept) (hints_of step) once
      (λ a b in_a in_b same. rank_same t.step_kept a b (hint_kept place step at kept a in_a)
      (hint_kept place step at kept b in_b) same)

  new_step_plain : (place : ℕ) (step : Step) → slice_get log.steps place ≡ Some step → t.step_kept place ≡ true → IsPlainStep step
      → IsPlainStep (renumbered_step t.step_kept t.statement_kept step)
  new_step_plain place (Axiom l lits) at kept plain = (plain.0, new_lits_once place (Axiom l lits) at kept plain.1)
  new_step_plain place (OnDemand l lits) at kept plain = (plain.0, new_lits_once place (OnDemand l lits) at kept plain.1)
  new_step_plain place (Learn lits hints counted) at kept plain = (
    new_lits_once place (Learn lits hints counted) at kept plain.0,
    new_hints_once place
        (Learn lits hints counted) at kept plain.1,
  )

  -- the answer that a kept statement names is kept
  answer_stays : (st : Statement) → IsIn (kept_of t.statement_kept log.statements) st → IsKeptIn t.answer_kept st
  answer_stays (Before rel attr a b) at = tt
  answer_stays (Top rel attr row) at = tt
  answer_stays (Last rel attr row) at = tt
  answer_stays (Answer tuple) at =
      let place = place_of (kept_of t.statement_kept log.statements) (Answer tuple) at in
      let from = kept_from t.statement_kept log.statements place.0 (Answer tuple) place.1 in
      (t.kept_answers tuple).1 (record {
        var = from.place;
        used = (t.kept_statements from.place).0 from.kept;
        names =
            from.there;
      })

  module _ (relations : List Relation) (plain : IsPlain relations log) where
    count_answers : length trimmed.log.answers ≡ length (kept_of t.answer_kept log.answers)
    count_answers = ap (λ (answers : List (List Value)). length answers) t.answers

    -- its statements are on what is there
    on_kept : (st : Statement) → IsIn trimmed.log.statements st → IsOnRows relations (length trimmed.log.answers) st
    on_kept st at =
        let kept = kept_of t.statement_kept log.statements in
        let made : IsIn (map (renumbered_statement t.answer_kept) kept) st =
        subst (λ (statements : List Statement). IsIn statements st) t.statements at in
        let from = from_map (renumbered_statement t.answer_kept) kept st made in
        let on = stays_on relations t.answer_kept log.answers from.0 (answer_stays from.0 from.1)
        (plain.statements from.0 (kept_in t.statement_kept log.statements from.0 from.1)) in
        subst (λ (x : Statement). IsOnRows relations (length trimmed.log.answers) x) from.2
        (subst (λ (n : ℕ). IsOnRows relations n (renumbered_statement t.answer_kept from.0)) (sym count_answers) on)

    still_ascends : Ascends IsBelow trimmed.log.statements
    still_ascends =
        let kept = kept_of t.statement_kept log.statements in
        subst (λ (statements : List Statement). Ascends IsBelow statements) (sym t.statements)
        (ascends_made IsBelow IsBelow (renumbered_statement t.answer_kept) kept
        (λ x y in_x in_y below. stays_below t.answer_kept x y (answer_stays x in_x) below)
        (kept_ascends IsBelow t.statement_kept log.statements plain.ascend))

    -- each of its answers is named by a statement
    still_named : (tuple : ℕ) → tuple < length trimmed.log.answers → IsIn trimmed.log.statements (Answer tuple)
    still_named tuple below =
        let many = count_answers in
        let within : tuple < length (kept_of t.answer_kept log.answers) = omega (arith, below, many) in
        let at = slice_get-get_or (kept_of t.answer_kept log.answers) tuple [] within in
        let from = kept_from t.answer_kept log.answers tuple (slice_index_or (kept_of t.answer_kept log.answers) tuple []) at in
        let used = (t.kept_answers from.place).0 from.kept in
        let stands = kept_at t.statement_kept log.statements used.var (Answer from.place) used.names
        ((t.kept_statements used.var).1 used.used) in
        let there = in_at (kept_of t.statement_kept log.statements) (rank t.statement_kept used.var) (Answer from.place) stands in
        let made = in_map (renumbered_statement t.answer_kept) (kept_of t.statement_kept log.statements)
        (Answer from.place) there in
        let same : Answer (rank t.answer_kept from.place) ≡ Answer tuple = ap Answer from.is_new in
        subst (λ (statements : List Statement). IsIn statements (Answer tuple)) (sym t.statements)
        (subst (IsIn (map (renumbered_statement t.answer_kept) (kept_of t.statement_kept log.statements))) same made)

    -- the trimmed log is plain
    pub still_plain : IsPlain relations trimmed.log
    still_plain =
        let count : length trimmed.log.steps ≡ length (kept_of t.step_kept log.steps) =
        ap (λ (steps : List Step). length steps) t.steps ∙ length-map (kept_of t.step_kept log.steps)
        (renumbered_step t.step_kept t.statement_kept) in
        let few = plain.few_steps in
        record {
          ascending = subst (λ (answers : List (List Value)). AreAscending answers) (sym t.answers)
              (kept_ascending t.answer_kept log.answers plain.ascending);
          values = subst (λ (answers : List (List Value)). All (AreFew IsValue) answers) (sym t.answers)
              (all_placed (AreFew IsValue) (kept_of t.answer_kept log.answers) (λ k x at.
              let from = kept_from t.answer_kept log.answers k x at in
              all_at (AreFew IsValue) log.answers from.place x plain.values from.there));
          answered = answered 0 trimmed.log.statements trimmed.log.answers still_ascends
              (λ tuple at. let below = on_kept (Answer tuple) at in (omega arith, omega (arith, below)))
              (λ tuple low high. still_named tuple (omega (arith, high)));
          few_steps = omega (arith, count, kept_count t.step_kept log.steps, few);
          ascend = still_ascends;
          statements = on_kept;
          steps = λ place step at.
              let was = changed_from (renumbered_step t.step_kept t.statement_kept) t.step_kept log.steps
              trimmed.log.steps place step t.steps at in
              let from = was.1 in
              subst IsPlainStep was.2 (new_step_plain from.place was.0 from.there from.kept
              (plain.steps from.place was.0 from.there));
        }

    -- its statements stood in the log, the numbers of answers aside, which are less
    pub still_among : (st : Statement) → IsIn trimmed.log.statements st → IsIn log.statements st ⊎ IsLessAnswer log.answers st
    still_among st at =
        let kept = kept_of t.statement_kept log.statements in
        let made : IsIn (map (renumbered_statement t.answer_kept) kept) st =
        subst (λ (statements : List Statement). IsIn statements st) t.statements at in
        let from = from_map (renumbered_statement t.answer_kept) kept st made in
        let stood = kept_in t.statement_kept log.statements from.0 from.1 in
        subst (λ (x : Statement). IsIn log.statements x ⊎ IsLessAnswer log.answers x) from.2
        (go from.0 stood (plain.statements from.0 stood))
      where
        go : (x : Statement) → IsIn log.statements x → IsOnRows relations (length log.answers) x
            → IsIn log.statements (renumbered_statement t.answer_kept x) ⊎ IsLessAnswer log.answers
            (renumbered_statement t.answer_kept x)
        go (Before rel attr a b) stood on = inl stood
        go (Top rel attr row) stood on = inl stood
        go (Last rel attr row) stood on = inl stood
        go (Answer tuple) stood on = let low = rank_le t.answer_kept tuple in inr (omega (arith, low, on))

  -- ---- steps that are reached

  new_hints : (step : Step) → hints_of (renumbered_step t.step_kept t.statement_kept step) ≡ map (rank t.step_kept)
      (hints_of step)
  new_hints (Axiom l lits) = refl
  new_hints (OnDemand l lits) = refl
  new_hints (Learn lits hints counted) = refl

  -- a hint of a step that is reached is, renumbered, a hint of the step at its new place
  hint_stands : (place used : ℕ) → Reaches log.steps goals place → Contains (hints_at log.steps place) used
      → Contains (hints_at trimmed.log.steps (rank t.step_kept place)) (rank t.step_kept used)
  hint_stands place used reached is_in =
      elim ((slice_get_cases log.steps place).1) [
        | inl one ↦
            let step = one.0 in
            let there : IsIn (hints_of step) used =
            in_contained (hints_of step) used (subst (λ (hints : List ℕ). Contains hints used)
            (list_at hints_of log.steps place step one.2) is_in) in
            let stands = steps_keep log goals trimmed t place step reached one.2 in
            let new : hints_at trimmed.log.steps (rank t.step_kept place) ≡ map (rank t.step_kept) (hints_of step) =
            list_at hints_of trimmed.log.steps (rank t.step_kept place)
            (renumbered_step t.step_kept t.statement_kept step) stands ∙ new_hints step in
            subst (λ (hints : List ℕ). Contains hints (rank t.step_kept used)) (sym new)
            (contained (map (rank t.step_kept) (hints_of step)) (rank t.step_kept used)
            (in_map (rank t.step_kept) (hints_of step) used there))
        | inr past ↦
            let none : hints_at log.steps place ≡ [] =
            get_or_past (map hints_of log.steps) place [] (omega (arith, past.0, length-map log.steps hints_of)) in
            absurd (in_contained [] used (subst (λ (hints : List ℕ). Contains hints used) none is_in))
      ]

  new_goal : (goal : ℕ) → Contains goals goal → Contains trimmed.goals (rank t.step_kept goal)
  new_goal goal is_in =
      subst (λ (new : List ℕ). Contains new (rank t.step_kept goal)) (sym t.new_goals)
      (contained (map (rank t.step_kept) goals) (rank t.step_kept goal)
      (in_map (rank t.step_kept) goals goal (in_contained goals goal is_in)))

  pub still_reached : (place : ℕ) → Reaches log.steps goals place → Reaches trimmed.log.steps trimmed.goals (rank t.step_kept place)
  still_reached place (is_goal _ is_in) = is_goal _ (new_goal _ is_in)
  still_reached place (is_hint before _ reached is_in) =
      is_hint (rank t.step_kept before) _ (still_reached before reached) (hint_stands before _ reached is_in)

  pub all_reached : (place : ℕ) → place < length trimmed.log.steps → Reaches trimmed.log.steps trimmed.goals place
  all_reached place within =
      elim ((slice_get_cases trimmed.log.steps place).1) [
        | inl one ↦
            let was = changed_from (renumbered_step t.step_kept t.statement_kept) t.step_kept log.steps
            trimmed.log.steps place one.0 t.steps one.2 in
            let from = was.1 in
            subst (λ (p : ℕ). Reaches trimmed.log.steps trimmed.goals p) from.is_new
            (still_reached from.place ((t.kept_steps from.place).0 from.kept))
        | inr past ↦ absurd (omega (arith, within, past.0))
      ]

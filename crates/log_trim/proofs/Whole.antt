-- What is kept is what the goals need: the steps that they reach, the variables that these use, the answers that these name.
use Rattle.std.proofs.Common.{◌≡◌, inl, inr, ◌<◌, ℕ, zero, suc, Bool, true, List, [], ◌∷◌, length, map, Some, slice_get, sym, ap, subst, arith, All, Contains}
use Rattle.std.proofs.lemmas.List.Elements.{Contains-get_or}
use Rattle.std.proofs.lemmas.Option.{slice_get_within}
use Rattle.currency_base.specs.Literals.{var_of}
use Rattle.refutation_log.specs.declared.log.Log.{Log}
use Rattle.refutation_log.specs.declared.statement.Statement.{Statement}
use Rattle.refutation_log.specs.declared.statement.Statement.TheVariants.{Before, Top, Last, Answer}
use Rattle.refutation_log.specs.declared.step.Step.{Step}
use Rattle.log_trim.specs.Trimmed.{AreInPlace, Reaches, IsUsedVar, IsUsedAnswer, IsTrimmed, lits_at, kept_of, rank, renumbered_step, renumbered_statement}
use Rattle.log_trim.specs.declared.trimming.Trimmed.{Trimmed}
use Rattle.log_trim.specs.Marked.{is_marked, vars_at, answers_of, answers_at, IsOfMarked, IsMarkedWhere, AreReached, AreUsed, AreNamed}
use Rattle.log_trim.proofs.Marking.{marked_within, contains_cases, contains_first, contains_later, contains_none}

-- ---- members of a list that is mapped

pub contains_map : {A B : Type 0} (f : A → B) (xs : List A) (x : A) → Contains xs x → Contains (map f xs) (f x)
contains_map f [] x is_in = absurd (contains_none x is_in)
contains_map {A} {B} f (y ∷ ys) x is_in =
    elim (contains_cases y ys x is_in) [
      | inl e ↦ subst (λ (z : A). Contains (map f (y ∷ ys)) (f z)) e (contains_first (f y) (map f ys))
      | inr later ↦ contains_later (f y) (map f ys) (f x) (contains_map f ys x later)
    ]

pub contains_mapped : {A B : Type 0} (f : A → B) (xs : List A) (y : B) → Contains (map f xs) y
    → (x : A) × Contains xs x × (f x ≡ y)
contains_mapped f [] y is_in = absurd (contains_none y is_in)
contains_mapped f (x ∷ xs) y is_in =
    elim (contains_cases (f x) (map f xs) y is_in) [
      | inl e ↦ (x, contains_first x xs, e)
      | inr later ↦ let one = contains_mapped f xs y later in (one.0, contains_later x xs one.0 one.1, one.2)
    ]

-- ---- the answers that a statement names

named_by_one : (s : Statement) (tuple : ℕ) → Contains (answers_of s) tuple → s ≡ Answer tuple
named_by_one (Before rel attr earlier later) tuple is_in = absurd (contains_none tuple is_in)
named_by_one (Top rel attr row) tuple is_in = absurd (contains_none tuple is_in)
named_by_one (Last rel attr row) tuple is_in = absurd (contains_none tuple is_in)
named_by_one (Answer answer) tuple is_in =
    elim (contains_cases answer [] tuple is_in) [
      | inl e ↦ ap (λ (n : ℕ). Answer n) e
      | inr later ↦ absurd (contains_none tuple later)
    ]

pub named_by : (statements : List Statement) (place tuple : ℕ) → Contains (answers_at statements place) tuple
    → slice_get statements place ≡ Some (Answer tuple)
named_by [] place tuple is_in = absurd (contains_none tuple is_in)
named_by (s ∷ statements) zero tuple is_in = ap (λ (t : Statement). Some t) (named_by_one s tuple is_in)
named_by (s ∷ statements) (suc place) tuple is_in = named_by statements place tuple is_in

names : (statements : List Statement) (place tuple : ℕ) → slice_get statements place ≡ Some (Answer tuple)
    → Contains (answers_at statements place) tuple
names [] place tuple there = absurd (cc)
names (s ∷ statements) zero tuple there =
    let same : s ≡ Answer tuple = cc in
    subst (λ (t : Statement). Contains (answers_of t) tuple) (sym same) (contains_first tuple [])
names (s ∷ statements) (suc place) tuple there = names statements place tuple there

pub answers_in : (statements : List Statement) (count : ℕ)
    → ((place tuple : ℕ) → slice_get statements place ≡ Some (Answer tuple) → tuple < count)
    → (place : ℕ) → All (λ tuple. tuple < count) (answers_at statements place)
answers_in statements count inside place k d below =
    inside place _ (named_by statements place _ (Contains-get_or (answers_at statements place) k d below))

-- ---- places in lists of marks that are as long

-- the variables of literals
pub vars_within : (log : Log) (goals : List ℕ) (marks : List Bool) → AreInPlace log goals → AreUsed log goals marks
    → (place : ℕ) → All (λ lit. var_of lit < length marks) (lits_at log.steps place)
vars_within log goals marks at used place =
    subst (λ (n : ℕ). All (λ lit. var_of lit < n) (lits_at log.steps place)) (sym used.count) (at.vars_in place)

-- the answers that statements name
pub tuples_within : (log : Log) (goals : List ℕ) (marks : List Bool) → AreInPlace log goals → AreNamed log goals marks
    → (place : ℕ) → All (λ tuple. tuple < length marks) (answers_at log.statements place)
tuples_within log goals marks at named place =
    subst (λ (n : ℕ). All (λ tuple. tuple < n) (answers_at log.statements place)) (sym named.count)
    (answers_in log.statements (length log.answers) at.tuples_in place)

-- the goals
pub goals_within : (log : Log) (goals : List ℕ) (marks : List Bool) → AreInPlace log goals → AreReached log goals marks
    → All (λ goal. goal < length marks) goals
goals_within log goals marks at reached = subst (λ (n : ℕ). All (λ goal. goal < n) goals) (sym reached.count) at.goals_in

-- ---- what is marked, in the words of the definition

pub used_vars : (steps : List Step) (goals : List ℕ) (reached used : List Bool) → length reached ≡ length steps
    → IsMarkedWhere reached (Reaches steps goals) → IsMarkedWhere used (IsOfMarked reached (vars_at steps) (length steps))
    → IsMarkedWhere used (IsUsedVar steps goals)
used_vars steps goals reached used count steps_marked vars_marked var = (
  λ marked.
      let one = (vars_marked var).0 marked in
      let lit = contains_mapped var_of (lits_at steps one.place) var one.is_in in
      record { place = one.place; reached = (steps_marked one.place).0 one.marked; lit = lit.0; is_in = lit.1; is_var = lit.2 },
  λ one.
      let marked : is_marked reached one.place ≡ true = (steps_marked one.place).1 one.reached in
      let within : one.place < length reached = marked_within reached one.place marked in
      (vars_marked var).1 (record {
        place = one.place;
        below = omega arith;
        marked = marked;
        is_in = subst (λ (v : ℕ). Contains (vars_at steps one.place) v) one.is_var
            (contains_map var_of (lits_at steps one.place) one.lit one.is_in);
      }),
)

pub named_answers_are : (log : Log) (goals : List ℕ) (used named : List Bool) → length used ≡ length log.statements
    → IsMarkedWhere used (IsUsedVar log.steps goals)
    → IsMarkedWhere named (IsOfMarked used (answers_at log.statements) (length log.statements))
    → IsMarkedWhere named (IsUsedAnswer log goals)
named_answers_are log goals used named count vars_marked answers_marked tuple = (
  λ marked.
      let one = (answers_marked tuple).0 marked in
      record {
        var = one.place;
        used = (vars_marked one.place).0 one.marked;
        names = named_by log.statements one.place tuple one.is_in;
      },
  λ one.
      (answers_marked tuple).1 (record {
        place = one.var;
        below = slice_get_within log.statements one.var (Answer tuple) one.names;
        marked = (vars_marked one.var).1 one.used;
        is_in = names log.statements one.var tuple one.names;
      }),
)

pub used_are : (log : Log) (goals : List ℕ) (reached marks numbers : List Bool) → AreReached log goals reached
    → length marks ≡ length log.statements → IsMarkedWhere marks (IsOfMarked reached (vars_at log.steps) (length log.steps))
    → numbers ≡ marks → AreUsed log goals numbers
used_are log goals reached marks numbers steps count marked same =
    subst (λ (m : List Bool). AreUsed log goals m) (sym same)
    (record { count = count; marked = used_vars log.steps goals reached marks steps.count steps.marked marked })

pub named_are : (log : Log) (goals : List ℕ) (used marks numbers : List Bool) → AreUsed log goals used
    → length marks ≡ length log.answers → IsMarkedWhere marks (IsOfMarked used (answers_at log.statements)
    (length log.statements))
    → numbers ≡ marks → AreNamed log goals numbers
named_are log goals used marks numbers vars count marked same =
    subst (λ (m : List Bool). AreNamed log goals m) (sym same)
    (record { count = count; marked = named_answers_are log goals used marks vars.count vars.marked marked })

-- ---- the trimmed log

pub trimmed_is : (log : Log) (goals : List ℕ) (steps statements answers : List Bool) (trimmed : Trimmed)
    → AreReached log goals steps → AreUsed log goals statements → AreNamed log goals answers
    → trimmed.log.steps ≡ map (renumbered_step (is_marked steps) (is_marked statements)) (kept_of (is_marked steps) log.steps)
    → trimmed.log.statements ≡ map (renumbered_statement (is_marked answers)) (kept_of (is_marked statements) log.statements)
    → trimmed.log.answers ≡ kept_of (is_marked answers) log.answers
    → trimmed.goals ≡ map (rank (is_marked steps)) goals
    → IsTrimmed log goals trimmed
trimmed_is log goals steps statements answers trimmed reached used named new_steps new_statements new_answers new_goals = record {
  step_kept = is_marked steps;
  statement_kept = is_marked statements;
  answer_kept = is_marked answers;
  kept_steps = reached.marked;
  kept_statements = used.marked;
  kept_answers = named.marked;
  steps = new_steps;
  statements = new_statements;
  answers = new_answers;
  new_goals = new_goals;
}

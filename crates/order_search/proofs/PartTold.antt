-- Where every part is done, the known model is a completion in which the goal is false and each step's clause is true.
use Rattle.std.proofs.Common.{◌≡◌, ◌∙◌, ◌⊎◌, ℕ, Bool, true, false, not, List, All, Option, Some, IfSome, take, slice_get, refl, sym, ap, subst, inl, inr, arith}
use Rattle.std.proofs.lemmas.List.Elements.{All-contains}
use Rattle.std.proofs.lemmas.Option.{IfSome_then, get_or_from_slice_get, slice_get-get_or}
use Rattle.currency_base.specs.Literals.{is_negative, var_of}
use Rattle.currency_base.specs.declared.lit.Lit.{Lit}
use Rattle.spec_model.specs.Completion.{Rankings}
use Rattle.refutation_log.specs.Counted.{holds}
use Rattle.refutation_log.specs.Steps.{clauses_of}
use Rattle.refutation_log.specs.declared.step.Step.{Step}
use Rattle.refutation_log.specs.declared.step.Step.TheVariants.{Axiom, Learn, OnDemand}
use Rattle.log_laws.specs.Truths.{AreGrounded, IsGrounded, IsTrueUnder}
use Rattle.order_literals.specs.Numbers.{numbers_of}
use Rattle.order_literals.specs.Said.{IsClauseTrue}
use Rattle.search_logs.specs.SearchLogs.{IsSearchStep}
use Rattle.watch_propagate.proofs.KeptLists.{contains_at}
use Rattle.watch_solver.specs.Decided.{Solver, truth_in}
use Rattle.known_models.specs.Known.{IsParted, IsWhole}
use Rattle.known_models.specs.Laws.{KnownIsModel, KnownMakesTrue}
use Rattle.order_search.specs.Kept.{IsAxiomOf, IsHeld, posed_of, search_of, vars_of}
use Rattle.order_search.specs.Made.{IsFalseIn}
use Rattle.order_search.specs.Parts.{parted_of}
use Rattle.order_search.specs.Searches.{IsCounter, Search, Subject}
use Rattle.order_search.specs.Tied.{IsTied, IsTiedMatch, IsTiedStep, IsTrueAtHome}
use Rattle.order_search.specs.declared.parting.Parting.{Parting}
use Rattle.order_search.proofs.TiedSteps.{member_below}

-- ---- truths

holds_parts : (negative truth : Bool) (truths : ℕ → Bool) (lit : Lit) → is_negative lit ≡ negative → truths (var_of lit) ≡ truth
    → truth ≡ not negative → holds truths lit ≡ true
holds_parts true truth truths lit n t e = rw (n, t) (ap not e)
holds_parts false truth truths lit n t e = rw (n, t) e

pub holds_by : (truths : List Bool) (lit : Lit) → slice_get truths (var_of lit) ≡ Some (not (is_negative lit))
    → holds (truth_in truths) lit ≡ true
holds_by truths lit is =
    holds_parts (is_negative lit) (not (is_negative lit)) (truth_in truths) lit refl
    (get_or_from_slice_get truths (var_of lit) (not (is_negative lit)) false is) refl

fails_parts : (negative truth : Bool) (truths : ℕ → Bool) (lit : Lit) → is_negative lit ≡ negative → truths (var_of lit) ≡ truth
    → truth ≡ negative → holds truths lit ≡ false
fails_parts true truth truths lit n t e = rw (n, t) (ap not e)
fails_parts false truth truths lit n t e = rw (n, t) e

fails_by : (truths : List Bool) (lit : Lit) → slice_get truths (var_of lit) ≡ Some (is_negative lit)
    → holds (truth_in truths) lit ≡ false
fails_by truths lit is =
    fails_parts (is_negative lit) (is_negative lit) (truth_in truths) lit refl
    (get_or_from_slice_get truths (var_of lit) (is_negative lit) false is) refl

clause_under : (truths : List Bool) (lits : List Lit) → IsClauseTrue truths lits → IsTrueUnder (truth_in truths) lits
clause_under truths lits is = (is.lit, is.is_in, holds_by truths is.lit is.is_true)

-- ---- the known model

-- a law on logs: where each step is grounded, each step's clause is true
abbrev pub LogsAreSound : Type 0
LogsAreSound = (truth : ℕ → Bool) → (steps : List Step) → AreGrounded (λ lit. holds truth lit ≡ true) steps
    → All (IsTrueUnder truth) (clauses_of steps)

module _ (s : Subject) (g : Parting) (solver : Solver) (marks : List Bool) (held : IsHeld s solver marks)
    (tied : IsTied s g solver.steps) (whole : IsWhole g.known) where
  parted : IsParted (numbers_of s.spec.relations s.wanted) (parted_of s g.parts)
  parted = record { numbers = refl; ties = tied.parting.parts.ties; parts = tied.parting.parts.parts }

  axiom_true : KnownMakesTrue → (taken : Step) (is : IsAxiomOf s taken) → IsTrueUnder (truth_in g.known.truths) is.lits
  axiom_true makes taken is =
      clause_under g.known.truths is.lits
      (makes (parted_of s g.parts) (numbers_of s.spec.relations s.wanted) g.known held.search.begins.axioms
      held.search.within.specification parted held.search.begins.are_axioms tied.parting.known whole is.label is.lits taken is.step)

  same_lits : (taken : Step) (is : IsAxiomOf s taken) → taken ≡ Axiom is.label is.lits
  same_lits taken is = is.step.is_step

  -- the clause of a match is true
  match_true : (lits : List Lit) → IsTiedMatch s g lits → IsTrueUnder (truth_in g.known.truths) lits
  match_true lits is = by is.truth
    where
      by : (slice_get g.known.truths (var_of is.own) ≡ Some true) ⊎ IsTrueAtHome g (var_of is.own) lits
          → IsTrueUnder (truth_in g.known.truths) lits
      by (inl set) =
          (is.own, is.own_in, holds_by g.known.truths is.own (set ∙ ap (λ (b : Bool). Some (not b)) (sym is.positive)))
      by (inr home) =
          let below = member_below s g tied.members home.part (var_of is.own) home.member in
          let at = slice_get-get_or g.known.done home.part true (omega (arith, below, tied.parting.known.per_part)) in
          let true_there = whole home.part true (omega (arith, below, tied.parting.known.per_part)) in
          clause_under g.known.truths lits (home.is_true (at ∙ ap Some true_there))

  grounded : KnownMakesTrue → AreGrounded (λ lit. holds (truth_in g.known.truths) lit ≡ true) solver.steps
  grounded makes place taken at =
      by taken (All-contains (IsTiedStep s g) solver.steps taken tied.are_tied (contains_at solver.steps place taken at))
      (held.search.log.steps place taken at)
    where
      by : (taken : Step) → IsTiedStep s g taken
          → IsSearchStep s.spec (posed_of s solver.frame) (vars_of s) (clauses_of (take place solver.steps)) taken
          → IsGrounded (λ lit. holds (truth_in g.known.truths) lit ≡ true) (clauses_of (take place solver.steps)) taken
      by (Axiom l lits) (inl is) search =
          let e = same_lits (Axiom l lits) is in
          let same : is.lits ≡ lits = cc in
          subst (IsTrueUnder (truth_in g.known.truths)) same (axiom_true makes (Axiom l lits) is)
      by (Axiom l lits) (inr is) search = match_true lits is
      by (OnDemand l lits) is search = match_true lits is
      by (Learn lits hints counted) is search = search.follows

  pub known_counter : KnownIsModel → KnownMakesTrue → LogsAreSound → (goal : Option Lit) (own : Option ℕ)
      → IfSome goal (IsFalseIn g own) → IsCounter (search_of s solver) goal g.known.truths g.known.completion
  known_counter model makes sound goal own false_goal = record {
    model = model (parted_of s g.parts) (numbers_of s.spec.relations s.wanted) g.known held.search.begins.axioms
        held.search.within.specification parted held.search.begins.are_axioms tied.parting.known whole;
    clauses_true = sound (truth_in g.known.truths) solver.steps (grounded makes);
    goal_false = IfSome_then goal false_goal (λ lit f. fails_by g.known.truths lit f.is_false);
  }

-- as it is told
pub counter_as : (s : Search) (goal : Option Lit) (truths known : List Bool) (c of : Rankings) → truths ≡ known → c ≡ of
    → IsCounter s goal known of → IsCounter s goal truths c
counter_as s goal truths known c of same_truths same_completion is =
    subst (λ (x : Rankings). IsCounter s goal truths x) (sym same_completion)
    (subst (λ (x : List Bool). IsCounter s goal x of) (sym same_truths) is)

-- A cycle whose list was brought in is false under every assignment that makes the clauses true.
use Rattle.std.proofs.Common.{◌≡◌, ◌≢◌, ◌⊎◌, ◌<◌, ◌≤◌, ◌+◌, ◌∙◌, ℕ, zero, suc, Bool, true, false, List, [], ◌∷◌, All, Some, Contains, get_or, length, option_map, slice_get, slice_set, refl, sym, ap, subst, inl, inr, arith}
use Rattle.std.proofs.lemmas.List.Elements.{All-contains, All-weaker}
use Rattle.std.proofs.lemmas.Option.{same_Some, slice_get-get_or, slice_get-map}
use Rattle.currency_base.specs.Literals.{var_of}
use Rattle.currency_base.specs.declared.ids.AttrId.{AttrId}
use Rattle.currency_base.specs.declared.ids.RelId.{RelId}
use Rattle.currency_base.specs.declared.ids.RowId.{RowId}
use Rattle.currency_base.specs.declared.lit.Lit.{Lit}
use Rattle.partial_orders.specs.Pairs.{entity_of}
use Rattle.spec_model.specs.declared.relation.Relation.{Relation}
use Rattle.refutation_log.specs.Steps.{clause_of, clauses_of}
use Rattle.refutation_log.specs.declared.statement.Statement.TheVariants as says
use Rattle.refutation_log.specs.declared.step.Label.TheVariants as label
use Rattle.refutation_log.specs.declared.step.Step.{Step}
use Rattle.refutation_log.specs.declared.step.Step.TheVariants.{Axiom}
use Rattle.order_literals.specs.Axioms.{AreTwo, IsAxiom}
use Rattle.order_literals.specs.Numbers.{numbers_of}
use Rattle.order_literals.specs.Said.{IsClauseTrue, IsSaidTrue, Said, Says, before, not_before}
use Rattle.order_clauses.specs.Clauses.{SaysOneOf}
use Rattle.order_literals.proofs.Deciding.{pair_exclude, said_exclude, said_of_pairs}
use Rattle.order_literals.proofs.Sayings.{says_within, tells}
use Rattle.completion_build.specs.Ranked.{IsCycle}
use Rattle.completion_build.specs.declared.built.Cycle.{Cycle}
use Rattle.watch_propagate.proofs.KeptLists.{contains_at, stands_at}
use Rattle.watch_solver.specs.Decided.{Solver}
use Rattle.order_search.specs.Kept.{AreBrought, AreBroughtIn, AreTrue, AreTrueOn, Brings, HaveThrees, IsBrought, IsHeld, IsMarked, IsOfList, IsOnList, unmarked, vars_of}
use Rattle.order_search.specs.Searches.{Subject}
use Rattle.order_search.proofs.Marking.{brought_mark, unmarked_fewer, unmarked_later}

-- where all clauses are true, those on a list are
pub all_on : (s : Subject) (truths : List Bool) (steps : List Step) (cycles : List Cycle) → AreTrue truths steps
    → All (AreTrueOn s truths steps) cycles
all_on s truths steps cycles all =
    λ k d h lits is_in on. All-contains (IsClauseTrue truths) (clauses_of steps) lits all is_in

-- ---- a cycle is of a list

pub of_list : (s : Subject) (truths : List Bool) (c : Cycle) → IsCycle s.spec.relations (vars_of s) truths c → IsOfList s c
of_list s truths c is = record {
  relation = is.relation;
  is_relation = is.is_relation;
  attr_within = is.attr_within;
  ent_within = is.ent_within;
  first_of = is.first_second.first_of;
  second_of = is.first_second.second_of;
  pair = said_of_pairs (numbers_of s.spec.relations s.wanted) is.first_second.put.lit c.rel c.attr c.first c.second
      false is.first_second.put.says;
}

pub of_lists : (s : Subject) (truths : List Bool) (cycles : List Cycle) → All (IsCycle s.spec.relations (vars_of s) truths) cycles
    → All (IsOfList s) cycles
of_lists s truths cycles all = λ k d h. of_list s truths (get_or cycles k d) (all k d h)

-- ---- no cycle

clause_in : (steps : List Step) (taken : Step) → Contains steps taken → Contains (clauses_of steps) (clause_of taken)
clause_in steps taken c =
    let at = stands_at steps taken c in
    contains_at (clauses_of steps) at.0 (clause_of taken) (slice_get-map clause_of steps at.0
    ∙ ap (λ o. option_map clause_of o) at.1)

among_three : (x a b c : Said) → Contains (a ∷ b ∷ c ∷ []) x → (x ≡ a) ⊎ ((x ≡ b) ⊎ (x ≡ c))
among_three x a b c is = go (stands_at (a ∷ b ∷ c ∷ []) x is)
  where
    go : (k : ℕ) × (slice_get (a ∷ b ∷ c ∷ []) k ≡ Some x) → (x ≡ a) ⊎ ((x ≡ b) ⊎ (x ≡ c))
    go (zero, e) = inl (sym (same_Some a x e))
    go (suc zero, e) = inr (inl (sym (same_Some b x e)))
    go (suc (suc zero), e) = inr (inr (sym (same_Some c x e)))
    go (suc (suc (suc k)), e) = let no : ⊥ = cc in absurd no

module _ (s : Subject) (steps : List Step) (truths : List Bool) (c : Cycle) (holds : AreTrueOn s truths steps c)
    (is : IsCycle s.spec.relations (vars_of s) truths c) where
  -- two of its rows are different ones of one entity
  two_of : (a b : RowId) → entity_of is.relation.rows a.0 ≡ Some c.ent.0 → entity_of is.relation.rows b.0 ≡ Some c.ent.0
      → IsSaidTrue (vars_of s) truths (before c.rel c.attr a b) → AreTwo is.relation.rows a b
  two_of a b of_a of_b put = record {
    ent = c.ent.0;
    a_of = of_a;
    b_of = of_b;
    differ = (said_of_pairs (numbers_of s.spec.relations s.wanted) put.lit c.rel c.attr a b false put.says).differ;
  }

  clause : List Said
  clause =
      not_before c.rel c.attr c.first c.second ∷ not_before c.rel c.attr c.second c.third ∷ before c.rel c.attr
      c.first c.third ∷ []

  is_axiom : IsAxiom s.spec (label.Transitive c.rel c.attr c.first c.second c.third) clause
  unfolding clause two_of
  is_axiom =
      let last = two_of c.third c.first is.third_first.first_of is.third_first.second_of is.third_first.put in (
        is.relation,
        is.is_relation,
        (
          is.attr_within,
          two_of c.first c.second is.first_second.first_of is.first_second.second_of is.first_second.put,
          two_of c.second c.third is.second_third.first_of is.second_third.second_of is.second_third.put,
          record { ent = c.ent.0; a_of = last.b_of; b_of = last.a_of; differ = λ e. last.differ (sym e) },
          refl,
        ),
      )

  one_false : (said : Said) → (said ≡ not_before c.rel c.attr c.first c.second)
      ⊎ ((said ≡ not_before c.rel c.attr c.second c.third) ⊎ (said ≡ before c.rel c.attr c.first c.third))
      → IsSaidTrue (vars_of s) truths said → ⊥
  one_false said (inl e) t =
      said_exclude (numbers_of s.spec.relations s.wanted) truths (before c.rel c.attr c.first c.second) is.first_second.put
      (subst (IsSaidTrue (vars_of s) truths) e t)
  one_false said (inr (inl e)) t =
      said_exclude (numbers_of s.spec.relations s.wanted) truths (before c.rel c.attr c.second c.third) is.second_third.put
      (subst (IsSaidTrue (vars_of s) truths) e t)
  one_false said (inr (inr e)) t =
      pair_exclude (numbers_of s.spec.relations s.wanted) truths c.rel c.attr c.first c.third
      (subst (IsSaidTrue (vars_of s) truths) e t)
      is.third_first.put

  -- its literals are on the list
  on_list : (lit : Lit) (a b : RowId) (negative : Bool) → entity_of is.relation.rows a.0 ≡ Some c.ent.0
      → entity_of is.relation.rows b.0 ≡ Some c.ent.0
      → Says (vars_of s) lit (record { statement = says.Before c.rel c.attr a b; negative = negative }) → IsOnList s c lit
  on_list lit a b negative of_a of_b told = record {
    relation = is.relation;
    is_relation = is.is_relation;
    first = a;
    second = b;
    negative = negative;
    first_of = of_a;
    second_of = of_b;
    says = told;
  }

  one_on : (lit : Lit) (said : Said) → (said ≡ not_before c.rel c.attr c.first c.second)
      ⊎ ((said ≡ not_before c.rel c.attr c.second c.third) ⊎ (said ≡ before c.rel c.attr c.first c.third))
      → Says (vars_of s) lit said → IsOnList s c lit
  one_on lit said (inl e) told =
      on_list lit c.first c.second true is.first_second.first_of is.first_second.second_of (subst (Says (vars_of s) lit) e told)
  one_on lit said (inr (inl e)) told =
      on_list lit c.second c.third true is.second_third.first_of is.second_third.second_of (subst (Says (vars_of s) lit) e told)
  one_on lit said (inr (inr e)) told =
      on_list lit c.first c.third false is.third_first.second_of is.third_first.first_of (subst (Says (vars_of s) lit) e told)

  said_on : (lit : Lit) → SaysOneOf (vars_of s) clause lit → IsOnList s c lit
  unfolding clause
  said_on lit told =
      one_on lit told.said
      (among_three told.said (not_before c.rel c.attr c.first c.second) (not_before c.rel c.attr c.second c.third)
      (before c.rel c.attr c.first c.third) told.is_in) told.says

  refuted : HaveThrees s steps c.rel c.attr c.ent.0 → ⊥
  unfolding clause
  refuted threes =
      let stands = threes is.relation is.is_relation c.first c.second c.third is.first_second.first_of clause is_axiom in
      let one = holds stands.lits (clause_in steps (Axiom stands.label stands.lits) stands.is_in)
      (All-weaker (SaysOneOf (vars_of s) clause) (IsOnList s c) said_on stands.lits stands.are_lits.each) in
      let told = All-contains (SaysOneOf (vars_of s) clause) stands.lits one.lit stands.are_lits.each one.is_in in
      one_false told.said
      (among_three told.said (not_before c.rel c.attr c.first c.second) (not_before c.rel c.attr c.second c.third)
      (before c.rel c.attr c.first c.third) told.is_in)
      (record { lit = one.lit; says = told.says; is_true = one.is_true })

-- ---- the variable of two rows

-- the statement of a literal that says which of two rows stands before the other
said_either : (s : Subject) (lit : Lit) (rel : RelId) (attr : AttrId) (first second : RowId) → Says (vars_of s) lit
    (before rel attr first second)
    → (slice_get (vars_of s) (var_of lit) ≡ Some (says.Before rel attr first second))
    ⊎ (slice_get (vars_of s) (var_of lit) ≡ Some (says.Before rel attr second first))
said_either s lit rel attr first second (inl e) = inl (tells (vars_of s) lit (before rel attr first second) e).at
said_either s lit rel attr first second (inr e) =
    inr (tells (vars_of s) lit (record { statement = says.Before rel attr second first; negative = true }) e).at

-- the parts of a statement
parts : (rel rel' : RelId) (attr attr' : AttrId) (a a' b b' : RowId) → says.Before rel attr a b ≡ says.Before rel' attr' a' b'
    → (rel ≡ rel') × (attr ≡ attr') × (a ≡ a')
parts rel rel' attr attr' a a' b b' e = (cc, cc, cc)

module _ (s : Subject) (steps : List Step) (c : Cycle) (is : IsOfList s c) (lit : Lit)
    (lit_says : Says (vars_of s) lit (before c.rel c.attr c.first c.second)) where
  -- a list that is brought in may be marked
  pub brought_of : HaveThrees s steps c.rel c.attr c.ent.0 → IsBrought s steps (var_of lit)
  brought_of threes rel attr first second at r is_r ent of = go (said_either s lit c.rel c.attr c.first c.second lit_says)
    where
      moved : (a b : RowId) → slice_get (vars_of s) (var_of lit) ≡ Some (says.Before c.rel c.attr a b)
          → entity_of is.relation.rows a.0 ≡ Some c.ent.0
          → HaveThrees s steps rel attr ent
      moved a b told of_a =
          let same = parts c.rel rel c.attr attr a first b second (same_Some (says.Before c.rel c.attr a b)
          (says.Before rel attr first second) (sym told ∙ at)) in
          let here : r ≡ is.relation =
          same_Some r is.relation (sym is_r ∙ ap (λ (i : RelId). slice_get s.spec.relations i.0) (sym same.0) ∙ is.is_relation) in
          let ents : c.ent.0 ≡ ent =
          same_Some c.ent.0 ent (sym of_a ∙ ap (λ (row : RowId). entity_of is.relation.rows row.0) same.2
          ∙ ap (λ (q : Relation). entity_of q.rows first.0) (sym here) ∙ of) in
          subst (λ (i : RelId). HaveThrees s steps i attr ent) same.0
          (subst (λ (i : AttrId). HaveThrees s steps c.rel i ent) same.1
          (subst (λ (i : ℕ). HaveThrees s steps c.rel c.attr i) ents threes))

      go : (slice_get (vars_of s) (var_of lit) ≡ Some (says.Before c.rel c.attr c.first c.second))
          ⊎ (slice_get (vars_of s) (var_of lit) ≡ Some (says.Before c.rel c.attr c.second c.first))
          → HaveThrees s steps rel attr ent
      go (inl told) = moved c.first c.second told is.first_of
      go (inr told) = moved c.second c.first told is.second_of

  -- and one that is marked is brought in
  threes_of : IsBrought s steps (var_of lit) → HaveThrees s steps c.rel c.attr c.ent.0
  threes_of brought = go (said_either s lit c.rel c.attr c.first c.second lit_says)
    where
      go : (slice_get (vars_of s) (var_of lit) ≡ Some (says.Before c.rel c.attr c.first c.second))
          ⊎ (slice_get (vars_of s) (var_of lit) ≡ Some (says.Before c.rel c.attr c.second c.first))
          → HaveThrees s steps c.rel c.attr c.ent.0
      go (inl told) = brought c.rel c.attr c.first c.second told is.relation is.is_relation c.ent.0 is.first_of
      go (inr told) = brought c.rel c.attr c.second c.first told is.relation is.is_relation c.ent.0 is.second_of

  -- so the variable of a cycle is not marked before
  pub brings : (marks : List Bool) → AreBrought s steps marks → Brings s c steps marks (slice_set marks (var_of lit) true)
  brings marks were truths holds cycle =
      let below : var_of lit < length marks =
      let w = says_within (vars_of s) lit (before c.rel c.attr c.first c.second) lit_says in omega
      (arith, w, were.per_variable) in
      go (get_or marks (var_of lit) true) (slice_get-get_or marks (var_of lit) true below)
    where
      go : (mark : Bool) → slice_get marks (var_of lit) ≡ Some mark → unmarked (slice_set marks (var_of lit) true) <
          unmarked marks
      go true e = absurd (refuted s steps truths c holds cycle (threes_of (were.marked (var_of lit) e)))
      go false e = unmarked_fewer marks (var_of lit) e

-- ---- the list of a cycle is brought in

module _ (s : Subject) (c : Cycle) (is : IsOfList s c) (old new : List Bool) (marked : IsMarked s c old new) where
  pub marked_held : (solver : Solver) → IsHeld s solver old → HaveThrees s solver.steps c.rel c.attr c.ent.0 → IsHeld s solver new
  marked_held solver held threes = record {
    search = held.search;
    lists = subst (AreBrought s solver.steps) (sym marked.marks)
        (brought_mark s solver.steps old (var_of marked.lit) held.lists
        (brought_of s solver.steps c is marked.lit marked.lit_says threes));
  }

  pub marked_later : unmarked new ≤ unmarked old
  marked_later = let later = unmarked_later old (var_of marked.lit) in subst
      (λ (marks : List Bool). unmarked marks ≤ unmarked old) (sym marked.marks) later

  pub marked_brings : (steps : List Step) → AreBrought s steps old → Brings s c steps old new
  marked_brings steps were =
      subst (λ (marks : List Bool). Brings s c steps old marks) (sym marked.marks)
      (brings s steps c is marked.lit marked.lit_says old were)

-- ---- one cycle after another

pub in_none : (s : Subject) (cycles : List Cycle) (steps : List Step) (marks : List Bool) → AreBroughtIn s cycles 0
    steps marks steps marks
in_none s cycles steps marks = record { later = omega arith; begun = λ e. (refl, refl); fewer = λ h. absurd (omega (arith, h)) }

pub in_more : (s : Subject) (cycles : List Cycle) (place : ℕ) (c : Cycle) (first_steps : List Step)
    (first : List Bool) (old_steps : List Step) (old : List Bool)
    (new_steps : List Step) (new : List Bool) → slice_get cycles place ≡ Some c → AreBroughtIn s cycles place
    first_steps first old_steps old
    → unmarked new ≤ unmarked old → Brings s c old_steps old new → AreBroughtIn s cycles (place + 1) first_steps
    first new_steps new
in_more s cycles zero c first_steps first old_steps old new_steps new at so_far later fewer = record {
  later = omega (arith, later, so_far.later);
  begun = λ e. absurd (omega (arith, e));
  fewer = λ h truths holds all.
      let same = so_far.begun refl in
      let one = fewer truths (subst (λ (ss : List Step). AreTrueOn s truths ss c) (sym same.0)
      (All-contains (AreTrueOn s truths first_steps) cycles c holds (contains_at cycles zero c at)))
      (All-contains (IsCycle s.spec.relations (vars_of s) truths) cycles c all (contains_at cycles zero c at)) in
      let before = so_far.later in
      omega (arith, one, before);
}
in_more s cycles (suc place) c first_steps first old_steps old new_steps new at so_far later fewer = record {
  later = omega (arith, later, so_far.later);
  begun = λ e. absurd (omega (arith, e));
  fewer = λ h truths holds all. let one = so_far.fewer (omega arith) truths holds all in omega (arith, one, later);
}

pub in_all : (s : Subject) (cycles : List Cycle) (place : ℕ) (old_steps : List Step) (old : List Bool)
    (new_steps : List Step) (new : List Bool)
    → length cycles ≤ place → AreBroughtIn s cycles place old_steps old new_steps new → (truths : List Bool)
    → All (AreTrueOn s truths old_steps) cycles
    → All (IsCycle s.spec.relations (vars_of s) truths) cycles → cycles ≢ [] → unmarked new < unmarked old
in_all s [] place old_steps old new_steps new past so_far truths holds all some = absurd (some refl)
in_all s (c ∷ cycles) place old_steps old new_steps new past so_far truths holds all some = so_far.fewer
    (omega (arith, past)) truths holds all

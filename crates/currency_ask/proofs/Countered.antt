-- What deciding a goal tells: a model in which its literal is false is a completion in which it fails; and what was
-- proved stays so.
use Rattle.std.proofs.Common.{◌≡◌, ◌⊎◌, ◌<◌, ◌+◌, ◌∙◌, ℕ, Bool, true, false, not, if◌then◌else◌, List, [], ◌∷◌, ◌++◌, Option, Some, Result, Ok, Err, IfOk, get_or, length, slice_get, take, refl, sym, ap, subst, inl, inr, arith}
use Rattle.std.proofs.lemmas.List.{append_assoc, length_push, map-append}
use Rattle.std.proofs.lemmas.Option.{get_or_from_slice_get, same_Some, slice_get_within}
use Rattle.currency_base.specs.Literals.{is_negative, var_of}
use Rattle.currency_base.specs.declared.lit.Lit.{Lit}
use Rattle.partial_orders.specs.Pairs.{entity_of}
use Rattle.spec_model.specs.Completion.{Rankings}
use Rattle.spec_model.specs.Facts.{IsSpecification}
use Rattle.spec_model.specs.Questions.{IsAskedPair}
use Rattle.spec_model.specs.Spec.{Spec}
use Rattle.spec_model.specs.declared.question.Asked.{Asked}
use Rattle.spec_model.specs.declared.relation.Relation.{Relation}
use Rattle.log_axioms.specs.Posed.{Posed}
use Rattle.refutation_log.specs.Counted.{counted_steps, holds}
use Rattle.refutation_log.specs.Steps.{clause_of, clauses_of}
use Rattle.refutation_log.specs.declared.statement.Statement.{Statement}
use Rattle.refutation_log.specs.declared.statement.Statement.TheVariants as says
use Rattle.refutation_log.specs.declared.step.Step.{Step}
use Rattle.value_names.proofs.NameFacts
use Rattle.value_names.specs.Names.{name_of}
use Rattle.order_adequacy.proofs.Orders.{relation_facts}
use Rattle.order_adequacy.proofs.Saids.{said_true}
use Rattle.order_adequacy.specs.Laws.{IsModelOf, said_answers, variables}
use Rattle.order_literals.specs.Said.{IsLitTrue, Says, last}
use Rattle.order_literals.specs.Truth.{Holds}
use Rattle.order_literals.specs.declared.wanted.Wanted.{Wanted}
use Rattle.order_search.specs.Searches.{HasGone, IsSearch, Search, Tells}
use Rattle.order_search.specs.declared.outcome.Outcome.{Outcome}
use Rattle.order_search.specs.declared.outcome.Outcome.TheVariants.{Model, Proved, Empty, Spent}
use Rattle.watch_solver.specs.Decided.{truth_in}
use Rattle.currency_ask.specs.Goals.{AreProved, Fails, FailsAfter, IsCurrentGoal, IsListGoalOn, IsProved, TellsGoal, rows_at, said_of}
use Rattle.currency_ask.proofs.Places.{at_front, at_push, take_next}
use Rattle.currency_ask.specs.declared.goal.Goal.{Goal}
use Rattle.currency_ask.specs.declared.goal.Goal.TheVariants.{Pair, Current, Answer}
use Rattle.current_claims.specs.declared.claims.CurrentRow.{CurrentRow}

-- ---- a false literal

lit_not : (truths : List Bool) (lit : Lit) → holds (truth_in truths) lit ≡ false → IsLitTrue truths lit → ⊥
lit_not truths lit is_false is_true = go (is_negative lit) (get_or truths (var_of lit) false) refl refl
  where
    value : get_or truths (var_of lit) false ≡ not (is_negative lit)
    value = get_or_from_slice_get truths (var_of lit) (not (is_negative lit)) false is_true

    go : (negative truth : Bool) → is_negative lit ≡ negative → get_or truths (var_of lit) false ≡ truth → ⊥
    go true true n t = let no : true ≡ false = sym t ∙ value ∙ ap not n in cc
    go false false n t = let no : false ≡ true = sym t ∙ value ∙ ap not n in cc
    go true false n t =
        let no : true ≡ false =
        sym (ap (λ (b : Bool). if b then not (get_or truths (var_of lit) false) else get_or truths (var_of lit)
        false) n ∙ ap not t) ∙ is_false in
        cc
    go false true n t =
        let no : true ≡ false =
        sym (ap (λ (b : Bool). if b then not (get_or truths (var_of lit) false) else get_or truths (var_of lit)
        false) n ∙ t) ∙ is_false in
        cc

-- what it says does not hold in the completion of a model
counter : (s : Spec) (wanted : Wanted) (truths : List Bool) (c : Rankings) (lit : Lit) (statement : Statement)
    (negative : Bool) → IsSpecification s
    → IsModelOf s wanted truths c → holds (truth_in truths) lit ≡ false → Says (variables s wanted) lit
    (record { statement = statement; negative = negative })
    → Holds s.relations c (said_answers s wanted truths) (record { statement = statement; negative = negative }) → ⊥
counter s wanted truths c lit statement negative is model is_false says held =
    lit_not truths lit is_false
    (said_true s wanted c (said_answers s wanted truths) truths lit statement negative
    (record { facts = is.relations; completion = model.consistent.completion }) model.truth says held)

-- the value of a row is not the current one where the literal is false
value_differs : (s : Spec) (posed : Posed) (wanted : Wanted) (truths : List Bool) (c : Rankings) (lit : Lit)
    (p : CurrentRow) (g : IsCurrentGoal s wanted p)
    → IsSpecification s → IsModelOf s wanted truths c → holds (truth_in truths) lit ≡ false
    → Says (variables s wanted) lit (said_of s (Current p))
    → Fails s posed (Current p) c
value_differs s posed wanted truths c lit p g is model is_false told r at equal =
    let same : g.relation ≡ r = same_Some g.relation r (sym g.is_relation ∙ at) in
    let facts = relation_facts s.relations p.rel.0 r is.relations at in
    let attr_within : p.attr.0 < length r.attrs = subst (λ (q : Relation). p.attr.0 < length q.attrs) same g.attr_within in
    let row_within : p.row.0 < length r.rows = subst (λ (q : Relation). p.row.0 < length q.rows) same g.row_within in
    let of_entity : entity_of r.rows p.row.0 ≡ Some p.ent.0 =
    subst (λ (q : Relation). entity_of q.rows p.row.0 ≡ Some p.ent.0) same g.of_entity in
    let name = name_of r.rows p.attr.0 p.row in
    let one = (NameFacts.named r p.attr.0 facts attr_within p.row row_within).have_one in
    let ent : one.ent ≡ p.ent.0 = same_Some one.ent p.ent.0 (sym one.entity ∙ of_entity) in
    let said : Says (variables s wanted) lit (last p.rel p.attr name) =
    subst (λ (o : Option Relation). Says (variables s wanted) lit
    (last p.rel p.attr (name_of (rows_at o) p.attr.0 p.row))) at told in
    counter s wanted truths c lit (says.Last p.rel p.attr name) false is model is_false said record {
      relation = r;
      is_relation = at;
      ent = p.ent.0;
      of_entity = one.other_entity ∙ ap Some ent;
      value = one.value;
      of_row = one.there;
      current = equal ∙ one.here;
    }

goal_fails : (s : Spec) (posed : Posed) (wanted : Wanted) (truths : List Bool) (c : Rankings) (lit : Lit)
    (goal : Goal) → IsListGoalOn s wanted goal
    → IsSpecification s → IsModelOf s wanted truths c → holds (truth_in truths) lit ≡ false
    → Says (variables s wanted) lit (said_of s goal)
    → Fails s posed goal c
goal_fails s posed wanted truths c lit (Pair p) g is model is_false told =
    counter s wanted truths c lit (says.Before p.rel p.pair.attr p.pair.earlier p.pair.later) false is model is_false told
goal_fails s posed wanted truths c lit (Current p) g is model is_false told = value_differs s posed wanted truths c
    lit p g is model is_false told
goal_fails s posed wanted truths c lit (Answer place) g is model is_false told = absurd g

-- ---- what deciding tells

tells : (search : Search) (goal : Goal) (lit : Lit) (left : ℕ) (outcome : Outcome) → IsSearch search
    → IsListGoalOn search.spec search.wanted goal
    → Says search.log.statements lit (said_of search.spec goal) → Tells search (Some lit) left outcome
    → TellsGoal search goal left outcome
tells search goal lit left (Model truths c) is g told counters = (
  counters.model.consistent,
  goal_fails search.spec search.posed search.wanted truths c lit goal g is.within.specification counters.model counters.goal_false
      (subst (λ (statements : List Statement). Says statements lit (said_of search.spec goal)) is.log.statements told),
)
tells search goal lit left (Proved step) is g told proved = record {
  lit = lit;
  says = told;
  is_unit = proved.2 ∙ ap (λ (l : Lit). Some (l ∷ [])) (sym (same_Some lit proved.0 proved.1));
}
tells search goal lit left (Empty step) is g told found = found
tells search goal lit left Spent is g told spent = spent

says_later : (old new : Search) (goal : Goal) (lit : Lit) → HasGone old new → Says old.log.statements lit (said_of old.spec goal)
    → Says new.log.statements lit (said_of new.spec goal)
says_later old new goal lit gone told =
    subst (λ (statements : List Statement). Says statements lit (said_of new.spec goal)) (sym gone.statements)
    (subst (λ (s : Spec). Says old.log.statements lit (said_of s goal)) (sym gone.spec) told)

pub goal_later : (old new : Search) (goal : Goal) → HasGone old new → IsListGoalOn old.spec old.wanted goal
    → IsListGoalOn new.spec new.wanted goal
goal_later old new goal gone g =
    subst (λ (s : Spec). IsListGoalOn s new.wanted goal) (sym gone.spec)
    (subst (λ (w : Wanted). IsListGoalOn old.spec w goal) (sym gone.wanted) g)

pub tells_after : (old new : Search) (goal : Goal) (lit : Lit) (left : ℕ) (outcome : Outcome) → IsSearch new → HasGone old new
    → IsListGoalOn old.spec old.wanted goal → Says old.log.statements lit (said_of old.spec goal)
    → Tells new (Some lit) left outcome
    → TellsGoal new goal left outcome
tells_after old new goal lit left outcome is gone g told found =
    tells new goal lit left outcome is (goal_later old new goal gone g) (says_later old new goal lit gone told) found

-- ---- one after another

pub gone_none : (search : Search) → HasGone search search
gone_none search = record {
  spec = refl;
  posed = refl;
  wanted = refl;
  statements = refl;
  added = [];
  steps =
      sym (append_none search.log.steps);
}
  where
    append_none : (xs : List Step) → xs ++ [] ≡ xs
    append_none [] = refl
    append_none (x ∷ xs) = ap (λ (ys : List Step). x ∷ ys) (append_none xs)

pub gone_then : (old middle new : Search) → HasGone old middle → HasGone middle new → HasGone old new
gone_then old middle new one other = record {
  spec = other.spec ∙ one.spec;
  posed = other.posed ∙ one.posed;
  wanted = other.wanted ∙ one.wanted;
  statements = other.statements ∙ one.statements;
  added = one.added ++ other.added;
  steps = other.steps ∙ ap (λ (ss : List Step). ss ++ other.added) one.steps ∙ append_assoc old.log.steps one.added other.added;
}

pub proved_later : (old new : Search) (goal : Goal) (step : ℕ) → HasGone old new → IsProved old goal step → IsProved new goal step
proved_later old new goal step gone is = record {
  lit = is.lit;
  says = says_later old new goal is.lit gone is.says;
  is_unit =
      ap (λ (ss : List Step). slice_get (clauses_of ss) step) gone.steps
      ∙ ap (λ (cs : List (List Lit)). slice_get cs step) (map-append clause_of old.log.steps gone.added)
      ∙ at_front (clauses_of old.log.steps) (clauses_of gone.added) step (is.lit ∷ []) is.is_unit;
}

-- the steps of the first goals
pub proved_none : (search : Search) → AreProved search [] []
proved_none search = record { as_many = refl; each = λ k goal step at. let no : ⊥ = cc in absurd no }

pub proved_more : (old new : Search) (goals : List Goal) (steps : List ℕ) (goal : Goal) (step : ℕ) → HasGone old new
    → AreProved old goals steps
    → IsProved new goal step → AreProved new (goals ++ goal ∷ []) (steps ++ step ∷ [])
proved_more old new goals steps goal step gone were is = record {
  as_many = many;
  each = λ k g n at_goal at_step. pick k g n (at_push goals goal k g at_goal) (at_push steps step k n at_step);
}
  where
    many : length (steps ++ step ∷ []) ≡ length (goals ++ goal ∷ [])
    many = let a = length_push steps step in let b = length_push goals goal in let c = were.as_many in omega (arith, a, b, c)

    pick : (k : ℕ) (g : Goal) (n : ℕ) → (slice_get goals k ≡ Some g) ⊎ ((k ≡ length goals) × (goal ≡ g))
        → (slice_get steps k ≡ Some n) ⊎ ((k ≡ length steps) × (step ≡ n)) → IsProved new g n
    pick k g n (inl at_goal) (inl at_step) = proved_later old new g n gone (were.each k g n at_goal at_step)
    pick k g n (inr same_goal) (inr same_step) =
        subst (λ (x : Goal). IsProved new x n) same_goal.1 (subst (λ (x : ℕ). IsProved new goal x) same_step.1 is)
    pick k g n (inl at_goal) (inr same_step) =
        let below = slice_get_within goals k g at_goal in let c = were.as_many in absurd (omega (arith, below, same_step.0, c))
    pick k g n (inr same_goal) (inl at_step) =
        let below = slice_get_within steps k n at_step in let c = were.as_many in absurd (omega (arith, below, same_goal.0, c))

-- ---- results

pub if_ok : {A E : Type 0} (P Q : A → Type 0) → ((a : A) → P a → Q a) → (r : Result A E) → IfOk r P → IfOk r Q
if_ok P Q more (Ok a) p = more a p
if_ok P Q more (Err e) p = p

-- ---- goals that are decided

pub pair_decided : {E : Type 0} (old middle new : Search) (asked : Asked) (lit : Lit) (left : ℕ) → IsSearch new
    → HasGone old middle → HasGone middle new
    → IsAskedPair old.spec.relations asked → Says middle.log.statements lit (said_of middle.spec (Pair asked)) →
    (r : Result Outcome E)
    → IfOk r (Tells new (Some lit) left) → IfOk r (TellsGoal new (Pair asked) left)
pair_decided old middle new asked lit left is one other on says =
    if_ok (Tells new (Some lit) left) (TellsGoal new (Pair asked) left)
    (λ outcome found. tells_after middle new (Pair asked) lit left outcome is other
    (goal_later old middle (Pair asked) one on) says found)

pub current_decided : {E : Type 0} (old middle new : Search) (p : CurrentRow) (lit : Lit) (left : ℕ) → IsSearch new
    → HasGone old middle → HasGone middle new
    → IsCurrentGoal old.spec old.wanted p
    → ((r : Relation) → slice_get middle.spec.relations p.rel.0 ≡ Some r → Says middle.log.statements lit
    (last p.rel p.attr (name_of r.rows p.attr.0 p.row)))
    → (r : Result Outcome E) → IfOk r (Tells new (Some lit) left) → IfOk r (TellsGoal new (Current p) left)
current_decided old middle new p lit left is one other on says =
    let g : IsCurrentGoal middle.spec middle.wanted p = goal_later old middle (Current p) one on in
    let said = subst (λ (o : Option Relation). Says middle.log.statements lit
    (last p.rel p.attr (name_of (rows_at o) p.attr.0 p.row))) (sym g.is_relation)
    (says g.relation g.is_relation) in
    if_ok (Tells new (Some lit) left) (TellsGoal new (Current p) left)
    (λ outcome found. tells_after middle new (Current p) lit left outcome is other g said found)

-- ---- goals, one after another

pub decided_more : (before old new : Search) (goals : List Goal) (place : ℕ) (steps pushed : List ℕ) (goal : Goal)
    (step was now start : ℕ)
    → HasGone before old × (counted_steps old.log.steps + was ≡ start) × AreProved old (take place goals) steps → HasGone old new
    → counted_steps new.log.steps + now ≡ counted_steps old.log.steps + was → IsProved new goal step
    → slice_get goals place ≡ Some goal → pushed ≡ steps ++ step ∷ []
    → HasGone before new × (counted_steps new.log.steps + now ≡ start) × AreProved new (take (place + 1) goals) pushed
decided_more before old new goals place steps pushed goal step was now start so_far gone units is at push = (
  gone_then before old new so_far.0 gone,
  units ∙ so_far.1,
  subst (AreProved new (take (place + 1) goals)) (sym push)
      (subst (λ (gs : List Goal). AreProved new gs (steps ++ step ∷ [])) (sym (take_next goals place goal at))
      (proved_more old new (take place goals) steps goal step gone so_far.2 is)),
)

pub decided_proved : (search : Search) (goal : Goal) (left : ℕ) (outcome : Outcome) (step : ℕ) → outcome ≡ Proved step
    → TellsGoal search goal left outcome
    → IsProved search goal step
decided_proved search goal left outcome step e told = subst (TellsGoal search goal left) e told

-- a goal fails, once those before it were proved
pub failed_after : (old new : Search) (goals : List Goal) (place : ℕ) (steps : List ℕ) (goal : Goal) (left : ℕ)
    (outcome : Outcome) (truths : List Bool)
    (c : Rankings) → HasGone old new → AreProved old (take place goals) steps → slice_get goals place ≡ Some goal
    → outcome ≡ Model truths c
    → TellsGoal new goal left outcome → FailsAfter new goals place c
failed_after old new goals place steps goal left outcome truths c gone were at e told =
    let both = subst (TellsGoal new goal left) e told in
    record {
      fails = record { goal = goal; is_goal = at; consistent = both.0; fails = both.1 };
      steps = steps;
      proved = record {
        as_many = were.as_many;
        each = λ k g n at_goal at_step. proved_later old new g n gone (were.each k g n at_goal at_step);
      };
    }

-- Where every part is done, what is known is a model.
use Rattle.std.proofs.Common.{◌≡◌, ◌∙◌, ◌<◌, ℕ, true, List, [], ◌∷◌, All, Contains, Some, length, slice_get, refl, sym, ap, subst, arith}
use Rattle.std.proofs.lemmas.List.Elements.{All-head, All-map, All-nil, All-weaker}
use Rattle.std.proofs.lemmas.Option.{slice_get_within}
use Rattle.currency_base.specs.Literals.{var_of}
use Rattle.currency_base.specs.declared.lit.Lit.{Lit}
use Rattle.partial_orders.specs.Pairs.{entity_of}
use Rattle.spec_model.specs.Facts.{IsRuleOf, IsSpecification}
use Rattle.spec_model.specs.declared.relation.Relation.{Relation}
use Rattle.refutation_log.specs.Steps.{clause_of}
use Rattle.refutation_log.specs.declared.step.Label.{Label}
use Rattle.refutation_log.specs.declared.step.Label.TheVariants as label
use Rattle.refutation_log.specs.declared.step.Step.{Step}
use Rattle.order_literals.specs.Axioms.{IsAxiom}
use Rattle.order_literals.specs.Laws.{PairExcludes, SaidOfPairs}
use Rattle.order_literals.specs.Numbers.{Numbers}
use Rattle.order_literals.specs.Said.{IsClauseTrue, Said}
use Rattle.order_clauses.specs.Clauses.{AreAxioms, IsAsked, IsAskedStep, IsAxiomStep, IsSaidByOne}
use Rattle.order_clauses.proofs.Reading.{all_at, item_at}
use Rattle.order_adequacy.specs.Laws.{IsModelOf, ModelsAreCompletions, said_answers}
use Rattle.order_adequacy.proofs.Adequacy as adequacy
use Rattle.order_adequacy.proofs.OrderAxioms.{RulesByInstances}
use Rattle.completion_build.specs.Ranked.{IsRankedBy}
use Rattle.completion_build.specs.Sources.{Source}
use Rattle.completion_build.proofs.Tables.{is_source}
use Rattle.completion_build.proofs.Whole.{ranked_by}
use Rattle.entity_ties.specs.Labels.{cell, label_of}
use Rattle.entity_ties.specs.Tied.{IsCell}
use Rattle.variable_parts.proofs.Cells.{has_label, row_at, relation_is}
use Rattle.variable_parts.proofs.Staying.{list_there, steps_stay}
use Rattle.known_models.specs.Known.{IsKnown, IsParted, IsWhole, KnownModel, PartedSpec, numbers_in, variables_in, vars_in}

-- ---- parts that are there

-- an entity that is there is of a part that is there
record HasPart (p : PartedSpec) (rel ent : ℕ) : Type 0 where
  part : ℕ
  within : part < length p.parts
  of_part : label_of p.ties (cell rel ent) ≡ Some part

has_part : (p : PartedSpec) (n : Numbers) (rel ent : ℕ) (r : Relation) → IsParted n p → slice_get p.spec.relations rel ≡ Some r
    → ent < length r.entities → HasPart p rel ent
has_part p n rel ent r parted at within =
    let there : IsCell p.spec (cell rel ent) = record { relation = r; is_relation = at; within = within } in
    let label = has_label p.spec p.ties (cell rel ent) parted.ties there in
    let below = parted.ties.below (cell rel ent) label.0 label.1 in
    record { part = label.0; within = omega (arith, below, parted.parts.many); of_part = label.1 }

-- a part that is there is done
done_at : (p : PartedSpec) (k : KnownModel) (part : ℕ) → IsKnown p k → IsWhole k → part < length p.parts
    → slice_get k.done part ≡ Some true
done_at p k part known whole within =
    let here = item_at k.done part (omega (arith, known.per_part, within)) in
    here.1 ∙ ap Some (all_at (λ done. done ≡ true) k.done part here.0 whole here.1)

-- ---- the order of the rows

pub known_ranks : PairExcludes → SaidOfPairs → (p : PartedSpec) (n : Numbers) (k : KnownModel) → IsSpecification p.spec
    → IsParted n p → IsKnown p k → IsWhole k
    → IsRankedBy p.spec.relations (variables_in p) k.truths k.completion
known_ranks exclude pairs p n k is parted known whole =
    let s : Source = record { relations = p.spec.relations; numbers = numbers_in p; truths = k.truths } in
    ranked_by exclude pairs s (is_source p.spec.relations p.wanted (numbers_in p) k.truths refl known.per_variable)
    is.relations k.completion known.shape
    (λ rel attr ent r at attr_within ent_within.
    let has = has_part p n rel.0 ent r parted at ent_within in
    (known.each has.part (done_at p k has.part known whole has.within)).lists rel attr ent r
    (record { is_relation = at; attr_within = attr_within; of_part = has.of_part }))

-- ---- axioms

-- a list of which nothing is, and one that begins
nil_not_cons : {A : Type 0} (x : A) (xs zs : List A) → zs ≡ [] → zs ≡ x ∷ xs → ⊥
nil_not_cons x xs zs e f = absurd (omega (arith, ap length e, ap length f))

-- the clause of an axiom with no literal has nothing in it
none_said : (p : PartedSpec) (l : Label) (taken : Step) (step : IsAxiomStep p.spec (variables_in p) l [] taken) → step.clause ≡ []
none_said p l taken step = by step.clause step.are_lits.all
  where
    by : (clause : List Said) → All (IsSaidByOne (variables_in p) []) clause → clause ≡ []
    by [] all = refl
    by (said ∷ more) all =
        let one = All-head (IsSaidByOne (variables_in p) []) said more all in absurd (omega (arith, one.is_in.1))

-- where no part is, no axiom that is brought in has an empty clause
module _ (p : PartedSpec) (n : Numbers) (is : IsSpecification p.spec) (parted : IsParted n p) where
  -- a row of an entity is of a part
  row_part : (rel row ent : ℕ) (r : Relation) → slice_get p.spec.relations rel ≡ Some r → entity_of r.rows row ≡ Some ent
      → HasPart p rel ent
  row_part rel row ent r at of =
      let x = row_at r.rows row ent of in
      let facts = relation_is p.spec rel r is at in
      let below = all_at (λ row. row.entity.0 < length r.entities) r.rows row x.0 facts.entities x.1 in
      has_part p n rel ent r parted at (omega (arith, below, x.2))

  empty_has_part : (l : Label) (clause : List Said) → IsAxiom p.spec l clause → IsAsked p.spec p.wanted.currents l → clause ≡ []
      → 0 < length p.parts
  empty_has_part (label.Given rel attr earlier later) clause ax asked none = absurd (nil_not_cons _ _ clause none ax.2.1)
  empty_has_part (label.Transitive rel attr first second third) clause ax asked none = absurd asked
  empty_has_part (label.Rule k rows) clause ax asked none =
      let choice = ax.2.2.0 in
      let of = all_at (IsRuleOf p.spec.relations) p.spec.rules k.0 ax.0 is.rules.each ax.1 in
      let some = (of.fits).some_var in
      let first = item_at rows 0 (omega (arith, some, choice.one_each)) in
      let entity = all_at (λ row. entity_of (ax.2.0).rows row.0 ≡ Some choice.ent) rows 0 first.0 choice.of_entity first.1 in
      let has = row_part (ax.0).relation.0 (first.0).0 choice.ent ax.2.0 ax.2.1 entity in
      omega (arith, has.within)
  empty_has_part (label.Copy k place first second) clause ax asked none = absurd (nil_not_cons _ _ clause none ax.2.clause_is)
  empty_has_part (label.Above rel attr row other) clause ax asked none = absurd (nil_not_cons _ _ clause none ax.2.2)
  empty_has_part (label.Top rel attr row) clause ax asked none = absurd (nil_not_cons _ _ clause none ax.2.3)
  empty_has_part (label.Last rel attr row) clause ax asked none = absurd (nil_not_cons _ _ clause none ax.2.2)
  empty_has_part (label.Value rel attr row) clause ax asked none = absurd (nil_not_cons _ _ clause none ax.2.3)
  empty_has_part (label.Match disjunct entities values) clause ax asked none = absurd asked

-- each axiom that is brought in is true
asked_true : (p : PartedSpec) (n : Numbers) (k : KnownModel) → IsSpecification p.spec → IsParted n p → IsKnown p k → IsWhole k
    → (l : Label) (lits : List Lit) (taken : Step) → IsAxiomStep p.spec (variables_in p) l lits taken
    → IsAsked p.spec p.wanted.currents l → IsClauseTrue k.truths lits
asked_true p n k is parted known whole l [] taken step asked =
    let some = empty_has_part p n is parted l step.clause step.is_axiom asked (none_said p l taken step) in
    (known.each 0 (done_at p k 0 known whole some)).axioms []
    (record {
      label = l;
      taken = taken;
      step = step;
      asked = asked;
      within = All-nil (λ lit. Contains (vars_in p 0) (var_of lit));
    })
asked_true p n k is parted known whole l (lit ∷ lits) taken step asked =
    let stand = steps_stay p.spec p.wanted p.ties p.parts l (lit ∷ lits) taken is parted.ties parted.parts step in
    let first = All-head (λ lit. Contains (vars_in p stand.part) (var_of lit)) lit lits stand.each in
    let within = slice_get_within p.parts stand.part (vars_in p stand.part) (list_there p.parts stand.part (var_of lit) first) in
    (known.each stand.part (done_at p k stand.part known whole within)).axioms (lit ∷ lits)
    (record { label = l; taken = taken; step = step; asked = asked; within = stand.each })

-- ---- the model

pub known_is_model : PairExcludes → SaidOfPairs → ModelsAreCompletions → (p : PartedSpec) (n : Numbers) (k : KnownModel)
    (steps : List Step) → IsSpecification p.spec → IsParted n p
    → AreAxioms p.spec p.wanted.currents (variables_in p) steps → IsKnown p k → IsWhole k
    → IsModelOf p.spec p.wanted k.truths k.completion
known_is_model exclude pairs models p n k steps is parted are known whole =
    models p.spec p.wanted is steps are k.truths known.per_variable
    (All-map (IsClauseTrue k.truths) clause_of steps
    (All-weaker (IsAskedStep p.spec p.wanted.currents (variables_in p)) (λ taken. IsClauseTrue k.truths (clause_of taken))
    (λ taken asked.
    subst (λ (x : Step). IsClauseTrue k.truths (clause_of x)) (sym asked.step.is_step)
    (asked_true p n k is parted known whole asked.label asked.lits taken asked.step asked.asked))
    steps are.each))
    k.completion (known_ranks exclude pairs p n k is parted known whole)

pub known_makes_true : RulesByInstances → PairExcludes → SaidOfPairs → ModelsAreCompletions → (p : PartedSpec) (n : Numbers)
    (k : KnownModel) (steps : List Step) → IsSpecification p.spec → IsParted n p
    → AreAxioms p.spec p.wanted.currents (variables_in p) steps → IsKnown p k → IsWhole k
    → (l : Label) (lits : List Lit) (taken : Step) → IsAxiomStep p.spec (variables_in p) l lits taken
    → IsClauseTrue k.truths lits
known_makes_true by_instances exclude pairs models p n k steps is parted are known whole l lits taken step =
    let model = known_is_model exclude pairs models p n k steps is parted are known whole in
    adequacy.truths_are_models by_instances (said_answers p.spec p.wanted k.truths) p.spec p.wanted is k.completion
    model.consistent k.truths model.truth l lits taken step

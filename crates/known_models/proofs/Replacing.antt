-- A part that is made anew, and what becomes of the others.
use Rattle.std.proofs.Common.{◌≡◌, ◌≢◌, ◌∙◌, ◌<◌, ◌⊎◌, ℕ, Bool, true, not, List, [], All, Contains, Option, Some, get_or, length, slice_get, slice_set, refl, sym, ap, subst, inl, inr, ⊎_elim, arith}
use Rattle.std.proofs.lemmas.Bool.{cases_eq}
use Rattle.std.proofs.lemmas.List.{length-set}
use Rattle.std.proofs.lemmas.List.Elements.{All-contains, All-weaker}
use Rattle.std.proofs.lemmas.Option.{get_or_from_slice_get, same_Some, slice_get-get_or, slice_get_within}
use Rattle.currency_base.specs.Literals.{is_negative, var_of}
use Rattle.currency_base.specs.declared.ids.AttrId.{AttrId}
use Rattle.currency_base.specs.declared.ids.RelId.{RelId}
use Rattle.currency_base.specs.declared.ids.RowId.{RowId}
use Rattle.currency_base.specs.declared.lit.Lit.{Lit}
use Rattle.partial_orders.specs.Pairs.{entity_of}
use Rattle.spec_model.specs.Completion.{Rankings, HasShape, ranking_of}
use Rattle.spec_model.specs.declared.relation.Relation.{Relation}
use Rattle.order_literals.specs.Laws.{PairExcludes}
use Rattle.order_literals.specs.Said.{IsClauseTrue, before}
use Rattle.completion_build.specs.Contests.{Puts}
use Rattle.completion_build.specs.Judged.{IsOrdered}
use Rattle.completion_build.specs.Places.{contest_of}
use Rattle.completion_build.specs.Ranked.{HasCycle, IsCycle, IsOfOne}
use Rattle.completion_build.specs.declared.built.Cycle.{Cycle}
use Rattle.completion_build.proofs.Leading.{contained, entity_is, no_cycle}
use Rattle.entity_ties.specs.Labels.{cell, label_of}
use Rattle.variable_parts.specs.Parts.{label_at, part_of}
use Rattle.variable_parts.proofs.Cells.{cell_at}
use Rattle.variable_parts.proofs.Staying.{disjoint, in_list, said_part, var_of_part}
use Rattle.known_models.specs.declared.draft.Draft.{Draft}
use Rattle.known_models.specs.declared.draft.RankedList.{RankedList}
use Rattle.known_models.specs.Changes.{AreBelied, AreModelOf, IsReplaced, IsTrueBy, Takes}
use Rattle.known_models.specs.Known.{IsKnown, IsListIn, IsParted, IsRightOn, KnownModel, PartedSpec, numbers_in, variables_in, vars_in}
use Rattle.known_models.specs.Ranked.{ArePut, FindsPart, HasFound, HaveRoom, IsAmong, IsCycleIn, IsPlaceIn, IsRankedIn}
use Rattle.known_models.proofs.Finding.{there}
use Rattle.known_models.proofs.Putting.{get_other}

-- ---- truths

-- what is true by the values is true under the truths that took them
true_by : (vars : List ℕ) (given : List (Option Bool)) (old new : List Bool) (lits : List Lit) → Takes vars given old new
    → All (λ lit. Contains vars (var_of lit)) lits → IsTrueBy given lits → IsClauseTrue new lits
true_by vars given old new lits takes within is = record {
  lit = is.lit;
  is_in = is.is_in;
  is_true = takes.taken (var_of is.lit) (not (is_negative is.lit))
      (All-contains (λ lit. Contains vars (var_of lit)) lits is.lit within is.is_in) is.is_true;
}

-- a variable of another part has the truth that it had
kept_there : (p : PartedSpec) → IsParted (numbers_in p) p → (part other : ℕ) → (other ≡ part → ⊥) → (given : List (Option Bool))
    → (old new : List Bool) → Takes (vars_in p part) given old new → (var : ℕ) → Contains (vars_in p other) var
    → slice_get new var ≡ slice_get old var
kept_there p parted part other differ given old new takes var has =
    takes.kept var (λ here.
    differ (disjoint p.spec (variables_in p) p.ties p.parts other part var parted.parts has here))

-- where no truth of a part changes, what was right on it is
module _ (p : PartedSpec) (parted : IsParted (numbers_in p) p) (other : ℕ) (old new : List Bool)
    (same : (var : ℕ) → Contains (vars_in p other) var → slice_get new var ≡ slice_get old var) where
  pub still_true : (lits : List Lit) → All (λ lit. Contains (vars_in p other) (var_of lit)) lits → IsClauseTrue old lits
      → IsClauseTrue new lits
  still_true lits within is = record {
    lit = is.lit;
    is_in = is.is_in;
    is_true = same (var_of is.lit) (All-contains (λ lit. Contains (vars_in p other) (var_of lit)) lits
        is.lit within is.is_in)
        ∙ is.is_true;
  }

  -- rows of another part stand as they stood
  still_put : (rel : RelId) (attr : AttrId) (ent : ℕ) (r : Relation) → IsListIn p other rel attr ent r → (t u : RowId)
      → entity_of r.rows t.0 ≡ Some ent → Puts (contest_of (numbers_in p) old rel attr r ent) t u
      → Puts (contest_of (numbers_in p) new rel attr r ent) t u
  still_put rel attr ent r is t u of put =
      let about : part_of p.ties p.spec.relations (before rel attr t u).statement ≡ Some other =
      ap (label_at p.ties) (cell_at p.spec.relations rel.0 t.0 r ent is.is_relation of) ∙ is.of_part in
      let var = said_part p.spec p.wanted p.ties put.lit (before rel attr t u) other put.says about in
      let has = in_list p.spec (variables_in p) p.ties p.parts parted.parts parted.ties other (var_of put.lit) var in
      record { lit = put.lit; says = put.says; is_true = same (var_of put.lit) has ∙ put.is_true }

  pub still_ordered : (rel : RelId) (attr : AttrId) (ent : ℕ) (r : Relation) (list : List RowId) → IsListIn p other rel attr ent r
      → IsOrdered (contest_of (numbers_in p) old rel attr r ent) list
      → IsOrdered (contest_of (numbers_in p) new rel attr r ent) list
  still_ordered rel attr ent r list is ordered = record {
    only = ordered.only;
    all = ordered.all;
    once = ordered.once;
    put = λ low high t u below at_t at_u.
        still_put rel attr ent r is t u (entity_is r.rows ent t (ordered.only t (contained list low t at_t)))
        (ordered.put low high t u below at_t at_u);
  }

-- ---- variables of the part

-- what holds of each item holds of all
pub all_of : {A : Type 0} (P : A → Type 0) (xs : List A) → ((x : A) → Contains xs x → P x) → All P xs
all_of P xs each k d within =
    let x = get_or xs k d in
    each x (k, within, get_or_from_slice_get xs k x x (slice_get-get_or xs k d within))

-- the variables of a part are there
pub vars_within : (p : PartedSpec) (part many : ℕ) → IsParted (numbers_in p) p → many ≡ length (variables_in p)
    → All (λ var. var < many) (vars_in p part)
vars_within p part many parted long =
    all_of (λ var. var < many) (vars_in p part) (λ var has.
    let of = var_of_part p.spec (variables_in p) p.ties p.parts parted.parts part var has in
    omega (arith, slice_get_within (variables_in p) var of.statement of.is_statement, long))

-- ---- lists of the part

-- an order that was found at the place of a list is that of the list
list_ordered : (p : PartedSpec) (part : ℕ) (truths : List Bool) (l : RankedList) (rel : RelId) (attr : AttrId)
    (ent : ℕ) (r : Relation)
    → l.rel.0 ≡ rel.0 → l.attr.0 ≡ attr.0 → l.ent.0 ≡ ent → slice_get p.spec.relations rel.0 ≡ Some r
    → IsRankedIn p part truths l → IsOrdered (contest_of (numbers_in p) truths rel attr r ent) l.rows
list_ordered p part truths l rel attr ent r rel_is attr_is ent_is at ranked =
    let same_rel : l.rel ≡ rel = ap (λ (n : ℕ). let x : RelId = record { 0 = n } in x) rel_is in
    let same_attr : l.attr ≡ attr = ap (λ (n : ℕ). let x : AttrId = record { 0 = n } in x) attr_is in
    let same : ranked.relation ≡ r =
    same_Some ranked.relation r (sym ranked.is_list.is_relation ∙ (ap (slice_get p.spec.relations) rel_is ∙ at)) in
    rw (← same_rel, ← same_attr, ← ent_is, ← same) ranked.ordered

module _ (p : PartedSpec) (part : ℕ) (truths : List Bool) (d : Draft) (finds : FindsPart p part truths d) where
  -- the rows of a list that was found to have an order
  among_ordered : (rel : RelId) (attr : AttrId) (ent : ℕ) (r : Relation) → slice_get p.spec.relations rel.0 ≡ Some r
      → (is : IsAmong d.lists rel.0 attr.0 ent) → IsOrdered (contest_of (numbers_in p) truths rel attr r ent) (is.list).rows
  among_ordered rel attr ent r at is =
      list_ordered p part truths is.list rel attr ent r is.rel_is is.attr_is is.ent_is at
      (All-contains (IsRankedIn p part truths) d.lists is.list finds.found.lists is.is_in)

  -- where no list goes round, each has an order
  all_among : d.cycles ≡ [] → (rel : RelId) (attr : AttrId) (ent : ℕ) (r : Relation) → IsListIn p part rel attr ent r
      → IsAmong d.lists rel.0 attr.0 ent
  all_among none rel attr ent r is =
      ⊎_elim (λ (h : IsAmong d.lists rel.0 attr.0 ent). h)
      (λ (h : IsOfOne d.cycles rel.0 attr.0 ent).
      let nothing : Contains [] h.cycle = subst (λ (cycles : List Cycle). Contains cycles h.cycle) none h.is_in in
      absurd (omega (arith, nothing.1)))
      (finds.each rel attr ent r is)

  -- the lists are put where the part's lists stand
  module _ (c new : Rankings) (put : ArePut d.lists c new) where
    list_right : d.cycles ≡ [] → (rel : RelId) (attr : AttrId) (ent : ℕ) (r : Relation) → IsListIn p part rel attr ent r
        → IsOrdered (contest_of (numbers_in p) truths rel attr r ent) (ranking_of new rel.0 attr.0 ent)
    list_right none rel attr ent r is =
        let has = put.put rel.0 attr.0 ent (all_among none rel attr ent r is) in
        subst (IsOrdered (contest_of (numbers_in p) truths rel attr r ent)) (sym has.rows_are)
        (list_ordered p part truths has.list rel attr ent r has.rel_is has.attr_is has.ent_is is.is_relation
        (All-contains (IsRankedIn p part truths) d.lists has.list finds.found.lists has.is_in))

    -- and nowhere else
    list_kept : (rel attr ent : ℕ) → (label_of p.ties (cell rel ent) ≡ Some part → ⊥)
        → ranking_of new rel attr ent ≡ ranking_of c rel attr ent
    list_kept rel attr ent out =
        put.kept rel attr ent (λ is.
        let ranked = All-contains (IsRankedIn p part truths) d.lists is.list finds.found.lists is.is_in in
        let of : label_of p.ties (cell (is.list).rel.0 (is.list).ent.0) ≡ Some part = ranked.is_list.of_part in
        out (rw (← is.rel_is, ← is.ent_is) of))

-- rankings have room for what was found
pub found_room : (p : PartedSpec) (part : ℕ) (truths : List Bool) (d : Draft) (c : Rankings) → IsParted (numbers_in p) p
    → FindsPart p part truths d → HasShape p.spec.relations c → HaveRoom c d.lists
found_room p part truths d c parted finds shape = record {
  relations = p.spec.relations;
  shape = shape;
  places = All-weaker (IsRankedIn p part truths) (IsPlaceIn p.spec.relations)
      (λ l ranked.
      let is = there p l.rel.0 l.ent.0 part parted.ties ranked.is_list.of_part in
      let same : is.relation ≡ ranked.relation =
      same_Some is.relation ranked.relation (sym is.is_relation ∙ ranked.is_list.is_relation) in
      record {
        relation = ranked.relation;
        is_relation = ranked.is_list.is_relation;
        attr_within = ranked.is_list.attr_within;
        ent_within = subst (λ (r : Relation). l.ent.0 < length r.entities) same is.within;
      })
      d.lists finds.found.lists;
}

-- ---- the part is done

-- the model with truths, an order of the rows, and one more part that is done
abbrev pub with_part : KnownModel → List Bool → Rankings → ℕ → KnownModel
with_part k truths c part = record { truths = truths; completion = c; done = slice_set k.done part true }

module _ (p : PartedSpec) (parted : IsParted (numbers_in p) p) (k : KnownModel) (known : IsKnown p k) (part : ℕ)
    (given : List (Option Bool)) (values : AreModelOf p given part) (truths : List Bool)
    (takes : Takes (vars_in p part) given k.truths truths) (d : Draft) (finds : FindsPart p part truths d) where
  module _ (none : d.cycles ≡ []) (c : Rankings) (put : ArePut d.lists k.completion c) where
    right_here : IsRightOn p truths c part
    right_here = record {
      axioms = λ lits is. true_by (vars_in p part) given k.truths truths lits takes is.within (values.axioms lits is);
      lists = λ rel attr ent r is. list_right p part truths d finds k.completion c put none rel attr ent r is;
    }

    right_there : (other : ℕ) → (other ≡ part → ⊥) → IsRightOn p k.truths k.completion other → IsRightOn p truths c other
    right_there other differ right = record {
      axioms = λ lits is.
          still_true p parted other k.truths truths (kept_there p parted part other differ given k.truths truths takes) lits
          is.within (right.axioms lits is);
      lists = λ rel attr ent r is.
          subst (IsOrdered (contest_of (numbers_in p) truths rel attr r ent))
          (sym (list_kept p part truths d finds k.completion c put rel.0 attr.0 ent
          (λ of. differ (same_Some other part (sym is.of_part ∙ of)))))
          (still_ordered p parted other k.truths truths (kept_there p parted part other differ given k.truths truths takes) rel
          attr ent r
          (ranking_of k.completion rel.0 attr.0 ent) is (right.lists rel attr ent r is));
    }

    right_each : (other : ℕ) → slice_get (slice_set k.done part true) other ≡ Some true → (other ≡ part) ⊎ (other ≡ part → ⊥)
        → IsRightOn p truths c other
    right_each other is (inl same) = subst (IsRightOn p truths c) (sym same) right_here
    right_each other is (inr differ) =
        right_there other differ (known.each other (sym (get_other k.done part other true differ) ∙ is))

    pub replaced : IsReplaced p given part k (with_part k truths c part)
    replaced = record {
      known = record {
        per_variable = takes.many ∙ known.per_variable;
        shape = put.shape p.spec.relations known.shape;
        per_part = length-set k.done part true ∙ known.per_part;
        each = λ other is. right_each other is (cases_eq other part);
      };
      truths = takes;
      done = refl;
      others = λ rel attr ent out. list_kept p part truths d finds k.completion c put rel attr ent out;
    }

  -- ---- lists of it go round

  module _ (exclude : PairExcludes) where
    has_cycle : (rel : RelId) (attr : AttrId) (ent : ℕ) (r : Relation) → IsListIn p part rel attr ent r
        → HasCycle (variables_in p) truths rel attr r ent → HasFound d rel.0 attr.0 ent → IsOfOne d.cycles rel.0 attr.0 ent
    has_cycle rel attr ent r is cycle (inl among) =
        absurd (no_cycle exclude (numbers_in p) truths rel attr r ent (among.list).rows
        (among_ordered p part truths d finds rel attr ent r is.is_relation among) cycle)
    has_cycle rel attr ent r is cycle (inr of) = of

    pub belied : d.cycles ≢ [] → AreBelied p given part k d.cycles
    belied some = record {
      truths = truths;
      takes = takes;
      round = record {
        some = some;
        each = All-weaker (IsCycleIn p part truths) (IsCycle p.spec.relations (variables_in p) truths) (λ c is. is.is_cycle)
            d.cycles finds.found.cycles;
        of_part = All-weaker (IsCycleIn p part truths) (λ c. label_of p.ties (cell c.rel.0 c.ent.0) ≡ Some
            part) (λ c is. is.of_part)
            d.cycles finds.found.cycles;
        all = λ rel attr ent r is cycle. has_cycle rel attr ent r is cycle (finds.each rel attr ent r is);
      };
    }

-- the same, where truths and parts that are done are told by equations
pub replaced_as : (p : PartedSpec) (given : List (Option Bool)) (part : ℕ) (k : KnownModel) (truths now : List
    Bool) (c : Rankings)
    (done : List Bool) → now ≡ truths → done ≡ slice_set k.done part true → IsReplaced p given part k (with_part k truths c part)
    → IsReplaced p given part k (record { truths = now; completion = c; done = done })
replaced_as p given part k truths now c done truths_are done_is is = rw (truths_are, done_is) is

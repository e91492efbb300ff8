-- What stands at a place: the relation of a statement, its lists in the index, and the step that is at fault or is not.
use Rattle.std.proofs.Common.{◌≡◌, refl, subst, ◌+◌, ℕ, zero, suc, true, false, nat_lt, List, [], ◌∷◌, length, drop, Some, None, slice_get, arith}
use Rattle.std.specs.List.{list_all}
use Rattle.std.proofs.lemmas.List.Elements.{All-get_or}
use Rattle.std.proofs.lemmas.Option.{get_or_from_slice_get, slice_get_within}
use Rattle.currency_base.specs.Literals.{var_of}
use Rattle.currency_base.specs.declared.ids.AttrId.{AttrId}
use Rattle.currency_base.specs.declared.ids.RelId.{RelId}
use Rattle.currency_base.specs.declared.ids.RowId.{RowId}
use Rattle.currency_base.specs.declared.lit.Lit.{Lit}
use Rattle.entity_rows.specs.Members.{AreEntityRows}
use Rattle.refutation_log.specs.Steps.{clause_of, clauses_of}
use Rattle.refutation_log.specs.declared.step.Step.{Step}
use Rattle.spec_model.specs.Facts.{IsRelation, AreRelations}
use Rattle.spec_model.specs.declared.relation.Relation.{Relation}
use Rattle.log_form.specs.Form.{rows_of, is_first_alike, is_step_within, steps_fault}
use Rattle.log_form.specs.Indexed.{AreIndexed}
use Rattle.log_form.specs.declared.form.FormFault.TheVariants as fault

-- the relation at a place keeps what relations keep
pub relation_facts : (relations : List Relation) (rel : ℕ) (r : Relation) → AreRelations relations
    → slice_get relations rel ≡ Some r → IsRelation r
relation_facts relations rel r are at =
    subst IsRelation (get_or_from_slice_get relations rel r r at)
    (All-get_or IsRelation relations rel r (slice_get_within relations rel r at) are.each)

-- the lists of a relation
pub indexed_at : (relations : List Relation) (index : List (List (List RowId))) (rel : ℕ) (lists : List (List RowId))
    (r : Relation)
    → AreIndexed relations index → slice_get index rel ≡ Some lists → slice_get relations rel ≡ Some r
    → AreEntityRows r.rows (length r.entities) lists
indexed_at relations index rel lists r are at here =
    subst (AreEntityRows r.rows (length r.entities)) (get_or_from_slice_get index rel lists [] at) (are.each rel r here)

-- a row of a relation that is there is judged by the relation's rows
pub alike_some : (relations : List Relation) (rel : RelId) (attr : AttrId) (row : RowId) (r : Relation)
    → slice_get relations rel.0 ≡ Some r
    → is_first_alike (rows_of relations rel) attr.0 row ≡ is_first_alike r.rows attr.0 row
alike_some relations rel attr row r at = rw at refl

-- a relation that is not there has no row, so that none is judged
pub alike_none : (relations : List Relation) (rel : RelId) (attr : AttrId) (row : RowId) → slice_get relations rel.0 ≡ None
    → is_first_alike (rows_of relations rel) attr.0 row ≡ true
alike_none relations rel attr row at = rw at refl

-- what is left of the steps from a place on begins with the step there, whose literals these are
pub steps_more : (n : ℕ) (steps : List Step) (i : ℕ) (lits : List Lit) → slice_get (clauses_of steps) i ≡ Some lits
    → list_all (λ lit. nat_lt (var_of lit) n) lits ≡ true → steps_fault n i (drop i steps) ≡ steps_fault n (i + 1)
    (drop (i + 1) steps)
steps_more n steps i lits at all =
    let next : suc i ≡ i + 1 = omega arith in
    subst (λ k. steps_fault n i (drop i steps) ≡ steps_fault n (i + 1) (drop k steps)) next (by n i lits steps i at all)
  where
    by : (n at : ℕ) (lits : List Lit) (steps : List Step) (k : ℕ) → slice_get (clauses_of steps) k ≡ Some lits
        → list_all (λ lit. nat_lt (var_of lit) n) lits ≡ true → steps_fault n at (drop k steps) ≡ steps_fault n
        (at + 1) (drop (suc k) steps)
    by n at lits [] k e all = cc
    by n at lits (step ∷ steps) zero e all =
        let is : lits ≡ clause_of step = cc in
        let passes : is_step_within n step ≡ true = subst (λ l. list_all (λ lit. nat_lt (var_of lit) n) l ≡ true) is
        all in rw passes refl
    by n at lits (step ∷ steps) (suc k) e all = by n at lits steps k e all

-- the step at a place, whose literals these are, is the first at fault of those from there on
pub steps_stop : (n : ℕ) (steps : List Step) (i : ℕ) (lits : List Lit) → slice_get (clauses_of steps) i ≡ Some lits
    → list_all (λ lit. nat_lt (var_of lit) n) lits ≡ false → steps_fault n i (drop i steps) ≡ Some (fault.Step i)
steps_stop n steps i lits at some = by n i lits steps i at some
  where
    by : (n at : ℕ) (lits : List Lit) (steps : List Step) (k : ℕ) → slice_get (clauses_of steps) k ≡ Some lits
        → list_all (λ lit. nat_lt (var_of lit) n) lits ≡ false → steps_fault n at (drop k steps) ≡ Some (fault.Step at)
    by n at lits [] k e some = cc
    by n at lits (step ∷ steps) zero e some =
        let is : lits ≡ clause_of step = cc in
        let fails : is_step_within n step ≡ false = subst (λ l. list_all (λ lit. nat_lt (var_of lit) n) l ≡ false) is
        some in rw fails refl
    by n at lits (step ∷ steps) (suc k) e some = by n at lits steps k e some

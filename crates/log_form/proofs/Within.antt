-- The literals of steps without fault are of the statements.
use Rattle.std.proofs.Common.{◌≡◌, refl, ◌<◌, ◌+◌, ◌&&◌, ℕ, Bool, true, false, nat_lt, if◌then◌else◌, List, [], ◌∷◌, length, All, Option, Some, None}
use Rattle.std.specs.List.{list_all}
use Rattle.std.proofs.lemmas.Bool.{ltb-true}
use Rattle.std.proofs.lemmas.List.Elements.{All-nil, All-cons}
use Rattle.currency_base.specs.Literals.{var_of}
use Rattle.currency_base.specs.declared.lit.Lit.{Lit}
use Rattle.refutation_log.specs.Counted.{AreWithin}
use Rattle.refutation_log.specs.Steps.{clause_of}
use Rattle.refutation_log.specs.declared.log.Log.{Log}
use Rattle.refutation_log.specs.declared.step.Step.{Step}
use Rattle.spec_model.specs.declared.relation.Relation.{Relation}
use Rattle.log_form.specs.Form.{is_step_within, steps_fault, statements_fault, or_else, first_fault}
use Rattle.log_form.specs.declared.form.FormFault.{FormFault}
use Rattle.log_form.specs.declared.form.FormFault.TheVariants as fault

-- both tests of two are true
both : (a b : Bool) → (a && b) ≡ true → (a ≡ true) × (b ≡ true)
both true b e = (refl, e)
both false b e = cc

-- literals that pass the test are of so many statements
lits_within : (n : ℕ) (lits : List Lit) → list_all (λ lit. nat_lt (var_of lit) n) lits ≡ true → All (λ lit. var_of lit < n) lits
lits_within n [] e = All-nil (λ lit. var_of lit < n)
lits_within n (lit ∷ lits) e =
    let h = both (nat_lt (var_of lit) n) (list_all (λ lit. nat_lt (var_of lit) n) lits) e in
    All-cons (λ lit. var_of lit < n) lit lits (ltb-true (var_of lit) n h.0) (lits_within n lits h.1)

-- where a choice between another fault and this one is none, the test is true and the other is none
not_this : (b : Bool) (other : Option FormFault) (this : FormFault) → (if b then other else Some this) ≡ None →
    (b ≡ true) × (other ≡ None)
not_this true other this e = (refl, e)
not_this false other this e = cc

-- steps without fault are within
steps_within : (n at : ℕ) (steps : List Step) → steps_fault n at steps ≡ None → AreWithin n steps
steps_within n at [] e = All-nil (λ step. All (λ lit. var_of lit < n) (clause_of step))
steps_within n at (step ∷ steps) e =
    let h = not_this (is_step_within n step) (steps_fault n (at + 1) steps) (fault.Step at) e in
    All-cons (λ step. All (λ lit. var_of lit < n) (clause_of step)) step steps (lits_within n (clause_of step) h.0)
    (steps_within n (at + 1) steps h.1)

-- without one fault or another, there is no other
no_other : (one other : Option FormFault) → or_else one other ≡ None → other ≡ None
no_other (Some f) other e = cc
no_other None other e = e

-- the literals of a well-formed log are of its statements
pub form_within : (relations : List Relation) (log : Log) → first_fault relations log ≡ None
    → AreWithin (length log.statements) log.steps
form_within relations log e =
    steps_within (length log.statements) 0 log.steps
    (no_other (statements_fault relations log.answers 0 None log.statements) (steps_fault (length log.statements) 0 log.steps) e)

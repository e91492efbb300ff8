-- The literals of an axiom, and those of the step that says it, are the same.
use Rattle.std.proofs.Common.{◌≡◌, ℕ, zero, suc, Bool, List, [], ◌∷◌, All, Contains, Option, length, sym, ap, subst, arith}
use Rattle.std.proofs.lemmas.List.Elements.{All-contains, Contains-append_right}
use Rattle.currency_base.specs.Literals.{var_of}
use Rattle.currency_base.specs.declared.lit.Lit.{Lit}
use Rattle.refutation_log.specs.Steps.{clause_of, clauses_of}
use Rattle.refutation_log.specs.declared.step.Label.{Label}
use Rattle.refutation_log.specs.declared.step.Step.{Step}
use Rattle.refutation_log.specs.declared.step.Step.TheVariants as step
use Rattle.order_literals.specs.Axioms.{IsAxiom}
use Rattle.order_literals.specs.Laws.{OneLiteral}
use Rattle.order_literals.specs.Said.{Said}
use Rattle.order_clauses.specs.Clauses.{AreAxioms, AreLits, IsAskedStep, IsSaidByOne, SaysOneOf}
use Rattle.order_adequacy.proofs.OneClause.{one_clause}
use Rattle.known_models.specs.Changes.{AreModelOf, HasValue, IsTrueBy}
use Rattle.known_models.specs.Known.{IsAxiomIn, PartedSpec, numbers_in, variables_in, vars_in}
use Rattle.known_models.proofs.Replacing.{all_of}

same_step : (l m : Label) (lits others : List Lit) → step.Axiom l lits ≡ step.Axiom m others → (l ≡ m) × (lits ≡ others)
same_step l m lits others e =
    let labels : l ≡ m = cc in
    let literals : lits ≡ others = cc in
    (labels, literals)

-- what stands among steps has its clause among theirs
listed : (steps : List Step) (taken : Step) → Contains steps taken → Contains (clauses_of steps) (clause_of taken)
listed [] taken has = absurd (omega (arith, has.1))
listed (s ∷ steps) taken (zero, within, is) = (0, omega arith, ap clause_of is)
listed (s ∷ steps) taken (suc at, within, is) =
    Contains-append_right (clause_of s ∷ []) (clauses_of steps) (clause_of taken)
    (listed steps taken (at, omega (arith, within), is))

-- two lists of literals that say a clause have the same literals
same_lits : OneLiteral → (p : PartedSpec) (clause : List Said) (a b : List Lit) → AreLits (variables_in p) clause a
    → AreLits (variables_in p) clause b → (lit : Lit) → Contains a lit → Contains b lit
same_lits one p clause a b says_a says_b lit has =
    let said = All-contains (SaysOneOf (variables_in p) clause) a lit says_a.each has in
    let other = All-contains (IsSaidByOne (variables_in p) b) clause said.said says_b.all said.is_in in
    subst (Contains b) (one (numbers_in p) other.lit lit said.said other.says said.says) other.is_in

pub values_are_models : OneLiteral → (p : PartedSpec) (part : ℕ) (given : List (Option Bool)) (steps : List Step)
    → AreAxioms p.spec p.wanted.currents (variables_in p) steps → length given ≡ length (variables_in p)
    → All (HasValue given) (vars_in p part)
    → ((lits : List Lit) → Contains (clauses_of steps) lits → All (λ lit. Contains (vars_in p part) (var_of lit)) lits
    → IsTrueBy given lits) → AreModelOf p given part
values_are_models one p part given steps are long each true_steps = record {
  per_variable = long;
  each = each;
  axioms = axioms;
}
  where
    axioms : (lits : List Lit) → IsAxiomIn p part lits → IsTrueBy given lits
    axioms lits is =
        let l = is.label in
        let clause = is.step.clause in
        let stands = are.all l clause is.step.is_axiom is.asked in
        let asked : IsAskedStep p.spec p.wanted.currents (variables_in p) (step.Axiom l stands.lits) =
        All-contains (IsAskedStep p.spec p.wanted.currents (variables_in p)) steps (step.Axiom l stands.lits) are.each
        stands.is_in in
        let same = same_step l asked.label stands.lits asked.lits asked.step.is_step in
        let clauses : asked.step.clause ≡ clause =
        one_clause p.spec l asked.step.clause clause
        (subst (λ (m : Label). IsAxiom p.spec m asked.step.clause) (sym same.0) asked.step.is_axiom) is.step.is_axiom in
        let says : AreLits (variables_in p) clause stands.lits =
        subst (λ (c : List Said). AreLits (variables_in p) c stands.lits) clauses
        (subst (λ (ls : List Lit). AreLits (variables_in p) asked.step.clause ls) (sym same.1) asked.step.are_lits) in
        let within : All (λ lit. Contains (vars_in p part) (var_of lit)) stands.lits =
        all_of (λ lit. Contains (vars_in p part) (var_of lit)) stands.lits (λ lit has.
        All-contains (λ lit. Contains (vars_in p part) (var_of lit)) lits lit is.within
        (same_lits one p clause stands.lits lits says is.step.are_lits lit has)) in
        let found = true_steps stands.lits (listed steps (step.Axiom l stands.lits) stands.is_in) within in
        record {
          lit = found.lit;
          is_in = same_lits one p clause stands.lits lits says is.step.are_lits found.lit found.is_in;
          is_true = found.is_true;
        }

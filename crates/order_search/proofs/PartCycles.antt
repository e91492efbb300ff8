-- Lists of a part that go round: the clauses on them are clauses of the part.
use Rattle.std.proofs.Common.{◌≡◌, ◌⊎◌, ◌∙◌, ℕ, Bool, List, All, Contains, Option, Some, ap, subst, inl, inr}
use Rattle.std.proofs.lemmas.List.Elements.{All-weaker}
use Rattle.currency_base.specs.Literals.{var_of}
use Rattle.currency_base.specs.declared.lit.Lit.{Lit}
use Rattle.refutation_log.specs.declared.statement.Statement.TheVariants as says
use Rattle.order_literals.proofs.Sayings.{tells}
use Rattle.order_literals.specs.Said.{Said, said_by, turned}
use Rattle.completion_build.specs.declared.built.Cycle.{Cycle}
use Rattle.entity_ties.specs.Labels.{cell, label_of}
use Rattle.entity_ties.specs.Parts.{list_at}
use Rattle.variable_parts.specs.Parts.{IsVarOf, Parted, label_at}
use Rattle.variable_parts.proofs.Cells.{cell_at}
use Rattle.variable_parts.proofs.Staying.{in_list}
use Rattle.search_trail.specs.Trails.{ScopedValues, Trail, values_of}
use Rattle.watch_solver.specs.Decided.{Solver}
use Rattle.known_models.specs.Changes.{AreBelied}
use Rattle.known_models.specs.Known.{KnownModel}
use Rattle.order_search.specs.Kept.{AreTrueOn, IsOfList, IsOnList, vars_of}
use Rattle.order_search.specs.Parts.{AreParts, parted_of}
use Rattle.order_search.specs.Searches.{Subject}
use Rattle.order_search.specs.Tied.{AreMembers, scope_in}
use Rattle.order_search.specs.declared.parting.Parting.{Parting}
use Rattle.order_search.proofs.Cycles.{of_lists}
use Rattle.order_search.proofs.PartValues.{IsOnPart, of_scope, takes_true}

-- what a literal on a list says
abbrev said_on : (s : Subject) (c : Cycle) (lit : Lit) → IsOnList s c lit → Said
said_on s c lit on = record { statement = says.Before c.rel c.attr on.first on.second; negative = on.negative }

-- it is of the part
module _ (s : Subject) (p : Parted) (part : ℕ) (c : Cycle) (label : label_of p.ties (cell c.rel.0 c.ent.0) ≡ Some part)
    (lit : Lit) (on : IsOnList s c lit) where
  var_here : (said_by (vars_of s) lit ≡ Some (said_on s c lit on))
      ⊎ (said_by (vars_of s) lit ≡ Some (turned (said_on s c lit on)))
      → IsVarOf s.spec (vars_of s) p.ties part (var_of lit)
  var_here (inl told) = record {
    statement = says.Before c.rel c.attr on.first on.second;
    is_statement = (tells (vars_of s) lit (said_on s c lit on) told).at;
    of_part = ap (label_at p.ties) (cell_at s.spec.relations c.rel.0 on.first.0 on.relation c.ent.0 on.is_relation on.first_of)
        ∙ label;
  }
  var_here (inr told) = record {
    statement = says.Before c.rel c.attr on.second on.first;
    is_statement = (tells (vars_of s) lit (turned (said_on s c lit on)) told).at;
    of_part = ap (label_at p.ties) (cell_at s.spec.relations c.rel.0 on.second.0 on.relation c.ent.0 on.is_relation on.second_of)
        ∙ label;
  }

  list_lit : AreParts s p → Contains (list_at p.parts part) (var_of lit)
  list_lit are = in_list s.spec (vars_of s) p.ties p.parts are.parts are.ties part (var_of lit) (var_here on.says)

-- so the clauses on it are true under truths that take the part's values
pub part_on : (s : Subject) (g : Parting) (solver : Solver) (goal : Option Lit) (part : ℕ) (are : AreParts s g.parts)
    → AreMembers s g → IsOnPart s g solver goal part → (cycles : List Cycle)
    → (belied : AreBelied (parted_of s g.parts) (values_of solver.trail).given part g.known cycles)
    → All (AreTrueOn s belied.truths solver.steps) cycles
part_on s g solver goal part are members is cycles belied =
    All-weaker (λ c. label_of g.parts.ties (cell c.rel.0 c.ent.0) ≡ Some part) (AreTrueOn s belied.truths solver.steps) each
    cycles belied.round.of_part
  where
    each : (c : Cycle) → label_of g.parts.ties (cell c.rel.0 c.ent.0) ≡ Some part → AreTrueOn s belied.truths solver.steps c
    each c label lits is_in on =
        takes_true s g solver goal part are members is (list_at g.parts.parts part) g.known.truths belied.truths belied.takes lits
        is_in
        (All-weaker (IsOnList s c) (λ lit. Contains (scope_in g part) (var_of lit))
        (λ lit here. of_scope s g solver goal part are members is (var_of lit) (list_lit s g.parts part c label lit here are)) lits on)
        (All-weaker (IsOnList s c) (λ lit. Contains (list_at g.parts.parts part) (var_of lit))
        (λ lit here. list_lit s g.parts part c label lit here are) lits on)

-- as it is told
pub belied_as : (s : Subject) (g : Parting) (solver : Solver) (part : ℕ) (cycles : List Cycle)
    (v : ScopedValues) (t : Trail) → v ≡ values_of t → t ≡ solver.trail
    → AreBelied (parted_of s g.parts) v.given part g.known cycles
    → AreBelied (parted_of s g.parts) (values_of solver.trail).given part g.known cycles
belied_as s g solver part cycles v t same_values same_trail belied =
    subst (λ (x : ScopedValues). AreBelied (parted_of s g.parts) x.given part g.known cycles)
    (same_values ∙ ap values_of same_trail) belied

-- the cycles are of lists
pub belied_lists : (s : Subject) (p : Parted) (given : List (Option Bool)) (part : ℕ) (old : KnownModel) (cycles : List Cycle)
    → AreBelied (parted_of s p) given part old cycles → All (IsOfList s) cycles
belied_lists s p given part old cycles here = of_lists s here.truths cycles here.round.each

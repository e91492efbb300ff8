-- The question that asks for a fact.
use Rattle.std.specs.Prelude.{ℕ, zero, suc, List, [], ◌∷◌, length, map, Option, Some, None, slice_get}
use Rattle.currency_base.specs.declared.row.Row.{Row}
use Rattle.currency_base.specs.declared.value.Cmp.TheVariants as cmp
use Rattle.currency_base.specs.declared.value.Value.{Value}
use Rattle.currency_base.specs.declared.value.Value.TheVariants.{Text}
use Rattle.denial_rules.specs.Instances.{value_in}
use Rattle.match_premises.specs.declared.premise.Premise.{Premise}
use Rattle.query_model.specs.declared.query.Atom.{Atom}
use Rattle.query_model.specs.declared.query.Disjunct.{Disjunct}
use Rattle.query_model.specs.declared.query.Term.{Term}
use Rattle.query_model.specs.declared.query.Term.TheVariants as term
use Rattle.query_model.specs.declared.query.Test.{Test}
use Rattle.query_model.specs.declared.query.TestTerm.TheVariants as test
use Rattle.spec_model.specs.declared.question.Question.{Question}
use Rattle.spec_model.specs.declared.question.Question.TheVariants as asked
use Rattle.spec_model.specs.declared.relation.Relation.{Relation}
use Rattle.posed_facts.specs.declared.fact.Fact.{Fact}
use Rattle.posed_facts.specs.declared.fact.Fact.TheVariants as fact

-- ---- what a claim on a current value speaks of

-- a row, if there is one
abbrev pub row_in : Option Relation → Premise → Option Row
row_in None p = None
row_in (Some r) p = slice_get r.rows p.row.0

-- the name of a row's entity
abbrev pub name_in : Option Relation → Option Row → Option (List ℕ)
name_in (Some r) (Some row) = slice_get r.entities row.entity.0
name_in r row = None

-- how many attributes there are
abbrev pub attrs_in : Option Relation → ℕ
attrs_in None = 0
attrs_in (Some r) = length r.attrs

abbrev pub claim_row : List Relation → Premise → Option Row
claim_row relations p = row_in (slice_get relations p.rel.0) p

abbrev pub claim_name : List Relation → Premise → Option (List ℕ)
claim_name relations p = name_in (slice_get relations p.rel.0) (claim_row relations p)

abbrev pub claim_attrs : List Relation → Premise → ℕ
claim_attrs relations p = attrs_in (slice_get relations p.rel.0)

-- the row's value of the attribute
abbrev pub claim_value : List Relation → Premise → Option Value
claim_value relations p = value_in (claim_row relations p) p.attr.0

-- ---- its atom

-- this name, if there is one
abbrev pub name_term : Option (List ℕ) → Term
name_term (Some name) = term.Constant (Text name)
name_term None = term.Any

-- this value, if there is one
abbrev pub value_term : Option Value → Term
value_term (Some value) = term.Constant value
value_term None = term.Any

-- anything at each of so many places
abbrev pub any_places : ℕ → List Term
any_places zero = []
any_places (suc attrs) = term.Any ∷ any_places attrs

-- the same, but this at one of them
abbrev pub term_places : ℕ → ℕ → Term → List Term
term_places zero attr t = []
term_places (suc attrs) zero t = t ∷ any_places attrs
term_places (suc attrs) (suc attr) t = term.Any ∷ term_places attrs attr t

-- that the claim's entity has this as its value of the attribute
abbrev pub claim_atom : List Relation → Premise → Term → Atom
claim_atom relations p t =
    record {
      relation = p.rel;
      terms = name_term (claim_name relations p) ∷ term_places (claim_attrs relations p) p.attr.0 t;
    }

-- ---- disjuncts

-- the entity has the value that is claimed
abbrev pub claimed_disjunct : List Relation → Premise → Disjunct
claimed_disjunct relations p =
    record {
      head = [];
      atoms = claim_atom relations p (value_term (claim_value relations p)) ∷ [];
      tests = [];
      vars = 0;
    }

-- the first variable is not this value
abbrev pub other_tests : Option Value → List Test
other_tests (Some value) = record { left = test.Var 0; cmp = cmp.Ne; right = test.Constant value } ∷ []
other_tests None = []

-- the entity has another value
abbrev pub other_disjunct : List Relation → Premise → Disjunct
other_disjunct relations p =
    record {
      head = [];
      atoms = claim_atom relations p (term.Var 0) ∷ [];
      tests = other_tests (claim_value relations p);
      vars = 1;
    }

-- ---- questions

abbrev pub fact_question : List Relation → Fact → Question
fact_question relations (fact.Before p) = asked.Certain (p ∷ [])
fact_question relations (fact.Current p) = asked.Answers record { disjuncts = claimed_disjunct relations p ∷ [] }
fact_question relations (fact.Lacks list) = asked.Answers record { disjuncts = map (other_disjunct relations) list }

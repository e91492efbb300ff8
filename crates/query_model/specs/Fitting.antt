-- Queries whose variables have values wherever they are met.
use Rattle.std.specs.Prelude.{◌≡◌, ◌<◌, ℕ, List, All, Contains}
use Rattle.currency_base.specs.declared.value.Value.{Value}
use Rattle.query_model.specs.declared.query.Atom.{Atom}
use Rattle.query_model.specs.declared.query.Disjunct.{Disjunct}
use Rattle.query_model.specs.declared.query.Query.{Query}
use Rattle.query_model.specs.declared.query.Term.{Term}
use Rattle.query_model.specs.declared.query.Term.TheVariants as term
use Rattle.query_model.specs.declared.query.Test.{Test}
use Rattle.query_model.specs.declared.query.TestTerm.{TestTerm}
use Rattle.query_model.specs.declared.query.TestTerm.TheVariants as test

-- a term's variable is one of so many
abbrev pub IsTermOf : ℕ → Term → Type 0
IsTermOf vars (term.Var v) = v < vars
IsTermOf vars t = Unit {0}

abbrev pub IsTestTermOf : ℕ → TestTerm → Type 0
IsTestTermOf vars (test.Var v) = v < vars
IsTestTermOf vars t = Unit {0}

-- a variable stands in one of the atoms
pub record StandsIn (atoms : List Atom) (v : ℕ) : Type 0 where
  pub atom : Atom
  pub is_atom : Contains atoms atom
  pub stands : Contains atom.terms (term.Var v)

-- each variable is one of the disjunct's, and each of these stands in an atom
pub record IsDisjunct (d : Disjunct) : Type 0 where
  pub atoms : All (λ atom. All (IsTermOf d.vars) atom.terms) d.atoms
  pub left : All (λ t. IsTestTermOf d.vars t.left) d.tests
  pub right : All (λ t. IsTestTermOf d.vars t.right) d.tests
  pub head : All (λ v. v < d.vars) d.head
  pub each_stands : (v : ℕ) → v < d.vars → StandsIn d.atoms v

abbrev pub IsQuery : Query → Type 0
IsQuery q = All IsDisjunct q.disjuncts

-- Documents and statements have one outcome, where documents and a declaration, a table of given pairs or a copy have one.
use Rattle.std.proofs.Common.{◌≡◌, ◌∙◌, ℕ, List, [], ◌∷◌, Result, Ok, Err, MatchResult, sym, ap, subst}
use Rattle.spec_model.specs.Spec.{Spec}
use Rattle.spec_model.specs.declared.relation.Relation.{Relation}
use Rattle.spec_syntax.specs.declared.trees.SpecTree.{SpecTree}
use Rattle.spec_syntax.specs.declared.trees.StatementTree.{StatementTree}
use Rattle.spec_syntax.specs.declared.trees.StatementTree.TheVariants as statement
use Rattle.bind_faults.specs.Faults.{and_then}
use Rattle.bind_faults.specs.declared.fault.BindFault.{BindFault}
use Rattle.relation_bind.specs.Declarations.{Declared}
use Rattle.relation_bind.specs.Relations.{IsDeclared}
use Rattle.text_grammar.specs.declared.named.Named.{Named}
use Rattle.copy_functions.specs.Copies.{CopyFunction}
use Rattle.copy_syntax.specs.declared.trees.CopyTree.{CopyTree}
use Rattle.order_bind.specs.TableOrders.{IsOrdersMade}
use Rattle.copy_bind.specs.Made.{IsCopyMade}
use Rattle.bound_spec.specs.Growth.{limited, limited_at_last, nothing, relation_names, with_relation, with_copy}
use Rattle.spec_bind.specs.Bound.{IsMade, IsStep, IsBound, IsSpecBound, with_relations}

-- what tables make is one thing
pub record Laws : Type 0 where
  pub declaration : (told : List (List ℕ × List ℕ)) (taken : List (List ℕ)) (d : Declared) (a b : Result Relation BindFault)
      → IsDeclared told taken d a → IsDeclared told taken d b → a ≡ b
  pub orders : (told : List (List ℕ × List ℕ)) (done : List Relation) (relation document : Named)
      (a b : Result (List Relation) BindFault)
      → IsOrdersMade told done relation document a → IsOrdersMade told done relation document b → a ≡ b
  pub copy : (told : List (List ℕ × List ℕ)) (done : Spec) (tree : CopyTree) (a b : Result CopyFunction BindFault)
      → IsCopyMade told done tree a → IsCopyMade told done tree b → a ≡ b

-- a statement makes one thing
one_made : Laws → (told : List (List ℕ × List ℕ)) (done : Spec) (s : StatementTree) (a b : Result Spec BindFault)
    → IsMade told done s a → IsMade told done s b → a ≡ b
one_made one told done (statement.Relation name doc row entity attrs) a b x y =
    let d : Declared = record { name = name; document = doc; row = row; entity = entity; attrs = attrs } in
    x.2 ∙ ap (λ (r : Result Relation BindFault). and_then r (λ made. Ok (with_relation done made)))
    (one.declaration told (relation_names done) d x.0 y.0 x.1 y.1) ∙ sym y.2
one_made one told done (statement.Order o) a b x y = x ∙ sym y
one_made one told done (statement.Orders relation doc) a b x y =
    x.2 ∙ ap (with_relations done) (one.orders told done.relations relation doc x.0 y.0 x.1 y.1) ∙ sym y.2
one_made one told done (statement.Rule t) a b x y = x ∙ sym y
one_made one told done (statement.Copy t) a b x y =
    x.2 ∙ ap (λ (r : Result CopyFunction BindFault). and_then r (λ made. Ok (with_copy done made)))
    (one.copy told done t x.0 y.0 x.1 y.1) ∙ sym y.2

-- and so it is one step
one_step : Laws → (told : List (List ℕ × List ℕ)) (done : Spec) (s : StatementTree) (a b : Result Spec BindFault)
    → IsStep told done s a → IsStep told done s b → a ≡ b
one_step one told done s a b x y =
    x.2 ∙ ap (λ (made : Result Spec BindFault). and_then made limited) (one_made one told done s x.0 y.0 x.1 y.1) ∙ sym y.2

-- what follows a step gives one answer, if the rest does
one_further : (told : List (List ℕ × List ℕ)) (rest : List StatementTree) (a b : Result Spec BindFault)
    → ((next : Spec) → IsBound told next rest a → IsBound told next rest b → a ≡ b) → (step : Result Spec BindFault)
    → MatchResult step (λ next. IsBound told next rest a) (λ fault. a ≡ Err fault)
    → MatchResult step (λ next. IsBound told next rest b) (λ fault. b ≡ Err fault) → a ≡ b
one_further told rest a b later (Ok next) x y = later next x y
one_further told rest a b later (Err fault) x y = x ∙ sym y

-- statements give one answer
one_bound : Laws → (told : List (List ℕ × List ℕ)) (done : Spec) (statements : List StatementTree) (a b : Result Spec BindFault)
    → IsBound told done statements a → IsBound told done statements b → a ≡ b
one_bound one told done [] a b x y = x ∙ sym y
one_bound one told done (s ∷ rest) a b x y =
    let same = one_step one told done s x.0 y.0 x.1 y.1 in
    one_further told rest a b (λ next. one_bound one told next rest a b) y.0
    (subst (λ (step : Result Spec BindFault). MatchResult step (λ next. IsBound told next rest a)
    (λ fault. a ≡ Err fault)) same x.2) y.2

-- and a tree
pub one_tree : Laws → (told : List (List ℕ × List ℕ)) (tree : SpecTree) (a b : Result Spec BindFault)
    → IsSpecBound told tree a → IsSpecBound told tree b → a ≡ b
one_tree one told tree a b x y =
    x.2 ∙ ap (λ (bound : Result Spec BindFault). and_then bound limited_at_last)
    (one_bound one told nothing tree.statements x.0 y.0 x.1 y.1) ∙ sym y.2

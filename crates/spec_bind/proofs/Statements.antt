-- What statements make one after another, where the shelf tells its documents.
use Rattle.std.proofs.Common.{◌≡◌, ◌+◌, ◌<◌, ◌≤◌, ℕ, List, ◌∷◌, length, drop, get_or, Option, Some, None, Result, Ok, Err, IfSome, inl, inr, sym, subst, refl}
use Rattle.std.proofs.lemmas.List.{at_drop_all}
use Rattle.bind_faults.specs.Faults.{IsDue, IsDetermined, IsReadFaultOf}
use Rattle.bind_faults.specs.declared.fault.BindFault.{BindFault}
use Rattle.spec_model.specs.Spec.{Spec}
use Rattle.spec_syntax.specs.declared.trees.SpecTree.{SpecTree}
use Rattle.spec_syntax.specs.declared.trees.StatementTree.{StatementTree}
use Rattle.relation_bind.proofs.Places.{drop_at}
use Rattle.bound_spec.specs.Growth.{limited_at_last, nothing}
use Rattle.spec_bind.specs.Bound.{IsStep, IsBound, IsSpecBound, ReadsTableOf, TableDue}
use Rattle.spec_bind.proofs.Dues.{due_determined}

-- the documents that a shelf tells
abbrev pub Texts : Type 0
Texts = Option (List (List ℕ × List ℕ))

-- what is left of the statements makes of what is done what all of them make of nothing
abbrev pub SoFar : Texts → Spec → List StatementTree → List StatementTree → Type 0
SoFar texts done rest all = IfSome texts (λ told. (outcome : Result Spec BindFault) → IsBound told done rest outcome
    → IsBound told nothing all outcome)

-- a table that is due by what is left is due by all of them
abbrev pub TablesSoFar : Texts → Spec → List StatementTree → List StatementTree → Type 0
TablesSoFar texts done rest all = IfSome texts (λ told. (table : List ℕ) → TableDue told done rest table
    → TableDue told nothing all table)

-- the step of a statement that is refused
pub tree_refused : (texts now : Texts) (done : Spec) (tree : SpecTree) (items : List StatementTree) (i : ℕ)
    (s : StatementTree) (fault : BindFault)
    → now ≡ texts → i < length items → s ≡ get_or items i s → SoFar texts done (drop i items) tree.statements
    → (IsDetermined {A = Spec} (Err fault) → IfSome now (λ told. IsStep told done s (Err fault)))
    → IsDetermined {A = Spec} (Err fault) → IfSome texts (λ told. IsSpecBound told tree (Err fault))
tree_refused None now done tree items i s fault same lt is so_far step determined = tt
tree_refused (Some told) now done tree items i s fault same lt is so_far step determined =
    let here : IsStep told done s (Err fault) =
    subst (λ (t : Texts). IfSome t (λ docs. IsStep docs done s (Err fault))) same (step determined) in
    let bound : IsBound told done (s ∷ drop (i + 1) items) (Err fault) = (Err fault, here, refl) in (
      Err fault,
      so_far (Err fault) (subst (λ (xs : List StatementTree). IsBound told done xs (Err fault))
          (sym (drop_at items i s lt is)) bound),
      refl,
    )

-- a table that could not be read
pub tree_table : (texts : Texts) (done : Spec) (all items : List StatementTree) (i : ℕ) (s : StatementTree) (fault : BindFault)
    → i < length items → s ≡ get_or items i s → TablesSoFar texts done (drop i items) all
    → ((name : List ℕ) → IsReadFaultOf {A = Spec} (Err fault) name → ReadsTableOf done s name)
    → (name : List ℕ) → IsReadFaultOf {A = Spec} (Err fault) name → IfSome texts (λ told. TableDue told nothing all name)
tree_table None done all items i s fault lt is tables reads name h = tt
tree_table (Some told) done all items i s fault lt is tables reads name h =
    tables name (subst (λ (xs : List StatementTree). TableDue told done xs name) (sym (drop_at items i s lt is))
    (inl (reads name h)))

-- one statement more is bound
pub bound_more : (texts now : Texts) (done next : Spec) (all items : List StatementTree) (i : ℕ) (s : StatementTree)
    → now ≡ texts → i < length items → s ≡ get_or items i s → IfSome now (λ told. IsStep told done s (Ok next))
    → SoFar texts done (drop i items) all → SoFar texts next (drop (i + 1) items) all
bound_more None now done next all items i s same lt is step so_far = tt
bound_more (Some told) now done next all items i s same lt is step so_far =
    let here : IsStep told done s (Ok next) = subst (λ (t : Texts). IfSome t (λ docs. IsStep docs done s (Ok next))) same step in
    λ outcome rest. so_far outcome (subst (λ (xs : List StatementTree). IsBound told done xs outcome)
    (sym (drop_at items i s lt is)) (Ok next, here, rest))

pub tables_more : (texts now : Texts) (done next : Spec) (all items : List StatementTree) (i : ℕ) (s : StatementTree)
    → now ≡ texts → i < length items → s ≡ get_or items i s → IfSome now (λ told. IsStep told done s (Ok next))
    → TablesSoFar texts done (drop i items) all → TablesSoFar texts next (drop (i + 1) items) all
tables_more None now done next all items i s same lt is step tables = tt
tables_more (Some told) now done next all items i s same lt is step tables =
    let here : IsStep told done s (Ok next) = subst (λ (t : Texts). IfSome t (λ docs. IsStep docs done s (Ok next))) same step in
    λ table due. tables table (subst (λ (xs : List StatementTree). TableDue told done xs table)
    (sym (drop_at items i s lt is)) (inr (next, here, due)))

-- all statements are bound
pub tree_bound : (texts : Texts) (done : Spec) (tree : SpecTree) (items : List StatementTree) (i : ℕ)
    (result : Result Spec BindFault)
    → length items ≤ i → SoFar texts done (drop i items) tree.statements → IsDue (limited_at_last done) result
    → IsDetermined result → IfSome texts (λ told. IsSpecBound told tree result)
tree_bound None done tree items i result le so_far due determined = tt
tree_bound (Some told) done tree items i result le so_far due determined =
    let bound : IsBound told done (drop i items) (Ok done) =
    subst (λ (xs : List StatementTree). IsBound told done xs (Ok done)) (sym (at_drop_all (λ xs. xs) items i le)) refl in
    (Ok done, so_far (Ok done) bound, sym (due_determined (limited_at_last done) result due determined))

-- The tables of parts, read one after another, where the shelf tells its documents.
use Rattle.std.proofs.Common.{◌≡◌, ◌∙◌, ◌+◌, ◌<◌, ◌≤◌, ℕ, List, [], ◌∷◌, ◌++◌, length, drop, get_or, Option, Some, None, Result, Ok, Err, IfSome, append_assoc, refl, sym, ap, subst}
use Rattle.std.proofs.lemmas.List.{append-nil, at_drop_all, at_drop_more}
use Rattle.currency_base.specs.declared.value.Value.{Value}
use Rattle.bind_faults.specs.Faults.{and_then, IsReadFaultOf, IsDetermined}
use Rattle.bind_faults.specs.declared.fault.BindFault.{BindFault}
use Rattle.bind_faults.proofs.Outcomes.{determined_fault, same_read_fault_of}
use Rattle.order_bind.proofs.OrderLemmas.{with_front, with_front-none}
use Rattle.question_syntax.specs.declared.trees.AskedTree.{AskedTree}
use Rattle.question_bind.specs.Asked.{AreRead, IsRead}
use Rattle.question_bind.specs.Steps.{HasTable, IsItsTable}

-- the documents that a shelf tells
abbrev pub Texts : Type 0
Texts = Option (List (List ℕ × List ℕ))

abbrev pub Tuples : Type 0
Tuples = List (List Value)

-- the tables of what is left of the parts, behind these, are those of all parts
abbrev pub TablesSoFar : Texts → List AskedTree → List AskedTree → List Tuples → Type 0
TablesSoFar texts rest all list = IfSome texts (λ told. (tables : Result (List Tuples) BindFault)
    → AreRead told rest tables → AreRead told all (with_front list tables))

pub tables_none : (texts : Texts) (all : List AskedTree) → TablesSoFar texts (drop 0 all) all []
tables_none None all = tt
tables_none (Some told) all = λ tables read. rw with_front-none read

-- what is left of a list is an item and what is left after it
drop_at : {A : Type 0} (xs : List A) (i : ℕ) (x : A) → i < length xs → x ≡ get_or xs i x → drop i xs ≡ x ∷ drop (i + 1) xs
drop_at xs i x lt is = at_drop_more (λ ys. ys) xs i x lt ∙ ap (λ y. y ∷ drop (i + 1) xs) (sym is)

-- one table more
one_behind : (list : List Tuples) (tuples : Tuples) (tables : Result (List Tuples) BindFault)
    → with_front list (and_then tables (λ more. Ok (tuples ∷ more))) ≡ with_front (list ++ tuples ∷ []) tables
one_behind list tuples (Ok more) = ap Ok (sym (append_assoc list (tuples ∷ []) more))
one_behind list tuples (Err e) = refl

pub tables_more : (texts now : Texts) (items : List AskedTree) (i : ℕ) (t : AskedTree) (list : List Tuples) (tuples : Tuples)
    → now ≡ texts → i < length items → t ≡ get_or items i t → IfSome now (λ told. IsRead told t (Ok tuples))
    → TablesSoFar texts (drop i items) items list → TablesSoFar texts (drop (i + 1) items) items (list ++ tuples ∷ [])
tables_more None now items i t list tuples same lt is read so_far = tt
tables_more (Some told) now items i t list tuples same lt is read so_far =
    let here : IsRead told t (Ok tuples) =
    subst (λ (texts : Texts). IfSome texts (λ docs. IsRead docs t (Ok tuples))) same read in
    λ tables rest.
    let all : AreRead told (t ∷ drop (i + 1) items) (and_then tables (λ more. Ok (tuples ∷ more))) =
    (Ok tuples, here, (tables, rest, refl)) in
    subst (λ (r : Result (List Tuples) BindFault). AreRead told items r) (one_behind list tuples tables)
    (so_far (and_then tables (λ more. Ok (tuples ∷ more)))
    (subst (λ (ts : List AskedTree). AreRead told ts (and_then tables (λ more. Ok (tuples ∷ more))))
    (sym (drop_at items i t lt is)) all))

-- all tables
pub tables_all : (texts : Texts) (items : List AskedTree) (i : ℕ) (list : List Tuples) → length items ≤ i
    → TablesSoFar texts (drop i items) items list
    → IfSome texts (λ told. AreRead told items (Ok list))
tables_all None items i list le so_far = tt
tables_all (Some told) items i list le so_far =
    subst (λ (ts : List Tuples). AreRead told items (Ok ts)) (append-nil list)
    (so_far (Ok []) (subst (λ (ts : List AskedTree). AreRead told ts (Ok [])) (sym (at_drop_all (λ xs. xs) items i le)) refl))

-- a table that is refused
pub tables_refused : (texts now : Texts) (items : List AskedTree) (i : ℕ) (t : AskedTree) (list : List Tuples) (fault : BindFault)
    → now ≡ texts → i < length items → t ≡ get_or items i t →
    (IsDetermined {A = Tuples} (Err fault) → IfSome now (λ told. IsRead told t (Err fault)))
    → TablesSoFar texts (drop i items) items list → IsDetermined {A = List Tuples} (Err fault) → IfSome texts
    (λ told. AreRead told items (Err fault))
tables_refused None now items i t list fault same lt is read so_far determined = tt
tables_refused (Some told) now items i t list fault same lt is read so_far determined =
    let here : IsRead told t (Err fault) =
    subst (λ (texts : Texts). IfSome texts (λ docs. IsRead docs t (Err fault))) same
    (read (determined_fault (List Tuples) Tuples fault determined)) in
    let all : AreRead told (t ∷ drop (i + 1) items) (Err fault) = (Err fault, here, refl) in
    so_far (Err fault) (subst (λ (ts : List AskedTree). AreRead told ts (Err fault)) (sym (drop_at items i t lt is)) all)

-- a table that is not read
pub table_of_part : (items : List AskedTree) (i : ℕ) (t : AskedTree) (fault : BindFault) → i < length items → t ≡ get_or items i t
    → ((name : List ℕ) → IsReadFaultOf {A = Tuples} (Err fault) name → IsItsTable t name)
    → (name : List ℕ) → IsReadFaultOf {A = List Tuples} (Err fault) name → HasTable items name
table_of_part items i t fault lt is its name h =
    record { part = t; among = (i, lt, sym is); its = its name (same_read_fault_of (List Tuples) Tuples fault name h) }

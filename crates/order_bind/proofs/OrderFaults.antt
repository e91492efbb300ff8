-- An ordering makes no read fault.
use Rattle.std.proofs.Common.{ℕ, List, [], ◌∷◌, map, not, Option, Some, None, Result, Ok, Err}
use Rattle.std.specs.List.{position, slice_get}
use Rattle.currency_base.specs.declared.pair.Pair.{Pair}
use Rattle.currency_base.specs.declared.row.Row.{Row}
use Rattle.currency_base.specs.declared.error_code.ErrorCode.{ErrorCode}
use Rattle.currency_base.specs.declared.error_code.ErrorCode.TheVariants.{UnknownName, UnknownRow}
use Rattle.bind_faults.specs.Faults.{all_of, and_then, found_or, refused_at, IsDue, IsReadFault}
use Rattle.bind_faults.proofs.Outcomes.{same_read_fault}
use Rattle.spec_names.specs.Names.{place_of}
use Rattle.spec_model.specs.declared.relation.Relation.{Relation}
use Rattle.spec_syntax.specs.declared.trees.OrderingTree.{OrderingTree}
use Rattle.text_grammar.specs.declared.named.Named.{Named}
use Rattle.text_grammar.specs.declared.named.NamedPair.{NamedPair}
use Rattle.order_bind.specs.Orders.{row_named, pair_of, pair_named, is_of_one_entity, not_one_entity, unless_wrong, checked_pairs, ordered_pairs}
use Rattle.bind_faults.specs.declared.fault.BindFault.{BindFault}
use Rattle.bind_faults.specs.declared.fault.BindFault.TheVariants.{Refused, CopyDiffers, Limit, ReadFault, NoMemory}

pub found_reads : {A : Type 0} (place : Option ℕ) (code : ErrorCode) (named : Named) (next : ℕ → Result A BindFault)
    → ((k : ℕ) → IsReadFault (next k) → ⊥) → IsReadFault (found_or place (refused_at code named) next) → ⊥
found_reads None code named next later h = h
found_reads (Some k) code named next later h = later k h

row_reads : (rows : List (List ℕ)) (named : Named) → IsReadFault (row_named rows named) → ⊥
row_reads rows named h = found_reads {A = ℕ} (place_of rows named.name) UnknownRow named Ok (λ k f. f) h

pub pair_reads : (attr : ℕ) (earlier later : Result ℕ BindFault) → (IsReadFault earlier → ⊥) →
    (IsReadFault later → ⊥) → IsReadFault (pair_of attr earlier later) → ⊥
pair_reads attr (Err fault) later a b h = a (same_read_fault Pair ℕ fault h)
pair_reads attr (Ok earlier) (Err fault) a b h = b (same_read_fault Pair ℕ fault h)
pair_reads attr (Ok earlier) (Ok later) a b h = h

all_reads : (r : Result Pair BindFault) (rest : Result (List Pair) BindFault) → (IsReadFault r → ⊥) → (IsReadFault rest → ⊥)
    → IsReadFault (and_then r (λ p. and_then rest (λ ps. Ok (p ∷ ps)))) → ⊥
all_reads (Err fault) rest a b h = a (same_read_fault (List Pair) Pair fault h)
all_reads (Ok pair) (Ok pairs) a b h = h
all_reads (Ok pair) (Err fault) a b h = b h

pub pairs_reads : (rows : List (List ℕ)) (attr : ℕ) (pairs : List NamedPair) → IsReadFault
    (all_of (pair_named rows attr) pairs) → ⊥
pairs_reads rows attr [] h = h
pairs_reads rows attr (p ∷ pairs) h =
    all_reads (pair_named rows attr p) (all_of (pair_named rows attr) pairs)
    (pair_reads attr (row_named rows p.first) (row_named rows p.second) (row_reads rows p.first)
    (row_reads rows p.second)) (pairs_reads rows attr pairs) h

one_entity_reads : (A : Type 0) (p : Option NamedPair) → IsReadFault {A = A} (Err (not_one_entity p)) → ⊥
one_entity_reads A None h = h
one_entity_reads A (Some p) h = h

wrong_reads : (named : List NamedPair) (pairs : List Pair) (wrong : Option ℕ) → IsReadFault (unless_wrong named pairs wrong) → ⊥
wrong_reads named pairs None h = h
wrong_reads named pairs (Some wrong) h = one_entity_reads (List Pair) (slice_get named wrong) h

pub checked_reads : (rows : List Row) (named : List NamedPair) (pairs : Result (List Pair) BindFault) →
    (IsReadFault pairs → ⊥) → IsReadFault (checked_pairs rows named pairs) → ⊥
checked_reads rows named (Err fault) a h = a h
checked_reads rows named (Ok pairs) a h = wrong_reads named pairs (position (λ p. not (is_of_one_entity rows p)) pairs) h

ordered_pairs_reads : (r : Relation) (o : OrderingTree) → IsReadFault (ordered_pairs r o) → ⊥
unfolding ordered_pairs
ordered_pairs_reads r o h =
    found_reads {A = List Pair} (place_of (map (λ a. a.name) r.attrs) o.attr.name) UnknownName o.attr
    (λ attr. checked_pairs r.rows o.pairs (all_of (pair_named (map (λ row. row.name) r.rows) attr) o.pairs))
    (λ attr f. checked_reads r.rows o.pairs (all_of (pair_named (map (λ row. row.name) r.rows) attr) o.pairs)
    (pairs_reads (map (λ row. row.name) r.rows) attr o.pairs) f) h

-- pairs that are due are no read fault
pub pairs_due_reads : (r : Relation) (o : OrderingTree) (fault : BindFault) → IsDue (ordered_pairs r o) (Err fault)
    → IsReadFault {A = Unit {0}} (Err fault) → ⊥
pairs_due_reads r o (Refused refusal) is h = h
pairs_due_reads r o (CopyDiffers document line target source) is h = h
pairs_due_reads r o (Limit k) is h = h
pairs_due_reads r o (ReadFault name) is h = ordered_pairs_reads r o (rw is h)
pairs_due_reads r o NoMemory is h = h

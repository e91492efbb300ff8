-- What an `order` statement adds to the relations declared so far.
use Rattle.std.specs.Prelude.{◌≡◌, ℕ, ◌==◌, Bool, false, not, ◌&&◌, List, map, fold, Option, Some, None, Result, Ok, Err, position, slice_get, slice_set}
use Rattle.std.specs.BTreeSet.{insert_key}
use Rattle.currency_base.specs.declared.error_code.ErrorCode.TheVariants.{UnknownName, UnknownRow, NotOneEntity}
use Rattle.currency_base.specs.declared.pair.Pair.{Pair}
use Rattle.currency_base.specs.declared.row.Row.{Row}
use Rattle.partial_orders.specs.Pairs.{pair_cmp, entity_of}
use Rattle.spec_names.specs.Names.{place_of}
use Rattle.spec_model.specs.declared.relation.Relation.{Relation}
use Rattle.spec_syntax.specs.declared.trees.OrderingTree.{OrderingTree}
use Rattle.text_grammar.specs.declared.named.Named.{Named}
use Rattle.text_grammar.specs.declared.named.NamedPair.{NamedPair}
use Rattle.bind_faults.specs.Faults.{refused_at, found_or, all_of}
use Rattle.bind_faults.specs.declared.fault.BindFault.{BindFault}
use Rattle.bind_faults.specs.declared.fault.BindFault.TheVariants.{Refused, NoMemory}

-- the row of a name among the names of the rows, or the refusal of one that is not there
abbrev pub row_named : List (List ℕ) → Named → Result ℕ BindFault
row_named rows named = found_or (place_of rows named.name) (refused_at UnknownRow named) Ok

-- two rows as a pair of an attribute
abbrev pub pair_of : ℕ → Result ℕ BindFault → Result ℕ BindFault → Result Pair BindFault
pair_of attr (Err fault) later = Err fault
pair_of attr (Ok earlier) (Err fault) = Err fault
pair_of attr (Ok earlier) (Ok later) =
    Ok record { attr = record { 0 = attr }; earlier = record { 0 = earlier }; later = record { 0 = later } }

-- the pair that two names say, the earlier first
abbrev pub pair_named : List (List ℕ) → ℕ → NamedPair → Result Pair BindFault
pair_named rows attr p = pair_of attr (row_named rows p.first) (row_named rows p.second)

-- the entities are there, and are one
abbrev pub is_one : Option ℕ → Option ℕ → Bool
is_one (Some a) (Some b) = a == b
is_one a b = false

-- two different rows of one entity
abbrev pub is_of_one_entity : List Row → Pair → Bool
is_of_one_entity rows p = not (p.earlier.0 == p.later.0) && is_one (entity_of rows p.earlier.0) (entity_of rows p.later.0)

-- the refusal of a pair that is not of one entity, at its first name
abbrev pub not_one_entity : Option NamedPair → BindFault
not_one_entity None = Refused record { code = NotOneEntity; document = None; line = 0 }
not_one_entity (Some p) = refused_at NotOneEntity p.first

-- the pairs, where none of them is wrong
abbrev pub unless_wrong : List NamedPair → List Pair → Option ℕ → Result (List Pair) BindFault
unless_wrong named pairs None = Ok pairs
unless_wrong named pairs (Some wrong) = Err (not_one_entity (slice_get named wrong))

-- the pairs, once all names are found, where each is of two different rows of one entity; otherwise the first that is
-- not is refused
abbrev pub checked_pairs : List Row → List NamedPair → Result (List Pair) BindFault → Result (List Pair) BindFault
checked_pairs rows named (Err fault) = Err fault
checked_pairs rows named (Ok pairs) = unless_wrong named pairs (position (λ p. not (is_of_one_entity rows p)) pairs)

-- the pairs that an ordering says of a relation: unknown attribute, unknown row and a pair that is not of one entity are
-- refused, in this order, each at the first name at fault
unfoldable pub ordered_pairs : Relation → OrderingTree → Result (List Pair) BindFault
ordered_pairs r o = found_or (place_of (map (λ a. a.name) r.attrs) o.attr.name) (refused_at UnknownName o.attr)
    (λ attr. checked_pairs r.rows o.pairs (all_of (pair_named (map (λ row. row.name) r.rows) attr) o.pairs))

-- the relation with more given pairs
abbrev pub with_all_given : Relation → List Pair → Relation
with_all_given r pairs = record r { given = fold (insert_key pair_cmp) r.given pairs }

-- the relations with more given pairs at one of them, unless those are refused
abbrev pub giving_pairs : List Relation → ℕ → Relation → Result (List Pair) BindFault → Result (List Relation) BindFault
giving_pairs done rel r (Err fault) = Err fault
giving_pairs done rel r (Ok pairs) = Ok (slice_set done rel (with_all_given r pairs))

-- the relations after an ordering at the relation of that place
abbrev pub ordered_at : List Relation → OrderingTree → ℕ → Option Relation → Result (List Relation) BindFault
ordered_at done o rel None = Err (refused_at UnknownName o.relation)
ordered_at done o rel (Some r) = giving_pairs done rel r (ordered_pairs r o)

-- the relations after an ordering: an unknown relation is refused first, and then what its pairs are refused for
unfoldable pub ordered : List Relation → OrderingTree → Result (List Relation) BindFault
ordered done o = found_or (place_of (map (λ r. r.name) done) o.relation.name) (refused_at UnknownName o.relation)
    (λ rel. ordered_at done o rel (slice_get done rel))

-- the step has the outcome that is due, and leaves its relations, or memory ran out
abbrev pub Steps : List Relation → Result (List Relation) BindFault → Result (Unit {0}) BindFault → Type 0
Steps new due (Err NoMemory) = Unit {0}
Steps new due (Ok done) = due ≡ Ok new
Steps new due (Err fault) = due ≡ Err fault

-- new is old with more given pairs at one of its relations
abbrev pub AddsAllGiven : List Relation → List Relation → ℕ → List Pair → Type 0
AddsAllGiven old new rel pairs = (r : Relation) → slice_get old rel ≡ Some r → new ≡ slice_set old rel (with_all_given r pairs)

-- What asked parts say: pairs of rows, step by step over the parts of a group.
use Rattle.std.specs.Prelude.{◌≡◌, ℕ, List, [], ◌∷◌, ◌++◌, map, Option, Some, None, Result, Ok, Err, MatchResult, slice_get}
use Rattle.std.specs.List.{enumerate_from}
use Rattle.currency_base.specs.declared.error_code.ErrorCode.TheVariants.{UnknownName}
use Rattle.currency_base.specs.declared.pair.Pair.{Pair}
use Rattle.currency_base.specs.declared.row.Row.{Row}
use Rattle.currency_base.specs.declared.value.Value.{Value}
use Rattle.text_grammar.specs.declared.named.Named.{Named}
use Rattle.text_grammar.specs.declared.named.NamedPair.{NamedPair}
use Rattle.bind_faults.specs.Faults.{all_of, and_then, found_or, refused_at}
use Rattle.bind_faults.specs.declared.fault.BindFault.{BindFault}
use Rattle.table_bind.specs.Tuples.{AreTuples}
use Rattle.spec_names.specs.Names.{place_of}
use Rattle.spec_model.specs.declared.question.Asked.{Asked}
use Rattle.spec_model.specs.declared.relation.Relation.{Relation}
use Rattle.order_bind.specs.Orders as text
use Rattle.order_bind.specs.TableOrders as table
use Rattle.order_bind.specs.declared.tables.records.PairRecord.{PairRecord}
use Rattle.question_syntax.specs.declared.trees.AskedTree.{AskedTree}
use Rattle.question_syntax.specs.declared.trees.AskedTree.TheVariants.{Ordering, Table}
use Rattle.question_bind.specs.declared.heads.Head.{Head}

-- ---- names

-- the place of the relation of a name
abbrev pub relation_named : List Relation → Named → Result ℕ BindFault
relation_named relations named = found_or (place_of (map (λ r. r.name) relations) named.name) (refused_at UnknownName named) Ok

-- the names of a relation's attributes, if it is there
abbrev pub attrs_of : Option Relation → List (List ℕ)
attrs_of None = []
attrs_of (Some r) = map (λ a. a.name) r.attrs

-- the rows of a relation, if it is there
abbrev pub rows_of : Option Relation → List Row
rows_of None = []
rows_of (Some r) = r.rows

-- the place of the attribute of a name in a relation
abbrev pub attr_named : List Relation → ℕ → Named → Result ℕ BindFault
attr_named relations rel named = found_or (place_of (attrs_of (slice_get relations rel)) named.name)
    (refused_at UnknownName named) Ok

-- the head of a part: an unknown relation is refused first, then an unknown attribute
abbrev pub head_of : List Relation → AskedTree → Result Head BindFault
head_of relations (Ordering o) =
    and_then (relation_named relations o.relation) (λ rel.
    and_then (attr_named relations rel o.attr) (λ attr. Ok record { rel = rel; attr = Some attr }))
head_of relations (Table relation document) =
    and_then (relation_named relations relation) (λ rel. Ok record { rel = rel; attr = None })

-- ---- tables

-- the tuples of a part's table; a text has none
abbrev pub IsRead : List (List ℕ × List ℕ) → AskedTree → Result (List (List Value)) BindFault → Type 0
IsRead told (Ordering o) tuples = tuples ≡ Ok []
IsRead told (Table relation document) tuples = AreTuples told document.name table.order_columns tuples

-- the tuples of each part's table, one part after another, up to the first that is refused
abbrev pub AreRead : List (List ℕ × List ℕ) → List AskedTree → Result (List (List (List Value))) BindFault → Type 0
AreRead told [] tables = tables ≡ Ok []
AreRead told (part ∷ parts) tables =
    (first : Result (List (List Value)) BindFault) × IsRead told part first
    × MatchResult first
    (λ tuples. (rest : Result (List (List (List Value))) BindFault) × AreRead told parts rest
    × (tables ≡ and_then rest (λ more. Ok (tuples ∷ more))))
    (λ fault. tables ≡ Err fault)

-- ---- pairs

-- the names of rows that a part says: those of a text, of one attribute; or those of a table's records
pub data Said : Type 0 where
  OfText : ℕ → List NamedPair → Said
  OfTable : List ℕ → List PairRecord → Said

-- a part whose attributes are found: the place of its relation, and what it says
pub record Part : Type 0 where
  pub rel : ℕ
  pub said : Said

-- heads with their parts and the tuples of their tables
pub record Joined : Type 0 where
  pub head : Head
  pub tree : AskedTree
  pub tuples : List (List Value)

abbrev pub joined : List Head → List AskedTree → List (List (List Value)) → List Joined
joined (head ∷ heads) (tree ∷ trees) (tuples ∷ tables) =
    record { head = head; tree = tree; tuples = tuples } ∷ joined heads trees tables
joined heads trees tables = []

-- the place of the attribute that a text says
abbrev pub attr_of : Option ℕ → ℕ
attr_of None = 0
attr_of (Some attr) = attr

-- a part with its attributes: the first record of a table whose attribute is unknown is refused
abbrev pub part_of : List Relation → Joined → Result Part BindFault
part_of relations j = by j.tree
  where
    by : AskedTree → Result Part BindFault
    by (Ordering o) = Ok record { rel = j.head.rel; said = OfText (attr_of j.head.attr) o.pairs }
    by (Table relation document) =
        and_then (all_of (table.record_in document.name (attrs_of (slice_get relations j.head.rel))) (enumerate_from 0 j.tuples))
        (λ records. Ok record { rel = j.head.rel; said = OfTable document.name records })

-- the pairs of rows that names say, among rows of these names: the first unknown row is refused
abbrev pub pairs_said : List (List ℕ) → Said → Result (List Pair) BindFault
pairs_said rows (OfText attr pairs) = all_of (text.pair_named rows attr) pairs
pairs_said rows (OfTable document records) = all_of (table.pair_in document rows) records

-- a part whose rows are found
pub record Paired : Type 0 where
  pub part : Part
  pub pairs : List Pair

abbrev pub paired : List Relation → Part → Result Paired BindFault
paired relations part =
    and_then (pairs_said (map (λ row. row.name) (rows_of (slice_get relations part.rel))) part.said)
    (λ pairs. Ok record { part = part; pairs = pairs })

-- the pairs, where each is of two different rows of one entity; otherwise the first that is not is refused
abbrev pub checked_pairs : List Row → Said → List Pair → Result (List Pair) BindFault
checked_pairs rows (OfText attr named) pairs = text.checked_pairs rows named (Ok pairs)
checked_pairs rows (OfTable document records) pairs = table.checked document rows pairs

-- pairs of a relation, as they are asked about
abbrev pub asked_pairs : ℕ → List Pair → List Asked
asked_pairs rel pairs = map (λ p. record { rel = record { 0 = rel }; pair = p }) pairs

abbrev pub asked_of : List Relation → Paired → Result (List Asked) BindFault
asked_of relations p =
    and_then (checked_pairs (rows_of (slice_get relations p.part.rel)) p.part.said p.pairs)
    (λ pairs. Ok (asked_pairs p.part.rel pairs))

-- these lists, one after another
abbrev pub all_asked : List (List Asked) → List Asked
all_asked [] = []
all_asked (asked ∷ lists) = asked ++ all_asked lists

-- what parts ask about, once their heads are found and their tables are read: each step goes over all parts before the next
-- one begins
abbrev pub asked_in : List Relation → List Head → List AskedTree → List (List (List Value)) → Result (List Asked) BindFault
asked_in relations heads trees tables =
    and_then (all_of (part_of relations) (joined heads trees tables)) (λ parts.
    and_then (all_of (paired relations) parts) (λ found.
    and_then (all_of (asked_of relations) found) (λ lists. Ok (all_asked lists))))

-- what a group of parts asks about, all of whose parts are gone over in each step
abbrev pub IsGroupAsked : List (List ℕ × List ℕ) → List Relation → List AskedTree → Result (List Asked) BindFault → Type 0
IsGroupAsked told relations trees asked = MatchResult (all_of (head_of relations) trees)
    (λ heads. (tables : Result (List (List (List Value))) BindFault) × AreRead told trees tables
    × (asked ≡ and_then tables (asked_in relations heads trees)))
    (λ fault. asked ≡ Err fault)

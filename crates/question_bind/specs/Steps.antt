-- The steps over the parts of a group as the code takes them, by the names of a specification: the words of private contracts.
use Rattle.std.specs.Prelude.{◌≡◌, ◌<◌, ◌^◌, ◌++◌, ℕ, Bool, true, false, List, [], ◌∷◌, length, nat_lt, if◌then◌else◌, All, Contains, Option, Some, None, Result, Ok, Err, slice_get}
use Rattle.std.specs.List.{enumerate_from}
use Rattle.currency_base.specs.declared.error_code.ErrorCode.TheVariants.{UnknownName}
use Rattle.currency_base.specs.declared.ids.RelId.{RelId}
use Rattle.currency_base.specs.declared.pair.Pair.{Pair}
use Rattle.currency_base.specs.declared.value.Value.{Value}
use Rattle.text_grammar.specs.declared.named.Named.{Named}
use Rattle.bind_faults.specs.Faults.{all_of, and_then, found_or, refused_at, unless}
use Rattle.bind_faults.specs.declared.fault.BindFault.{BindFault}
use Rattle.bind_faults.specs.declared.fault.BindFault.TheVariants.{Limit}
use Rattle.spec_model.specs.Spec.{Spec}
use Rattle.spec_model.specs.declared.question.Asked.{Asked}
use Rattle.spec_model.specs.declared.question.Question.{Question}
use Rattle.spec_model.specs.declared.question.Question.TheVariants.{Same}
use Rattle.spec_model.specs.declared.relation.Relation.{Relation}
use Rattle.spec_names.specs.NameLists.{NameLists}
use Rattle.spec_names.specs.Names.{all_names_of, place_of}
use Rattle.spec_names.specs.declared.names.RelationNames.{RelationNames}
use Rattle.order_bind.specs.Orders as text
use Rattle.order_bind.specs.TableOrders as table
use Rattle.order_bind.specs.declared.tables.records.PairRecord.{PairRecord}
use Rattle.question_syntax.specs.declared.trees.AskedTree.{AskedTree}
use Rattle.question_syntax.specs.declared.trees.AskedTree.TheVariants.{Ordering, Table}
use Rattle.question_bind.specs.declared.heads.Head.{Head}
use Rattle.question_bind.specs.Asked.{IsGroupAsked, asked_pairs, attr_of, rows_of}
use Rattle.question_bind.specs.Bound.{AreGroupsAsked, certain_of, first_again, groups_of, most_pairs, rel_ids}

-- ---- names

-- the names of relations and of the parts of each, so few that 32 bits number them
pub record AreNumbered (names : NameLists) : Type 0 where
  pub each : length names.each ≡ length names.relations
  pub few : length names.relations < 2 ^ 32
  pub attrs : All (λ n. length n.attrs < 2 ^ 32) names.each
  pub rows : All (λ n. length n.rows < 2 ^ 32) names.each

-- the names of a specification's parts, which are so few
pub record AreNamesOf (names : NameLists) (spec : Spec) : Type 0 where
  pub are : names ≡ all_names_of spec
  pub numbered : AreNumbered names

-- the place of a name, or its refusal
abbrev pub named_in : List (List ℕ) → Named → Result ℕ BindFault
named_in names named = found_or (place_of names named.name) (refused_at UnknownName named) Ok

-- the names of attributes, and of rows, if the relation is there
abbrev pub attrs_known : Option RelationNames → List (List ℕ)
attrs_known None = []
attrs_known (Some names) = names.attrs

abbrev pub rows_known : Option RelationNames → List (List ℕ)
rows_known None = []
rows_known (Some names) = names.rows

-- ---- heads

-- the head of a part
abbrev pub head_named : NameLists → AskedTree → Result Head BindFault
head_named names (Ordering o) =
    and_then (named_in names.relations o.relation) (λ rel.
    and_then (named_in (attrs_known (slice_get names.each rel)) o.attr) (λ attr. Ok record { rel = rel; attr = Some attr }))
head_named names (Table relation document) = and_then (named_in names.relations relation)
    (λ rel. Ok record { rel = rel; attr = None })

-- a head of one of the relations, whose attribute has a number of 32 bits
pub record IsHeadOn (names : NameLists) (head : Head) : Type 0 where
  pub rel : head.rel < length names.each
  pub attr : attr_of head.attr < 2 ^ 32

-- ---- tables

-- the part has a table
abbrev pub has_table : AskedTree → Bool
has_table (Ordering o) = false
has_table (Table relation document) = true

-- the part reads the table of this name
abbrev pub IsItsTable : AskedTree → List ℕ → Type 0
IsItsTable (Ordering o) name = ⊥
IsItsTable (Table relation document) name = document.name ≡ name

-- one of the parts reads the table of this name
pub record HasTable (trees : List AskedTree) (name : List ℕ) : Type 0 where
  pub part : AskedTree
  pub among : Contains trees part
  pub its : IsItsTable part name

-- ---- steps

-- the parts with their heads, and what is made of each so far
abbrev pub parts_with : {A : Type 0} → List Head → List AskedTree → List A → List (Head × AskedTree × A)
parts_with (head ∷ heads) (tree ∷ trees) (x ∷ xs) = (head, tree, x) ∷ parts_with heads trees xs
parts_with heads trees xs = []

-- the records of a part, from the tuples of its table
abbrev pub records_named : NameLists → Head × AskedTree × List (List Value) → Result (List PairRecord) BindFault
records_named names (head, Ordering o, tuples) = Ok []
records_named names (head, Table relation document, tuples) =
    all_of (table.record_in document.name (attrs_known (slice_get names.each head.rel))) (enumerate_from 0 tuples)

-- the pairs of a part, from the records of its table
abbrev pub pairs_named : NameLists → Head × AskedTree × List PairRecord → Result (List Pair) BindFault
pairs_named names (head, Ordering o, records) =
    all_of (text.pair_named (rows_known (slice_get names.each head.rel)) (attr_of head.attr)) o.pairs
pairs_named names (head, Table relation document, records) =
    all_of (table.pair_in document.name (rows_known (slice_get names.each head.rel))) records

-- a text has as many pairs as it says
abbrev pub HasAsManyPairs : Head × AskedTree × List Pair → Type 0
HasAsManyPairs (head, Ordering o, pairs) = length pairs ≡ length o.pairs
HasAsManyPairs (head, Table relation document, pairs) = Unit {0}

-- the pairs of a part, where each is of two different rows of one entity
abbrev pub checked_named : List Relation → Head × AskedTree × List Pair → Result (List Pair) BindFault
checked_named relations (head, Ordering o, pairs) = text.checked_pairs (rows_of (slice_get relations head.rel)) o.pairs (Ok pairs)
checked_named relations (head, Table relation document, pairs) =
    table.checked document.name (rows_of (slice_get relations head.rel)) pairs

-- what parts ask about, each in a list
abbrev pub asked_each : List Head → List (List Pair) → List (List Asked)
asked_each (head ∷ heads) (pairs ∷ lists) = asked_pairs head.rel pairs ∷ asked_each heads lists
asked_each heads lists = []

-- ---- groups

-- these after what was asked so far, unless there are too many then
abbrev pub within_limit : List Asked → List Asked → Result (List Asked) BindFault
within_limit so_far more = if nat_lt most_pairs (length (so_far ++ more)) then Err (Limit 12) else Ok (so_far ++ more)

-- what a group leaves after what was asked so far
abbrev pub IsGroupStep : List (List ℕ × List ℕ) → List Relation → List Asked → List AskedTree → Result (List Asked)
    BindFault → Type 0
IsGroupStep told relations so_far group outcome =
    (more : Result (List Asked) BindFault) × IsGroupAsked told relations group more ×
    (outcome ≡ and_then more (within_limit so_far))

-- the question on the pairs that parts say
abbrev pub IsCertain : List (List ℕ × List ℕ) → List Relation → ℕ → List AskedTree → Result Question BindFault → Type 0
IsCertain told relations line trees outcome =
    (pairs : Result (List Asked) BindFault) × AreGroupsAsked told relations [] (groups_of trees) pairs ×
    (outcome ≡ and_then pairs (certain_of line))

-- ---- relations

-- the relations at these places, unless one stands before
abbrev pub unless_again : List Named → List ℕ → Result (List RelId) BindFault
unless_again names places = unless (first_again [] names places) (Ok (rel_ids places))

-- the question on those of relations of these names that are named
abbrev pub same_in : List (List ℕ) → List Named → Result Question BindFault
same_in names named = and_then (all_of (named_in names) named) (λ places. and_then (unless_again named places)
    (λ rels. Ok (Same rels)))

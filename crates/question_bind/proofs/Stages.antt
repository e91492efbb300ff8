-- The steps that the code takes over the parts of a group are those that are due.
use Rattle.std.proofs.Common.{◌≡◌, ◌∙◌, ℕ, List, [], ◌∷◌, length, Result, Ok, Err, refl, sym, ap, arith}
use Rattle.std.specs.List.{enumerate_from}
use Rattle.currency_base.specs.declared.pair.Pair.{Pair}
use Rattle.currency_base.specs.declared.value.Value.{Value}
use Rattle.bind_faults.specs.Faults.{all_of, and_then}
use Rattle.bind_faults.specs.declared.fault.BindFault.{BindFault}
use Rattle.spec_model.specs.Spec.{Spec}
use Rattle.spec_model.specs.declared.question.Asked.{Asked}
use Rattle.spec_model.specs.declared.relation.Relation.{Relation}
use Rattle.spec_names.specs.Names.{all_names_of}
use Rattle.order_bind.specs.Orders as text
use Rattle.order_bind.specs.TableOrders as table
use Rattle.order_bind.specs.declared.tables.records.PairRecord.{PairRecord}
use Rattle.question_syntax.specs.declared.trees.AskedTree.{AskedTree}
use Rattle.question_syntax.specs.declared.trees.AskedTree.TheVariants.{Ordering, Table}
use Rattle.question_bind.specs.declared.heads.Head.{Head}
use Rattle.question_bind.specs.Asked.{Part, Paired, Said, OfText, OfTable, all_asked, asked_in, asked_of, asked_pairs, attr_of, joined, paired, part_of}
use Rattle.question_bind.specs.Steps.{asked_each, checked_named, pairs_named, parts_with, records_named}
use Rattle.question_bind.proofs.Known.{same_attrs, same_rows}
use Rattle.question_bind.proofs.Lists.{seen_step}

-- ---- parts, as the definition sees them

abbrev said_of : Head → AskedTree → List PairRecord → Said
said_of h (Ordering o) records = OfText (attr_of h.attr) o.pairs
said_of h (Table relation document) records = OfTable document.name records

abbrev part_seen : Head → AskedTree → List PairRecord → Part
part_seen h t records = record { rel = h.rel; said = said_of h t records }

abbrev parts_seen : List Head → List AskedTree → List (List PairRecord) → List Part
parts_seen (h ∷ heads) (t ∷ trees) (r ∷ records) = part_seen h t r ∷ parts_seen heads trees records
parts_seen heads trees records = []

abbrev paired_seen : List Head → List AskedTree → List (List PairRecord) → List (List Pair) → List Paired
paired_seen (h ∷ heads) (t ∷ trees) (r ∷ records) (p ∷ pairs) = record { part = part_seen h t r; pairs = p }
    ∷ paired_seen heads trees records pairs
paired_seen heads trees records pairs = []

-- ---- one part

part_same : (s : Spec) (h : Head) (t : AskedTree) (tuples : List (List Value))
    → part_of s.relations (record { head = h; tree = t; tuples = tuples }) ≡ and_then
    (records_named (all_names_of s) (h, t, tuples)) (λ records. Ok (part_seen h t records))
part_same s h (Ordering o) tuples = refl
part_same s h (Table relation document) tuples =
    ap (λ (names : List (List ℕ)). and_then (all_of (table.record_in document.name names) (enumerate_from 0 tuples))
    (λ records. Ok (part_seen h (Table relation document) records)))
    (sym (same_attrs s h.rel))

paired_same : (s : Spec) (h : Head) (t : AskedTree) (records : List PairRecord)
    → paired s.relations (part_seen h t records) ≡ and_then (pairs_named (all_names_of s) (h, t, records))
    (λ pairs. Ok (record { part = part_seen h t records; pairs = pairs }))
paired_same s h (Ordering o) records =
    ap (λ (names : List (List ℕ)). and_then (all_of (text.pair_named names (attr_of h.attr)) o.pairs)
    (λ pairs. let it : Paired = record { part = part_seen h (Ordering o) records; pairs = pairs } in Ok it))
    (sym (same_rows s h.rel))
paired_same s h (Table relation document) records =
    ap (λ (names : List (List ℕ)). and_then (all_of (table.pair_in document.name names) records)
    (λ pairs. let it : Paired = record { part = part_seen h (Table relation document) records; pairs = pairs } in Ok it))
    (sym (same_rows s h.rel))

asked_same : (relations : List Relation) (h : Head) (t : AskedTree) (records : List PairRecord) (pairs : List Pair)
    → asked_of relations (record { part = part_seen h t records; pairs = pairs })
    ≡ and_then (checked_named relations (h, t, pairs)) (λ checked. Ok (asked_pairs h.rel checked))
asked_same relations h (Ordering o) records pairs = refl
asked_same relations h (Table relation document) records pairs = refl

-- ---- all parts

parts_same : (s : Spec) (heads : List Head) (trees : List AskedTree) (tables : List (List (List Value)))
    → all_of (part_of s.relations) (joined heads trees tables)
    ≡ and_then (all_of (records_named (all_names_of s)) (parts_with heads trees tables))
    (λ records. Ok (parts_seen heads trees records))
parts_same s [] trees tables = refl
parts_same s (h ∷ heads) [] tables = refl
parts_same s (h ∷ heads) (t ∷ trees) [] = refl
parts_same s (h ∷ heads) (t ∷ trees) (x ∷ tables) =
    ap (λ r. and_then r (λ y. and_then (all_of (part_of s.relations) (joined heads trees tables))
    (λ ys. Ok (y ∷ ys)))) (part_same s h t x)
    ∙ ap (λ rs. and_then (and_then (records_named (all_names_of s) (h, t, x))
    (λ records. Ok (part_seen h t records))) (λ y. and_then rs (λ ys. Ok (y ∷ ys)))) (parts_same s heads trees tables)
    ∙ seen_step (part_seen h t) (parts_seen heads trees) (parts_seen (h ∷ heads) (t ∷ trees)) (λ r rs. refl)
    (records_named (all_names_of s) (h, t, x)) (all_of (records_named (all_names_of s)) (parts_with heads trees tables))

pairs_same : (s : Spec) (heads : List Head) (trees : List AskedTree) (records : List (List PairRecord))
    → all_of (paired s.relations) (parts_seen heads trees records)
    ≡ and_then (all_of (pairs_named (all_names_of s)) (parts_with heads trees records))
    (λ pairs. Ok (paired_seen heads trees records pairs))
pairs_same s [] trees records = refl
pairs_same s (h ∷ heads) [] records = refl
pairs_same s (h ∷ heads) (t ∷ trees) [] = refl
pairs_same s (h ∷ heads) (t ∷ trees) (x ∷ records) =
    let one : List Pair → Paired = λ pairs. record { part = part_seen h t x; pairs = pairs } in
    ap (λ r. and_then r (λ y. and_then (all_of (paired s.relations) (parts_seen heads trees records))
    (λ ys. Ok (y ∷ ys)))) (paired_same s h t x)
    ∙ ap (λ rs. and_then (and_then (pairs_named (all_names_of s) (h, t, x)) (λ pairs. Ok (one pairs)))
    (λ y. and_then rs (λ ys. Ok (y ∷ ys)))) (pairs_same s heads trees records)
    ∙ seen_step one (paired_seen heads trees records) (paired_seen (h ∷ heads) (t ∷ trees) (x ∷ records)) (λ r rs. refl)
    (pairs_named (all_names_of s) (h, t, x)) (all_of (pairs_named (all_names_of s)) (parts_with heads trees records))

lists_same : (relations : List Relation) (heads : List Head) (trees : List AskedTree)
    (records : List (List PairRecord)) (pairs : List (List Pair)) → length records ≡ length pairs
    → all_of (asked_of relations) (paired_seen heads trees records pairs)
    ≡ and_then (all_of (checked_named relations) (parts_with heads trees pairs)) (λ checked. Ok (asked_each heads checked))
lists_same relations [] trees records pairs as_many = refl
lists_same relations (h ∷ heads) [] records pairs as_many = refl
lists_same relations (h ∷ heads) (t ∷ trees) [] [] as_many = refl
lists_same relations (h ∷ heads) (t ∷ trees) [] (p ∷ pairs) as_many = absurd (omega arith)
lists_same relations (h ∷ heads) (t ∷ trees) (x ∷ records) [] as_many = refl
lists_same relations (h ∷ heads) (t ∷ trees) (x ∷ records) (p ∷ pairs) as_many =
    ap (λ r. and_then r (λ y. and_then (all_of (asked_of relations) (paired_seen heads trees records pairs))
    (λ ys. Ok (y ∷ ys)))) (asked_same relations h t x p)
    ∙ ap (λ rs. and_then (and_then (checked_named relations (h, t, p)) (λ checked. Ok (asked_pairs h.rel checked)))
    (λ y. and_then rs (λ ys. Ok (y ∷ ys)))) (lists_same relations heads trees records pairs (omega arith))
    ∙ seen_step (asked_pairs h.rel) (asked_each heads) (asked_each (h ∷ heads)) (λ r rs. refl)
    (checked_named relations (h, t, p)) (all_of (checked_named relations) (parts_with heads trees pairs))

-- ---- a group

-- what follows the records, and what follows the pairs
after_records : List Relation → Result (List Part) BindFault → Result (List Asked) BindFault
after_records relations parts = and_then parts (λ ps.
    and_then (all_of (paired relations) ps) (λ found.
    and_then (all_of (asked_of relations) found) (λ lists. Ok (all_asked lists))))

after_pairs : List Relation → Result (List Paired) BindFault → Result (List Asked) BindFault
after_pairs relations found = and_then found (λ f. and_then (all_of (asked_of relations) f) (λ lists. Ok (all_asked lists)))

-- where the records are refused
pub records_refused : (s : Spec) (heads : List Head) (trees : List AskedTree) (tables : List (List (List Value))) (e : BindFault)
    → all_of (records_named (all_names_of s)) (parts_with heads trees tables) ≡ Err e → asked_in s.relations heads
    trees tables ≡ Err e
unfolding after_records
records_refused s heads trees tables e is =
    ap (after_records s.relations) (parts_same s heads trees tables
    ∙ ap (λ r. and_then r (λ records. Ok (parts_seen heads trees records))) is)

-- once the records are found
records_found : (s : Spec) (heads : List Head) (trees : List AskedTree) (tables : List (List (List Value)))
    (records : List (List PairRecord))
    → all_of (records_named (all_names_of s)) (parts_with heads trees tables) ≡ Ok records
    → asked_in s.relations heads trees tables
    ≡ after_pairs s.relations (and_then (all_of (pairs_named (all_names_of s)) (parts_with heads trees records))
    (λ pairs. Ok (paired_seen heads trees records pairs)))
unfolding after_records after_pairs
records_found s heads trees tables records is =
    ap (after_records s.relations) (parts_same s heads trees tables
    ∙ ap (λ r. and_then r (λ rs. Ok (parts_seen heads trees rs))) is)
    ∙ ap (after_pairs s.relations) (pairs_same s heads trees records)

pub pairs_refused : (s : Spec) (heads : List Head) (trees : List AskedTree) (tables : List (List (List Value)))
    (records : List (List PairRecord)) (e : BindFault)
    → all_of (records_named (all_names_of s)) (parts_with heads trees tables) ≡ Ok records
    → all_of (pairs_named (all_names_of s)) (parts_with heads trees records) ≡ Err e → asked_in s.relations heads
    trees tables ≡ Err e
unfolding after_pairs
pairs_refused s heads trees tables records e read is =
    records_found s heads trees tables records read
    ∙ ap (λ r. after_pairs s.relations (and_then r (λ pairs. Ok (paired_seen heads trees records pairs)))) is

-- once the pairs are found
pub pairs_found : (s : Spec) (heads : List Head) (trees : List AskedTree) (tables : List (List (List Value)))
    (records : List (List PairRecord)) (pairs : List (List Pair))
    → length records ≡ length pairs
    → all_of (records_named (all_names_of s)) (parts_with heads trees tables) ≡ Ok records
    → all_of (pairs_named (all_names_of s)) (parts_with heads trees records) ≡ Ok pairs
    → asked_in s.relations heads trees tables
    ≡ and_then (all_of (checked_named s.relations) (parts_with heads trees pairs))
    (λ checked. Ok (all_asked (asked_each heads checked)))
unfolding after_pairs
pairs_found s heads trees tables records pairs as_many read is =
    records_found s heads trees tables records read
    ∙ ap (λ r. after_pairs s.relations (and_then r (λ ps. Ok (paired_seen heads trees records ps)))) is
    ∙ ap (λ r. and_then r (λ lists. Ok (all_asked lists))) (lists_same s.relations heads trees records pairs as_many)
    ∙ through (all_of (checked_named s.relations) (parts_with heads trees pairs))
  where
    through : (r : Result (List (List Pair)) BindFault)
        → and_then (and_then r (λ checked. Ok (asked_each heads checked))) (λ lists. Ok (all_asked lists))
        ≡ and_then r (λ checked. Ok (all_asked (asked_each heads checked)))
    through (Ok checked) = refl
    through (Err e) = refl

-- What a group asks about are pairs of two different rows of one entity.
use Rattle.std.proofs.Common.{◌≡◌, ◌∙◌, ◌<◌, ℕ, List, [], ◌∷◌, length, get_or, map, not, Option, Some, None, Result, Ok, Err, All, refl, sym, ap, subst, arith, slice_get}
use Rattle.std.specs.List.{enumerate_from, position}
use Rattle.std.proofs.lemmas.Bool.{not-false}
use Rattle.std.proofs.lemmas.List.{length-map}
use Rattle.std.proofs.lemmas.List.Elements.{All-append, All-cons, All-head, All-map, All-nil, All-same, All-tail, All-weaker}
use Rattle.currency_base.specs.declared.pair.Pair.{Pair}
use Rattle.currency_base.specs.declared.row.Row.{Row}
use Rattle.currency_base.specs.declared.value.Value.{Value}
use Rattle.text_grammar.specs.declared.named.NamedPair.{NamedPair}
use Rattle.bind_faults.specs.Faults.{all_of, and_then}
use Rattle.bind_faults.specs.declared.fault.BindFault.{BindFault}
use Rattle.spec_model.specs.Facts.{IsGivenPair}
use Rattle.spec_model.specs.Questions.{IsAskedPair}
use Rattle.spec_model.specs.Spec.{Spec}
use Rattle.spec_model.specs.declared.question.Asked.{Asked}
use Rattle.spec_model.specs.declared.relation.Attr.{Attr}
use Rattle.spec_model.specs.declared.relation.Relation.{Relation}
use Rattle.spec_names.specs.Names.{all_names_of, place_of}
use Rattle.order_bind.specs.Orders as text
use Rattle.order_bind.proofs.OrderLemmas.{item_at}
use Rattle.order_bind.proofs.OrderPairs as pairs
use Rattle.order_bind.specs.TableOrders as table
use Rattle.order_bind.specs.declared.tables.records.PairRecord.{PairRecord}
use Rattle.order_bind.proofs.Answered.{each_answer}
use Rattle.order_bind.proofs.Given.{IsWithin, pair_within, record_within}
use Rattle.question_syntax.specs.declared.trees.AskedTree.{AskedTree}
use Rattle.question_syntax.specs.declared.trees.AskedTree.TheVariants.{Ordering, Table}
use Rattle.question_bind.specs.declared.heads.Head.{Head}
use Rattle.question_bind.specs.Asked.{all_asked, asked_in, asked_pairs, attr_named, attr_of, attrs_of, head_of, relation_named, rows_of}
use Rattle.question_bind.specs.Steps.{asked_each, attrs_known, checked_named, pairs_named, parts_with, records_named, rows_known}
use Rattle.question_bind.proofs.Known.{same_attrs, same_rows}
use Rattle.question_bind.proofs.Parts.{answers_length, each_part}
use Rattle.question_bind.proofs.Stages.{pairs_found, pairs_refused, records_refused}

-- ---- heads

-- the attribute that a text says is one of the relation's
abbrev pub AttrFits : Relation → Option ℕ → AskedTree → Type 0
AttrFits r attr (Ordering o) = attr_of attr < length r.attrs
AttrFits r attr (Table relation document) = Unit {0}

-- a head is one of a relation
pub record HeadFits (relations : List Relation) (h : Head) (t : AskedTree) : Type 0 where
  pub r : Relation
  pub there : slice_get relations h.rel ≡ Some r
  pub attr : AttrFits r h.attr t

-- the relation of a name
relation_fits : (relations : List Relation) (names : List (List ℕ)) (name : List ℕ) (rel : ℕ) → names ≡ map
    (λ r. r.name) relations → place_of names name ≡ Some rel
    → (r : Relation) × (slice_get relations rel ≡ Some r)
relation_fits relations names name rel are at =
    item_at relations rel (omega (
      arith,
      pairs.place_within names name rel at,
      ap length are,
      length-map relations
          (λ (r : Relation). r.name),
    ))

pub head_fits : (relations : List Relation) (t : AskedTree) (h : Head) → head_of relations t ≡ Ok h → HeadFits relations h t
head_fits relations (Table relation document) h is = by (relation_named relations relation) refl is
  where
    by : (found : Result ℕ BindFault) → relation_named relations relation ≡ found → and_then found
        (λ rel. Ok record { rel = rel; attr = None }) ≡ Ok h
        → HeadFits relations h (Table relation document)
    by (Err e) at now = absurd (cc)
    by (Ok rel) at now =
        let there = relation_fits relations (map (λ (r : Relation). r.name) relations) relation.name rel refl
        (pairs.found_place _ _ rel at) in
        let same : ◌≡◌ {A = Head} (record { rel = rel; attr = None }) h = cc in
        subst (λ (head : Head). HeadFits relations head (Table relation document)) same
        (record { r = there.0; there = there.1; attr = tt })
head_fits relations (Ordering o) h is = by (relation_named relations o.relation) refl is
  where
    within : (rel : ℕ) (r : Relation) → slice_get relations rel ≡ Some r → (found : Result ℕ BindFault)
        → attr_named relations rel o.attr ≡ found
        → and_then found (λ attr. Ok record { rel = rel; attr = Some attr }) ≡ Ok h → HeadFits relations h (Ordering o)
    within rel r there (Err e) at now = absurd (cc)
    within rel r there (Ok attr) at now =
        let place : place_of (attrs_of (slice_get relations rel)) o.attr.name ≡ Some attr = pairs.found_place _ _ attr at in
        let low : attr < length (attrs_of (slice_get relations rel)) = pairs.place_within _ o.attr.name attr place in
        let count : length (attrs_of (slice_get relations rel)) ≡ length r.attrs =
        ap (λ (one : Option Relation). length (attrs_of one)) there ∙ length-map r.attrs (λ (a : Attr). a.name) in
        let same : ◌≡◌ {A = Head} (record { rel = rel; attr = Some attr }) h = cc in
        let fits : attr < length r.attrs = omega (arith, low, count) in
        subst (λ (head : Head). HeadFits relations head (Ordering o)) same (record { r = r; there = there; attr = fits })

    by : (found : Result ℕ BindFault) → relation_named relations o.relation ≡ found
        → and_then found (λ rel. and_then (attr_named relations rel o.attr)
        (λ attr. Ok record { rel = rel; attr = Some attr })) ≡ Ok h → HeadFits relations h (Ordering o)
    by (Err e) at now = absurd (cc)
    by (Ok rel) at now =
        let there = relation_fits relations (map (λ (r : Relation). r.name) relations) o.relation.name rel refl
        (pairs.found_place _ _ rel at) in
        within rel there.0 there.1 (attr_named relations rel o.attr) refl now

-- all heads are
heads_fit : {A : Type 0} (relations : List Relation) (trees : List AskedTree) (heads : List Head) (xs : List A)
    → all_of (head_of relations) trees ≡ Ok heads
    → All (λ p. HeadFits relations p.0 p.1) (parts_with heads trees xs)
heads_fit relations trees [] xs is = All-nil _
heads_fit relations [] (h ∷ heads) xs is = All-nil _
heads_fit relations (t ∷ trees) (h ∷ heads) [] is = All-nil _
heads_fit {A} relations (t ∷ trees) (h ∷ heads) (x ∷ xs) is =
    let found = pairs.first_ok (head_of relations) t trees (h ∷ heads) is in
    let one : found.0 ≡ h = cc in
    let others : all_of (head_of relations) trees ≡ Ok heads = cc in
    All-cons (λ (p : Head × AskedTree × A). HeadFits relations p.0 p.1) (h, t, x) (parts_with heads trees xs)
    (head_fits relations t h (found.2 ∙ ap Ok one)) (heads_fit relations trees heads xs others)

-- ---- records

pub record RecordsFit (relations : List Relation) (h : Head) (t : AskedTree) (records : List PairRecord) : Type 0 where
  pub head : HeadFits relations h t
  pub attrs : All (λ n. n.attr.0 < length head.r.attrs) records

-- the names of attributes and rows
attrs_count : (s : Spec) (rel : ℕ) (r : Relation) → slice_get s.relations rel ≡ Some r
    → length (attrs_known (slice_get (all_names_of s).each rel)) ≡ length r.attrs
attrs_count s rel r there = ap length (same_attrs s rel) ∙ ap (λ (one : Option Relation). length (attrs_of one))
    there ∙ length-map r.attrs (λ (a : Attr). a.name)

rows_count : (s : Spec) (rel : ℕ) (r : Relation) → slice_get s.relations rel ≡ Some r
    → length (rows_known (slice_get (all_names_of s).each rel)) ≡ length r.rows
rows_count s rel r there =
    ap length (same_rows s rel) ∙ length-map (rows_of (slice_get s.relations rel)) (λ (row : Row). row.name)
    ∙ ap (λ (one : Option Relation). length (rows_of one)) there

records_fit : (s : Spec) (h : Head) (t : AskedTree) (tuples : List (List Value)) (records : List PairRecord)
    → HeadFits s.relations h t
    → records_named (all_names_of s) (h, t, tuples) ≡ Ok records → RecordsFit s.relations h t records
records_fit s h (Ordering o) tuples records fits is =
    let none : records ≡ [] = cc in
    let P : PairRecord → Type 0 = λ n. n.attr.0 < length fits.r.attrs in
    record { head = fits; attrs = All-same P records [] none (All-nil P) }
records_fit s h (Table relation document) tuples records fits is =
    let names : List (List ℕ) = attrs_known (slice_get (all_names_of s).each h.rel) in
    let within : All (λ n. n.attr.0 < length names) records =
    each_answer (λ (n : ℕ × List Value). Unit {0}) (λ (n : PairRecord). n.attr.0 < length names)
    (table.record_in document.name names)
    (λ n r any. record_within document.name names n r) (enumerate_from 0 tuples) records (λ k d below. tt) is in
    record {
      head = fits;
      attrs = subst (λ count. All (λ (n : PairRecord). n.attr.0 < count) records)
          (attrs_count s h.rel fits.r fits.there) within;
    }

-- ---- pairs

pub record PairsFit (relations : List Relation) (h : Head) (t : AskedTree) (ps : List Pair) : Type 0 where
  pub head : HeadFits relations h t
  pub within : All (IsWithin (length head.r.attrs) (length head.r.rows)) ps

pairs_fit : (s : Spec) (h : Head) (t : AskedTree) (records : List PairRecord) (ps : List Pair)
    → RecordsFit s.relations h t records
    → pairs_named (all_names_of s) (h, t, records) ≡ Ok ps → PairsFit s.relations h t ps
pairs_fit s h (Ordering o) records ps fits is =
    let names : List (List ℕ) = rows_known (slice_get (all_names_of s).each h.rel) in
    let count = rows_count s h.rel fits.head.r fits.head.there in
    let low : attr_of h.attr < length fits.head.r.attrs = fits.head.attr in
    record {
      head = fits.head;
      within = each_answer (λ (n : NamedPair). Unit {0})
          (IsWithin (length fits.head.r.attrs) (length fits.head.r.rows)) (text.pair_named names (attr_of h.attr))
          (λ n p any at. let it = pairs.pair_named-within names (attr_of h.attr) n p at in
          record {
            attr = omega (arith, low, it.attr_is);
            earlier = omega (arith, count, it.earlier);
            later =
                omega (arith, count, it.later);
          })
          o.pairs ps (λ k d below. tt) is;
    }
pairs_fit s h (Table relation document) records ps fits is =
    let names : List (List ℕ) = rows_known (slice_get (all_names_of s).each h.rel) in
    let within : All (IsWithin (length fits.head.r.attrs) (length names)) ps =
    each_answer (λ (n : PairRecord). n.attr.0 < length fits.head.r.attrs)
    (IsWithin (length fits.head.r.attrs) (length names)) (table.pair_in document.name names)
    (λ n p. pair_within document.name names (length fits.head.r.attrs) n p) records ps fits.attrs is in
    record {
      head = fits.head;
      within = subst (λ count. All (IsWithin (length fits.head.r.attrs) count) ps)
          (rows_count s h.rel fits.head.r fits.head.there) within;
    }

-- ---- pairs that are checked

each_given : (r : Relation) (rows : List Row) (ps : List Pair) → rows ≡ r.rows
    → All (IsWithin (length r.attrs) (length r.rows)) ps
    → position (λ p. not (text.is_of_one_entity rows p)) ps ≡ None → All (IsGivenPair r) ps
each_given r rows ps are within none k d below =
    let it : IsWithin (length r.attrs) (length r.rows) (get_or ps k d) = within k d below in
    let right = pairs.one_entity rows (get_or ps k d) (not-false _ (pairs.position_none _ ps none k d below)) in
    record { attr = it.attr; earlier = it.earlier; later = it.later; one_entity = rw are at right }

pub record GivenFit (relations : List Relation) (h : Head) (t : AskedTree) (ps : List Pair) : Type 0 where
  pub head : HeadFits relations h t
  pub given : All (IsGivenPair head.r) ps

checked_fit : (relations : List Relation) (h : Head) (t : AskedTree) (ps checked : List Pair) → PairsFit relations h t ps
    → checked_named relations (h, t, ps) ≡ Ok checked → GivenFit relations h t checked
checked_fit relations h (Ordering o) ps checked fits is =
    by (position (λ p. not (text.is_of_one_entity (rows_of (slice_get relations h.rel)) p)) ps) refl is
  where
    by : (wrong : Option ℕ) → position (λ p. not (text.is_of_one_entity (rows_of (slice_get relations h.rel)) p)) ps ≡ wrong
        → text.unless_wrong o.pairs ps wrong ≡ Ok checked → GivenFit relations h (Ordering o) checked
    by (Some wrong) at now = absurd (cc)
    by None at now =
        let same : ps ≡ checked = cc in
        let given = each_given fits.head.r (rows_of (slice_get relations h.rel)) ps (ap rows_of fits.head.there) fits.within at in
        record { head = fits.head; given = subst (All (IsGivenPair fits.head.r)) same given }
checked_fit relations h (Table relation document) ps checked fits is =
    by (position (λ p. not (text.is_of_one_entity (rows_of (slice_get relations h.rel)) p)) ps) refl is
  where
    by : (wrong : Option ℕ) → position (λ p. not (text.is_of_one_entity (rows_of (slice_get relations h.rel)) p)) ps ≡ wrong
        → table.unless_wrong document.name ps wrong ≡ Ok checked → GivenFit relations h (Table relation document) checked
    by (Some wrong) at now = absurd (cc)
    by None at now =
        let same : ps ≡ checked = cc in
        let given = each_given fits.head.r (rows_of (slice_get relations h.rel)) ps (ap rows_of fits.head.there) fits.within at in
        record { head = fits.head; given = subst (All (IsGivenPair fits.head.r)) same given }

-- ---- what is asked about

asked_fit : (relations : List Relation) (h : Head) (t : AskedTree) (ps : List Pair) → GivenFit relations h t ps
    → All (IsAskedPair relations) (asked_pairs h.rel ps)
asked_fit relations h t ps fits =
    All-map (IsAskedPair relations) (λ (p : Pair). let it : Asked = record { rel = record { 0 = h.rel }; pair = p } in it) ps
    (All-weaker (IsGivenPair fits.head.r) (λ (p : Pair). IsAskedPair relations (record { rel = record { 0 = h.rel }; pair = p }))
    (λ p given. record { relation = fits.head.r; is_relation = fits.head.there; pair = given }) ps fits.given)

lists_fit : (relations : List Relation) (heads : List Head) (trees : List AskedTree) (lists : List (List Pair))
    → length trees ≡ length heads
    → All (λ p. GivenFit relations p.0 p.1 p.2) (parts_with heads trees lists) → All (IsAskedPair relations)
    (all_asked (asked_each heads lists))
lists_fit relations [] trees lists as_many all = All-nil _
lists_fit relations (h ∷ heads) trees [] as_many all = All-nil _
lists_fit relations (h ∷ heads) [] (ps ∷ lists) as_many all = absurd (omega arith)
lists_fit relations (h ∷ heads) (t ∷ trees) (ps ∷ lists) as_many all =
    let P : Head × AskedTree × List Pair → Type 0 = λ p. GivenFit relations p.0 p.1 p.2 in
    All-append (IsAskedPair relations) (asked_pairs h.rel ps) (all_asked (asked_each heads lists))
    (asked_fit relations h t ps (All-head P (h, t, ps) (parts_with heads trees lists) all))
    (lists_fit relations heads trees lists (omega arith) (All-tail P (h, t, ps) (parts_with heads trees lists) all))

-- ---- a group

pub group_fits : (s : Spec) (heads : List Head) (trees : List AskedTree) (tables : List (List (List Value))) (more : List Asked)
    → all_of (head_of s.relations) trees ≡ Ok heads → length tables ≡ length trees → asked_in s.relations heads trees
    tables ≡ Ok more → All (IsAskedPair s.relations) more
group_fits s heads trees tables more found tables_many is = by_records (all_of (records_named (all_names_of s))
    (parts_with heads trees tables)) refl
  where
    trees_many : length trees ≡ length heads
    trees_many = sym (pairs.all_of-length (head_of s.relations) trees heads found)

    by_checked : (ps : List (List Pair)) → All (λ p. PairsFit s.relations p.0 p.1 p.2) (parts_with heads trees ps)
        → (checked : Result (List (List Pair)) BindFault) → all_of (checked_named s.relations)
        (parts_with heads trees ps) ≡ checked
        → and_then checked (λ lists. Ok (all_asked (asked_each heads lists))) ≡ Ok more → All (IsAskedPair s.relations) more
    by_checked ps fit (Err e) at now = absurd (cc)
    by_checked ps fit (Ok lists) at now =
        let same : all_asked (asked_each heads lists) ≡ more = cc in
        subst (All (IsAskedPair s.relations)) same (lists_fit s.relations heads trees lists trees_many
        (each_part (λ p. PairsFit s.relations p.0 p.1 p.2) (λ p. GivenFit s.relations p.0 p.1 p.2)
        (checked_named s.relations) (checked_fit s.relations) heads trees ps lists fit at))

    by_pairs : (records : List (List PairRecord)) → all_of (records_named (all_names_of s))
        (parts_with heads trees tables) ≡ Ok records
        → (ps : Result (List (List Pair)) BindFault) → all_of (pairs_named (all_names_of s))
        (parts_with heads trees records) ≡ ps → All (IsAskedPair s.relations) more
    by_pairs records read (Err e) at =
        let no = sym (pairs_refused s heads trees tables records e read at) ∙ is in absurd (cc)
    by_pairs records read (Ok ps) at =
        let records_many = answers_length (records_named (all_names_of s)) heads trees tables records trees_many
        (tables_many ∙ trees_many) read in
        let pairs_many = answers_length (pairs_named (all_names_of s)) heads trees records ps trees_many records_many at in
        by_checked ps
        (each_part (λ p. RecordsFit s.relations p.0 p.1 p.2) (λ p. PairsFit s.relations p.0 p.1 p.2)
        (pairs_named (all_names_of s)) (pairs_fit s) heads trees records ps
        (each_part (λ p. HeadFits s.relations p.0 p.1) (λ p. RecordsFit s.relations p.0 p.1 p.2)
        (records_named (all_names_of s)) (records_fit s) heads trees tables records
        (heads_fit s.relations trees heads tables found) read) at)
        (all_of (checked_named s.relations) (parts_with heads trees ps)) refl
        (sym (pairs_found s heads trees tables records ps (records_many ∙ sym pairs_many) read at) ∙ is)

    by_records : (records : Result (List (List PairRecord)) BindFault) → all_of (records_named (all_names_of s))
        (parts_with heads trees tables) ≡ records → All (IsAskedPair s.relations) more
    by_records (Err e) at = let no = sym (records_refused s heads trees tables e at) ∙ is in absurd (cc)
    by_records (Ok records) at = by_pairs records at (all_of (pairs_named (all_names_of s)) (parts_with heads trees records)) refl

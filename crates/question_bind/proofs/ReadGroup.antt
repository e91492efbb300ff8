-- A group whose heads are found and whose tables are read: each step of the code is the next that is due.
use Rattle.std.proofs.Common.{◌≡◌, ◌∙◌, ◌<◌, ◌≤◌, ◌^◌, ◌++◌, ℕ, List, [], length, get_or, Option, Some, None, Result, Ok, Err, All, refl, sym, ap, subst, arith, lit<, slice_get}
use Rattle.std.proofs.lemmas.Bool.{cond-false, cond-true, le-ltb, lt-ltb}
use Rattle.std.proofs.lemmas.List.{length-map}
use Rattle.std.proofs.lemmas.List.Elements.{All-get_or, All-weaker}
use Rattle.std.proofs.lemmas.Option.{slice_get-get_or}
use Rattle.currency_base.specs.declared.pair.Pair.{Pair}
use Rattle.currency_base.specs.declared.value.Value.{Value}
use Rattle.text_grammar.specs.declared.named.Named.{Named}
use Rattle.bind_faults.specs.Faults.{all_of, and_then, IsDue}
use Rattle.bind_faults.specs.declared.fault.BindFault.{BindFault}
use Rattle.bind_faults.specs.declared.fault.BindFault.TheVariants.{Limit}
use Rattle.bind_faults.proofs.Outcomes.{due_through}
use Rattle.spec_model.specs.Spec.{Spec}
use Rattle.spec_model.specs.declared.question.Asked.{Asked}
use Rattle.spec_names.specs.NameLists.{NameLists}
use Rattle.spec_names.specs.Names.{names_of}
use Rattle.spec_names.specs.declared.names.RelationNames.{RelationNames}
use Rattle.order_bind.proofs.OrderPairs.{all_of-length, found_place, place_within}
use Rattle.order_bind.specs.declared.tables.records.PairRecord.{PairRecord}
use Rattle.order_bind.proofs.Answered.{each_answer}
use Rattle.question_syntax.specs.declared.trees.AskedTree.{AskedTree}
use Rattle.question_syntax.specs.declared.trees.AskedTree.TheVariants.{Ordering, Table}
use Rattle.question_bind.specs.declared.heads.Head.{Head}
use Rattle.question_bind.specs.Asked.{all_asked, asked_in}
use Rattle.question_bind.specs.Bound.{most_pairs}
use Rattle.question_bind.specs.Steps.{asked_each, attrs_known, checked_named, head_named, named_in, pairs_named, parts_with, records_named, within_limit, AreNamesOf, AreNumbered, HasAsManyPairs, IsHeadOn}
use Rattle.question_bind.proofs.Parts.{answers_length, each_part}
use Rattle.question_bind.proofs.Stages.{pairs_found, pairs_refused, records_refused}

-- ---- heads

-- a place that is found among names
place_found : (names : List (List ℕ)) (named : Named) (place : ℕ) → named_in names named ≡ Ok place → place < length names
place_found names named place is = place_within names named.name place (found_place _ _ place is)

head_on : (names : NameLists) (t : AskedTree) (h : Head) → AreNumbered names → head_named names t ≡ Ok h → IsHeadOn names h
head_on names (Table relation document) h many is = by (named_in names.relations relation) refl is
  where
    by : (found : Result ℕ BindFault) → named_in names.relations relation ≡ found → and_then found
        (λ rel. Ok record { rel = rel; attr = None }) ≡ Ok h → IsHeadOn names h
    by (Err e) at now = absurd (cc)
    by (Ok rel) at now =
        let same : ◌≡◌ {A = Head} (record { rel = rel; attr = None }) h = cc in
        let lt : rel < length names.each = omega (arith, place_found names.relations relation rel at, many.each) in
        subst (IsHeadOn names) same (record { rel = lt; attr = lit< tt })
head_on names (Ordering o) h many is = by (named_in names.relations o.relation) refl is
  where
    within : (rel : ℕ) → rel < length names.each → (found : Result ℕ BindFault)
        → named_in (attrs_known (slice_get names.each rel)) o.attr ≡ found
        → and_then found (λ attr. Ok record { rel = rel; attr = Some attr }) ≡ Ok h → IsHeadOn names h
    within rel lt (Err e) at now = absurd (cc)
    within rel lt (Ok attr) at now =
        let d : RelationNames = record { attrs = []; rows = []; entities = [] } in
        let there : slice_get names.each rel ≡ Some (get_or names.each rel d) = slice_get-get_or names.each rel d lt in
        let few : length (get_or names.each rel d).attrs < 2 ^ 32 = All-get_or
        (λ (n : RelationNames). length n.attrs < 2 ^ 32) names.each rel d lt many.attrs in
        let low : attr < length (attrs_known (slice_get names.each rel)) = place_found
        (attrs_known (slice_get names.each rel)) o.attr attr at in
        let count : length (attrs_known (slice_get names.each rel)) ≡ length (get_or names.each rel d).attrs =
        ap (λ (n : Option RelationNames). length (attrs_known n)) there in
        let same : ◌≡◌ {A = Head} (record { rel = rel; attr = Some attr }) h = cc in
        let small : attr < 2 ^ 32 = omega (arith, low, count, few) in
        subst (IsHeadOn names) same (record { rel = lt; attr = small })

    by : (found : Result ℕ BindFault) → named_in names.relations o.relation ≡ found
        → and_then found (λ rel. and_then (named_in (attrs_known (slice_get names.each rel)) o.attr)
        (λ attr. Ok record { rel = rel; attr = Some attr })) ≡ Ok h → IsHeadOn names h
    by (Err e) at now = absurd (cc)
    by (Ok rel) at now =
        within rel (omega (arith, place_found names.relations o.relation rel at, many.each))
        (named_in (attrs_known (slice_get names.each rel)) o.attr) refl now

pub heads_on : (names : NameLists) (trees : List AskedTree) (heads : List Head) → AreNumbered names
    → all_of (head_named names) trees ≡ Ok heads → All (IsHeadOn names) heads
heads_on names trees heads many is =
    each_answer (λ (t : AskedTree). Unit {0}) (IsHeadOn names) (head_named names) (λ t h any. head_on names t h many)
    trees heads (λ k d below. tt) is

pub trees_many : (names : NameLists) (trees : List AskedTree) (heads : List Head) → all_of (head_named names) trees ≡
    Ok heads → length trees ≡ length heads
trees_many names trees heads is = sym (all_of-length (head_named names) trees heads is)

-- of relations that are there
pub heads_below : (names : NameLists) (s : Spec) (heads : List Head) → AreNamesOf names s → All (IsHeadOn names)
    heads → All (λ h. h.rel < length s.relations) heads
heads_below names s heads known =
    let many : length names.each ≡ length s.relations = ap (λ (n : NameLists). length n.each) known.are
    ∙ length-map s.relations names_of in
    All-weaker (IsHeadOn names) (λ (h : Head). h.rel < length s.relations) (λ h on. omega (arith, on.rel, many)) heads

-- with numbers of 32 bits
pub heads_small : (names : NameLists) (heads : List Head) → AreNumbered names → All (IsHeadOn names) heads
    → All (λ h. h.rel < 2 ^ 32) heads
heads_small names heads many = All-weaker (IsHeadOn names) (λ (h : Head). h.rel < 2 ^ 32)
    (λ h on. omega (arith, on.rel, many.each, many.few)) heads

-- ---- steps

-- a text has as many pairs as it says
as_many : (names : NameLists) (h : Head) (t : AskedTree) (records : List PairRecord) (pairs : List Pair)
    → pairs_named names (h, t, records) ≡ Ok pairs → HasAsManyPairs (h, t, pairs)
as_many names h (Ordering o) records pairs is = all_of-length _ o.pairs pairs is
as_many names h (Table relation document) records pairs is = tt

pub all_as_many : (names : NameLists) (heads : List Head) (trees : List AskedTree) (records : List (List PairRecord))
    (pairs : List (List Pair))
    → all_of (pairs_named names) (parts_with heads trees records) ≡ Ok pairs → All HasAsManyPairs (parts_with heads trees pairs)
all_as_many names heads trees records pairs is =
    each_part (λ p. Unit {0}) HasAsManyPairs (pairs_named names) (λ h t x y any. as_many names h t x y) heads trees
    records pairs (λ k d below. tt) is

-- what was read of a group's tables, and found of its rows
pub record Found (names : NameLists) (s : Spec) (heads : List Head) (trees : List AskedTree)
    (tables : List (List (List Value))) (records : List (List PairRecord)) (pairs : List (List Pair)) : Type 0 where
  pub known : AreNamesOf names s
  pub trees_are : length trees ≡ length heads
  pub tables_are : length tables ≡ length heads
  pub records_are : all_of (records_named names) (parts_with heads trees tables) ≡ Ok records
  pub pairs_are : all_of (pairs_named names) (parts_with heads trees records) ≡ Ok pairs

-- the records are refused
pub no_records : (names : NameLists) (s : Spec) (heads : List Head) (trees : List AskedTree)
    (tables : List (List (List Value))) (so_far : List Asked) (e : BindFault) → AreNamesOf names s
    → IsDue (all_of (records_named names) (parts_with heads trees tables)) (Err e)
    → IsDue (and_then (asked_in s.relations heads trees tables) (within_limit so_far)) (Err e)
no_records names s heads trees tables so_far e known due =
    due_through (all_of (records_named names) (parts_with heads trees tables))
    (and_then (asked_in s.relations heads trees tables) (within_limit so_far)) e due
    (λ is. ap (λ r. and_then r (within_limit so_far))
    (records_refused s heads trees tables e
    (ap (λ (n : NameLists). all_of (records_named n) (parts_with heads trees tables)) (sym known.are) ∙ is)))

-- the pairs are refused
pub no_pairs : (names : NameLists) (s : Spec) (heads : List Head) (trees : List AskedTree)
    (tables : List (List (List Value))) (records given : List (List PairRecord)) (so_far : List Asked) (e : BindFault)
    → AreNamesOf names s → all_of (records_named names) (parts_with heads trees tables) ≡ Ok records → given ≡ records
    → IsDue (all_of (pairs_named names) (parts_with heads trees given)) (Err e)
    → IsDue (and_then (asked_in s.relations heads trees tables) (within_limit so_far)) (Err e)
no_pairs names s heads trees tables records given so_far e known read same due =
    due_through (all_of (pairs_named names) (parts_with heads trees given))
    (and_then (asked_in s.relations heads trees tables) (within_limit so_far)) e due
    (λ is. ap (λ r. and_then r (within_limit so_far)) (pairs_refused s heads trees tables records e
    (ap (λ (n : NameLists). all_of (records_named n) (parts_with heads trees tables)) (sym known.are) ∙ read)
    (ap (λ (n : NameLists). all_of (pairs_named n) (parts_with heads trees records)) (sym known.are)
    ∙ ap (λ rs. all_of (pairs_named names) (parts_with heads trees rs)) (sym same) ∙ is)))

-- what is due once they are found
asked_found : (names : NameLists) (s : Spec) (heads : List Head) (trees : List AskedTree)
    (tables : List (List (List Value))) (records : List (List PairRecord)) (pairs : List (List Pair))
    → Found names s heads trees tables records pairs
    → asked_in s.relations heads trees tables ≡ and_then
    (all_of (checked_named s.relations) (parts_with heads trees pairs)) (λ checked. Ok (all_asked (asked_each heads checked)))
asked_found names s heads trees tables records pairs found =
    let records_many = answers_length (records_named names) heads trees tables records found.trees_are
    found.tables_are found.records_are in
    let pairs_many = answers_length (pairs_named names) heads trees records pairs found.trees_are records_many found.pairs_are in
    pairs_found s heads trees tables records pairs (records_many ∙ sym pairs_many)
    (ap (λ (n : NameLists). all_of (records_named n) (parts_with heads trees tables)) (sym found.known.are) ∙ found.records_are)
    (ap (λ (n : NameLists). all_of (pairs_named n) (parts_with heads trees records)) (sym found.known.are) ∙ found.pairs_are)

-- a pair is not of one entity
pub not_checked : (names : NameLists) (s : Spec) (heads : List Head) (trees : List AskedTree)
    (tables : List (List (List Value))) (records : List (List PairRecord)) (pairs : List (List Pair)) (so_far : List Asked)
    (e : BindFault) → Found names s heads trees tables records pairs
    → IsDue (all_of (checked_named s.relations) (parts_with heads trees pairs)) (Err e)
    → IsDue (and_then (asked_in s.relations heads trees tables) (within_limit so_far)) (Err e)
not_checked names s heads trees tables records pairs so_far e found due =
    due_through (all_of (checked_named s.relations) (parts_with heads trees pairs))
    (and_then (asked_in s.relations heads trees tables) (within_limit so_far)) e due
    (λ is. ap (λ r. and_then r (within_limit so_far)) (asked_found names s heads trees tables records pairs found
    ∙ ap (λ r. and_then r (λ checked. Ok (all_asked (asked_each heads checked)))) is))

-- all is asked about
all_checked : (names : NameLists) (s : Spec) (heads : List Head) (trees : List AskedTree)
    (tables : List (List (List Value))) (records : List (List PairRecord)) (pairs checked given : List (List Pair))
    (so_far : List Asked) → Found names s heads trees tables records pairs → all_of (checked_named s.relations)
    (parts_with heads trees pairs) ≡ Ok checked → given ≡ checked
    → and_then (asked_in s.relations heads trees tables) (within_limit so_far) ≡ within_limit so_far
    (all_asked (asked_each heads given))
all_checked names s heads trees tables records pairs checked given so_far found is same =
    ap (λ r. and_then r (within_limit so_far)) (asked_found names s heads trees tables records pairs found
    ∙ ap (λ r. and_then r (λ cs. Ok (all_asked (asked_each heads cs)))) (is ∙ ap Ok (sym same)))

pub too_many : (names : NameLists) (s : Spec) (heads : List Head) (trees : List AskedTree)
    (tables : List (List (List Value))) (records : List (List PairRecord)) (pairs checked given : List (List Pair))
    (so_far asked : List Asked) → Found names s heads trees tables records pairs → all_of (checked_named s.relations)
    (parts_with heads trees pairs) ≡ Ok checked → given ≡ checked
    → asked ≡ so_far ++ all_asked (asked_each heads given) → most_pairs < length asked
    → and_then (asked_in s.relations heads trees tables) (within_limit so_far) ≡ Err (Limit 12)
too_many names s heads trees tables records pairs checked given so_far asked found is same all above =
    all_checked names s heads trees tables records pairs checked given so_far found is same
    ∙ cond-true _ _ _ (lt-ltb most_pairs (length (so_far ++ all_asked (asked_each heads given)))
    (omega (arith, above, ap length all)))

pub few_enough : (names : NameLists) (s : Spec) (heads : List Head) (trees : List AskedTree)
    (tables : List (List (List Value))) (records : List (List PairRecord)) (pairs checked given : List (List Pair))
    (so_far asked : List Asked) → Found names s heads trees tables records pairs → all_of (checked_named s.relations)
    (parts_with heads trees pairs) ≡ Ok checked → given ≡ checked
    → asked ≡ so_far ++ all_asked (asked_each heads given) → length asked ≤ most_pairs
    → and_then (asked_in s.relations heads trees tables) (within_limit so_far) ≡ Ok asked
few_enough names s heads trees tables records pairs checked given so_far asked found is same all few =
    all_checked names s heads trees tables records pairs checked given so_far found is same
    ∙ cond-false _ _ _ (le-ltb most_pairs (length (so_far ++ all_asked (asked_each heads given)))
    (omega (arith, few, ap length all)))
    ∙ ap Ok (sym all)

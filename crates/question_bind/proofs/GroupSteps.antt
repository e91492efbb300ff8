-- Groups of parts, asked about one after another, where the shelf tells its documents.
use Rattle.std.proofs.Common.{◌≡◌, ◌∙◌, ◌+◌, ◌<◌, ◌≤◌, ◌⊎◌, inl, inr, ℕ, Bool, true, false, cond, ltb, List, [], ◌∷◌, ◌++◌, length, drop, get_or, map, Some, None, Result, Ok, Err, All, Contains, IfOk, IfSome, refl, sym, ap, subst, arith}
use Rattle.std.specs.Prelude.{count_by}
use Rattle.std.proofs.lemmas.Bool.{cond-true, cond-false, le-leb, lt-leb, ltb-true, ltb-false}
use Rattle.std.proofs.lemmas.List.{at_drop_all, at_drop_more}
use Rattle.std.proofs.lemmas.List.Elements.{All-append}
use Rattle.std.proofs.lemmas.List.Recursion.{is_count_by}
use Rattle.bind_faults.specs.Faults.{all_of, and_then, IsDue, IsReadFault, IsReadFaultOf, IsDetermined}
use Rattle.bind_faults.specs.declared.fault.BindFault.{BindFault}
use Rattle.bind_faults.specs.declared.fault.BindFault.TheVariants.{Refused, CopyDiffers, Limit, ReadFault, NoMemory}
use Rattle.bind_faults.proofs.Outcomes.{all_reads, determined_fault, due_reads, same_read_fault_of}
use Rattle.spec_model.specs.Questions.{IsAskedPair, IsQuestionOn}
use Rattle.spec_model.specs.Spec.{Spec}
use Rattle.spec_model.specs.declared.question.Asked.{Asked}
use Rattle.spec_model.specs.declared.question.Question.{Question}
use Rattle.spec_model.specs.declared.relation.Relation.{Relation}
use Rattle.spec_names.specs.NameLists.{NameLists}
use Rattle.question_syntax.specs.declared.trees.AskedTree.{AskedTree}
use Rattle.question_syntax.specs.declared.trees.AskedTree.TheVariants.{Ordering, Table}
use Rattle.question_bind.specs.declared.heads.Head.{Head}
use Rattle.question_bind.specs.Asked.{AreRead, IsGroupAsked, asked_in, head_of}
use Rattle.question_bind.specs.Bound.{AreGroupsAsked, IsGroupTableDue, IsTableOf, certain_of, groups_of, most_pairs, tables_among}
use Rattle.question_bind.specs.Steps.{AreNamesOf, HasTable, IsCertain, IsGroupStep, IsItsTable, has_table, head_named, within_limit}
use Rattle.question_bind.proofs.Fit.{group_fits}
use Rattle.question_bind.proofs.Known.{heads_same}
use Rattle.question_bind.proofs.TablesRead.{Texts, Tuples}
use Rattle.question_bind.proofs.Unread.{head_reads}

abbrev pub Docs : Type 0
Docs = List (List ℕ × List ℕ)

-- an answer that is due and determined is what is due
pub due_determined : {A : Type 0} (due r : Result A BindFault) → IsDue due r → IsDetermined r → due ≡ r
due_determined due (Ok x) is determined = is
due_determined due (Err (Refused refusal)) is determined = is
due_determined due (Err (CopyDiffers document line target source)) is determined = is
due_determined due (Err (Limit k)) is determined = is
due_determined due (Err (ReadFault name)) is determined = absurd determined
due_determined due (Err NoMemory) is determined = absurd determined

-- ---- one group

-- where its heads are refused
pub heads_refused : (texts : Texts) (names : NameLists) (s : Spec) (so_far : List Asked) (group : List AskedTree)
    (e : BindFault) → AreNamesOf names s
    → IsDue (all_of (head_named names) group) (Err e) → IsDetermined {A = List Asked} (Err e) → IfSome texts
    (λ told. IsGroupStep told s.relations so_far group (Err e))
heads_refused None names s so_far group e known due determined = tt
heads_refused (Some told) names s so_far group e known due determined =
    let is : all_of (head_of s.relations) group ≡ Err e =
    sym (heads_same names s group known) ∙ due_determined (all_of (head_named names) group) (Err e) due
    (determined_fault (List Asked) (List Head) e determined) in
    (Err e, rw is refl, refl)

-- which is no read fault
pub heads_no_read : (A : Type 0) (names : NameLists) (s : Spec) (group : List AskedTree) (e : BindFault) → AreNamesOf names s
    → IsDue (all_of (head_named names) group) (Err e) → IsReadFault {A = A} (Err e) → ⊥
heads_no_read A names s group e known due h =
    due_reads A (all_of (head_named names) group) e
    (λ reads. all_reads (head_of s.relations) (head_reads s.relations) group
    (subst (λ (r : Result (List Head) BindFault). IsReadFault r) (heads_same names s group known) reads)) due h

-- where a table of its is refused
pub tables_step : (texts : Texts) (names : NameLists) (s : Spec) (so_far : List Asked) (group : List AskedTree)
    (heads : List Head) (e : BindFault) → AreNamesOf names s
    → all_of (head_named names) group ≡ Ok heads →
    (IsDetermined {A = List Tuples} (Err e) → IfSome texts (λ told. AreRead told group (Err e)))
    → IsDetermined {A = List Asked} (Err e) → IfSome texts (λ told. IsGroupStep told s.relations so_far group (Err e))
tables_step None names s so_far group heads e known found read determined = tt
tables_step (Some told) names s so_far group heads e known found read determined =
    let is : all_of (head_of s.relations) group ≡ Ok heads = sym (heads_same names s group known) ∙ found in
    let asked : IsGroupAsked told s.relations group (Err e) =
    rw is (Err e, read (determined_fault (List Asked) (List Tuples) e determined), refl) in
    (Err e, asked, refl)

-- or not read
pub table_due : (names : NameLists) (s : Spec) (group : List AskedTree) (heads : List Head) (e : BindFault)
    → AreNamesOf names s → all_of (head_named names) group ≡ Ok heads
    → ((name : List ℕ) → IsReadFaultOf {A = List Tuples} (Err e) name → HasTable group name)
    → (name : List ℕ) → IsReadFaultOf {A = List Asked} (Err e) name → IsTableOf s.relations group name
table_due names s group heads e known found has name h =
    let it : HasTable group name = has name (same_read_fault_of (List Asked) (List Tuples) e name h) in
    by it.part it.among it.its
  where
    by : (part : AskedTree) → Contains group part → IsItsTable part name → IsTableOf s.relations group name
    by (Ordering o) among its = absurd its
    by (Table relation document) among its =
        record {
          heads = heads;
          found = sym (heads_same names s group known) ∙ found;
          relation = relation;
          document =
              document;
          among = among;
          named = its;
        }

-- what is left of it once its tables are read
pub read_step : (texts : Texts) (names : NameLists) (s : Spec) (so_far : List Asked) (group : List AskedTree)
    (heads : List Head) (tables : List Tuples)
    (result : Result (List Asked) BindFault) → AreNamesOf names s → all_of (head_named names) group ≡ Ok heads
    → IfSome texts (λ told. AreRead told group (Ok tables))
    → IsDue (and_then (asked_in s.relations heads group tables) (within_limit so_far)) result
    → IsDetermined result → IfSome texts (λ told. IsGroupStep told s.relations so_far group result)
read_step None names s so_far group heads tables result known found read due determined = tt
read_step (Some told) names s so_far group heads tables result known found read due determined =
    let is : all_of (head_of s.relations) group ≡ Ok heads = sym (heads_same names s group known) ∙ found in
    let asked : IsGroupAsked told s.relations group (asked_in s.relations heads group tables) = rw is (Ok tables, read, refl) in (
      asked_in s.relations heads group tables,
      asked,
      sym (due_determined (and_then (asked_in s.relations heads group tables) (within_limit so_far)) result due determined),
    )

-- these after what was asked so far
limited : (so_far more next : List Asked) → within_limit so_far more ≡ Ok next →
    (length (so_far ++ more) ≤ most_pairs) × (next ≡ so_far ++ more)
limited so_far more next is = by (ltb most_pairs (length (so_far ++ more))) refl is
  where
    by : (above : Bool) → ltb most_pairs (length (so_far ++ more)) ≡ above → cond above (Err (Limit 12))
        (Ok (so_far ++ more)) ≡ Ok next
        → (length (so_far ++ more) ≤ most_pairs) × (next ≡ so_far ++ more)
    by true at now = absurd (cc)
    by false at now = (ltb-false _ _ at, cc)

-- what it asks about may be asked
pub read_fits : (names : NameLists) (s : Spec) (so_far : List Asked) (group : List AskedTree) (heads : List Head)
    (tables : List Tuples) (result : Result (List Asked) BindFault)
    → AreNamesOf names s → all_of (head_named names) group ≡ Ok heads → length tables ≡ length group
    → All (IsAskedPair s.relations) so_far
    → IsDue (and_then (asked_in s.relations heads group tables) (within_limit so_far)) result → IfOk result
    (All (IsAskedPair s.relations))
read_fits names s so_far group heads tables (Err e) known found many all due = tt
read_fits names s so_far group heads tables (Ok next) known found many all due =
    by (asked_in s.relations heads group tables) refl due
  where
    by : (more : Result (List Asked) BindFault) → asked_in s.relations heads group tables ≡ more → and_then more
        (within_limit so_far) ≡ Ok next → All (IsAskedPair s.relations) next
    by (Err e) at now = absurd (cc)
    by (Ok more) at now =
        let both : All (IsAskedPair s.relations) (so_far ++ more) =
        All-append (IsAskedPair s.relations) so_far more all
        (group_fits s heads group tables more (sym (heads_same names s group known) ∙ found) many at) in
        subst (All (IsAskedPair s.relations)) (sym (limited so_far more next now).1) both

-- ---- group after group

-- what a group that leaves this asks about
record Leaves (told : Docs) (relations : List Relation) (so_far : List Asked) (group : List AskedTree)
    (next : List Asked) : Type 0 where
  more : List Asked
  asked : IsGroupAsked told relations group (Ok more)
  few : length (so_far ++ more) ≤ most_pairs
  is : next ≡ so_far ++ more

leaves : (told : Docs) (relations : List Relation) (so_far : List Asked) (group : List AskedTree) (next : List Asked)
    → IsGroupStep told relations so_far group (Ok next)
    → Leaves told relations so_far group next
leaves told relations so_far group next step = by step.0 step.1 (sym step.2)
  where
    by : (more : Result (List Asked) BindFault) → IsGroupAsked told relations group more → and_then more
        (within_limit so_far) ≡ Ok next → Leaves told relations so_far group next
    by (Err e) asked now = absurd (cc)
    by (Ok more) asked now = let parts = limited so_far more next now in record {
      more = more;
      asked = asked;
      few =
          parts.0;
      is = parts.1;
    }

-- one group more is asked about
group_more : (told : Docs) (relations : List Relation) (so_far next : List Asked) (group : List AskedTree)
    (groups : List (List AskedTree)) (outcome : Result (List Asked) BindFault)
    → IsGroupStep told relations so_far group (Ok next) → AreGroupsAsked told relations next groups outcome
    → AreGroupsAsked told relations so_far (group ∷ groups) outcome
group_more told relations so_far next group groups outcome step rest =
    let it = leaves told relations so_far group next step in (
      Ok it.more,
      it.asked,
      inr (
        it.few,
        subst (λ (now : List Asked). AreGroupsAsked told relations now groups
            outcome) it.is rest,
      ),
    )

-- a group is refused
group_refused : (told : Docs) (relations : List Relation) (so_far : List Asked) (group : List AskedTree)
    (groups : List (List AskedTree)) (e : BindFault)
    → IsGroupStep told relations so_far group (Err e) → AreGroupsAsked told relations so_far (group ∷ groups) (Err e)
group_refused told relations so_far group groups e step = by step.0 step.1 step.2
  where
    limit : (more : List Asked) (above : Bool) → ltb most_pairs (length (so_far ++ more)) ≡ above
        → Err e ≡ cond above (Err (Limit 12)) (Ok (so_far ++ more))
        → ((most_pairs < length (so_far ++ more)) × (◌≡◌ {A = Result (List Asked) BindFault} (Err e) (Err (Limit 12))))
        ⊎ ((length (so_far ++ more) ≤ most_pairs) × AreGroupsAsked told relations (so_far ++ more) groups (Err e))
    limit more true at now = inl (ltb-true _ _ at, now)
    limit more false at now = absurd (cc)

    by : (more : Result (List Asked) BindFault) → IsGroupAsked told relations group more → Err e ≡ and_then more
        (within_limit so_far)
        → AreGroupsAsked told relations so_far (group ∷ groups) (Err e)
    by (Err fault) asked now = (Err fault, asked, now)
    by (Ok more) asked now = (Ok more, asked, limit more (ltb most_pairs (length (so_far ++ more))) refl now)

-- the only group
pub one_group : (texts : Texts) (relations : List Relation) (group : List AskedTree) (result : Result (List Asked) BindFault)
    → IfSome texts (λ told. IsGroupStep told relations [] group result) → IfSome texts
    (λ told. AreGroupsAsked told relations [] (group ∷ []) result)
one_group None relations group result step = tt
one_group (Some told) relations group (Ok next) step = group_more told relations [] next group [] (Ok next) step refl
one_group (Some told) relations group (Err e) step = group_refused told relations [] group [] e step

-- parts as groups of one each
abbrev pub single : List AskedTree → List (List AskedTree)
single trees = map (λ t. t ∷ []) trees

-- what is left of the parts is asked about after this as all parts are
abbrev pub AskedSoFar : Texts → List Relation → List Asked → List AskedTree → List AskedTree → Type 0
AskedSoFar texts relations so_far rest all = IfSome texts (λ told. (outcome : Result (List Asked) BindFault)
    → AreGroupsAsked told relations so_far (single rest) outcome → AreGroupsAsked told relations [] (single all) outcome)

-- a table that is due by what is left of the parts is due by all of them
abbrev pub DueSoFar : Texts → List Relation → List Asked → List AskedTree → List AskedTree → Type 0
DueSoFar texts relations so_far rest all = IfSome texts (λ told. (table : List ℕ)
    → IsGroupTableDue told relations so_far (single rest) table → IsGroupTableDue told relations [] (single all) table)

pub asked_none : (texts : Texts) (relations : List Relation) (all : List AskedTree) → AskedSoFar texts relations []
    (drop 0 all) all
asked_none None relations all = tt
asked_none (Some told) relations all = λ outcome asked. asked

pub due_none : (texts : Texts) (relations : List Relation) (all : List AskedTree) → DueSoFar texts relations [] (drop 0 all) all
due_none None relations all = tt
due_none (Some told) relations all = λ table due. due

drop_at : (xs : List AskedTree) (i : ℕ) (x : AskedTree) → i < length xs → x ≡ get_or xs i x → drop i xs ≡ x ∷ drop (i + 1) xs
drop_at xs i x lt is = at_drop_more (λ ys. ys) xs i x lt ∙ ap (λ y. y ∷ drop (i + 1) xs) (sym is)

-- a step of a part that is the whole group
pub part_step : (texts now : Texts) (relations : List Relation) (so_far : List Asked) (group : List AskedTree)
    (t : AskedTree) (step : Result (List Asked) BindFault)
    → now ≡ texts → group ≡ t ∷ [] → IfSome now (λ told. IsGroupStep told relations so_far group step) → IfSome texts
    (λ told. IsGroupStep told relations so_far (t ∷ []) step)
part_step texts now relations so_far group t step same is h =
    subst (λ (texts' : Texts). IfSome texts' (λ told. IsGroupStep told relations so_far (t ∷ []) step)) same
    (subst (λ (g : List AskedTree). IfSome now (λ told. IsGroupStep told relations so_far g step)) is h)

pub asked_more : (texts : Texts) (relations : List Relation) (so_far next : List Asked) (items : List AskedTree)
    (i : ℕ) (t : AskedTree) → i < length items → t ≡ get_or items i t
    → IfSome texts (λ told. IsGroupStep told relations so_far (t ∷ []) (Ok next)) → AskedSoFar texts relations so_far
    (drop i items) items
    → AskedSoFar texts relations next (drop (i + 1) items) items
asked_more None relations so_far next items i t lt is step so = tt
asked_more (Some told) relations so_far next items i t lt is step so = λ outcome rest.
    so outcome (subst (λ (ts : List AskedTree). AreGroupsAsked told relations so_far (single ts) outcome)
    (sym (drop_at items i t lt is))
    (group_more told relations so_far next (t ∷ []) (single (drop (i + 1) items)) outcome step rest))

pub due_more : (texts : Texts) (relations : List Relation) (so_far next : List Asked) (items : List AskedTree)
    (i : ℕ) (t : AskedTree) → i < length items → t ≡ get_or items i t
    → IfSome texts (λ told. IsGroupStep told relations so_far (t ∷ []) (Ok next)) → DueSoFar texts relations so_far
    (drop i items) items
    → DueSoFar texts relations next (drop (i + 1) items) items
due_more None relations so_far next items i t lt is step so = tt
due_more (Some told) relations so_far next items i t lt is step so = λ table rest.
    let it = leaves told relations so_far (t ∷ []) next step in
    so table (subst (λ (ts : List AskedTree). IsGroupTableDue told relations so_far (single ts) table)
    (sym (drop_at items i t lt is))
    (inr (
      it.more,
      it.asked,
      it.few,
      subst (λ (now : List Asked). IsGroupTableDue told relations now
          (single (drop (i + 1) items)) table) it.is rest,
    )))

pub asked_all : (texts : Texts) (relations : List Relation) (so_far : List Asked) (items : List AskedTree) (i : ℕ)
    → length items ≤ i
    → AskedSoFar texts relations so_far (drop i items) items → IfSome texts (λ told. AreGroupsAsked told relations []
    (single items) (Ok so_far))
asked_all None relations so_far items i le so = tt
asked_all (Some told) relations so_far items i le so =
    so (Ok so_far) (subst (λ (ts : List AskedTree). AreGroupsAsked told relations so_far (single ts) (Ok so_far))
    (sym (at_drop_all (λ xs. xs) items i le)) refl)

pub asked_refused : (texts : Texts) (relations : List Relation) (so_far : List Asked) (items : List AskedTree)
    (i : ℕ) (t : AskedTree) (e : BindFault) → i < length items → t ≡ get_or items i t
    → IfSome texts (λ told. IsGroupStep told relations so_far (t ∷ []) (Err e)) → AskedSoFar texts relations so_far
    (drop i items) items
    → IfSome texts (λ told. AreGroupsAsked told relations [] (single items) (Err e))
asked_refused None relations so_far items i t e lt is step so = tt
asked_refused (Some told) relations so_far items i t e lt is step so =
    so (Err e) (subst (λ (ts : List AskedTree). AreGroupsAsked told relations so_far (single ts) (Err e))
    (sym (drop_at items i t lt is))
    (group_refused told relations so_far (t ∷ []) (single (drop (i + 1) items)) e step))

pub due_refused : (texts : Texts) (relations : List Relation) (so_far : List Asked) (items : List AskedTree) (i : ℕ)
    (t : AskedTree) (group : List AskedTree) (e : BindFault)
    → i < length items → t ≡ get_or items i t → group ≡ t ∷ []
    → ((name : List ℕ) → IsReadFaultOf {A = List Asked} (Err e) name → IsTableOf relations group name)
    → DueSoFar texts relations so_far (drop i items) items
    → (name : List ℕ) → IsReadFaultOf {A = List Asked} (Err e) name → IfSome texts
    (λ told. IsGroupTableDue told relations [] (single items) name)
due_refused None relations so_far items i t group e lt is whole its so name h = tt
due_refused (Some told) relations so_far items i t group e lt is whole its so name h =
    so name (subst (λ (ts : List AskedTree). IsGroupTableDue told relations so_far (single ts) name)
    (sym (drop_at items i t lt is))
    (inl (subst (λ (g : List AskedTree). IsTableOf relations g name) whole (its name h))))

-- ---- which groups

one_more : (t : AskedTree) (trees : List AskedTree) → tables_among (t ∷ trees) ≡ cond (has_table t)
    (1 + tables_among trees) (tables_among trees)
one_more (Ordering o) trees = refl
one_more (Table relation document) trees = omega arith

same_count : (trees : List AskedTree) → tables_among trees ≡ count_by has_table trees
same_count = is_count_by tables_among has_table refl one_more

all_at_once : (trees : List AskedTree) → count_by has_table trees ≤ 1 → groups_of trees ≡ trees ∷ []
all_at_once trees le = cond-true _ _ _ (le-leb (tables_among trees) 1 (omega (arith, same_count trees, le)))

one_by_one : (trees : List AskedTree) → 1 < count_by has_table trees → groups_of trees ≡ single trees
one_by_one trees lt = cond-false _ _ _ (lt-leb (tables_among trees) 1 (omega (arith, same_count trees, lt)))

-- what is asked about of all parts at once
pub asked_at_once : (texts : Texts) (relations : List Relation) (trees : List AskedTree) (count : ℕ)
    (none : List Asked) (result : Result (List Asked) BindFault)
    → count ≡ count_by has_table trees → count ≤ 1 → none ≡ []
    → (IsDetermined result → IfSome texts (λ told. IsGroupStep told relations none trees result)) → IsDetermined result
    → IfSome texts (λ told. AreGroupsAsked told relations [] (groups_of trees) result)
asked_at_once texts relations trees count none result counted le empty step determined =
    subst (λ (groups : List (List AskedTree)). IfSome texts (λ told. AreGroupsAsked told relations [] groups result))
    (sym (all_at_once trees (omega (arith, counted, le))))
    (one_group texts relations trees result
    (subst (λ (so_far : List Asked). IfSome texts (λ told. IsGroupStep told relations so_far trees result)) empty
    (step determined)))

-- and one after another
pub asked_in_turn : (texts : Texts) (relations : List Relation) (trees : List AskedTree) (count : ℕ)
    (result : Result (List Asked) BindFault) → count ≡ count_by has_table trees → 1 < count
    → (IsDetermined result → IfSome texts (λ told. AreGroupsAsked told relations [] (single trees) result)) → IsDetermined result
    → IfSome texts (λ told. AreGroupsAsked told relations [] (groups_of trees) result)
asked_in_turn texts relations trees count result counted lt asked determined =
    subst (λ (groups : List (List AskedTree)). IfSome texts (λ told. AreGroupsAsked told relations [] groups result))
    (sym (one_by_one trees (omega (arith, counted, lt)))) (asked determined)

-- the table that is due
pub due_at_once : (texts : Texts) (relations : List Relation) (trees : List AskedTree) (count : ℕ)
    (result : Result (List Asked) BindFault) → count ≡ count_by has_table trees → count ≤ 1
    → ((name : List ℕ) → IsReadFaultOf result name → IsTableOf relations trees name) → (name : List ℕ) → IsReadFaultOf result name
    → IfSome texts (λ told. IsGroupTableDue told relations [] (groups_of trees) name)
due_at_once None relations trees count result counted le its name h = tt
due_at_once (Some told) relations trees count result counted le its name h =
    subst (λ (groups : List (List AskedTree)). IsGroupTableDue told relations [] groups name)
    (sym (all_at_once trees (omega (arith, counted, le)))) (inl (its name h))

pub due_in_turn : (texts : Texts) (relations : List Relation) (trees : List AskedTree) (count : ℕ)
    (result : Result (List Asked) BindFault) → count ≡ count_by has_table trees → 1 < count
    → ((name : List ℕ) → IsReadFaultOf result name → IfSome texts (λ told. IsGroupTableDue told relations []
    (single trees) name)) → (name : List ℕ) → IsReadFaultOf result name
    → IfSome texts (λ told. IsGroupTableDue told relations [] (groups_of trees) name)
due_in_turn texts relations trees count result counted lt due name h =
    subst (λ (groups : List (List AskedTree)). IfSome texts (λ told. IsGroupTableDue told relations [] groups name))
    (sym (one_by_one trees (omega (arith, counted, lt)))) (due name h)

-- ---- questions on pairs

pub certain_bound : (texts : Texts) (relations : List Relation) (line : ℕ) (trees : List AskedTree)
    (pairs : List Asked) (result : Result Question BindFault)
    → IfSome texts (λ told. AreGroupsAsked told relations [] (groups_of trees) (Ok pairs)) → result ≡ certain_of line pairs
    → IfSome texts (λ told. IsCertain told relations line trees result)
certain_bound None relations line trees pairs result asked is = tt
certain_bound (Some told) relations line trees pairs result asked is = (Ok pairs, asked, is)

-- it may be asked
pub certain_fits : (relations : List Relation) (line : ℕ) (pairs : List Asked) (result : Result Question BindFault)
    → All (IsAskedPair relations) pairs → result ≡ certain_of line pairs
    → IfOk result (IsQuestionOn relations)
certain_fits relations line [] result all is = rw is tt
certain_fits relations line (p ∷ pairs) result all is = rw is all

-- and is no read fault
pub certain_no_read : (line : ℕ) (pairs : List Asked) (result : Result Question BindFault) (name : List ℕ)
    → result ≡ certain_of line pairs → IsReadFaultOf result name → ⊥
certain_no_read line [] result name is h = let none : IsReadFaultOf (certain_of line []) name =
    subst (λ (r : Result Question BindFault). IsReadFaultOf r name) is h in none
certain_no_read line (p ∷ pairs) result name is h = let none : IsReadFaultOf (certain_of line (p ∷ pairs)) name =
    subst (λ (r : Result Question BindFault). IsReadFaultOf r name) is h in none

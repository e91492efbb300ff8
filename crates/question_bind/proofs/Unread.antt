-- What parts ask about, once their tables are read, is no read fault.
use Rattle.std.proofs.Common.{ℕ, ◌++◌, Bool, true, false, cond, eqb, List, [], ◌∷◌, map, Some, None, Result, Ok, Err, slice_get}
use Rattle.std.specs.Prelude.{nat_lt, length}
use Rattle.std.specs.List.{enumerate_from, list_any}
use Rattle.currency_base.specs.declared.error_code.ErrorCode.TheVariants.{DuplicateName, UnknownName}
use Rattle.currency_base.specs.declared.pair.Pair.{Pair}
use Rattle.currency_base.specs.declared.row.Row.{Row}
use Rattle.currency_base.specs.declared.value.Value.{Value}
use Rattle.text_grammar.specs.declared.named.Named.{Named}
use Rattle.bind_faults.specs.Faults.{all_of, and_then, found_or, refused_at, unless, IsDue, IsReadFault}
use Rattle.bind_faults.specs.declared.fault.BindFault.{BindFault}
use Rattle.bind_faults.specs.declared.fault.BindFault.TheVariants.{Limit}
use Rattle.bind_faults.proofs.Outcomes.{all_reads, due_reads, then_reads}
use Rattle.spec_model.specs.declared.question.Asked.{Asked}
use Rattle.spec_model.specs.declared.question.Question.{Question}
use Rattle.spec_model.specs.declared.question.Question.TheVariants.{Same}
use Rattle.spec_model.specs.declared.relation.Relation.{Relation}
use Rattle.spec_names.specs.Names.{place_of}
use Rattle.order_bind.proofs.OrderFaults as text_faults
use Rattle.order_bind.specs.TableOrders as table
use Rattle.order_bind.proofs.Made as table_faults
use Rattle.question_syntax.specs.declared.trees.AskedTree.{AskedTree}
use Rattle.question_syntax.specs.declared.trees.AskedTree.TheVariants.{Ordering, Table}
use Rattle.question_bind.specs.declared.heads.Head.{Head}
use Rattle.question_bind.specs.Asked.{Part, Paired, Said, OfText, OfTable, all_asked, asked_in, asked_of, asked_pairs, attr_named, attrs_of, checked_pairs, head_of, joined, paired, pairs_said, part_of, relation_named, rows_of}
use Rattle.question_bind.specs.Bound.{first_again, most_pairs, rel_ids, same_of}
use Rattle.question_bind.specs.Steps.{within_limit}

named_reads : (names : List (List ℕ)) (named : Named) → IsReadFault (found_or {A = ℕ} (place_of names named.name)
    (refused_at UnknownName named) Ok) → ⊥
named_reads names named = text_faults.found_reads {A = ℕ} (place_of names named.name) UnknownName named Ok (λ k f. f)

pub relation_reads : (relations : List Relation) (named : Named) → IsReadFault (relation_named relations named) → ⊥
relation_reads relations named = named_reads (map (λ r. r.name) relations) named

pub head_reads : (relations : List Relation) (t : AskedTree) → IsReadFault (head_of relations t) → ⊥
head_reads relations (Ordering o) =
    then_reads (relation_named relations o.relation) (λ rel. and_then (attr_named relations rel o.attr)
    (λ attr. Ok record { rel = rel; attr = Some attr }))
    (relation_reads relations o.relation)
    (λ rel. then_reads (attr_named relations rel o.attr) (λ attr. Ok record { rel = rel; attr = Some attr })
    (named_reads (attrs_of (slice_get relations rel)) o.attr) (λ attr none. none))
head_reads relations (Table relation document) =
    then_reads (relation_named relations relation) (λ rel. Ok record { rel = rel; attr = None })
    (relation_reads relations relation) (λ rel none. none)

part_reads : (relations : List Relation) (head : Head) (t : AskedTree) (tuples : List (List Value)) → IsReadFault
    (part_of relations (record { head = head; tree = t; tuples = tuples })) → ⊥
part_reads relations head (Ordering o) tuples h = h
part_reads relations head (Table relation document) tuples h =
    let records = table.record_in document.name (attrs_of (slice_get relations head.rel)) in
    then_reads (all_of records (enumerate_from 0 tuples))
    (λ rs. let it : Part = record { rel = head.rel; said = OfTable document.name rs } in Ok it)
    (all_reads records (table_faults.record_reads document.name (attrs_of (slice_get relations head.rel)))
    (enumerate_from 0 tuples)) (λ rs none. none) h

said_reads : (rows : List (List ℕ)) (said : Said) → IsReadFault (pairs_said rows said) → ⊥
said_reads rows (OfText attr pairs) = text_faults.pairs_reads rows attr pairs
said_reads rows (OfTable document records) = all_reads (table.pair_in document rows)
    (table_faults.pair_in_reads document rows) records

paired_reads : (relations : List Relation) (part : Part) → IsReadFault (paired relations part) → ⊥
paired_reads relations part =
    then_reads (pairs_said (map (λ (row : Row). row.name) (rows_of (slice_get relations part.rel))) part.said)
    (λ pairs. let it : Paired = record { part = part; pairs = pairs } in Ok it)
    (said_reads (map (λ (row : Row). row.name) (rows_of (slice_get relations part.rel))) part.said) (λ pairs none. none)

checked_reads : (rows : List Row) (said : Said) (pairs : List Pair) → IsReadFault (checked_pairs rows said pairs) → ⊥
checked_reads rows (OfText attr named) pairs = text_faults.checked_reads rows named (Ok pairs) (λ none. none)
checked_reads rows (OfTable document records) pairs = table_faults.checked_reads document rows pairs

asked_of_reads : (relations : List Relation) (p : Paired) → IsReadFault (asked_of relations p) → ⊥
asked_of_reads relations p =
    then_reads (checked_pairs (rows_of (slice_get relations p.part.rel)) p.part.said p.pairs)
    (λ pairs. Ok (asked_pairs p.part.rel pairs))
    (checked_reads (rows_of (slice_get relations p.part.rel)) p.part.said p.pairs) (λ pairs none. none)

asked_reads : (relations : List Relation) (heads : List Head) (trees : List AskedTree)
    (tables : List (List (List Value))) → IsReadFault (asked_in relations heads trees tables) → ⊥
asked_reads relations heads trees tables =
    then_reads (all_of (part_of relations) (joined heads trees tables))
    (λ parts. and_then (all_of (paired relations) parts) (λ found. and_then (all_of (asked_of relations) found)
    (λ lists. Ok (all_asked lists))))
    (all_reads (part_of relations) (λ j. part_reads relations j.head j.tree j.tuples) (joined heads trees tables))
    (λ parts. then_reads (all_of (paired relations) parts) (λ found. and_then (all_of (asked_of relations) found)
    (λ lists. Ok (all_asked lists)))
    (all_reads (paired relations) (paired_reads relations) parts)
    (λ found. then_reads (all_of (asked_of relations) found) (λ lists. Ok (all_asked lists))
    (all_reads (asked_of relations) (asked_of_reads relations) found) (λ lists none. none)))

limit_reads : (so_far more : List Asked) → IsReadFault (within_limit so_far more) → ⊥
limit_reads so_far more h = by (nat_lt most_pairs (length (so_far ++ more))) h
  where
    by : (above : Bool) → IsReadFault (cond above (Err (Limit 12)) (Ok (so_far ++ more))) → ⊥
    by true none = none
    by false none = none

-- an answer that is due is no read fault
due_no_read : {A : Type 0} (due result : Result A BindFault) → (IsReadFault due → ⊥) → IsDue due result → IsReadFault result → ⊥
due_no_read due (Ok x) reads is h = h
due_no_read {A} due (Err fault) reads is h = due_reads A due fault reads is h

pub group_no_read : (relations : List Relation) (heads : List Head) (trees : List AskedTree)
    (tables : List (List (List Value))) (so_far : List Asked) (result : Result (List Asked) BindFault)
    → IsDue (and_then (asked_in relations heads trees tables) (within_limit so_far)) result → IsReadFault result → ⊥
group_no_read relations heads trees tables so_far result =
    due_no_read (and_then (asked_in relations heads trees tables) (within_limit so_far)) result
    (then_reads (asked_in relations heads trees tables) (within_limit so_far)
    (asked_reads relations heads trees tables) (limit_reads so_far))

-- ---- relations

-- the first refusal of a relation that stands before
first_reads : (so_far : List ℕ) (names : List Named) (rels : List ℕ) (question : Question) → IsReadFault
    (unless (first_again so_far names rels) (Ok question)) → ⊥
first_reads so_far [] rels question h = h
first_reads so_far (named ∷ names) [] question h = h
first_reads so_far (named ∷ names) (rel ∷ rels) question h = by (list_any (λ r. eqb r rel) so_far)
    (first_reads (so_far ++ rel ∷ []) names rels question) h
  where
    by : (before : Bool) → (IsReadFault (unless (first_again (so_far ++ rel ∷ []) names rels) (Ok question)) → ⊥)
        → IsReadFault (unless (cond before (Some (refused_at DuplicateName named))
        (first_again (so_far ++ rel ∷ []) names rels)) (Ok question)) → ⊥
    by true later none = none
    by false later h' = later h'

pub same_no_read : (relations : List Relation) (names : List Named) (result : Result Question BindFault)
    → IsDue (same_of relations names) result → IsReadFault result → ⊥
same_no_read relations names result =
    due_no_read (same_of relations names) result
    (then_reads (all_of (relation_named relations) names) (λ rels. unless (first_again [] names rels) (Ok (Same (rel_ids rels))))
    (all_reads (relation_named relations) (relation_reads relations) names)
    (λ rels. first_reads [] names rels (Same (rel_ids rels))))

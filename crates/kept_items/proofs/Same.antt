-- The marked items of a specification are those that are kept, where those are kept that are marked.
use Rattle.std.proofs.Common.{◌≡◌, ◌∙◌, ◌+◌, ◌<◌, ◌≤◌, ℕ, zero, suc, Bool, true, false, if◌then◌else◌, List, [], ◌∷◌, ◌++◌, Option, Some, None, length, map, slice_get, slice_index_or, refl, sym, ap, ap₂, subst, ⊎_elim, arith}
use Rattle.std.proofs.lemmas.Bool.{cases_eq, cases_lt}
use Rattle.std.proofs.lemmas.List.{length-map}
use Rattle.std.proofs.lemmas.Option.{none-some, same_Some}
use Rattle.currency_base.specs.declared.ids.RowId.{RowId}
use Rattle.currency_base.specs.declared.pair.Pair.{Pair}
use Rattle.copy_functions.specs.Copies.{CopyFunction, source_at}
use Rattle.denial_rules.specs.declared.rule.Rule.{Rule}
use Rattle.spec_model.specs.Facts.{IsCopyAmong, IsSpecification}
use Rattle.spec_model.specs.Spec.{Spec}
use Rattle.spec_model.specs.declared.relation.Relation.{Relation}
use Rattle.spec_items.specs.Items.{given_items, rule_items, mapped_item, mapped_items, rows_of, copy_items, items_of}
use Rattle.spec_items.specs.Kept.{Keeps, kept_pairs, kept_relations, kept_rules, kept_sources, kept_copies}
use Rattle.spec_items.specs.declared.item.Item.TheVariants as item
use Rattle.kept_items.specs.Alike.{AreCopiesAlike}
use Rattle.kept_items.specs.Marked.{is_marked, HasMarked}
use Rattle.kept_items.specs.Steps.{marked, given_count, marked_relations, mapped_count, marked_rows, target_count, marked_copies, marked_spec}
use Rattle.kept_items.proofs.Counted.{given_many, mapped_many, front_many}
use Rattle.kept_items.proofs.Filtered.{put_if}
use Rattle.kept_items.proofs.Places.{item_has}
use Rattle.kept_items.proofs.Rows.{none_beyond, source_is, rows_of_copy}
use Rattle.kept_items.proofs.Segments.{KeepsFrom, from_start, moved, front, back, first, rest}

-- ---- mapped rows of a copy function that are kept

-- a copy function with its mapped rows that are kept
abbrev kept_copy : Keeps → ℕ → CopyFunction → CopyFunction
kept_copy keeps k copy = record copy { sources = kept_sources keeps k 0 copy.sources }

none_either : (test : Bool) → ◌≡◌ {A = Option RowId} None (if test then None else None)
none_either true = refl
none_either false = refl

source_from : (keeps : Keeps) (k first : ℕ) (sources : List (Option RowId)) (n : ℕ)
    → slice_index_or (kept_sources keeps k first sources) n None
    ≡ (if keeps (item.Copy (record { 0 = k }) (record { 0 = first + n })) then slice_index_or sources n None else None)
source_from keeps k first [] n = none_either (keeps (item.Copy (record { 0 = k }) (record { 0 = first + n })))
source_from keeps k first (source ∷ sources) zero =
    let same : first ≡ first + 0 = omega arith in
    ap (λ m. if keeps (item.Copy (record { 0 = k }) (record { 0 = m })) then source else None) same
source_from keeps k first (source ∷ sources) (suc n) =
    let same : suc first + n ≡ first + suc n = omega arith in
    source_from keeps k (suc first) sources n
    ∙ ap (λ m. if keeps (item.Copy (record { 0 = k }) (record { 0 = m })) then slice_index_or sources n None else None) same

kept_source : (keeps : Keeps) (k : ℕ) (copy : CopyFunction) (row : RowId)
    → source_at (kept_copy keeps k copy) row ≡ (if keeps (item.Copy (record { 0 = k }) row) then source_at copy row else None)
kept_source keeps k copy row =
    let same : 0 + row.0 ≡ row.0 = omega arith in
    source_from keeps k 0 copy.sources row.0
    ∙ ap (λ m. if keeps (item.Copy (record { 0 = k }) (record { 0 = m })) then source_at copy row else None) same

-- two tests that agree where there is something to test
one_test : (o : Option RowId) (test other : Bool) → ((source : RowId) → o ≡ Some source → test ≡ other)
    → (if test then o else None) ≡ (if other then o else None)
one_test None test other same = sym (none_either test) ∙ none_either other
one_test (Some source) test other same = ap (λ t. if t then Some source else None) (same source refl)

-- nothing is there to test
no_test : (o : Option RowId) (test : Bool) → ((source : RowId) → o ≡ Some source → ⊥) → None ≡ (if test then o else None)
no_test None test none = none_either test
no_test (Some source) test none = absurd (none source refl)

module _ (marks : List Bool) (keeps : Keeps) where
  -- ---- given pairs

  same_pairs : (rel at : ℕ) (ps : List Pair) → KeepsFrom marks keeps at (map (λ p. item.Given (record { 0 = rel }) p) ps)
      → marked marks at ps ≡ kept_pairs keeps rel ps
  same_pairs rel at [] are = refl
  same_pairs rel at (p ∷ ps) are =
      let i = item.Given (record { 0 = rel }) p in
      let later = map (λ p. item.Given (record { 0 = rel }) p) ps in
      ap (λ test. put_if test p (marked marks (at + 1) ps)) (sym (first marks keeps at i later are))
      ∙ ap (put_if (keeps i) p) (same_pairs rel (at + 1) ps (rest marks keeps at i later are))

  same_relations : (rel at : ℕ) (rs : List Relation) → KeepsFrom marks keeps at (given_items rel rs)
      → marked_relations marks at rs ≡ kept_relations keeps rel rs
  same_relations rel at [] are = refl
  same_relations rel at (r ∷ rs) are =
      let here = map (λ p. item.Given (record { 0 = rel }) p) r.given in
      let later = given_items (suc rel) rs in
      let many : at + length here ≡ at + length r.given = ap (λ n. at + n)
      (length-map r.given (λ p. item.Given (record { 0 = rel }) p)) in
      ap₂ (λ (given : List Pair) (qs : List Relation). record r { given = given } ∷ qs)
      (same_pairs rel at r.given (front marks keeps at here later are))
      (same_relations (suc rel) (at + length r.given) rs
      (moved marks keeps (at + length here) (at + length r.given) later many (back marks keeps at here later are)))

  -- ---- rules

  same_rules : (k at : ℕ) (rules : List Rule) → KeepsFrom marks keeps at (rule_items k rules)
      → marked marks at rules ≡ kept_rules keeps k rules
  same_rules k at [] are = refl
  same_rules k at (rule ∷ rules) are =
      let i = item.Rule (record { 0 = k }) in
      let later = rule_items (suc k) rules in
      ap (λ test. put_if test rule (marked marks (at + 1) rules)) (sym (first marks keeps at i later are))
      ∙ ap (put_if (keeps i) rule) (same_rules (suc k) (at + 1) rules (rest marks keeps at i later are))

  -- ---- copy functions

  row_kept : (k at : ℕ) (copy : CopyFunction) (rows : ℕ) → KeepsFrom marks keeps at (mapped_items k copy rows)
      → (row source : RowId) → row.0 < rows → source_at copy row ≡ Some source
      → is_marked marks (at + mapped_count copy row.0) ≡ keeps (item.Copy (record { 0 = k }) row)
  row_kept k at copy zero are row source below maps = absurd (omega (arith, below))
  row_kept k at copy (suc rows) are row source below maps = ⊎_elim
      (λ (same : row.0 ≡ rows).
      let last = back marks keeps at (mapped_items k copy rows) (mapped_item k rows (source_at copy (record { 0 = rows }))) are in
      let here : KeepsFrom marks keeps (at + length (mapped_items k copy row.0)) (mapped_item k row.0 (source_at copy row)) =
      subst
      (λ n. KeepsFrom marks keeps (at + length (mapped_items k copy n)) (mapped_item k n (source_at copy (record { 0 = n }))))
      (sym same) last in
      let one = subst (λ o. KeepsFrom marks keeps (at + length (mapped_items k copy row.0)) (mapped_item k row.0 o)) maps here in
      ap (λ n. is_marked marks (at + n)) (sym (mapped_many k copy row.0))
      ∙ sym (first marks keeps (at + length (mapped_items k copy row.0)) (item.Copy (record { 0 = k }) row) [] one))
      (λ (apart : row.0 ≡ rows → ⊥).
      row_kept k at copy rows
      (front marks keeps at (mapped_items k copy rows) (mapped_item k rows (source_at copy (record { 0 = rows }))) are)
      row source (omega arith) maps)
      (cases_eq row.0 rows)

  same_source : (k at : ℕ) (copy : CopyFunction) (rows : ℕ) → KeepsFrom marks keeps at (mapped_items k copy rows)
      → ((row source : RowId) → source_at copy row ≡ Some source → row.0 < rows) → (row : RowId)
      → source_at (marked_rows marks at copy rows) row ≡ source_at (kept_copy keeps k copy) row
  same_source k at copy rows are within row =
      let kept = keeps (item.Copy (record { 0 = k }) row) in
      ⊎_elim
      (λ (below : row.0 < rows).
      source_is marks at copy rows row below
      ∙ one_test (source_at copy row) (is_marked marks (at + mapped_count copy row.0)) kept
      (λ source maps. row_kept k at copy rows are row source below maps))
      (λ (beyond : rows ≤ row.0).
      none_beyond marks at copy rows row beyond
      ∙ no_test (source_at copy row) kept (λ source maps. let below = within row source maps in omega (arith, below, beyond)))
      (cases_lt row.0 rows)
      ∙ sym (kept_source keeps k copy row)

  same_copy : (k at : ℕ) (copy : CopyFunction) (rows : ℕ) → KeepsFrom marks keeps at (mapped_items k copy rows)
      → ((row source : RowId) → source_at copy row ≡ Some source → row.0 < rows)
      → AreCopiesAlike (marked_rows marks at copy rows) (kept_copy keeps k copy)
  same_copy k at copy rows are within =
      let of = rows_of_copy marks at copy rows in
      record {
        name = of.name;
        target = of.target;
        source = of.source;
        places = of.places;
        sources = same_source k at copy rows are within;
      }

  -- mapped rows are rows of the target relation
  rows_within : (relations : List Relation) (copy : CopyFunction) → IsCopyAmong relations copy → (row source : RowId)
      → source_at copy row ≡ Some source → row.0 < target_count relations copy
  rows_within relations copy is row source maps =
      subst (λ o. row.0 < rows_of o) (sym is.is_target) (is.copied row source maps).in_target

  same_copies : (relations : List Relation) (k at : ℕ) (copies : List CopyFunction)
      → KeepsFrom marks keeps at (copy_items relations k copies)
      → ((j : ℕ) (copy : CopyFunction) → slice_get copies j ≡ Some copy → IsCopyAmong relations copy)
      → (j : ℕ) (new old : CopyFunction) → slice_get (marked_copies relations marks at copies) j ≡ Some new
      → slice_get (kept_copies keeps k copies) j ≡ Some old
      → AreCopiesAlike new old
  same_copies relations k at [] are among j new old at_new at_old = absurd (none-some new at_new)
  same_copies relations k at (copy ∷ copies) are among zero new old at_new at_old =
      let rows = target_count relations copy in
      let later = copy_items relations (suc k) copies in
      let alike = same_copy k at copy rows (front marks keeps at (mapped_items k copy rows) later are)
      (rows_within relations copy (among 0 copy refl)) in
      subst (λ (q : CopyFunction). AreCopiesAlike new q) (same_Some (kept_copy keeps k copy) old at_old)
      (subst (λ (q : CopyFunction). AreCopiesAlike q (kept_copy keeps k copy))
      (same_Some (marked_rows marks at copy rows) new at_new) alike)
  same_copies relations k at (copy ∷ copies) are among (suc j) new old at_new at_old =
      let rows = target_count relations copy in
      let here = mapped_items k copy rows in
      let later = copy_items relations (suc k) copies in
      let many : at + length here ≡ at + mapped_count copy rows = ap (λ n. at + n) (mapped_many k copy rows) in
      same_copies relations (suc k) (at + mapped_count copy rows) copies
      (moved marks keeps (at + length here) (at + mapped_count copy rows) later many (back marks keeps at here later are))
      (λ i c is. among (suc i) c is) j new old at_new at_old

  as_many : (relations : List Relation) (k at : ℕ) (copies : List CopyFunction)
      → length (marked_copies relations marks at copies) ≡ length (kept_copies keeps k copies)
  as_many relations k at [] = refl
  as_many relations k at (copy ∷ copies) =
      ap suc (as_many relations (suc k) (at + mapped_count copy (target_count relations copy)) copies)

-- ---- all together

pub has_marked : (s : Spec) (marks : List Bool) → IsSpecification s → HasMarked s marks (marked_spec s marks)
has_marked s marks is keeps are =
    let given = given_items 0 s.relations in
    let rules = rule_items 0 s.rules in
    let copies = copy_items s.relations 0 s.copies in
    let all = from_start marks keeps (items_of s) are in
    let both = front marks keeps 0 (given ++ rules) copies all in
    let many = given_many 0 s.relations in
    let many_more = front_many s in
    let rules_at : 0 + length given ≡ given_count s.relations = omega (arith, many) in
    let copies_at : 0 + length (given ++ rules) ≡ given_count s.relations + length s.rules = omega (arith, many_more) in
    record {
      relations = same_relations marks keeps 0 0 s.relations (front marks keeps 0 given rules both);
      rules = same_rules marks keeps 0 (given_count s.relations) s.rules
          (moved marks keeps (0 + length given) (given_count s.relations) rules rules_at (back marks keeps 0 given rules both));
      per_copy = as_many marks keeps s.relations 0 (given_count s.relations + length s.rules) s.copies;
      copies = same_copies marks keeps s.relations 0 (given_count s.relations + length s.rules) s.copies
          (moved marks keeps (0 + length (given ++ rules)) (given_count s.relations + length s.rules) copies copies_at
          (back marks keeps 0 (given ++ rules) copies all))
          (λ j copy at. item_has (IsCopyAmong s.relations) s.copies is.copies.each j copy at);
    }

spec_of : List Relation → List Rule → List CopyFunction → Spec
spec_of relations rules copies = record { relations = relations; rules = rules; copies = copies }

-- a specification into which relations, rules and copy functions were put one after the other
pub put_whole : (s : Spec) (marks : List Bool) (none one two three : Spec) (a b : ℕ)
    → one ≡ record none { relations = marked_relations marks 0 s.relations } → a ≡ 0 + given_count s.relations
    → two ≡ record one { rules = marked marks a s.rules } → b ≡ a + length s.rules
    → three ≡ record two { copies = marked_copies s.relations marks b s.copies } → three ≡ marked_spec s marks
unfolding spec_of
put_whole s marks none one two three a b relations at rules next copies =
    let new_relations = marked_relations marks 0 s.relations in
    let new_copies : ℕ → List CopyFunction = λ n. marked_copies s.relations marks n s.copies in
    let rules_at : a ≡ given_count s.relations = omega (arith, at) in
    let copies_at : b ≡ given_count s.relations + length s.rules = omega (arith, at, next) in
    copies
    ∙ ap (λ rs. spec_of rs two.rules (new_copies b))
    (ap (λ (q : Spec). q.relations) rules ∙ ap (λ (q : Spec). q.relations) relations)
    ∙ ap (λ rs. spec_of new_relations rs (new_copies b)) (ap (λ (q : Spec). q.rules) rules)
    ∙ ap (λ n. spec_of new_relations (marked marks n s.rules) (new_copies b)) rules_at
    ∙ ap (λ n. spec_of new_relations (marked marks (given_count s.relations) s.rules) (new_copies n)) copies_at

-- What stands at each place of the relations, rules and copy functions that are kept.
use Rattle.std.proofs.Common.{◌≡◌, ◌∙◌, ◌+◌, ℕ, zero, suc, Bool, true, false, if◌then◌else◌, List, [], ◌∷◌, Option, Some, None, option_map, length, slice_get, slice_index_or, refl, sym, ap, subst, inl, inr, ⊎_elim, arith}
use Rattle.std.proofs.lemmas.Option.{same_Some, none-some}
use Rattle.currency_base.specs.declared.ids.RowId.{RowId}
use Rattle.currency_base.specs.declared.pair.Pair.{Pair}
use Rattle.copy_functions.specs.Copies.{CopyFunction, source_at}
use Rattle.denial_rules.specs.declared.rule.Rule.{Rule}
use Rattle.spec_model.specs.declared.relation.Relation.{Relation}
use Rattle.spec_items.specs.Kept.{Keeps, kept_pairs, kept_relations, kept_rules, kept_sources, kept_copies}
use Rattle.spec_items.specs.declared.item.Item.TheVariants as item
use Rattle.spec_items.proofs.Members.{IsIn, of_option, in_kept, kept_first, kept_later}

-- ---- relations

-- a relation with its given pairs that are kept
abbrev pub kept_relation : Keeps → ℕ → Relation → Relation
kept_relation keeps rel r = record r { given = kept_pairs keeps rel r.given }

relation_from : (keeps : Keeps) (first : ℕ) (rs : List Relation) (rel : ℕ)
    → slice_get (kept_relations keeps first rs) rel ≡ option_map (kept_relation keeps (first + rel)) (slice_get rs rel)
relation_from keeps first [] rel = refl
relation_from keeps first (r ∷ rs) zero = let same : first ≡ first + 0 = omega arith in ap
    (λ n. Some (kept_relation keeps n r)) same
relation_from keeps first (r ∷ rs) (suc rel) =
    let same : suc first + rel ≡ first + suc rel = omega arith in
    relation_from keeps (suc first) rs rel ∙ ap (λ n. option_map (kept_relation keeps n) (slice_get rs rel)) same

relation_at : (keeps : Keeps) (rs : List Relation) (rel : ℕ)
    → slice_get (kept_relations keeps 0 rs) rel ≡ option_map (kept_relation keeps rel) (slice_get rs rel)
relation_at keeps rs rel =
    let same : 0 + rel ≡ rel = omega arith in
    relation_from keeps 0 rs rel ∙ ap (λ n. option_map (kept_relation keeps n) (slice_get rs rel)) same

-- the relation that one is kept of
pub whole_relation : (keeps : Keeps) (rs : List Relation) (rel : ℕ) (r : Relation)
    → slice_get (kept_relations keeps 0 rs) rel ≡ Some r
    → (whole : Relation) × (slice_get rs rel ≡ Some whole) × (kept_relation keeps rel whole ≡ r)
whole_relation keeps rs rel r at = of_option (kept_relation keeps rel) (slice_get rs rel) r (sym (relation_at keeps rs rel) ∙ at)

pub relation_kept : (keeps : Keeps) (rs : List Relation) (rel : ℕ) (whole : Relation) → slice_get rs rel ≡ Some whole
    → slice_get (kept_relations keeps 0 rs) rel ≡ Some (kept_relation keeps rel whole)
relation_kept keeps rs rel whole at = relation_at keeps rs rel ∙ ap (option_map (kept_relation keeps rel)) at

pub as_many : (keeps : Keeps) (first : ℕ) (rs : List Relation) → length (kept_relations keeps first rs) ≡ length rs
as_many keeps first [] = refl
as_many keeps first (r ∷ rs) = let more = as_many keeps (suc first) rs in omega (arith, more)

-- ---- given pairs

pub whole_pair : (keeps : Keeps) (rel : ℕ) (ps : List Pair) (p : Pair) → IsIn (kept_pairs keeps rel ps) p
    → IsIn ps p × (keeps (item.Given (record { 0 = rel }) p) ≡ true)
whole_pair keeps rel [] p at = absurd at
whole_pair keeps rel (q ∷ ps) p at = ⊎_elim
    (λ here. (inl here.1, subst (λ (z : Pair). keeps (item.Given (record { 0 = rel }) z) ≡ true) here.1 here.0))
    (λ later. let more = whole_pair keeps rel ps p later in (inr more.0, more.1))
    (in_kept (keeps (item.Given (record { 0 = rel }) q)) q (kept_pairs keeps rel ps) p at)

pub pair_kept : (keeps : Keeps) (rel : ℕ) (ps : List Pair) (p : Pair) → IsIn ps p
    → keeps (item.Given (record { 0 = rel }) p) ≡ true
    → IsIn (kept_pairs keeps rel ps) p
pair_kept keeps rel [] p at is = absurd at
pair_kept keeps rel (q ∷ ps) p (inl e) is =
    kept_first (keeps (item.Given (record { 0 = rel }) q)) q (kept_pairs keeps rel ps) p
    (subst (λ (z : Pair). keeps (item.Given (record { 0 = rel }) z) ≡ true) (sym e) is) e
pair_kept keeps rel (q ∷ ps) p (inr at) is =
    kept_later (keeps (item.Given (record { 0 = rel }) q)) q (kept_pairs keeps rel ps) p (pair_kept keeps rel ps p at is)

-- ---- rules

pub whole_rule : (keeps : Keeps) (first : ℕ) (rules : List Rule) (rule : Rule) → IsIn (kept_rules keeps first rules) rule
    → (k : ℕ) × (slice_get rules k ≡ Some rule) × (keeps (item.Rule (record { 0 = first + k })) ≡ true)
whole_rule keeps first [] rule at = absurd at
whole_rule keeps first (q ∷ rules) rule at = ⊎_elim
    (λ here.
    let same : first + 0 ≡ first = omega arith in
    (0, ap Some here.1, ap (λ n. keeps (item.Rule (record { 0 = n }))) same ∙ here.0))
    (λ later.
    let more = whole_rule keeps (suc first) rules rule later in
    let same : first + suc more.0 ≡ suc first + more.0 = omega arith in
    (suc more.0, more.1, ap (λ n. keeps (item.Rule (record { 0 = n }))) same ∙ more.2))
    (in_kept (keeps (item.Rule (record { 0 = first }))) q (kept_rules keeps (suc first) rules) rule at)

pub rule_kept : (keeps : Keeps) (first : ℕ) (rules : List Rule) (k : ℕ) (rule : Rule) → slice_get rules k ≡ Some rule
    → keeps (item.Rule (record { 0 = first + k })) ≡ true → IsIn (kept_rules keeps first rules) rule
rule_kept keeps first [] k rule at is = absurd (none-some rule at)
rule_kept keeps first (q ∷ rules) zero rule at is =
    let same : first ≡ first + 0 = omega arith in
    kept_first (keeps (item.Rule (record { 0 = first }))) q (kept_rules keeps (suc first) rules) rule
    (ap (λ n. keeps (item.Rule (record { 0 = n }))) same ∙ is) (same_Some q rule at)
rule_kept keeps first (q ∷ rules) (suc k) rule at is =
    let same : suc first + k ≡ first + suc k = omega arith in
    kept_later (keeps (item.Rule (record { 0 = first }))) q (kept_rules keeps (suc first) rules) rule
    (rule_kept keeps (suc first) rules k rule at (ap (λ n. keeps (item.Rule (record { 0 = n }))) same ∙ is))

-- ---- copy functions

-- a copy function with its mapped rows that are kept
abbrev pub kept_copy : Keeps → ℕ → CopyFunction → CopyFunction
kept_copy keeps k copy = record copy { sources = kept_sources keeps k 0 copy.sources }

copy_from : (keeps : Keeps) (first : ℕ) (copies : List CopyFunction) (k : ℕ)
    → slice_get (kept_copies keeps first copies) k ≡ option_map (kept_copy keeps (first + k)) (slice_get copies k)
copy_from keeps first [] k = refl
copy_from keeps first (copy ∷ copies) zero = let same : first ≡ first + 0 = omega arith in ap
    (λ n. Some (kept_copy keeps n copy)) same
copy_from keeps first (copy ∷ copies) (suc k) =
    let same : suc first + k ≡ first + suc k = omega arith in
    copy_from keeps (suc first) copies k ∙ ap (λ n. option_map (kept_copy keeps n) (slice_get copies k)) same

copy_at : (keeps : Keeps) (copies : List CopyFunction) (k : ℕ)
    → slice_get (kept_copies keeps 0 copies) k ≡ option_map (kept_copy keeps k) (slice_get copies k)
copy_at keeps copies k =
    let same : 0 + k ≡ k = omega arith in
    copy_from keeps 0 copies k ∙ ap (λ n. option_map (kept_copy keeps n) (slice_get copies k)) same

-- the copy function that one is kept of
pub whole_copy : (keeps : Keeps) (copies : List CopyFunction) (k : ℕ) (copy : CopyFunction)
    → slice_get (kept_copies keeps 0 copies) k ≡ Some copy
    → (whole : CopyFunction) × (slice_get copies k ≡ Some whole) × (kept_copy keeps k whole ≡ copy)
whole_copy keeps copies k copy at = of_option (kept_copy keeps k) (slice_get copies k) copy (sym (copy_at keeps copies k) ∙ at)

pub copy_kept : (keeps : Keeps) (copies : List CopyFunction) (k : ℕ) (whole : CopyFunction) → slice_get copies k ≡ Some whole
    → slice_get (kept_copies keeps 0 copies) k ≡ Some (kept_copy keeps k whole)
copy_kept keeps copies k whole at = copy_at keeps copies k ∙ ap (option_map (kept_copy keeps k)) at

-- ---- mapped rows

none_either : (test : Bool) → ◌≡◌ {A = Option RowId} None (if test then None else None)
none_either true = refl
none_either false = refl

source_from : (keeps : Keeps) (k first : ℕ) (sources : List (Option RowId)) (n : ℕ)
    → slice_index_or (kept_sources keeps k first sources) n None
    ≡ (if keeps (item.Copy (record { 0 = k }) (record { 0 = first + n })) then slice_index_or sources n None else None)
source_from keeps k first [] n = none_either (keeps (item.Copy (record { 0 = k }) (record { 0 = first + n })))
source_from keeps k first (source ∷ sources) zero =
    let same : first ≡ first + 0 = omega arith in
    ap (λ m. if keeps (item.Copy (record { 0 = k }) (record { 0 = m })) then source else None) same
source_from keeps k first (source ∷ sources) (suc n) =
    let same : suc first + n ≡ first + suc n = omega arith in
    source_from keeps k (suc first) sources n
    ∙ ap (λ m. if keeps (item.Copy (record { 0 = k }) (record { 0 = m })) then slice_index_or sources n None else None) same

kept_source : (keeps : Keeps) (k : ℕ) (copy : CopyFunction) (row : RowId)
    → source_at (kept_copy keeps k copy) row ≡ (if keeps (item.Copy (record { 0 = k }) row) then source_at copy row else None)
kept_source keeps k copy row =
    let same : 0 + row.0 ≡ row.0 = omega arith in
    source_from keeps k 0 copy.sources row.0
    ∙ ap (λ m. if keeps (item.Copy (record { 0 = k }) (record { 0 = m })) then source_at copy row else None) same

some_if : (test : Bool) (o : Option RowId) (x : RowId) → (if test then o else None) ≡ Some x → (test ≡ true) × (o ≡ Some x)
some_if true o x e = (refl, e)
some_if false o x e = absurd (none-some x e)

pub whole_source : (keeps : Keeps) (k : ℕ) (copy : CopyFunction) (row source : RowId)
    → source_at (kept_copy keeps k copy) row ≡ Some source
    → (keeps (item.Copy (record { 0 = k }) row) ≡ true) × (source_at copy row ≡ Some source)
whole_source keeps k copy row source at =
    some_if (keeps (item.Copy (record { 0 = k }) row)) (source_at copy row) source (sym (kept_source keeps k copy row) ∙ at)

pub source_kept : (keeps : Keeps) (k : ℕ) (copy : CopyFunction) (row source : RowId)
    → keeps (item.Copy (record { 0 = k }) row) ≡ true
    → source_at copy row ≡ Some source → source_at (kept_copy keeps k copy) row ≡ Some source
source_kept keeps k copy row source is at =
    kept_source keeps k copy row ∙ ap (λ test. if test then source_at copy row else None) is ∙ at

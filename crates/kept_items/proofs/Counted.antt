-- How many items a specification has.
use Rattle.std.proofs.Common.{◌≡◌, ◌∙◌, ◌+◌, ◌<◌, ◌≤◌, ℕ, zero, suc, List, [], ◌∷◌, ◌++◌, Option, Some, None, length, map, refl, ap, ap₂, subst, ⊎_elim, arith}
use Rattle.std.proofs.lemmas.Bool.{cases_eq}
use Rattle.std.proofs.lemmas.List.{length-append, length-map}
use Rattle.currency_base.specs.declared.ids.RowId.{RowId}
use Rattle.copy_functions.specs.Copies.{CopyFunction, source_at}
use Rattle.denial_rules.specs.declared.rule.Rule.{Rule}
use Rattle.spec_model.specs.Spec.{Spec}
use Rattle.spec_model.specs.declared.relation.Relation.{Relation}
use Rattle.spec_items.specs.Items.{given_items, rule_items, mapped_item, mapped_items, copy_items, items_of}
use Rattle.spec_items.specs.declared.item.Item.TheVariants as item
use Rattle.kept_items.specs.Steps.{given_count, one_if, mapped_count, target_count, copies_count}

pub given_many : (rel : ℕ) (rs : List Relation) → length (given_items rel rs) ≡ given_count rs
given_many rel [] = refl
given_many rel (r ∷ rs) =
    length-append (map (λ p. item.Given (record { 0 = rel }) p) r.given) (given_items (suc rel) rs)
    ∙ ap₂ (λ a b. a + b) (length-map r.given (λ p. item.Given (record { 0 = rel }) p)) (given_many (suc rel) rs)

pub rules_many : (k : ℕ) (rules : List Rule) → length (rule_items k rules) ≡ length rules
rules_many k [] = refl
rules_many k (rule ∷ rules) = ap suc (rules_many (suc k) rules)

one_many : (k row : ℕ) (o : Option RowId) → length (mapped_item k row o) ≡ one_if o
one_many k row None = refl
one_many k row (Some source) = refl

pub mapped_many : (k : ℕ) (copy : CopyFunction) (rows : ℕ) → length (mapped_items k copy rows) ≡ mapped_count copy rows
mapped_many k copy zero = refl
mapped_many k copy (suc rows) =
    length-append (mapped_items k copy rows) (mapped_item k rows (source_at copy (record { 0 = rows })))
    ∙ ap₂ (λ a b. a + b) (mapped_many k copy rows) (one_many k rows (source_at copy (record { 0 = rows })))

pub copies_many : (relations : List Relation) (k : ℕ) (copies : List CopyFunction)
    → length (copy_items relations k copies) ≡ copies_count relations copies
copies_many relations k [] = refl
copies_many relations k (copy ∷ copies) =
    length-append (mapped_items k copy (target_count relations copy)) (copy_items relations (suc k) copies)
    ∙ ap₂ (λ a b. a + b) (mapped_many k copy (target_count relations copy)) (copies_many relations (suc k) copies)

pub front_many : (s : Spec)
    → length (given_items 0 s.relations ++ rule_items 0 s.rules) ≡ given_count s.relations + length s.rules
front_many s =
    length-append (given_items 0 s.relations) (rule_items 0 s.rules)
    ∙ ap₂ (λ a b. a + b) (given_many 0 s.relations) (rules_many 0 s.rules)

pub items_many : (s : Spec) → length (items_of s) ≡ (given_count s.relations + length s.rules) + copies_count s.relations s.copies
items_many s =
    length-append (given_items 0 s.relations ++ rule_items 0 s.rules) (copy_items s.relations 0 s.copies)
    ∙ ap₂ (λ a b. a + b) (front_many s) (copies_many s.relations 0 s.copies)

-- a row that comes later, and those before it, are among all rows
pub mapped_upto : (copy : CopyFunction) (row rows : ℕ) → row < rows
    → mapped_count copy row + one_if (source_at copy (record { 0 = row })) ≤ mapped_count copy rows
mapped_upto copy row zero below = absurd (omega (arith, below))
mapped_upto copy row (suc rows) below = ⊎_elim
    (λ (same : row ≡ rows).
    subst
    (λ n. mapped_count copy row + one_if (source_at copy (record { 0 = row }))
    ≤ mapped_count copy n + one_if (source_at copy (record { 0 = n })))
    same
    (omega arith))
    (λ (apart : row ≡ rows → ⊥). let more = mapped_upto copy row rows (omega arith) in omega (arith, more))
    (cases_eq row rows)

-- What is among the items of a specification.
use Rattle.std.proofs.Common.{◌≡◌, ◌+◌, ◌<◌, ℕ, zero, suc, List, [], ◌∷◌, ◌++◌, map, Some, Contains, length, slice_get, refl, sym, ap, subst, inl, inr, ⊎_elim, arith}
use Rattle.std.proofs.lemmas.Bool.{cases_eq}
use Rattle.std.proofs.lemmas.Option.{same_Some, none-some}
use Rattle.currency_base.specs.declared.ids.RowId.{RowId}
use Rattle.currency_base.specs.declared.pair.Pair.{Pair}
use Rattle.currency_base.specs.declared.row.Row.{Row}
use Rattle.copy_functions.specs.Copies.{CopyFunction, source_at}
use Rattle.denial_rules.specs.declared.rule.Rule.{Rule}
use Rattle.partial_orders.specs.Pairs.{entity_of}
use Rattle.spec_model.specs.Spec.{Spec}
use Rattle.spec_model.specs.declared.relation.Relation.{Relation}
use Rattle.spec_items.specs.Items.{given_items, rule_items, mapped_item, mapped_items, rows_of, copy_items, items_of}
use Rattle.spec_items.specs.declared.item.Item.TheVariants as item
use Rattle.spec_items.proofs.Members.{IsIn, contained, in_left, in_right, in_map}

-- ---- given pairs

given_in : (first : ℕ) (rs : List Relation) (rel : ℕ) (r : Relation) (p : Pair) → slice_get rs rel ≡ Some r → IsIn r.given p
    → IsIn (given_items first rs) (item.Given (record { 0 = first + rel }) p)
given_in first [] rel r p at here = absurd (none-some r at)
given_in first (q ∷ rs) zero r p at here =
    let same : first ≡ first + 0 = omega arith in
    let of = subst (λ (z : Relation). IsIn z.given p) (sym (same_Some q r at)) here in
    subst (λ n. IsIn (given_items first (q ∷ rs)) (item.Given (record { 0 = n }) p)) same
    (in_left (map (λ z. item.Given (record { 0 = first }) z) q.given) (given_items (suc first) rs)
    (item.Given (record { 0 = first }) p)
    (in_map (λ z. item.Given (record { 0 = first }) z) q.given p of))
given_in first (q ∷ rs) (suc rel) r p at here =
    let same : suc first + rel ≡ first + suc rel = omega arith in
    subst (λ n. IsIn (given_items first (q ∷ rs)) (item.Given (record { 0 = n }) p)) same
    (in_right (map (λ z. item.Given (record { 0 = first }) z) q.given) (given_items (suc first) rs)
    (item.Given (record { 0 = suc first + rel }) p)
    (given_in (suc first) rs rel r p at here))

pub given_item : (s : Spec) (rel : ℕ) (r : Relation) (p : Pair) → slice_get s.relations rel ≡ Some r → IsIn r.given p
    → Contains (items_of s) (item.Given (record { 0 = rel }) p)
given_item s rel r p at here =
    let same : 0 + rel ≡ rel = omega arith in
    let given = given_items 0 s.relations in
    let rules = rule_items 0 s.rules in
    let i = item.Given (record { 0 = rel }) p in
    contained (items_of s) i
    (in_left (given ++ rules) (copy_items s.relations 0 s.copies) i
    (in_left given rules i (subst (λ n. IsIn given (item.Given (record { 0 = n }) p)) same
    (given_in 0 s.relations rel r p at here))))

-- ---- rules

rule_in : (first : ℕ) (rules : List Rule) (k : ℕ) (rule : Rule) → slice_get rules k ≡ Some rule
    → IsIn (rule_items first rules) (item.Rule (record { 0 = first + k }))
rule_in first [] k rule at = absurd (none-some rule at)
rule_in first (q ∷ rules) zero rule at =
    let same : first ≡ first + 0 = omega arith in
    inl (ap (λ n. item.Rule (record { 0 = n })) same)
rule_in first (q ∷ rules) (suc k) rule at =
    let same : suc first + k ≡ first + suc k = omega arith in
    inr (subst (λ n. IsIn (rule_items (suc first) rules) (item.Rule (record { 0 = n }))) same
    (rule_in (suc first) rules k rule at))

pub rule_item : (s : Spec) (k : ℕ) (rule : Rule) → slice_get s.rules k ≡ Some rule
    → Contains (items_of s) (item.Rule (record { 0 = 0 + k }))
rule_item s k rule at =
    let given = given_items 0 s.relations in
    let rules = rule_items 0 s.rules in
    let i = item.Rule (record { 0 = 0 + k }) in
    contained (items_of s) i
    (in_left (given ++ rules) (copy_items s.relations 0 s.copies) i (in_right given rules i (rule_in 0 s.rules k rule at)))

-- ---- mapped rows

mapped_in : (k : ℕ) (copy : CopyFunction) (rows : ℕ) (row source : RowId) → row.0 < rows → source_at copy row ≡ Some source
    → IsIn (mapped_items k copy rows) (item.Copy (record { 0 = k }) row)
mapped_in k copy zero row source below at = absurd (omega arith)
mapped_in k copy (suc rows) row source below at =
    let i = item.Copy (record { 0 = k }) row in
    let last = mapped_item k rows (source_at copy (record { 0 = rows })) in
    let here : IsIn (mapped_item k row.0 (source_at copy row)) i = subst (λ o. IsIn (mapped_item k row.0 o) i)
    (sym at) (inl refl) in
    ⊎_elim
    (λ (is : row.0 ≡ rows).
    in_right (mapped_items k copy rows) last i
    (subst (λ n. IsIn (mapped_item k n (source_at copy (record { 0 = n }))) i) is here))
    (λ (apart : row.0 ≡ rows → ⊥). in_left (mapped_items k copy rows) last i (mapped_in k copy rows row source (omega arith) at))
    (cases_eq row.0 rows)

copy_in : (relations : List Relation) (first : ℕ) (copies : List CopyFunction) (k : ℕ) (copy : CopyFunction) (row source : RowId)
    → slice_get copies k ≡ Some copy → row.0 < rows_of (slice_get relations copy.target.0) → source_at copy row ≡ Some source
    → IsIn (copy_items relations first copies) (item.Copy (record { 0 = first + k }) row)
copy_in relations first [] k copy row source at below mapped = absurd (none-some copy at)
copy_in relations first (q ∷ copies) zero copy row source at below mapped =
    let same : first ≡ first + 0 = omega arith in
    let is = sym (same_Some q copy at) in
    let below_q = subst (λ (z : CopyFunction). row.0 < rows_of (slice_get relations z.target.0)) is below in
    let mapped_q = subst (λ (z : CopyFunction). source_at z row ≡ Some source) is mapped in
    let rows = rows_of (slice_get relations q.target.0) in
    subst (λ n. IsIn (copy_items relations first (q ∷ copies)) (item.Copy (record { 0 = n }) row)) same
    (in_left (mapped_items first q rows) (copy_items relations (suc first) copies) (item.Copy (record { 0 = first }) row)
    (mapped_in first q rows row source below_q mapped_q))
copy_in relations first (q ∷ copies) (suc k) copy row source at below mapped =
    let same : suc first + k ≡ first + suc k = omega arith in
    let rows = rows_of (slice_get relations q.target.0) in
    subst (λ n. IsIn (copy_items relations first (q ∷ copies)) (item.Copy (record { 0 = n }) row)) same
    (in_right (mapped_items first q rows) (copy_items relations (suc first) copies) (item.Copy (record { 0 = suc first + k }) row)
    (copy_in relations (suc first) copies k copy row source at below mapped))

-- a row that stands for an entity is there
row_below : (rows : List Row) (n ent : ℕ) → entity_of rows n ≡ Some ent → n < length rows
row_below [] n ent e = absurd (none-some ent e)
row_below (r ∷ rows) zero ent e = omega arith
row_below (r ∷ rows) (suc n) ent e = let below = row_below rows n ent e in omega (arith, below)

pub copy_item : (s : Spec) (k : ℕ) (copy : CopyFunction) (target : Relation) (row source : RowId) (ent : ℕ)
    → slice_get s.copies k ≡ Some copy → slice_get s.relations copy.target.0 ≡ Some target → entity_of target.rows
    row.0 ≡ Some ent
    → source_at copy row ≡ Some source
    → Contains (items_of s) (item.Copy (record { 0 = k }) row)
copy_item s k copy target row source ent at at_target of_ent mapped =
    let same : 0 + k ≡ k = omega arith in
    let copies = copy_items s.relations 0 s.copies in
    let i = item.Copy (record { 0 = k }) row in
    let below = subst (λ o. row.0 < rows_of o) (sym at_target) (row_below target.rows row.0 ent of_ent) in
    contained (items_of s) i
    (in_right (given_items 0 s.relations ++ rule_items 0 s.rules) copies i
    (subst (λ n. IsIn copies (item.Copy (record { 0 = n }) row)) same
    (copy_in s.relations 0 s.copies k copy row source at below mapped)))

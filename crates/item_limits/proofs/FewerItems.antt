-- A specification with some of its items alone is no larger than with all.
use Rattle.std.proofs.Common.{◌≡◌, ◌≤◌, ◌+◌, ◌*◌, ◌^◌, ◌∙◌, ℕ, zero, suc, Bool, true, false, ltb, List, [], ◌∷◌, Option, Some, None, length, slice_get, slice_index_or, refl, sym, ap, subst, arith}
use Rattle.std.specs.Prelude.{◌||◌, if◌then◌else◌}
use Rattle.std.specs.List.{list_any, range_with_len, sum_by}
use Rattle.std.specs.Option.{option_map_or}
use Rattle.std.proofs.lemmas.Bool.{false≢true, and_parts, and_from}
use Rattle.std.proofs.lemmas.List.Sums.{sum_by-cons, sum_by-le-sum_by}
use Rattle.std.proofs.lemmas.Nat.{mul-le}
use Rattle.std.proofs.lemmas.Option.{none-some, same_Some}
use Rattle.currency_base.specs.declared.ids.RelId.{RelId}
use Rattle.currency_base.specs.declared.ids.RowId.{RowId}
use Rattle.currency_base.specs.declared.pair.Pair.{Pair}
use Rattle.currency_base.specs.declared.row.Row.{Row}
use Rattle.copy_functions.specs.Copies.{CopyFunction, source_at}
use Rattle.copy_functions.specs.declared.place.Place.{Place}
use Rattle.denial_rules.specs.declared.rule.Rule.{Rule}
use Rattle.spec_items.specs.Kept.{Keeps, kept_pairs, kept_relations, kept_rules, kept_sources, kept_copies, kept}
use Rattle.spec_items.specs.declared.item.Item.TheVariants as item
use Rattle.spec_limits.specs.Limits.{is_crowded, is_long, entity_pairs, order_variables}
use Rattle.spec_limits.specs.Instances.{sum_by_entity, rule_instances, are_of_one_entity, are_sources_of_one, is_copy_instance, copy_partners, copy_pairs, rows_at, copy_instances, order_instances}
use Rattle.spec_model.specs.Spec.{Spec}
use Rattle.spec_model.specs.declared.relation.Relation.{Relation}
use Rattle.kept_items.specs.Alike.{AreCopiesAlike, AreAlike}
use Rattle.item_limits.specs.Laws.{FewerAreWithin}
use Rattle.item_limits.proofs.Sums.{sums_below, counts_below, or_none}
use Rattle.item_limits.proofs.Within.{IsWithin, exceeds_none}

-- ---- relations

-- what does not ask for given pairs
abbrev IsBlind : {B : Type 0} → (Relation → B) → Type 0
IsBlind {B} f = (r : Relation) (given : List Pair) → ◌≡◌ {A = B} (f (record r { given = given })) (f r)

sum_kept : (f : Relation → ℕ) (keeps : Keeps) (k : ℕ) (rs : List Relation) → IsBlind f
    → sum_by f (kept_relations keeps k rs) ≡ sum_by f rs
sum_kept f keeps k [] blind = refl
sum_kept f keeps k (r ∷ rs) blind =
    let rest = kept_relations keeps (suc k) rs in
    let r' : Relation = record r { given = kept_pairs keeps k r.given } in
    let more = sum_kept f keeps (suc k) rs blind in
    omega (arith, more, blind r (kept_pairs keeps k r.given), sum_by-cons f r' rest, sum_by-cons f r rs)

any_kept : (p : Relation → Bool) (keeps : Keeps) (k : ℕ) (rs : List Relation) → IsBlind p
    → list_any p (kept_relations keeps k rs) ≡ list_any p rs
any_kept p keeps k [] blind = refl
any_kept p keeps k (r ∷ rs) blind =
    ap (λ b. b || list_any p (kept_relations keeps (suc k) rs)) (blind r (kept_pairs keeps k r.given))
    ∙ ap (λ b. p r || b) (any_kept p keeps (suc k) rs blind)

at_kept : {B : Type 0} (f : Relation → B) (d : B) (keeps : Keeps) (k : ℕ) (rs : List Relation) (i : ℕ) → IsBlind f
    → option_map_or f (slice_get (kept_relations keeps k rs) i) d ≡ option_map_or f (slice_get rs i) d
at_kept f d keeps k [] i blind = refl
at_kept f d keeps k (r ∷ rs) zero blind = blind r (kept_pairs keeps k r.given)
at_kept f d keeps k (r ∷ rs) (suc i) blind = at_kept f d keeps (suc k) rs i blind

as_many : (keeps : Keeps) (k : ℕ) (rs : List Relation) → length (kept_relations keeps k rs) ≡ length rs
as_many keeps k [] = refl
as_many keeps k (r ∷ rs) = let more = as_many keeps (suc k) rs in omega (arith, more)

orders_blind : IsBlind order_instances
unfolding order_instances
orders_blind r given = refl

rules_alike : (keeps : Keeps) (rs : List Relation) (rule : Rule)
    → rule_instances (kept_relations keeps 0 rs) rule ≡ rule_instances rs rule
unfolding rule_instances
rules_alike keeps rs rule = at_kept (sum_by_entity (λ n. n ^ rule.vars)) 0 keeps 0 rs rule.relation.0 (λ r given. refl)

rows_alike : (keeps : Keeps) (rs : List Relation) (rel : RelId) → rows_at (kept_relations keeps 0 rs) rel ≡ rows_at rs rel
rows_alike keeps rs rel = at_kept (λ r. r.rows) [] keeps 0 rs rel.0 (λ r given. refl)

variables_alike : (keeps : Keeps) (rs : List Relation) → order_variables (kept_relations keeps 0 rs) ≡ order_variables rs
unfolding order_variables
variables_alike keeps rs = sum_kept (λ r. length r.attrs * entity_pairs r.rows) keeps 0 rs (λ r given. refl)

-- ---- rules

abbrev put_if : Bool → Rule → List Rule → List Rule
put_if test rule rules = if test then rule ∷ rules else rules

sum_put : (f : Rule → ℕ) (test : Bool) (rule : Rule) (rules : List Rule)
    → sum_by f (put_if test rule rules) ≤ f rule + sum_by f rules
sum_put f true rule rules = omega (arith, sum_by-cons f rule rules)
sum_put f false rule rules = omega arith

sum_rules : (f g : Rule → ℕ) (keeps : Keeps) (k : ℕ) (rules : List Rule) → ((rule : Rule) → f rule ≡ g rule)
    → sum_by f (kept_rules keeps k rules) ≤ sum_by g rules
sum_rules f g keeps k [] same = omega arith
sum_rules f g keeps k (rule ∷ rules) same =
    let put = sum_put f (keeps (item.Rule (record { 0 = k }))) rule (kept_rules keeps (suc k) rules) in
    omega (arith, put, sum_rules f g keeps (suc k) rules same, same rule, sum_by-cons g rule rules)

many_put : (test : Bool) (rule : Rule) (rules : List Rule) → length (put_if test rule rules) ≤ suc (length rules)
many_put true rule rules = omega arith
many_put false rule rules = omega arith

fewer_rules : (keeps : Keeps) (k : ℕ) (rules : List Rule) → length (kept_rules keeps k rules) ≤ length rules
fewer_rules keeps k [] = omega arith
fewer_rules keeps k (rule ∷ rules) =
    let put = many_put (keeps (item.Rule (record { 0 = k }))) rule (kept_rules keeps (suc k) rules) in
    omega (arith, put, fewer_rules keeps (suc k) rules)

any_put : (p : Rule → Bool) (test : Bool) (rule : Rule) (rules : List Rule) → p rule ≡ false → list_any p rules ≡ false
    → list_any p (put_if test rule rules) ≡ false
any_put p true rule rules fails none = ap (λ b. b || list_any p rules) fails ∙ none
any_put p false rule rules fails none = none

any_rules : (p : Rule → Bool) (keeps : Keeps) (k : ℕ) (rules : List Rule) → list_any p rules ≡ false
    → list_any p (kept_rules keeps k rules) ≡ false
any_rules p keeps k [] none = refl
any_rules p keeps k (rule ∷ rules) none =
    let parts = or_none (p rule) (list_any p rules) none in
    any_put p (keeps (item.Rule (record { 0 = k }))) rule (kept_rules keeps (suc k) rules) parts.0
    (any_rules p keeps (suc k) rules parts.1)

-- ---- copy functions

some_if : (test : Bool) (o : Option RowId) (x : RowId) → (if test then o else None) ≡ Some x → o ≡ Some x
some_if true o x e = e
some_if false o x e = absurd (none-some x e)

-- a row that is mapped where fewer are kept is mapped alike where all are
mapped_in : (keeps : Keeps) (k first : ℕ) (sources : List (Option RowId)) (n : ℕ) (x : RowId)
    → slice_index_or (kept_sources keeps k first sources) n None ≡ Some x → slice_index_or sources n None ≡ Some x
mapped_in keeps k first [] n x e = e
mapped_in keeps k first (source ∷ sources) zero x e =
    some_if (keeps (item.Copy (record { 0 = k }) (record { 0 = first }))) source x e
mapped_in keeps k first (source ∷ sources) (suc n) x e = mapped_in keeps k (suc first) sources n x e

abbrev kept_copy : Keeps → ℕ → CopyFunction → CopyFunction
kept_copy keeps k copy = record copy { sources = kept_sources keeps k 0 copy.sources }

copy_at : (keeps : Keeps) (k : ℕ) (copies : List CopyFunction) (i : ℕ) (copy : CopyFunction) → slice_get copies i ≡ Some copy
    → (m : ℕ) × (slice_get (kept_copies keeps k copies) i ≡ Some (kept_copy keeps m copy))
copy_at keeps k [] i copy at = absurd (none-some copy at)
copy_at keeps k (c ∷ copies) zero copy at = (k, ap (λ (q : CopyFunction). Some (kept_copy keeps k q)) (same_Some c copy at))
copy_at keeps k (c ∷ copies) (suc i) copy at = copy_at keeps (suc k) copies i copy at

as_many_copies : (keeps : Keeps) (k : ℕ) (copies : List CopyFunction) → length (kept_copies keeps k copies) ≡ length copies
as_many_copies keeps k [] = refl
as_many_copies keeps k (copy ∷ copies) = let more = as_many_copies keeps (suc k) copies in omega (arith, more)

-- a copy function between the same relations and attributes, which maps no row that the other does not map alike
record MapsLess (new copy : CopyFunction) : Type 0 where
  target : new.target ≡ copy.target
  source : new.source ≡ copy.source
  places : new.places ≡ copy.places
  mapped : (row from : RowId) → source_at new row ≡ Some from → source_at copy row ≡ Some from

maps_less : (keeps : Keeps) (m : ℕ) (new copy : CopyFunction) → AreCopiesAlike new (kept_copy keeps m copy) → MapsLess new copy
maps_less keeps m new copy alike = record {
  target = alike.target;
  source = alike.source;
  places = alike.places;
  mapped = λ row from e. mapped_in keeps m 0 copy.sources row.0 from (sym (alike.sources row) ∙ e);
}

sources_more : (rows : List Row) (a b a' b' : Option RowId) → ((x : RowId) → a ≡ Some x → a' ≡ Some x)
    → ((x : RowId) → b ≡ Some x → b' ≡ Some x)
    → are_sources_of_one rows a b ≡ true → are_sources_of_one rows a' b' ≡ true
sources_more rows None b a' b' more_a more_b is = absurd (false≢true is)
sources_more rows (Some x) None a' b' more_a more_b is = absurd (false≢true is)
sources_more rows (Some x) (Some y) a' b' more_a more_b is =
    ap (λ (o : Option RowId). are_sources_of_one rows o b') (more_a x refl)
    ∙ (ap (λ (o : Option RowId). are_sources_of_one rows (Some x) o) (more_b y refl) ∙ is)

instance_more : (new copy : CopyFunction) (t u : List Row) (a b : RowId) → MapsLess new copy → is_copy_instance new t u a b ≡ true
    → is_copy_instance copy t u a b ≡ true
instance_more new copy t u a b less is =
    let parts = and_parts (are_of_one_entity t a b) (are_sources_of_one u (source_at new a) (source_at new b)) is in
    and_from (are_of_one_entity t a b) (are_sources_of_one u (source_at copy a) (source_at copy b)) parts.0
    (sources_more u (source_at new a) (source_at new b) (source_at copy a) (source_at copy b)
    (less.mapped a) (less.mapped b) parts.1)

partners_below : (new copy : CopyFunction) (t u : List Row) (first : ℕ) → MapsLess new copy
    → copy_partners new t u first ≤ copy_partners copy t u first
unfolding copy_partners
partners_below new copy t u first less =
    let a : RowId = record { 0 = first } in
    counts_below (λ second. is_copy_instance new t u a (record { 0 = second }))
    (λ second. is_copy_instance copy t u a (record { 0 = second }))
    (range_with_len 0 (length t)) (λ second. instance_more new copy t u a (record { 0 = second }) less)

pairs_below : (new copy : CopyFunction) (t u : List Row) → MapsLess new copy → copy_pairs new t u ≤ copy_pairs copy t u
unfolding copy_pairs
pairs_below new copy t u less =
    sum_by-le-sum_by (copy_partners new t u) (copy_partners copy t u) (range_with_len 0 (length t))
    (λ first. partners_below new copy t u first less)

copy_below : (keeps : Keeps) (rs : List Relation) (new copy : CopyFunction) → MapsLess new copy
    → copy_instances (kept_relations keeps 0 rs) new ≤ copy_instances rs copy
unfolding copy_instances
copy_below keeps rs new copy less =
    let t = ap (rows_at (kept_relations keeps 0 rs)) less.target ∙ rows_alike keeps rs copy.target in
    let u = ap (rows_at (kept_relations keeps 0 rs)) less.source ∙ rows_alike keeps rs copy.source in
    let same =
    ap (λ (x : List Row). copy_pairs new x (rows_at (kept_relations keeps 0 rs) new.source)) t
    ∙ ap (λ (x : List Row). copy_pairs new (rows_at rs copy.target) x) u in
    let pairs = pairs_below new copy (rows_at rs copy.target) (rows_at rs copy.source) less in
    let places = ap (λ (l : List Place). length l) less.places in
    mul-le (length new.places)
    (copy_pairs new (rows_at (kept_relations keeps 0 rs) new.target) (rows_at (kept_relations keeps 0 rs) new.source))
    (length copy.places) (copy_pairs copy (rows_at rs copy.target) (rows_at rs copy.source))
    (omega (arith, places)) (omega (arith, same, pairs))

-- ---- all together

abbrev with_copies : Keeps → Spec → List CopyFunction → Spec
with_copies keeps s copies = record {
  relations = kept_relations keeps 0 s.relations;
  rules = kept_rules keeps 0 s.rules;
  copies = copies;
}

kept_within : (s new : Spec) (keeps : Keeps) → AreAlike new (kept keeps s) → IsWithin (with_copies keeps s new.copies) s
kept_within s new keeps alike =
    let as_many_new = as_many_copies keeps 0 s.copies in
    record {
      relations = omega (arith, as_many keeps 0 s.relations);
      attrs = λ none. any_kept (λ r. ltb 32 (length r.attrs)) keeps 0 s.relations (λ r given. refl) ∙ none;
      rows = omega (arith, sum_kept (λ r. length r.rows) keeps 0 s.relations (λ r given. refl));
      of_one = λ none. any_kept (λ r. is_crowded r.rows) keeps 0 s.relations (λ r given. refl) ∙ none;
      rules = fewer_rules keeps 0 s.rules;
      long = any_rules is_long keeps 0 s.rules;
      copies = omega (arith, alike.per_copy, as_many_new);
      variables = omega (arith, variables_alike keeps s.relations);
      of_rules = sum_rules (rule_instances (kept_relations keeps 0 s.relations)) (rule_instances s.relations) keeps 0 s.rules
          (rules_alike keeps s.relations);
      of_copies =
          sums_below (copy_instances (kept_relations keeps 0 s.relations)) (copy_instances s.relations) new.copies s.copies
          (omega (arith, alike.per_copy, as_many_new))
          (λ i x y at_x at_y.
          let m = copy_at keeps 0 s.copies i y at_y in
          copy_below keeps s.relations x y (maps_less keeps m.0 x y (alike.copies i x (kept_copy keeps m.0 y) at_x m.1)));
      of_orders = omega (arith, sum_kept order_instances keeps 0 s.relations orders_blind);
    }

pub fewer_within : FewerAreWithin
fewer_within s new keeps alike none =
    let rules = kept_rules keeps 0 s.rules in
    let same : with_copies keeps s new.copies ≡ new =
    ap (λ (rs : List Relation). let q : Spec = record { relations = rs; rules = rules; copies = new.copies } in q)
    (sym alike.relations)
    ∙ ap (λ (rules : List Rule). let q : Spec = record { relations = new.relations; rules = rules; copies = new.copies } in q)
    (sym alike.rules) in
    exceeds_none new s (subst (λ (q : Spec). IsWithin q s) same (kept_within s new keeps alike)) none

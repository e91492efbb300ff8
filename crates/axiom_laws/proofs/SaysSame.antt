-- Two statements with their signs that say the same are true together.
use Rattle.std.proofs.Common.{◌≡◌, ◌==◌, ◌&&◌, ◌||◌, ℕ, Bool, true, false, not, List, Option, Some, None, slice_get, refl, sym, ap, ◌∙◌, subst, ⊎_elim}
use Rattle.std.proofs.lemmas.Bool.{and_parts, or_cases, eqb-true, false≢true}
use Rattle.std.proofs.lemmas.Option.{same_Some}
use Rattle.currency_base.specs.declared.ids.AttrId.{AttrId}
use Rattle.currency_base.specs.declared.ids.RelId.{RelId}
use Rattle.currency_base.specs.declared.ids.RowId.{RowId}
use Rattle.currency_base.specs.declared.row.Row.{Row}
use Rattle.currency_base.specs.declared.value.Cmp.TheVariants.{Eq}
use Rattle.currency_base.specs.declared.value.Value.{Value}
use Rattle.denial_rules.specs.Instances.{field_value, is_compared}
use Rattle.partial_orders.specs.Pairs.{entity_of}
use Rattle.spec_model.specs.Completion.{Rankings, IsCompletion}
use Rattle.spec_model.specs.Current.{current_value}
use Rattle.spec_model.specs.declared.relation.Relation.{Relation}
use Rattle.refutation_log.specs.declared.statement.Statement.{Statement}
use Rattle.refutation_log.specs.declared.statement.Statement.TheVariants as says
use Rattle.log_axioms.specs.Axioms.{is_one, same_entity, same_value, same_sign, same_place, says_same}
use Rattle.log_axioms.specs.declared.signed.Signed.{Signed}
use Rattle.log_axioms.specs.Truth.{rows_in, IsLast, HoldsIn}
use Rattle.axiom_laws.proofs.Decisions.{row_is, one_value}
use Rattle.axiom_laws.proofs.Standing.{AreTwo, not_both_ways, either_before}

-- what a clause of a label says of the order of two rows, if it denies it, is of two different rows of one entity
abbrev pub IsSound : List Relation → Signed → Type 0
IsSound relations s = by s.statement s.negative
  where
    by : Statement → Bool → Type 0
    by (says.Before rel attr earlier later) true = AreTwo relations rel.0 attr.0 earlier later
    by s negative = Unit {0}

abbrev signed : Statement → Bool → Signed
signed statement negative = record { statement = statement; negative = negative }

-- ---- ids and signs

three_parts : (a b d : Bool) → (a && b && d) ≡ true → (a ≡ true) × (b ≡ true) × (d ≡ true)
three_parts a b d e =
    let last = and_parts (a && b) d e in
    let both = and_parts a b last.0 in
    (both.0, both.1, last.1)

rel_is : (a b : RelId) → a.0 ≡ b.0 → a ≡ b
rel_is a b e = ap (λ (n : ℕ). let x : RelId = record { 0 = n } in x) e

attr_is : (a b : AttrId) → a.0 ≡ b.0 → a ≡ b
attr_is a b e = ap (λ (n : ℕ). let x : AttrId = record { 0 = n } in x) e

pub place_is : (rel rel' : RelId) (attr attr' : AttrId) → same_place rel attr rel' attr' ≡ true → (rel ≡ rel') × (attr ≡ attr')
place_is rel rel' attr attr' e =
    let both = and_parts (rel.0 == rel'.0) (attr.0 == attr'.0) e in
    (rel_is rel rel' (eqb-true rel.0 rel'.0 both.0), attr_is attr attr' (eqb-true attr.0 attr'.0 both.1))

sign_is : (p q : Bool) → same_sign p q ≡ true → p ≡ q
sign_is true true e = refl
sign_is true false e = absurd (false≢true e)
sign_is false true e = absurd (false≢true e)
sign_is false false e = refl

-- ---- one entity, one value

pub one_is : (a b : Option ℕ) → is_one a b ≡ true → (n : ℕ) × (a ≡ Some n) × (b ≡ Some n)
one_is (Some a) (Some b) e = (b, ap Some (eqb-true a b e), refl)
one_is (Some a) None e = absurd (false≢true e)
one_is None b e = absurd (false≢true e)

pub equal_is : (a b : Option Value) → is_compared a Eq b ≡ true → (v : Value) × (a ≡ Some v) × (b ≡ Some v)
equal_is (Some a) (Some b) e = (b, ap Some (one_value a b e), refl)
equal_is (Some a) None e = absurd (false≢true e)
equal_is None b e = absurd (false≢true e)

-- of two rows of one entity with one value, what is said of the current value of the one is said of the other
pub last_moves : (c : Rankings) (rel attr ent : ℕ) (rows : List Row) (value : Value) (a b : RowId) → entity_of rows a.0 ≡ Some ent
    → entity_of rows b.0 ≡ Some ent
    → field_value rows (Some a) attr ≡ Some value → field_value rows (Some b) attr ≡ Some value → IsLast c rel attr rows a
    → IsLast c rel attr rows b
last_moves c rel attr ent rows value a b of_a of_b value_a value_b last =
    let same : last.value ≡ value = same_Some last.value value (sym last.of_row ∙ value_a) in
    let here : last.ent ≡ ent = same_Some last.ent ent (sym last.of_entity ∙ of_a) in
    record {
      ent = ent;
      of_entity = of_b;
      value = value;
      of_row = value_b;
      current = sym (ap (current_value c rel rows attr) here) ∙ (last.current ∙ ap Some same);
    }

-- ---- statements

-- of the order of two rows, said the other way round
turned : (relations : List Relation) (c : Rankings) (answers : ℕ → Type 0) (rel : RelId) (attr : AttrId)
    (a b : RowId) (p q : Bool)
    → IsCompletion relations c → not (same_sign p q) ≡ true
    → IsSound relations (signed (says.Before rel attr b a) q) → HoldsIn relations c answers (signed (says.Before rel attr b a) q)
    → HoldsIn relations c answers (signed (says.Before rel attr a b) p)
turned relations c answers rel attr a b true true completion e sound h = absurd (false≢true e)
turned relations c answers rel attr a b false false completion e sound h = absurd (false≢true e)
turned relations c answers rel attr a b true false completion e sound h = λ s. not_both_ways relations c rel.0 attr.0
    a b completion s h
turned relations c answers rel attr a b false true completion e sound h =
    ⊎_elim (λ s. absurd (h s)) (λ s. s) (either_before relations c rel.0 attr.0 b a completion sound)

last_either : (relations : List Relation) (c : Rankings) (answers : ℕ → Type 0) (rel : RelId) (attr : AttrId)
    (a b : RowId) (negative : Bool)
    → same_entity (rows_in (slice_get relations rel.0)) a b ≡ true
    → same_value (rows_in (slice_get relations rel.0)) attr.0 a b ≡ true
    → HoldsIn relations c answers (signed (says.Last rel attr b) negative) → HoldsIn relations c answers
    (signed (says.Last rel attr a) negative)
last_either relations c answers rel attr a b negative entity value h = by negative h
  where
    rows : List Row
    rows = rows_in (slice_get relations rel.0)

    by : (n : Bool) → HoldsIn relations c answers (signed (says.Last rel attr b) n)
        → HoldsIn relations c answers (signed (says.Last rel attr a) n)
    by false h =
        let ent = one_is (entity_of rows a.0) (entity_of rows b.0) entity in
        let v = equal_is (field_value rows (Some a) attr.0) (field_value rows (Some b) attr.0) value in
        last_moves c rel.0 attr.0 ent.0 rows v.0 b a ent.2 ent.1 v.2 v.1 h
    by true h = λ last.
        let ent = one_is (entity_of rows a.0) (entity_of rows b.0) entity in
        let v = equal_is (field_value rows (Some a) attr.0) (field_value rows (Some b) attr.0) value in
        h (last_moves c rel.0 attr.0 ent.0 rows v.0 a b ent.1 ent.2 v.1 v.2 last)

-- a statement with a sign is true where an equal one with an equal sign is
moves : (relations : List Relation) (c : Rankings) (answers : ℕ → Type 0) (s t : Statement) (p q : Bool) → s ≡ t → p ≡ q
    → HoldsIn relations c answers (signed t q) → HoldsIn relations c answers (signed s p)
moves relations c answers s t p q e f h =
    subst (λ (u : Statement). HoldsIn relations c answers (signed u p)) (sym e)
    (subst (λ n. HoldsIn relations c answers (signed t n)) (sym f) h)

before_is : (rel rel' : RelId) (attr attr' : AttrId) (a a' b b' : RowId) → rel ≡ rel' → attr ≡ attr' → a ≡ a' → b ≡ b'
    → says.Before rel attr a b ≡ says.Before rel' attr' a' b'
before_is rel rel' attr attr' a a' b b' r t e f = cc

-- the order of two rows, said in either way
orders_agree : (relations : List Relation) (c : Rankings) (answers : ℕ → Type 0) (rel rel' : RelId)
    (attr attr' : AttrId) (a b a' b' : RowId)
    (p q : Bool) → IsCompletion relations c
    → says_same relations (signed (says.Before rel attr a b) p) (signed (says.Before rel' attr' a' b') q) ≡ true
    → IsSound relations (signed (says.Before rel' attr' a' b') q)
    → HoldsIn relations c answers (signed (says.Before rel' attr' a' b') q) → HoldsIn relations c answers
    (signed (says.Before rel attr a b) p)
orders_agree relations c answers rel rel' attr attr' a b a' b' p q completion e sound h =
    let split = and_parts (same_place rel attr rel' attr')
    (((a.0 == a'.0) && (b.0 == b'.0) && same_sign p q) || ((a.0 == b'.0) && (b.0 == a'.0) && not (same_sign p q))) e in
    let place = place_is rel rel' attr attr' split.0 in
    ⊎_elim
    (λ (straight : ((a.0 == a'.0) && (b.0 == b'.0) && same_sign p q) ≡ true). along place.0 place.1 straight)
    (λ (turn : ((a.0 == b'.0) && (b.0 == a'.0) && not (same_sign p q)) ≡ true). back place.0 place.1 turn)
    (or_cases ((a.0 == a'.0) && (b.0 == b'.0) && same_sign p q) ((a.0 == b'.0) && (b.0 == a'.0) && not (same_sign p q)) split.1)
  where
    along : rel ≡ rel' → attr ≡ attr' → ((a.0 == a'.0) && (b.0 == b'.0) && same_sign p q) ≡ true
        → HoldsIn relations c answers (signed (says.Before rel attr a b) p)
    along r t e =
        let parts = three_parts (a.0 == a'.0) (b.0 == b'.0) (same_sign p q) e in
        let first = row_is a a' (eqb-true a.0 a'.0 parts.0) in
        let second = row_is b b' (eqb-true b.0 b'.0 parts.1) in
        let same = before_is rel rel' attr attr' a a' b b' r t first second in
        moves relations c answers (says.Before rel attr a b) (says.Before rel' attr' a' b') p q same (sign_is p q parts.2) h

    back : rel ≡ rel' → attr ≡ attr' → ((a.0 == b'.0) && (b.0 == a'.0) && not (same_sign p q)) ≡ true
        → HoldsIn relations c answers (signed (says.Before rel attr a b) p)
    back r t e =
        let parts = three_parts (a.0 == b'.0) (b.0 == a'.0) (not (same_sign p q)) e in
        let first = row_is b a' (eqb-true b.0 a'.0 parts.1) in
        let second = row_is a b' (eqb-true a.0 b'.0 parts.0) in
        let same = before_is rel rel' attr attr' b a' a b' r t first second in
        turned relations c answers rel attr a b p q completion parts.2
        (subst (λ (u : Statement). IsSound relations (signed u q)) (sym same) sound)
        (subst (λ (u : Statement). HoldsIn relations c answers (signed u q)) (sym same) h)

tops_agree : (relations : List Relation) (c : Rankings) (answers : ℕ → Type 0) (rel rel' : RelId)
    (attr attr' : AttrId) (a b : RowId) (p q : Bool)
    → says_same relations (signed (says.Top rel attr a) p) (signed (says.Top rel' attr' b) q) ≡ true
    → HoldsIn relations c answers (signed (says.Top rel' attr' b) q) → HoldsIn relations c answers
    (signed (says.Top rel attr a) p)
tops_agree relations c answers rel rel' attr attr' a b p q e h =
    let parts = three_parts (same_place rel attr rel' attr') (a.0 == b.0) (same_sign p q) e in
    let place = place_is rel rel' attr attr' parts.0 in
    let r : rel ≡ rel' = place.0 in
    let t : attr ≡ attr' = place.1 in
    let row : a ≡ b = row_is a b (eqb-true a.0 b.0 parts.1) in
    let same : says.Top rel attr a ≡ says.Top rel' attr' b = cc in
    moves relations c answers (says.Top rel attr a) (says.Top rel' attr' b) p q same (sign_is p q parts.2) h

lasts_agree : (relations : List Relation) (c : Rankings) (answers : ℕ → Type 0) (rel rel' : RelId)
    (attr attr' : AttrId) (a b : RowId) (p q : Bool)
    → says_same relations (signed (says.Last rel attr a) p) (signed (says.Last rel' attr' b) q) ≡ true
    → HoldsIn relations c answers (signed (says.Last rel' attr' b) q) → HoldsIn relations c answers
    (signed (says.Last rel attr a) p)
lasts_agree relations c answers rel rel' attr attr' a b p q e h =
    let rows = rows_in (slice_get relations rel.0) in
    let front = same_place rel attr rel' attr' && same_sign p q && same_entity rows a b in
    let ends = and_parts front (same_value rows attr.0 a b) e in
    let parts = three_parts (same_place rel attr rel' attr') (same_sign p q) (same_entity rows a b) ends.0 in
    let place = place_is rel rel' attr attr' parts.0 in
    let r : rel ≡ rel' = place.0 in
    let t : attr ≡ attr' = place.1 in
    let same : says.Last rel attr b ≡ says.Last rel' attr' b = cc in
    last_either relations c answers rel attr a b p parts.2 ends.1
    (moves relations c answers (says.Last rel attr b) (says.Last rel' attr' b) p q same (sign_is p q parts.1) h)

answers_agree : (relations : List Relation) (c : Rankings) (answers : ℕ → Type 0) (a b : ℕ) (p q : Bool)
    → says_same relations (signed (says.Answer a) p) (signed (says.Answer b) q) ≡ true
    → HoldsIn relations c answers (signed (says.Answer b) q) → HoldsIn relations c answers (signed (says.Answer a) p)
answers_agree relations c answers a b p q e h =
    let both = and_parts (a == b) (same_sign p q) e in
    let same : says.Answer a ≡ says.Answer b = ap says.Answer (eqb-true a b both.0) in
    moves relations c answers (says.Answer a) (says.Answer b) p q same (sign_is p q both.1) h

-- where two say the same, and the second is true, the first is
pub agree : (relations : List Relation) (c : Rankings) (answers : ℕ → Type 0) (m s : Signed) → IsCompletion relations c
    → says_same relations m s ≡ true → IsSound relations s
    → HoldsIn relations c answers s → HoldsIn relations c answers m
agree relations c answers m s completion e sound h = by m.statement s.statement m.negative s.negative e sound h
  where
    by : (a b : Statement) (p q : Bool) → says_same relations (signed a p) (signed b q) ≡ true
        → IsSound relations (signed b q) → HoldsIn relations c answers (signed b q) → HoldsIn relations c answers (signed a p)
    by (says.Before rel attr a b) (says.Before rel' attr' a' b') p q e sound h =
        orders_agree relations c answers rel rel' attr attr' a b a' b' p q completion e sound h
    by (says.Top rel attr a) (says.Top rel' attr' b) p q e sound h = tops_agree relations c answers rel rel' attr
        attr' a b p q e h
    by (says.Last rel attr a) (says.Last rel' attr' b) p q e sound h = lasts_agree relations c answers rel rel' attr
        attr' a b p q e h
    by (says.Before rel attr a b) (says.Top rel' attr' b') p q e sound h = absurd (false≢true e)
    by (says.Before rel attr a b) (says.Last rel' attr' b') p q e sound h = absurd (false≢true e)
    by (says.Before rel attr a b) (says.Answer tuple) p q e sound h = absurd (false≢true e)
    by (says.Top rel attr a) (says.Before rel' attr' a' b') p q e sound h = absurd (false≢true e)
    by (says.Top rel attr a) (says.Last rel' attr' b') p q e sound h = absurd (false≢true e)
    by (says.Top rel attr a) (says.Answer tuple) p q e sound h = absurd (false≢true e)
    by (says.Last rel attr a) (says.Before rel' attr' a' b') p q e sound h = absurd (false≢true e)
    by (says.Last rel attr a) (says.Top rel' attr' b') p q e sound h = absurd (false≢true e)
    by (says.Last rel attr a) (says.Answer tuple) p q e sound h = absurd (false≢true e)
    by (says.Answer a) (says.Answer b) p q e sound h = answers_agree relations c answers a b p q e h
    by (says.Answer a) (says.Before rel' attr' a' b') p q e sound h = absurd (false≢true e)
    by (says.Answer a) (says.Top rel' attr' b) p q e sound h = absurd (false≢true e)
    by (says.Answer a) (says.Last rel' attr' b) p q e sound h = absurd (false≢true e)

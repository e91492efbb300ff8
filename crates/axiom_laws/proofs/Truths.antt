-- Whether a literal is true is decided; of a literal and its negation exactly one is true.
use Rattle.std.proofs.Common.{◌≡◌, ◌==◌, ◌+◌, ◌*◌, ◌%◌, ℕ, if◌then◌else◌, Bool, true, false, not, List, Option, Some, None, slice_get, refl, sym, ap, ◌∙◌, subst, inl, inr, ⊎_elim, arith}
use mathlib.Core.Path.{transport}
use Rattle.std.proofs.lemmas.Bool.{false≢true}
use Rattle.std.proofs.lemmas.Option.{same_Some, none-some}
use Rattle.currency_base.specs.Literals.{var_of, is_negative, negation}
use Rattle.currency_base.specs.declared.ids.RowId.{RowId}
use Rattle.currency_base.specs.declared.lit.Lit.{Lit}
use Rattle.currency_base.specs.declared.row.Row.{Row}
use Rattle.currency_base.specs.declared.value.Value.{Value}
use Rattle.denial_rules.specs.Instances.{field_value}
use Rattle.partial_orders.specs.Pairs.{entity_of}
use Rattle.spec_model.specs.Completion.{Rankings, lists_of, ranking_of}
use Rattle.spec_model.specs.Current.{last_row, current_value}
use Rattle.spec_model.specs.declared.relation.Relation.{Relation}
use Rattle.refutation_log.specs.declared.statement.Statement.{Statement}
use Rattle.refutation_log.specs.declared.statement.Statement.TheVariants as says
use Rattle.log_axioms.specs.Posed.{AreDecided, passing}
use Rattle.log_axioms.specs.Truth.{rows_in, IsTop, IsLast, IsTrueIn, HoldsIn, LitHolds}
use Rattle.axiom_laws.specs.Laws.{LiteralsAreDecidedOver, LiteralsComplementOver, LiteralsExcludeOver}
use Rattle.axiom_laws.proofs.Decisions.{Decided, before_or, some_row_or, some_value_or}

-- ---- statements

pub top_or : (c : Rankings) (rel attr : ℕ) (rows : List Row) (row : RowId) → Decided (IsTop c rel attr rows row)
top_or c rel attr rows row = go (entity_of rows row.0) refl
  where
    go : (of : Option ℕ) → entity_of rows row.0 ≡ of → Decided (IsTop c rel attr rows row)
    go None e = inr (λ t. none-some t.ent (sym e ∙ t.of_entity))
    go (Some ent) e =
        ⊎_elim
        (λ (h : last_row (ranking_of c rel attr ent) ≡ Some row). inl record { ent = ent; of_entity = e; is_last = h })
        (λ (n : last_row (ranking_of c rel attr ent) ≡ Some row → ⊥).
        inr (λ t.
        let same : t.ent ≡ ent = same_Some t.ent ent (sym t.of_entity ∙ e) in
        n (subst (λ k. last_row (ranking_of c rel attr k) ≡ Some row) same t.is_last)))
        (some_row_or (last_row (ranking_of c rel attr ent)) row)

pub last_or : (c : Rankings) (rel attr : ℕ) (rows : List Row) (row : RowId) → Decided (IsLast c rel attr rows row)
last_or c rel attr rows row = go (entity_of rows row.0) (field_value rows (Some row) attr) refl refl
  where
    go : (of : Option ℕ) (value : Option Value) → entity_of rows row.0 ≡ of → field_value rows (Some row) attr ≡ value
        → Decided (IsLast c rel attr rows row)
    go None value e f = inr (λ t. none-some t.ent (sym e ∙ t.of_entity))
    go (Some ent) None e f = inr (λ t. none-some t.value (sym f ∙ t.of_row))
    go (Some ent) (Some value) e f =
        ⊎_elim
        (λ (h : current_value c rel rows attr ent ≡ Some value).
        inl record { ent = ent; of_entity = e; value = value; of_row = f; current = h })
        (λ (n : current_value c rel rows attr ent ≡ Some value → ⊥).
        inr (λ t.
        let same : ent ≡ t.ent = same_Some ent t.ent (sym e ∙ t.of_entity) in
        n (ap (current_value c rel rows attr) same ∙ (t.current ∙ (sym t.of_row ∙ f)))))
        (some_value_or (current_value c rel rows attr ent) value)

pub true_or : (relations : List Relation) (c : Rankings) (answers : ℕ → Type 0) → AreDecided answers →
    (s : Statement) → Decided (IsTrueIn relations c answers s)
true_or relations c answers are (says.Before rel attr earlier later) = before_or (lists_of c rel.0 attr.0) earlier later
true_or relations c answers are (says.Top rel attr row) = top_or c rel.0 attr.0 (rows_in (slice_get relations rel.0)) row
true_or relations c answers are (says.Last rel attr row) = last_or c rel.0 attr.0 (rows_in (slice_get relations rel.0)) row
true_or relations c answers are (says.Answer tuple) = are tuple

not_decided : {P : Type 0} → Decided P → Decided (P → ⊥)
not_decided (inl h) = inr (λ n. n h)
not_decided (inr n) = inl n

signed_or : (relations : List Relation) (c : Rankings) (answers : ℕ → Type 0) → AreDecided answers → (s : Statement)
    (negative : Bool)
    → Decided (HoldsIn relations c answers (record { statement = s; negative = negative }))
signed_or relations c answers are s false = true_or relations c answers are s
signed_or relations c answers are s true = not_decided (true_or relations c answers are s)

-- ---- literals

-- what a literal of a statement, if it is one, with its sign says is true
abbrev SaidHolds : List Relation → Rankings → (ℕ → Type 0) → Option Statement → Bool → Type 0
SaidHolds relations c answers None negative = negative ≡ true
SaidHolds relations c answers (Some s) negative = HoldsIn relations c answers (record { statement = s; negative = negative })

said_or : (relations : List Relation) (c : Rankings) (answers : ℕ → Type 0) → AreDecided answers →
    (s : Option Statement) (negative : Bool)
    → Decided (SaidHolds relations c answers s negative)
said_or relations c answers are None true = inl refl
said_or relations c answers are None false = inr false≢true
said_or relations c answers are (Some s) negative = signed_or relations c answers are s negative

never_both : (relations : List Relation) (c : Rankings) (answers : ℕ → Type 0) (s : Option Statement) (negative : Bool)
    → SaidHolds relations c answers s negative → SaidHolds relations c answers s (not negative) → ⊥
never_both relations c answers None true h k = false≢true k
never_both relations c answers None false h k = false≢true h
never_both relations c answers (Some s) true h k = h k
never_both relations c answers (Some s) false h k = k h

one_holds : (relations : List Relation) (c : Rankings) (answers : ℕ → Type 0) → AreDecided answers →
    (s : Option Statement) (negative : Bool)
    → (SaidHolds relations c answers s negative → ⊥) → SaidHolds relations c answers s (not negative)
one_holds relations c answers are None true n = absurd (n refl)
one_holds relations c answers are None false n = refl
one_holds relations c answers are (Some s) false n = n
one_holds relations c answers are (Some s) true n = ⊎_elim (λ h. h) (λ m. absurd (n m)) (true_or relations c answers are s)

-- a literal is true exactly where what it says is
lit_is : (relations : List Relation) (c : Rankings) (answers : ℕ → Type 0) (statements : List Statement) (lit : Lit)
    → LitHolds relations c answers statements lit ≡ SaidHolds relations c answers (slice_get statements (var_of lit))
    (is_negative lit)
lit_is relations c answers statements lit = go (slice_get statements (var_of lit)) refl
  where
    go : (s : Option Statement) → slice_get statements (var_of lit) ≡ s
        → LitHolds relations c answers statements lit ≡ SaidHolds relations c answers
        (slice_get statements (var_of lit)) (is_negative lit)
    go None e = rw e refl
    go (Some s) e = rw e refl

-- a literal's variable and sign, after one test
abbrev turned : ℕ → Bool → Lit
turned var odd = if odd then record { 0 = 2 * var } else record { 0 = 2 * var + 1 }

turned_var : (var : ℕ) (odd : Bool) → var_of (turned var odd) ≡ var
turned_var var true = omega arith
turned_var var false = omega arith

turned_sign : (var : ℕ) (odd : Bool) → is_negative (turned var odd) ≡ not odd
turned_sign var true = let even : 2 * var % 2 ≡ 0 = omega arith in ap (λ n. n == 1) even
turned_sign var false = let odd : (2 * var + 1) % 2 ≡ 1 = omega arith in ap (λ n. n == 1) odd

said_of_negation : (relations : List Relation) (c : Rankings) (answers : ℕ → Type 0) (statements : List Statement) (lit : Lit)
    → LitHolds relations c answers statements (negation lit) ≡ SaidHolds relations c answers (slice_get statements (var_of lit))
    (not (is_negative lit))
said_of_negation relations c answers statements lit =
    lit_is relations c answers statements (negation lit)
    ∙ ap (λ v. SaidHolds relations c answers (slice_get statements v) (is_negative (negation lit)))
    (turned_var (var_of lit) (is_negative lit))
    ∙ ap (SaidHolds relations c answers (slice_get statements (var_of lit))) (turned_sign (var_of lit) (is_negative lit))

-- ---- the laws

-- of a test which tuples are answers it is decided
pub tests_decide : (answers : ℕ → Bool) → AreDecided (passing answers)
tests_decide answers place = by (answers place)
  where
    by : (t : Bool) → Decided (t ≡ true)
    by true = inl refl
    by false = inr false≢true

pub decided : (answers : ℕ → Type 0) → AreDecided answers → LiteralsAreDecidedOver answers
decided answers are relations c statements lit =
    subst Decided (sym (lit_is relations c answers statements lit))
    (said_or relations c answers are (slice_get statements (var_of lit)) (is_negative lit))

pub negated : (answers : ℕ → Type 0) → LiteralsExcludeOver answers
negated answers relations c statements lit h k =
    never_both relations c answers (slice_get statements (var_of lit)) (is_negative lit)
    (transport (lit_is relations c answers statements lit) h) (transport (said_of_negation relations c answers statements lit) k)

pub other : (answers : ℕ → Type 0) → AreDecided answers → LiteralsComplementOver answers
other answers are relations c statements lit n =
    transport (sym (said_of_negation relations c answers statements lit))
    (one_holds relations c answers are (slice_get statements (var_of lit)) (is_negative lit)
    (λ h. n (transport (sym (lit_is relations c answers statements lit)) h)))

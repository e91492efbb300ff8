-- What the units and the empty clause of an accepted log say of the consistent completions.
use Rattle.std.proofs.Common.{◌≡◌, ◌==◌, ◌&&◌, ◌||◌, ◌⊎◌, inl, inr, ◌<◌, ◌≤◌, ℕ, Bool, true, false, not, List, [], ◌∷◌, All, Contains, Option, Some, None, length, get_or, slice_get, refl, sym, ap, ◌∙◌, subst, ⊎_elim, arith}
use Rattle.std.proofs.lemmas.Bool.{and_parts, or_cases, eqb-true, false≢true}
use Rattle.std.proofs.lemmas.List.Elements.{All-contains}
use Rattle.std.proofs.lemmas.List.Sums.{AllPass-from_list_all}
use Rattle.std.proofs.lemmas.Option.{same_Some, slice_get_cases}
use Rattle.axiom_laws.proofs.Decisions.{row_is}
use Rattle.axiom_laws.proofs.SaysSame.{place_is, one_is, equal_is, last_moves}
use Rattle.axiom_laws.proofs.Sound.{found}
use Rattle.axiom_laws.proofs.Standing.{AreTwo, all_at, either_before, entity_in}
use Rattle.currency_base.specs.declared.ids.AttrId.{AttrId}
use Rattle.currency_base.specs.declared.ids.EntId.{EntId}
use Rattle.currency_base.specs.declared.ids.RelId.{RelId}
use Rattle.currency_base.specs.declared.ids.RowId.{RowId}
use Rattle.currency_base.specs.declared.lit.Lit.{Lit}
use Rattle.currency_base.specs.declared.row.Row.{Row}
use Rattle.currency_base.specs.declared.value.Value.{Value}
use Rattle.denial_rules.specs.Instances.{field_value}
use Rattle.log_axioms.specs.Axioms.{before, last, is_said, lit_says, same_entity, same_place, same_sign, same_value, says_same}
use Rattle.log_axioms.specs.Truth.{ClauseHolds, HoldsIn, IsLast, IsTrueIn, LitHolds, meaning, rows_in}
use Rattle.log_axioms.specs.declared.signed.Signed.{Signed}
use Rattle.log_checker.specs.Shown.{is_empty, is_unit}
use Rattle.log_units.specs.Units.{HasLastUnit, HasUnit}
use Rattle.partial_orders.specs.Pairs.{entity_of}
use Rattle.refutation_log.specs.Steps.{clauses_of}
use Rattle.refutation_log.specs.declared.log.Log.{Log}
use Rattle.refutation_log.specs.declared.statement.Statement.{Statement}
use Rattle.refutation_log.specs.declared.statement.Statement.TheVariants as says
use Rattle.spec_model.specs.Questions.{IsAskedPair}
use Rattle.report_verify.specs.Right.{PairHolds}
use Rattle.report_verify.specs.Supported.{HasEmpty}
use Rattle.spec_model.specs.Completion.{Rankings, lists_of, IsCompletion, Before}
use Rattle.spec_model.specs.Current.{current_value}
use Rattle.spec_model.specs.Facts.{AreRelations, IsRelation}
use Rattle.spec_model.specs.declared.question.Asked.{Asked}
use Rattle.spec_model.specs.declared.relation.Relation.{Relation}

-- ---- the empty clause and units

-- a log that has the empty clause has it among its clauses
pub empty_there : (log : Log) → HasEmpty log → Contains (clauses_of log.steps) []
empty_there log has =
    let one = found is_empty (clauses_of log.steps) has in subst (Contains (clauses_of log.steps)) (none_in one.0 one.2) one.1
  where
    none_in : (clause : List Lit) → is_empty clause ≡ true → clause ≡ []
    none_in [] e = refl
    none_in (lit ∷ lits) e = absurd (false≢true e)

lit_is : (a b : Lit) → a.0 ≡ b.0 → a ≡ b
lit_is a b e = ap (λ (n : ℕ). let x : Lit = record { 0 = n } in x) e

-- the literal of a unit that is true is true
unit_holds : (relations : List Relation) (c : Rankings) (answers : ℕ → Type 0) (statements : List Statement)
    (lit : Lit) (clause : List Lit)
    → is_unit lit clause ≡ true → ClauseHolds relations c answers statements clause → LitHolds relations c answers statements lit
unit_holds relations c answers statements lit [] e holds = absurd (false≢true e)
unit_holds relations c answers statements lit (first ∷ lits) e holds =
    let each = AllPass-from_list_all (λ (l : Lit). l.0 == lit.0) (first ∷ lits) e in
    let here : (holds.lit.0 == lit.0) ≡ true =
    All-contains (λ (l : Lit). (l.0 == lit.0) ≡ true) (first ∷ lits) holds.lit each holds.is_in in
    subst (LitHolds relations c answers statements) (lit_is holds.lit lit (eqb-true holds.lit.0 lit.0 here)) holds.is_true

-- a true statement with its sign says the same
pub record IsSaid (relations : List Relation) (c : Rankings) (answers : ℕ → Type 0) (s : Signed) : Type 0 where
  pub said : Signed
  pub holds : HoldsIn relations c answers said
  pub same : says_same relations said s ≡ true

-- what a true literal says is true
lit_said : (relations : List Relation) (c : Rankings) (answers : ℕ → Type 0) (statements : List Statement)
    (s : Signed) (lit : Lit)
    → lit_says relations statements s lit ≡ true → LitHolds relations c answers statements lit → IsSaid relations c answers s
lit_said relations c answers statements s lit e holds = by (meaning statements lit) refl e holds
  where
    by : (o : Option Signed) → meaning statements lit ≡ o → is_said relations s (meaning statements lit) ≡ true
        → LitHolds relations c answers statements lit → IsSaid relations c answers s
    by None is e holds = let none : false ≡ true = rw is at e in absurd (false≢true none)
    by (Some m) is e holds =
        let same : is_said relations s (Some m) ≡ true = rw is at e in
        let true_here : HoldsIn relations c answers m = rw is at holds in
        record { said = m; holds = true_here; same = same }

-- what a unit says is true where the clauses of the log are
pub unit_said : (relations : List Relation) (c : Rankings) (answers : ℕ → Type 0) (log : Log) (s : Signed)
    → All (ClauseHolds relations c answers log.statements) (clauses_of log.steps) → HasUnit relations log s
    → IsSaid relations c answers s
unit_said relations c answers log s all unit =
    let clause = found (is_unit unit.lit) (clauses_of log.steps) unit.there in
    let holds = All-contains (ClauseHolds relations c answers log.statements) (clauses_of log.steps) clause.0 all clause.1 in
    lit_said relations c answers log.statements s unit.lit unit.says
    (unit_holds relations c answers log.statements unit.lit clause.0 clause.2 holds)

-- ---- pairs

statement_is : (rel rel' : RelId) (attr attr' : AttrId) (a a' b b' : RowId) → rel ≡ rel' → attr ≡ attr' → a ≡ a' → b ≡ b'
    → says.Before rel attr a b ≡ says.Before rel' attr' a' b'
statement_is rel rel' attr attr' a a' b b' r t e f = cc

-- two rows are the same two
rows_match : (a b a' b' : RowId) (sign : Bool) → ((a'.0 == a.0) && (b'.0 == b.0) && sign) ≡ true →
    (a' ≡ a) × (b' ≡ b) × (sign ≡ true)
rows_match a b a' b' sign e =
    let outer = and_parts ((a'.0 == a.0) && (b'.0 == b.0)) sign e in
    let both = and_parts (a'.0 == a.0) (b'.0 == b.0) outer.0 in
    (row_is a' a (eqb-true a'.0 a.0 both.0), row_is b' b (eqb-true b'.0 b.0 both.1), outer.1)

-- a true statement that says the same as that one row stands before another: they do, or the other does not before it
before_said : (relations : List Relation) (c : Rankings) (answers : ℕ → Type 0) (rel rel' : RelId)
    (attr attr' : AttrId) (a b a' b' : RowId) (negative : Bool)
    → IsCompletion relations c → AreTwo relations rel.0 attr.0 a b
    → says_same relations (record { statement = says.Before rel' attr' a' b'; negative = negative }) (before rel attr a b) ≡ true
    → HoldsIn relations c answers (record { statement = says.Before rel' attr' a' b'; negative = negative })
    → Before (lists_of c rel.0 attr.0) a b
before_said relations c answers rel rel' attr attr' a b a' b' negative completion two e holds =
    let split = and_parts (same_place rel' attr' rel attr)
    (((a'.0 == a.0) && (b'.0 == b.0) && same_sign negative false)
    || ((a'.0 == b.0) && (b'.0 == a.0) && not (same_sign negative false))) e in
    let place = place_is rel' rel attr' attr split.0 in
    ⊎_elim
    (λ (e : ((a'.0 == a.0) && (b'.0 == b.0) && same_sign negative false) ≡ true).
    let rows = rows_match a b a' b' (same_sign negative false) e in
    along negative rows.2 (statement_is rel' rel attr' attr a' a b' b place.0 place.1 rows.0 rows.1) holds)
    (λ (e : ((a'.0 == b.0) && (b'.0 == a.0) && not (same_sign negative false)) ≡ true).
    let rows = rows_match b a a' b' (not (same_sign negative false)) e in
    back negative rows.2 (statement_is rel' rel attr' attr a' b b' a place.0 place.1 rows.0 rows.1) holds)
    (or_cases ((a'.0 == a.0) && (b'.0 == b.0) && same_sign negative false)
    ((a'.0 == b.0) && (b'.0 == a.0) && not (same_sign negative false)) split.1)
  where
    along : (n : Bool) → same_sign n false ≡ true → says.Before rel' attr' a' b' ≡ says.Before rel attr a b
        → HoldsIn relations c answers (record { statement = says.Before rel' attr' a' b'; negative = n })
        → Before (lists_of c rel.0 attr.0) a b
    along true sign same holds = absurd (false≢true sign)
    along false sign same holds = subst (λ (s : Statement). IsTrueIn relations c answers s) same holds

    back : (n : Bool) → not (same_sign n false) ≡ true → says.Before rel' attr' a' b' ≡ says.Before rel attr b a
        → HoldsIn relations c answers (record { statement = says.Before rel' attr' a' b'; negative = n })
        → Before (lists_of c rel.0 attr.0) a b
    back false sign same holds = absurd (false≢true sign)
    back true sign same holds =
        ⊎_elim (λ h. h) (λ h. absurd (holds (subst (λ (s : Statement). IsTrueIn relations c answers s) (sym same) h)))
        (either_before relations c rel.0 attr.0 a b completion two)

pair_said : (relations : List Relation) (c : Rankings) (answers : ℕ → Type 0) (rel : RelId) (attr : AttrId)
    (a b : RowId) → IsCompletion relations c
    → AreTwo relations rel.0 attr.0 a b → IsSaid relations c answers (before rel attr a b) → Before (lists_of c rel.0 attr.0) a b
pair_said relations c answers rel attr a b completion two is = by is.said.statement is.said.negative is.same is.holds
  where
    by : (s : Statement) (n : Bool) → says_same relations (record { statement = s; negative = n }) (before rel attr a b) ≡ true
        → HoldsIn relations c answers (record { statement = s; negative = n }) → Before (lists_of c rel.0 attr.0) a b
    by (says.Before rel' attr' a' b') n e holds = before_said relations c answers rel rel' attr attr' a b a' b' n
        completion two e holds
    by (says.Top rel' attr' row) n e holds = absurd (false≢true e)
    by (says.Last rel' attr' row) n e holds = absurd (false≢true e)
    by (says.Answer tuple) n e holds = absurd (false≢true e)

-- an asked pair is of two different rows of one entity
asked_two : (relations : List Relation) (p : Asked) → AreRelations relations → IsAskedPair relations p
    → AreTwo relations p.rel.0 p.pair.attr.0 p.pair.earlier p.pair.later
asked_two relations p facts is = by (slice_get_cases is.relation.rows p.pair.earlier.0).1
  where
    r : Relation
    r = is.relation

    of_row : (row : Row) → slice_get r.rows p.pair.earlier.0 ≡ Some row → AreTwo relations p.rel.0 p.pair.attr.0
        p.pair.earlier p.pair.later
    of_row row at =
        let first : entity_of r.rows p.pair.earlier.0 ≡ Some row.entity.0 = rw at refl in
        let relation_facts = all_at IsRelation relations p.rel.0 r facts.each is.is_relation in
        record {
          relation = r;
          is_relation = is.is_relation;
          attr_in = is.pair.attr;
          ent = row.entity.0;
          ent_in = entity_in r.rows (length r.entities) p.pair.earlier.0 row.entity.0 relation_facts.entities first;
          first_of = first;
          second_of = sym is.pair.one_entity.1 ∙ first;
          differ = λ same. is.pair.one_entity.0 (row_is p.pair.earlier p.pair.later same);
        }

    by : ((row : Row) × (p.pair.earlier.0 < length r.rows) × (slice_get r.rows p.pair.earlier.0 ≡ Some row)
        × (get_or r.rows p.pair.earlier.0 row ≡ row))
        ⊎ ((length r.rows ≤ p.pair.earlier.0) × (slice_get r.rows p.pair.earlier.0 ≡ None))
        → AreTwo relations p.rel.0 p.pair.attr.0 p.pair.earlier p.pair.later
    by (inl one) = of_row one.0 one.2
    by (inr past) = absurd (let below = is.pair.earlier in let h = past.0 in omega arith)

-- the unit of an asked pair: the pair holds
pub pair_holds : (relations : List Relation) (c : Rankings) (answers : ℕ → Type 0) (log : Log) (p : Asked)
    → AreRelations relations → IsCompletion relations c
    → All (ClauseHolds relations c answers log.statements) (clauses_of log.steps) → IsAskedPair relations p
    → HasUnit relations log (before p.rel p.pair.attr p.pair.earlier p.pair.later) → PairHolds p c
pair_holds relations c answers log p facts completion all is unit =
    pair_said relations c answers p.rel p.pair.attr p.pair.earlier p.pair.later completion (asked_two relations p facts is)
    (unit_said relations c answers log (before p.rel p.pair.attr p.pair.earlier p.pair.later) all unit)

-- ---- values

-- another row of the entity with the row's value, of which it is true that its value is the current one
record IsSaidOf (c : Rankings) (rel attr : ℕ) (rows : List Row) (other row : RowId) : Type 0 where
  entity : same_entity rows other row ≡ true
  value : same_value rows attr other row ≡ true
  is_last : IsLast c rel attr rows other

current_of : (c : Rankings) (rel attr ent : ℕ) (rows : List Row) (other row : RowId) (v : Value) → entity_of rows row.0 ≡ Some ent
    → field_value rows (Some row) attr ≡ Some v → IsSaidOf c rel attr rows other row → current_value c rel rows attr ent ≡ Some v
current_of c rel attr ent rows other row v of_ent of_value is =
    let one = one_is (entity_of rows other.0) (entity_of rows row.0) is.entity in
    let value = equal_is (field_value rows (Some other) attr) (field_value rows (Some row) attr) is.value in
    let here = last_moves c rel attr one.0 rows value.0 other row one.1 one.2 value.1 value.2 is.is_last in
    let same_ent : here.ent ≡ ent = same_Some here.ent ent (sym here.of_entity ∙ of_ent) in
    let same_val : here.value ≡ v = same_Some here.value v (sym here.of_row ∙ of_value) in
    sym (ap (current_value c rel rows attr) same_ent) ∙ (here.current ∙ ap Some same_val)

-- a true statement that says the same as that a row's value is the current one says it of such a row
last_said : (relations : List Relation) (c : Rankings) (answers : ℕ → Type 0) (rel rel' : RelId)
    (attr attr' : AttrId) (other row : RowId) (negative : Bool)
    → says_same relations (record { statement = says.Last rel' attr' other; negative = negative }) (last rel attr row) ≡ true
    → HoldsIn relations c answers (record { statement = says.Last rel' attr' other; negative = negative })
    → IsSaidOf c rel.0 attr.0 (rows_in (slice_get relations rel.0)) other row
last_said relations c answers rel rel' attr attr' other row negative e holds =
    let rows = rows_in (slice_get relations rel'.0) in
    let front = same_place rel' attr' rel attr && same_sign negative false && same_entity rows other row in
    let ends = and_parts front (same_value rows attr'.0 other row) e in
    let middle = and_parts (same_place rel' attr' rel attr && same_sign negative false) (same_entity rows other row) ends.0 in
    let parts = and_parts (same_place rel' attr' rel attr) (same_sign negative false) middle.0 in
    let place = place_is rel' rel attr' attr parts.0 in
    let there : IsSaidOf c rel'.0 attr'.0 (rows_in (slice_get relations rel'.0)) other row =
    record { entity = middle.1; value = ends.1; is_last = by negative parts.1 holds } in
    subst (λ (t : AttrId). IsSaidOf c rel.0 t.0 (rows_in (slice_get relations rel.0)) other row) place.1
    (subst (λ (r : RelId). IsSaidOf c r.0 attr'.0 (rows_in (slice_get relations r.0)) other row) place.0 there)
  where
    by : (n : Bool) → same_sign n false ≡ true → HoldsIn relations c answers
        (record { statement = says.Last rel' attr' other; negative = n })
        → IsLast c rel'.0 attr'.0 (rows_in (slice_get relations rel'.0)) other
    by true sign holds = absurd (false≢true sign)
    by false sign holds = holds

value_said : (relations : List Relation) (c : Rankings) (answers : ℕ → Type 0) (rel : RelId) (attr : AttrId)
    (row : RowId) → IsSaid relations c answers (last rel attr row)
    → (other : RowId) × IsSaidOf c rel.0 attr.0 (rows_in (slice_get relations rel.0)) other row
value_said relations c answers rel attr row is = by is.said.statement is.said.negative is.same is.holds
  where
    by : (s : Statement) (n : Bool) → says_same relations (record { statement = s; negative = n }) (last rel attr row) ≡ true
        → HoldsIn relations c answers (record { statement = s; negative = n })
        → (other : RowId) × IsSaidOf c rel.0 attr.0 (rows_in (slice_get relations rel.0)) other row
    by (says.Last rel' attr' other) n e holds = (other, last_said relations c answers rel rel' attr attr' other row n e holds)
    by (says.Top rel' attr' row) n e holds = absurd (false≢true e)
    by (says.Before rel' attr' a b) n e holds = absurd (false≢true e)
    by (says.Answer tuple) n e holds = absurd (false≢true e)

-- the unit of a value: it is the current one
pub value_holds : (relations : List Relation) (c : Rankings) (answers : ℕ → Type 0) (log : Log) (rel : RelId)
    (attr : AttrId) (ent : EntId) (v : Value)
    (r : Relation) → slice_get relations rel.0 ≡ Some r → All (ClauseHolds relations c answers log.statements)
    (clauses_of log.steps)
    → HasLastUnit relations log rel attr ent v → current_value c rel.0 r.rows attr.0 ent.0 ≡ Some v
value_holds relations c answers log rel attr ent v r at all unit =
    let same : unit.relation ≡ r = same_Some unit.relation r (sym unit.is_relation ∙ at) in
    let is = value_said relations c answers rel attr unit.row
    (unit_said relations c answers log (last rel attr unit.row) all unit.unit) in
    let here = subst (λ rows. IsSaidOf c rel.0 attr.0 rows is.0 unit.row) (ap rows_in at) is.1 in
    current_of c rel.0 attr.0 ent.0 r.rows is.0 unit.row v
    (subst (λ (q : Relation). entity_of q.rows unit.row.0 ≡ Some ent.0) same unit.of_entity)
    (subst (λ (q : Relation). field_value q.rows (Some unit.row) attr.0 ≡ Some v) same unit.of_value) here

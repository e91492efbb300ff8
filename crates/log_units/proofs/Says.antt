-- A unit is there exactly where what it says is noted.
use Rattle.std.proofs.Common.{◌≡◌, ◌==◌, ◌&&◌, ◌||◌, ◌*◌, ◌/◌, ◌<◌, ℕ, Bool, true, false, not, eq-eqb, List, Contains, Option, Some, None, length, slice_get, option_map, refl, sym, ap, ◌∙◌, subst, ⊎_elim, arith}
use Rattle.std.proofs.lemmas.Bool.{and_parts, eqb-true, false≢true, or_cases}
use Rattle.std.proofs.lemmas.Option.{none-some, same_Some, slice_get_within, slice_get-get_or}
use Rattle.std.proofs.lemmas.Map.Keys.{any_passes_from_place}
use Rattle.std.specs.List.{list_any}
use Rattle.axiom_laws.proofs.Decisions.{row_is, value_itself}
use Rattle.axiom_laws.proofs.SaysSame.{equal_is, one_is, place_is}
use Rattle.axiom_laws.proofs.Sound.{found}
use Rattle.currency_base.specs.Literals.{is_negative, var_of}
use Rattle.currency_base.specs.declared.ids.AttrId.{AttrId}
use Rattle.currency_base.specs.declared.ids.EntId.{EntId}
use Rattle.currency_base.specs.declared.ids.RelId.{RelId}
use Rattle.currency_base.specs.declared.ids.RowId.{RowId}
use Rattle.currency_base.specs.declared.lit.Lit.{Lit}
use Rattle.currency_base.specs.declared.row.Row.{Row}
use Rattle.currency_base.specs.declared.value.Cmp.TheVariants.{Eq}
use Rattle.currency_base.specs.declared.value.Value.{Value}
use Rattle.denial_rules.specs.Instances.{field_value, is_compared}
use Rattle.log_axioms.specs.Axioms.{before, is_said, last, lit_says, same_entity, same_place, same_sign, same_value, says_same}
use Rattle.log_axioms.specs.Truth.{meaning, rows_in}
use Rattle.log_axioms.specs.declared.signed.Signed.{Signed}
use Rattle.partial_orders.specs.Pairs.{entity_of}
use Rattle.refutation_log.specs.declared.log.Log.{Log}
use Rattle.refutation_log.specs.declared.statement.Statement.{Statement}
use Rattle.refutation_log.specs.declared.statement.Statement.TheVariants as says
use Rattle.spec_model.specs.declared.relation.Relation.{Relation}
use Rattle.log_units.specs.Noted.{AreNoted}
use Rattle.log_units.specs.Said.{pair_of, row_of, rows_at}
use Rattle.log_units.specs.Units.{HasLastUnit, HasUnit}
use Rattle.log_units.specs.declared.index.Index.{Index}
use Rattle.log_units.specs.declared.said.SaidPair.{SaidPair}
use Rattle.log_units.specs.declared.said.SaidRow.{SaidRow}

abbrev pub signed : Statement → Bool → Signed
signed statement negative = record { statement = statement; negative = negative }

abbrev said_pair : RelId → AttrId → RowId → RowId → SaidPair
said_pair rel attr a b = record { rel = rel; attr = attr; earlier = a; later = b }

abbrev said_row : RelId → AttrId → EntId → RowId → SaidRow
said_row rel attr ent row = record { place = record { rel = rel; attr = attr; ent = ent }; row = row }

-- ---- tests

or_first : (p q : Bool) → p ≡ true → (p || q) ≡ true
or_first p q e = rw e refl

or_second : (p q : Bool) → q ≡ true → (p || q) ≡ true
or_second true q e = refl
or_second false q e = e

and_both : (p q : Bool) → p ≡ true → q ≡ true → (p && q) ≡ true
and_both p q e f = rw (e, f) refl

place_itself : (rel : RelId) (attr : AttrId) → same_place rel attr rel attr ≡ true
place_itself rel attr = and_both (rel.0 == rel.0) (attr.0 == attr.0) (eq-eqb rel.0 rel.0 refl) (eq-eqb attr.0 attr.0 refl)

-- ---- pairs

-- two rows are the same two
rows_match : (a b a' b' : RowId) (sign : Bool) → ((a'.0 == a.0) && (b'.0 == b.0) && sign) ≡ true →
    (a' ≡ a) × (b' ≡ b) × (sign ≡ true)
rows_match a b a' b' sign e =
    let outer = and_parts ((a'.0 == a.0) && (b'.0 == b.0)) sign e in
    let both = and_parts (a'.0 == a.0) (b'.0 == b.0) outer.0 in
    (row_is a' a (eqb-true a'.0 a.0 both.0), row_is b' b (eqb-true b'.0 b.0 both.1), outer.1)

-- what says the same as that one row stands before another says this pair
pub pair_of_same : (relations : List Relation) (m : Signed) (rel : RelId) (attr : AttrId) (a b : RowId)
    → says_same relations m (before rel attr a b) ≡ true → pair_of m ≡ Some (said_pair rel attr a b)
pair_of_same relations m rel attr a b e = by m.statement m.negative e
  where
    pair_is : (r : RelId) (t : AttrId) (x y : RowId) → r ≡ rel → t ≡ attr → x ≡ a → y ≡ b
        → Some (said_pair r t x y) ≡ Some (said_pair rel attr a b)
    pair_is r t x y e f g h = rw (e, f, g, h) refl

    along : (n : Bool) (r : RelId) (t : AttrId) (x y : RowId) → same_sign n false ≡ true → r ≡ rel → t ≡ attr → x ≡ a → y ≡ b
        → pair_of (signed (says.Before r t x y) n) ≡ Some (said_pair rel attr a b)
    along true r t x y sign e f g h = absurd (false≢true sign)
    along false r t x y sign e f g h = pair_is r t x y e f g h

    back : (n : Bool) (r : RelId) (t : AttrId) (x y : RowId) → not (same_sign n false) ≡ true → r ≡ rel → t ≡ attr → x ≡ b → y ≡ a
        → pair_of (signed (says.Before r t x y) n) ≡ Some (said_pair rel attr a b)
    back false r t x y sign e f g h = absurd (false≢true sign)
    back true r t x y sign e f g h = pair_is r t y x e f h g

    by : (s : Statement) (n : Bool) → says_same relations (signed s n) (before rel attr a b) ≡ true
        → pair_of (signed s n) ≡ Some (said_pair rel attr a b)
    by (says.Before r t x y) n e =
        let split = and_parts (same_place r t rel attr)
        (((x.0 == a.0) && (y.0 == b.0) && same_sign n false) || ((x.0 == b.0) && (y.0 == a.0) && not (same_sign n false))) e in
        let place = place_is r rel t attr split.0 in
        ⊎_elim
        (λ (e : ((x.0 == a.0) && (y.0 == b.0) && same_sign n false) ≡ true).
        let rows = rows_match a b x y (same_sign n false) e in along n r t x y rows.2 place.0 place.1 rows.0 rows.1)
        (λ (e : ((x.0 == b.0) && (y.0 == a.0) && not (same_sign n false)) ≡ true).
        let rows = rows_match b a x y (not (same_sign n false)) e in back n r t x y rows.2 place.0 place.1 rows.0 rows.1)
        (or_cases ((x.0 == a.0) && (y.0 == b.0) && same_sign n false) ((x.0 == b.0) && (y.0 == a.0)
        && not (same_sign n false)) split.1)
    by (says.Top r t x) n e = absurd (false≢true e)
    by (says.Last r t x) n e = absurd (false≢true e)
    by (says.Answer tuple) n e = absurd (false≢true e)

-- what says a pair says the same as that
pub same_of_pair : (relations : List Relation) (m : Signed) (rel : RelId) (attr : AttrId) (a b : RowId)
    → pair_of m ≡ Some (said_pair rel attr a b) → says_same relations m (before rel attr a b) ≡ true
same_of_pair relations m rel attr a b e = by m.statement m.negative e
  where
    rows_same : (x y : RowId) → ((x.0 == x.0) && (y.0 == y.0) && true) ≡ true
    rows_same x y = and_both ((x.0 == x.0) && (y.0 == y.0)) true
        (and_both (x.0 == x.0) (y.0 == y.0) (eq-eqb x.0 x.0 refl) (eq-eqb y.0 y.0 refl)) refl

    by : (s : Statement) (n : Bool) → pair_of (signed s n) ≡ Some (said_pair rel attr a b)
        → says_same relations (signed s n) (before rel attr a b) ≡ true
    by (says.Before r t x y) false e =
        let is : said_pair r t x y ≡ said_pair rel attr a b = same_Some (said_pair r t x y) (said_pair rel attr a b) e in
        subst (λ (p : SaidPair). says_same relations (signed (says.Before r t x y) false)
        (before p.rel p.attr p.earlier p.later) ≡ true) is
        (and_both (same_place r t r t)
        (((x.0 == x.0) && (y.0 == y.0) && true) || ((x.0 == y.0) && (y.0 == x.0) && false))
        (place_itself r t) (or_first ((x.0 == x.0) && (y.0 == y.0) && true) ((x.0 == y.0) && (y.0 == x.0) && false)
        (rows_same x y)))
    by (says.Before r t x y) true e =
        let is : said_pair r t y x ≡ said_pair rel attr a b = same_Some (said_pair r t y x) (said_pair rel attr a b) e in
        subst (λ (p : SaidPair). says_same relations (signed (says.Before r t x y) true)
        (before p.rel p.attr p.earlier p.later) ≡ true) is
        (and_both (same_place r t r t)
        (((x.0 == y.0) && (y.0 == x.0) && false) || ((x.0 == x.0) && (y.0 == y.0) && true))
        (place_itself r t) (or_second ((x.0 == y.0) && (y.0 == x.0) && false) ((x.0 == x.0) && (y.0 == y.0) && true)
        (rows_same x y)))
    by (says.Top r t x) n e = absurd (none-some (said_pair rel attr a b) e)
    by (says.Last r t x) n e = absurd (none-some (said_pair rel attr a b) e)
    by (says.Answer tuple) n e = absurd (none-some (said_pair rel attr a b) e)

-- ---- rows

-- a row that is said to have the current value of its entity: the statement says it, and the row is there
pub record IsLastOf (relations : List Relation) (m : Signed) (rel : RelId) (attr : AttrId) (ent : EntId)
    (row : RowId) : Type 0 where
  pub is : m ≡ last rel attr row
  pub of_entity : entity_of (rows_in (slice_get relations rel.0)) row.0 ≡ Some ent.0

pub last_of_row : (relations : List Relation) (m : Signed) (rel : RelId) (attr : AttrId) (ent : EntId) (row : RowId)
    → row_of relations m ≡ Some (said_row rel attr ent row) → IsLastOf relations m rel attr ent row
last_of_row relations m rel attr ent row e = by m.statement m.negative e
  where
    found_row : (r : RelId) (t : AttrId) (x : RowId) (o : Option ℕ) → entity_of (rows_in (slice_get relations r.0)) x.0 ≡ o
        → option_map (λ n. said_row r t (let y : EntId = record { 0 = n } in y) x) o ≡ Some (said_row rel attr ent row)
        → IsLastOf relations (last r t x) rel attr ent row
    found_row r t x None of e = absurd (none-some (said_row rel attr ent row) e)
    found_row r t x (Some n) of e =
        let own : EntId = record { 0 = n } in
        let is : said_row r t own x ≡ said_row rel attr ent row = same_Some (said_row r t own x) (said_row rel attr ent row) e in
        subst (λ (s : SaidRow). IsLastOf relations (last r t x) s.place.rel s.place.attr s.place.ent s.row) is
        record { is = refl; of_entity = of }

    by : (s : Statement) (n : Bool) → row_of relations (signed s n) ≡ Some (said_row rel attr ent row)
        → IsLastOf relations (signed s n) rel attr ent row
    by (says.Last r t x) false e = found_row r t x (entity_of (rows_in (slice_get relations r.0)) x.0) refl e
    by (says.Last r t x) true e = absurd (none-some (said_row rel attr ent row) e)
    by (says.Before r t x y) n e = absurd (none-some (said_row rel attr ent row) e)
    by (says.Top r t x) n e = absurd (none-some (said_row rel attr ent row) e)
    by (says.Answer tuple) n e = absurd (none-some (said_row rel attr ent row) e)

-- what says the same as that a row's value is the current one: a row of its entity with this value
pub record IsLastAlike (relations : List Relation) (m : Signed) (rel : RelId) (attr : AttrId) (ent : EntId)
    (v : Value) : Type 0 where
  pub row : RowId
  pub is_row : row_of relations m ≡ Some (said_row rel attr ent row)
  pub of_value : field_value (rows_in (slice_get relations rel.0)) (Some row) attr.0 ≡ Some v

pub last_alike : (relations : List Relation) (m : Signed) (rel : RelId) (attr : AttrId) (ent : EntId) (v : Value) (row : RowId)
    → entity_of (rows_in (slice_get relations rel.0)) row.0 ≡ Some ent.0
    → field_value (rows_in (slice_get relations rel.0)) (Some row) attr.0 ≡ Some v
    → says_same relations m (last rel attr row) ≡ true → IsLastAlike relations m rel attr ent v
last_alike relations m rel attr ent v row of_ent of_value e = by m.statement m.negative e
  where
    rows : List Row
    rows = rows_in (slice_get relations rel.0)

    at_place : (other : RowId) (n : Bool) → same_sign n false ≡ true → same_entity rows other row ≡ true
        → same_value rows attr.0 other row ≡ true
        → IsLastAlike relations (signed (says.Last rel attr other) n) rel attr ent v
    at_place other true sign entity value = absurd (false≢true sign)
    at_place other false sign entity value =
        let one = one_is (entity_of rows other.0) (entity_of rows row.0) entity in
        let alike = equal_is (field_value rows (Some other) attr.0) (field_value rows (Some row) attr.0) value in
        let own : entity_of rows other.0 ≡ Some ent.0 = one.1 ∙ sym one.2 ∙ of_ent in
        record {
          row = other;
          is_row = ap (option_map (λ n. said_row rel attr (let y : EntId = record { 0 = n } in y) other)) own;
          of_value = alike.1 ∙ sym alike.2 ∙ of_value;
        }

    by : (s : Statement) (n : Bool) → says_same relations (signed s n) (last rel attr row) ≡ true
        → IsLastAlike relations (signed s n) rel attr ent v
    by (says.Last r t other) n e =
        let own = rows_in (slice_get relations r.0) in
        let ends = and_parts (same_place r t rel attr && same_sign n false && same_entity own other row)
        (same_value own t.0 other row) e in
        let middle = and_parts (same_place r t rel attr && same_sign n false) (same_entity own other row) ends.0 in
        let parts = and_parts (same_place r t rel attr) (same_sign n false) middle.0 in
        let place = place_is r rel t attr parts.0 in
        moved r t other n place.0 place.1 parts.1 middle.1 ends.1
      where
        moved : (r : RelId) (t : AttrId) (other : RowId) (n : Bool) → r ≡ rel → t ≡ attr → same_sign n false ≡ true
            → same_entity (rows_in (slice_get relations r.0)) other row ≡ true
            → same_value (rows_in (slice_get relations r.0)) t.0 other row ≡ true
            → IsLastAlike relations (signed (says.Last r t other) n) rel attr ent v
        moved r t other n same_rel same_attr sign entity value =
            subst (λ (u : RelId). IsLastAlike relations (signed (says.Last u t other) n) rel attr ent v) (sym same_rel)
            (subst (λ (u : AttrId). IsLastAlike relations (signed (says.Last rel u other) n) rel attr ent v) (sym same_attr)
            (at_place other n sign
            (subst (λ (u : RelId). same_entity (rows_in (slice_get relations u.0)) other row ≡ true) same_rel entity)
            (subst (λ (u : AttrId). same_value rows u.0 other row ≡ true) same_attr
            (subst (λ (u : RelId). same_value (rows_in (slice_get relations u.0)) t.0 other row ≡ true) same_rel value))))
    by (says.Before r t x y) n e = absurd (false≢true e)
    by (says.Top r t x) n e = absurd (false≢true e)
    by (says.Answer tuple) n e = absurd (false≢true e)

-- ---- units

-- a unit whose literal says something: the literal is of a statement
pub record IsMeant (relations : List Relation) (log : Log) (lit : Lit) (s : Signed) : Type 0 where
  pub meant : Signed
  pub means : meaning log.statements lit ≡ Some meant
  pub same : says_same relations meant s ≡ true
  pub early : lit.0 < 2 * length log.statements

pub is_meant : (relations : List Relation) (log : Log) (lit : Lit) (s : Signed) → lit_says relations log.statements s lit ≡ true
    → IsMeant relations log lit s
is_meant relations log lit s e = by (slice_get log.statements (var_of lit)) refl e
  where
    by : (o : Option Statement) → slice_get log.statements (var_of lit) ≡ o → is_said relations s
        (option_map (λ (t : Statement). signed t (is_negative lit)) (slice_get log.statements (var_of lit))) ≡ true
        → IsMeant relations log lit s
    by None at e = absurd (false≢true
        (ap (λ (o : Option Statement). is_said relations s
        (option_map (λ (t : Statement). signed t (is_negative lit)) o)) (sym at) ∙ e))
    by (Some t) at e =
        let within = slice_get_within log.statements (var_of lit) t at in
        record {
          meant = signed t (is_negative lit);
          means = ap (option_map (λ (t : Statement). signed t (is_negative lit))) at;
          same = ap (λ (o : Option Statement). is_said relations s
              (option_map (λ (t : Statement). signed t (is_negative lit)) o)) (sym at) ∙ e;
          early = early lit.0 (length log.statements) within;
        }
      where
        early : (l n : ℕ) → l / 2 < n → l < 2 * n
        early l n h = omega arith

-- the rows that units name at a place
abbrev pub rows_named : Index → RelId → AttrId → EntId → List RowId
rows_named index rel attr ent = rows_at index.rows record { rel = rel; attr = attr; ent = ent }

-- a row has the value
abbrev pub has_value : Relation → AttrId → Value → RowId → Bool
has_value relation attr v row = is_compared (field_value relation.rows (Some row) attr.0) Eq (Some v)

module _ (relations : List Relation) (log : Log) (index : Index)
    (noted : AreNoted relations log (2 * length log.statements) index) where
  pub unit_of_pair : (rel : RelId) (attr : AttrId) (a b : RowId) → Contains index.pairs (said_pair rel attr a b)
      → HasUnit relations log (before rel attr a b)
  unit_of_pair rel attr a b is =
      let said = noted.pairs.only (said_pair rel attr a b) is in
      record {
        lit = said.lit;
        says = ap (is_said relations (before rel attr a b)) said.means ∙ same_of_pair relations said.signed rel attr
            a b said.says;
        there = said.there;
      }

  pub pair_of_unit : (rel : RelId) (attr : AttrId) (a b : RowId) → HasUnit relations log (before rel attr a b)
      → Contains index.pairs (said_pair rel attr a b)
  pair_of_unit rel attr a b unit =
      let is = is_meant relations log unit.lit (before rel attr a b) unit.says in
      noted.pairs.all (said_pair rel attr a b) record {
        lit = unit.lit;
        early = is.early;
        signed = is.meant;
        means = is.means;
        says = pair_of_same relations is.meant rel attr a b is.same;
        there = unit.there;
      }

  module _ (rel : RelId) (attr : AttrId) (ent : EntId) (v : Value) (relation : Relation)
      (at : slice_get relations rel.0 ≡ Some relation) where
    abbrev rows_are : rows_in (slice_get relations rel.0) ≡ relation.rows
    rows_are = ap rows_in at

    pub unit_of_value : list_any (has_value relation attr v) (rows_named index rel attr ent) ≡ true
        → HasLastUnit relations log rel attr ent v
    unit_of_value e =
        let one = found (has_value relation attr v) (rows_named index rel attr ent) e in
        let row = one.0 in
        let said = noted.rows.only (said_row rel attr ent row) one.1 in
        let is = last_of_row relations said.signed rel attr ent row said.says in
        let value = equal_is (field_value relation.rows (Some row) attr.0) (Some v) one.2 in
        let of_value : field_value relation.rows (Some row) attr.0 ≡ Some v = value.1 ∙ sym value.2 in
        let of_entity : entity_of relation.rows row.0 ≡ Some ent.0 =
        subst (λ rows. entity_of rows row.0 ≡ Some ent.0) rows_are is.of_entity in
        record {
          relation = relation;
          row = row;
          is_relation = at;
          of_entity = of_entity;
          of_value = of_value;
          unit = record {
            lit = said.lit;
            says = ap (is_said relations (last rel attr row)) (said.means ∙ ap Some is.is) ∙ itself row of_entity of_value;
            there = said.there;
          };
        }
      where
        itself : (row : RowId) → entity_of relation.rows row.0 ≡ Some ent.0 → field_value relation.rows (Some row) attr.0 ≡ Some v
            → says_same relations (last rel attr row) (last rel attr row) ≡ true
        itself row of_entity of_value =
            let entity : same_entity (rows_in (slice_get relations rel.0)) row row ≡ true =
            rw (rows_are, of_entity) (eq-eqb ent.0 ent.0 refl) in
            let value : same_value (rows_in (slice_get relations rel.0)) attr.0 row row ≡ true =
            rw (rows_are, of_value) (value_itself v) in
            and_both (same_place rel attr rel attr && true && same_entity (rows_in (slice_get relations rel.0)) row row)
            (same_value (rows_in (slice_get relations rel.0)) attr.0 row row)
            (and_both (same_place rel attr rel attr && true) (same_entity (rows_in (slice_get relations rel.0)) row row)
            (and_both (same_place rel attr rel attr) true (place_itself rel attr) refl) entity) value

    pub value_of_unit : HasLastUnit relations log rel attr ent v → list_any (has_value relation attr v)
        (rows_named index rel attr ent) ≡ true
    value_of_unit unit =
        let same : unit.relation ≡ relation = same_Some unit.relation relation (sym unit.is_relation ∙ at) in
        let own : unit.relation.rows ≡ rows_in (slice_get relations rel.0) = ap (λ (r : Relation). r.rows) same ∙ sym rows_are in
        let is = is_meant relations log unit.unit.lit (last rel attr unit.row) unit.unit.says in
        let alike = last_alike relations is.meant rel attr ent v unit.row
        (subst (λ rows. entity_of rows unit.row.0 ≡ Some ent.0) own unit.of_entity)
        (subst (λ rows. field_value rows (Some unit.row) attr.0 ≡ Some v) own unit.of_value) is.same in
        let named = noted.rows.all (said_row rel attr ent alike.row) record {
          lit = unit.unit.lit;
          early = is.early;
          signed = is.meant;
          means = is.means;
          says = alike.is_row;
          there = unit.unit.there;
        } in
        let value : field_value relation.rows (Some alike.row) attr.0 ≡ Some v =
        subst (λ rows. field_value rows (Some alike.row) attr.0 ≡ Some v) rows_are alike.of_value in
        let passes : has_value relation attr v alike.row ≡ true = rw value (value_itself v) in
        any_passes_from_place (has_value relation attr v) (rows_named index rel attr ent) named.0 alike.row
        (slice_get-get_or (rows_named index rel attr ent) named.0 alike.row named.1 ∙ ap Some named.2) passes

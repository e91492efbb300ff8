-- Each kind of statement that is made says the same for the judge.
use Rattle.std.proofs.Common.{◌≡◌, ◌==◌, ◌&&◌, ◌||◌, ◌<◌, Bool, true, false, not, List, [], Option, Some, None, length, slice_get, refl, ap, ◌∙◌}
use Rattle.std.proofs.lemmas.Bool.{and_from, and_parts, or_right}
use Rattle.currency_base.specs.declared.ids.AttrId.{AttrId}
use Rattle.currency_base.specs.declared.ids.RelId.{RelId}
use Rattle.currency_base.specs.declared.ids.RowId.{RowId}
use Rattle.currency_base.specs.declared.row.Row.{Row}
use Rattle.currency_base.specs.declared.value.Cmp.TheVariants.{Eq}
use Rattle.denial_rules.specs.Instances.{field_value, is_compared}
use Rattle.partial_orders.specs.Pairs.{entity_of}
use Rattle.spec_model.specs.Facts.{IsRelation}
use Rattle.spec_model.specs.Spec.{Spec}
use Rattle.spec_model.specs.declared.relation.Relation.{Relation}
use Rattle.refutation_log.specs.declared.statement.Statement.{Statement}
use Rattle.refutation_log.specs.declared.statement.Statement.TheVariants as says
use Rattle.refutation_log.specs.declared.step.Label.{Label}
use Rattle.log_axioms.specs.Axioms.{same_entity, same_value, same_sign, same_place, says_same, axiom_of}
use Rattle.log_axioms.specs.Truth.{rows_in}
use Rattle.log_axioms.specs.declared.signed.Signed.{Signed}
use Rattle.order_literals.specs.Axioms.{IsAxiom}
use Rattle.order_literals.specs.Said.{Said}
use Rattle.value_names.specs.Names.{is_one_entity, name_of}
use Rattle.value_names.proofs.NameFacts.{HaveOne, have_one_alike, named}
use Rattle.axiom_agreement.proofs.Agreeing.{Agrees, AllAgree, agrees_if}
use Rattle.axiom_agreement.proofs.Tests.{itself, entity_passes}

abbrev said : Statement → Bool → Said
said statement negative = record { statement = statement; negative = negative }

abbrev signed : Statement → Bool → Signed
signed statement negative = record { statement = statement; negative = negative }

place_itself : (rel : RelId) (attr : AttrId) → same_place rel attr rel attr ≡ true
place_itself rel attr = and_from (rel.0 == rel.0) (attr.0 == attr.0) (itself rel.0) (itself attr.0)

sign_itself : (negative : Bool) → same_sign negative negative ≡ true
sign_itself true = refl
sign_itself false = refl

sign_turned : (negative : Bool) → not (same_sign (not negative) negative) ≡ true
sign_turned true = refl
sign_turned false = refl

three_from : (a b c : Bool) → a ≡ true → b ≡ true → c ≡ true → (a && b && c) ≡ true
three_from a b c p q r = and_from (a && b) c (and_from a b p q) r

-- ---- the order of two rows

order_itself : (relations : List Relation) (rel : RelId) (attr : AttrId) (a b : RowId) (n : Bool)
    → says_same relations (signed (says.Before rel attr a b) n) (signed (says.Before rel attr a b) n) ≡ true
order_itself relations rel attr a b n = rw (itself rel.0, itself attr.0, itself a.0, itself b.0, sign_itself n) refl

order_turned : (relations : List Relation) (rel : RelId) (attr : AttrId) (a b : RowId) (n : Bool)
    → says_same relations (signed (says.Before rel attr b a) (not n)) (signed (says.Before rel attr a b) n) ≡ true
order_turned relations rel attr a b n =
    let straight = (b.0 == a.0) && (a.0 == b.0) && same_sign (not n) n in
    let turn = (b.0 == b.0) && (a.0 == a.0) && not (same_sign (not n) n) in
    and_from (same_place rel attr rel attr) (straight || turn) (place_itself rel attr)
    (or_right straight turn (three_from (b.0 == b.0) (a.0 == a.0) (not (same_sign (not n) n)) (itself b.0)
    (itself a.0) (sign_turned n)))

pub order_agrees : (relations : List Relation) (rel : RelId) (attr : AttrId) (a b : RowId) (n : Bool)
    → Agrees relations (said (says.Before rel attr a b) n) (signed (says.Before rel attr a b) n)
order_agrees relations rel attr a b n =
    agrees_if relations (said (says.Before rel attr a b) n) (signed (says.Before rel attr a b) n)
    (order_itself relations rel attr a b n)
    (order_turned relations rel attr a b n)

-- ---- that a row stands last

top_itself : (relations : List Relation) (rel : RelId) (attr : AttrId) (row : RowId) (n : Bool)
    → says_same relations (signed (says.Top rel attr row) n) (signed (says.Top rel attr row) n) ≡ true
top_itself relations rel attr row n =
    three_from (same_place rel attr rel attr) (row.0 == row.0) (same_sign n n) (place_itself rel attr) (itself row.0)
    (sign_itself n)

pub top_agrees : (relations : List Relation) (rel : RelId) (attr : AttrId) (row : RowId) (n : Bool)
    → Agrees relations (said (says.Top rel attr row) n) (signed (says.Top rel attr row) n)
top_agrees relations rel attr row n =
    agrees_if relations (said (says.Top rel attr row) n) (signed (says.Top rel attr row) n) (top_itself relations rel attr row n)
    (top_itself relations rel attr row n)

-- ---- that a value is current, which the first row with it names

-- a row of a relation, and one of its attributes
pub record IsRowIn (relations : List Relation) (rel : RelId) (attr : AttrId) (row : RowId) (r : Relation) : Type 0 where
  pub is_relation : slice_get relations rel.0 ≡ Some r
  pub facts : IsRelation r
  pub attr_in : attr.0 < length r.attrs
  pub row_in : row.0 < length r.rows

last_named : (relations : List Relation) (rel : RelId) (attr : AttrId) (row : RowId) (n : Bool) (r : Relation)
    → IsRowIn relations rel attr row r
    → says_same relations (signed (says.Last rel attr (name_of r.rows attr.0 row)) n) (signed (says.Last rel attr row) n) ≡ true
last_named relations rel attr row n r is =
    let name = name_of r.rows attr.0 row in
    let one = (named r attr.0 is.facts is.attr_in row is.row_in).have_one in
    let back : HaveOne r.rows attr.0 name row = record {
      ent = one.ent;
      entity = one.other_entity;
      other_entity = one.entity;
      value = one.value;
      here = one.there;
      there = one.here;
    } in
    let value =
    (and_parts (is_one_entity (entity_of r.rows name.0) (entity_of r.rows row.0))
    (is_compared (field_value r.rows (Some name) attr.0) Eq (field_value r.rows (Some row) attr.0))
    (have_one_alike r.rows attr.0 name row back)).1 in
    let rows = rows_in (slice_get relations rel.0) in
    let rows_are : rows ≡ r.rows = ap rows_in is.is_relation in
    and_from (same_place rel attr rel attr && same_sign n n && same_entity rows name row) (same_value rows attr.0 name row)
    (three_from (same_place rel attr rel attr) (same_sign n n) (same_entity rows name row) (place_itself rel attr) (sign_itself n)
    (ap (λ (t : List Row). same_entity t name row) rows_are ∙ entity_passes r.rows name row one.ent one.other_entity one.entity))
    (ap (λ (t : List Row). same_value t attr.0 name row) rows_are ∙ value)

pub last_agrees : (relations : List Relation) (rel : RelId) (attr : AttrId) (row : RowId) (n : Bool) (r : Relation)
    → IsRowIn relations rel attr row r
    → Agrees relations (said (says.Last rel attr (name_of r.rows attr.0 row)) n) (signed (says.Last rel attr row) n)
last_agrees relations rel attr row n r is =
    let name = name_of r.rows attr.0 row in
    agrees_if relations (said (says.Last rel attr name) n) (signed (says.Last rel attr row) n)
    (last_named relations rel attr row n r is)
    (last_named relations rel attr row n r is)

-- ---- a label

-- what the judge has where nothing is posed
abbrev pub judged_of : Spec → Label → Option (List Signed)
judged_of s l = axiom_of s (record { query = None; answers = [] }) l

-- the judge has a clause for the label, which agrees with this one
pub record IsJudged (s : Spec) (l : Label) (clause : List Said) : Type 0 where
  pub signed : List Signed
  pub is : judged_of s l ≡ Some signed
  pub agree : AllAgree s.relations clause signed

-- a label has a clause for those who make axioms
abbrev pub HasAxiom : Spec → Label → Type 0
HasAxiom s l = (clause : List Said) × IsAxiom s l clause

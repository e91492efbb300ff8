-- What is found of a claim, by the last row of its entity.
use Rattle.std.proofs.Common.{◌≡◌, ◌∙◌, true, false, List, Some, slice_get, sym, ap}
use Rattle.std.proofs.lemmas.Option.{same_Some}
use Rattle.currency_base.specs.Values.{value_test}
use Rattle.currency_base.specs.declared.row.Row.{Row}
use Rattle.currency_base.specs.declared.value.Cmp.TheVariants as cmp
use Rattle.currency_base.specs.declared.value.Value.{Value}
use Rattle.match_premises.specs.declared.premise.Premise.{Premise}
use Rattle.spec_model.specs.Completion.{Rankings}
use Rattle.spec_model.specs.Current.{current_value}
use Rattle.spec_model.specs.declared.relation.Relation.{Relation}
use Rattle.posed_facts.specs.Facts.{IsCurrent}
use Rattle.posed_facts.specs.Questions.{claim_row, claim_value}
use Rattle.posed_facts.proofs.Reading.{IsRead, claim_current, current_claim, current_of}
use Rattle.posed_facts.proofs.Values.{equal_same, same_equal}

-- what is read of a claim: its row, its value, and the current value of the row's entity
pub record AreFound (relations : List Relation) (p : Premise) (c : Rankings) (row : Row) (value last : Value) : Type 0 where
  pub read : IsRead relations p
  pub is_row : claim_row relations p ≡ Some row
  pub is_value : claim_value relations p ≡ Some value
  pub is_last : (r : Relation) → slice_get relations p.rel.0 ≡ Some r
      → current_value c p.rel.0 r.rows p.attr.0 row.entity.0 ≡ Some last

-- the last row's value is the current one
last_current : (relations : List Relation) (p : Premise) (c : Rankings) (row : Row) (value last : Value)
    → (found : AreFound relations p c row value last) → current_of relations p found.read c last
last_current relations p c row value last found =
    let read = found.read in
    let same : read.row ≡ row = same_Some read.row row (sym read.reads_row ∙ found.is_row) in
    ap (λ (w : Row). current_value c p.rel.0 read.relation.rows p.attr.0 w.entity.0) same
    ∙ found.is_last read.relation read.is_relation

-- the value is the one that is read
value_read : (relations : List Relation) (p : Premise) (c : Rankings) (row : Row) (value last : Value)
    → (found : AreFound relations p c row value last) → value ≡ found.read.value
value_read relations p c row value last found =
    same_Some value found.read.value (sym found.is_value ∙ found.read.reads_value)

-- where they are equal the claim holds
pub found_current : (relations : List Relation) (p : Premise) (c : Rankings) (row : Row) (value last : Value)
    → AreFound relations p c row value last → value_test cmp.Eq last value ≡ true → IsCurrent relations p c
found_current relations p c row value last found told =
    current_claim relations p found.read c
    (last_current relations p c row value last found
    ∙ ap (λ x. Some x) (equal_same last value told ∙ value_read relations p c row value last found))

-- where they are not it fails
pub found_other : (relations : List Relation) (p : Premise) (c : Rankings) (row : Row) (value last : Value)
    → AreFound relations p c row value last → value_test cmp.Eq last value ≡ false → IsCurrent relations p c → ⊥
found_other relations p c row value last found told is =
    same_equal last value told
    (same_Some last found.read.value
    (sym (last_current relations p c row value last found) ∙ claim_current relations p found.read c is)
    ∙ sym (value_read relations p c row value last found))

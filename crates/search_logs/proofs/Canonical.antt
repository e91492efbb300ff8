-- The row that names a value is the first of its entity that has it.
use Rattle.std.proofs.Common.{◌≡◌, ◌⊎◌, inl, inr, ◌∙◌, ◌==◌, ◌<◌, ◌+◌, ℕ, zero, suc, Bool, true, false, cond, List, [], ◌∷◌, Some, length, refl, sym, ap, arith}
use Rattle.std.specs.List.{filter}
use Rattle.std.proofs.lemmas.Bool.{eq-eqb, eqb-true, cases_Bool}
use Rattle.std.proofs.lemmas.Option.{none-some, same_Some}
use Rattle.currency_base.specs.declared.ids.RowId.{RowId}
use Rattle.currency_base.specs.declared.row.Row.{Row}
use Rattle.entity_rows.specs.Members.{members_from}
use Rattle.partial_orders.specs.Pairs.{entity_of}
use Rattle.spec_model.specs.Facts.{IsRelation}
use Rattle.spec_model.specs.declared.relation.Relation.{Relation}
use Rattle.log_form.specs.Form.{same_value, is_first, is_first_alike}
use Rattle.value_names.specs.Names.{are_alike, name_of}
use Rattle.value_names.proofs.NameFacts.{alike_to_itself, same_name, named}
use Rattle.order_clauses.proofs.Members.{row_within}

-- ---- the first of an entity's rows that passes a test

-- no earlier row of the entity passes the test
abbrev NoEarlier : (RowId → Bool) → ℕ → List Row → ℕ → ℕ → Type 0
NoEarlier p first rows ent k = (i : ℕ) (other : RowId) → i < k → entity_of rows i ≡ Some ent → other.0 ≡ first + i
    → p other ≡ false

first_kept : (p : RowId → Bool) (first : ℕ) (rows : List Row) (ent k : ℕ) (row : RowId) → row.0 ≡ first + k
    → entity_of rows k ≡ Some ent
    → p row ≡ true → NoEarlier p first rows ent k → is_first row (filter p (members_from first rows ent)) ≡ true
first_kept p first [] ent k row is of passes none = absurd (none-some ent of)
first_kept p first (x ∷ rows) ent zero row is of passes none =
    let here : RowId = record { 0 = first } in
    let mine : (x.entity.0 == ent) ≡ true = eq-eqb x.entity.0 ent (same_Some x.entity.0 ent of) in
    let number : row.0 ≡ first = omega (arith, is) in
    let same : p here ≡ true = ap (λ (n : ℕ). let r : RowId = record { 0 = n } in p r) (sym number) ∙ passes in
    rw (mine, same) (eq-eqb first row.0 (sym number))
first_kept p first (x ∷ rows) ent (suc k) row is of passes none =
    go (cases_Bool (x.entity.0 == ent))
    (first_kept p (first + 1) rows ent k row (omega (arith, is)) of passes
    (λ i other below of_other number. none (suc i) other (omega (arith, below)) of_other (omega (arith, number))))
  where
    here : RowId
    here = record { 0 = first }

    rest : List RowId
    rest = members_from (first + 1) rows ent

    go : ((x.entity.0 == ent) ≡ true) ⊎ ((x.entity.0 == ent) ≡ false) → is_first row (filter p rest) ≡ true
        → is_first row (filter p (cond (x.entity.0 == ent) (here ∷ rest) rest)) ≡ true
    go (inl mine) later =
        let fails : p here ≡ false = none 0 here (omega arith) (ap Some (eqb-true x.entity.0 ent mine)) (omega arith) in
        rw (mine, fails) later
    go (inr other) later = rw other later

-- ---- values

alike_is : (rows : List Row) (attr : ℕ) (row other : RowId) (ent : ℕ) → entity_of rows row.0 ≡ Some ent
    → entity_of rows other.0 ≡ Some ent
    → are_alike rows attr row other ≡ same_value rows attr row other
alike_is rows attr row other ent of_row of_other = rw (of_row, of_other, eq-eqb ent ent refl) refl

module _ (r : Relation) (attr : ℕ) (row : RowId) (ent : ℕ) (facts : IsRelation r) (attr_in : attr < length r.attrs)
    (of : entity_of r.rows row.0 ≡ Some ent) (own : name_of r.rows attr row ≡ row) where
  no_earlier : NoEarlier (same_value r.rows attr row) 0 r.rows ent row.0
  no_earlier i other below of_other number =
      let same : other.0 ≡ i = omega (arith, number) in
      let of_it : entity_of r.rows other.0 ≡ Some ent = ap (entity_of r.rows) same ∙ of_other in
      go of_it (cases_Bool (same_value r.rows attr row other))
    where
      go : entity_of r.rows other.0 ≡ Some ent → (same_value r.rows attr row other ≡ true) ⊎
          (same_value r.rows attr row other ≡ false)
          → same_value r.rows attr row other ≡ false
      go of_it (inr fails) = fails
      go of_it (inl passes) =
          let alike : are_alike r.rows attr row other ≡ true = alike_is r.rows attr row other ent of of_it ∙ passes in
          let one : row ≡ name_of r.rows attr other =
          sym own ∙ same_name r attr facts attr_in row other (row_within r.rows row.0 ent of) alike in
          let its = (named r attr facts attr_in other (row_within r.rows other.0 ent of_it)).least in
          let number_is = ap (λ (x : RowId). x.0) one in
          absurd (omega (arith, below, number, its, number_is))

  pub is_canonical : is_first_alike r.rows attr row ≡ true
  is_canonical =
      let passes : same_value r.rows attr row row ≡ true =
      sym (alike_is r.rows attr row row ent of of) ∙ alike_to_itself r attr row facts attr_in (row_within r.rows row.0 ent of) in
      let first = first_kept (same_value r.rows attr row) 0 r.rows ent row.0 row (omega arith) of passes no_earlier in
      rw of first

-- When the fact for a field holds in another completion.
use Rattle.std.proofs.Common.{◌≡◌, ◌∙◌, ℕ, List, Some, slice_get, sym, ap}
use Rattle.std.proofs.lemmas.Option.{same_Some}
use Rattle.currency_base.specs.declared.row.Row.{Row}
use Rattle.denial_rules.specs.Instances.{value_in}
use Rattle.posed_facts.specs.Facts.{IsCurrent}
use Rattle.posed_facts.specs.declared.fact.Fact.{Fact}
use Rattle.spec_model.specs.Completion.{Rankings}
use Rattle.spec_model.specs.Current.{current_value}
use Rattle.spec_model.specs.declared.relation.Relation.{Relation}
use Rattle.golden_values.specs.Steps.{IsClaimAt}
use Rattle.golden_values.proofs.Made.{row_of}

-- it holds where the value is the current one
pub claim_holds : (relations : List Relation) (rel : ℕ) (r : Relation) → slice_get relations rel ≡ Some r
    → (c d : Rankings) (ent attr : ℕ) (f : Fact) → (is : IsClaimAt rel r c ent attr f)
    → current_value d rel r.rows attr ent ≡ Some is.value → IsCurrent relations is.claim d
claim_holds relations rel r at c d ent attr f is current =
    let claim = is.claim in
    let w = row_of r.rows claim.row.0 ent is.of_entity in
    record {
      relation = r;
      is_relation = ap (slice_get relations) is.of_relation ∙ at;
      row = w.0;
      is_row = w.1;
      value = is.value;
      is_value = ap (slice_get w.0.values) is.of_attr ∙ ap (λ o. value_in o attr) (sym w.1) ∙ is.of_value;
      current = ap (λ n. current_value d n r.rows claim.attr.0 w.0.entity.0) is.of_relation
          ∙ ap (λ n. current_value d rel r.rows n w.0.entity.0) is.of_attr
          ∙ ap (λ n. current_value d rel r.rows attr n) w.2
          ∙ current;
    }

-- and the value is the current one where it holds
pub holds_claim : (relations : List Relation) (rel : ℕ) (r : Relation) → slice_get relations rel ≡ Some r
    → (c d : Rankings) (ent attr : ℕ) (f : Fact) → (is : IsClaimAt rel r c ent attr f)
    → IsCurrent relations is.claim d → current_value d rel r.rows attr ent ≡ Some is.value
holds_claim relations rel r at c d ent attr f is own =
    let claim = is.claim in
    let w = row_of r.rows claim.row.0 ent is.of_entity in
    let same : own.relation ≡ r =
    same_Some own.relation r (sym own.is_relation ∙ ap (slice_get relations) is.of_relation ∙ at) in
    let row : own.row ≡ w.0 =
    same_Some own.row w.0 (sym own.is_row ∙ ap (λ (q : Relation). slice_get q.rows claim.row.0) same ∙ w.1) in
    ap (λ n. current_value d rel r.rows attr n) (sym w.2)
    ∙ ap (λ (u : Row). current_value d rel r.rows attr u.entity.0) (sym row)
    ∙ ap (λ (q : Relation). current_value d rel q.rows attr own.row.entity.0) (sym same)
    ∙ ap (λ n. current_value d rel own.relation.rows n own.row.entity.0) (sym is.of_attr)
    ∙ ap (λ n. current_value d n own.relation.rows claim.attr.0 own.row.entity.0) (sym is.of_relation)
    ∙ own.current
    ∙ sym own.is_value
    ∙ ap (λ (u : Row). slice_get u.values claim.attr.0) row
    ∙ ap (slice_get w.0.values) is.of_attr
    ∙ ap (λ o. value_in o attr) (sym w.1)
    ∙ is.of_value

-- The facts for fields can be asked for.
use Rattle.std.proofs.Common.{◌≡◌, ◌∙◌, ◌<◌, ℕ, List, All, Some, length, slice_get, sym, ap, subst}
use Rattle.posed_facts.specs.Facts.{IsPlaced, IsPosable}
use Rattle.posed_facts.specs.declared.fact.Fact.{Fact}
use Rattle.spec_model.specs.Completion.{Rankings}
use Rattle.spec_model.specs.declared.relation.Relation.{Relation}
use Rattle.golden_values.specs.Steps.{AreClaims, IsClaim}
use Rattle.golden_values.proofs.Lists.{each_has, item_has}
use Rattle.golden_values.proofs.Made.{row_of}

-- the relation, the row and the attribute of such a fact are there
claim_placed : (relations : List Relation) (rel : ℕ) (r : Relation) → slice_get relations rel ≡ Some r → (c : Rankings)
    → (f : Fact) → (is : IsClaim rel r c f) → IsPlaced relations is.claims.claim
claim_placed relations rel r at c f is =
    let w = row_of r.rows is.claims.claim.row.0 is.ent is.claims.of_entity in
    record {
      relation = r;
      is_relation = ap (slice_get relations) is.claims.of_relation ∙ at;
      row = w.0;
      is_row = w.1;
      attr = subst (λ n. n < length r.attrs) (sym is.claims.of_attr) is.attr_within;
    }

-- so each of them can be asked for
pub claims_posable : (relations : List Relation) (rel : ℕ) (c : Rankings) (facts : List Fact) → AreClaims relations rel c facts
    → All (IsPosable relations) facts
claims_posable relations rel c facts are =
    each_has (IsPosable relations) facts
    (λ k f at.
    let is = item_has (IsClaim rel are.relation c) facts are.claims.only k f at in
    subst (IsPosable relations) (sym is.claims.is_claim) (claim_placed relations rel are.relation are.is_relation c f is))

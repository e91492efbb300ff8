-- A completion is one of the same relations with some of their given pairs.
use Rattle.std.proofs.Common.{◌≡◌, ◌∙◌, ℕ, zero, suc, List, [], ◌∷◌, Some, length, slice_get, refl, ap}
use Rattle.std.proofs.lemmas.Option.{none-some, same_Some}
use Rattle.currency_base.specs.declared.pair.Pair.{Pair}
use Rattle.spec_items.specs.Kept.{Keeps, kept_pairs, kept_relations}
use Rattle.spec_model.specs.Completion.{Rankings, IsCompletion}
use Rattle.spec_model.specs.declared.relation.Relation.{Relation}

-- a relation is there with some of its given pairs
kept_at : (keeps : Keeps) (first : ℕ) (rs : List Relation) (rel : ℕ) (r : Relation) → slice_get rs rel ≡ Some r
    → (given : List Pair) × (slice_get (kept_relations keeps first rs) rel ≡ Some (record r { given = given }))
kept_at keeps first [] rel r at = absurd (none-some r at)
kept_at keeps first (x ∷ rs) zero r at =
    let given = kept_pairs keeps first x.given in
    (given, ap (λ (y : Relation). Some (record y { given = given })) (same_Some x r at))
kept_at keeps first (x ∷ rs) (suc rel) r at = kept_at keeps (suc first) rs rel r at

as_many : (keeps : Keeps) (first : ℕ) (rs : List Relation) → length (kept_relations keeps first rs) ≡ length rs
as_many keeps first [] = refl
as_many keeps first (r ∷ rs) = ap suc (as_many keeps (suc first) rs)

pub completion_whole : (keeps : Keeps) (rs : List Relation) (c : Rankings) → IsCompletion (kept_relations keeps 0 rs) c
    → IsCompletion rs c
completion_whole keeps rs c is = record {
  shape = record {
    per_relation = is.shape.per_relation ∙ as_many keeps 0 rs;
    per_attr = λ rel r at.
        let k = kept_at keeps 0 rs rel r at in is.shape.per_attr rel (record r { given = k.0 }) k.1;
    per_entity = λ rel r at.
        let k = kept_at keeps 0 rs rel r at in is.shape.per_entity rel (record r { given = k.0 }) k.1;
  };
  ranked = λ rel r at.
      let k = kept_at keeps 0 rs rel r at in is.ranked rel (record r { given = k.0 }) k.1;
}

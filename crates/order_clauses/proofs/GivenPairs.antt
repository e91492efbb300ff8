-- The axioms of given pairs.
use Rattle.std.proofs.Common.{◌≡◌, ◌∙◌, ◌<◌, ℕ, zero, suc, List, [], ◌∷◌, Contains, Some, length, slice_get, refl, sym, arith}
use Rattle.std.specs.List.{flat_map}
use Rattle.std.proofs.lemmas.List.Elements.{All-contains}
use Rattle.currency_base.specs.declared.ids.RelId.{RelId}
use Rattle.currency_base.specs.declared.lit.Lit.{Lit}
use Rattle.currency_base.specs.declared.pair.Pair.{Pair}
use Rattle.currency_base.specs.declared.row.Row.{Row}
use Rattle.partial_orders.specs.Pairs.{entity_of}
use Rattle.spec_model.specs.Facts.{IsRelation, IsGivenPair}
use Rattle.spec_model.specs.Spec.{Spec}
use Rattle.spec_model.specs.declared.relation.Relation.{Relation}
use Rattle.refutation_log.specs.declared.step.Label.TheVariants as label
use Rattle.refutation_log.specs.declared.step.Step.{Step}
use Rattle.order_literals.specs.Said.{Says, before}
use Rattle.order_clauses.specs.Added.{Adds, IsClauseOf}
use Rattle.order_clauses.specs.Listing.{given_label, given_at}
use Rattle.order_clauses.specs.Subject.{Subject, variables, IsPairIn}

-- a row that is there stands for an entity
pub entity_there : (rows : List Row) (row : ℕ) → row < length rows → (ent : ℕ) × (entity_of rows row ≡ Some ent)
entity_there [] row within = absurd (omega arith)
entity_there (r ∷ rows) zero within = (r.entity.0, refl)
entity_there (r ∷ rows) (suc row) within = entity_there rows row (omega arith)

pub given_pair : (s : Spec) (rel : RelId) (r : Relation) (p : Pair) → slice_get s.relations rel.0 ≡ Some r
    → IsRelation r → Contains r.given p → IsPairIn s rel p.attr p.earlier p.later
given_pair s rel r p at is h =
    let of : IsGivenPair r p = All-contains (IsGivenPair r) r.given p is.given h in
    let ent = entity_there r.rows p.earlier.0 of.earlier in
    record {
      relation = r;
      is_relation = at;
      attr_within = of.attr;
      two = record { ent = ent.0; a_of = ent.1; b_of = sym of.one_entity.1 ∙ ent.1; differ = of.one_entity.0 };
    }

pub given_clause : (s : Subject) (rel : RelId) (r : Relation) (p : Pair) (lit : Lit) → slice_get s.spec.relations
    rel.0 ≡ Some r → Contains r.given p
    → Says (variables s) lit (before rel p.attr p.earlier p.later)
    → IsClauseOf s (label.Given rel p.attr p.earlier p.later) (lit ∷ [])
given_clause s rel r p lit at h says = record {
  clause = before rel p.attr p.earlier p.later ∷ [];
  is_axiom =
      (r, at, (h, refl));
  say = (says, tt);
}

pub given_all : (s : Subject) (rel : RelId) (r : Relation) (pairs : List Pair) (a b : List Step)
    → slice_get s.spec.relations rel.0 ≡ Some r → pairs ≡ r.given
    → Adds s (flat_map (given_label rel) pairs) a b → Adds s (given_at s.spec rel.0) a b
unfolding given_at
given_all s rel r pairs a b at e adds = rw (at, ← e) adds

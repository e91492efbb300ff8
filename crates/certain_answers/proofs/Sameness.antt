-- Matches that are the same.
use Rattle.std.proofs.Common.{◌≡◌, ◌==◌, ◌∙◌, ℕ, Bool, true, List, ap}
use Rattle.std.proofs.lemmas.Bool.Decides.{Decides-eqb}
use Rattle.std.proofs.lemmas.Slice.Eq.{slice_eq-Decides}
use Rattle.std.specs.Bool.{Decides}
use Rattle.std.specs.Cmp.Lexicographic.{pointwise}
use Rattle.currency_base.specs.declared.ids.EntId.{EntId}
use Rattle.currency_base.specs.declared.value.Value.{Value}
use Rattle.query_model.specs.declared.query.Match.{Match}

same_entity : (a b : EntId) → a.0 ≡ b.0 → a ≡ b
same_entity a b e = ap (λ (n : ℕ). let x : EntId = record { 0 = n } in x) e

entity_decides : (a b : EntId) → Decides (a.0 == b.0) (a ≡ b)
entity_decides a b =
    let number = Decides-eqb a.0 b.0 in
    (λ is. same_entity a b (number.0 is), λ same. number.1 (ap (λ (x : EntId). x.0) same))

-- lists of entities that are compared one by one
pub same_entities : (ones others : List EntId) (r : Bool) → r ≡ pointwise (λ (a b : EntId). a.0 == b.0) ones others → r ≡ true
    → ones ≡ others
same_entities ones others r is told = (slice_eq-Decides entity_decides ones others r is).0 told

-- matches with the same disjunct, entities and values
pub same_match : (a b : Match) → a.disjunct ≡ b.disjunct → a.entities ≡ b.entities → a.values ≡ b.values → a ≡ b
same_match a b disjunct entities values =
    ap (λ (x : ℕ). let m : Match = record { disjunct = x; entities = a.entities; values = a.values } in m) disjunct
    ∙ ap (λ (x : List EntId). let m : Match = record { disjunct = b.disjunct; entities = x; values = a.values } in m) entities
    ∙ ap (λ (x : List Value). let m : Match = record { disjunct = b.disjunct; entities = b.entities; values = x } in m) values

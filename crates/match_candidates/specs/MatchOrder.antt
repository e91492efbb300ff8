-- The order of matches is total, and equal for equal matches alone.
use Rattle.std.specs.Prelude.{◌≡◌, ℕ, List, [], ◌∷◌, refl}
use Rattle.std.proofs.Common.{ap, ◌∙◌}
use Rattle.std.specs.Cmp.{IsTotalOrder}
use Rattle.std.specs.Cmp.Lexicographic.{slice_cmp}
use Rattle.std.specs.Ordering.{nat_cmp, ordering_then}
use Rattle.std.specs.declared.cmp.Ordering.{Ordering}
use Rattle.std.specs.declared.cmp.Ordering.TheVariants.{Less, Equal, Greater}
use Rattle.std.proofs.lemmas.Cmp.{lists_total, nat_cmp_total, on_total, then_total}
use Rattle.std.proofs.lemmas.Map.Lookups.{CmpEqualImpliesEq, exact_unsigned}
use Rattle.currency_base.specs.Values.{value_cmp}
use Rattle.currency_base.specs.declared.ids.EntId.{EntId}
use Rattle.currency_base.specs.declared.value.Value.{Value}
use Rattle.query_model.specs.declared.query.Match.{Match}
use Rattle.ucq_answers.specs.TupleOrder.{exact_values, tuple_total}
use Rattle.match_candidates.specs.Matches.{ent_cmp, match_cmp}

ents_total : IsTotalOrder (slice_cmp ent_cmp)
ents_total = lists_total (on_total (λ (e : EntId). e.0) nat_cmp_total)

pub match_total : IsTotalOrder match_cmp
match_total =
    then_total (on_total (λ (m : Match). m.disjunct) nat_cmp_total)
    (then_total (on_total (λ (m : Match). m.entities) ents_total) (on_total (λ (m : Match). m.values) tuple_total))

both_equal : (o p : Ordering) → ordering_then o p ≡ Equal → (o ≡ Equal) × (p ≡ Equal)
both_equal Less p e = cc
both_equal Equal p e = (refl, e)
both_equal Greater p e = cc

exact_lists : {A : Type 0} (cmp : A → A → Ordering) → CmpEqualImpliesEq cmp → CmpEqualImpliesEq (slice_cmp cmp)
exact_lists cmp exact [] [] e = refl
exact_lists cmp exact [] (y ∷ ys) e = cc
exact_lists cmp exact (x ∷ xs) [] e = cc
exact_lists cmp exact (x ∷ xs) (y ∷ ys) e =
    let both = both_equal (cmp x y) (slice_cmp cmp xs ys) e in
    let first : x ≡ y = exact x y both.0 in
    let rest : xs ≡ ys = exact_lists cmp exact xs ys both.1 in
    cc

exact_ents : CmpEqualImpliesEq ent_cmp
exact_ents a b e = ap (λ n. record { 0 = n }) (exact_unsigned a.0 b.0 e)

-- the match of these
abbrev pub made : ℕ → List EntId → List Value → Match
made n ents values = record { disjunct = n; entities = ents; values = values }

pub exact_matches : CmpEqualImpliesEq match_cmp
exact_matches a b e =
    let first = both_equal (nat_cmp a.disjunct b.disjunct) _ e in
    let rest = both_equal (slice_cmp ent_cmp a.entities b.entities) (slice_cmp value_cmp a.values b.values) first.1 in
    let disjunct : a.disjunct ≡ b.disjunct = exact_unsigned a.disjunct b.disjunct first.0 in
    let entities : a.entities ≡ b.entities = exact_lists ent_cmp exact_ents a.entities b.entities rest.0 in
    let values : a.values ≡ b.values = exact_lists value_cmp exact_values a.values b.values rest.1 in
    ap (λ n. made n a.entities a.values) disjunct ∙ ap (λ ents. made b.disjunct ents a.values) entities
    ∙ ap (made b.disjunct b.entities) values

-- The facts and clauses of a specification are over cells that are there.
use Rattle.std.proofs.Common.{◌≡◌, ◌<◌, ◌∙◌, ℕ, List, Contains, get_or, sym, ap, subst, arith}
use Rattle.std.proofs.lemmas.List.Elements.{Contains-get_or}
use Rattle.std.proofs.lemmas.Option.{slice_get-get_or}
use Rattle.horn_closure.specs.Least.{Horn, IsHorn, IsLeast, fact, joined, clause, cells_of}
use Rattle.order_squares.proofs.Cells.{cell_in}
use Rattle.order_squares.proofs.Places.{item_at}
use Rattle.order_squares.proofs.Slots.{slot_in}
use Rattle.forced_closure.specs.Clauses.{Subject, IsSaid, HornClauses}
use Rattle.forced_closure.specs.declared.origin.Origin.{Origin}
use Rattle.forced_closure.specs.declared.origin.Origin.TheVariants as origin
use Rattle.forced_closure.proofs.Adding.{contains_at}
use Rattle.forced_closure.proofs.Agree.{horn_of, IsCase, only_one}

-- a clause's cells are there
said_within : (m : Subject) (o : Origin) (premises : List ℕ) (conclusion : ℕ) → IsSaid m o premises conclusion
    → ((slot : ℕ) → Contains premises slot → slot < cells_of m.layout.sizes) × (conclusion < cells_of m.layout.sizes)
said_within m (origin.Rule rule ground) premises conclusion r = (
  (λ slot c. let q = r.premises_are.each slot c in slot_in m.layout r.rule.relation.0 q.pair.attr.0 q.pair.earlier
      q.pair.later slot q.is_slot),
  slot_in m.layout r.rule.relation.0 r.atom.attr.0 r.earlier r.later conclusion r.conclusion_is,
)
said_within m (origin.Copy copy place first second) premises conclusion (from, e, q) =
    let source = slot_in m.layout q.are.copy.source.0 q.are.place.source.0 q.are.are_at.rows.first_source
    q.are.are_at.rows.second_source from q.source in (
      (λ slot c. subst (λ n. n < cells_of m.layout.sizes) (only_one from slot premises e c) source),
      slot_in m.layout q.are.copy.target.0 q.are.place.target.0 first second conclusion q.target,
    )
said_within m (origin.Back copy place first second) premises conclusion (to, e, q) =
    let target = slot_in m.layout q.are.copy.target.0 q.are.place.target.0 first second to q.target in (
      (λ slot c. subst (λ n. n < cells_of m.layout.sizes) (only_one to slot premises e c) target),
      slot_in m.layout q.are.copy.source.0 q.are.place.source.0 q.are.are_at.rows.first_source
          q.are.are_at.rows.second_source conclusion q.source,
    )

pub is_horn : (m : Subject) (facts : List ℕ) (t : HornClauses) → IsCase m facts t → IsHorn (horn_of m facts t)
is_horn m facts t is =
    let are = is.clauses.said in
    record {
      facts = λ k d below.
          let g = is.facts_are.each (get_or facts k d) (Contains-get_or facts k d below) in
          slot_in m.layout g.rel g.pair.attr.0 g.pair.earlier g.pair.later (get_or facts k d) g.is_slot;
      premises = λ k d below i e within.
          let o = item_at t.origins k (omega (arith, below, are.premises)) in
          let c = item_at t.conclusions k (omega (arith, below, are.premises, are.conclusions)) in
          let said = are.each k o.0 (get_or t.premises k d) c.0 o.1 (slice_get-get_or t.premises k d below) c.1 in
          (said_within m o.0 (get_or t.premises k d) c.0 said).0 (get_or (get_or t.premises k d) i e)
          (Contains-get_or (get_or t.premises k d) i e within);
      conclusions = λ k d below.
          let o = item_at t.origins k (omega (arith, below, are.conclusions)) in
          let ps = item_at t.premises k (omega (arith, below, are.premises, are.conclusions)) in
          let said = are.each k o.0 ps.0 (get_or t.conclusions k d) o.1 ps.1 (slice_get-get_or t.conclusions k d below) in
          (said_within m o.0 ps.0 (get_or t.conclusions k d) said).1;
      one_each = are.premises ∙ sym are.conclusions;
      few_cells = is.subject.layout.few;
      few_clauses = omega (arith, are.premises, is.clauses.few);
    }

-- the cells of the least set are there
pub least_within : (h : Horn) → IsHorn h → (slot : ℕ) → IsLeast h slot → slot < cells_of h.sizes
least_within h is _ (fact slot c) = subst (λ n. n < cells_of h.sizes) c.2 (is.facts c.0 slot c.1)
least_within h is _ (joined first second third meet one two) = cell_in h.sizes meet.square meet.row meet.column third
    meet.third_is
least_within h is _ (clause k premises conclusion are_premises is_conclusion all) =
    let c = contains_at h.conclusions k conclusion is_conclusion in
    subst (λ n. n < cells_of h.sizes) c.2 (is.conclusions c.0 conclusion c.1)

-- the same cells, facts and clauses, told by other lists
pub horn_same : (m : Subject) (facts : List ℕ) (t : HornClauses) (sizes : List ℕ) (premises : List (List ℕ))
    (conclusions : List ℕ) → sizes ≡ m.layout.sizes
    → premises ≡ t.premises → conclusions ≡ t.conclusions
    → horn_of m facts t ≡ record { sizes = sizes; facts = facts; premises = premises; conclusions = conclusions }
horn_same m facts t sizes premises conclusions same_sizes same_premises same_conclusions =
    ap (λ (xs : List ℕ). let h : Horn = record {
      sizes = xs;
      facts = facts;
      premises = t.premises;
      conclusions =
          t.conclusions;
    } in h) (sym same_sizes)
    ∙ (ap (λ (xs : List (List ℕ)). let h : Horn = record {
      sizes = sizes;
      facts = facts;
      premises = xs;
      conclusions =
          t.conclusions;
    } in h) (sym same_premises)
    ∙ ap (λ (xs : List ℕ). let h : Horn = record {
      sizes = sizes;
      facts = facts;
      premises = premises;
      conclusions =
          xs;
    } in h) (sym same_conclusions))

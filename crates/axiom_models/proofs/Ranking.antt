-- An assignment that makes the axioms on three rows of every list true puts the rows in the order of a completion.
use Rattle.std.proofs.Common.{◌≡◌, ◌⊎◌, ◌∙◌, ◌<◌, ◌≤◌, ℕ, Bool, List, [], Option, Some, None, length, slice_get, refl, sym, ap, subst, inl, inr, arith}
use Rattle.std.proofs.lemmas.Bool.{cases_lt}
use Rattle.std.proofs.lemmas.Option.{same_Some, none-some}
use Rattle.currency_base.specs.declared.ids.AttrId.{AttrId}
use Rattle.currency_base.specs.declared.ids.RelId.{RelId}
use Rattle.currency_base.specs.declared.ids.RowId.{RowId}
use Rattle.spec_model.specs.Completion.{Rankings}
use Rattle.spec_model.specs.Facts.{IsSpecification}
use Rattle.spec_model.specs.Spec.{Spec}
use Rattle.spec_model.specs.declared.relation.Relation.{Relation}
use Rattle.refutation_log.specs.declared.step.Step.{Step}
use Rattle.order_literals.proofs.Deciding.{pair_exclude, said_of_pairs}
use Rattle.order_literals.specs.Numbers.{numbers_of}
use Rattle.order_literals.specs.declared.wanted.Wanted.{Wanted}
use Rattle.completion_build.proofs.Tables.{is_source}
use Rattle.completion_build.proofs.Whole.{ranked_by}
use Rattle.completion_build.specs.Judged.{IsOrdered}
use Rattle.completion_build.specs.Places.{contest_of}
use Rattle.completion_build.specs.Ranked.{IsRankedBy}
use Rattle.completion_build.specs.Sources.{Source}
use Rattle.order_adequacy.specs.Laws.{variables}
use Rattle.axiom_models.specs.Models.{AreOfLists, AreTrueOfLists, AssignmentsRank, IsListIn, ListsAreOrdered}
use Rattle.axiom_models.proofs.Filled.{filled, filled_read, filled_shape}
use Rattle.axiom_models.proofs.Threes.{list_order, list_ordered}

abbrev rel_at : ℕ → RelId
rel_at rel = record { 0 = rel }

abbrev attr_at : ℕ → AttrId
attr_at attr = record { 0 = attr }

module _ (s : Spec) (wanted : Wanted) (truths : List Bool) (long : length truths ≡ length (variables s wanted))
    (of_list : RelId → AttrId → ℕ → List Step) (are : AreOfLists s wanted of_list) (all : AreTrueOfLists s truths of_list) where
  -- an order of the rows, if it is a list
  abbrev IsOfList : ℕ → ℕ → ℕ → List RowId → Type 0
  IsOfList rel attr ent list = (r : Relation) → IsListIn s (rel_at rel) (attr_at attr) ent r
      → IsOrdered (contest_of (numbers_of s.relations wanted) truths (rel_at rel) (attr_at attr) r ent) list

  order_of : (rel attr ent : ℕ) (r : Relation) → IsListIn s (rel_at rel) (attr_at attr) ent r
      → (list : List RowId) × IsOfList rel attr ent list
  order_of rel attr ent r is =
      let found = list_ordered s wanted truths long (rel_at rel) (attr_at attr) ent r is (of_list (rel_at rel) (attr_at attr) ent)
      (are (rel_at rel) (attr_at attr) ent r is) (all (rel_at rel) (attr_at attr) ent r is) in (
        found.0,
        λ other is'.
            subst (λ (q : Relation). IsOrdered (contest_of (numbers_of s.relations wanted) truths (rel_at rel) (attr_at attr) q
            ent) found.0)
            (same_Some r other (sym is.is_relation ∙ is'.is_relation)) found.1,
      )

  order_at : (rel attr ent : ℕ) → (list : List RowId) × IsOfList rel attr ent list
  order_at rel attr ent = by (slice_get s.relations rel) refl
    where
      within : (r : Relation) → slice_get s.relations rel ≡ Some r → (attr < length r.attrs) ⊎ (length r.attrs ≤ attr)
          → (ent < length r.entities) ⊎ (length r.entities ≤ ent) → (list : List RowId) × IsOfList rel attr ent list
      within r at (inl attr_within) (inl ent_within) =
          order_of rel attr ent r (record { is_relation = at; attr_within = attr_within; ent_within = ent_within })
      within r at (inr past) ent_within = (
        [],
        λ other is.
            let many : length other.attrs ≡ length r.attrs =
            ap (λ (q : Relation). length q.attrs) (same_Some other r (sym is.is_relation ∙ at)) in
            absurd (omega (arith, past, many, is.attr_within)),
      )
      within r at (inl attr_within) (inr past) = (
        [],
        λ other is.
            let many : length other.entities ≡ length r.entities =
            ap (λ (q : Relation). length q.entities) (same_Some other r (sym is.is_relation ∙ at)) in
            absurd (omega (arith, past, many, is.ent_within)),
      )

      by : (o : Option Relation) → slice_get s.relations rel ≡ o → (list : List RowId) × IsOfList rel attr ent list
      by None at = ([], λ r is. absurd (none-some r (sym at ∙ is.is_relation)))
      by (Some r) at = within r at (cases_lt attr (length r.attrs)) (cases_lt ent (length r.entities))

  -- the rankings that hold these orders
  pub in_orders : Rankings
  in_orders = filled (λ rel attr ent. (order_at rel attr ent).0) s.relations

  pub ranked : IsSpecification s → IsRankedBy s.relations (variables s wanted) truths in_orders
  unfolding in_orders
  ranked facts =
      let source : Source = record { relations = s.relations; numbers = numbers_of s.relations wanted; truths = truths } in
      let orders = λ (rel attr ent : ℕ). (order_at rel attr ent).0 in
      ranked_by pair_exclude said_of_pairs source
      (is_source s.relations wanted (numbers_of s.relations wanted) truths refl long) facts.relations in_orders
      (filled_shape orders s.relations)
      (λ rel attr ent r at attr_within ent_within.
      subst (IsOrdered (contest_of (numbers_of s.relations wanted) truths rel attr r ent))
      (sym (filled_read orders s.relations rel.0 attr.0 ent r at attr_within ent_within))
      ((order_at rel.0 attr.0 ent).1 r
      (record { is_relation = at; attr_within = attr_within; ent_within = ent_within })))

pub assignments_rank : AssignmentsRank
assignments_rank s wanted facts truths long of_list are all =
    (in_orders s wanted truths long of_list are all, ranked s wanted truths long of_list are all facts)

pub lists_are_ordered : ListsAreOrdered
lists_are_ordered s wanted facts truths long rel attr ent r is steps are all =
    list_order s wanted truths long rel attr ent r is steps are all

-- What is found of the lists of a part, one after another.
use Rattle.std.proofs.Common.{◌≡◌, ◌∙◌, ◌<◌, ◌≤◌, ◌+◌, ◌⊎◌, ℕ, zero, suc, Bool, List, [], ◌∷◌, ◌++◌, Contains, Some, length, slice_get, refl, sym, ap, subst, inl, inr, ⊎_elim, arith}
use Rattle.std.proofs.lemmas.Bool.{cases_lt}
use Rattle.std.proofs.lemmas.List.Elements.{All-nil, All-push, Contains-append_left, Contains-push, Contains-push_cases}
use Rattle.std.proofs.lemmas.Option.{same_Some, slice_get_within}
use Rattle.currency_base.specs.declared.ids.AttrId.{AttrId}
use Rattle.currency_base.specs.declared.ids.EntId.{EntId}
use Rattle.currency_base.specs.declared.ids.RelId.{RelId}
use Rattle.currency_base.specs.declared.ids.RowId.{RowId}
use Rattle.spec_model.specs.declared.relation.Relation.{Relation}
use Rattle.completion_build.specs.Drafts.{cycles_with}
use Rattle.completion_build.specs.Judged.{IsJudged, IsOrdered, IsRound}
use Rattle.completion_build.specs.Places.{contest_of}
use Rattle.completion_build.specs.declared.built.Cycle.{Cycle}
use Rattle.completion_build.specs.declared.judging.Judged.{Judged}
use Rattle.completion_build.specs.declared.judging.Judged.TheVariants.{Ordered, Round}
use Rattle.completion_build.proofs.Building.{round_is_cycle}
use Rattle.order_clauses.proofs.Reading.{item_at}
use Rattle.entity_ties.specs.Labels.{AreTies, cell, label_of, labels_in}
use Rattle.entity_ties.specs.Parts.{list_at}
use Rattle.entity_ties.specs.declared.cells.Member.{Member}
use Rattle.known_models.specs.declared.draft.Draft.{Draft}
use Rattle.known_models.specs.declared.draft.RankedList.{RankedList}
use Rattle.known_models.specs.Known.{IsListIn, PartedSpec, numbers_in}
use Rattle.known_models.specs.Ranked.{AreFound, FindsAll, FindsList, FindsLists, FindsPart, Grows, HasFound, IsCycleIn, IsRankedIn, lists_with}

-- ---- entities that have a part

-- an entity that has a part is there
pub record IsThere (p : PartedSpec) (rel ent : ℕ) : Type 0 where
  pub relation : Relation
  pub is_relation : slice_get p.spec.relations rel ≡ Some relation
  pub within : ent < length relation.entities

-- what is read in the list at a place that is not there is nothing
labels_past : (labels : List (List ℕ)) (rel ent part : ℕ)
    → slice_get (list_at labels rel) ent ≡ Some part → rel < length labels
labels_past [] rel ent part e = absurd (omega (arith, slice_get_within [] ent part e))
labels_past (ls ∷ labels) zero ent part e = omega arith
labels_past (ls ∷ labels) (suc rel) ent part e = omega (arith, labels_past labels rel ent part e)

pub there : (p : PartedSpec) (rel ent part : ℕ) → AreTies p.spec p.ties → label_of p.ties (cell rel ent) ≡ Some part
    → IsThere p rel ent
there p rel ent part ties of =
    let below = labels_past p.ties.labels rel ent part of in
    let r = item_at p.spec.relations rel (omega (arith, below, ties.per_relation)) in
    let many = ties.per_entity rel r.0 r.1 in
    let within = slice_get_within (labels_in p.ties rel) ent part of in
    record { relation = r.0; is_relation = r.1; within = omega (arith, many, within) }

-- ---- one list

module _ (p : PartedSpec) (part : ℕ) (truths : List Bool) (rel : RelId) (attr : AttrId) (ent : EntId) (r : Relation)
    (is : IsListIn p part rel attr ent.0 r) (ent_within : ent.0 < length r.entities) (old : Draft) (found :
    AreFound p part truths old)
  where
    ordered_more : (rows : List RowId) (new : Draft) → IsOrdered (contest_of (numbers_in p) truths rel attr r ent.0) rows
        → new.lists ≡ lists_with old.lists rel attr ent (Ordered rows) → new.cycles ≡ old.cycles
        → FindsList p part truths rel.0 attr.0 ent.0 old new
    ordered_more rows new ordered lists_are cycles_are =
        let here : RankedList = record { rel = rel; attr = attr; ent = ent; rows = rows } in
        let ranked : IsRankedIn p part truths here = record { relation = r; is_list = is; ordered = ordered } in
        record {
          found = record {
            lists = rw lists_are (All-push (IsRankedIn p part truths) old.lists here found.lists ranked);
            cycles = rw cycles_are found.cycles;
          };
          grows = record {
            lists = λ list has. rw lists_are (Contains-append_left old.lists (here ∷ []) list has);
            cycles = λ cycle has. rw cycles_are has;
          };
          here = inl (record {
            list = here;
            is_in = rw lists_are (Contains-push old.lists here);
            rel_is = refl;
            attr_is = refl;
            ent_is = refl;
          });
        }

    round_more : (cycle : Cycle) (new : Draft) → IsRound (contest_of (numbers_in p) truths rel attr r ent.0) ent.0 cycle
        → new.lists ≡ old.lists → new.cycles ≡ cycles_with old.cycles (Round cycle)
        → FindsList p part truths rel.0 attr.0 ent.0 old new
    round_more cycle new round lists_are cycles_are =
        let rel_is : cycle.rel.0 ≡ rel.0 = ap (λ (x : RelId). x.0) round.rel_is in
        let attr_is : cycle.attr.0 ≡ attr.0 = ap (λ (x : AttrId). x.0) round.attr_is in
        let of_part : label_of p.ties (cell cycle.rel.0 cycle.ent.0) ≡ Some part = rw (rel_is, round.ent_is) is.of_part in
        let one : IsCycleIn p part truths cycle = record {
          is_cycle = round_is_cycle p.spec.relations (numbers_in p) truths rel attr ent.0 r is.is_relation is.attr_within
              ent_within
              cycle round;
          of_part = of_part;
        } in
        record {
          found = record {
            lists = rw lists_are found.lists;
            cycles = rw cycles_are (All-push (IsCycleIn p part truths) old.cycles cycle found.cycles one);
          };
          grows = record {
            lists = λ list has. rw lists_are has;
            cycles = λ c has. rw cycles_are (Contains-append_left old.cycles (cycle ∷ []) c has);
          };
          here = inr (record {
            cycle = cycle;
            is_in = rw cycles_are (Contains-push old.cycles cycle);
            rel_is = rel_is;
            attr_is = attr_is;
            ent_is = round.ent_is;
          });
        }

    pub judged_more : (judged : Judged) (new : Draft) → IsJudged (contest_of (numbers_in p) truths rel attr r ent.0) ent.0 judged
        → new.lists ≡ lists_with old.lists rel attr ent judged → new.cycles ≡ cycles_with old.cycles judged
        → FindsList p part truths rel.0 attr.0 ent.0 old new
    judged_more (Ordered rows) new is_judged lists_are cycles_are = ordered_more rows new is_judged lists_are cycles_are
    judged_more (Round cycle) new is_judged lists_are cycles_are = round_more cycle new is_judged lists_are cycles_are

-- ---- all attributes of an entity

-- what was found stays found
pub still_found : (old new : Draft) (rel attr ent : ℕ) → Grows old new → HasFound old rel attr ent → HasFound new rel attr ent
still_found old new rel attr ent grows (inl is) =
    inl (record {
      list = is.list;
      is_in = grows.lists is.list is.is_in;
      rel_is = is.rel_is;
      attr_is = is.attr_is;
      ent_is = is.ent_is;
    })
still_found old new rel attr ent grows (inr is) =
    inr (record {
      cycle = is.cycle;
      is_in = grows.cycles is.cycle is.is_in;
      rel_is = is.rel_is;
      attr_is = is.attr_is;
      ent_is = is.ent_is;
    })

pub grows_on : (a b c : Draft) → Grows a b → Grows b c → Grows a c
grows_on a b c first second = record {
  lists = λ list has. second.lists list (first.lists list has);
  cycles = λ cycle has. second.cycles cycle (first.cycles cycle has);
}

pub lists_none : (p : PartedSpec) (part : ℕ) (truths : List Bool) (rel ent : ℕ) (d : Draft) → AreFound p part truths d
    → FindsLists p part truths rel 0 ent d d
lists_none p part truths rel ent d found = record {
  found = found;
  grows = record { lists = λ list has. has; cycles = λ cycle has. has };
  each = λ attr below. absurd (omega (arith, below));
}

pub lists_more : (p : PartedSpec) (part : ℕ) (truths : List Bool) (rel attr ent : ℕ) (first old new : Draft)
    → FindsLists p part truths rel attr ent first old → FindsList p part truths rel attr ent old new
    → FindsLists p part truths rel (attr + 1) ent first new
lists_more p part truths rel attr ent first old new so_far more = record {
  found = more.found;
  grows = grows_on first old new so_far.grows more.grows;
  each = λ a below.
      ⊎_elim
      (λ (h : a < attr). still_found old new rel a ent more.grows (so_far.each a h))
      (λ (h : attr ≤ a).
      let same : attr ≡ a = omega arith in subst (λ (x : ℕ). HasFound new rel x ent) same more.here)
      (cases_lt a attr);
}

-- ---- all entities of the part

pub all_none : (p : PartedSpec) (part : ℕ) (truths : List Bool) (d : Draft) → AreFound p part truths d
    → FindsAll p part truths [] d
all_none p part truths d found = record {
  found = found;
  each = λ m r attr has at below. absurd (omega (arith, has.1));
}

pub all_more : (p : PartedSpec) (part : ℕ) (truths : List Bool) (members : List Member) (m : Member) (old new : Draft)
    (r : Relation) → slice_get p.spec.relations m.rel.0 ≡ Some r → FindsAll p part truths members old
    → FindsLists p part truths m.rel.0 (length r.attrs) m.ent.0 old new → FindsAll p part truths (members ++ m ∷ []) new
all_more p part truths members m old new r at so_far more = record {
  found = more.found;
  each = λ other s attr has at_s below. by other s attr at_s below (Contains-push_cases members m other has);
}
  where
    by : (other : Member) (s : Relation) (attr : ℕ) → slice_get p.spec.relations other.rel.0 ≡ Some s → attr < length s.attrs
        → Contains members other ⊎ (m ≡ other) → HasFound new other.rel.0 attr other.ent.0
    by other s attr at_s below (inl has) =
        still_found old new other.rel.0 attr other.ent.0 more.grows (so_far.each other s attr has at_s below)
    by other s attr at_s below (inr same) =
        let one : r ≡ s =
        same_Some r s (sym at ∙ (ap (λ (x : Member). slice_get p.spec.relations x.rel.0) same ∙ at_s)) in
        subst (λ (x : Member). HasFound new x.rel.0 attr x.ent.0) same
        (more.each attr (omega (arith, below, ap (λ (x : Relation). length x.attrs) one)))

-- nothing was found yet
pub found_none : (p : PartedSpec) (part : ℕ) (truths : List Bool) (d : Draft) → d.lists ≡ [] → d.cycles ≡ []
    → AreFound p part truths d
found_none p part truths d lists_are cycles_are = record {
  lists = rw lists_are (All-nil (IsRankedIn p part truths));
  cycles = rw cycles_are (All-nil (IsCycleIn p part truths));
}

-- the lists of all entities of the part
pub part_found : (p : PartedSpec) (part : ℕ) (truths : List Bool) (members : List Member) (d : Draft)
    → ((m : Member) → label_of p.ties (cell m.rel.0 m.ent.0) ≡ Some part → Contains members m)
    → FindsAll p part truths members d → FindsPart p part truths d
part_found p part truths members d all finds = record {
  found = finds.found;
  each = λ rel attr ent r is.
      let m : Member = record { rel = rel; ent = record { 0 = ent } } in
      finds.each m r attr.0 (all m is.of_part) is.is_relation is.attr_within;
}

-- What can be written of relations can be written of the same ones with other given pairs.
use Rattle.std.proofs.Common.{◌≡◌, ◌∙◌, ◌<◌, ℕ, List, length, sym, ap, arith}
use Rattle.std.proofs.lemmas.List.Elements.{All-weaker}
use Rattle.currency_base.specs.declared.ids.RowId.{RowId}
use Rattle.refutation_log.specs.Writable.{AreFew}
use Rattle.report_model.specs.Writable.{IsItemOf, IsPairOf, IsPlaceOf, IsWritableCompletion, IsWritableVerdict}
use Rattle.report_model.specs.declared.report.Report.{Report}
use Rattle.report_model.specs.declared.verdict.Current.{Current}
use Rattle.report_model.specs.declared.verdict.Verdict.{Verdict}
use Rattle.report_model.specs.declared.verdict.Verdict.TheVariants as verdict
use Rattle.report_write.specs.Writable.{IsWritableReport}
use Rattle.spec_edits.specs.Kept.{AreSameButGiven, without_pairs}
use Rattle.spec_edits.proofs.SameButGiven.{kept_from, shape_kept}
use Rattle.spec_model.specs.Completion.{Rankings, ranking_of}
use Rattle.spec_model.specs.declared.question.Asked.{Asked}
use Rattle.spec_model.specs.declared.relation.Relation.{Relation}
use Rattle.currency_session.proofs.Forms.{faults_same}

-- what holds of few items still does where each of them has it
few_more : {A : Type 0} (P Q : A → Type 0) → ((x : A) → P x → Q x) → (xs : List A) → AreFew P xs → AreFew Q xs
few_more P Q more xs few = record { few = few.few; each = All-weaker P Q more xs few.each }

-- relations that are the same but for their given pairs have as many attributes, entities and rows
attrs_same : (a b : Relation) → without_pairs a ≡ without_pairs b → length a.attrs ≡ length b.attrs
attrs_same a b e = ap (λ (r : Relation). length r.attrs) e

entities_same : (a b : Relation) → without_pairs a ≡ without_pairs b → length a.entities ≡ length b.entities
entities_same a b e = ap (λ (r : Relation). length r.entities) e

rows_same : (a b : Relation) → without_pairs a ≡ without_pairs b → length a.rows ≡ length b.rows
rows_same a b e = ap (λ (r : Relation). length r.rows) e

-- ---- verdicts

pair_kept : (old new : List Relation) → AreSameButGiven old new → (p : Asked) → IsPairOf old p → IsPairOf new p
pair_kept old new same p is =
    let now = kept_from new old p.rel.0 is.relation (sym same) is.is_relation in
    let attrs = attrs_same now.relation is.relation now.same in
    let rows = rows_same now.relation is.relation now.same in
    record {
      relation = now.relation;
      is_relation = now.is_relation;
      attr = omega (arith, attrs, is.attr);
      earlier = omega (arith, rows, is.earlier);
      later = omega (arith, rows, is.later);
    }

item_kept : (old new : List Relation) → AreSameButGiven old new → (item : Current) → IsItemOf old item → IsItemOf new item
item_kept old new same item is =
    let now = kept_from new old item.rel.0 is.relation (sym same) is.is_relation in
    let entities = entities_same now.relation is.relation now.same in
    record {
      relation = now.relation;
      is_relation = now.is_relation;
      ent = omega (arith, entities, is.ent);
      values = is.values;
    }

place_kept : (old new : List Relation) → AreSameButGiven old new → (rel attr ent : ℕ) → IsPlaceOf old rel attr ent
    → IsPlaceOf new rel attr ent
place_kept old new same rel attr ent is =
    let now = kept_from new old rel is.relation (sym same) is.is_relation in
    let attrs = attrs_same now.relation is.relation now.same in
    let entities = entities_same now.relation is.relation now.same in
    record {
      relation = now.relation;
      is_relation = now.is_relation;
      in_attrs = omega (arith, attrs, is.in_attrs);
      in_entities = omega (arith, entities, is.in_entities);
    }

pub verdict_kept : (old new : List Relation) (v : Verdict) → AreSameButGiven old new → IsWritableVerdict old v
    → IsWritableVerdict new v
verdict_kept old new verdict.Inconsistent same is = tt
verdict_kept old new verdict.Consistent same is = tt
verdict_kept old new verdict.Certain same is = tt
verdict_kept old new (verdict.NotCertain p) same is = pair_kept old new same p is
verdict_kept old new (verdict.Same items) same is =
    few_more (IsItemOf old) (IsItemOf new) (item_kept old new same) items is
verdict_kept old new (verdict.NotSame rel attr ent) same is = place_kept old new same rel.0 attr.0 ent.0 is
verdict_kept old new (verdict.Answers tuples) same is = is
verdict_kept old new (verdict.Undecided counted) same is = is

-- ---- completions

pub completion_kept : (old new : List Relation) (c : Rankings) → AreSameButGiven old new → IsWritableCompletion old c
    → IsWritableCompletion new c
completion_kept old new c same is =
    record {
      shape = shape_kept old new c same is.shape;
      few = is.few;
      rows = λ rel attr ent r at.
          let was = kept_from old new rel r same at in
          let rows = rows_same was.relation r was.same in
          few_more (λ (row : RowId). row.0 < length was.relation.rows) (λ (row : RowId). row.0 < length r.rows)
          (λ row below. omega (arith, rows, below)) (ranking_of c rel attr ent)
          (is.rows rel attr ent was.relation was.is_relation);
    }

-- ---- reports

pub report_kept : (old new : List Relation) (r : Report) → AreSameButGiven old new → IsWritableReport old r
    → IsWritableReport new r
report_kept old new r same is =
    record {
      verdict = verdict_kept old new r.verdict same is.verdict;
      completions = few_more (IsWritableCompletion old) (IsWritableCompletion new)
          (λ c. completion_kept old new c same) r.completions is.completions;
      cover = is.cover;
      log = is.log;
      well_formed = faults_same old new r.log same ∙ is.well_formed;
    }

-- Reports that list what a claim of some completion asks for.
use Rattle.std.proofs.Common.{◌≡◌, ℕ, List, [], ◌∷◌, All, Some, slice_get, take, refl, subst, arith}
use Rattle.std.proofs.lemmas.Option.{get_or_from_slice_get, slice_get_within}
use Rattle.spec_model.specs.Completion.{Rankings}
use Rattle.spec_model.specs.Consistent.{IsConsistent}
use Rattle.spec_model.specs.Questions.{IsAskedPair}
use Rattle.spec_model.specs.Spec.{Spec}
use Rattle.spec_model.specs.declared.question.Asked.{Asked}
use Rattle.spec_model.specs.declared.question.Question.TheVariants as asked
use Rattle.currency_base.specs.declared.ids.RelId.{RelId}
use Rattle.report_model.specs.declared.report.Report.{Report}
use Rattle.report_model.specs.declared.verdict.Verdict.TheVariants as verdict
use Rattle.report_verify.specs.Right.{EachConsistent, PairHolds}
use Rattle.search_logs.specs.Laws.{CompletionsAreWritable}
use Rattle.search_logs.specs.SearchLogs.{IsWithin}
use Rattle.current_claims.specs.Claims.{IsDifference}
use Rattle.current_claims.specs.declared.difference.CurrentPlace.{CurrentPlace}
use Rattle.currency_ask.specs.Reported.{IsReported, ListsAlone}
use Rattle.currency_ask.proofs.Completions.{listed_reported, shown_one, shown_two}

-- a consistent completion is listed
pub consistent_reported : CompletionsAreWritable → (s : Spec) → IsWithin s → (c : Rankings) → IsConsistent s c →
    (completions : List Rankings) → completions ≡ c ∷ []
    → (r : Report) → ListsAlone verdict.Consistent completions r → (budget : ℕ) → IsReported s asked.Consistent budget r
consistent_reported law s within c is completions are r alone budget =
    let lists = subst (λ (cs : List Rankings). ListsAlone verdict.Consistent cs r) are alone in
    listed_reported s asked.Consistent budget verdict.Consistent (c ∷ []) r lists (shown_one law s c within is) tt
    (λ log e. let no : ⊥ = cc in no) tt refl tt

-- a pair that fails in a consistent completion, which is listed, and those asked before it hold in each
pub failing_reported : CompletionsAreWritable → (s : Spec) → IsWithin s → (pairs : List Asked)
    → All (IsAskedPair s.relations) pairs → (place : ℕ) (pair : Asked)
    → slice_get pairs place ≡ Some pair → All (λ other. EachConsistent s (PairHolds other)) (take place pairs) →
    (c : Rankings) → IsConsistent s c → ((p : Asked) → slice_get pairs place ≡ Some p → PairHolds p c → ⊥)
    → (completions : List Rankings) → completions ≡ c ∷ [] → (r : Report) → ListsAlone (verdict.NotCertain pair)
    completions r → (budget : ℕ)
    → IsReported s (asked.Certain pairs) budget r
failing_reported law s within pairs on place pair at others c is fails completions are r alone budget =
    let lists = subst (λ (cs : List Rankings). ListsAlone (verdict.NotCertain pair) cs r) are alone in
    let below = slice_get_within pairs place pair at in
    let asked_pair = subst (IsAskedPair s.relations) (get_or_from_slice_get pairs place pair pair at) (on place pair below) in
    listed_reported s (asked.Certain pairs) budget (verdict.NotCertain pair) (c ∷ []) r lists (shown_one law s c within is)
    (place, below, get_or_from_slice_get pairs place pair pair at)
    (λ log. record { rankings = c; listed = (0, omega arith, refl); fails = fails pair at })
    (record {
      relation = asked_pair.relation;
      is_relation = asked_pair.is_relation;
      attr = asked_pair.pair.attr;
      earlier = asked_pair.pair.earlier;
      later = asked_pair.pair.later;
    }) refl (record { place = place; is_pair = at; others_hold = others })

-- two consistent completions that differ at a place are listed
pub differing_reported : CompletionsAreWritable → (s : Spec) → IsWithin s → (rels : List RelId) (p : CurrentPlace)
    (c d : Rankings) → IsConsistent s c
    → IsConsistent s d → IsDifference s.relations rels c d p.rel p.attr p.ent → (completions : List Rankings)
    → completions ≡ c ∷ d ∷ [] → (r : Report)
    → ListsAlone (verdict.NotSame p.rel p.attr p.ent) completions r → (budget : ℕ) → IsReported s (asked.Same rels) budget r
differing_reported law s within rels p c d is other differ completions are r alone budget =
    let lists = subst (λ (cs : List Rankings). ListsAlone (verdict.NotSame p.rel p.attr p.ent) cs r) are alone in
    listed_reported s (asked.Same rels) budget (verdict.NotSame p.rel p.attr p.ent) (c ∷ d ∷ []) r lists
    (shown_two law s c d within is other) differ.asked
    (λ log. record {
      one = c;
      other = d;
      one_listed = (0, omega arith, refl);
      other_listed = (1, omega arith, refl);
      differ = record { relation = differ.relation; is_relation = differ.is_relation; differ = differ.differ };
    })
    (record {
      relation = differ.relation;
      is_relation = differ.is_relation;
      in_attrs = differ.attr_within;
      in_entities = differ.ent_within;
    }) refl tt

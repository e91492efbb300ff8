-- What a verdict that is right claims holds in every consistent completion.
use Rattle.std.proofs.Common.{◌≡◌, ◌∙◌, ◌+◌, ℕ, suc, List, [], ◌∷◌, All, Some, get_or, slice_get, refl, ap, subst, sym, arith}
use Rattle.std.proofs.lemmas.List.Elements.{All-append, All-cons, All-head, All-map, All-nil, All-tail}
use Rattle.std.proofs.lemmas.Option.{get_or_from_slice_get, none-some, slice_get-get_or, slice_get_within}
use Rattle.answer_laws.specs.Answered.{IsAnswerIn}
use Rattle.currency_base.specs.declared.ids.AttrId.{AttrId}
use Rattle.currency_base.specs.declared.ids.EntId.{EntId}
use Rattle.currency_base.specs.declared.ids.RelId.{RelId}
use Rattle.currency_base.specs.declared.value.Value.{Value}
use Rattle.query_model.specs.declared.query.Query.{Query}
use Rattle.report_model.specs.declared.report.Part.TheVariants as part
use Rattle.report_model.specs.declared.verdict.Current.{Current}
use Rattle.report_model.specs.declared.verdict.Verdict.{Verdict}
use Rattle.report_model.specs.declared.verdict.Verdict.TheVariants as verdict
use Rattle.report_verify.specs.Right.{EachConsistent, IsCurrentIn, IsRight, PairHolds}
use Rattle.report_verify.specs.Supported.{Need, answer_needs, item_needs, needs_of, pair_needs, value_needs}
use Rattle.report_verify.specs.Supported.Claim.{Holds}
use Rattle.spec_model.specs.Completion.{Rankings}
use Rattle.spec_model.specs.Consistent.{IsSatisfiable}
use Rattle.spec_model.specs.Spec.{Spec}
use Rattle.spec_model.specs.declared.question.Asked.{Asked}
use Rattle.spec_model.specs.declared.question.Question.{Question}
use Rattle.spec_model.specs.declared.question.Question.TheVariants as asked
use Rattle.spec_model.specs.declared.relation.Relation.{Relation}
use Rattle.unit_questions.specs.Claims.{ClaimHolds, HasCurrent, HoldsInOne}

-- a claim holds in every consistent completion
abbrev pub Holding : Spec → Question → Need → Type 0
Holding s q need = EachConsistent s (ClaimHolds s.relations q need.claim)

-- ---- pairs

pairs_hold : (s : Spec) (q : Question) (pairs : List Asked) → All (λ p. EachConsistent s (PairHolds p)) pairs
    → All (Holding s q) (pair_needs pairs)
pairs_hold s q pairs all = All-map (Holding s q) (λ (p : Asked). record { part = part.Verdict; claim = Holds p }) pairs all

-- ---- current values

value_current : (relations : List Relation) (item : Current) (c : Rankings) → IsCurrentIn relations item c → (k : ℕ)
    → (attr : AttrId) (v : Value) → attr.0 ≡ 0 + k → slice_get item.values k ≡ Some v
    → HasCurrent relations item.rel attr item.ent v c
value_current relations item c is k attr v same at =
    let here : attr.0 ≡ k = omega (arith, same) in
    let within = slice_get_within item.values k v at in
    let many = is.per_attr in
    record {
      relation = is.relation;
      is_relation = is.is_relation;
      current = sym (is.current attr.0 (omega (arith, here, within, many))) ∙ ap (slice_get item.values) here ∙ at;
    }

values_hold : (s : Spec) (q : Question) (place : ℕ) (rel : RelId) (ent : EntId) (from : ℕ) (values : List Value)
    → ((k : ℕ) (attr : AttrId) (v : Value) → attr.0 ≡ from + k → slice_get values k ≡ Some v
    → EachConsistent s (HasCurrent s.relations rel attr ent v))
    → All (Holding s q) (value_needs place rel ent from values)
values_hold s q place rel ent from [] each = All-nil (Holding s q)
values_hold s q place rel ent from (v ∷ values) each =
    All-cons (Holding s q) _ (value_needs place rel ent (from + 1) values)
    (each 0 (record { 0 = from }) v (omega arith) refl)
    (values_hold s q place rel ent (from + 1) values
    (λ k attr w same at. each (suc k) attr w (omega (arith, same)) at))

items_hold : (s : Spec) (q : Question) (place : ℕ) (items : List Current)
    → All (λ (item : Current). EachConsistent s (IsCurrentIn s.relations item)) items → All (Holding s q) (item_needs place items)
items_hold s q place [] all = All-nil (Holding s q)
items_hold s q place (item ∷ items) all =
    let each : Current → Type 0 = λ i. EachConsistent s (IsCurrentIn s.relations i) in
    All-append (Holding s q) (value_needs place item.rel item.ent 0 item.values) (item_needs (place + 1) items)
    (values_hold s q place item.rel item.ent 0 item.values
    (λ k attr v same at c is. value_current s.relations item c (All-head each item items all c is) k attr v same at))
    (items_hold s q (place + 1) items (All-tail each item items all))

-- ---- answers

answers_hold : (s : Spec) (query : Query) (place : ℕ) (tuples : List (List Value))
    → All (λ (tuple : List Value). EachConsistent s (IsAnswerIn s.relations query tuple)) tuples
    → All (Holding s (asked.Answers query)) (answer_needs place tuples)
answers_hold s query place [] all = All-nil (Holding s (asked.Answers query))
answers_hold s query place (tuple ∷ tuples) all =
    let each : List Value → Type 0 = λ t. EachConsistent s (IsAnswerIn s.relations query t) in
    All-cons (Holding s (asked.Answers query)) _ (answer_needs (place + 1) tuples)
    (λ c is. record { query = query; is_query = refl; is_answer = All-head each tuple tuples all c is })
    (answers_hold s query (place + 1) tuples (All-tail each tuple tuples all))

-- ---- all claims

all_at : {A : Type 0} (P : A → Type 0) (xs : List A) (i : ℕ) (x : A) → All P xs → slice_get xs i ≡ Some x → P x
all_at P xs i x all at = subst P (get_or_from_slice_get xs i x x at) (all i x (slice_get_within xs i x at))

pub claims_hold : (s : Spec) (q : Question) (v : Verdict) → IsRight s q v → (unit : ℕ) (need : Need)
    → slice_get (needs_of q v) unit ≡ Some need → IsSatisfiable s × Holding s q need
claims_hold s asked.Consistent verdict.Inconsistent right unit need at = absurd (none-some need at)
claims_hold s asked.Consistent verdict.Consistent right unit need at = absurd (none-some need at)
claims_hold s asked.Consistent verdict.Certain right unit need at = absurd (none-some need at)
claims_hold s asked.Consistent (verdict.NotCertain p) right unit need at = absurd (none-some need at)
claims_hold s asked.Consistent (verdict.Same items) right unit need at = absurd right
claims_hold s asked.Consistent (verdict.NotSame rel attr ent) right unit need at = absurd (none-some need at)
claims_hold s asked.Consistent (verdict.Answers tuples) right unit need at = absurd right
claims_hold s asked.Consistent (verdict.Undecided counted) right unit need at = absurd (none-some need at)
claims_hold s (asked.Certain pairs) verdict.Inconsistent right unit need at = absurd (none-some need at)
claims_hold s (asked.Certain pairs) verdict.Consistent right unit need at = absurd (none-some need at)
claims_hold s (asked.Certain pairs) verdict.Certain right unit need at = (
  right.0,
  all_at (Holding s (asked.Certain pairs)) (pair_needs pairs) unit need (pairs_hold s (asked.Certain pairs) pairs right.1) at,
)
claims_hold s (asked.Certain pairs) (verdict.NotCertain p) right unit need at = absurd (none-some need at)
claims_hold s (asked.Certain pairs) (verdict.Same items) right unit need at = absurd right
claims_hold s (asked.Certain pairs) (verdict.NotSame rel attr ent) right unit need at = absurd (none-some need at)
claims_hold s (asked.Certain pairs) (verdict.Answers tuples) right unit need at = absurd right
claims_hold s (asked.Certain pairs) (verdict.Undecided counted) right unit need at = absurd (none-some need at)
claims_hold s (asked.Same rels) verdict.Inconsistent right unit need at = absurd (none-some need at)
claims_hold s (asked.Same rels) verdict.Consistent right unit need at = absurd (none-some need at)
claims_hold s (asked.Same rels) verdict.Certain right unit need at = absurd (none-some need at)
claims_hold s (asked.Same rels) (verdict.NotCertain p) right unit need at = absurd (none-some need at)
claims_hold s (asked.Same rels) (verdict.Same items) right unit need at = (
  right.0,
  all_at (Holding s (asked.Same rels)) (item_needs 0 items) unit need (items_hold s (asked.Same rels) 0 items right.2) at,
)
claims_hold s (asked.Same rels) (verdict.NotSame rel attr ent) right unit need at = absurd (none-some need at)
claims_hold s (asked.Same rels) (verdict.Answers tuples) right unit need at = absurd right
claims_hold s (asked.Same rels) (verdict.Undecided counted) right unit need at = absurd (none-some need at)
claims_hold s (asked.Answers query) verdict.Inconsistent right unit need at = absurd (none-some need at)
claims_hold s (asked.Answers query) verdict.Consistent right unit need at = absurd (none-some need at)
claims_hold s (asked.Answers query) verdict.Certain right unit need at = absurd (none-some need at)
claims_hold s (asked.Answers query) (verdict.NotCertain p) right unit need at = absurd (none-some need at)
claims_hold s (asked.Answers query) (verdict.Same items) right unit need at = absurd right
claims_hold s (asked.Answers query) (verdict.NotSame rel attr ent) right unit need at = absurd (none-some need at)
claims_hold s (asked.Answers query) (verdict.Answers tuples) right unit need at = (
  right.0,
  all_at (Holding s (asked.Answers query)) (answer_needs 0 tuples) unit need (answers_hold s query 0 tuples right.1.each) at,
)
claims_hold s (asked.Answers query) (verdict.Undecided counted) right unit need at = absurd (none-some need at)

pub each_in_one : (s : Spec) (q : Question) (v : Verdict) → IsRight s q v
    → All (λ need. HoldsInOne s.relations q need.claim) (needs_of q v)
each_in_one s q v right k d below =
    let both = claims_hold s q v right k (get_or (needs_of q v) k d) (slice_get-get_or (needs_of q v) k d below) in
    record { completion = both.0.0; is_completion = both.0.1.completion; holds = both.1 both.0.0 both.0.1 }

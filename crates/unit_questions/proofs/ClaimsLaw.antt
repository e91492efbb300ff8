-- The question for a claim asks whether it holds, and can be asked.
use Rattle.std.proofs.Common.{◌≡◌, ◌↔◌, ◌∙◌, ◌+◌, ◌<◌, ℕ, zero, suc, List, [], ◌∷◌, ◌++◌, All, IfSome, Option, Some, None, length, option_map, slice_get, refl, sym, ap, subst}
use Rattle.std.proofs.lemmas.List.Elements.{All-nil, All-cons, All-head}
use Rattle.std.proofs.lemmas.Option.{same_Some, none-some}
use Rattle.answer_laws.specs.Answered.{IsAnswerIn}
use Rattle.currency_base.specs.declared.ids.AttrId.{AttrId}
use Rattle.currency_base.specs.declared.ids.EntId.{EntId}
use Rattle.currency_base.specs.declared.ids.RelId.{RelId}
use Rattle.currency_base.specs.declared.value.Value.{Value}
use Rattle.query_model.specs.declared.query.Disjunct.{Disjunct}
use Rattle.query_model.specs.declared.query.Query.{Query}
use Rattle.report_model.specs.declared.report.Part.TheVariants as part
use Rattle.report_model.specs.declared.verdict.Current.{Current}
use Rattle.report_model.specs.declared.verdict.Verdict.{Verdict}
use Rattle.report_model.specs.declared.verdict.Verdict.TheVariants as verdict
use Rattle.report_verify.specs.Asked.{query_of}
use Rattle.report_verify.specs.Right.{PairHolds}
use Rattle.report_verify.specs.Supported.{Claim, Need, answer_needs, item_needs, needs_of, pair_needs, value_needs}
use Rattle.report_verify.specs.Supported.Claim.{Holds, HasValue, HasAnswer}
use Rattle.spec_model.specs.Completion.{Rankings, IsCompletion}
use Rattle.spec_model.specs.Facts.{AreRelations, IsRelation}
use Rattle.spec_model.specs.Queries.{IsQueryOn}
use Rattle.spec_model.specs.Questions.{IsAskedPair, IsQuestionOn}
use Rattle.spec_model.specs.declared.question.Asked.{Asked}
use Rattle.spec_model.specs.declared.question.Question.{Question}
use Rattle.spec_model.specs.declared.question.Question.TheVariants as asked
use Rattle.spec_model.specs.declared.relation.Relation.{Relation}
use Rattle.unit_questions.specs.Claims.{HasCurrent, HoldsInOne, IsAnswered}
use Rattle.unit_questions.specs.Facts.{FactHolds, IsBoolean, IsFactQuestion}
use Rattle.unit_questions.specs.Laws.{ClaimsAreAsked}
use Rattle.unit_questions.specs.Substituted.{given_query}
use Rattle.unit_questions.specs.Units.{answer_question, question_of, value_query, value_question}
use Rattle.unit_questions.proofs.Lists.{each_has, item_at, item_has, unmapped}
use Rattle.unit_questions.proofs.ValueKinds.{answer_kinds, current_attr, current_ent, current_kind}
use Rattle.unit_questions.proofs.Posed.{all_given, answer_posed, value_posed}
use Rattle.unit_questions.proofs.Substituting.{to_given, to_whole}
use Rattle.unit_questions.proofs.ValueLaw.{value_asked}
use Rattle.unit_questions.proofs.Walks.{needs_answers, needs_same}

-- ---- current values

-- what is known of a value that is current in some completion
record IsPlaced (relations : List Relation) (rel : RelId) (attr : AttrId) (ent : EntId) (value : Value) : Type 0 where
  relation : Relation
  is_relation : slice_get relations rel.0 ≡ Some relation
  name : List ℕ
  is_name : slice_get relation.entities ent.0 ≡ Some name
  in_attrs : attr.0 < length relation.attrs
  asks : value_question (slice_get relations rel.0) rel attr ent value
      ≡ asked.Answers (value_query rel name (length relation.attrs) attr value)
  posed : IsQueryOn relations (value_query rel name (length relation.attrs) attr value)

asks_of : (o : Option Relation) (r : Relation) (rel : RelId) (attr : AttrId) (ent : EntId) (value : Value) (name : List ℕ)
    → o ≡ Some r → slice_get r.entities ent.0 ≡ Some name
    → value_question o rel attr ent value ≡ asked.Answers (value_query rel name (length r.attrs) attr value)
asks_of o r rel attr ent value name at is_name =
    ap (λ p. value_question p rel attr ent value) at ∙ rw is_name refl

placed : (relations : List Relation) → AreRelations relations → (c : Rankings) → IsCompletion relations c → (rel : RelId)
    → (attr : AttrId) (ent : EntId) (value : Value) → HasCurrent relations rel attr ent value c
    → IsPlaced relations rel attr ent value
placed relations are c completion rel attr ent value has =
    let r = has.relation in
    let is = item_has IsRelation relations are.each rel.0 r has.is_relation in
    let name = item_at r.entities ent.0
    (current_ent relations c completion rel.0 r has.is_relation is attr.0 ent.0 value has.current) in
    record {
      relation = r;
      is_relation = has.is_relation;
      name = name.0;
      is_name = name.1;
      in_attrs = current_attr c rel.0 r is attr.0 ent.0 value has.current;
      asks = asks_of (slice_get relations rel.0) r rel attr ent value name.0 has.is_relation name.1;
      posed = value_posed relations rel r has.is_relation name.0 attr value
          (current_kind c rel.0 r is attr.0 ent.0 value has.current);
    }

-- a question that asks for answers of a query
answers_fact : (relations : List Relation) (c : Rankings) (asks : Question) (query : Query) → asks ≡ asked.Answers query
    → (P : Type 0) → IsAnswerIn relations query [] c ↔ P → FactHolds relations asks c ↔ P
answers_fact relations c asks query is P both =
    subst (λ (x : Question). FactHolds relations x c ↔ P) (sym is) both

answers_question : (relations : List Relation) (asks : Question) (query : Query) → asks ≡ asked.Answers query
    → IsQueryOn relations query → IsBoolean query → IsFactQuestion relations asks
answers_question relations asks query is on boolean =
    subst (IsFactQuestion relations) (sym is) (record { on = on; of_fact = boolean })

-- ---- the law

pair_asked : (c : Rankings) (p : Asked) → All (λ o. PairHolds o c) (p ∷ []) ↔ PairHolds p c
pair_asked c p = (
  λ all. All-head (λ o. PairHolds o c) p [] all,
  λ holds. All-cons (λ o. PairHolds o c) p [] holds (All-nil (λ o. PairHolds o c)),
)

answer_asked : (relations : List Relation) (query : Query) → IsQueryOn relations query → (tuple : List Value) (c : Rankings)
    → IsAnswerIn relations (given_query tuple query) [] c ↔ IsAnswerIn relations query tuple c
answer_asked relations query on tuple c = (
  λ answer.
      record {
        instance = answer.instance;
        is_current = answer.is_current;
        is_answer = to_whole query on.is_query answer.instance tuple answer.is_answer;
      },
  λ answer.
      record {
        instance = answer.instance;
        is_current = answer.is_current;
        is_answer = to_given query on.is_query answer.instance tuple answer.is_answer;
      },
)

-- the query of a question
asks_query : (q : Question) (query : Query) → query_of q ≡ Some query → q ≡ asked.Answers query
asks_query asked.Consistent query is = absurd (none-some query is)
asks_query (asked.Certain pairs) query is = absurd (none-some query is)
asks_query (asked.Same rels) query is = absurd (none-some query is)
asks_query (asked.Answers own) query is = ap (λ x. asked.Answers x) (same_Some own query is)

query_on : (relations : List Relation) (q : Question) (query : Query) → IsQuestionOn relations q → query_of q ≡ Some query
    → IsQueryOn relations query
query_on relations q query on is = subst (IsQuestionOn relations) (asks_query q query is) on

answered : (relations : List Relation) (q : Question) (query : Query) (tuple : List Value) (c : Rankings)
    → query_of q ≡ Some query → IsAnswerIn relations query tuple c ↔ IsAnswered relations q tuple c
answered relations q query tuple c is = (
  λ answer. record { query = query; is_query = is; is_answer = answer },
  λ (own : IsAnswered relations q tuple c).
      subst (λ (x : Query). IsAnswerIn relations x tuple c) (same_Some own.query query (sym own.is_query ∙ is)) own.is_answer,
)

both_ways : {P Q R : Type 0} → P ↔ Q → Q ↔ R → P ↔ R
both_ways one other = (λ p. other.0 (one.0 p), λ r. one.1 (other.1 r))

pub claims_asked : ClaimsAreAsked
claims_asked relations q (Holds p) are on one c completion = pair_asked c p
claims_asked relations q (HasValue rel attr ent value) are on one c completion =
    let p = placed relations are one.completion one.is_completion rel attr ent value one.holds in
    answers_fact relations c (value_question (slice_get relations rel.0) rel attr ent value)
    (value_query rel p.name (length p.relation.attrs) attr value) p.asks (HasCurrent relations rel attr ent value c)
    (value_asked relations are rel p.relation p.is_relation ent p.name p.is_name attr p.in_attrs value c completion)
claims_asked relations q (HasAnswer tuple) are on one c completion =
    let query = one.holds.query in
    let is = one.holds.is_query in
    answers_fact relations c (answer_question tuple (query_of q)) (given_query tuple query) (ap (answer_question tuple) is)
    (IsAnswered relations q tuple c)
    (both_ways (answer_asked relations query (query_on relations q query on is) tuple c) (answered relations q query tuple c is))

-- ---- the question can be asked

boolean_given : (tuple : List Value) (query : Query) → IsBoolean (given_query tuple query)
boolean_given tuple query =
    all_given (λ (d : Disjunct). Unit {0}) (λ (d : Disjunct). d.head ≡ []) tuple query.disjuncts (λ d any. refl)
    (each_has (λ (d : Disjunct). Unit {0}) query.disjuncts (λ k d at. tt))

-- a claim of an asked pair is one of those that can be asked about
abbrev IsClaimOn : List Relation → Claim → Type 0
IsClaimOn relations (Holds p) = IsAskedPair relations p
IsClaimOn relations (HasValue rel attr ent value) = Unit {0}
IsClaimOn relations (HasAnswer tuple) = Unit {0}

claim_posed : (relations : List Relation) (q : Question) (claim : Claim) → AreRelations relations → IsQuestionOn relations q
    → HoldsInOne relations q claim → IsClaimOn relations claim → IsFactQuestion relations (question_of relations q claim)
claim_posed relations q (Holds p) are on one is =
    record { on = All-cons (IsAskedPair relations) p [] is (All-nil (IsAskedPair relations)); of_fact = tt }
claim_posed relations q (HasValue rel attr ent value) are on one is =
    let p = placed relations are one.completion one.is_completion rel attr ent value one.holds in
    answers_question relations (value_question (slice_get relations rel.0) rel attr ent value)
    (value_query rel p.name (length p.relation.attrs) attr value) p.asks p.posed
    (All-cons (λ (d : Disjunct). d.head ≡ []) _ [] refl (All-nil (λ (d : Disjunct). d.head ≡ [])))
claim_posed relations q (HasAnswer tuple) are on one is =
    let query = one.holds.query in
    let query_is = one.holds.is_query in
    let own = query_on relations q query on query_is in
    answers_question relations (answer_question tuple (query_of q)) (given_query tuple query)
    (ap (answer_question tuple) query_is)
    (answer_posed relations query own tuple (answer_kinds relations are one.completion query own tuple one.holds.is_answer))
    (boolean_given tuple query)

-- ---- the claims of a verdict

-- each claim is one that can be asked about
abbrev AreOn : List Relation → List Need → Type 0
AreOn relations needs = (k : ℕ) (need : Need) → slice_get needs k ≡ Some need → IsClaimOn relations need.claim

none_on : (relations : List Relation) → AreOn relations []
none_on relations k need at = absurd (none-some need at)

more_on : (relations : List Relation) (n : Need) (needs : List Need) → IsClaimOn relations n.claim → AreOn relations needs
    → AreOn relations (n ∷ needs)
more_on relations n needs one all zero need at = subst (λ (m : Need). IsClaimOn relations m.claim) (same_Some n need at) one
more_on relations n needs one all (suc k) need at = all k need at

values_on : (relations : List Relation) (item : ℕ) (rel : RelId) (ent : EntId) (attr : ℕ) (values : List Value) (rest : List Need)
    → AreOn relations rest → AreOn relations (value_needs item rel ent attr values ++ rest)
values_on relations item rel ent attr [] rest all = all
values_on relations item rel ent attr (v ∷ values) rest all =
    more_on relations (record { part = part.Item item; claim = HasValue rel (record { 0 = attr }) ent v })
    (value_needs item rel ent (attr + 1) values ++ rest) tt (values_on relations item rel ent (attr + 1) values rest all)

items_on : (relations : List Relation) (at : ℕ) (items : List Current) → AreOn relations (item_needs at items)
items_on relations at [] = none_on relations
items_on relations at (item ∷ items) =
    values_on relations at item.rel item.ent 0 item.values (item_needs (at + 1) items) (items_on relations (at + 1) items)

answers_on : (relations : List Relation) (at : ℕ) (tuples : List (List Value)) → AreOn relations (answer_needs at tuples)
answers_on relations at [] = none_on relations
answers_on relations at (tuple ∷ tuples) =
    more_on relations (record { part = part.Item at; claim = HasAnswer tuple }) (answer_needs (at + 1) tuples) tt
    (answers_on relations (at + 1) tuples)

pairs_on : (relations : List Relation) (pairs : List Asked) → All (IsAskedPair relations) pairs
    → AreOn relations (pair_needs pairs)
pairs_on relations pairs are k need at =
    let u = unmapped (λ (p : Asked). let n : Need = record { part = part.Verdict; claim = Holds p } in n) pairs k need at in
    subst (λ (n : Need). IsClaimOn relations n.claim) u.2 (item_has (IsAskedPair relations) pairs are k u.0 u.1)

needs_on : (relations : List Relation) (q : Question) → IsQuestionOn relations q → (v : Verdict) → AreOn relations (needs_of q v)
needs_on relations (asked.Certain pairs) on verdict.Certain = pairs_on relations pairs on
needs_on relations asked.Consistent on verdict.Certain = none_on relations
needs_on relations (asked.Same rels) on verdict.Certain = none_on relations
needs_on relations (asked.Answers query) on verdict.Certain = none_on relations
needs_on relations q on (verdict.Same items) =
    subst (AreOn relations) (sym (needs_same q items)) (items_on relations 0 items)
needs_on relations q on (verdict.Answers tuples) =
    subst (AreOn relations) (sym (needs_answers q tuples)) (answers_on relations 0 tuples)
needs_on relations asked.Consistent on verdict.Inconsistent = none_on relations
needs_on relations (asked.Certain pairs) on verdict.Inconsistent = none_on relations
needs_on relations (asked.Same rels) on verdict.Inconsistent = none_on relations
needs_on relations (asked.Answers query) on verdict.Inconsistent = none_on relations
needs_on relations asked.Consistent on verdict.Consistent = none_on relations
needs_on relations (asked.Certain pairs) on verdict.Consistent = none_on relations
needs_on relations (asked.Same rels) on verdict.Consistent = none_on relations
needs_on relations (asked.Answers query) on verdict.Consistent = none_on relations
needs_on relations asked.Consistent on (verdict.NotCertain p) = none_on relations
needs_on relations (asked.Certain pairs) on (verdict.NotCertain p) = none_on relations
needs_on relations (asked.Same rels) on (verdict.NotCertain p) = none_on relations
needs_on relations (asked.Answers query) on (verdict.NotCertain p) = none_on relations
needs_on relations asked.Consistent on (verdict.NotSame rel attr ent) = none_on relations
needs_on relations (asked.Certain pairs) on (verdict.NotSame rel attr ent) = none_on relations
needs_on relations (asked.Same rels) on (verdict.NotSame rel attr ent) = none_on relations
needs_on relations (asked.Answers query) on (verdict.NotSame rel attr ent) = none_on relations
needs_on relations asked.Consistent on (verdict.Undecided counted) = none_on relations
needs_on relations (asked.Certain pairs) on (verdict.Undecided counted) = none_on relations
needs_on relations (asked.Same rels) on (verdict.Undecided counted) = none_on relations
needs_on relations (asked.Answers query) on (verdict.Undecided counted) = none_on relations

pub unit_posed : (relations : List Relation) (q : Question) (v : Verdict) (unit : ℕ) → AreRelations relations
    → IsQuestionOn relations q → All (λ need. HoldsInOne relations q need.claim) (needs_of q v)
    → IfSome (option_map (λ need. question_of relations q need.claim) (slice_get (needs_of q v) unit)) (IsFactQuestion relations)
unit_posed relations q v unit are on holds = go (slice_get (needs_of q v) unit) refl
  where
    go : (o : Option Need) → slice_get (needs_of q v) unit ≡ o
        → IfSome (option_map (λ need. question_of relations q need.claim) o) (IsFactQuestion relations)
    go None at = tt
    go (Some need) at =
        claim_posed relations q need.claim are on
        (item_has (λ (n : Need). HoldsInOne relations q n.claim) (needs_of q v) holds unit need at)
        (needs_on relations q on v unit need at)

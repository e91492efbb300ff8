-- A verdict that is shown is right.
use Rattle.std.proofs.Common.{◌≡◌, ◌≢◌, ◌⊎◌, inl, inr, ◌+◌, ◌<◌, ◌≤◌, ℕ, zero, suc, true, List, [], ◌∷◌, ◌++◌, All, Option, Some, None, length, get_or, slice_get, refl, sym, ◌∙◌, subst, arith}
use Rattle.std.proofs.lemmas.Bool.{false≢true}
use Rattle.std.proofs.lemmas.List.Elements.{All-nil, All-cons, All-head, All-tail, All-contains}
use Rattle.std.proofs.lemmas.Option.{none-some, same_Some, slice_get_cases}
use Rattle.checked_logs.specs.Sound.{EmptyMeansNone}
use Rattle.currency_base.specs.declared.ids.AttrId.{AttrId}
use Rattle.currency_base.specs.declared.ids.EntId.{EntId}
use Rattle.currency_base.specs.declared.ids.RelId.{RelId}
use Rattle.currency_base.specs.declared.value.Value.{Value}
use Rattle.log_axioms.specs.Posed.{passing}
use Rattle.log_axioms.specs.Truth.{ClauseHolds}
use Rattle.log_checker.specs.Accepted.{IsAccepted}
use Rattle.log_units.specs.Units.{HasLastUnit}
use Rattle.query_model.specs.declared.query.Query.{Query}
use Rattle.refutation_log.specs.Steps.{clauses_of}
use Rattle.refutation_log.specs.declared.log.Log.{Log}
use Rattle.report_model.specs.Verdicts.{is_decided, kind_of}
use Rattle.report_model.specs.declared.report.Part.TheVariants as part
use Rattle.report_model.specs.declared.verdict.Current.{Current}
use Rattle.report_model.specs.declared.verdict.Verdict.{Verdict}
use Rattle.report_model.specs.declared.verdict.Verdict.TheVariants as verdict
use Rattle.spec_model.specs.Questions.{IsAskedPair, IsQuestionOn}
use Rattle.report_verify.specs.Asked.{HasValues, query_of}
use Rattle.report_verify.specs.Right.{EachConsistent, IsCurrentIn, IsRight, PairHolds}
use Rattle.report_verify.specs.Supported.{HasValue, Holds, IsDerived, IsOneOf, IsSupported, Need, item_needs, pair_needs, value_needs}
use Rattle.report_verify.proofs.AnswerClaims.{AnswerLaws, answers_are, clauses_hold}
use Rattle.report_verify.proofs.Claims.{empty_there, pair_holds, value_holds}
use Rattle.spec_model.specs.Completion.{Rankings}
use Rattle.spec_model.specs.Consistent.{IsConsistent, IsSatisfiable}
use Rattle.spec_model.specs.Current.{current_value}
use Rattle.spec_model.specs.Facts.{IsSpecification}
use Rattle.spec_model.specs.Spec.{Spec}
use Rattle.spec_model.specs.declared.question.Asked.{Asked}
use Rattle.spec_model.specs.declared.question.Question.{Question}
use Rattle.spec_model.specs.declared.question.Question.TheVariants as asked

-- accepted logs are true
pub record TruthLaws : Type 0 where
  pub answers : AnswerLaws
  pub none : EmptyMeansNone

-- ---- lists

in_front : {A : Type 0} (P : A → Type 0) (xs ys : List A) → All P (xs ++ ys) → All P xs
in_front P [] ys all = All-nil P
in_front P (x ∷ xs) ys all = All-cons P x xs (All-head P x (xs ++ ys) all) (in_front P xs ys (All-tail P x (xs ++ ys) all))

behind : {A : Type 0} (P : A → Type 0) (xs ys : List A) → All P (xs ++ ys) → All P ys
behind P [] ys all = all
behind P (x ∷ xs) ys all = behind P xs ys (All-tail P x (xs ++ ys) all)

-- a listed completion that is consistent
satisfiable : (s : Spec) (cs : List Rankings) → cs ≢ [] → All (IsConsistent s) cs → IsSatisfiable s
satisfiable s [] some all = absurd (some refl)
satisfiable s (c ∷ cs) some all = (c, All-head (IsConsistent s) c cs all)

abbrev attr_of : ℕ → AttrId
attr_of n = record { 0 = n }

abbrev value_need : ℕ → RelId → ℕ → EntId → Value → Need
value_need item rel attr ent v = record { part = part.Item item; claim = HasValue rel (attr_of attr) ent v }

-- the tests that all tuples pass
abbrev Any : ℕ → Type 0
Any = passing (λ place. true)

module _ (laws : TruthLaws) (s : Spec) (facts : IsSpecification s) (log : Log) (query : Option Query)
    (accepted : IsAccepted s query log) where
  all_hold : (c : Rankings) → IsConsistent s c → All (ClauseHolds s.relations c Any log.statements) (clauses_of log.steps)
  all_hold = clauses_hold laws.answers s facts log query accepted

  -- ---- pairs

  pub pairs_hold : (pairs : List Asked) → All (IsAskedPair s.relations) pairs → All (IsDerived s.relations log) (pair_needs pairs)
      → All (λ p. EachConsistent s (PairHolds p)) pairs
  pairs_hold [] are derived = All-nil (λ p. EachConsistent s (PairHolds p))
  pairs_hold (p ∷ pairs) are derived =
      let need : Need = record { part = part.Verdict; claim = Holds p } in
      let here = All-head (IsDerived s.relations log) need (pair_needs pairs) derived in
      let is = All-head (IsAskedPair s.relations) p pairs are in
      All-cons (λ p. EachConsistent s (PairHolds p)) p pairs
      (λ c consistent. pair_holds s.relations c Any log p facts.relations consistent.completion (all_hold c consistent) is here)
      (pairs_hold pairs (All-tail (IsAskedPair s.relations) p pairs are) (All-tail (IsDerived s.relations log) need
      (pair_needs pairs) derived))

  -- ---- values

  derived_at : (item : ℕ) (rel : RelId) (ent : EntId) (from : ℕ) (values : List Value)
      → All (IsDerived s.relations log) (value_needs item rel ent from values) → (k : ℕ) (v : Value) → slice_get values k ≡ Some v
      → HasLastUnit s.relations log rel (attr_of (from + k)) ent v
  derived_at item rel ent from [] all k v at = absurd (none-some v at)
  derived_at item rel ent from (x ∷ values) all zero v at =
      let here = All-head (IsDerived s.relations log) (value_need item rel from ent x)
      (value_needs item rel ent (from + 1) values) all in
      let same : from ≡ from + 0 = omega arith in
      subst (λ n. HasLastUnit s.relations log rel (attr_of n) ent v) same
      (subst (λ w. HasLastUnit s.relations log rel (attr_of from) ent w) (same_Some x v at) here)
  derived_at item rel ent from (x ∷ values) all (suc k) v at =
      let same : from + 1 + k ≡ from + suc k = omega arith in
      subst (λ n. HasLastUnit s.relations log rel (attr_of n) ent v) same
      (derived_at item rel ent (from + 1) values
      (All-tail (IsDerived s.relations log) (value_need item rel from ent x)
      (value_needs item rel ent (from + 1) values) all) k v at)

  value_is : (item : Current) (attr : ℕ) (v : Value) (has : HasValues s.relations item) → HasLastUnit s.relations log
      item.rel (attr_of (0 + attr)) item.ent v
      → (c : Rankings) → IsConsistent s c → current_value c item.rel.0 has.relation.rows attr item.ent.0 ≡ Some v
  value_is item attr v has unit c consistent =
      let same : 0 + attr ≡ attr = omega arith in
      value_holds s.relations c Any log item.rel (attr_of attr) item.ent v has.relation has.is_relation (all_hold c consistent)
      (subst (λ n. HasLastUnit s.relations log item.rel (attr_of n) item.ent v) same unit)

  item_is : (at : ℕ) (item : Current) → HasValues s.relations item
      → All (IsDerived s.relations log) (value_needs at item.rel item.ent 0 item.values) → EachConsistent s
      (IsCurrentIn s.relations item)
  item_is at item has derived c consistent = record {
    relation = has.relation;
    is_relation = has.is_relation;
    per_attr = has.per_attr;
    current = λ attr below. by attr below (slice_get_cases item.values attr).1;
  }
    where
      by : (attr : ℕ) → attr < length has.relation.attrs
          → ((v : Value) × (attr < length item.values) × (slice_get item.values attr ≡ Some v) × (get_or item.values attr v ≡ v))
          ⊎ ((length item.values ≤ attr) × (slice_get item.values attr ≡ None))
          → slice_get item.values attr ≡ current_value c item.rel.0 has.relation.rows attr item.ent.0
      by attr below (inl one) =
          let unit = derived_at at item.rel item.ent 0 item.values derived attr one.0 one.2 in
          one.2 ∙ sym (value_is item attr one.0 has unit c consistent)
      by attr below (inr past) = let h = past.0 in let e = has.per_attr in absurd (omega arith)

  pub items_are : (at : ℕ) (items : List Current) → All (HasValues s.relations) items
      → All (IsDerived s.relations log) (item_needs at items)
      → All (λ item. EachConsistent s (IsCurrentIn s.relations item)) items
  items_are at [] have derived = All-nil (λ (item : Current). EachConsistent s (IsCurrentIn s.relations item))
  items_are at (item ∷ items) have derived =
      let own = value_needs at item.rel item.ent 0 item.values in
      let rest = item_needs (at + 1) items in
      All-cons (λ (item : Current). EachConsistent s (IsCurrentIn s.relations item)) item items
      (item_is at item (All-head (HasValues s.relations) item items have) (in_front (IsDerived s.relations log) own rest derived))
      (items_are (at + 1) items (All-tail (HasValues s.relations) item items have)
      (behind (IsDerived s.relations log) own rest derived))

-- ---- verdicts

module _ (laws : TruthLaws) (s : Spec) (facts : IsSpecification s) (log : Log) where
  pub right : (q : Question) (v : Verdict) (cs : List Rankings) → IsAccepted s (query_of q) log
      → IsQuestionOn s.relations q → IsOneOf s q v
      → All (IsConsistent s) cs → IsSupported s q v cs log → is_decided (kind_of v) ≡ true → IsRight s q v
  right q verdict.Inconsistent cs accepted on one_of all supported decided = laws.none s facts (query_of q) log
      accepted (empty_there log supported)
  right q (verdict.Undecided counted) cs accepted on one_of all supported decided = absurd (false≢true decided)
  right asked.Consistent verdict.Consistent cs accepted on one_of all supported decided = satisfiable s cs supported all
  right (asked.Certain pairs) verdict.Certain cs accepted on one_of all supported decided =
      (satisfiable s cs supported.0 all, pairs_hold laws s facts log None accepted pairs on supported.1)
  right (asked.Certain pairs) (verdict.NotCertain p) cs accepted on one_of all supported decided = (
    one_of,
    record {
      rankings = supported.rankings;
      consistent = All-contains (IsConsistent s) cs supported.rankings all supported.listed;
      fails = supported.fails;
    },
  )
  right (asked.Same rels) (verdict.Same items) cs accepted on one_of all supported decided =
      (satisfiable s cs supported.0 all, one_of, items_are laws s facts log None accepted 0 items one_of.values supported.1)
  right (asked.Same rels) (verdict.NotSame rel attr ent) cs accepted on one_of all supported decided = (
    one_of,
    record {
      one = supported.one;
      other = supported.other;
      one_consistent = All-contains (IsConsistent s) cs supported.one all supported.one_listed;
      other_consistent = All-contains (IsConsistent s) cs supported.other all supported.other_listed;
      differ = supported.differ;
    },
  )
  right (asked.Answers query) (verdict.Answers tuples) cs accepted on one_of all supported decided = (
    satisfiable s cs supported.0 all,
    record {
      each = answers_are laws.answers s facts log query on.is_query accepted 0 tuples supported.1;
      all = λ tuple every. supported.2.all tuple (λ i d below. every _ (all i d below));
    },
  )
  right asked.Consistent verdict.Certain cs accepted on one_of all supported decided = absurd one_of
  right asked.Consistent (verdict.NotCertain p) cs accepted on one_of all supported decided = absurd one_of
  right asked.Consistent (verdict.Same items) cs accepted on one_of all supported decided = absurd one_of
  right asked.Consistent (verdict.NotSame rel attr ent) cs accepted on one_of all supported decided = absurd one_of
  right (asked.Certain pairs) verdict.Consistent cs accepted on one_of all supported decided = absurd one_of
  right (asked.Certain pairs) (verdict.Same items) cs accepted on one_of all supported decided = absurd one_of
  right (asked.Certain pairs) (verdict.NotSame rel attr ent) cs accepted on one_of all supported decided = absurd one_of
  right (asked.Same rels) verdict.Consistent cs accepted on one_of all supported decided = absurd one_of
  right (asked.Same rels) verdict.Certain cs accepted on one_of all supported decided = absurd one_of
  right (asked.Same rels) (verdict.NotCertain p) cs accepted on one_of all supported decided = absurd one_of
  right asked.Consistent (verdict.Answers tuples) cs accepted on one_of all supported decided = absurd one_of
  right (asked.Certain pairs) (verdict.Answers tuples) cs accepted on one_of all supported decided = absurd one_of
  right (asked.Same rels) (verdict.Answers tuples) cs accepted on one_of all supported decided = absurd one_of
  right (asked.Answers query) verdict.Consistent cs accepted on one_of all supported decided = absurd one_of
  right (asked.Answers query) verdict.Certain cs accepted on one_of all supported decided = absurd one_of
  right (asked.Answers query) (verdict.NotCertain p) cs accepted on one_of all supported decided = absurd one_of
  right (asked.Answers query) (verdict.Same items) cs accepted on one_of all supported decided = absurd one_of
  right (asked.Answers query) (verdict.NotSame rel attr ent) cs accepted on one_of all supported decided = absurd one_of

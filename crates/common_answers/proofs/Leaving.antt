-- What completions have in common, one completion after another.
use Rattle.std.proofs.Common.{◌≡◌, List, [], ◌∷◌, ◌++◌, All, Contains, refl, sym, ap, subst, inl, inr, ⊎_elim, arith}
use Rattle.std.proofs.lemmas.List.Elements.{All-contains, All-head, All-nil, All-push, All-weaker}
use Rattle.currency_base.specs.declared.value.Value.{Value}
use Rattle.answer_laws.specs.Answered.{IsAnswerIn}
use Rattle.query_model.specs.Answers.{AreAnswers, IsAnswer}
use Rattle.query_model.specs.declared.query.Query.{Query}
use Rattle.spec_model.specs.Completion.{Rankings}
use Rattle.spec_model.specs.Current.{IsCurrentInstance}
use Rattle.spec_model.specs.declared.relation.Relation.{Relation}
use Rattle.ucq_answers.specs.Planned.{IndexedQuery}
use Rattle.common_answers.proofs.Lists.{all_left, all_right}
use Rattle.common_answers.specs.Candidates.{AreLeft, IsKept, IsRest, Tuples}
use Rattle.common_answers.specs.Common.{AreCommon}

-- a completion has one current instance
abbrev pub OneInstance : Type 0
OneInstance = (relations : List Relation) → (c : Rankings) → (one other : List (List (List Value)))
    → IsCurrentInstance relations c one → IsCurrentInstance relations c other → one ≡ other

abbrev IsIn : List Relation → Query → Rankings → List Value → Type 0
IsIn relations query c tuple = IsAnswerIn relations query tuple c

-- the query and the current instance of a completion, indexed
pub record AreIndexed (relations : List Relation) (query : Query) (c : Rankings) (ix : IndexedQuery) : Type 0 where
  pub of_query : ix.query ≡ query
  pub current : IsCurrentInstance relations c ix.instance

pub indexed_of : (relations : List Relation) (query : Query) (c : Rankings) (instance : List (List (List Value)))
    (ix : IndexedQuery)
    → IsCurrentInstance relations c instance → ix ≡ record { query = query; instance = instance }
    → AreIndexed relations query c ix
indexed_of relations query c instance ix current same =
    record {
      of_query = ap (λ (x : IndexedQuery). x.query) same;
      current = subst (λ (x : IndexedQuery). IsCurrentInstance relations c x.instance) (sym same) current;
    }

pub in_completion : (relations : List Relation) (query : Query) (c : Rankings) (ix : IndexedQuery)
    → AreIndexed relations query c ix → (tuple : List Value) → IsAnswer ix.query ix.instance tuple
    → IsAnswerIn relations query tuple c
in_completion relations query c ix are tuple is =
    record {
      instance = ix.instance;
      is_current = are.current;
      is_answer = subst (λ q. IsAnswer q ix.instance tuple)
          are.of_query is;
    }

pub in_instance : OneInstance → (relations : List Relation) (query : Query) (c : Rankings) (ix : IndexedQuery)
    → AreIndexed relations query c ix → (tuple : List Value) → IsAnswerIn relations query tuple c
    → IsAnswer ix.query ix.instance tuple
in_instance one relations query c ix are tuple is =
    subst (λ q. IsAnswer q ix.instance tuple) (sym are.of_query)
    (subst (λ (x : List (List (List Value))). IsAnswer query x tuple)
    (one relations c is.instance ix.instance is.is_current are.current)
    is.is_answer)

-- a tuple that is none of the answers over the instance is none of the completion
pub not_all_in : OneInstance → (relations : List Relation) (query : Query) (c : Rankings) (ix : IndexedQuery)
    → AreIndexed relations query c ix → (tuples : Tuples) → (All (IsAnswer ix.query ix.instance) tuples → ⊥)
    → All (λ tuple. IsAnswerIn relations query tuple c) tuples → ⊥
not_all_in one relations query c ix are tuples never all =
    never (All-weaker (IsIn relations query c) (IsAnswer ix.query ix.instance)
    (in_instance one relations query c ix are) tuples all)

-- ---- the first completion, and one more

one_of : {A : Type 0} (P : A → Type 0) (x : A) → P x → All P (x ∷ [])
one_of P x holds = All-push P [] x (All-nil P) holds

pub left_first : OneInstance → (relations : List Relation) (query : Query) (c : Rankings) (ix : IndexedQuery)
    → AreIndexed relations query c ix → (tuples answers others : Tuples) → All (IsAnswer ix.query ix.instance) tuples
    → AreAnswers ix.query ix.instance answers → IsRest answers tuples others → AreLeft relations query tuples (c ∷ []) others
left_first one relations query c ix are tuples answers others all found rest =
    record {
      each = All-weaker (IsAnswer ix.query ix.instance) (λ t. All (IsAnswerIn relations query t) (c ∷ [])) in_one tuples all;
      other = All-weaker (Contains answers) (λ t. All (IsAnswerIn relations query t) (c ∷ []))
          (λ t is. in_one t (All-contains (IsAnswer ix.query ix.instance) answers t found.each is)) others rest.of_answers;
      apart = rest.apart;
      all = λ t every.
          rest.all t
          (found.all t
          (in_instance one relations query c ix are t (All-head (IsAnswerIn relations query t) c [] every)));
    }
  where
    in_one : (t : List Value) → IsAnswer ix.query ix.instance t → All (IsAnswerIn relations query t) (c ∷ [])
    in_one t is = one_of (IsAnswerIn relations query t) c (in_completion relations query c ix are t is)

pub left_more : OneInstance → (relations : List Relation) (query : Query) (c : Rankings) (ix : IndexedQuery)
    → AreIndexed relations query c ix → (tuples old new : Tuples) → All (IsAnswer ix.query ix.instance) tuples
    → IsKept (IsAnswer ix.query ix.instance) old new → (earlier : List Rankings) → AreLeft relations query tuples earlier old
    → AreLeft relations query tuples (earlier ++ c ∷ []) new
left_more one relations query c ix are tuples old new all kept earlier left =
    record {
      each = λ i d below. in_more _ (left.each i d below) (all i d below);
      other = λ i d below.
          in_more _ (All-contains Earlier old _ left.other (kept.of_old i d below)) (kept.hold i d below);
      apart = λ i d below. All-contains (λ t. Contains tuples t → ⊥) old _ left.apart (kept.of_old i d below);
      all = λ t every.
          ⊎_elim
          (λ (printed : Contains tuples t). inl printed)
          (λ (other : Contains old t).
          inr
          (kept.all t other
          (in_instance one relations query c ix are t
          (All-head (IsAnswerIn relations query t) c [] (all_right (IsAnswerIn relations query t) earlier (c ∷ []) every)))))
          (left.all t (all_left (IsAnswerIn relations query t) earlier (c ∷ []) every));
    }
  where
    Earlier : List Value → Type 0
    Earlier t = All (IsAnswerIn relations query t) earlier

    in_more : (t : List Value) → All (IsAnswerIn relations query t) earlier → IsAnswer ix.query ix.instance t
        → All (IsAnswerIn relations query t) (earlier ++ c ∷ [])
    in_more t before is =
        All-push (IsAnswerIn relations query t) earlier c before (in_completion relations query c ix are t is)

-- ---- in the end

nothing_in : {A : Type 0} (x : A) → Contains [] x → ⊥
nothing_in x is = absurd (omega (arith, is.1))

pub common_none_left : (relations : List Relation) (query : Query) (tuples : Tuples) (completions : List Rankings)
    (others : Tuples)
    → others ≡ [] → AreLeft relations query tuples completions others → AreCommon relations query tuples completions
common_none_left relations query tuples completions others none left =
    record {
      each = left.each;
      all = λ t every.
          ⊎_elim
          (λ (printed : Contains tuples t). printed)
          (λ (other : Contains others t). absurd (nothing_in t (subst (λ ts. Contains ts t) none other)))
          (left.all t every);
    }

pub not_common_some_left : (relations : List Relation) (query : Query) (tuples : Tuples)
    (completions : List Rankings) (others : Tuples)
    → (others ≡ [] → ⊥) → AreLeft relations query tuples completions others → AreCommon relations query tuples completions → ⊥
not_common_some_left relations query tuples completions [] some left common = some refl
not_common_some_left relations query tuples completions (t ∷ others) some left common =
    All-head (λ u. Contains tuples u → ⊥) t others left.apart
    (common.all t (All-head (λ u. All (IsAnswerIn relations query u) completions) t others left.other))

-- a tuple that is no answer in one of the completions
pub not_common_one : (relations : List Relation) (query : Query) (tuples : Tuples) (completions : List Rankings) (c : Rankings)
    → Contains completions c → (All (λ tuple. IsAnswerIn relations query tuple c) tuples → ⊥)
    → AreCommon relations query tuples completions → ⊥
not_common_one relations query tuples completions c is never common =
    never (λ i d below. All-contains (IsAnswerIn relations query _) completions c (common.each i d below) is)

-- What is due where answers are told as a table, by what the job comes to.
use Rattle.std.proofs.Common.{◌≡◌, ◌∙◌, ℕ, List, [], ◌∷◌, MatchResult, Option, None, Some, Result, Ok, Err, ap, inl, inr, map}
use Rattle.std.proofs.Common.{refl, subst, sym}
use Rattle.answer_tables.specs.Asked.{AsksNone, IsOfQuery, IsQueryRead, IsTableDue, IsTrouble, Job, no_query, query_asked}
use Rattle.command_stages.proofs.OneRead.{IsOne}
use Rattle.command_stages.proofs.Outcomes.{IsLike, same_alike, then_like}
use Rattle.command_stages.specs.Alike.{AreAlike}
use Rattle.command_stages.specs.Stages.{Then, IsQuestionRead, IsQuestionTree, IsSpecRead}
use Rattle.command_stages.specs.Trees.{IsQuestionTreeOf}
use Rattle.command_stages.specs.declared.done.Done.{Done}
use Rattle.command_stages.specs.declared.trouble.Trouble.{Trouble}
use Rattle.currency_edge.specs.Shelf.{document}
use Rattle.program_words.specs.Words.{TableSaid}
use Rattle.query_bind.specs.Queried.{queried_on}
use Rattle.query_syntax.specs.declared.trees.QueryTree.{QueryTree}
use Rattle.bind_faults.specs.Faults.{all_of, and_then, unless}
use Rattle.bind_faults.specs.declared.fault.BindFault.{BindFault}
use Rattle.question_bind.specs.Asked.{relation_named}
use Rattle.question_bind.specs.Bound.{IsQuestionBound, certain_of, first_again, rel_ids}
use Rattle.spec_model.specs.declared.question.Asked.{Asked}
use Rattle.text_grammar.specs.declared.named.Named.{Named}
use Rattle.question_syntax.specs.declared.trees.QuestionTree.{QuestionTree}
use Rattle.question_syntax.specs.declared.trees.QuestionTree.TheVariants as tree
use Rattle.spec_model.specs.Spec.{Spec}
use Rattle.spec_model.specs.declared.question.Question.{Question}
use Rattle.spec_model.specs.declared.question.Question.TheVariants as asked
use Rattle.query_model.specs.declared.query.Query.{Query}
use Rattle.spec_model.specs.declared.relation.Relation.{Relation}

abbrev pub OneSpec : Type 0
OneSpec = (told : List (List ℕ × List ℕ)) (name : List ℕ) → IsOne (IsSpecRead told name)

abbrev pub OneQuestion : Type 0
OneQuestion = (told : List (List ℕ × List ℕ)) (relations : List Relation) (name : List ℕ)
    → IsOne (IsQuestionRead told relations name)

-- a text has one tree
abbrev pub OneTree : Type 0
OneTree = (name bytes : List ℕ) → IsOne (IsQuestionTree name bytes)

-- ---- the trouble that comes before the job is due

module _ (told : List (List ℕ × List ℕ)) (a : TableSaid) (job : Job) where
  none_due : (s : Spec) (e : Trouble) → AsksNone told a s e
      → Then (IsQuestionRead told s.relations a.question) (IsOfQuery told a job s) (Err e)
  none_due s e h = (
    Ok h.question,
    h.question_read,
    (
      h.tree,
      h.is_tree,
      subst (λ (r : Result QueryTree ℕ). MatchResult r (λ query. job s h.question query (Err e))
          (λ line. ◌≡◌ {A = Result Done Trouble} (Err e) (Err (no_query a.question line)))) (sym h.nothing.is_line)
          (ap Err h.nothing.is_trouble),
    ),
  )

  pub trouble_due : (e : Trouble) → IsTrouble told a e → IsTableDue told a job (Err e)
  trouble_due e (inl refused) = (Err e, refused, refl)
  trouble_due e (inr (s, read, inl refused)) = (Ok s, read, (Err e, refused, refl))
  trouble_due e (inr (s, read, inr none)) = (Ok s, read, none_due s e none)

  -- ---- what the job comes to is due

  pub job_due : (s : Spec) (q : Question) (query : QueryTree) (outcome : Result Done Trouble) → IsQueryRead told a s q query
      → job s q query outcome → IsTableDue told a job outcome
  job_due s q query outcome h done = (
    Ok s,
    h.spec_read,
    (
      Ok q,
      h.question_read,
      (
        h.tree,
        h.is_tree,
        subst (λ (r : Result QueryTree ℕ). MatchResult r (λ x. job s q x outcome)
            (λ line. outcome ≡ Err (no_query a.question line))) (sym h.is_query) done,
      ),
    ),
  )

  -- ---- what is due is alike

  module _ (one : OneTree) (like : (s : Spec) (q : Question) (query : QueryTree) → IsLike (job s q query)) where
    same_tree : (t u : QuestionTree) (s : Spec) (q : Question) → IsQuestionTreeOf told s.relations a.question t q
        → IsQuestionTreeOf told s.relations a.question u q → t ≡ u
    same_tree t u s q h k = ok_one (one a.question (document told a.question) (Ok t) (Ok u) h.reads k.reads)
      where
        ok_one : ◌≡◌ {A = Result QuestionTree Trouble} (Ok t) (Ok u) → t ≡ u
        ok_one e = cc

    like_by : (s : Spec) (q : Question) (r : Result QueryTree ℕ) (x y : Result Done Trouble)
        → MatchResult r (λ query. job s q query x) (λ line. x ≡ Err (no_query a.question line))
        → MatchResult r (λ query. job s q query y) (λ line. y ≡ Err (no_query a.question line)) → AreAlike x y
    like_by s q (Ok query) x y h k = like s q query x y h k
    like_by s q (Err line) x y h k = same_alike x y (h ∙ sym k)

    query_like : (s : Spec) (q : Question) → IsLike (IsOfQuery told a job s q)
    query_like s q x y h k =
        like_by s q (query_asked h.0) x y h.2
        (subst (λ (t : QuestionTree). MatchResult (query_asked t) (λ query. job s q query y)
        (λ line. y ≡ Err (no_query a.question line))) (sym (same_tree h.0 k.0 s q h.1 k.1)) k.2)

    pub table_like : OneSpec → OneQuestion → IsLike (IsTableDue told a job)
    table_like specs questions =
        then_like (IsSpecRead told a.spec) _ (specs told a.spec) (λ s.
        then_like (IsQuestionRead told s.relations a.question) (IsOfQuery told a job s)
        (questions told s.relations a.question) (query_like s))

  -- ---- both are read, so what is due is the job of the question's query

  question_found : OneQuestion → (s : Spec) (q : Question) (got : Result Done Trouble)
      → IsQuestionRead told s.relations a.question (Ok q)
      → Then (IsQuestionRead told s.relations a.question) (IsOfQuery told a job s) got → IsOfQuery told a job s q got
  question_found one s q got read h =
      subst (λ (r : Result Question Trouble). MatchResult r (λ x. IsOfQuery told a job s x got) (λ x. got ≡ Err x))
      (one told s.relations a.question h.0 (Ok q) h.1 read) h.2

  -- ---- a question that is bound to a query asks one

  certain_none : (pairs : Result (List Asked) BindFault) (line : ℕ) (bound : Query)
      → ◌≡◌ {A = Result Question BindFault} (Ok (asked.Answers bound)) (and_then pairs (certain_of line)) → ⊥
  certain_none (Err e) line bound is = cc
  certain_none (Ok []) line bound is = cc
  certain_none (Ok (p ∷ pairs)) line bound is = cc

  same_none : (found : Result (List ℕ) BindFault) (names : List Named) (bound : Query)
      → ◌≡◌ {A = Result Question BindFault} (Ok (asked.Answers bound))
      (and_then found (λ rels. unless (first_again [] names rels) (Ok (asked.Same (rel_ids rels))))) → ⊥
  same_none (Err e) names bound is = cc
  same_none (Ok rels) names bound is = by (first_again [] names rels) is
    where
      by : (again : Option BindFault)
          → ◌≡◌ {A = Result Question BindFault} (Ok (asked.Answers bound)) (unless again (Ok (asked.Same (rel_ids rels)))) → ⊥
      by None is = cc
      by (Some fault) is = cc

  asks_one : (relations : List Relation) (t : QuestionTree) (bound : Query)
      → IsQuestionBound told relations t (Ok (asked.Answers bound)) → (query : QueryTree) × (query_asked t ≡ Ok query)
  asks_one relations (tree.Answers query) bound h = (query, refl)
  asks_one relations (tree.Consistent line) bound h = absurd (cc)
  asks_one relations (tree.Certain line trees) bound h = absurd (certain_none h.0 line bound h.2)
  asks_one relations (tree.Same line names) bound h = absurd (same_none (all_of (relation_named relations) names) names bound h)

  pub query_due : OneSpec → OneQuestion → (s : Spec) (bound : Query) (got : Result Done Trouble)
      → IsSpecRead told a.spec (Ok s) → IsQuestionRead told s.relations a.question (Ok (asked.Answers bound))
      → IsTableDue told a job got → (query : QueryTree) × job s (asked.Answers bound) query got
  query_due one_spec one_question s bound got spec question h =
      let found : IsOfQuery told a job s (asked.Answers bound) got = question_found one_question s (asked.Answers bound) got question
      (subst (λ (r : Result Spec Trouble). MatchResult r
      (λ x. Then (IsQuestionRead told x.relations a.question) (IsOfQuery told a job x) got) (λ x. got ≡ Err x))
      (one_spec told a.spec h.0 (Ok s) h.1 spec) h.2) in
      let asks = asks_one s.relations found.0 bound found.1.bound in (
        asks.0,
        subst (λ (r : Result QueryTree ℕ). MatchResult r (λ query. job s (asked.Answers bound) query got)
            (λ line. got ≡ Err (no_query a.question line))) asks.1 found.2,
      )

  -- ---- a question that asks a query is bound to one

  bound_to : (relations : List Relation) (query : QueryTree) (q : Question) (found : Result Query BindFault)
      → ◌≡◌ {A = Result Question BindFault} (Ok q) (and_then found (λ x. Ok (asked.Answers x)))
      → (bound : Query) × (q ≡ asked.Answers bound)
  bound_to relations query q (Ok bound) is = (bound, cc)
  bound_to relations query q (Err fault) is = cc

  is_answers_at : (relations : List Relation) (t : QuestionTree) (q : Question) (query : QueryTree)
      → IsQuestionBound told relations t (Ok q) → query_asked t ≡ Ok query → (bound : Query) × (q ≡ asked.Answers bound)
  is_answers_at relations (tree.Answers x) q query is e =
      bound_to relations query q (queried_on (map (λ r. r.name) relations) relations x) is
  is_answers_at relations (tree.Consistent line) q query is e = cc
  is_answers_at relations (tree.Certain line trees) q query is e = cc
  is_answers_at relations (tree.Same line names) q query is e = cc

  pub is_answers : (s : Spec) (q : Question) (query : QueryTree) → IsQueryRead told a s q query
      → (bound : Query) × (q ≡ asked.Answers bound)
  is_answers s q query h = is_answers_at s.relations h.tree q query h.is_tree.bound h.is_query

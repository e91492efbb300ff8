-- What is read on the way to the query.
use Rattle.std.proofs.Common.{◌≡◌, ℕ, List, Option, None, Some, IfSome, Ok, Err, inl, inr, subst, sym}
use Rattle.command_stages.specs.Named.{IsDeterminedTrouble}
use Rattle.command_stages.specs.Stages.{IsQuestionRead, IsSpecRead}
use Rattle.command_stages.specs.Trees.{IsQuestionTreeOf}
use Rattle.command_stages.specs.declared.trouble.Trouble.{Trouble}
use Rattle.program_words.specs.Words.{TableSaid}
use Rattle.query_syntax.specs.declared.trees.QueryTree.{QueryTree}
use Rattle.question_bind.specs.Bound.{AskAlike, AsksQuery}
use Rattle.question_syntax.specs.declared.trees.QuestionTree.{QuestionTree}
use Rattle.question_syntax.specs.declared.trees.QuestionTree.TheVariants as tree
use Rattle.spec_model.specs.Spec.{Spec}
use Rattle.spec_model.specs.declared.question.Question.{Question}
use Rattle.answer_tables.specs.Asked.{AreParts, AsksNothing, IsQueryRead, IsTrouble, query_asked}

module _ (texts : Option (List (List ℕ × List ℕ))) (a : TableSaid) where
  -- the specification is refused
  pub spec_refused : (e : Trouble) → (IsDeterminedTrouble e → IfSome texts (λ told. IsSpecRead told a.spec (Err e))) → IsDeterminedTrouble e
      → IfSome texts (λ told. IsTrouble told a e)
  spec_refused e stage determined = by texts (stage determined)
    where
      by : (t : Option (List (List ℕ × List ℕ))) → IfSome t (λ told. IsSpecRead told a.spec (Err e))
          → IfSome t (λ told. IsTrouble told a e)
      by None h = tt
      by (Some told) h = inl h

  -- the question is refused
  pub question_refused : (s : Spec) (e : Trouble) → IfSome texts (λ told. IsSpecRead told a.spec (Ok s))
      → (IsDeterminedTrouble e → IfSome texts (λ told. IsQuestionRead told s.relations a.question (Err e))) → IsDeterminedTrouble e
      → IfSome texts (λ told. IsTrouble told a e)
  question_refused s e spec stage determined = by texts spec (stage determined)
    where
      by : (t : Option (List (List ℕ × List ℕ))) → IfSome t (λ told. IsSpecRead told a.spec (Ok s))
          → IfSome t (λ told. IsQuestionRead told s.relations a.question (Err e)) → IfSome t (λ told. IsTrouble told a e)
      by None h k = tt
      by (Some told) h k = inr (s, h, inl k)

  -- it asks no query
  pub none_asked : (s : Spec) (q : Question) (t : QuestionTree) (e : Trouble)
      → IfSome texts (λ told. IsSpecRead told a.spec (Ok s))
      → IfSome texts (λ told. IsQuestionRead told s.relations a.question (Ok q))
      → IfSome texts (λ told. IsQuestionTreeOf told s.relations a.question t q)
      → (IsDeterminedTrouble e → AsksNothing t a.question e) → IsDeterminedTrouble e → IfSome texts (λ told. IsTrouble told a e)
  none_asked s q t e spec question is_tree none determined = by texts spec question is_tree (none determined)
    where
      by : (o : Option (List (List ℕ × List ℕ))) → IfSome o (λ told. IsSpecRead told a.spec (Ok s))
          → IfSome o (λ told. IsQuestionRead told s.relations a.question (Ok q))
          → IfSome o (λ told. IsQuestionTreeOf told s.relations a.question t q) → AsksNothing t a.question e
          → IfSome o (λ told. IsTrouble told a e)
      by None h k l n = tt
      by (Some told) h k l n =
          inr (s, h, inr (record { question = q; question_read = k; tree = t; is_tree = l; nothing = n }))

  -- it asks one
  pub query_read : (s : Spec) (q : Question) (t : QuestionTree) (own : Spec) (question : Question) (query : QueryTree)
      → IfSome texts (λ told. IsSpecRead told a.spec (Ok s))
      → IfSome texts (λ told. IsQuestionRead told s.relations a.question (Ok q))
      → IfSome texts (λ told. IsQuestionTreeOf told s.relations a.question t q) → AreParts s t q own question query
      → IfSome texts (λ told. IsQueryRead told a own question query)
  query_read s q t own question query spec asked is_tree parts =
      subst (λ (x : Spec). IfSome texts (λ told. IsQueryRead told a x question query)) (sym parts.same_spec)
      (subst (λ (x : Question). IfSome texts (λ told. IsQueryRead told a s x query)) (sym parts.same_question)
      (by texts spec asked is_tree))
    where
      by : (o : Option (List (List ℕ × List ℕ))) → IfSome o (λ told. IsSpecRead told a.spec (Ok s))
          → IfSome o (λ told. IsQuestionRead told s.relations a.question (Ok q))
          → IfSome o (λ told. IsQuestionTreeOf told s.relations a.question t q)
          → IfSome o (λ told. IsQueryRead told a s q query)
      by None h k l = tt
      by (Some told) h k l =
          record { spec_read = h; question_read = k; tree = t; is_tree = l; is_query = parts.is_query }

-- a question whose tree asks a query asks one
pub asks_query : (t : QuestionTree) (q : Question) (query : QueryTree) → AskAlike t q → query_asked t ≡ Ok query → AsksQuery q
asks_query (tree.Answers x) q query alike is = alike
asks_query (tree.Consistent line) q query alike is = absurd (cc)
asks_query (tree.Certain line asked) q query alike is = absurd (cc)
asks_query (tree.Same line relations) q query alike is = absurd (cc)

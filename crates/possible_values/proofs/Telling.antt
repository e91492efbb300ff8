-- What reports make known.
use Rattle.std.proofs.Common.{◌≡◌, ◌∙◌, ◌⊎◌, inl, inr, ℕ, None, sym}
use Rattle.std.proofs.lemmas.Option.{none-some}
use Rattle.decided_facts.specs.Decided.{HasTooMany}
use Rattle.report_verify.specs.Asked.{query_of}
use Rattle.spec_model.specs.Completion.{Rankings}
use Rattle.spec_model.specs.Spec.{Spec}
use Rattle.spec_model.specs.declared.question.Question.{Question}
use Rattle.spec_model.specs.declared.question.Question.TheVariants as asked
use Rattle.possible_values.specs.Steps.{IsKnown}
use Rattle.possible_values.specs.declared.known.Known.{Known}
use Rattle.possible_values.specs.declared.known.Known.TheVariants as known

-- that there is no consistent completion is so for each question
pub known_too : (s : Spec) (q : Question) (budget : ℕ) (k : Known) → IsKnown s asked.Consistent budget k → IsKnown s q budget k
known_too s q budget (known.Inconsistent report) is = record {
  verdict_is = is.verdict_is;
  shows = inr (either is.shows);
  none = is.none;
  writable = is.writable;
}
  where
    either : {A : Type 0} → A ⊎ A → A
    either (inl x) = x
    either (inr x) = x
known_too s q budget (known.Completions list) is = is
known_too s q budget (known.Open report) is = is

-- a question that asks for no answers has never too many
pub no_answers : (s : Spec) (q : Question) (c : Rankings) → query_of q ≡ None → HasTooMany s q c → ⊥
no_answers s q c none many = none-some many.query (sym none ∙ many.is_query)

-- What explains the fact of the question for a unit explains the unit.
use Rattle.std.proofs.Common.{◌≡◌, ◌↔◌, ℕ, List, Option, None, Some, option_map, slice_get, inl, inr, refl, subst, sym}
use Rattle.std.proofs.lemmas.List.Elements.{All-weaker}
use Rattle.std.proofs.lemmas.Option.{none-some, same_Some}
use Rattle.report_model.specs.declared.verdict.Verdict.{Verdict}
use Rattle.report_verify.specs.Right.{EachConsistent, IsRight}
use Rattle.report_verify.specs.Supported.{IsOneOf, Need, needs_of}
use Rattle.search_logs.specs.SearchLogs.{IsWithin}
use Rattle.spec_items.specs.Kept.{Keeps, kept}
use Rattle.spec_model.specs.Completion.{Rankings, IsCompletion}
use Rattle.spec_model.specs.Consistent.{IsConsistent, IsSatisfiable}
use Rattle.spec_model.specs.Questions.{IsQuestionOn}
use Rattle.spec_model.specs.Spec.{Spec}
use Rattle.spec_model.specs.declared.question.Question.{Question}
use Rattle.spec_model.specs.declared.question.Question.TheVariants as asked
use Rattle.unit_questions.specs.Claims.{ClaimHolds}
use Rattle.unit_questions.specs.Facts.{FactHolds}
use Rattle.unit_questions.specs.Laws.{ClaimsAreAsked}
use Rattle.unit_questions.specs.Units.{question_of}
use Rattle.minimal_items.specs.Among.{among, among_but}
use Rattle.minimal_items.specs.Explanations.{IsExplanation, IsNeeded, needed_items}
use Rattle.minimal_items.specs.declared.needed.Needed.{Needed}
use Rattle.minimal_items.specs.declared.reducing.Spent.{Spent}
use Rattle.core_explain.specs.Explained.{ExplainsInconsistency, ExplainsUnit, IsSpentTrying}
use Rattle.near_items.specs.Sought.{IsSought}
use Rattle.near_items.specs.declared.seeking.Sought.{Sought}
use Rattle.near_items.specs.declared.seeking.Sought.TheVariants as sought
use Rattle.core_explain.specs.Steps.{IsForUnit}
use Rattle.core_explain.proofs.Claims.{claims_hold}
use Rattle.core_explain.proofs.Completions.{completion_whole}

-- ---- the question for a unit

of_option : {A B : Type 0} (f : A → B) (o : Option A) (y : B) → option_map f o ≡ Some y → (x : A) × (o ≡ Some x) × (f x ≡ y)
of_option f None y e = absurd (none-some y e)
of_option f (Some x) y e = (x, refl, same_Some (f x) y e)

pub for_unit : (s : Spec) (q : Question) (unit : ℕ) (v : Verdict) → IsOneOf s q v → IsRight s q v → (asks : Question)
    → option_map (λ need. question_of s.relations q need.claim) (slice_get (needs_of q v) unit) ≡ Some asks
    → IsForUnit s q unit asks
for_unit s q unit v of_question right asks is =
    let of = of_option (λ (need : Need). question_of s.relations q need.claim) (slice_get (needs_of q v) unit) asks is in
    let both = claims_hold s q v right unit of.0 of.1 in
    record {
      satisfiable = both.0;
      need = of.0;
      is_unit = record { verdict = v; is_verdict = record { of_question = of_question; right = right }; is_unit = of.1 };
      is_asked = sym of.2;
      holds = both.1;
    }

pub no_unit : {A B : Type 0} (f : A → B) (o : Option A) → option_map f o ≡ None → o ≡ None
no_unit f None e = refl
no_unit f (Some x) e = absurd (none-some (f x) (sym e))

-- ---- its fact is the unit

module _ (law : ClaimsAreAsked) (s : Spec) (within : IsWithin s) (q : Question) (on : IsQuestionOn s.relations q) (unit : ℕ)
    (asks : Question) (of : IsForUnit s q unit asks) where
  asked_as : (c : Rankings) → IsCompletion s.relations c
      → FactHolds s.relations asks c ↔ ClaimHolds s.relations q of.need.claim c
  asked_as c completion =
      subst (λ (x : Question). FactHolds s.relations x c ↔ ClaimHolds s.relations q of.need.claim c) (sym of.is_asked)
      (law s.relations q of.need.claim within.specification.relations on
      (record {
        completion = of.satisfiable.0;
        is_completion = of.satisfiable.1.completion;
        holds = of.holds of.satisfiable.0 of.satisfiable.1;
      })
      c completion)

  pub fact_holds : EachConsistent s (FactHolds s.relations asks)
  fact_holds c is = (asked_as c is.completion).1 (of.holds c is)

  asked_kept : (keeps : Keeps) (c : Rankings) → IsConsistent (kept keeps s) c
      → FactHolds s.relations asks c ↔ ClaimHolds s.relations q of.need.claim c
  asked_kept keeps c is = asked_as c (completion_whole keeps s.relations c is.completion)

  explained : (needed : List Needed) → IsExplanation s (FactHolds s.relations asks) needed → ExplainsUnit s q unit needed
  explained needed is =
      let claim : Rankings → Type 0 = ClaimHolds s.relations q of.need.claim in
      let items = needed_items needed in
      record {
        satisfiable = of.satisfiable;
        need = of.need;
        is_unit = of.is_unit;
        explains = record {
          in_order = is.in_order;
          sufficient = λ c consistent. (asked_kept (among items) c consistent).0 (is.sufficient c consistent);
          each_needed = All-weaker (IsNeeded s (FactHolds s.relations asks) items) (IsNeeded s claim items)
              (λ (n : Needed) one. record {
                consistent = one.consistent;
                fails = λ holds. one.fails ((asked_kept (among_but n.item items) n.without one.consistent).1 holds);
              })
              needed is.each_needed;
        };
      }

  pub unit_explained : (budget : ℕ) (told : Sought) (needed : List Needed) → told ≡ sought.Needs needed
      → IsSought s asks budget told → ExplainsUnit s q unit needed
  unit_explained budget told needed as_told is = explained needed (subst (IsSought s asks budget) as_told is)

  pub unit_spent : (budget : ℕ) (told : Sought) (spent : Spent) → told ≡ sought.Open spent → IsSought s asks budget told
      → IsSpentTrying s q unit budget spent
  unit_spent budget told spent as_told is = record {
    tried = asks;
    is_tried = inr (of.need, of.is_unit, of.is_asked);
    is_spent = subst (IsSought s asks budget) as_told is;
  }

-- ---- where there is no consistent completion

module _ (s : Spec) (none : IsSatisfiable s → ⊥) (budget : ℕ) (told : Sought) where
  pub none_explained : (needed : List Needed) → told ≡ sought.Needs needed → IsSought s asked.Consistent budget told
      → ExplainsInconsistency s needed
  none_explained needed as_told is =
      let of : IsExplanation s (FactHolds s.relations asked.Consistent) needed =
      subst (IsSought s asked.Consistent budget) as_told is in
      record {
        inconsistent = none;
        explains = record {
          in_order = of.in_order;
          sufficient = λ c consistent. of.sufficient c consistent;
          each_needed = All-weaker (IsNeeded s (FactHolds s.relations asked.Consistent) (needed_items needed))
              (IsNeeded s (λ c. ⊥) (needed_items needed))
              (λ (n : Needed) one. record { consistent = one.consistent; fails = λ holds. holds })
              needed of.each_needed;
        };
      }

  pub none_spent : (q : Question) (unit : ℕ) (spent : Spent) → told ≡ sought.Open spent
      → IsSought s asked.Consistent budget told → IsSpentTrying s q unit budget spent
  none_spent q unit spent as_told is = record {
    tried = asked.Consistent;
    is_tried = inl refl;
    is_spent = subst (IsSought s asked.Consistent budget) as_told is;
  }

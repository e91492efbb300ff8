-- The first bad completion, and the first claim without a unit: there is at most one of each.
use Rattle.std.proofs.Common.{◌≡◌, inl, inr, ◌∙◌, ◌<◌, ℕ, zero, suc, List, [], ◌∷◌, All, Option, Some, slice_get, take, sym, ap, subst, arith}
use Rattle.std.proofs.lemmas.Bool.{cases_order}
use Rattle.std.proofs.lemmas.Option.{same_Some, none-some}
use Rattle.axiom_laws.proofs.Standing.{all_at}
use Rattle.log_checker.specs.Accepted.{IsAccepted, IsFirstFault}
use Rattle.log_checker.specs.declared.fault.LogFault.{LogFault}
use Rattle.query_model.specs.declared.query.Query.{Query}
use Rattle.refutation_log.specs.declared.log.Log.{Log}
use Rattle.report_model.specs.declared.report.Part.{Part}
use Rattle.report_model.specs.declared.report.Report.{Report}
use Rattle.report_verify.specs.Shown.{IsFirstBad, IsFirstUnderived}
use Rattle.report_verify.specs.Supported.{IsDerived, Need, needs_of}
use Rattle.spec_model.specs.Completion.{Rankings}
use Rattle.spec_model.specs.Consistent.{IsConsistent}
use Rattle.spec_model.specs.FirstFlaw.{IsFirstFlaw}
use Rattle.spec_model.specs.Spec.{Spec}
use Rattle.spec_model.specs.declared.flaw.Flaw.{Flaw}
use Rattle.spec_model.specs.declared.question.Question.{Question}

-- what becomes of a completion and of a log is determined
pub record CheckLaws : Type 0 where
  pub rules_out : (s : Spec) (c : Rankings) (flaw : Flaw) → IsFirstFlaw s c flaw → IsConsistent s c → ⊥
  pub one_flaw : (s : Spec) (c : Rankings) (flaw other : Flaw) → IsFirstFlaw s c flaw → IsFirstFlaw s c other → flaw ≡ other
  pub no_fault : (s : Spec) (query : Option Query) (log : Log) (fault : LogFault) → IsAccepted s query log
      → IsFirstFault s query log fault → ⊥
  pub one_fault : (s : Spec) (query : Option Query) (log : Log) (one other : LogFault) → IsFirstFault s query log one
      → IsFirstFault s query log other → one ≡ other

-- what stands at a place of all stands there in the first ones, if they are more
within_front : {A : Type 0} (xs : List A) (k i : ℕ) (x : A) → i < k → slice_get xs i ≡ Some x → slice_get (take k xs) i ≡ Some x
within_front [] k i x below at = absurd (none-some x at)
within_front (y ∷ xs) zero i x below at = absurd (omega arith)
within_front (y ∷ xs) (suc k) zero x below at = at
within_front (y ∷ xs) (suc k) (suc i) x below at = within_front xs k i x (omega arith) at

-- ---- completions

-- where each completion is consistent, none is bad
pub none_bad : CheckLaws → (s : Spec) (cs : List Rankings) (i : ℕ) (flaw : Flaw) → IsFirstBad s cs i flaw
    → All (IsConsistent s) cs → ⊥
none_bad laws s cs i flaw first all =
    laws.rules_out s first.rankings flaw first.flawed (all_at (IsConsistent s) cs i first.rankings all first.listed)

-- the completions before the first bad one are not bad
not_bad_before : CheckLaws → (s : Spec) (cs : List Rankings) (i j : ℕ) (flaw other : Flaw)
    → IsFirstBad s cs i flaw → IsFirstBad s cs j other → i < j → ⊥
not_bad_before laws s cs i j flaw other first second below =
    let there = within_front cs j i first.rankings below first.listed in
    laws.rules_out s first.rankings flaw first.flawed (all_at (IsConsistent s) (take j cs) i first.rankings second.before there)

pub one_bad : CheckLaws → (s : Spec) (cs : List Rankings) (i j : ℕ) (flaw other : Flaw)
    → IsFirstBad s cs i flaw → IsFirstBad s cs j other → (i ≡ j) × (flaw ≡ other)
one_bad laws s cs i j flaw other first second =
    elim (cases_order i j) [
      | inl same ↦
          let listed : slice_get cs j ≡ Some first.rankings = subst (λ n. slice_get cs n ≡ Some first.rankings) same
          first.listed in
          let one : second.rankings ≡ first.rankings = same_Some second.rankings first.rankings (sym second.listed ∙ listed) in
          let flawed = subst (λ (c : Rankings). IsFirstFlaw s c other) one second.flawed in
          (same, laws.one_flaw s first.rankings flaw other first.flawed flawed)
      | inr (inl below) ↦ absurd (not_bad_before laws s cs i j flaw other first second below)
      | inr (inr above) ↦ absurd (not_bad_before laws s cs j i other flaw second first above)
    ]

-- ---- claims

module _ (s : Spec) (question : Question) (report : Report) where
  abbrev needs : List Need
  needs = needs_of question report.verdict

  not_underived_before : (p q : Part) (i j : ℕ) → IsFirstUnderived s question report p i → IsFirstUnderived s
      question report q j → i < j → ⊥
  not_underived_before p q i j first second below =
      let there = within_front needs j i first.need below first.claimed in
      first.underived (all_at (IsDerived s.relations report.log) (take j needs) i first.need second.before there)

  pub one_underived : (p q : Part) (i j : ℕ) → IsFirstUnderived s question report p i → IsFirstUnderived s question report q j
      → (p ≡ q) × (i ≡ j)
  one_underived p q i j first second =
      elim (cases_order i j) [
        | inl same ↦
            let claimed : slice_get needs j ≡ Some first.need = subst (λ n. slice_get needs n ≡ Some first.need) same
            first.claimed in
            let one : first.need ≡ second.need = same_Some first.need second.need (sym claimed ∙ second.claimed) in
            (sym first.of_part ∙ ap (λ (n : Need). n.part) one ∙ second.of_part, same)
        | inr (inl below) ↦ absurd (not_underived_before p q i j first second below)
        | inr (inr above) ↦ absurd (not_underived_before q p j i second first above)
      ]

-- A report has one first check that fails, and one that fails a check does not show its verdict.
use Rattle.std.proofs.Common.{◌≡◌, ◌⊎◌, inl, inr, ◌∙◌, ℕ, All, Some, None, refl, sym, ap}
use Rattle.std.proofs.lemmas.Option.{same_Some, none-some}
use Rattle.log_checker.specs.declared.fault.LogFault.{LogFault}
use Rattle.report_model.specs.declared.report.Part.{Part}
use Rattle.report_model.specs.declared.report.Part.TheVariants as part
use Rattle.report_model.specs.declared.report.Report.{Report}
use Rattle.axiom_laws.proofs.Standing.{all_at}
use Rattle.report_verify.specs.Asked.{query_of}
use Rattle.report_verify.specs.Shown.{ShowsVerdict, IsSound, IsBadCompletion, IsBadLog, IsFirstUnderived, IsFirstUnshown, step_of_fault}
use Rattle.report_verify.specs.Supported.{IsDerived, IsOneOf, IsSupported, needs_of}
use Rattle.report_verify.specs.declared.fault.Missing.{Missing}
use Rattle.report_verify.specs.declared.fault.Missing.TheVariants.{Shape, NoEmptyClause, NoCompletion, NoUnit, NotBroken, NotDifferent, NotCommon, WrongCount}
use Rattle.report_verify.specs.declared.fault.Unshown.{Unshown}
use Rattle.report_verify.specs.declared.fault.Unshown.TheVariants.{BadCompletion, BadLog, NotShown}
use Rattle.report_verify.proofs.Firsts.{CheckLaws, none_bad, one_bad, one_underived}
use Rattle.report_verify.proofs.Lacks.{IsDue, due, no_empty_clause, no_completion, no_unit, not_broken, not_common, not_different, wrong_count}
use Rattle.spec_model.specs.Consistent.{IsConsistent}
use Rattle.spec_model.specs.Spec.{Spec}
use Rattle.spec_model.specs.declared.flaw.Flaw.{Flaw}
use Rattle.spec_model.specs.declared.question.Question.{Question}

module _ (s : Spec) (q : Question) (r : Report) where
  -- ---- what fails first, stage by stage

  -- the verdict's shape
  record FailsShape (p : Part) (why : Unshown) : Type 0 where
    part_is : p ≡ part.Verdict
    why_is : why ≡ NotShown Shape
    not_one : IsOneOf s q r.verdict → ⊥

  -- a completion
  record FailsCompletion (p : Part) (why : Unshown) : Type 0 where
    place : ℕ
    flaw : Flaw
    part_is : p ≡ part.Completion place
    why_is : why ≡ BadCompletion flaw
    bad : IsBadCompletion s q r place flaw

  -- the log
  record FailsLog (p : Part) (why : Unshown) : Type 0 where
    step : ℕ
    fault : LogFault
    part_is : p ≡ part.Step step
    why_is : why ≡ BadLog fault
    bad : IsBadLog s q r step fault

  -- what the verdict asks for, other than a unit
  record FailsPlainly (p : Part) (why : Unshown) : Type 0 where
    missing : Missing
    part_is : p ≡ part.Verdict
    why_is : why ≡ NotShown missing
    sound : IsSound s q r
    is_due : IsDue s q r.log r.verdict r.completions (Some missing)

  -- a unit
  record FailsUnit (p : Part) (why : Unshown) : Type 0 where
    place : ℕ
    why_is : why ≡ NotShown (NoUnit place)
    sound : IsSound s q r
    first : IsFirstUnderived s q r p place
    is_due : IsDue s q r.log r.verdict r.completions None

  -- that the answers are common
  record FailsCommon (p : Part) (why : Unshown) : Type 0 where
    part_is : p ≡ part.Verdict
    why_is : why ≡ NotShown NotCommon
    sound : IsSound s q r
    derived : All (IsDerived s.relations r.log) (needs_of q r.verdict)
    is_due : IsDue s q r.log r.verdict r.completions None

  abbrev FailsLast : Part → Unshown → Type 0
  FailsLast p why = FailsUnit p why ⊎ FailsCommon p why

  abbrev FailsClaim : Part → Unshown → Type 0
  FailsClaim p why = FailsPlainly p why ⊎ FailsLast p why

  abbrev FailsLate : Part → Unshown → Type 0
  FailsLate p why = FailsLog p why ⊎ FailsClaim p why

  abbrev FailsLater : Part → Unshown → Type 0
  FailsLater p why = FailsCompletion p why ⊎ FailsLate p why

  abbrev Fails : Part → Unshown → Type 0
  Fails p why = FailsShape p why ⊎ FailsLater p why

  plainly : (missing : Missing) → IsSound s q r → IsDue s q r.log r.verdict r.completions (Some missing)
      → Fails part.Verdict (NotShown missing)
  plainly missing sound is_due =
      inr (inr (inr (inl record { missing = missing; part_is = refl; why_is = refl; sound = sound; is_due = is_due })))

  by_unit : (p : Part) (place : ℕ) → IsSound s q r → IsFirstUnderived s q r p place
      → IsDue s q r.log r.verdict r.completions None → Fails p (NotShown (NoUnit place))
  by_unit p place sound first is_due =
      inr (inr (inr (inr (inl record { place = place; why_is = refl; sound = sound; first = first; is_due = is_due }))))

  fails : (p : Part) (why : Unshown) → IsFirstUnshown s q r p why → Fails p why
  fails part.Verdict (NotShown Shape) f = inl record { part_is = refl; why_is = refl; not_one = f }
  fails part.Verdict (NotShown NoEmptyClause) f = plainly NoEmptyClause f.0
      (no_empty_clause s q r.log r.verdict r.completions f.1 f.2)
  fails part.Verdict (NotShown NoCompletion) f = plainly NoCompletion f.0
      (no_completion s q r.log r.verdict r.completions f.1 f.2)
  fails part.Verdict (NotShown (NoUnit place)) f =
      by_unit part.Verdict place f.0 f.2
      (no_unit s q r.log r.verdict r.completions place f.2.need f.1 f.2.claimed f.2.underived)
  fails part.Verdict (NotShown NotBroken) f = plainly NotBroken f.0 (not_broken s q r.log r.verdict r.completions f.1 f.2)
  fails part.Verdict (NotShown NotDifferent) f = plainly NotDifferent f.0
      (not_different s q r.log r.verdict r.completions f.1 f.2)
  fails part.Verdict (NotShown NotCommon) f =
      inr (inr (inr (inr (inr record {
        part_is = refl;
        why_is = refl;
        sound = f.0;
        derived = f.2;
        is_due = not_common s q r.log r.verdict r.completions f.1 f.3;
      }))))
  fails part.Verdict (NotShown WrongCount) f = plainly WrongCount f.0 (wrong_count s q r.log r.verdict r.completions f.1)
  fails part.Verdict (BadCompletion flaw) f = absurd f
  fails part.Verdict (BadLog fault) f = absurd f
  fails (part.Item at) (NotShown Shape) f = absurd f
  fails (part.Item at) (NotShown NoEmptyClause) f = absurd f
  fails (part.Item at) (NotShown NoCompletion) f = absurd f
  fails (part.Item at) (NotShown (NoUnit place)) f =
      by_unit (part.Item at) place f.0 f.2
      (no_unit s q r.log r.verdict r.completions place f.2.need f.1 f.2.claimed f.2.underived)
  fails (part.Item at) (NotShown NotBroken) f = absurd f
  fails (part.Item at) (NotShown NotDifferent) f = absurd f
  fails (part.Item at) (NotShown NotCommon) f = absurd f
  fails (part.Item at) (NotShown WrongCount) f = absurd f
  fails (part.Item at) (BadCompletion flaw) f = absurd f
  fails (part.Item at) (BadLog fault) f = absurd f
  fails (part.Completion at) (NotShown Shape) f = absurd f
  fails (part.Completion at) (NotShown NoEmptyClause) f = absurd f
  fails (part.Completion at) (NotShown NoCompletion) f = absurd f
  fails (part.Completion at) (NotShown (NoUnit place)) f =
      by_unit (part.Completion at) place f.0 f.2
      (no_unit s q r.log r.verdict r.completions place f.2.need f.1 f.2.claimed f.2.underived)
  fails (part.Completion at) (NotShown NotBroken) f = absurd f
  fails (part.Completion at) (NotShown NotDifferent) f = absurd f
  fails (part.Completion at) (NotShown NotCommon) f = absurd f
  fails (part.Completion at) (NotShown WrongCount) f = absurd f
  fails (part.Completion at) (BadCompletion flaw) f =
      inr (inl record { place = at; flaw = flaw; part_is = refl; why_is = refl; bad = f })
  fails (part.Completion at) (BadLog fault) f = absurd f
  fails (part.Step at) (NotShown Shape) f = absurd f
  fails (part.Step at) (NotShown NoEmptyClause) f = absurd f
  fails (part.Step at) (NotShown NoCompletion) f = absurd f
  fails (part.Step at) (NotShown (NoUnit place)) f =
      by_unit (part.Step at) place f.0 f.2
      (no_unit s q r.log r.verdict r.completions place f.2.need f.1 f.2.claimed f.2.underived)
  fails (part.Step at) (NotShown NotBroken) f = absurd f
  fails (part.Step at) (NotShown NotDifferent) f = absurd f
  fails (part.Step at) (NotShown NotCommon) f = absurd f
  fails (part.Step at) (NotShown WrongCount) f = absurd f
  fails (part.Step at) (BadCompletion flaw) f = absurd f
  fails (part.Step at) (BadLog fault) f =
      inr (inr (inl record { step = at; fault = fault; part_is = refl; why_is = refl; bad = f }))

  -- ---- what a stage says of those before it

  one_of_later : (p : Part) (why : Unshown) → FailsLater p why → IsOneOf s q r.verdict
  one_of_later p why (inl f) = f.bad.one_of
  one_of_later p why (inr (inl f)) = f.bad.one_of
  one_of_later p why (inr (inr (inl f))) = f.sound.one_of
  one_of_later p why (inr (inr (inr (inl f)))) = f.sound.one_of
  one_of_later p why (inr (inr (inr (inr f)))) = f.sound.one_of

  consistent_of_late : (p : Part) (why : Unshown) → FailsLate p why → All (IsConsistent s) r.completions
  consistent_of_late p why (inl f) = f.bad.consistent
  consistent_of_late p why (inr (inl f)) = f.sound.consistent
  consistent_of_late p why (inr (inr (inl f))) = f.sound.consistent
  consistent_of_late p why (inr (inr (inr f))) = f.sound.consistent

  sound_of_claim : (p : Part) (why : Unshown) → FailsClaim p why → IsSound s q r
  sound_of_claim p why (inl f) = f.sound
  sound_of_claim p why (inr (inl f)) = f.sound
  sound_of_claim p why (inr (inr f)) = f.sound

  unsupported_of : (p : Part) (why : Unshown) → FailsClaim p why → IsSupported s q r.verdict r.completions r.log → ⊥
  unsupported_of p why (inl f) = f.is_due.unsupported
  unsupported_of p why (inr (inl f)) = f.is_due.unsupported
  unsupported_of p why (inr (inr f)) = f.is_due.unsupported

  nothing_due : (p : Part) (why : Unshown) → FailsLast p why → due r.verdict r.completions ≡ None
  nothing_due p why (inl f) = f.is_due.is
  nothing_due p why (inr f) = f.is_due.is

  -- where each claim is derived, none is the first that is not
  all_derived : (p p' : Part) (why why' : Unshown) → FailsUnit p why → FailsCommon p' why' → ⊥
  all_derived p p' why why' f g =
      f.first.underived (all_at (IsDerived s.relations r.log) (needs_of q r.verdict) f.place f.first.need g.derived
      f.first.claimed)

  -- ---- the laws

  module _ (laws : CheckLaws) where
    not_shown_by : (p : Part) (why : Unshown) → Fails p why → ShowsVerdict s q r → ⊥
    not_shown_by p why (inl f) shown = f.not_one shown.sound.one_of
    not_shown_by p why (inr (inl f)) shown = none_bad laws s r.completions f.place f.flaw f.bad.first shown.sound.consistent
    not_shown_by p why (inr (inr (inl f))) shown = laws.no_fault s (query_of q) r.log f.fault shown.sound.accepted f.bad.first
    not_shown_by p why (inr (inr (inr f))) shown = unsupported_of p why f shown.supported

    pub not_shown : (p : Part) (why : Unshown) → IsFirstUnshown s q r p why → ShowsVerdict s q r → ⊥
    not_shown p why first = not_shown_by p why (fails p why first)

    -- one part and one reason
    abbrev Same : Part → Part → Unshown → Unshown → Type 0
    Same p p' why why' = (p ≡ p') × (why ≡ why')

    same_last : (p p' : Part) (why why' : Unshown) → FailsLast p why → FailsLast p' why' → Same p p' why why'
    same_last p p' why why' (inl f) (inl g) =
        let one = one_underived s q r p p' f.place g.place f.first g.first in
        (one.0, f.why_is ∙ ap (λ n. NotShown (NoUnit n)) one.1 ∙ sym g.why_is)
    same_last p p' why why' (inl f) (inr g) = absurd (all_derived p p' why why' f g)
    same_last p p' why why' (inr f) (inl g) = absurd (all_derived p' p why' why g f)
    same_last p p' why why' (inr f) (inr g) = (f.part_is ∙ sym g.part_is, f.why_is ∙ sym g.why_is)

    same_claim : (p p' : Part) (why why' : Unshown) → FailsClaim p why → FailsClaim p' why' → Same p p' why why'
    same_claim p p' why why' (inl f) (inl g) =
        let one : f.missing ≡ g.missing = same_Some f.missing g.missing (sym f.is_due.is ∙ g.is_due.is) in
        (f.part_is ∙ sym g.part_is, f.why_is ∙ ap NotShown one ∙ sym g.why_is)
    same_claim p p' why why' (inl f) (inr g) = absurd (none-some f.missing (sym (nothing_due p' why' g) ∙ f.is_due.is))
    same_claim p p' why why' (inr f) (inl g) = absurd (none-some g.missing (sym (nothing_due p why f) ∙ g.is_due.is))
    same_claim p p' why why' (inr f) (inr g) = same_last p p' why why' f g

    same_late : (p p' : Part) (why why' : Unshown) → FailsLate p why → FailsLate p' why' → Same p p' why why'
    same_late p p' why why' (inl f) (inl g) =
        let one = laws.one_fault s (query_of q) r.log f.fault g.fault f.bad.first g.bad.first in
        let step : f.step ≡ g.step = same_Some f.step g.step (sym f.bad.at_step ∙ ap step_of_fault one ∙ g.bad.at_step) in
        (f.part_is ∙ ap part.Step step ∙ sym g.part_is, f.why_is ∙ ap BadLog one ∙ sym g.why_is)
    same_late p p' why why' (inl f) (inr g) =
        absurd (laws.no_fault s (query_of q) r.log f.fault (sound_of_claim p' why' g).accepted f.bad.first)
    same_late p p' why why' (inr f) (inl g) =
        absurd (laws.no_fault s (query_of q) r.log g.fault (sound_of_claim p why f).accepted g.bad.first)
    same_late p p' why why' (inr f) (inr g) = same_claim p p' why why' f g

    same_later : (p p' : Part) (why why' : Unshown) → FailsLater p why → FailsLater p' why' → Same p p' why why'
    same_later p p' why why' (inl f) (inl g) =
        let one = one_bad laws s r.completions f.place g.place f.flaw g.flaw f.bad.first g.bad.first in
        (f.part_is ∙ ap part.Completion one.0 ∙ sym g.part_is, f.why_is ∙ ap BadCompletion one.1 ∙ sym g.why_is)
    same_later p p' why why' (inl f) (inr g) =
        absurd (none_bad laws s r.completions f.place f.flaw f.bad.first (consistent_of_late p' why' g))
    same_later p p' why why' (inr f) (inl g) =
        absurd (none_bad laws s r.completions g.place g.flaw g.bad.first (consistent_of_late p why f))
    same_later p p' why why' (inr f) (inr g) = same_late p p' why why' f g

    same_fail : (p p' : Part) (why why' : Unshown) → Fails p why → Fails p' why' → Same p p' why why'
    same_fail p p' why why' (inl f) (inl g) = (f.part_is ∙ sym g.part_is, f.why_is ∙ sym g.why_is)
    same_fail p p' why why' (inl f) (inr g) = absurd (f.not_one (one_of_later p' why' g))
    same_fail p p' why why' (inr f) (inl g) = absurd (g.not_one (one_of_later p why f))
    same_fail p p' why why' (inr f) (inr g) = same_later p p' why why' f g

    pub one_unshown : (p p' : Part) (why why' : Unshown) → IsFirstUnshown s q r p why → IsFirstUnshown s q r p' why'
        → Same p p' why why'
    one_unshown p p' why why' first second = same_fail p p' why why' (fails p why first) (fails p' why' second)

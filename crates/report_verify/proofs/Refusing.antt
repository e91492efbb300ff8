-- What is unmet is refused.
use Rattle.std.proofs.Common.{◌≡◌, ◌≢◌, ◌+◌, ℕ, List, [], All, Some, Result, Ok, Err, OnOk, IfErr, slice_get, refl, subst, arith}
use Rattle.currency_base.specs.declared.value.Value.{Value}
use Rattle.refutation_log.specs.declared.log.Log.{Log}
use Rattle.report_model.specs.declared.report.Part.{Part}
use Rattle.report_model.specs.declared.report.Part.TheVariants as part
use Rattle.report_model.specs.declared.report.Report.{Report}
use Rattle.report_model.specs.declared.verdict.Current.{Current}
use Rattle.report_model.specs.declared.verdict.Verdict.{Verdict}
use Rattle.report_model.specs.declared.verdict.Verdict.TheVariants as verdict
use Rattle.report_verify.proofs.Lacks.{none_in, nothing_claimed}
use Rattle.report_verify.specs.Judged.{AreCommonOf, IsBacked, IsFirstUnmet, IsUncommonIn, IsUnmet}
use Rattle.report_verify.specs.Shown.{IsFirstUnderived, IsSound, IsUncommon, Refuses}
use Rattle.report_verify.specs.Supported.{IsDerived, IsOneOf, IsSupported, Need, answer_needs, item_needs, needs_of}
use Rattle.report_verify.specs.declared.fault.Missing.TheVariants.{Shape, NoEmptyClause, NoCompletion, NoUnit, NotBroken, NotDifferent, NotCommon, WrongCount}
use Rattle.report_verify.specs.declared.fault.Unshown.TheVariants.{BadCompletion, BadLog, NotShown}
use Rattle.report_verify.specs.declared.fault.VerifyFault.{VerifyFault}
use Rattle.report_verify.specs.declared.fault.VerifyFault.TheVariants.{Refused, NoMemory}
use Rattle.spec_model.specs.Completion.{Rankings}
use Rattle.spec_model.specs.Spec.{Spec}
use Rattle.spec_model.specs.declared.question.Question.{Question}
use Rattle.spec_model.specs.declared.question.Question.TheVariants as asked

-- what `same` claims, whatever the question
pub same_needs : (q : Question) (items : List Current) → needs_of q (verdict.Same items) ≡ item_needs 0 items
same_needs asked.Consistent items = refl
same_needs (asked.Certain pairs) items = refl
same_needs (asked.Same rels) items = refl
same_needs (asked.Answers query) items = refl

-- what answers claim, whatever the question
pub same_answers : (q : Question) (tuples : List (List Value)) → needs_of q (verdict.Answers tuples) ≡ answer_needs 0 tuples
same_answers asked.Consistent tuples = refl
same_answers (asked.Certain pairs) tuples = refl
same_answers (asked.Same rels) tuples = refl
same_answers (asked.Answers query) tuples = refl

-- a verdict that claims something asks for a completion
listed : (s : Spec) (q : Question) (v : Verdict) (cs : List Rankings) (log : Log) (place : ℕ) (need : Need)
    → slice_get (needs_of q v) place ≡ Some need → IsBacked s v cs log → cs ≢ []
listed s q verdict.Inconsistent cs log place need at backed = absurd (none_in (needs_of q verdict.Inconsistent) place
    need (nothing_claimed q verdict.Inconsistent refl) at)
listed s q verdict.Consistent cs log place need at backed = backed
listed s q verdict.Certain cs log place need at backed = backed
listed s q (verdict.NotCertain p) cs log place need at backed =
    absurd (none_in (needs_of q (verdict.NotCertain p)) place need (nothing_claimed q (verdict.NotCertain p) refl) at)
listed s q (verdict.Same items) cs log place need at backed = backed
listed s q (verdict.NotSame rel attr ent) cs log place need at backed =
    absurd (none_in (needs_of q (verdict.NotSame rel attr ent)) place need
    (nothing_claimed q (verdict.NotSame rel attr ent) refl) at)
listed s q (verdict.Answers tuples) cs log place need at backed = backed
listed s q (verdict.Undecided counted) cs log place need at backed =
    absurd (none_in (needs_of q (verdict.Undecided counted)) place need (nothing_claimed q (verdict.Undecided counted) refl) at)

module _ (s : Spec) (q : Question) (r : Report) (sound : IsSound s q r) where
  first_underived : (p : Part) (place at : ℕ) → place ≡ 0 + at → IsFirstUnmet s.relations r.log (needs_of q r.verdict) p at
      → IsFirstUnderived s q r p place
  first_underived p place at same first =
      let one : at ≡ place = omega arith in
      subst (IsFirstUnderived s q r p) one record {
        need = first.need;
        claimed = first.claimed;
        of_part = first.of_part;
        underived = first.underived;
        before = first.before;
      }

  pub unmet_refused : (fault : VerifyFault) → IsBacked s r.verdict r.completions r.log
      → IsUnmet s.relations r.log (needs_of q r.verdict) fault → Refuses s q r fault
  unmet_refused NoMemory backed unmet = tt
  unmet_refused (Refused part.Verdict (NotShown (NoUnit place))) backed unmet = (
    sound,
    listed s q r.verdict r.completions r.log unmet.0 unmet.2.need unmet.2.claimed backed,
    first_underived part.Verdict place unmet.0 unmet.1 unmet.2,
  )
  unmet_refused (Refused (part.Item at) (NotShown (NoUnit place))) backed unmet = (
    sound,
    listed s q r.verdict r.completions r.log unmet.0 unmet.2.need unmet.2.claimed backed,
    first_underived (part.Item at) place unmet.0 unmet.1 unmet.2,
  )
  unmet_refused (Refused (part.Completion at) (NotShown (NoUnit place))) backed unmet = (
    sound,
    listed s q r.verdict r.completions r.log unmet.0 unmet.2.need unmet.2.claimed backed,
    first_underived (part.Completion at) place unmet.0 unmet.1 unmet.2,
  )
  unmet_refused (Refused (part.Step at) (NotShown (NoUnit place))) backed unmet = (
    sound,
    listed s q r.verdict r.completions r.log unmet.0 unmet.2.need unmet.2.claimed backed,
    first_underived (part.Step at) place unmet.0 unmet.1 unmet.2,
  )
  unmet_refused (Refused p (BadCompletion flaw)) backed unmet = absurd unmet
  unmet_refused (Refused p (BadLog fault)) backed unmet = absurd unmet
  unmet_refused (Refused p (NotShown Shape)) backed unmet = absurd unmet
  unmet_refused (Refused p (NotShown NoEmptyClause)) backed unmet = absurd unmet
  unmet_refused (Refused p (NotShown NoCompletion)) backed unmet = absurd unmet
  unmet_refused (Refused p (NotShown NotBroken)) backed unmet = absurd unmet
  unmet_refused (Refused p (NotShown NotDifferent)) backed unmet = absurd unmet
  unmet_refused (Refused p (NotShown NotCommon)) backed unmet = absurd unmet
  unmet_refused (Refused p (NotShown WrongCount)) backed unmet = absurd unmet

  some_listed : (v : Verdict) (cs : List Rankings) → IsBacked s v cs r.log → IsUncommon s q v cs → cs ≢ []
  some_listed verdict.Inconsistent cs backed apart = absurd apart
  some_listed verdict.Consistent cs backed apart = absurd apart
  some_listed verdict.Certain cs backed apart = absurd apart
  some_listed (verdict.NotCertain p) cs backed apart = absurd apart
  some_listed (verdict.Same items) cs backed apart = absurd apart
  some_listed (verdict.NotSame rel attr ent) cs backed apart = absurd apart
  some_listed (verdict.Answers tuples) cs backed apart = backed
  some_listed (verdict.Undecided counted) cs backed apart = absurd apart

  pub uncommon_refused : (fault : VerifyFault) → IsBacked s r.verdict r.completions r.log
      → All (IsDerived s.relations r.log) (needs_of q r.verdict) → IsUncommonIn s q r.verdict r.completions fault
      → Refuses s q r fault
  uncommon_refused NoMemory backed derived apart = tt
  uncommon_refused (Refused part.Verdict (NotShown NotCommon)) backed derived apart =
      (sound, some_listed r.verdict r.completions backed apart, derived, apart)
  uncommon_refused (Refused part.Verdict (NotShown Shape)) backed derived apart = absurd apart
  uncommon_refused (Refused part.Verdict (NotShown NoEmptyClause)) backed derived apart = absurd apart
  uncommon_refused (Refused part.Verdict (NotShown NoCompletion)) backed derived apart = absurd apart
  uncommon_refused (Refused part.Verdict (NotShown (NoUnit place))) backed derived apart = absurd apart
  uncommon_refused (Refused part.Verdict (NotShown NotBroken)) backed derived apart = absurd apart
  uncommon_refused (Refused part.Verdict (NotShown NotDifferent)) backed derived apart = absurd apart
  uncommon_refused (Refused part.Verdict (NotShown WrongCount)) backed derived apart = absurd apart
  uncommon_refused (Refused part.Verdict (BadCompletion flaw)) backed derived apart = absurd apart
  uncommon_refused (Refused part.Verdict (BadLog fault)) backed derived apart = absurd apart
  uncommon_refused (Refused (part.Item at) why) backed derived apart = absurd apart
  uncommon_refused (Refused (part.Completion at) why) backed derived apart = absurd apart
  uncommon_refused (Refused (part.Step at) why) backed derived apart = absurd apart

-- ---- what is backed, derived and common is supported

answers_supported : (s : Spec) (q : Question) (tuples : List (List Value)) (cs : List Rankings) (log : Log)
    → IsOneOf s q (verdict.Answers tuples) → cs ≢ [] → All (IsDerived s.relations log) (needs_of q (verdict.Answers tuples))
    → AreCommonOf s q (verdict.Answers tuples) cs → IsSupported s q (verdict.Answers tuples) cs log
answers_supported s asked.Consistent tuples cs log one_of some derived common = absurd one_of
answers_supported s (asked.Certain pairs) tuples cs log one_of some derived common = absurd one_of
answers_supported s (asked.Same rels) tuples cs log one_of some derived common = absurd one_of
answers_supported s (asked.Answers query) tuples cs log one_of some derived common = (some, derived, common)

pub supported : (s : Spec) (q : Question) (v : Verdict) (cs : List Rankings) (log : Log) → IsOneOf s q v → IsBacked s v cs log
    → All (IsDerived s.relations log) (needs_of q v) → AreCommonOf s q v cs → IsSupported s q v cs log
supported s q verdict.Inconsistent cs log one_of backed derived common = backed
supported s q verdict.Consistent cs log one_of backed derived common = backed
supported s q verdict.Certain cs log one_of backed derived common = (backed, derived)
supported s q (verdict.NotCertain p) cs log one_of backed derived common = backed
supported s q (verdict.Same items) cs log one_of backed derived common = (backed, derived)
supported s q (verdict.NotSame rel attr ent) cs log one_of backed derived common = backed
supported s q (verdict.Answers tuples) cs log one_of backed derived common =
    answers_supported s q tuples cs log one_of backed derived common
supported s q (verdict.Undecided counted) cs log one_of backed derived common = backed

-- ---- results

pub on_ok : {X Y : Type 0} (r : Result X Y) (P Q : Type 0) → OnOk r P → (P → Q) → OnOk r Q
on_ok (Ok x) P Q p f = f p
on_ok (Err y) P Q p f = tt

pub on_err : {X Y : Type 0} (r : Result X Y) (P Q : Y → Type 0) → IfErr r P → ((y : Y) → P y → Q y) → IfErr r Q
on_err (Ok x) P Q p f = tt
on_err (Err y) P Q p f = f y p

-- What a report lacks for its verdict is determined, and without it the verdict is not supported.
use Rattle.std.proofs.Common.{◌≡◌, ◌≢◌, ℕ, Bool, true, false, List, [], ◌∷◌, All, Contains, Option, Some, None, slice_get, refl, sym, ap, ◌∙◌, subst, arith}
use Rattle.std.proofs.lemmas.Bool.{false≢true}
use Rattle.std.proofs.lemmas.List.Elements.{All-contains}
use Rattle.std.proofs.lemmas.Option.{none-some}
use Rattle.axiom_laws.proofs.Standing.{all_at}
use Rattle.currency_base.specs.declared.value.Value.{Value}
use Rattle.refutation_log.specs.declared.log.Log.{Log}
use Rattle.report_model.specs.declared.verdict.Verdict.{Verdict}
use Rattle.report_model.specs.declared.verdict.Verdict.TheVariants as verdict
use Rattle.report_verify.specs.Right.{PairHolds}
use Rattle.report_verify.specs.Shown.{asks_completion, IsUnbroken, IsUncommon, IsUndifferent, IsMiscounted}
use Rattle.report_verify.specs.Supported.{HasEmpty, IsDerived, IsSupported, Need, needs_of}
use Rattle.report_verify.specs.declared.fault.Missing.{Missing}
use Rattle.report_verify.specs.declared.fault.Missing.TheVariants as missing
use Rattle.spec_model.specs.Completion.{Rankings}
use Rattle.spec_model.specs.Spec.{Spec}
use Rattle.spec_model.specs.declared.question.Question.{Question}
use Rattle.spec_model.specs.declared.question.Question.TheVariants as asked

-- what a verdict that is not supported lacks, other than a unit and answers that are common
abbrev pub due : Verdict → List Rankings → Option Missing
due verdict.Inconsistent cs = Some missing.NoEmptyClause
due (verdict.Undecided counted) cs = Some missing.WrongCount
due v [] = Some missing.NoCompletion
due (verdict.NotCertain p) (c ∷ cs) = Some missing.NotBroken
due (verdict.NotSame rel attr ent) (c ∷ cs) = Some missing.NotDifferent
due v (c ∷ cs) = None

-- the verdict makes claims that units show
abbrev claims : Verdict → Bool
claims verdict.Certain = true
claims (verdict.Same items) = true
claims (verdict.Answers tuples) = true
claims v = false

-- the others make none
pub nothing_claimed : (q : Question) (v : Verdict) → claims v ≡ false → needs_of q v ≡ []
nothing_claimed asked.Consistent verdict.Inconsistent e = refl
nothing_claimed asked.Consistent verdict.Consistent e = refl
nothing_claimed asked.Consistent verdict.Certain e = absurd (false≢true (sym e))
nothing_claimed asked.Consistent (verdict.NotCertain p) e = refl
nothing_claimed asked.Consistent (verdict.Same items) e = absurd (false≢true (sym e))
nothing_claimed asked.Consistent (verdict.NotSame rel attr ent) e = refl
nothing_claimed asked.Consistent (verdict.Answers tuples) e = absurd (false≢true (sym e))
nothing_claimed asked.Consistent (verdict.Undecided counted) e = refl
nothing_claimed (asked.Certain pairs) verdict.Inconsistent e = refl
nothing_claimed (asked.Certain pairs) verdict.Consistent e = refl
nothing_claimed (asked.Certain pairs) verdict.Certain e = absurd (false≢true (sym e))
nothing_claimed (asked.Certain pairs) (verdict.NotCertain p) e = refl
nothing_claimed (asked.Certain pairs) (verdict.Same items) e = absurd (false≢true (sym e))
nothing_claimed (asked.Certain pairs) (verdict.NotSame rel attr ent) e = refl
nothing_claimed (asked.Certain pairs) (verdict.Answers tuples) e = absurd (false≢true (sym e))
nothing_claimed (asked.Certain pairs) (verdict.Undecided counted) e = refl
nothing_claimed (asked.Same rels) verdict.Inconsistent e = refl
nothing_claimed (asked.Same rels) verdict.Consistent e = refl
nothing_claimed (asked.Same rels) verdict.Certain e = absurd (false≢true (sym e))
nothing_claimed (asked.Same rels) (verdict.NotCertain p) e = refl
nothing_claimed (asked.Same rels) (verdict.Same items) e = absurd (false≢true (sym e))
nothing_claimed (asked.Same rels) (verdict.NotSame rel attr ent) e = refl
nothing_claimed (asked.Same rels) (verdict.Answers tuples) e = absurd (false≢true (sym e))
nothing_claimed (asked.Same rels) (verdict.Undecided counted) e = refl
nothing_claimed (asked.Answers query) verdict.Inconsistent e = refl
nothing_claimed (asked.Answers query) verdict.Consistent e = refl
nothing_claimed (asked.Answers query) verdict.Certain e = absurd (false≢true (sym e))
nothing_claimed (asked.Answers query) (verdict.NotCertain p) e = refl
nothing_claimed (asked.Answers query) (verdict.Same items) e = absurd (false≢true (sym e))
nothing_claimed (asked.Answers query) (verdict.NotSame rel attr ent) e = refl
nothing_claimed (asked.Answers query) (verdict.Answers tuples) e = absurd (false≢true (sym e))
nothing_claimed (asked.Answers query) (verdict.Undecided counted) e = refl

pub none_in : {A : Type 0} (xs : List A) (i : ℕ) (x : A) → xs ≡ [] → slice_get xs i ≡ Some x → ⊥
none_in xs i x none at = let past : slice_get [] i ≡ Some x = subst (λ ys. slice_get ys i ≡ Some x) none at in none-some x past

not_in_none : {A : Type 0} (x : A) → Contains [] x → ⊥
not_in_none x there = absurd (let below = there.1 in omega arith)

-- what is due where a completion is listed
due_more : (v : Verdict) (what : Option Missing) (cs : List Rankings)
    → ((c : Rankings) (more : List Rankings) → due v (c ∷ more) ≡ what) → cs ≢ [] → due v cs ≡ what
due_more v what [] each some = absurd (some refl)
due_more v what (c ∷ more) each some = each c more

-- what is due where none is, if a completion is asked for
due_none : (v : Verdict) → asks_completion v ≡ true → due v [] ≡ Some missing.NoCompletion
due_none verdict.Inconsistent e = absurd (false≢true e)
due_none verdict.Consistent e = refl
due_none verdict.Certain e = refl
due_none (verdict.NotCertain p) e = refl
due_none (verdict.Same items) e = refl
due_none (verdict.NotSame rel attr ent) e = refl
due_none (verdict.Answers tuples) e = refl
due_none (verdict.Undecided counted) e = absurd (false≢true e)

-- ---- answers that are supported

answers_listed : (s : Spec) (q : Question) (log : Log) (tuples : List (List Value)) (cs : List Rankings)
    → IsSupported s q (verdict.Answers tuples) cs log → cs ≢ []
answers_listed s asked.Consistent log tuples cs h = absurd h
answers_listed s (asked.Certain pairs) log tuples cs h = absurd h
answers_listed s (asked.Same rels) log tuples cs h = absurd h
answers_listed s (asked.Answers query) log tuples cs h = h.0

answers_derived : (s : Spec) (q : Question) (log : Log) (tuples : List (List Value)) (cs : List Rankings)
    → IsSupported s q (verdict.Answers tuples) cs log → All (IsDerived s.relations log) (needs_of q (verdict.Answers tuples))
answers_derived s asked.Consistent log tuples cs h = absurd h
answers_derived s (asked.Certain pairs) log tuples cs h = absurd h
answers_derived s (asked.Same rels) log tuples cs h = absurd h
answers_derived s (asked.Answers query) log tuples cs h = h.1

answers_common : (s : Spec) (q : Question) (log : Log) (tuples : List (List Value)) (cs : List Rankings)
    → IsUncommon s q (verdict.Answers tuples) cs → IsSupported s q (verdict.Answers tuples) cs log → ⊥
answers_common s asked.Consistent log tuples cs apart h = h
answers_common s (asked.Certain pairs) log tuples cs apart h = h
answers_common s (asked.Same rels) log tuples cs apart h = h
answers_common s (asked.Answers query) log tuples cs apart h = apart h.2

module _ (s : Spec) (q : Question) (log : Log) where
  -- this is due, and the verdict is not supported
  pub record IsDue (v : Verdict) (cs : List Rankings) (what : Option Missing) : Type 0 where
    pub is : due v cs ≡ what
    pub unsupported : IsSupported s q v cs log → ⊥

  pub no_empty_clause : (v : Verdict) (cs : List Rankings) → v ≡ verdict.Inconsistent → (HasEmpty log → ⊥)
      → IsDue v cs (Some missing.NoEmptyClause)
  no_empty_clause v cs is none = record {
    is = ap (λ (w : Verdict). due w cs) is;
    unsupported = λ supported. none (subst (λ (w : Verdict). IsSupported s q w cs log) is supported);
  }

  unsupported_none : (v : Verdict) → asks_completion v ≡ true → IsSupported s q v [] log → ⊥
  unsupported_none verdict.Inconsistent e h = false≢true e
  unsupported_none verdict.Consistent e h = h refl
  unsupported_none verdict.Certain e h = h.0 refl
  unsupported_none (verdict.NotCertain p) e h = not_in_none h.rankings h.listed
  unsupported_none (verdict.Same items) e h = h.0 refl
  unsupported_none (verdict.NotSame rel attr ent) e h = not_in_none h.one h.one_listed
  unsupported_none (verdict.Answers tuples) e h = answers_listed s q log tuples [] h refl
  unsupported_none (verdict.Undecided counted) e h = false≢true e

  pub no_completion : (v : Verdict) (cs : List Rankings) → asks_completion v ≡ true → cs ≡ [] → IsDue v cs
      (Some missing.NoCompletion)
  no_completion v cs asks none = record {
    is = ap (due v) none ∙ due_none v asks;
    unsupported = λ supported. unsupported_none v asks (subst (λ ds. IsSupported s q v ds log) none supported);
  }

  pub no_unit : (v : Verdict) (cs : List Rankings) (place : ℕ) (need : Need) → cs ≢ [] → slice_get (needs_of q v)
      place ≡ Some need
      → (IsDerived s.relations log need → ⊥) → IsDue v cs None
  no_unit verdict.Inconsistent cs place need some claimed underived =
      absurd (none_in (needs_of q verdict.Inconsistent) place need (nothing_claimed q verdict.Inconsistent refl) claimed)
  no_unit verdict.Consistent cs place need some claimed underived =
      absurd (none_in (needs_of q verdict.Consistent) place need (nothing_claimed q verdict.Consistent refl) claimed)
  no_unit verdict.Certain cs place need some claimed underived = record {
    is = due_more verdict.Certain None cs (λ c more. refl) some;
    unsupported = λ supported. underived (all_at (IsDerived s.relations log) (needs_of q verdict.Certain) place need
        supported.1 claimed);
  }
  no_unit (verdict.NotCertain p) cs place need some claimed underived =
      absurd (none_in (needs_of q (verdict.NotCertain p)) place need (nothing_claimed q (verdict.NotCertain p) refl) claimed)
  no_unit (verdict.Same items) cs place need some claimed underived = record {
    is = due_more (verdict.Same items) None cs (λ c more. refl) some;
    unsupported = λ supported. underived (all_at (IsDerived s.relations log) (needs_of q (verdict.Same items)) place
        need supported.1 claimed);
  }
  no_unit (verdict.NotSame rel attr ent) cs place need some claimed underived =
      absurd (none_in (needs_of q (verdict.NotSame rel attr ent)) place need
      (nothing_claimed q (verdict.NotSame rel attr ent) refl) claimed)
  no_unit (verdict.Answers tuples) cs place need some claimed underived = record {
    is = due_more (verdict.Answers tuples) None cs (λ c more. refl) some;
    unsupported = λ supported.
        underived
        (all_at (IsDerived s.relations log) (needs_of q (verdict.Answers tuples)) place need
        (answers_derived s q log tuples cs supported) claimed);
  }
  no_unit (verdict.Undecided counted) cs place need some claimed underived =
      absurd (none_in (needs_of q (verdict.Undecided counted)) place need
      (nothing_claimed q (verdict.Undecided counted) refl) claimed)

  pub not_broken : (v : Verdict) (cs : List Rankings) → cs ≢ [] → IsUnbroken v cs → IsDue v cs (Some missing.NotBroken)
  not_broken verdict.Inconsistent cs some holds = absurd holds
  not_broken verdict.Consistent cs some holds = absurd holds
  not_broken verdict.Certain cs some holds = absurd holds
  not_broken (verdict.NotCertain p) cs some holds = record {
    is = due_more (verdict.NotCertain p) (Some missing.NotBroken) cs (λ c more. refl) some;
    unsupported = λ one. one.fails (All-contains (PairHolds p) cs one.rankings holds one.listed);
  }
  not_broken (verdict.Same items) cs some holds = absurd holds
  not_broken (verdict.NotSame rel attr ent) cs some holds = absurd holds
  not_broken (verdict.Answers tuples) cs some holds = absurd holds
  not_broken (verdict.Undecided counted) cs some holds = absurd holds

  pub not_different : (v : Verdict) (cs : List Rankings) → cs ≢ [] → IsUndifferent s v cs → IsDue v cs (Some missing.NotDifferent)
  not_different verdict.Inconsistent cs some none = absurd none
  not_different verdict.Consistent cs some none = absurd none
  not_different verdict.Certain cs some none = absurd none
  not_different (verdict.NotCertain p) cs some none = absurd none
  not_different (verdict.Same items) cs some none = absurd none
  not_different (verdict.NotSame rel attr ent) cs some none = record {
    is = due_more (verdict.NotSame rel attr ent) (Some missing.NotDifferent) cs (λ c more. refl) some;
    unsupported = none;
  }
  not_different (verdict.Answers tuples) cs some none = absurd none
  not_different (verdict.Undecided counted) cs some none = absurd none

  pub not_common : (v : Verdict) (cs : List Rankings) → cs ≢ [] → IsUncommon s q v cs → IsDue v cs None
  not_common verdict.Inconsistent cs some apart = absurd apart
  not_common verdict.Consistent cs some apart = absurd apart
  not_common verdict.Certain cs some apart = absurd apart
  not_common (verdict.NotCertain p) cs some apart = absurd apart
  not_common (verdict.Same items) cs some apart = absurd apart
  not_common (verdict.NotSame rel attr ent) cs some apart = absurd apart
  not_common (verdict.Answers tuples) cs some apart = record {
    is = due_more (verdict.Answers tuples) None cs (λ c more. refl) some;
    unsupported = answers_common s q log tuples cs apart;
  }
  not_common (verdict.Undecided counted) cs some apart = absurd apart

  pub wrong_count : (v : Verdict) (cs : List Rankings) → IsMiscounted v log → IsDue v cs (Some missing.WrongCount)
  wrong_count verdict.Inconsistent cs differ = absurd differ
  wrong_count verdict.Consistent cs differ = absurd differ
  wrong_count verdict.Certain cs differ = absurd differ
  wrong_count (verdict.NotCertain p) cs differ = absurd differ
  wrong_count (verdict.Same items) cs differ = absurd differ
  wrong_count (verdict.NotSame rel attr ent) cs differ = absurd differ
  wrong_count (verdict.Answers tuples) cs differ = absurd differ
  wrong_count (verdict.Undecided counted) cs differ = record { is = refl; unsupported = differ }

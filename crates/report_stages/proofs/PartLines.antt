-- The part of a report that a refusal is about is there, so it has a line.
use Rattle.std.proofs.Common.{◌≡◌, ◌+◌, ◌<◌, ◌≤◌, ℕ, List, [], ◌∷◌, All, Option, Some, length, slice_get, subst, arith}
use Rattle.std.proofs.lemmas.List.Elements.{All-nil, All-cons, All-append, All-map}
use Rattle.std.proofs.lemmas.Option.{get_or_from_slice_get, slice_get_within}
use Rattle.currency_base.specs.declared.ids.EntId.{EntId}
use Rattle.currency_base.specs.declared.ids.RelId.{RelId}
use Rattle.currency_base.specs.declared.lit.Lit.{Lit}
use Rattle.currency_base.specs.declared.value.Value.{Value}
use Rattle.currency_report.specs.Lines.{AreLinesOf, HasPart}
use Rattle.currency_report.specs.declared.report.Lines.{Lines}
use Rattle.log_checker.specs.Accepted.{FailsAt, IsFirstFault}
use Rattle.log_checker.specs.declared.fault.LogFault.{LogFault}
use Rattle.log_checker.specs.declared.fault.LogFault.TheVariants as log
use Rattle.log_axioms.specs.Posed.{Posed, posed_by}
use Rattle.query_model.specs.declared.query.Query.{Query}
use Rattle.refutation_log.specs.declared.log.Log.{Log}
use Rattle.refutation_log.specs.declared.statement.Statement.{Statement}
use Rattle.refutation_log.specs.declared.step.Step.{Step}
use Rattle.refutation_log.specs.declared.step.Step.TheVariants as step
use Rattle.report_model.specs.Verdicts.{item_count}
use Rattle.report_model.specs.declared.report.Part.{Part}
use Rattle.report_model.specs.declared.report.Part.TheVariants as part
use Rattle.report_model.specs.declared.report.Report.{Report}
use Rattle.report_model.specs.declared.verdict.Current.{Current}
use Rattle.report_model.specs.declared.verdict.Verdict.{Verdict}
use Rattle.report_model.specs.declared.verdict.Verdict.TheVariants as verdict
use Rattle.report_verify.specs.Asked.{query_of}
use Rattle.report_verify.specs.Shown.{IsFirstUnderived, IsFirstUnshown, step_of_fault}
use Rattle.report_verify.specs.Supported.{Need, Holds, answer_needs, item_needs, needs_of, pair_needs, value_needs}
use Rattle.report_verify.specs.declared.fault.Missing.{Missing}
use Rattle.report_verify.specs.declared.fault.Missing.TheVariants as missing
use Rattle.report_verify.specs.declared.fault.Unshown.{Unshown}
use Rattle.report_verify.specs.declared.fault.Unshown.TheVariants as why
use Rattle.spec_model.specs.Spec.{Spec}
use Rattle.spec_model.specs.declared.question.Asked.{Asked}
use Rattle.spec_model.specs.declared.question.Question.{Question}
use Rattle.spec_model.specs.declared.question.Question.TheVariants as asked

-- ---- the parts that make claims

-- the verdict itself, or one of so many items
abbrev IsOfVerdict : ℕ → Part → Type 0
IsOfVerdict items part.Verdict = Unit {0}
IsOfVerdict items (part.Item place) = place < items
IsOfVerdict items (part.Completion place) = ⊥
IsOfVerdict items (part.Step place) = ⊥

-- a claim is made by such a part
abbrev IsClaimed : ℕ → Need → Type 0
IsClaimed items need = IsOfVerdict items need.part

pairs_claimed : (items : ℕ) (pairs : List Asked) → All (IsClaimed items) (pair_needs pairs)
pairs_claimed items pairs =
    All-map (IsClaimed items) (λ (p : Asked). record { part = part.Verdict; claim = Holds p }) pairs (λ i x h. tt)

values_claimed : (items item : ℕ) (rel : RelId) (ent : EntId) (attr : ℕ) (values : List Value) → item < items
    → All (IsClaimed items) (value_needs item rel ent attr values)
values_claimed items item rel ent attr [] below = All-nil (IsClaimed items)
values_claimed items item rel ent attr (v ∷ values) below =
    All-cons (IsClaimed items) _ (value_needs item rel ent (attr + 1) values) below
    (values_claimed items item rel ent (attr + 1) values below)

items_claimed : (items at : ℕ) (list : List Current) → at + length list ≤ items → All (IsClaimed items) (item_needs at list)
items_claimed items at [] few = All-nil (IsClaimed items)
items_claimed items at (item ∷ list) few =
    All-append (IsClaimed items) (value_needs at item.rel item.ent 0 item.values) (item_needs (at + 1) list)
    (values_claimed items at item.rel item.ent 0 item.values (omega (arith, few)))
    (items_claimed items (at + 1) list (omega (arith, few)))

answers_claimed : (items at : ℕ) (tuples : List (List Value)) → at + length tuples ≤ items → All (IsClaimed items)
    (answer_needs at tuples)
answers_claimed items at [] few = All-nil (IsClaimed items)
answers_claimed items at (tuple ∷ tuples) few =
    All-cons (IsClaimed items) _ (answer_needs (at + 1) tuples) (omega (arith, few))
    (answers_claimed items (at + 1) tuples (omega (arith, few)))

-- each claim of a verdict is made by it or by one of its items
needs_claimed : (q : Question) (v : Verdict) → All (IsClaimed (item_count v)) (needs_of q v)
needs_claimed asked.Consistent verdict.Inconsistent = All-nil (IsClaimed 0)
needs_claimed asked.Consistent verdict.Consistent = All-nil (IsClaimed 0)
needs_claimed asked.Consistent verdict.Certain = All-nil (IsClaimed 0)
needs_claimed asked.Consistent (verdict.NotCertain p) = All-nil (IsClaimed 0)
needs_claimed asked.Consistent (verdict.Same items) = items_claimed (length items) 0 items (omega arith)
needs_claimed asked.Consistent (verdict.NotSame rel attr ent) = All-nil (IsClaimed 0)
needs_claimed asked.Consistent (verdict.Answers tuples) = answers_claimed (length tuples) 0 tuples (omega arith)
needs_claimed asked.Consistent (verdict.Undecided counted) = All-nil (IsClaimed 0)
needs_claimed (asked.Certain pairs) verdict.Inconsistent = All-nil (IsClaimed 0)
needs_claimed (asked.Certain pairs) verdict.Consistent = All-nil (IsClaimed 0)
needs_claimed (asked.Certain pairs) verdict.Certain = pairs_claimed 0 pairs
needs_claimed (asked.Certain pairs) (verdict.NotCertain p) = All-nil (IsClaimed 0)
needs_claimed (asked.Certain pairs) (verdict.Same items) = items_claimed (length items) 0 items (omega arith)
needs_claimed (asked.Certain pairs) (verdict.NotSame rel attr ent) = All-nil (IsClaimed 0)
needs_claimed (asked.Certain pairs) (verdict.Answers tuples) = answers_claimed (length tuples) 0 tuples (omega arith)
needs_claimed (asked.Certain pairs) (verdict.Undecided counted) = All-nil (IsClaimed 0)
needs_claimed (asked.Same rels) verdict.Inconsistent = All-nil (IsClaimed 0)
needs_claimed (asked.Same rels) verdict.Consistent = All-nil (IsClaimed 0)
needs_claimed (asked.Same rels) verdict.Certain = All-nil (IsClaimed 0)
needs_claimed (asked.Same rels) (verdict.NotCertain p) = All-nil (IsClaimed 0)
needs_claimed (asked.Same rels) (verdict.Same items) = items_claimed (length items) 0 items (omega arith)
needs_claimed (asked.Same rels) (verdict.NotSame rel attr ent) = All-nil (IsClaimed 0)
needs_claimed (asked.Same rels) (verdict.Answers tuples) = answers_claimed (length tuples) 0 tuples (omega arith)
needs_claimed (asked.Same rels) (verdict.Undecided counted) = All-nil (IsClaimed 0)
needs_claimed (asked.Answers query) verdict.Inconsistent = All-nil (IsClaimed 0)
needs_claimed (asked.Answers query) verdict.Consistent = All-nil (IsClaimed 0)
needs_claimed (asked.Answers query) verdict.Certain = All-nil (IsClaimed 0)
needs_claimed (asked.Answers query) (verdict.NotCertain p) = All-nil (IsClaimed 0)
needs_claimed (asked.Answers query) (verdict.Same items) = items_claimed (length items) 0 items (omega arith)
needs_claimed (asked.Answers query) (verdict.NotSame rel attr ent) = All-nil (IsClaimed 0)
needs_claimed (asked.Answers query) (verdict.Answers tuples) = answers_claimed (length tuples) 0 tuples (omega arith)
needs_claimed (asked.Answers query) (verdict.Undecided counted) = All-nil (IsClaimed 0)

all_at : {A : Type 0} (P : A → Type 0) (xs : List A) (i : ℕ) (x : A) → All P xs → slice_get xs i ≡ Some x → P x
all_at P xs i x all at = subst P (get_or_from_slice_get xs i x x at) (all i x (slice_get_within xs i x at))

-- the part of the first claim that is not derived
claimed_part : (s : Spec) (q : Question) (r : Report) (p : Part) (place : ℕ) → IsFirstUnderived s q r p place
    → IsOfVerdict (item_count r.verdict) p
claimed_part s q r p place first =
    subst (IsOfVerdict (item_count r.verdict)) first.of_part
    (all_at (IsClaimed (item_count r.verdict)) (needs_of q r.verdict) place first.need (needs_claimed q r.verdict) first.claimed)

-- the part of what a verdict lacks
lacking_part : (s : Spec) (q : Question) (r : Report) (p : Part) (m : Missing) → IsFirstUnshown s q r p (why.NotShown m)
    → IsOfVerdict (item_count r.verdict) p
lacking_part s q r part.Verdict m first = tt
lacking_part s q r (part.Item place) missing.Shape first = absurd first
lacking_part s q r (part.Item place) missing.NoEmptyClause first = absurd first
lacking_part s q r (part.Item place) missing.NoCompletion first = absurd first
lacking_part s q r (part.Item place) (missing.NoUnit k) first = claimed_part s q r (part.Item place) k first.2
lacking_part s q r (part.Item place) missing.NotBroken first = absurd first
lacking_part s q r (part.Item place) missing.NotDifferent first = absurd first
lacking_part s q r (part.Item place) missing.NotCommon first = absurd first
lacking_part s q r (part.Item place) missing.WrongCount first = absurd first
lacking_part s q r (part.Completion place) missing.Shape first = absurd first
lacking_part s q r (part.Completion place) missing.NoEmptyClause first = absurd first
lacking_part s q r (part.Completion place) missing.NoCompletion first = absurd first
lacking_part s q r (part.Completion place) (missing.NoUnit k) first = claimed_part s q r (part.Completion place) k first.2
lacking_part s q r (part.Completion place) missing.NotBroken first = absurd first
lacking_part s q r (part.Completion place) missing.NotDifferent first = absurd first
lacking_part s q r (part.Completion place) missing.NotCommon first = absurd first
lacking_part s q r (part.Completion place) missing.WrongCount first = absurd first
lacking_part s q r (part.Step place) missing.Shape first = absurd first
lacking_part s q r (part.Step place) missing.NoEmptyClause first = absurd first
lacking_part s q r (part.Step place) missing.NoCompletion first = absurd first
lacking_part s q r (part.Step place) (missing.NoUnit k) first = claimed_part s q r (part.Step place) k first.2
lacking_part s q r (part.Step place) missing.NotBroken first = absurd first
lacking_part s q r (part.Step place) missing.NotDifferent first = absurd first
lacking_part s q r (part.Step place) missing.NotCommon first = absurd first
lacking_part s q r (part.Step place) missing.WrongCount first = absurd first

-- ---- steps

-- the step that fails is the one that its fault names
failing_step : (s : Spec) (posed : Posed) (statements : List Statement) (earlier : List (List Lit)) (at : ℕ)
    (st : Step) (fault : LogFault) (named : ℕ)
    → FailsAt s posed statements earlier at st fault → step_of_fault fault ≡ Some named → named ≡ at
failing_step s posed statements earlier at (step.Axiom label lits) (log.NotAnAxiom n) named fails is = let same = fails.0 in cc
failing_step s posed statements earlier at (step.Axiom label lits) (log.NotDerived n place) named fails is = absurd fails
failing_step s posed statements earlier at (step.Axiom label lits) (log.UnknownHint n) named fails is = absurd fails
failing_step s posed statements earlier at (step.Axiom label lits) log.NoMemory named fails is = absurd fails
failing_step s posed statements earlier at (step.OnDemand label lits) (log.NotAnAxiom n) named fails is = let same = fails.0 in cc
failing_step s posed statements earlier at (step.OnDemand label lits) (log.NotDerived n place) named fails is = absurd fails
failing_step s posed statements earlier at (step.OnDemand label lits) (log.UnknownHint n) named fails is = absurd fails
failing_step s posed statements earlier at (step.OnDemand label lits) log.NoMemory named fails is = absurd fails
failing_step s posed statements earlier at (step.Learn lits hints counted) (log.NotAnAxiom n) named fails is = absurd fails
failing_step s posed statements earlier at (step.Learn lits hints counted) (log.NotDerived n place) named fails is =
    let same = fails.0 in cc
failing_step s posed statements earlier at (step.Learn lits hints counted) (log.UnknownHint n) named fails is =
    let same = fails.0 in cc
failing_step s posed statements earlier at (step.Learn lits hints counted) log.NoMemory named fails is = absurd fails

step_there : (s : Spec) (query : Option Query) (l : Log) (fault : LogFault) (named : ℕ) → IsFirstFault s query l fault
    → step_of_fault fault ≡ Some named → named < length l.steps
step_there s query l fault named first is =
    let same = failing_step s (posed_by query l) l.statements _ first.place first.step fault named first.fails is in
    omega (arith, same, slice_get_within l.steps first.place first.step first.is_step)

-- ---- the line

verdict_line : (r : Report) (lines : Lines) (p : Part) → AreLinesOf r lines → IsOfVerdict (item_count r.verdict) p
    → HasPart lines p
verdict_line r lines part.Verdict are of = tt
verdict_line r lines (part.Item place) are of = omega (arith, are.items, of)
verdict_line r lines (part.Completion place) are of = absurd of
verdict_line r lines (part.Step place) are of = absurd of

-- the part that fails first has a line
pub part_there : (s : Spec) (q : Question) (r : Report) (lines : Lines) (p : Part) (w : Unshown) → AreLinesOf r lines
    → IsFirstUnshown s q r p w → HasPart lines p
part_there s q r lines p (why.NotShown m) are first = verdict_line r lines p are (lacking_part s q r p m first)
part_there s q r lines part.Verdict (why.BadCompletion flaw) are first = tt
part_there s q r lines (part.Item place) (why.BadCompletion flaw) are first = absurd first
part_there s q r lines (part.Completion place) (why.BadCompletion flaw) are first =
    omega (arith, are.completions, slice_get_within r.completions place first.first.rankings first.first.listed)
part_there s q r lines (part.Step place) (why.BadCompletion flaw) are first = absurd first
part_there s q r lines part.Verdict (why.BadLog fault) are first = tt
part_there s q r lines (part.Item place) (why.BadLog fault) are first = absurd first
part_there s q r lines (part.Completion place) (why.BadLog fault) are first = absurd first
part_there s q r lines (part.Step place) (why.BadLog fault) are first =
    omega (arith, are.steps, step_there s (query_of q) r.log fault place first.first first.at_step)

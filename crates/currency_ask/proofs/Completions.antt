-- Reports that list completions.
use Rattle.std.proofs.Common.{◌≡◌, ◌≢◌, ◌∙◌, ◌<◌, ◌≤◌, ℕ, zero, suc, List, [], ◌∷◌, All, Contains, length, slice_index_or, refl, sym, ap, subst, inl, arith}
use Rattle.std.proofs.lemmas.List.Elements.{All-cons, All-nil}
use Rattle.std.proofs.lemmas.Option.{same_Some}
use Rattle.answer_candidates.specs.Candidates.{AreCandidates, EachRefutes, Standing}
use Rattle.answer_laws.specs.Answered.{IsAnswerIn}
use Rattle.common_answers.specs.Common.{AreCommon}
use Rattle.query_model.specs.Answers.{AreAscending}
use Rattle.query_model.specs.declared.query.Query.{Query}
use Rattle.refutation_log.specs.Writable.{AreFew, IsWritable}
use Rattle.refutation_log.specs.declared.log.Log.{Log}
use Rattle.refutation_log.specs.declared.statement.Statement.{Statement}
use Rattle.refutation_log.specs.declared.step.Step.{Step}
use Rattle.currency_base.specs.Values.{IsValue}
use Rattle.currency_base.specs.declared.value.Value.{Value}
use Rattle.spec_model.specs.Completion.{IsCompletion, Rankings, lists_of, ranking_of}
use Rattle.spec_model.specs.Consistent.{IsConsistent}
use Rattle.spec_model.specs.Spec.{Spec}
use Rattle.spec_model.specs.declared.question.Question.{Question}
use Rattle.spec_model.specs.declared.question.Question.TheVariants as asked
use Rattle.spec_model.specs.declared.relation.Relation.{Relation}
use Rattle.report_model.specs.declared.report.Report.{Report}
use Rattle.report_model.specs.declared.verdict.Verdict.{Verdict}
use Rattle.report_model.specs.declared.verdict.Verdict.TheVariants as verdict
use Rattle.report_verify.specs.Supported.{IsDerived, IsOneOf, IsSupported}
use Rattle.report_model.specs.Writable.{AllCover, Covers, IsWritableCompletion, IsWritableVerdict}
use Rattle.search_logs.specs.Laws.{CompletionsAreWritable}
use Rattle.search_logs.specs.SearchLogs.{IsWithin}
use Rattle.currency_ask.specs.Answered.{EachLacksOne, IsAnswerWithin, IsDecidedBy, IsOfClaims, NamesFirst, variables_of}
use Rattle.currency_ask.specs.Reported.{IsReported, ListsAlone}
use Rattle.currency_ask.proofs.Places.{each_has, item_at, item_has}

-- ---- a log with nothing in it

empty : Log
empty = record { answers = []; statements = []; steps = [] }

nothing_is : (log : Log) → log.answers ≡ [] → log.statements ≡ [] → log.steps ≡ []
    → log ≡ record { answers = []; statements = []; steps = [] }
nothing_is log a b c =
    let first : log ≡ record { answers = []; statements = log.statements; steps = log.steps } =
    ap (λ (x : List (List Value)). let l : Log = record { answers = x; statements = log.statements; steps = log.steps } in l) a in
    let second : ◌≡◌ {A = Log} (record { answers = []; statements = log.statements; steps = log.steps })
    (record { answers = []; statements = []; steps = log.steps }) =
    ap (λ (x : List Statement). let l : Log = record { answers = []; statements = x; steps = log.steps } in l) b in
    let third : ◌≡◌ {A = Log} (record { answers = []; statements = []; steps = log.steps })
    (record { answers = []; statements = []; steps = [] }) =
    ap (λ (x : List Step). let l : Log = record { answers = []; statements = []; steps = x } in l) c in
    first ∙ second ∙ third

-- ---- two completions have rows at the same places

some_at : {A : Type 0} (xs : List A) → xs ≢ [] → (x : A) × Contains xs x
some_at [] some = absurd (some refl)
some_at (x ∷ xs) some = (x, (0, omega arith, refl))

none_in : {A : Type 0} (xs : List A) (x : A) → Contains xs x → xs ≢ []
none_in [] x at = λ e. absurd (omega (arith, at.1))
none_in (y ∷ ys) x at = λ e. let no : ⊥ = cc in no

-- a list that is there, and not empty, is at a place within
place_in : {A : Type 0} (xs : List (List A)) (i : ℕ) → slice_index_or xs i [] ≢ [] → i < length xs
place_in [] i some = absurd (some refl)
place_in (x ∷ xs) zero some = omega arith
place_in (x ∷ xs) (suc i) some = let more = place_in xs i some in omega (arith, more)

not_empty : {A : Type 0} (xs : List A) (i : ℕ) → i < length xs → xs ≢ []
not_empty [] i below = λ e. absurd (omega (arith, below))
not_empty (x ∷ xs) i below = λ e. let no : ⊥ = cc in no

covers : (relations : List Relation) (first c : Rankings) → IsCompletion relations first → IsCompletion relations c
    → Covers first c
covers relations first c is other rel attr ent some =
    let in_ent = place_in (lists_of first rel attr) ent some in
    let in_attr = place_in (slice_index_or first rel []) attr (not_empty (lists_of first rel attr) ent in_ent) in
    let in_rel = place_in first rel (not_empty (slice_index_or first rel []) attr in_attr) in
    let r = item_at relations rel (omega (arith, in_rel, is.shape.per_relation)) in
    let attr_within : attr < length r.0.attrs = omega (arith, in_attr, is.shape.per_attr rel r.0 r.1) in
    let ent_within : ent < length r.0.entities = omega (arith, in_ent, is.shape.per_entity rel r.0 r.1 attr attr_within) in
    let one = is.ranked rel r.0 r.1 attr ent attr_within ent_within in
    let two = other.ranked rel r.0 r.1 attr ent attr_within ent_within in
    let row = some_at (ranking_of first rel attr ent) some in
    none_in (ranking_of c rel attr ent) row.0 (two.all row.0 (one.only row.0 row.1))

-- ---- the report

-- a verdict that this many completions show
abbrev pub IsShownBy : Verdict → ℕ → Type 0
IsShownBy verdict.Consistent count = count ≡ 1
IsShownBy (verdict.NotCertain p) count = count ≡ 1
IsShownBy (verdict.NotSame rel attr ent) count = count ≡ 2
IsShownBy v count = ⊥

lists_within : (s : Spec) (q : Question) (budget : ℕ) (v : Verdict) (completions : List Rankings) → IsShownBy v
    (length completions)
    → IsAnswerWithin s q budget (record { verdict = v; completions = completions; log = empty })
unfolding empty
lists_within s q budget verdict.Consistent completions shown = (shown, record { statements = refl; steps = refl })
lists_within s q budget (verdict.NotCertain p) completions shown = (shown, record { statements = refl; steps = refl })
lists_within s q budget (verdict.NotSame rel attr ent) completions shown = (shown, record { statements = refl; steps = refl })
lists_within s q budget verdict.Inconsistent completions shown = absurd shown
lists_within s q budget verdict.Certain completions shown = absurd shown
lists_within s q budget (verdict.Same items) completions shown = absurd shown
lists_within s q budget (verdict.Answers tuples) completions shown = absurd shown
lists_within s q budget (verdict.Undecided counted) completions shown = absurd shown

decided : (s : Spec) (q : Question) (budget : ℕ) (v : Verdict) (completions : List Rankings) → IsShownBy v (length completions)
    → IsDecidedBy s q budget (record { verdict = v; completions = completions; log = empty })
decided s q budget verdict.Consistent completions shown = λ count counts enough. refl
decided s q budget (verdict.NotCertain p) completions shown = λ count counts enough. refl
decided s q budget (verdict.NotSame rel attr ent) completions shown = λ count counts enough. refl
decided s q budget verdict.Inconsistent completions shown = absurd shown
decided s q budget verdict.Certain completions shown = absurd shown
decided s q budget (verdict.Same items) completions shown = absurd shown
decided s q budget (verdict.Answers tuples) completions shown = absurd shown
decided s q budget (verdict.Undecided counted) completions shown = absurd shown

-- what is shown of the completions
pub record AreShown (s : Spec) (completions : List Rankings) : Type 0 where
  pub consistent : All (IsConsistent s) completions
  pub writable : AreFew (IsWritableCompletion s.relations) completions
  pub cover : AllCover completions

pub shown_one : CompletionsAreWritable → (s : Spec) (c : Rankings) → IsWithin s → IsConsistent s c → AreShown s (c ∷ [])
shown_one law s c within is = record {
  consistent = All-cons (IsConsistent s) c [] is (All-nil (IsConsistent s));
  writable = record {
    few = omega arith;
    each = All-cons (IsWritableCompletion s.relations) c [] (law s c within is.completion)
        (All-nil (IsWritableCompletion s.relations));
  };
  cover = All-nil (Covers c);
}

pub shown_two : CompletionsAreWritable → (s : Spec) (c d : Rankings) → IsWithin s → IsConsistent s c
    → IsConsistent s d → AreShown s (c ∷ d ∷ [])
shown_two law s c d within is other = record {
  consistent = All-cons (IsConsistent s) c (d ∷ []) is (All-cons (IsConsistent s) d [] other (All-nil (IsConsistent s)));
  writable = record {
    few = omega arith;
    each = All-cons (IsWritableCompletion s.relations) c (d ∷ []) (law s c within is.completion)
        (All-cons (IsWritableCompletion s.relations) d [] (law s d within other.completion)
        (All-nil (IsWritableCompletion s.relations)));
  };
  cover = All-cons (Covers c) d [] (covers s.relations c d is.completion other.completion) (All-nil (Covers c));
}

-- the same of any list of consistent completions that are few
cover_all : (relations : List Relation) (completions : List Rankings) → All (IsCompletion relations) completions
    → AllCover completions
cover_all relations [] all = tt
cover_all relations (c ∷ completions) all =
    each_has (Covers c) completions (λ k other at.
    covers relations c other (item_has (IsCompletion relations) (c ∷ completions) all zero c refl)
    (item_has (IsCompletion relations) (c ∷ completions) all (suc k) other at))

pub shown_each : CompletionsAreWritable → (s : Spec) (completions : List Rankings) → IsWithin s → All (IsConsistent s) completions
    → length completions ≤ 4294967294 → AreShown s completions
shown_each law s completions within all few = record {
  consistent = all;
  writable = record {
    few = few;
    each = each_has (IsWritableCompletion s.relations) completions
        (λ k c at. law s c within (item_has (IsConsistent s) completions all k c at).completion);
  };
  cover = cover_all s.relations completions
      (each_has (IsCompletion s.relations) completions (λ k c at. (item_has (IsConsistent s) completions all k c at).completion));
}

written_nothing : IsWritable empty
unfolding empty
written_nothing = record {
  answered = refl;
  answers = λ k d below. absurd (omega (arith, below));
  statements = record { few = omega arith; each = λ k d below. absurd (omega (arith, below)) };
  steps = record { few = omega arith; each = λ k d below. absurd (omega (arith, below)) };
}

alone_reported : (s : Spec) (q : Question) (budget : ℕ) (v : Verdict) (completions : List Rankings)
    → AreShown s completions → IsOneOf s q v
    → IsSupported s q v completions empty → IsWritableVerdict s.relations v
    → IsAnswerWithin s q budget (record { verdict = v; completions = completions; log = empty })
    → IsDecidedBy s q budget (record { verdict = v; completions = completions; log = empty })
    → NamesFirst s q v → IsReported s q budget (record { verdict = v; completions = completions; log = empty })
unfolding empty
alone_reported s q budget v completions are one_of supported verdict_written lists enough first = record {
  shown = record {
    sound = record {
      one_of = one_of;
      consistent = are.consistent;
      accepted = λ place step at. let no : ⊥ = cc in absurd no;
    };
    supported = supported;
  };
  writable = record {
    verdict = verdict_written;
    completions = are.writable;
    cover = are.cover;
    log =
        written_nothing;
    well_formed = refl;
  };
  lists = lists;
  enough = enough;
  first = first;
}

-- a report of these completions alone
listed_with : (s : Spec) (q : Question) (budget : ℕ) (v : Verdict) (completions : List Rankings) (r : Report)
    → ListsAlone v completions r
    → AreShown s completions → IsOneOf s q v → ((log : Log) → IsSupported s q v completions log) → IsWritableVerdict s.relations v
    → IsAnswerWithin s q budget (record { verdict = v; completions = completions; log = empty })
    → IsDecidedBy s q budget (record { verdict = v; completions = completions; log = empty })
    → NamesFirst s q v → IsReported s q budget r
unfolding empty
listed_with s q budget v completions r is are one_of supported verdict_written lists enough first =
    let log_is = nothing_is r.log is.answers is.statements is.steps in
    let made : Report = record { verdict = v; completions = completions; log = empty } in
    let verdict_same : r ≡ record { verdict = v; completions = r.completions; log = r.log } =
    ap (λ (x : Verdict). let made : Report = record {
      verdict = x;
      completions = r.completions;
      log =
          r.log;
    } in made) is.verdict in
    let list_same : ◌≡◌ {A = Report} (record { verdict = v; completions = r.completions; log = r.log })
    (record { verdict = v; completions = completions; log = r.log }) =
    ap (λ (x : List Rankings). let made : Report = record { verdict = v; completions = x; log = r.log } in made)
    is.completions_are in
    let log_same : ◌≡◌ {A = Report} (record { verdict = v; completions = completions; log = r.log })
    (record { verdict = v; completions = completions; log = empty }) =
    ap (λ (x : Log). let made : Report = record { verdict = v; completions = completions; log = x } in made) log_is in
    subst (IsReported s q budget) (sym (verdict_same ∙ list_same ∙ log_same))
    (alone_reported s q budget v completions are one_of (supported empty) verdict_written lists enough first)

pub listed_reported : (s : Spec) (q : Question) (budget : ℕ) (v : Verdict) (completions : List Rankings) (r : Report)
    → ListsAlone v completions r
    → AreShown s completions → IsOneOf s q v → ((log : Log) → IsSupported s q v completions log) → IsWritableVerdict s.relations v
    → IsShownBy v (length completions) → NamesFirst s q v → IsReported s q budget r
listed_reported s q budget v completions r is are one_of supported verdict_written shown first =
    listed_with s q budget v completions r is are one_of supported verdict_written
    (lists_within s q budget v completions shown) (decided s q budget v completions shown) first

-- ---- a query that no tuple answers over the listed completions

none_claimed : (s : Spec) (query : Query) (budget : ℕ) → IsOfClaims s (asked.Answers query) budget (verdict.Answers []) empty
unfolding empty
none_claimed s query budget = record {
  goals = [];
  one_each = refl;
  units = λ k need goal at. let no : ⊥ = cc in absurd no;
  needed = record {
    reached = λ place below. absurd (omega (arith, below));
    statements = λ var below. absurd (omega (arith, below));
    answers = λ tuple below. absurd (omega (arith, below));
    counted = let least : 0 ≤ budget = omega arith in least;
    right = record {
      demanded = λ place l lits at. let no : ⊥ = cc in absurd no;
      free = λ place lits hints at. let no : ⊥ = cc in absurd no;
      lean = λ place lits hints counted at. let no : ⊥ = cc in absurd no;
    };
  };
  among = record {
    answers = [];
    numbered = inl refl;
    each = All-nil (Contains (variables_of s (asked.Answers query) 0));
    candidates = All-nil (Contains []);
  };
}

none_common : (s : Spec) (query : Query) (standing : Standing) → AreCandidates s query standing → standing.tuples ≡ []
    → AreCommon s.relations query [] standing.completions
none_common s query standing are none = record {
  each = All-nil (λ (tuple : List Value). All (IsAnswerIn s.relations query tuple) standing.completions);
  all = λ tuple common. subst (λ (tuples : List (List Value)). Contains tuples tuple) none (are.all tuple common);
}

pub none_reported : CompletionsAreWritable → (s : Spec) → IsWithin s → (query : Query) (standing : Standing)
    → AreCandidates s query standing
    → standing.tuples ≡ [] → length standing.completions ≤ 4294967294 → (tuples : List (List Value)) → tuples ≡ []
    → (completions : List Rankings) → completions ≡ standing.completions
    → (r : Report) → ListsAlone (verdict.Answers tuples) completions r → (budget : ℕ)
    → IsReported s (asked.Answers query) budget r
none_reported law s within query standing are none few tuples no_tuples completions same r is budget =
    let lists = subst (λ (ts : List (List Value)). ListsAlone (verdict.Answers ts) standing.completions r) no_tuples
    (subst (λ (cs : List Rankings). ListsAlone (verdict.Answers tuples) cs r) same is) in
    listed_with s (asked.Answers query) budget (verdict.Answers []) standing.completions r lists
    (shown_each law s standing.completions within are.consistent few) (subst AreAscending none are.ascending)
    (λ log. (are.some, All-nil (IsDerived s.relations log), none_common s query standing are none))
    (record { few = omega arith; each = All-nil (AreFew IsValue) }) (are.some, lacks, none_claimed s query budget)
    (λ count counts enough. refl) tt
  where
    lacks : EachLacksOne s (asked.Answers query) standing.completions
    lacks own e =
        subst (λ (x : Query). EachRefutes s.relations x standing.completions) (same_Some query own e) are.refuting

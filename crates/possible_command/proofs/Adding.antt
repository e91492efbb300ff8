-- Findings that are told one after another.
use Rattle.std.proofs.Common.{◌≡◌, ◌∙◌, ◌+◌, ◌≤◌, ◌++◌, ◌∷◌, [], ℕ, List, Some, ap, append_assoc, drop, length, refl}
use Rattle.std.proofs.Common.{slice_get, subst, sym}
use Rattle.std.proofs.lemmas.List.{append-nil, drop_all, drop_more}
use Rattle.std.proofs.lemmas.Option.{get_or_from_slice_get, slice_get_within}
use Rattle.posed_facts.specs.declared.fact.Fact.{Fact}
use Rattle.possible_values.specs.declared.candidates.Candidate.{Candidate}
use Rattle.possible_values.specs.declared.found.Found.{Found}
use Rattle.report_model.specs.declared.report.Report.{Report}
use Rattle.decided_facts.specs.declared.shown.Shown.{Shown}
use Rattle.decided_facts.specs.declared.shown.Shown.TheVariants as shown
use Rattle.spec_model.specs.Spec.{Spec}
use Rattle.spec_model.specs.declared.relation.Relation.{Relation}
use Rattle.text_write.specs.Pieces.{text_of}
use Rattle.possible_command.specs.Possible.{AreCounters}
use Rattle.possible_command.specs.Possible.AreCounters.{none, passed, countered}
use Rattle.possible_command.specs.Text.{brief_findings, counter_text, impossible_pieces, whole_findings}
use Rattle.possible_command.specs.Findings.{AreAdded, IsAdded, IsAddedAt, finding_pieces}

-- what is left begins with the item that is read
left_more : {A : Type 0} (xs : List A) (i : ℕ) (x : A) → slice_get xs i ≡ Some x → drop i xs ≡ x ∷ drop (i + 1) xs
left_more xs i x at =
    drop_more xs i x (slice_get_within xs i x at)
    ∙ ap (λ y. y ∷ drop (i + 1) xs) (get_or_from_slice_get xs i x x at)

-- ---- lines alone

-- the line of a finding comes before those of the others
line_first : (relations : List Relation) (one : Candidate) (x : Shown) (candidates : List Candidate) (list : List Shown)
    → text_of (finding_pieces relations one x) ++ brief_findings relations candidates list
    ≡ brief_findings relations (one ∷ candidates) (x ∷ list)
line_first relations one (shown.FailsIn place) candidates list = refl
line_first relations one shown.Holds candidates list = refl

-- the lines that are left come after one line more
pub line_more : (relations : List Relation) (candidates : List Candidate) (list : List Shown) (i : ℕ) (one : Candidate)
    (x : Shown) (before after : List ℕ) → slice_get candidates i ≡ Some one → slice_get list i ≡ Some x
    → after ≡ before ++ text_of (finding_pieces relations one x)
    → after ++ brief_findings relations (drop (i + 1) candidates) (drop (i + 1) list)
    ≡ before ++ brief_findings relations (drop i candidates) (drop i list)
line_more relations candidates list i one x before after at_one at_x put =
    let rest = brief_findings relations (drop (i + 1) candidates) (drop (i + 1) list) in
    ap (λ (t : List ℕ). t ++ rest) put ∙ append_assoc before (text_of (finding_pieces relations one x)) rest
    ∙ ap (λ (t : List ℕ). before ++ t) (line_first relations one x (drop (i + 1) candidates) (drop (i + 1) list))
    ∙ ap (λ (cs : List Candidate). before ++ brief_findings relations cs (x ∷ drop (i + 1) list))
    (sym (left_more candidates i one at_one))
    ∙ ap (λ (xs : List Shown). before ++ brief_findings relations (drop i candidates) xs) (sym (left_more list i x at_x))

-- ---- with reports

-- all findings are told with some reports, where those that are left are told after this text with any
pub record IsWithRest (s : Spec) (budget : ℕ) (f : Found) (old : List ℕ) (place : ℕ) (new : List ℕ) (rest : List Report)
    : Type 0 where
  pub reports : List Report
  pub are_counters : AreCounters s budget f.facts f.shown reports
  pub text : new ++ whole_findings s.relations (drop place f.candidates) (drop place f.facts) (drop place f.shown) rest
      ≡ old ++ whole_findings s.relations f.candidates f.facts f.shown reports

abbrev pub GoesOn : Spec → ℕ → Found → List ℕ → ℕ → List ℕ → Type 0
GoesOn s budget f old place new = (rest : List Report) → AreCounters s budget (drop place f.facts) (drop place f.shown) rest
    → IsWithRest s budget f old place new rest

-- at the start all are left
pub begins : (s : Spec) (budget : ℕ) (f : Found) (old : List ℕ) → GoesOn s budget f old 0 old
begins s budget f old rest counters = record { reports = rest; are_counters = counters; text = refl }

-- what is left at a place, given what is left after it
record AreLeft (s : Spec) (budget : ℕ) (one : Candidate) (fact : Fact) (x : Shown) (candidates : List Candidate)
    (facts : List Fact) (list : List Shown) (before after : List ℕ) (rest : List Report) : Type 0 where
  pub reports : List Report
  pub are_counters : AreCounters s budget (fact ∷ facts) (x ∷ list) reports
  pub text : after ++ whole_findings s.relations candidates facts list rest
      ≡ before ++ whole_findings s.relations (one ∷ candidates) (fact ∷ facts) (x ∷ list) reports

one_left : (s : Spec) (budget : ℕ) (one : Candidate) (fact : Fact) (x : Shown) (candidates : List Candidate)
    (facts : List Fact) (list : List Shown) (before after : List ℕ) (rest : List Report)
    → IsAdded s budget one fact x before after → AreCounters s budget facts list rest
    → AreLeft s budget one fact x candidates facts list before after rest
one_left s budget one fact (shown.FailsIn place) candidates facts list before after rest added counters = record {
  reports = rest;
  are_counters = passed counters;
  text = ap (λ (t : List ℕ). t ++ whole_findings s.relations candidates facts list rest) added
      ∙ append_assoc before _ (whole_findings s.relations candidates facts list rest);
}
one_left s budget one fact shown.Holds candidates facts list before after rest added counters = record {
  reports = added.report ∷ rest;
  are_counters = countered added.is_counter counters;
  text =
      ap (λ (t : List ℕ). t ++ whole_findings s.relations candidates facts list rest) added.text
      ∙ append_assoc before (line ++ counter) (whole_findings s.relations candidates facts list rest)
      ∙ ap (λ (t : List ℕ). before ++ t) (append_assoc line counter (whole_findings s.relations candidates facts list rest));
}
  where
    line : List ℕ
    line = text_of (impossible_pieces s.relations one)

    counter : List ℕ
    counter = counter_text s.relations fact added.report

-- one finding more is told
pub goes_more : (s : Spec) (budget : ℕ) (f : Found) (old : List ℕ) (i : ℕ) (new after : List ℕ)
    → IsAddedAt s budget f i new after → GoesOn s budget f old i new → GoesOn s budget f old (i + 1) after
goes_more s budget f old i new after at so_far rest counters =
    let left = one_left s budget at.one at.fact at.finding (drop (i + 1) f.candidates) (drop (i + 1) f.facts)
    (drop (i + 1) f.shown) new after rest at.added counters in
    let cs = sym (left_more f.candidates i at.one at.is_one) in
    let fs = sym (left_more f.facts i at.fact at.is_fact) in
    let xs = sym (left_more f.shown i at.finding at.is_finding) in
    let here = so_far left.reports
    (subst (λ (x : List Shown). AreCounters s budget (drop i f.facts) x left.reports) xs
    (subst (λ (x : List Fact). AreCounters s budget x (at.finding ∷ drop (i + 1) f.shown) left.reports) fs left.are_counters)) in
    record {
      reports = here.reports;
      are_counters = here.are_counters;
      text = left.text
          ∙ ap (λ (x : List Candidate). new ++ whole_findings s.relations x (at.fact ∷ drop (i + 1) f.facts)
          (at.finding ∷ drop (i + 1) f.shown) left.reports) cs
          ∙ ap (λ (x : List Fact). new ++ whole_findings s.relations (drop i f.candidates) x
          (at.finding ∷ drop (i + 1) f.shown) left.reports) fs
          ∙ ap (λ (x : List Shown). new ++ whole_findings s.relations (drop i f.candidates) (drop i f.facts) x left.reports) xs
          ∙ here.text;
    }

-- none is left
nothing_left : (relations : List Relation) (facts : List Fact) (list : List Shown) (reports : List Report)
    → whole_findings relations [] facts list reports ≡ []
nothing_left relations facts list reports = refl

-- at the end all are told
pub all_added : (s : Spec) (budget : ℕ) (f : Found) (old : List ℕ) (place : ℕ) (new : List ℕ)
    → length f.candidates ≤ place → length f.facts ≡ length f.candidates → length f.shown ≡ length f.candidates
    → GoesOn s budget f old place new → AreAdded s budget f old new
all_added s budget f old place new past facts shown so_far =
    let cs = drop_all place f.candidates past in
    let fs = drop_all place f.facts (rw (sym facts) at past) in
    let xs = drop_all place f.shown (rw (sym shown) at past) in
    let whole = so_far []
    (subst (λ (x : List Shown). AreCounters s budget (drop place f.facts) x []) (sym xs)
    (subst (λ (x : List Fact). AreCounters s budget x [] []) (sym fs) none)) in
    record {
      reports = whole.reports;
      are_counters = whole.are_counters;
      text = sym (append-nil new)
          ∙ ap (λ (t : List ℕ). new ++ t)
          (sym (ap (λ (x : List Candidate). whole_findings s.relations x (drop place f.facts) (drop place f.shown) []) cs
          ∙ nothing_left s.relations (drop place f.facts) (drop place f.shown) []))
          ∙ whole.text;
    }

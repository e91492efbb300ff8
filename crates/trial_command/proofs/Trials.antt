-- The questions of `trial`, answered in turn.
use Rattle.std.proofs.Common.{◌≡◌, ◌∙◌, ◌++◌, ◌+◌, ◌≤◌, ℕ, suc, Bool, true, false, IfOk, IfErr, List, [], ◌∷◌, length, take, get_or, slice_get, codes, Option, Some, Result, Ok, Err, ap, refl, sym, subst, inl, inr, arith}
use Rattle.std.proofs.lemmas.List.{append-nil, append_assoc, take_all}
use Rattle.std.proofs.lemmas.Option.{get_or_from_slice_get, slice_get_within}
use Rattle.std.proofs.lemmas.Slice.Zip.{all_zipped_more}
use Rattle.std.proofs.Math.Seq.{take-suc}
use Rattle.currency_ask.specs.Answered.{HasTooMany}
use Rattle.report_model.specs.Verdicts.{is_decided, kind_of}
use Rattle.report_model.specs.declared.report.Report.{Report}
use Rattle.report_write.specs.Pieces.{report_pieces}
use Rattle.spec_model.specs.Completion.{Rankings}
use Rattle.spec_model.specs.Spec.{Spec}
use Rattle.spec_model.specs.declared.question.Question.{Question}
use Rattle.spec_model.specs.declared.relation.Relation.{Relation}
use Rattle.text_write.specs.Pieces.{text_of}
use Rattle.command_stages.specs.Named.{IsDetermined, IsDeterminedTrouble}
use Rattle.command_stages.specs.Stages.{IsQuestionRead, IsSpecRead}
use Rattle.command_stages.specs.Endings.{ending_of}
use Rattle.answer_texts.specs.Answers.{IsAnswer, answer_done, answer_text}
use Rattle.command_stages.specs.declared.done.Ending.TheVariants as ending
use Rattle.trial_command.specs.Trial.{AreDecided, AreQuestionsRead, AreTried, IsDecided, IsTrialDueOver, head_text, report_line, report_lines, summary_text, trial_budget}
use Rattle.command_stages.specs.declared.done.Done.{Done}
use Rattle.command_stages.specs.declared.trouble.Trouble.{Trouble}
use Rattle.command_stages.specs.declared.trouble.Trouble.TheVariants as trouble

-- ---- the summary

lines_more : (rs : List Report) (r : Report) → report_lines (rs ++ r ∷ []) ≡ report_lines rs ++ report_line r
lines_more [] r = append-nil (report_line r)
lines_more (x ∷ rs) r = ap (λ (t : List ℕ). report_line x ++ t) (lines_more rs r)
    ∙ sym (append_assoc (report_line x) (report_lines rs) (report_line r))

summary_more : (size : ℕ) (rs : List Report) (r : Report) (old new : List ℕ) → old ≡ summary_text size rs → new ≡ old
    ++ report_line r
    → new ≡ summary_text size (rs ++ r ∷ [])
summary_more size rs r old new before is =
    is ∙ ap (λ (t : List ℕ). t ++ report_line r) before ∙ append_assoc (head_text size) (report_lines rs) (report_line r)
    ∙ ap (λ (t : List ℕ). head_text size ++ t) (sym (lines_more rs r))

-- ---- the questions so far

-- the first questions are decided, and the summary has their lines
pub record AreSoFar (size : ℕ) (s : Spec) (questions : List Question) (place : ℕ) (summary : List ℕ) : Type 0 where
  pub reports : List Report
  pub decided : AreDecided s (take place questions) reports
  pub is_text : summary ≡ summary_text size reports

pub none_so_far : (size : ℕ) (s : Spec) (questions : List Question) (summary : List ℕ) → summary ≡ head_text size
    → AreSoFar size s questions 0 summary
none_so_far size s questions summary is = record { reports = []; decided = tt; is_text = is ∙ sym (append-nil (head_text size)) }

take_next : (questions : List Question) (place : ℕ) (q : Question) → slice_get questions place ≡ Some q
    → take (place + 1) questions ≡ take place questions ++ q ∷ []
take_next questions place q asked =
    let next : take (suc place) questions ≡ take place questions ++ (get_or questions place q ∷ []) =
    take-suc questions place q (slice_get_within questions place q asked) in
    let is : get_or questions place q ≡ q = get_or_from_slice_get questions place q q asked in
    let same : place + 1 ≡ suc place = omega arith in
    ap (λ (n : ℕ). take n questions) same ∙ next ∙ ap (λ (x : Question). take place questions ++ x ∷ []) is

pub one_more : (size : ℕ) (s : Spec) (questions : List Question) (place : ℕ) (q : Question) (r : Report) (old new : List ℕ)
    → AreSoFar size s questions place old → slice_get questions place ≡ Some q → IsAnswer s q trial_budget r
    → is_decided (kind_of r.verdict) ≡ true
    → new ≡ old ++ report_line r → AreSoFar size s questions (place + 1) new
one_more size s questions place q r old new so_far asked answer decided is = record {
  reports = so_far.reports ++ r ∷ [];
  decided = subst (λ (qs : List Question). AreDecided s qs (so_far.reports ++ r ∷ [])) (sym (take_next questions place q asked))
      (all_zipped_more (IsDecided s) (take place questions) so_far.reports q r so_far.decided
      (record { answer = answer; decided = decided }));
  is_text = summary_more size so_far.reports r old new so_far.is_text is;
}

-- ---- how it ends

pub all_summed : (size : ℕ) (s : Spec) (questions : List Question) (place : ℕ) (summary text : List ℕ)
    → AreSoFar size s questions place summary → length questions ≤ place → text ≡ summary
    → AreTried size s questions (Ok (record { text = text; ending = ending.Decided }))
all_summed size s questions place summary text so_far whole is = inl (record {
  reports = so_far.reports;
  decided = subst (λ (qs : List Question). AreDecided s qs so_far.reports) (take_all place questions whole) so_far.decided;
  is_text = ap (λ (t : List ℕ). Ok (record { text = t; ending = ending.Decided })) (is ∙ so_far.is_text);
})

spent_at : (size : ℕ) (s : Spec) (questions : List Question) (place : ℕ) (summary : List ℕ) (q : Question)
    (r : Report) (outcome : Result Done Trouble)
    → AreSoFar size s questions place summary → slice_get questions place ≡ Some q → IsAnswer s q trial_budget r
    → is_decided (kind_of r.verdict) ≡ false
    → outcome ≡ Ok (record { text = text_of (report_pieces s.relations r); ending = ending.Undecided })
    → AreTried size s questions outcome
spent_at size s questions place summary q r outcome so_far asked answer undecided is = inr (inl (record {
  place = place;
  question = q;
  asked = asked;
  earlier = so_far.reports;
  decided = so_far.decided;
  report = r;
  answer = answer;
  undecided = undecided;
  is_text = is;
}))

not_decided : (s : Spec) (r : Report) (decided : Bool) (d : Done) → decided ≡ false
    → d ≡ record { text = answer_text s.relations false r; ending = ending_of decided }
    → ◌≡◌ {A = Result Done Trouble} (Ok d)
    (Ok (record { text = text_of (report_pieces s.relations r); ending = ending.Undecided }))
not_decided s r decided d undecided is =
    ap Ok (is ∙ ap (λ (b : Bool). let made : Done = record {
      text = text_of (report_pieces s.relations r);
      ending =
          ending_of b;
    } in made) undecided)

pub spent_printed : (size : ℕ) (s : Spec) (questions : List Question) (place : ℕ) (summary : List ℕ) (q : Question)
    (r : Report) (outcome : Result Done Trouble)
    → AreSoFar size s questions place summary → slice_get questions place ≡ Some q → IsAnswer s q trial_budget r
    → is_decided (kind_of r.verdict) ≡ false
    → IfOk outcome (λ d. d ≡ answer_done s.relations false r) → IfErr outcome (λ e. e ≡ trouble.NoMemory)
    → IsDetermined outcome → AreTried size s questions outcome
spent_printed size s questions place summary q r (Ok d) so_far asked answer undecided told memory determined =
    spent_at size s questions place summary q r (Ok d) so_far asked answer undecided
    (not_decided s r (is_decided (kind_of r.verdict)) d undecided told)
spent_printed size s questions place summary q r (Err e) so_far asked answer undecided told memory determined =
    absurd (subst IsDeterminedTrouble memory determined)

pub past_limit : (size : ℕ) (s : Spec) (questions : List Question) (place : ℕ) (q : Question) (e : Trouble)
    → slice_get questions place ≡ Some q
    → (IsDeterminedTrouble e → (c : Rankings) × HasTooMany s q c × (e ≡ trouble.Limit 3)) → IsDeterminedTrouble e
    → AreTried size s questions (Err e)
past_limit size s questions place q e asked told determined =
    let h : (c : Rankings) × HasTooMany s q c × (e ≡ trouble.Limit 3) = told determined in
    inr (inr (record { place = place; question = q; asked = asked; completion = h.0; too_many = h.1; is_limit = ap Err h.2 }))

-- ---- the stages

-- documents that are the same tell the same
pub moved : (new old : List (List ℕ × List ℕ)) (P : List (List ℕ × List ℕ) → Type 0)
    → ◌≡◌ {A = Option (List (List ℕ × List ℕ))} (Some new) (Some old) → P new → P old
moved new old P kept h = let same : new ≡ old = cc in subst P same h

pub second_refused : (told : List (List ℕ × List ℕ)) (relations : List Relation) (a : Question) (e : Trouble)
    → IsQuestionRead told relations (codes "q1") (Ok a)
    → IsQuestionRead told relations (codes "q2") (Err e) → AreQuestionsRead told relations (Err e)
second_refused told relations a e first second = (Ok a, first, (Err e, second, refl))

pub third_refused : (told : List (List ℕ × List ℕ)) (relations : List Relation) (a b : Question) (e : Trouble)
    → IsQuestionRead told relations (codes "q1") (Ok a)
    → IsQuestionRead told relations (codes "q2") (Ok b) → IsQuestionRead told relations (codes "q3") (Err e)
    → AreQuestionsRead told relations (Err e)
third_refused told relations a b e first second third = (Ok a, first, (Ok b, second, (Err e, third, refl)))

pub fourth_refused : (told : List (List ℕ × List ℕ)) (relations : List Relation) (a b c : Question) (e : Trouble)
    → IsQuestionRead told relations (codes "q1") (Ok a)
    → IsQuestionRead told relations (codes "q2") (Ok b) → IsQuestionRead told relations (codes "q3") (Ok c)
    → IsQuestionRead told relations (codes "q4") (Err e)
    → AreQuestionsRead told relations (Err e)
fourth_refused told relations a b c e first second third fourth =
    (Ok a, first, (Ok b, second, (Ok c, third, (Err e, fourth, refl))))

pub all_read : (told : List (List ℕ × List ℕ)) (relations : List Relation) (a b c d : Question) (questions : List Question)
    → IsQuestionRead told relations (codes "q1") (Ok a) → IsQuestionRead told relations (codes "q2") (Ok b)
    → IsQuestionRead told relations (codes "q3") (Ok c)
    → IsQuestionRead told relations (codes "q4") (Ok d) → questions ≡ a ∷ b ∷ c ∷ d ∷ [] → AreQuestionsRead told
    relations (Ok questions)
all_read told relations a b c d questions first second third fourth is =
    (Ok a, first, (Ok b, second, (Ok c, third, (Ok d, fourth, ap Ok is))))

pub questions_refused : (told : List (List ℕ × List ℕ)) (size : ℕ) (s : Spec) (e : Trouble) → IsSpecRead told
    (codes "spec") (Ok s)
    → AreQuestionsRead told s.relations (Err e) → IsTrialDueOver told size (Err e)
questions_refused told size s e spec questions = (Ok s, spec, (Err e, questions, refl))

pub trial_due : (told : List (List ℕ × List ℕ)) (size : ℕ) (s : Spec) (questions : List Question) (outcome : Result Done Trouble)
    → IsSpecRead told (codes "spec") (Ok s) → AreQuestionsRead told s.relations (Ok questions) → AreTried size s questions outcome
    → IsTrialDueOver told size outcome
trial_due told size s questions outcome spec read tried = (Ok s, spec, (Ok questions, read, tried))

-- Steps are read as they are spelled, with their lines.
use Rattle.std.proofs.Common.{◌≡◌, ℕ, Bool, true, false, ◌||◌, List, [], ◌∷◌, ◌++◌, ◌⊎◌, inl, inr, map, refl, sym, ap, subst, ◌∙◌, append_assoc, codes}
use Rattle.std.proofs.lemmas.List.{append-nil, length-map}
use Rattle.text_tokens.specs.Lexeme.{Lexeme}
use Rattle.text_tokens.specs.declared.token.TokenKind.TheVariants.{Word, Symbol}
use Rattle.text_grammar.specs.Words.{is_word, is_symbol}
use Rattle.text_grammar.specs.Grammar.{Language, ◌⋅◌, IsSymbol, IsWord}
use Rattle.text_grammar.specs.Reading.{after, both}
use Rattle.text_grammar.specs.Laws.{IsReader}
use Rattle.text_grammar.proofs.Readers.{always, Begins, Image, first_then, reads_made, reads_same, reads_then}
use Rattle.text_grammar.proofs.Choices.{Either}
use Rattle.text_grammar.proofs.FixedTokens.{after_symbol, after_word, before_symbol, begins_fixed}
use Rattle.currency_base.specs.declared.lit.Lit.{Lit}
use Rattle.refutation_log.specs.declared.step.Label.{Label}
use Rattle.refutation_log.specs.declared.step.Step.{Step}
use Rattle.refutation_log.specs.declared.step.Step.TheVariants.{Axiom, OnDemand, Learn}
use Rattle.log_syntax.specs.declared.trees.SaidSteps.{SaidSteps}
use Rattle.log_syntax.specs.declared.trees.StepOnLine.{StepOnLine}
use Rattle.log_syntax.specs.Numbers.{lit_in, says_some}
use Rattle.log_syntax.specs.Grammar.{SpellsEndedStep, SpellsHints, SpellsLabel, SpellsLits, SpellsStep, SpellsSteps, UpTo}
use Rattle.log_syntax.specs.Reading.{axiom_at, begins_step, demand_at, derive_at, ended_step_at, hints_at, label_at, learn_at, lits_at, no_step_said, put_all, step_at, stepped, steps_at}
use Rattle.log_syntax.proofs.Keywords.{AnswersAt, BeginsWith, CaseOn, case_on_begins, either_on_begins, reads_case_on, reads_cases_on}
use Rattle.log_syntax.proofs.Rules.{ends_lits, ends_numbers, label_ends, lits_end, numbers_end, reads_hints, reads_label, reads_lits}
use Rattle.log_syntax.proofs.Tokens.{by_no_lit}
use Rattle.log_syntax.proofs.UpToReaders.{ended_within, ends_alike, ends_within, reads_up_to}

-- ---- one step

-- what ends a step: a literal or a hint goes on with it
abbrev ends_step : Step → Lexeme → Bool
ends_step (Axiom l lits) t = ends_lits lits t
ends_step (OnDemand l lits) t = ends_lits lits t
ends_step (Learn lits hints counted) t = ends_numbers hints t

abbrev ends_step_on : StepOnLine → Lexeme → Bool
ends_step_on s = ends_step s.step

abbrev Labelled : Label × List Lit → Language
Labelled x = SpellsLabel x.0 ⋅ IsSymbol (codes ":") ⋅ SpellsLits x.1

abbrev Following : List Lit × List ℕ → Language
Following x = SpellsLits x.0 ⋅ IsWord (codes "by") ⋅ SpellsHints x.1

reads_labelled : IsReader Labelled (λ x. ends_lits x.1) (both label_at (after (is_symbol (codes ":")) lits_at))
reads_labelled = reads_then reads_label (after_symbol (codes ":") reads_lits) (is_symbol (codes ":"))
    (begins_fixed SpellsLits Symbol (codes ":") (is_symbol (codes ":")) true (λ t e. e)) label_ends

reads_following : IsReader Following (λ x. ends_numbers x.1) (both lits_at (after (is_word (codes "by")) hints_at))
reads_following = reads_then reads_lits (after_word (codes "by") reads_hints) (is_word (codes "by"))
    (begins_fixed SpellsHints Word (codes "by") (is_word (codes "by")) true (λ t e. e))
    (ended_within 4294967294 (says_some lit_in) (is_word (codes "by")) by_no_lit)

abbrev axiom_of : ℕ × (Label × List Lit) → StepOnLine
axiom_of x = record { line = x.0; step = Axiom x.1.0 x.1.1 }

abbrev demand_of : ℕ × (Label × List Lit) → StepOnLine
demand_of x = record { line = x.0; step = OnDemand x.1.0 x.1.1 }

abbrev learn_of : ℕ × (List Lit × List ℕ) → StepOnLine
learn_of x = record { line = x.0; step = Learn x.1.0 x.1.1 true }

abbrev derive_of : ℕ × (List Lit × List ℕ) → StepOnLine
derive_of x = record { line = x.0; step = Learn x.1.0 x.1.1 false }

reads_axiom : IsReader (CaseOn (codes "axiom") axiom_of Labelled) ends_step_on axiom_at
unfolding axiom_at
reads_axiom = reads_case_on (codes "axiom") reads_labelled axiom_of ends_step_on (λ a t. refl)

reads_demand : IsReader (CaseOn (codes "demand") demand_of Labelled) ends_step_on demand_at
unfolding demand_at
reads_demand = reads_case_on (codes "demand") reads_labelled demand_of ends_step_on (λ a t. refl)

reads_learn : IsReader (CaseOn (codes "learn") learn_of Following) ends_step_on learn_at
unfolding learn_at
reads_learn = reads_case_on (codes "learn") reads_following learn_of ends_step_on (λ a t. refl)

reads_derive : IsReader (CaseOn (codes "derive") derive_of Following) ends_step_on derive_at
unfolding derive_at
reads_derive = reads_case_on (codes "derive") reads_following derive_of ends_step_on (λ a t. refl)

abbrev FromDerive : StepOnLine → Language
FromDerive = CaseOn (codes "derive") derive_of Following

abbrev FromLearn : StepOnLine → Language
FromLearn = Either (CaseOn (codes "learn") learn_of Following) FromDerive

abbrev FromDemand : StepOnLine → Language
FromDemand = Either (CaseOn (codes "demand") demand_of Labelled) FromLearn

abbrev FromAxiom : StepOnLine → Language
FromAxiom = Either (CaseOn (codes "axiom") axiom_of Labelled) FromDemand

abbrev words_derive : List (List ℕ)
words_derive = codes "derive" ∷ []

abbrev words_learn : List (List ℕ)
words_learn = codes "learn" ∷ words_derive

abbrev words_demand : List (List ℕ)
words_demand = codes "demand" ∷ words_learn

begins_derive : BeginsWith words_derive FromDerive
begins_derive = case_on_begins (codes "derive") derive_of Following

begins_learn : BeginsWith words_learn FromLearn
begins_learn = either_on_begins (codes "learn") words_derive learn_of Following FromDerive begins_derive

begins_demand : BeginsWith words_demand FromDemand
begins_demand = either_on_begins (codes "demand") words_learn demand_of Labelled FromLearn begins_learn

begins_axiom : BeginsWith (codes "axiom" ∷ words_demand) FromAxiom
begins_axiom = either_on_begins (codes "axiom") words_demand axiom_of Labelled FromDemand begins_demand

-- a step on its line
abbrev StepOn : StepOnLine → Language
StepOn s = SpellsStep s.line s.step

step_spelled : (s : StepOnLine) (tokens : List Lexeme) → FromAxiom s tokens → StepOn s tokens
step_spelled s tokens (inl h) = subst (λ (s : StepOnLine). StepOn s tokens) h.is h.spelled
step_spelled s tokens (inr (inl h)) = subst (λ (s : StepOnLine). StepOn s tokens) h.is h.spelled
step_spelled s tokens (inr (inr (inl h))) = subst (λ (s : StepOnLine). StepOn s tokens) h.is h.spelled
step_spelled s tokens (inr (inr (inr h))) = subst (λ (s : StepOnLine). StepOn s tokens) h.is h.spelled

spelled_step : (line : ℕ) (s : Step) (tokens : List Lexeme) → SpellsStep line s tokens
    → FromAxiom (record { line = line; step = s }) tokens
spelled_step line (Axiom l lits) tokens h = inl (record { tree = (line, (l, lits)); is = refl; spelled = h })
spelled_step line (OnDemand l lits) tokens h = inr (inl (record { tree = (line, (l, lits)); is = refl; spelled = h }))
spelled_step line (Learn lits hints true) tokens h =
    inr (inr (inl (record { tree = (line, (lits, hints)); is = refl; spelled = h })))
spelled_step line (Learn lits hints false) tokens h =
    inr (inr (inr (record { tree = (line, (lits, hints)); is = refl; spelled = h })))

reads_step : IsReader StepOn ends_step_on step_at
unfolding step_at
reads_step = reads_same
    (reads_cases_on (codes "axiom") words_demand axiom_of Labelled reads_axiom
    (reads_cases_on (codes "demand") words_learn demand_of Labelled reads_demand
    (reads_cases_on (codes "learn") words_derive learn_of Following reads_learn reads_derive begins_derive (refl, tt))
    begins_learn (refl, (refl, tt)))
    begins_demand (refl, (refl, (refl, tt))))
    step_spelled (λ s tokens h. spelled_step s.line s.step tokens h)

step_ends : (s : Step) (t : Lexeme) → is_symbol (codes ";") t ≡ true → ends_step s t ≡ true
step_ends (Axiom l lits) t e = lits_end (codes ";") lits t e
step_ends (OnDemand l lits) t e = lits_end (codes ";") lits t e
step_ends (Learn lits hints counted) t e = numbers_end (codes ";") hints t e

pub reads_ended_step : IsReader SpellsEndedStep always ended_step_at
unfolding ended_step_at
reads_ended_step = before_symbol (codes ";") reads_step (λ s t e. step_ends s.step t e)

-- the words that begin a step are those of its kinds
step_words : AnswersAt begins_step true (codes "axiom" ∷ words_demand)
step_words = (
  (λ t e. ap (λ (b : Bool). b || is_word (codes "demand") t || is_word (codes "learn") t || is_word (codes "derive") t) e),
  (
    (λ t e. second (is_word (codes "axiom") t) (is_word (codes "demand") t) (is_word (codes "learn") t)
        (is_word (codes "derive") t) (inl e)),
    (
      (λ t e. second (is_word (codes "axiom") t) (is_word (codes "demand") t) (is_word (codes "learn") t)
          (is_word (codes "derive") t) (inr (inl e))),
      (
        (λ t e. second (is_word (codes "axiom") t) (is_word (codes "demand") t) (is_word (codes "learn") t)
            (is_word (codes "derive") t) (inr (inr e))),
        tt,
      ),
    ),
  ),
)
  where
    second : (a b c d : Bool) → (b ≡ true) ⊎ (c ≡ true) ⊎ (d ≡ true) → a || b || c || d ≡ true
    second true b c d e = refl
    second false true c d e = refl
    second false false true d e = refl
    second false false false d (inr (inr e)) = e
    second false false false d (inl e) = absurd (cc)
    second false false false d (inr (inl e)) = absurd (cc)

pub begins_ended_step : Begins begins_step true SpellsEndedStep
begins_ended_step s tokens h =
    first_then begins_step true (λ front k. begins_axiom begins_step true step_words s front
    (spelled_step s.line s.step front k)) h

-- ---- steps

pub same_steps : (steps steps' : List Step) (lines lines' : List ℕ) → steps ≡ steps' → lines ≡ lines'
    → ◌≡◌ {A = SaidSteps} (record { steps = steps; lines = lines }) (record { steps = steps'; lines = lines' })
same_steps steps steps' lines lines' e f =
    let make : List Step → List ℕ → SaidSteps = λ s l. record { steps = s; lines = l } in
    ap (λ s. make s lines) e ∙ ap (λ l. make steps' l) f

-- the steps and the lines of steps on their lines
abbrev pub steps_of : List StepOnLine → List Step
steps_of trees = map (λ s. s.step) trees

abbrev pub step_lines_of : List StepOnLine → List ℕ
step_lines_of trees = map (λ s. s.line) trees

-- steps after others
abbrev steps_with : SaidSteps → List StepOnLine → SaidSteps
steps_with said trees = record { steps = said.steps ++ steps_of trees; lines = said.lines ++ step_lines_of trees }

all_stepped : (said : SaidSteps) (trees : List StepOnLine) → put_all stepped said trees ≡ steps_with said trees
all_stepped said [] = same_steps said.steps (said.steps ++ []) said.lines (said.lines ++ [])
    (sym (append-nil said.steps)) (sym (append-nil said.lines))
all_stepped said (s ∷ trees) =
    all_stepped (stepped said s) trees
    ∙ same_steps _ _ _ _ (append_assoc said.steps (s.step ∷ []) (steps_of trees))
    (append_assoc said.lines (s.line ∷ []) (step_lines_of trees))

-- what ends steps
abbrev pub ends_steps : List Step → Lexeme → Bool
ends_steps = ends_within 4294967294 begins_step

abbrev pub SteppedBy : SaidSteps → Language
SteppedBy said = SpellsSteps said.steps said.lines

pub reads_steps : IsReader SteppedBy (λ said. ends_steps said.steps) steps_at
unfolding steps_at
reads_steps = reads_made
    (reads_up_to reads_ended_step begins_step begins_ended_step 4294967294)
    (put_all stepped no_step_said) (λ said. ends_steps said.steps) same into back
  where
    same : (trees : List StepOnLine) (t : Lexeme)
        → ends_steps (put_all stepped no_step_said trees).steps t ≡ ends_within 4294967294 begins_step trees t
    same trees t =
        ap (λ (said : SaidSteps). ends_steps said.steps t) (all_stepped no_step_said trees)
        ∙ ends_alike 4294967294 begins_step (steps_of trees) trees t (length-map trees (λ s. s.step))

    into : (trees : List StepOnLine) (tokens : List Lexeme) → UpTo 4294967294 SpellsEndedStep trees tokens
        → SteppedBy (put_all stepped no_step_said trees) tokens
    into trees tokens h = record {
      trees = trees;
      steps_are = ap (λ (said : SaidSteps). said.steps) (all_stepped no_step_said trees);
      lines_are = ap (λ (said : SaidSteps). said.lines) (all_stepped no_step_said trees);
      spelled = h;
    }

    back : (said : SaidSteps) (tokens : List Lexeme) → SteppedBy said tokens
        → Image (put_all stepped no_step_said) (UpTo 4294967294 SpellsEndedStep) said tokens
    back said tokens h = record {
      tree = h.trees;
      is = all_stepped no_step_said h.trees ∙ same_steps (steps_of h.trees) said.steps (step_lines_of h.trees)
          said.lines (sym h.steps_are) (sym h.lines_are);
      spelled = h.spelled;
    }

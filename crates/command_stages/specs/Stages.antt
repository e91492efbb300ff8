-- Stages, each with its outcome: the specification with its tables, and the question with its tables.
use Rattle.std.specs.Prelude.{◌≡◌, ◌⊎◌, ◌<◌, ◌≤◌, ℕ, List, length, unwrap_or, Result, Ok, Err, MatchResult}
use Rattle.currency_base.specs.declared.error_code.ErrorCode.TheVariants as code
use Rattle.currency_edge.specs.Shelf.{document}
use Rattle.text_tokens.specs.declared.token.TextFault.{TextFault}
use Rattle.text_tokens.specs.declared.token.TextFault.TheVariants as text
use Rattle.spec_syntax.specs.Texts.{ReadsSpec, RefusesSpec}
use Rattle.spec_syntax.specs.declared.trees.SpecTree.{SpecTree}
use Rattle.question_syntax.specs.Texts.{ReadsQuestion, RefusesQuestion}
use Rattle.question_syntax.specs.declared.trees.QuestionTree.{QuestionTree}
use Rattle.spec_model.specs.declared.question.Question.{Question}
use Rattle.spec_model.specs.Spec.{Spec}
use Rattle.spec_model.specs.declared.relation.Relation.{Relation}
use Rattle.spec_bind.specs.Bound.{IsSpecBound as IsBound}
use Rattle.question_bind.specs.Bound.{IsQuestionBound}
use Rattle.bind_faults.specs.declared.fault.BindFault.{BindFault}
use Rattle.bind_faults.specs.declared.fault.BindFault.TheVariants as bind
use Rattle.command_stages.specs.declared.trouble.Trouble.{Trouble}
use Rattle.command_stages.specs.declared.trouble.Trouble.TheVariants as trouble

-- the bytes that the text of a specification or a question may have: 16 MiB
abbrev pub text_bound : ℕ
text_bound = 16777216

-- ---- troubles

-- the trouble that a text's fault is
abbrev pub text_trouble : List ℕ → TextFault → Trouble
text_trouble name (text.NotUtf8 line) = trouble.Refused code.NotUtf8 name line
text_trouble name (text.Syntax line) = trouble.Refused code.Syntax name line
text_trouble name text.NoMemory = trouble.NoMemory

-- the trouble that a fault of binding is; where it names no table it is in the text
abbrev pub bind_trouble : List ℕ → BindFault → Trouble
bind_trouble name (bind.Refused refusal) = trouble.Refused refusal.code (unwrap_or refusal.document name) refusal.line
bind_trouble name (bind.CopyDiffers document line target source) = trouble.CopyDiffers (unwrap_or document name) line
    target source
bind_trouble name (bind.Limit k) = trouble.Limit k
bind_trouble name (bind.ReadFault table) = trouble.ReadFault table
bind_trouble name bind.NoMemory = trouble.NoMemory

-- ---- stages

-- one stage and then another, up to the first trouble
abbrev pub Then : {A B : Type 0} → (Result A Trouble → Type 0) → (A → Result B Trouble → Type 0) → Result B Trouble → Type 0
Then {A} first next outcome = (r : Result A Trouble) × first r × MatchResult r (λ a. next a outcome) (λ e. outcome ≡ Err e)

-- the text is longer than its bound, or it is as long as it may be and goes on
abbrev pub Within : {A : Type 0} → ℕ → List ℕ → (Result A Trouble → Type 0) → Result A Trouble → Type 0
Within bound bytes next outcome =
    ((bound < length bytes) × (outcome ≡ Err (trouble.Limit 1))) ⊎ ((length bytes ≤ bound) × next outcome)

-- the specification's text is read as a tree
abbrev pub IsSpecTree : List ℕ → List ℕ → Result SpecTree Trouble → Type 0
IsSpecTree name bytes outcome =
    ((t : SpecTree) × ReadsSpec bytes t × (outcome ≡ Ok t))
    ⊎ ((fault : TextFault) × RefusesSpec bytes fault × (outcome ≡ Err (text_trouble name fault)))

-- the tree is bound with the tables that it names
abbrev pub IsSpecBound : List (List ℕ × List ℕ) → List ℕ → SpecTree → Result Spec Trouble → Type 0
IsSpecBound told name t outcome =
    ((s : Spec) × IsBound told t (Ok s) × (outcome ≡ Ok s))
    ⊎ ((fault : BindFault) × IsBound told t (Err fault) × (outcome ≡ Err (bind_trouble name fault)))

-- the specification that a text says, with its tables
abbrev pub IsSpecSaid : List (List ℕ × List ℕ) → List ℕ → List ℕ → Result Spec Trouble → Type 0
IsSpecSaid told name bytes = Then (IsSpecTree name bytes) (IsSpecBound told name)

-- the specification
abbrev pub IsSpecRead : List (List ℕ × List ℕ) → List ℕ → Result Spec Trouble → Type 0
IsSpecRead told name = Within text_bound (document told name) (IsSpecSaid told name (document told name))

-- the question's text is read as a tree
abbrev pub IsQuestionTree : List ℕ → List ℕ → Result QuestionTree Trouble → Type 0
IsQuestionTree name bytes outcome =
    ((t : QuestionTree) × ReadsQuestion bytes t × (outcome ≡ Ok t))
    ⊎ ((fault : TextFault) × RefusesQuestion bytes fault × (outcome ≡ Err (text_trouble name fault)))

-- the tree is bound on the relations of a specification, with the tables that it names
abbrev pub IsQuestionOf : List (List ℕ × List ℕ) → List Relation → List ℕ → QuestionTree → Result Question Trouble → Type 0
IsQuestionOf told relations name t outcome =
    ((q : Question) × IsQuestionBound told relations t (Ok q) × (outcome ≡ Ok q))
    ⊎ ((fault : BindFault) × IsQuestionBound told relations t (Err fault) × (outcome ≡ Err (bind_trouble name fault)))

-- the question that a text says of a specification, with its tables
abbrev pub IsQuestionSaid : List (List ℕ × List ℕ) → List Relation → List ℕ → List ℕ → Result Question Trouble → Type 0
IsQuestionSaid told relations name bytes = Then (IsQuestionTree name bytes) (IsQuestionOf told relations name)

-- the question
abbrev pub IsQuestionRead : List (List ℕ × List ℕ) → List Relation → List ℕ → Result Question Trouble → Type 0
IsQuestionRead told relations name =
    Within text_bound (document told name) (IsQuestionSaid told relations name (document told name))

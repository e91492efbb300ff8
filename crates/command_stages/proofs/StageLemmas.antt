-- What a stage answers is what is due.
use Rattle.std.proofs.Common.{◌≡◌, ◌⊎◌, ℕ, List, Option, Some, None, IfSome, Ok, Err, inl, inr, refl, subst}
use Rattle.bind_faults.specs.Faults.{IsReadFaultOf}
use Rattle.bind_faults.specs.declared.fault.BindFault.{BindFault}
use Rattle.bind_faults.specs.declared.fault.BindFault.TheVariants as bind
use Rattle.spec_model.specs.Spec.{Spec}
use Rattle.spec_model.specs.declared.question.Question.{Question}
use Rattle.spec_model.specs.declared.relation.Relation.{Relation}
use Rattle.question_bind.specs.Bound.{IsQuestionTableDue}
use Rattle.question_syntax.specs.declared.trees.QuestionTree.{QuestionTree}
use Rattle.spec_syntax.specs.declared.trees.SpecTree.{SpecTree}
use Rattle.bound_spec.specs.Growth.{nothing}
use Rattle.spec_bind.specs.Bound.{TableDue}
use Rattle.command_stages.specs.Stages.{IsSpecTree, IsSpecSaid, IsQuestionTree, IsQuestionSaid, bind_trouble}
use Rattle.command_stages.specs.Documents.{IsSaidTableDue, IsQuestionSaidTableDue}
use Rattle.command_stages.specs.Named.{IsUnread}
use Rattle.command_stages.specs.declared.trouble.Trouble.TheVariants as trouble
use Rattle.command_stages.specs.declared.trouble.Trouble.{Trouble}

-- a specification whose text is refused
pub tree_refused : (told : Option (List (List ℕ × List ℕ))) (name bytes : List ℕ) (e : Trouble)
    → IsSpecTree name bytes (Err e) → IfSome told (λ t. IsSpecSaid t name bytes (Err e))
tree_refused None name bytes e refused = tt
tree_refused (Some t) name bytes e refused = (Err e, refused, refl)

-- a trouble that names a document is a fault that names it
unread_fault : (A : Type 0) (name : List ℕ) (fault : BindFault) (e : Trouble) (n : List ℕ) → (e ≡ trouble.NoMemory) ⊎
    (e ≡ bind_trouble name fault) → IsUnread e n → IsReadFaultOf {A = A} (Err fault) n
unread_fault A name fault e n (inl none) h = absurd (subst (λ (x : Trouble). IsUnread x n) none h)
unread_fault A name (bind.Refused refusal) e n (inr is) h = absurd (subst (λ (x : Trouble). IsUnread x n) is h)
unread_fault A name (bind.CopyDiffers document line target source) e n (inr is) h =
    absurd (subst (λ (x : Trouble). IsUnread x n) is h)
unread_fault A name (bind.Limit k) e n (inr is) h = absurd (subst (λ (x : Trouble). IsUnread x n) is h)
unread_fault A name (bind.ReadFault table) e n (inr is) h = subst (λ (x : Trouble). IsUnread x n) is h
unread_fault A name bind.NoMemory e n (inr is) h = absurd (subst (λ (x : Trouble). IsUnread x n) is h)

-- a table that could not be read is due to be
pub table_unread : (told : Option (List (List ℕ × List ℕ))) (name bytes : List ℕ) (t : SpecTree) (fault : BindFault)
    (e : Trouble) → IsSpecTree name bytes (Ok t)
    → (e ≡ trouble.NoMemory) ⊎ (e ≡ bind_trouble name fault)
    → ((n : List ℕ) → IsReadFaultOf {A = Spec} (Err fault) n → IfSome told (λ d. TableDue d nothing t.statements n))
    → (n : List ℕ) → IsUnread e n → IfSome told (λ d. IsSaidTableDue d name bytes n)
table_unread None name bytes t fault e read due unread n h = tt
table_unread (Some d) name bytes t fault e read due unread n h = (t, read, unread n (unread_fault Spec name fault e n due h))

-- a question whose text is refused
pub question_refused : (told : Option (List (List ℕ × List ℕ))) (relations : List Relation) (name bytes : List ℕ) (e : Trouble)
    → IsQuestionTree name bytes (Err e) → IfSome told (λ t. IsQuestionSaid t relations name bytes (Err e))
question_refused None relations name bytes e refused = tt
question_refused (Some t) relations name bytes e refused = (Err e, refused, refl)

-- a question's table that could not be read is due to be
pub question_table_unread : (told : Option (List (List ℕ × List ℕ))) (relations : List Relation)
    (name bytes : List ℕ) (t : QuestionTree) (fault : BindFault) (e : Trouble)
    → IsQuestionTree name bytes (Ok t) → (e ≡ trouble.NoMemory) ⊎ (e ≡ bind_trouble name fault)
    → ((n : List ℕ) → IsReadFaultOf {A = Question} (Err fault) n → IfSome told (λ d. IsQuestionTableDue d relations t n))
    → (n : List ℕ) → IsUnread e n → IfSome told (λ d. IsQuestionSaidTableDue d relations name bytes n)
question_table_unread None relations name bytes t fault e read due unread n h = tt
question_table_unread (Some d) relations name bytes t fault e read due unread n h =
    (t, read, unread n (unread_fault Question name fault e n due h))

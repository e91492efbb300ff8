-- Documents, relations and a question's tree have one outcome, where a table has one.
use Rattle.std.proofs.Common.{◌≡◌, ◌∙◌, ◌<◌, ◌≤◌, ◌⊎◌, ◌++◌, inl, inr, ℕ, List, [], ◌∷◌, length, Result, Ok, Err, MatchResult, sym, ap, subst, arith}
use Rattle.currency_base.specs.declared.value.Value.{Value}
use Rattle.bind_faults.specs.Faults.{all_of, and_then}
use Rattle.bind_faults.specs.declared.fault.BindFault.{BindFault}
use Rattle.bind_faults.specs.declared.fault.BindFault.TheVariants.{Limit}
use Rattle.order_bind.specs.TableOrders.{order_columns}
use Rattle.order_bind.proofs.Made.{OneTable}
use Rattle.spec_model.specs.declared.question.Asked.{Asked}
use Rattle.spec_model.specs.declared.question.Question.{Question}
use Rattle.spec_model.specs.declared.relation.Relation.{Relation}
use Rattle.question_syntax.specs.declared.trees.AskedTree.{AskedTree}
use Rattle.question_syntax.specs.declared.trees.AskedTree.TheVariants.{Ordering, Table}
use Rattle.question_syntax.specs.declared.trees.QuestionTree.{QuestionTree}
use Rattle.question_syntax.specs.declared.trees.QuestionTree.TheVariants as tree
use Rattle.question_bind.specs.declared.heads.Head.{Head}
use Rattle.question_bind.specs.Asked.{AreRead, IsGroupAsked, IsRead, asked_in, head_of}
use Rattle.question_bind.specs.Bound.{AreGroupsAsked, IsQuestionBound, certain_of, groups_of, most_pairs}

-- a part's table
one_read : OneTable → (told : List (List ℕ × List ℕ)) (t : AskedTree) (a b : Result (List (List Value)) BindFault)
    → IsRead told t a → IsRead told t b → a ≡ b
one_read one told (Ordering o) a b x y = x ∙ sym y
one_read one told (Table relation document) a b x y = one told document.name order_columns a b x y

-- the tables of parts
abbrev IsBehind : List (List ℕ × List ℕ) → List AskedTree → Result (List (List (List Value))) BindFault
    → Result (List (List Value)) BindFault → Type 0
IsBehind told parts tables first = MatchResult first
    (λ tuples. (rest : Result (List (List (List Value))) BindFault) × AreRead told parts rest ×
    (tables ≡ and_then rest (λ more. Ok (tuples ∷ more))))
    (λ fault. tables ≡ Err fault)

one_behind : (told : List (List ℕ × List ℕ)) (parts : List AskedTree) (a b : Result (List (List (List Value))) BindFault)
    → ((x y : Result (List (List (List Value))) BindFault) → AreRead told parts x → AreRead told parts y → x ≡ y) →
    (first : Result (List (List Value)) BindFault)
    → IsBehind told parts a first → IsBehind told parts b first → a ≡ b
one_behind told parts a b later (Err fault) x y = x ∙ sym y
one_behind told parts a b later (Ok tuples) x y =
    x.2 ∙ ap (λ (r : Result (List (List (List Value))) BindFault). and_then r (λ more. Ok (tuples ∷ more)))
    (later x.0 y.0 x.1 y.1) ∙ sym y.2

one_tables : OneTable → (told : List (List ℕ × List ℕ)) (parts : List AskedTree)
    (a b : Result (List (List (List Value))) BindFault) → AreRead told parts a → AreRead told parts b → a ≡ b
one_tables one told [] a b x y = x ∙ sym y
one_tables one told (part ∷ parts) a b x y =
    one_behind told parts a b (λ c d. one_tables one told parts c d) y.0
    (subst (IsBehind told parts a) (one_read one told part x.0 y.0 x.1 y.1) x.2) y.2

-- a group
one_asked : OneTable → (told : List (List ℕ × List ℕ)) (relations : List Relation) (trees : List AskedTree)
    (a b : Result (List Asked) BindFault) → (heads : Result (List Head) BindFault)
    → MatchResult heads (λ hs. (tables : Result (List (List (List Value))) BindFault) × AreRead told trees tables ×
    (a ≡ and_then tables (asked_in relations hs trees))) (λ fault. a ≡ Err fault)
    → MatchResult heads (λ hs. (tables : Result (List (List (List Value))) BindFault) × AreRead told trees tables ×
    (b ≡ and_then tables (asked_in relations hs trees))) (λ fault. b ≡ Err fault)
    → a ≡ b
one_asked one told relations trees a b (Err fault) x y = x ∙ sym y
one_asked one told relations trees a b (Ok heads) x y =
    x.2 ∙ ap (λ (r : Result (List (List (List Value))) BindFault). and_then r (asked_in relations heads trees))
    (one_tables one told trees x.0 y.0 x.1 y.1) ∙ sym y.2

one_group : OneTable → (told : List (List ℕ × List ℕ)) (relations : List Relation) (trees : List AskedTree)
    (a b : Result (List Asked) BindFault)
    → IsGroupAsked told relations trees a → IsGroupAsked told relations trees b → a ≡ b
one_group one told relations trees a b = one_asked one told relations trees a b (all_of (head_of relations) trees)

-- groups
abbrev AreFurther : List (List ℕ × List ℕ) → List Relation → List Asked → List (List AskedTree) → Result (List Asked)
    BindFault → Result (List Asked) BindFault → Type 0
AreFurther told relations so_far groups outcome first = MatchResult first
    (λ more. ((most_pairs < length (so_far ++ more)) × (outcome ≡ Err (Limit 12)))
    ⊎ ((length (so_far ++ more) ≤ most_pairs) × AreGroupsAsked told relations (so_far ++ more) groups outcome))
    (λ fault. outcome ≡ Err fault)

one_further : (told : List (List ℕ × List ℕ)) (relations : List Relation) (so_far : List Asked)
    (groups : List (List AskedTree)) (a b : Result (List Asked) BindFault)
    → ((now : List Asked) → AreGroupsAsked told relations now groups a → AreGroupsAsked told relations now groups b
    → a ≡ b) → (first : Result (List Asked) BindFault)
    → AreFurther told relations so_far groups a first → AreFurther told relations so_far groups b first → a ≡ b
one_further told relations so_far groups a b later (Err fault) x y = x ∙ sym y
one_further told relations so_far groups a b later (Ok more) (inl x) (inl y) = x.1 ∙ sym y.1
one_further told relations so_far groups a b later (Ok more) (inl x) (inr y) = absurd (omega (arith, x.0, y.0))
one_further told relations so_far groups a b later (Ok more) (inr x) (inl y) = absurd (omega (arith, x.0, y.0))
one_further told relations so_far groups a b later (Ok more) (inr x) (inr y) = later (so_far ++ more) x.1 y.1

one_groups : OneTable → (told : List (List ℕ × List ℕ)) (relations : List Relation) (so_far : List Asked)
    (groups : List (List AskedTree)) (a b : Result (List Asked) BindFault)
    → AreGroupsAsked told relations so_far groups a → AreGroupsAsked told relations so_far groups b → a ≡ b
one_groups one told relations so_far [] a b x y = x ∙ sym y
one_groups one told relations so_far (group ∷ groups) a b x y =
    one_further told relations so_far groups a b (λ now. one_groups one told relations now groups a b) y.0
    (subst (AreFurther told relations so_far groups a) (one_group one told relations group x.0 y.0 x.1 y.1) x.2) y.2

-- and a question
pub one_question : OneTable → (told : List (List ℕ × List ℕ)) (relations : List Relation) (tree : QuestionTree)
    (a b : Result Question BindFault)
    → IsQuestionBound told relations tree a → IsQuestionBound told relations tree b → a ≡ b
one_question one told relations (tree.Consistent line) a b x y = x ∙ sym y
one_question one told relations (tree.Certain line trees) a b x y =
    x.2 ∙ ap (λ (r : Result (List Asked) BindFault). and_then r (certain_of line))
    (one_groups one told relations [] (groups_of trees) x.0 y.0 x.1 y.1) ∙ sym y.2
one_question one told relations (tree.Same line names) a b x y = x ∙ sym y
one_question one told relations (tree.Answers query) a b x y = x ∙ sym y

-- The question that a tree says of a specification with told documents, or the first of its checks that fails.
use Rattle.std.specs.Prelude.{◌≡◌, ◌⊎◌, ◌<◌, ◌≤◌, ◌==◌, ◌+◌, ℕ, if◌then◌else◌, List, [], ◌∷◌, ◌++◌, length, map, nat_le, Contains, Option, Some, None, Result, Ok, Err, MatchResult}
use Rattle.std.specs.List.{list_any}
use Rattle.currency_base.specs.declared.error_code.ErrorCode.TheVariants.{Syntax, DuplicateName}
use Rattle.currency_base.specs.declared.ids.RelId.{RelId}
use Rattle.text_grammar.specs.declared.named.Named.{Named}
use Rattle.bind_faults.specs.Faults.{all_of, and_then, refused_at, unless}
use Rattle.bind_faults.specs.declared.fault.BindFault.{BindFault}
use Rattle.bind_faults.specs.declared.fault.BindFault.TheVariants.{Refused, Limit}
use Rattle.query_model.specs.declared.query.Query.{Query}
use Rattle.spec_model.specs.declared.question.Asked.{Asked}
use Rattle.spec_model.specs.declared.question.Question.{Question}
use Rattle.spec_model.specs.declared.question.Question.TheVariants as asked
use Rattle.spec_model.specs.declared.relation.Relation.{Relation}
use Rattle.query_syntax.specs.declared.trees.QueryTree.{QueryTree}
use Rattle.query_bind.specs.Queried.{queried_on}
use Rattle.question_syntax.specs.declared.trees.AskedTree.{AskedTree}
use Rattle.question_syntax.specs.declared.trees.AskedTree.TheVariants.{Ordering, Table}
use Rattle.question_syntax.specs.declared.trees.QuestionTree.{QuestionTree}
use Rattle.question_syntax.specs.declared.trees.QuestionTree.TheVariants as tree
use Rattle.question_bind.specs.declared.heads.Head.{Head}
use Rattle.question_bind.specs.Asked.{IsGroupAsked, head_of, relation_named}

-- the most pairs that may be asked about
abbrev pub most_pairs : ℕ
most_pairs = 10000000

-- ---- certain pairs

-- how many parts have a table
abbrev pub tables_among : List AskedTree → ℕ
tables_among [] = 0
tables_among (Ordering o ∷ trees) = tables_among trees
tables_among (Table relation document ∷ trees) = tables_among trees + 1

-- the groups in which the steps go over the parts: one of all parts, where one table or none is read; else one for each part
abbrev pub groups_of : List AskedTree → List (List AskedTree)
groups_of trees = if nat_le (tables_among trees) 1 then trees ∷ [] else map (λ t. t ∷ []) trees

-- what groups ask about after what was asked so far: group by group, up to the first that is refused or after which there are
-- too many pairs
abbrev pub AreGroupsAsked : List (List ℕ × List ℕ) → List Relation → List Asked → List (List AskedTree)
    → Result (List Asked) BindFault → Type 0
AreGroupsAsked told relations so_far [] outcome = outcome ≡ Ok so_far
AreGroupsAsked told relations so_far (group ∷ groups) outcome =
    (first : Result (List Asked) BindFault) × IsGroupAsked told relations group first
    × MatchResult first
    (λ more. ((most_pairs < length (so_far ++ more)) × (outcome ≡ Err (Limit 12)))
    ⊎ ((length (so_far ++ more) ≤ most_pairs) × AreGroupsAsked told relations (so_far ++ more) groups outcome))
    (λ fault. outcome ≡ Err fault)

-- the question on these pairs; where there is none, its word is refused
abbrev pub certain_of : ℕ → List Asked → Result Question BindFault
certain_of line [] = Err (Refused record { code = Syntax; document = None; line = line })
certain_of line (p ∷ pairs) = Ok (asked.Certain (p ∷ pairs))

-- ---- relations

-- the refusal of the first name whose relation stands before
abbrev pub first_again : List ℕ → List Named → List ℕ → Option BindFault
first_again so_far (named ∷ names) (rel ∷ rels) =
    if list_any (λ r. r == rel) so_far then Some (refused_at DuplicateName named) else first_again (so_far ++ rel ∷ []) names rels
first_again so_far names rels = None

-- places as ids of relations
abbrev pub rel_ids : List ℕ → List RelId
rel_ids rels = map (λ rel. record { 0 = rel }) rels

-- the question on the relations of these names: the first unknown name is refused, and then the first whose relation stands
-- before
abbrev pub same_of : List Relation → List Named → Result Question BindFault
same_of relations names =
    and_then (all_of (relation_named relations) names) (λ rels. unless (first_again [] names rels)
    (Ok (asked.Same (rel_ids rels))))

-- ---- queries

-- the question on the answers of the query that a tree says of these relations, or the query's first fault
abbrev pub answers_of : List Relation → QueryTree → Result Question BindFault
answers_of relations query = and_then (queried_on (map (λ r. r.name) relations) relations query) (λ q. Ok (asked.Answers q))

-- ---- questions

-- the question asks for the answers of a query
abbrev pub AsksQuery : Question → Type 0
AsksQuery q = (query : Query) × (q ≡ asked.Answers query)

-- what a tree is bound to
abbrev pub IsQuestionBound : List (List ℕ × List ℕ) → List Relation → QuestionTree → Result Question BindFault → Type 0
IsQuestionBound told relations (tree.Consistent line) outcome = outcome ≡ Ok asked.Consistent
IsQuestionBound told relations (tree.Certain line trees) outcome =
    (pairs : Result (List Asked) BindFault) × AreGroupsAsked told relations [] (groups_of trees) pairs
    × (outcome ≡ and_then pairs (certain_of line))
IsQuestionBound told relations (tree.Same line names) outcome = outcome ≡ same_of relations names
IsQuestionBound told relations (tree.Answers query) outcome = outcome ≡ answers_of relations query

-- what a tree of a query is bound to asks one
abbrev pub AskAlike : QuestionTree → Question → Type 0
AskAlike (tree.Answers query) q = AsksQuery q
AskAlike other q = Unit {0}

-- ---- tables that are due

-- a table of this name is one of a group's, whose heads are all found
pub record IsTableOf (relations : List Relation) (group : List AskedTree) (table : List ℕ) : Type 0 where
  pub heads : List Head
  pub found : all_of (head_of relations) group ≡ Ok heads
  pub relation : Named
  pub document : Named
  pub among : Contains group (Table relation document)
  pub named : document.name ≡ table

-- a table of this name is due to be read: the groups before are bound, and there are not too many pairs so far
abbrev pub IsGroupTableDue : List (List ℕ × List ℕ) → List Relation → List Asked → List (List AskedTree) → List ℕ → Type 0
IsGroupTableDue told relations so_far [] table = ⊥
IsGroupTableDue told relations so_far (group ∷ groups) table =
    IsTableOf relations group table
    ⊎ ((more : List Asked) × IsGroupAsked told relations group (Ok more) × (length (so_far ++ more) ≤ most_pairs)
    × IsGroupTableDue told relations (so_far ++ more) groups table)

-- a table of this name is due to be read for a question
abbrev pub IsQuestionTableDue : List (List ℕ × List ℕ) → List Relation → QuestionTree → List ℕ → Type 0
IsQuestionTableDue told relations (tree.Certain line trees) table = IsGroupTableDue told relations [] (groups_of trees) table
IsQuestionTableDue told relations other table = ⊥

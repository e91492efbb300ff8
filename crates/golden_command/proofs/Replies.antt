-- Where the document of `golden` is read and has the relation, its golden records are told; and they are told alike, whatever
-- they are.
use Rattle.std.proofs.Common.{◌≡◌, ◌⊎◌, ◌∙◌, ℕ, List, MatchResult, None, Option, Some, Result, Ok, Err, ap, inl, inr, subst, sym}
use Rattle.command_stages.proofs.OneRead.{IsOne}
use Rattle.command_stages.proofs.Outcomes.{IsLike, same_alike, tables_alike, then_like}
use Rattle.command_stages.specs.Alike.{AreAlike}
use Rattle.command_stages.specs.Endings.{IsOfTable, ending_status}
use Rattle.command_stages.specs.Outcomes.{status_of}
use Rattle.command_stages.specs.Stages.{IsSpecRead}
use Rattle.command_stages.specs.declared.done.Done.{Done}
use Rattle.command_stages.specs.declared.trouble.Trouble.{Trouble}
use Rattle.golden_values.specs.declared.field.Golden.{Golden}
use Rattle.golden_values.specs.declared.field.Golden.TheVariants as golden
use Rattle.program_words.specs.Words.{GoldenSaid}
use Rattle.spec_model.specs.Spec.{Spec}
use Rattle.spec_model.specs.declared.relation.Relation.{Relation}
use Rattle.spec_syntax.specs.declared.trees.SpecTree.{SpecTree}
use Rattle.golden_command.specs.Asked.{column_in, relation_named}
use Rattle.golden_command.specs.Golden.{AreGoldenOf, IsGoldenDue, IsGoldenFound, IsOutcomeOf}
use Rattle.golden_command.specs.Text.{golden_done}

-- a document is read as one specification, or with one trouble
abbrev OneSpec : Type 0
OneSpec = (told : List (List ℕ × List ℕ)) (name : List ℕ) → IsOne (IsSpecRead told name)

-- ---- what is due

-- what is due of a specification that is read is found in it
pub golden_due_found : OneSpec → (told : List (List ℕ × List ℕ)) (g : GoldenSaid) (s : Spec) (got : Result Done Trouble)
    → IsSpecRead told g.spec (Ok s) → IsGoldenDue told g got → IsGoldenFound told g s got
golden_due_found one_spec told g s got spec h =
    subst (λ (o : Result Spec Trouble). MatchResult o (λ x. IsGoldenFound told g x got) (λ e. got ≡ Err e))
    (one_spec told g.spec h.0 (Ok s) h.1 spec) h.2

-- ---- all of it ends as a table does

-- a relation is not both there and not there
none_or_some : (o : Option ℕ) (k : ℕ) → o ≡ None → o ≡ Some k → ⊥
none_or_some o k none some = cc

-- whatever is found
of_table : (s : Spec) (column : List ℕ) (r : Relation) (f : Golden) → IsOfTable (golden_done s column r f).ending
of_table s column r (golden.Records table) = tt
of_table s column r golden.Inconsistent = tt
of_table s column r (golden.Undecided p report) = tt

-- what is told of a relation is alike
printed_alike : (t u : SpecTree) (s : Spec) (g : GoldenSaid) (a b : Result Done Trouble) → AreGoldenOf t s g a
    → AreGoldenOf u s g b → AreAlike a b
printed_alike t u s g a b h k =
    let first = column_in t.statements h.relation.name in
    let second = column_in u.statements k.relation.name in
    tables_alike (golden_done s first h.relation h.found) (golden_done s second k.relation k.found) a b
    (of_table s first h.relation h.found) (of_table s second k.relation k.found) h.comes k.comes

-- what the job comes to is alike: both refuse the name, or both tell of its relation
outcomes_alike : (t u : SpecTree) (s : Spec) (g : GoldenSaid) (a b : Result Done Trouble) → IsOutcomeOf t s g a
    → IsOutcomeOf u s g b → AreAlike a b
outcomes_alike t u s g a b (inl h) (inl k) = same_alike a b (h.1 ∙ sym k.1)
outcomes_alike t u s g a b (inl h) (inr k) =
    absurd (none_or_some (relation_named s.relations g.relation) k.rel h.0 k.is_named)
outcomes_alike t u s g a b (inr h) (inl k) =
    absurd (none_or_some (relation_named s.relations g.relation) h.rel k.0 h.is_named)
outcomes_alike t u s g a b (inr h) (inr k) = printed_alike t u s g a b h k

-- the same with the tree of the document's text
pub found_like : (told : List (List ℕ × List ℕ)) (s : Spec) (g : GoldenSaid) → IsLike (IsGoldenFound told g s)
found_like told s g a b h k = outcomes_alike h.0 k.0 s g a b h.2 k.2

-- what is due for a document is alike
pub golden_like : OneSpec → (told : List (List ℕ × List ℕ)) (g : GoldenSaid) → IsLike (IsGoldenDue told g)
golden_like one_spec told g =
    then_like (IsSpecRead told g.spec) (IsGoldenFound told g) (one_spec told g.spec) (λ s. found_like told s g)

-- ---- its status

-- the status of what is told
done_status : (s : Spec) (column : List ℕ) (r : Relation) (f : Golden) (status : ℕ)
    → status ≡ ending_status (golden_done s column r f).ending → (status ≡ 0) ⊎ ((status ≡ 3) ⊎ (status ≡ 10))
done_status s column r (golden.Records table) status is = inl is
done_status s column r (golden.Undecided p report) status is = inr (inl is)
done_status s column r golden.Inconsistent status is = inr (inr is)

-- where the relation is there, the status is that of a table, of a spent budget, or of no consistent completion
pub golden_comes : (tree : SpecTree) (s : Spec) (g : GoldenSaid) (rel : ℕ) (got : Result Done Trouble) (status : ℕ)
    → IsOutcomeOf tree s g got → relation_named s.relations g.relation ≡ Some rel → status ≡ status_of got
    → (status ≡ 0) ⊎ ((status ≡ 3) ⊎ (status ≡ 10))
golden_comes tree s g rel got status (inl h) named is =
    absurd (none_or_some (relation_named s.relations g.relation) rel h.0 named)
golden_comes tree s g rel got status (inr h) named is =
    done_status s (column_in tree.statements h.relation.name) h.relation h.found status
    (is ∙ ap (λ (o : Result Done Trouble). status_of o) h.comes)

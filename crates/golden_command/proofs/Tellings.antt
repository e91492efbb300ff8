-- What `golden` comes to, stage by stage.
use Rattle.std.proofs.Common.{◌≡◌, ◌∙◌, ℕ, List, Option, Some, IfErr, IfOk, IfSome, None}
use Rattle.std.proofs.Common.{Result, Ok, Err, ap, get_or, inr, refl, slice_get, subst, sym}
use Rattle.std.proofs.lemmas.Option.{slice_get-get_or}
use Rattle.command_stages.specs.Named.{IsDetermined, IsDeterminedTrouble}
use Rattle.command_stages.specs.Stages.{IsSpecRead}
use Rattle.command_stages.specs.Trees.{IsTreeOf}
use Rattle.command_stages.specs.declared.done.Done.{Done}
use Rattle.command_stages.specs.declared.trouble.Trouble.{Trouble}
use Rattle.command_stages.specs.declared.trouble.Trouble.TheVariants as trouble
use Rattle.golden_values.specs.Golden.{IsGolden}
use Rattle.golden_values.specs.declared.field.Golden.{Golden}
use Rattle.golden_values.specs.declared.field.Golden.TheVariants as golden
use Rattle.program_words.specs.Words.{GoldenSaid}
use Rattle.spec_model.specs.Spec.{Spec}
use Rattle.spec_model.specs.declared.relation.Relation.{Relation}
use Rattle.spec_syntax.specs.declared.trees.SpecTree.{SpecTree}
use Rattle.golden_command.specs.Asked.{column_in, relation_named}
use Rattle.golden_command.specs.Golden.{IsGoldenDue, IsOutcomeOf}
use Rattle.golden_command.specs.Text.{golden_done}
use Rattle.golden_command.specs.Writable.{IsWritableGolden}

-- ---- what is found can be told

-- one place has one relation
same_relation : (r q : Relation) → Some r ≡ Some q → r ≡ q
same_relation r q e = cc

-- as many records and fields as are wanted, and a question and a report that can be written
pub is_writable : (s : Spec) (rel budget : ℕ) (r : Relation) (f : Golden) → slice_get s.relations rel ≡ Some r
    → IsGolden s rel budget f → IsWritableGolden s r f
is_writable s rel budget r (golden.Records table) at is =
    subst (λ (q : Relation). IsWritableGolden s q (golden.Records table))
    (same_relation is.relation r (sym is.is_relation ∙ at))
    (is.per_entity, λ k d inside. (is.each k (get_or table k d) (slice_get-get_or table k d inside)).per_attr)
is_writable s rel budget r golden.Inconsistent at is = tt
is_writable s rel budget r (golden.Undecided p report) at is = (is.0, is.1.writable)

-- ---- what is found is told

-- the job is done where what is found of the named relation is told
pub golden_is_printed : (tree : SpecTree) (s : Spec) (g : GoldenSaid) (rel : ℕ) (r : Relation) (column : List ℕ) (f : Golden)
    (outcome : Result Done Trouble) → relation_named s.relations g.relation ≡ Some rel
    → slice_get s.relations rel ≡ Some r → IsGolden s rel g.budget f → column ≡ column_in tree.statements r.name
    → IfOk outcome (λ d. d ≡ golden_done s column r f) → IfErr outcome (λ e. e ≡ trouble.NoMemory) → IsDetermined outcome
    → IsOutcomeOf tree s g outcome
golden_is_printed tree s g rel r column f (Ok d) named at is called told memory determined =
    inr (record {
      rel = rel;
      is_named = named;
      relation = r;
      is_relation = at;
      found = f;
      is_golden = is;
      comes = ap Ok (told ∙ ap (λ (x : List ℕ). golden_done s x r f) called);
    })
golden_is_printed tree s g rel r column f (Err e) named at is called told memory determined =
    absurd (subst IsDeterminedTrouble memory determined)

-- ---- what is due

-- where the specification is read, what the job comes to is due
pub golden_due : (texts : Option (List (List ℕ × List ℕ))) (g : GoldenSaid) (tree : SpecTree) (s : Spec)
    (outcome : Result Done Trouble) → IfSome texts (λ told. IsSpecRead told g.spec (Ok s))
    → IfSome texts (λ told. IsTreeOf told g.spec tree s) → (IsDetermined outcome → IsOutcomeOf tree s g outcome)
    → IsDetermined outcome → IfSome texts (λ told. IsGoldenDue told g outcome)
golden_due None g tree s outcome spec reads job determined = tt
golden_due (Some told) g tree s outcome spec reads job determined = (Ok s, spec, (tree, reads, job determined))

-- where it is not read, that trouble is due
pub refused_due : (texts : Option (List (List ℕ × List ℕ))) (g : GoldenSaid) (e : Trouble)
    → IfSome texts (λ told. IsSpecRead told g.spec (Err e)) → IfSome texts (λ told. IsGoldenDue told g (Err e))
refused_due None g e spec = tt
refused_due (Some told) g e spec = (Err e, spec, refl)

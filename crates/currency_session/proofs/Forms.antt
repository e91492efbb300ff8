-- A log is at fault of relations where it is of the same ones with other given pairs.
use Rattle.std.proofs.Common.{◌≡◌, ◌∙◌, ◌+◌, ◌&&◌, ℕ, false, List, [], ◌∷◌, Option, Some, None, length, map, nat_lt, option_map, slice_get, refl, sym, ap}
use Rattle.std.proofs.lemmas.Option.{slice_get-map}
use Rattle.currency_base.specs.declared.error_code.ErrorCode.{ErrorCode}
use Rattle.currency_base.specs.declared.ids.AttrId.{AttrId}
use Rattle.currency_base.specs.declared.ids.RelId.{RelId}
use Rattle.currency_base.specs.declared.row.Row.{Row}
use Rattle.currency_base.specs.declared.value.Value.{Value}
use Rattle.log_form.specs.Form.{fault_or, first_fault, has_attr, has_rows, is_canonical, is_first_alike, is_known, is_pair, is_row, or_else, rows_of, statement_fault, statements_fault, steps_fault}
use Rattle.log_form.specs.declared.form.FormFault.{FormFault}
use Rattle.refutation_log.specs.declared.log.Log.{Log}
use Rattle.refutation_log.specs.declared.statement.Statement.{Statement}
use Rattle.refutation_log.specs.declared.statement.Statement.TheVariants.{Before, Top, Last, Answer}
use Rattle.spec_edits.specs.Kept.{AreSameButGiven, without_pairs}
use Rattle.spec_model.specs.declared.relation.Relation.{Relation}

-- ---- what is read of a relation

-- what is told of a relation, if it is there
abbrev told_or : {A : Type 0} → (Relation → A) → A → Option Relation → A
told_or told missing None = missing
told_or told missing (Some r) = told r

-- where it tells nothing of given pairs, it is told of both
told_same : {A : Type 0} (told : Relation → A) (missing : A) → ((r : Relation) → told (without_pairs r) ≡ told r)
    → (old new : List Relation) → AreSameButGiven old new → (k : ℕ)
    → told_or told missing (slice_get new k) ≡ told_or told missing (slice_get old k)
told_same {A} told missing bare old new same k =
    sym (of_list new) ∙ (ap (λ (rs : List Relation). told_or told missing (slice_get rs k)) same ∙ of_list old)
  where
    of_one : (o : Option Relation) → told_or told missing (option_map without_pairs o) ≡ told_or told missing o
    of_one None = refl
    of_one (Some r) = bare r

    of_list : (rs : List Relation) → told_or told missing (slice_get (map without_pairs rs) k)
        ≡ told_or told missing (slice_get rs k)
    of_list rs = ap (λ (o : Option Relation). told_or told missing o) (slice_get-map without_pairs rs k) ∙ of_one (slice_get rs k)

rows_same : (old new : List Relation) → AreSameButGiven old new → (rel : RelId) → rows_of new rel ≡ rows_of old rel
rows_same old new same rel = told_same (λ (r : Relation). r.rows) [] (λ r. refl) old new same rel.0

attr_same : (old new : List Relation) → AreSameButGiven old new → (rel : RelId) (attr : AttrId)
    → has_attr new rel attr ≡ has_attr old rel attr
attr_same old new same rel attr =
    told_same (λ (r : Relation). nat_lt attr.0 (length r.attrs)) false (λ r. refl) old new same rel.0

-- ---- statements

known_same : (old new : List Relation) → AreSameButGiven old new → (s : Statement) → is_known new s ≡ is_known old s
known_same old new same (Before rel attr earlier later) = attr_same old new same rel attr
known_same old new same (Top rel attr row) = attr_same old new same rel attr
known_same old new same (Last rel attr row) = attr_same old new same rel attr
known_same old new same (Answer tuple) = refl

canonical_same : (old new : List Relation) → AreSameButGiven old new → (s : Statement)
    → is_canonical new s ≡ is_canonical old s
canonical_same old new same (Before rel attr earlier later) = refl
canonical_same old new same (Top rel attr row) = refl
canonical_same old new same (Last rel attr row) =
    ap (λ (rows : List Row). is_first_alike rows attr.0 row) (rows_same old new same rel)
canonical_same old new same (Answer tuple) = refl

has_rows_same : (old new : List Relation) → AreSameButGiven old new → (s : Statement) → has_rows new s ≡ has_rows old s
has_rows_same old new same (Before rel attr earlier later) =
    ap (λ (rows : List Row). is_row rows earlier && is_row rows later) (rows_same old new same rel)
has_rows_same old new same (Top rel attr row) = ap (λ (rows : List Row). is_row rows row) (rows_same old new same rel)
has_rows_same old new same (Last rel attr row) = ap (λ (rows : List Row). is_row rows row) (rows_same old new same rel)
has_rows_same old new same (Answer tuple) = refl

pair_same : (old new : List Relation) → AreSameButGiven old new → (s : Statement) → is_pair new s ≡ is_pair old s
pair_same old new same (Before rel attr earlier later) =
    rw (rows_same old new same rel) refl
pair_same old new same (Top rel attr row) = refl
pair_same old new same (Last rel attr row) = refl
pair_same old new same (Answer tuple) = refl

statement_same : (old new : List Relation) → AreSameButGiven old new → (answers : List (List Value)) (before : Option Statement)
    (s : Statement) → statement_fault new answers before s ≡ statement_fault old answers before s
statement_same old new same answers before s =
    rw (known_same old new same s, canonical_same old new same s, has_rows_same old new same s, pair_same old new same s) refl

statements_same : (old new : List Relation) → AreSameButGiven old new → (answers : List (List Value)) (at : ℕ)
    (before : Option Statement) (statements : List Statement)
    → statements_fault new answers at before statements ≡ statements_fault old answers at before statements
statements_same old new same answers at before [] = refl
statements_same old new same answers at before (s ∷ statements) =
    ap (λ (f : Option ErrorCode). fault_or at f (statements_fault new answers (at + 1) (Some s) statements))
    (statement_same old new same answers before s)
    ∙ ap (λ (f : Option FormFault). fault_or at (statement_fault old answers before s) f)
    (statements_same old new same answers (at + 1) (Some s) statements)

pub faults_same : (old new : List Relation) (log : Log) → AreSameButGiven old new → first_fault new log ≡ first_fault old log
faults_same old new log same =
    ap (λ (f : Option FormFault). or_else f (steps_fault (length log.statements) 0 log.steps))
    (statements_same old new same log.answers 0 None log.statements)

-- A log whose statements ascend and are on what is there is well formed, where the literals of its steps are of its statements.
use Rattle.std.proofs.Common.{◌≡◌, ◌∙◌, ◌<◌, ◌+◌, ℕ, Bool, true, not, List, [], ◌∷◌, All, Option, Some, None, if◌then◌else◌, length, slice_get, slice_index_or, refl, ap, inl, inr, arith}
use Rattle.std.specs.Prelude.{nat_lt}
use Rattle.std.specs.Ordering.{is_lt}
use Rattle.std.specs.List.{list_all}
use Rattle.std.proofs.lemmas.Bool.{and_from, lt-ltb, eq-eqb}
use Rattle.std.proofs.lemmas.List.Elements.{All-head, All-tail}
use Rattle.std.proofs.lemmas.Option.{slice_get-get_or}
use Rattle.currency_base.specs.Literals.{var_of}
use Rattle.currency_base.specs.declared.error_code.ErrorCode.{ErrorCode}
use Rattle.currency_base.specs.declared.error_code.ErrorCode.TheVariants.{UnknownName, DuplicateName, Mismatch, UnknownRow, NotOneEntity}
use Rattle.currency_base.specs.declared.ids.AttrId.{AttrId}
use Rattle.currency_base.specs.declared.ids.RelId.{RelId}
use Rattle.currency_base.specs.declared.ids.RowId.{RowId}
use Rattle.currency_base.specs.declared.lit.Lit.{Lit}
use Rattle.currency_base.specs.declared.row.Row.{Row}
use Rattle.currency_base.specs.declared.value.Value.{Value}
use Rattle.partial_orders.specs.Pairs.{entity_of}
use Rattle.query_model.specs.Answers.{AreAscending}
use Rattle.spec_model.specs.Facts.{AreRelations}
use Rattle.spec_model.specs.declared.relation.Relation.{Relation}
use Rattle.refutation_log.specs.Counted.{AreWithin}
use Rattle.refutation_log.specs.Steps.{clause_of}
use Rattle.refutation_log.specs.declared.log.Log.{Log}
use Rattle.refutation_log.specs.declared.statement.Statement.{Statement}
use Rattle.refutation_log.specs.declared.statement.Statement.TheVariants.{Before, Top, Last, Answer}
use Rattle.refutation_log.specs.declared.step.Step.{Step}
use Rattle.log_form.specs.Form.{is_below, rows_of, has_attr, is_known, is_above, is_first_alike, is_canonical, is_row, has_rows, is_one, is_pair, statement_fault, statements_fault, steps_fault, or_else, first_fault}
use Rattle.log_form.specs.declared.form.FormFault.{FormFault}
use Rattle.order_literals.proofs.Ascents.{Ascends, Precedes, precedes_less}
use Rattle.order_literals.proofs.Items.{IsIn}
use Rattle.order_literals.proofs.Order.{IsBelow}
use Rattle.order_literals.specs.Statements.{key_of, statement_cmp}
use Rattle.order_clauses.proofs.Members.{row_within}
use Rattle.search_logs.proofs.Answered.{answer_less}
use Rattle.search_logs.proofs.Bounds.{facts_of}
use Rattle.search_logs.proofs.Canonical as canonical
use Rattle.search_logs.proofs.Numbered.{IsOnRows}

-- ---- the order of statements

-- a statement that is not on an answer
abbrev IsOfRows : Statement → Type 0
IsOfRows (Answer tuple) = ⊥
IsOfRows other = Unit {0}

-- of statements that are not both on answers, one is below another by their numbers
below_is : (answers : List (List Value)) (s t : Statement) → IsOfRows s → is_below answers s t ≡ is_lt (statement_cmp s t)
below_is answers (Before rel attr a b) (Before rel' attr' a' b') on = refl
below_is answers (Before rel attr a b) (Top rel' attr' row') on = refl
below_is answers (Before rel attr a b) (Last rel' attr' row') on = refl
below_is answers (Before rel attr a b) (Answer tuple') on = refl
below_is answers (Top rel attr row) (Before rel' attr' a' b') on = refl
below_is answers (Top rel attr row) (Top rel' attr' row') on = refl
below_is answers (Top rel attr row) (Last rel' attr' row') on = refl
below_is answers (Top rel attr row) (Answer tuple') on = refl
below_is answers (Last rel attr row) (Before rel' attr' a' b') on = refl
below_is answers (Last rel attr row) (Top rel' attr' row') on = refl
below_is answers (Last rel attr row) (Last rel' attr' row') on = refl
below_is answers (Last rel attr row) (Answer tuple') on = refl
below_is answers (Answer tuple) t on = absurd on

rows_below : (answers : List (List Value)) (s t : Statement) → IsOfRows s → IsBelow s t → is_below answers s t ≡ true
rows_below answers s t on below = below_is answers s t on ∙ ap is_lt (precedes_less (key_of s) (key_of t) below)

-- of two answers that are there
answers_below : (answers : List (List Value)) → AreAscending answers → (a b : ℕ) → a < b → b < length answers
    → is_below answers (Answer a) (Answer b) ≡ true
answers_below answers up a b below within =
    ap is_lt
    (up a b (slice_index_or answers a []) (slice_index_or answers b []) below
    (slice_get-get_or answers a [] (omega (arith, below, within)))
    (slice_get-get_or answers b [] within))

-- a greater number does not come first
not_first : (x y : ℕ) (xs ys : List ℕ) → y < x → Precedes (x ∷ xs) (y ∷ ys) → ⊥
not_first x y xs ys less (inl low) = absurd (omega (arith, less, low))
not_first x y xs ys less (inr more) = let e = more.0 in absurd (omega (arith, less, e))

below_passes : (relations : List Relation) (answers : List (List Value)) → AreAscending answers → (s t : Statement)
    → IsOnRows relations (length answers) t → IsBelow s t → is_below answers s t ≡ true
below_passes relations answers up (Before rel attr a b) t on below = rows_below answers (Before rel attr a b) t tt below
below_passes relations answers up (Top rel attr row) t on below = rows_below answers (Top rel attr row) t tt below
below_passes relations answers up (Last rel attr row) t on below = rows_below answers (Last rel attr row) t tt below
below_passes relations answers up (Answer tuple) (Before rel attr a b) on below =
    absurd (not_first 3 0 (tuple ∷ []) (rel.0 ∷ attr.0 ∷ a.0 ∷ b.0 ∷ []) (omega arith) below)
below_passes relations answers up (Answer tuple) (Top rel attr row) on below =
    absurd (not_first 3 1 (tuple ∷ []) (rel.0 ∷ attr.0 ∷ row.0 ∷ []) (omega arith) below)
below_passes relations answers up (Answer tuple) (Last rel attr row) on below =
    absurd (not_first 3 2 (tuple ∷ []) (rel.0 ∷ attr.0 ∷ row.0 ∷ []) (omega arith) below)
below_passes relations answers up (Answer tuple) (Answer other) on below = answers_below answers up tuple other
    (answer_less tuple other below) on

-- ---- one statement

rows_are : (relations : List Relation) (rel : RelId) (r : Relation) → slice_get relations rel.0 ≡ Some r
    → rows_of relations rel ≡ r.rows
rows_are relations rel r at = rw at refl

attr_passes : (relations : List Relation) (rel : RelId) (attr : AttrId) (r : Relation) → slice_get relations rel.0 ≡
    Some r → attr.0 < length r.attrs
    → has_attr relations rel attr ≡ true
attr_passes relations rel attr r at within = rw at (lt-ltb attr.0 (length r.attrs) within)

row_passes : (relations : List Relation) (rel : RelId) (row : RowId) (r : Relation) (ent : ℕ) → slice_get relations rel.0 ≡ Some r
    → entity_of r.rows row.0 ≡ Some ent → is_row (rows_of relations rel) row ≡ true
row_passes relations rel row r ent at of =
    ap (λ (rows : List Row). is_row rows row) (rows_are relations rel r at) ∙ lt-ltb row.0 (length r.rows)
    (row_within r.rows row.0 ent of)

one_passes : (a b : Option ℕ) (n : ℕ) → a ≡ Some n → b ≡ Some n → is_one a b ≡ true
one_passes a b n e f = rw (e, f) (eq-eqb n n refl)

-- a statement passes all checks but that of its order
record Passes (relations : List Relation) (st : Statement) : Type 0 where
  known : is_known relations st ≡ true
  canonical : is_canonical relations st ≡ true
  rows : has_rows relations st ≡ true
  pair : is_pair relations st ≡ true

passes : (relations : List Relation) → AreRelations relations → (answers : ℕ) (st : Statement) → IsOnRows relations
    answers st → Passes relations st
passes relations are answers (Before rel attr a b) on =
    let r = on.relation in
    let at = on.is_relation in
    record {
      known = attr_passes relations rel attr r at on.attr_in;
      canonical = refl;
      rows = and_from (is_row (rows_of relations rel) a) (is_row (rows_of relations rel) b)
          (row_passes relations rel a r on.ent at on.earlier_of) (row_passes relations rel b r on.ent at on.later_of);
      pair = and_from (is_one (entity_of (rows_of relations rel) a.0) (entity_of (rows_of relations rel) b.0)) (nat_lt a.0 b.0)
          (one_passes (entity_of (rows_of relations rel) a.0) (entity_of (rows_of relations rel) b.0) on.ent
          (ap (λ (rows : List Row). entity_of rows a.0) (rows_are relations rel r at) ∙ on.earlier_of)
          (ap (λ (rows : List Row). entity_of rows b.0) (rows_are relations rel r at) ∙ on.later_of))
          (lt-ltb a.0 b.0 on.below);
    }
passes relations are answers (Top rel attr row) on =
    record {
      known = attr_passes relations rel attr on.relation on.is_relation on.attr_in;
      canonical = refl;
      rows = row_passes relations rel row on.relation on.ent on.is_relation on.row_of;
      pair = refl;
    }
passes relations are answers (Last rel attr row) on =
    let its = on.on in
    let r = its.relation in
    record {
      known = attr_passes relations rel attr r its.is_relation its.attr_in;
      canonical = ap (λ (rows : List Row). is_first_alike rows attr.0 row) (rows_are relations rel r its.is_relation)
          ∙ canonical.is_canonical r attr.0 row its.ent (facts_of relations are rel r its.is_relation) its.attr_in
          its.row_of on.itself;
      rows = row_passes relations rel row r its.ent its.is_relation its.row_of;
      pair = refl;
    }
passes relations are answers (Answer tuple) on = record { known = refl; canonical = refl; rows = refl; pair = refl }

-- five checks, one after another
abbrev checked : Bool → Bool → Bool → Bool → Bool → Option ErrorCode
checked a b c d e =
    if not a then Some UnknownName
    else if not b then Some DuplicateName
    else if not c then Some Mismatch
    else if not d then Some UnknownRow
    else if not e then Some NotOneEntity
    else None

all_checked : (a b c d e : Bool) → a ≡ true → b ≡ true → c ≡ true → d ≡ true → e ≡ true → checked a b c d e ≡ None
all_checked a b c d e p q r s t = rw (p, q, r, s, t) refl

no_fault : (relations : List Relation) → AreRelations relations → (answers : List (List Value))
    (before : Option Statement) (st : Statement)
    → is_above answers before st ≡ true → IsOnRows relations (length answers) st → statement_fault relations answers
    before st ≡ None
no_fault relations are answers before st above on =
    let its = passes relations are (length answers) st on in
    all_checked (is_known relations st) (is_above answers before st) (is_canonical relations st)
    (has_rows relations st) (is_pair relations st)
    its.known above its.canonical its.rows its.pair

-- ---- all statements

pub no_statement_fault : (relations : List Relation) → AreRelations relations → (answers : List (List Value))
    → AreAscending answers → (at : ℕ)
    (before : Option Statement) (statements : List Statement) →
    ((st : Statement) → IsIn statements st → is_above answers before st ≡ true)
    → Ascends IsBelow statements → ((st : Statement) → IsIn statements st → IsOnRows relations (length answers) st)
    → statements_fault relations answers at before statements ≡ None
no_statement_fault relations are answers tuples at before [] above up on = refl
no_statement_fault relations are answers tuples at before (st ∷ statements) above up on =
    let here = no_fault relations are answers before st (above st (inl refl)) (on st (inl refl)) in
    let rest =
    no_statement_fault relations are answers tuples (at + 1) (Some st) statements
    (λ later there. below_passes relations answers tuples st later (on later (inr there)) (up.0 later there)) up.1
    (λ later there. on later (inr there)) in
    rw (here, rest) refl

-- ---- steps

lits_pass : (n : ℕ) (lits : List Lit) → All (λ lit. var_of lit < n) lits → list_all (λ lit. nat_lt (var_of lit) n) lits ≡ true
lits_pass n [] within = refl
lits_pass n (lit ∷ lits) within =
    and_from (nat_lt (var_of lit) n) (list_all (λ l. nat_lt (var_of l) n) lits)
    (lt-ltb (var_of lit) n (All-head (λ l. var_of l < n) lit lits within))
    (lits_pass n lits (All-tail (λ l. var_of l < n) lit lits within))

pub no_step_fault : (n at : ℕ) (steps : List Step) → AreWithin n steps → steps_fault n at steps ≡ None
no_step_fault n at [] within = refl
no_step_fault n at (step ∷ steps) within =
    let here = lits_pass n (clause_of step) (All-head (λ t. All (λ l. var_of l < n) (clause_of t)) step steps within) in
    let rest = no_step_fault n (at + 1) steps (All-tail (λ t. All (λ l. var_of l < n) (clause_of t)) step steps within) in
    rw here rest

-- ---- a log

pub well_formed : (relations : List Relation) → AreRelations relations → (log : Log) → AreAscending log.answers
    → Ascends IsBelow log.statements
    → ((st : Statement) → IsIn log.statements st → IsOnRows relations (length log.answers) st)
    → AreWithin (length log.statements) log.steps
    → first_fault relations log ≡ None
well_formed relations are log tuples up on within =
    let statements = no_statement_fault relations are log.answers tuples 0 None log.statements (λ st there. refl) up on in
    let steps = no_step_fault (length log.statements) 0 log.steps within in
    ap (λ (o : Option FormFault). or_else o (steps_fault (length log.statements) 0 log.steps)) statements ∙ steps

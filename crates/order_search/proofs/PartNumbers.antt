-- The variables of a part as a scope, all variables as one, and the part of a variable.
use Rattle.std.proofs.Common.{◌≡◌, ◌⊎◌, ◌<◌, ◌≤◌, ◌+◌, ◌-◌, ◌∙◌, ℕ, zero, suc, List, [], Contains, Option, Some, IfSome, get_or, length, slice_get, sym, ap, subst, inl, inr, arith}
use Rattle.std.specs.List.Sorted.{IsStrictlyIncreasing}
use Rattle.std.proofs.lemmas.List.{same_lists}
use Rattle.std.proofs.lemmas.List.Elements.{Contains-append_cases}
use Rattle.std.proofs.lemmas.List.FromFn.{get_or-range_with_len, length-range_with_len}
use Rattle.std.proofs.lemmas.Option.{IfSome_then, get_or_from_slice_get, same_Some, slice_get-get_or, slice_get_within}
use Rattle.currency_base.specs.Literals.{var_of}
use Rattle.currency_base.specs.declared.ids.AttrId.{AttrId}
use Rattle.currency_base.specs.declared.ids.RelId.{RelId}
use Rattle.currency_base.specs.declared.ids.RowId.{RowId}
use Rattle.currency_base.specs.declared.lit.Lit.{Lit}
use Rattle.currency_base.specs.declared.row.Row.{Row}
use Rattle.partial_orders.specs.Pairs.{entity_of}
use Rattle.spec_model.specs.Facts.{IsRelation}
use Rattle.spec_model.specs.Spec.{Spec}
use Rattle.spec_model.specs.declared.relation.Relation.{Relation}
use Rattle.refutation_log.specs.declared.statement.Statement.{Statement}
use Rattle.refutation_log.specs.declared.statement.Statement.TheVariants as says
use Rattle.order_literals.specs.Numbers.{Numbers, numbers_of}
use Rattle.order_literals.specs.Statements.{statements_of}
use Rattle.order_literals.specs.declared.wanted.Wanted.{Wanted}
use Rattle.order_clauses.proofs.Reading.{all_at}
use Rattle.search_logs.specs.SearchLogs.{variables}
use Rattle.entity_ties.specs.Labels.{AreTies, Labelling, cell, label_of, labels_in}
use Rattle.entity_ties.specs.Parts.{list_at}
use Rattle.entity_ties.specs.Tied.{Cell}
use Rattle.variable_parts.specs.Parts.{AreVariableParts, Parted, label_at, part_of, row_cell}
use Rattle.variable_parts.proofs.Cells.{cell_at, of_row_cell, row_at}
use Rattle.variable_parts.proofs.Numbered.{statement_cell}
use Rattle.variable_parts.proofs.Staying.{in_list, list_there, var_of_part}
use Rattle.known_models.specs.Known.{PartedSpec}
use Rattle.search_trail.specs.Trails.{Ascend, IsScope, ScopedValues, Trail, values_of, whole_scope}
use Rattle.search_trail.proofs.KnownValues.{as_many_values}
use Rattle.search_trail.proofs.Scopes.{whole_is_scope}
use Rattle.watch_propagate.proofs.KeptLists.{contains_at}
use Rattle.order_search.specs.Kept.{vars_of}
use Rattle.order_search.specs.Parts.{AreParts, IsRowIn, parted_of}
use Rattle.order_search.specs.Searches.{Subject}
use Rattle.order_search.specs.Tied.{AreMembers, scope_in}
use Rattle.order_search.specs.declared.parting.Parting.{Parting}

-- ---- the scope of a part

-- of numbers each below the next, an earlier one is below a later one
increasing : (xs : List ℕ) → IsStrictlyIncreasing xs → (i n : ℕ) → i + n + 1 < length xs → get_or xs i 0 < get_or xs (i + n + 1) 0
increasing xs up i zero within =
    let same : i + 1 ≡ i + 0 + 1 = omega arith in
    subst (λ (k : ℕ). get_or xs i 0 < get_or xs k 0) same (up i (omega (arith, within)))
increasing xs up i (suc n) within =
    let front = increasing xs up i n (omega (arith, within)) in
    let step = up (i + n + 1) (omega (arith, within)) in
    let same : i + n + 1 + 1 ≡ i + suc n + 1 = omega arith in
    let last : get_or xs (i + n + 1) 0 < get_or xs (i + suc n + 1) 0 =
    subst (λ (k : ℕ). get_or xs (i + n + 1) 0 < get_or xs k 0) same step in
    omega (arith, front, last)

ascends_by : (xs : List ℕ) → IsStrictlyIncreasing xs → (i j gap low high : ℕ) → i + gap + 1 ≡ j
    → slice_get xs i ≡ Some low → slice_get xs j ≡ Some high → low < high
ascends_by xs up i j gap low high same at_i at_j =
    let within = slice_get_within xs j high at_j in
    let one : get_or xs i 0 < get_or xs j 0 =
    subst (λ (k : ℕ). get_or xs i 0 < get_or xs k 0) same (increasing xs up i gap (omega (arith, within, same))) in
    omega (arith, one, get_or_from_slice_get xs i low 0 at_i, get_or_from_slice_get xs j high 0 at_j)

pub ascends : (xs : List ℕ) → IsStrictlyIncreasing xs → Ascend xs
ascends xs up i j low high less at_i at_j = ascends_by xs up i j (j - i - 1) low high (omega (arith, less)) at_i at_j

pub part_scope : (s : Subject) (p : Parted) (part : ℕ) (vars : List ℕ) → AreParts s p → slice_get p.parts part ≡ Some vars
    → IsScope (length (vars_of s)) vars
part_scope s p part vars are at =
    let these = are.parts.each part vars at in
    record {
      ascend = ascends vars these.ascend;
      within = λ i var is.
          let of = ((these.are var).0 (contains_at vars i var is)) in
          slice_get_within (vars_of s) var of.statement of.is_statement;
    }

-- the same, where so many statements are numbered
pub scope_of_part : (s : Subject) (p : Parted) (part : ℕ) (vars : List ℕ) (statements : List Statement) → AreParts s p
    → statements ≡ vars_of s → slice_get p.parts part ≡ Some vars → IsScope (length statements) vars
scope_of_part s p part vars statements are same at =
    subst (λ (ss : List Statement). IsScope (length ss) vars) (sym same) (part_scope s p part vars are at)

-- a variable that is given a value with a part is there
pub scope_below : (s : Subject) (g : Parting) (part : ℕ) → AreParts s g.parts → AreMembers s g → (var : ℕ)
    → Contains (scope_in g part) var → var < length (vars_of s)
scope_below s g part are members var is_in = by (Contains-append_cases (list_at g.parts.parts part) (list_at g.members part) var is_in)
  where
    by : Contains (list_at g.parts.parts part) var ⊎ Contains (list_at g.members part) var → var < length (vars_of s)
    by (inl here) =
        let v = var_of_part s.spec (vars_of s) g.parts.ties g.parts.parts are.parts part var here in
        slice_get_within (vars_of s) var v.statement v.is_statement
    by (inr member) = let m = members.each part var member in slice_get_within (vars_of s) var _ m.says

-- and with it a goal
pub goal_within : (s : Subject) (g : Parting) (part : ℕ) (goal : Option Lit) (statements : List Statement) → AreParts s g.parts
    → AreMembers s g → statements ≡ vars_of s → IfSome goal (λ lit. Contains (scope_in g part) (var_of lit))
    → IfSome goal (λ lit. var_of lit < length statements)
goal_within s g part goal statements are members same of =
    IfSome_then goal of (λ lit is_in.
    subst (λ (ss : List Statement). var_of lit < length ss) (sym same) (scope_below s g part are members (var_of lit) is_in))

-- the list of a part is read at its place
pub list_is : (parts : List (List ℕ)) (part : ℕ) (vars : List ℕ) → slice_get parts part ≡ Some vars → vars ≡ list_at parts part
list_is parts part vars at = sym (get_or_from_slice_get parts part vars [] at)

-- where a variable stands in the list of a part, the part is there
pub part_there : (parts : List (List ℕ)) (part var : ℕ) → Contains (list_at parts part) var → part < length parts
part_there parts part var is_in = slice_get_within parts part (list_at parts part) (list_there parts part var is_in)

-- ---- all variables

module _ (n : ℕ) (xs : List ℕ) (is : IsScope n xs) (many : length xs ≡ n) where
  there : (i : ℕ) → i < length xs → slice_get xs i ≡ Some (get_or xs i 0)
  there i within = slice_get-get_or xs i 0 within

  next : (i : ℕ) → i + 1 < length xs → get_or xs i 0 < get_or xs (i + 1) 0
  next i within =
      is.ascend i (i + 1) (get_or xs i 0) (get_or xs (i + 1) 0) (omega arith) (there i (omega (arith, within)))
      (there (i + 1) within)

  at_least : (i : ℕ) → i < length xs → i ≤ get_or xs i 0
  at_least zero within = omega arith
  at_least (suc i) within =
      let before = at_least i (omega (arith, within)) in
      let step = next i (omega (arith, within)) in
      let same : i + 1 ≡ suc i = omega arith in
      let here : get_or xs i 0 < get_or xs (suc i) 0 = subst (λ (k : ℕ). get_or xs i 0 < get_or xs k 0) same step in
      omega (arith, before, here)

  -- with so many behind it
  at_most : (behind i : ℕ) → i + behind + 1 ≡ length xs → get_or xs i 0 + behind + 1 ≤ n
  at_most zero i e =
      let below = is.within i (get_or xs i 0) (there i (omega (arith, e))) in
      omega (arith, below)
  at_most (suc behind) i e =
      let more = at_most behind (i + 1) (omega (arith, e)) in
      let step = next i (omega (arith, e)) in
      omega (arith, more, step)

  each_is : (i : ℕ) → i < length xs → get_or xs i 0 ≡ i
  each_is i within =
      let low = at_least i within in
      let high = at_most (length xs - i - 1) i (omega (arith, within)) in
      omega (arith, low, high, many, within)

  pub whole_is : xs ≡ whole_scope n
  whole_is =
      same_lists xs (whole_scope n) (many ∙ sym (length-range_with_len 0 n))
      (λ i d within.
      let read : get_or (whole_scope n) i d ≡ 0 + i = get_or-range_with_len 0 n i d (omega (arith, within, many)) in
      let here = get_or_from_slice_get xs i (get_or xs i 0) d (there i within) in
      let same = each_is i within in
      omega (arith, read, here, same))

pub all_scope : (n count : ℕ) (xs : List ℕ) → count ≡ n → xs ≡ whole_scope count → IsScope n xs
all_scope n count xs many is =
    subst (λ (k : ℕ). IsScope k xs) many (subst (IsScope count) (sym is) (whole_is_scope count))

-- a trail's scope of as many variables as there are
pub scope_whole : (t : Trail) (values : ScopedValues) (scope : List ℕ) (count n : ℕ) → values ≡ values_of t
    → scope ≡ values.scope → IsScope (length values.given) values.scope → count ≡ length values.given → length scope ≡ count
    → t.vars ≡ n → t.scope ≡ whole_scope n
scope_whole t values scope count n is scope_is within count_is same vars =
    let front : values.scope ≡ t.scope = ap (λ (v : ScopedValues). v.scope) is in
    let many : length values.given ≡ n = ap (λ (v : ScopedValues). length v.given) is ∙ as_many_values t ∙ vars in
    let long : length values.scope ≡ length values.given =
    ap (λ (xs : List ℕ). length xs) (sym scope_is) ∙ same ∙ count_is in
    sym front ∙ whole_is (length values.given) values.scope within long ∙ ap whole_scope many

-- ---- what is numbered, with its parts

pub are_parts : (s : Subject) (n : Numbers) (ties : Labelling) (p : Parted) → n ≡ numbers_of s.spec.relations s.wanted
    → AreTies s.spec ties → p.ties ≡ ties → AreVariableParts s.spec (statements_of n) ties p.parts → AreParts s p
are_parts s n ties p is of same parts = record {
  ties = subst (AreTies s.spec) (sym same) of;
  parts = subst (λ (t : Labelling). AreVariableParts s.spec (vars_of s) t p.parts) (sym same)
      (subst (λ (m : Numbers). AreVariableParts s.spec (statements_of m) ties p.parts) is parts);
}

pub numbered_parts : (s : Subject) (n : Numbers) (p : Parted) → n ≡ numbers_of s.spec.relations s.wanted → AreParts s p
    → AreVariableParts s.spec (statements_of n) p.ties p.parts
numbered_parts s n p is are =
    subst (λ (m : Numbers). AreVariableParts s.spec (statements_of m) p.ties p.parts) (sym is) are.parts

pub parted_is : (p : PartedSpec) (s : Subject) (q : Parted) → p.spec ≡ s.spec → p.wanted ≡ s.wanted → p.ties ≡ q.ties
    → p.parts ≡ q.parts → p ≡ parted_of s q
parted_is p s q spec wanted ties parts =
    ap (λ (x : Spec). record p { spec = x }) spec
    ∙ ap (λ (x : Wanted). record p { spec = s.spec; wanted = x }) wanted
    ∙ ap (λ (x : Labelling). record p { spec = s.spec; wanted = s.wanted; ties = x }) ties
    ∙ ap (λ (x : List (List ℕ)). record p { spec = s.spec; wanted = s.wanted; ties = q.ties; parts = x }) parts

-- ---- the part of a row

-- a row that is there is one of the relation's
pub row_there : (s : Spec) (rel : RelId) (row : RowId) (r : Relation) → IsRowIn s rel row → slice_get s.relations rel.0 ≡ Some r
    → row.0 < length r.rows
row_there s rel row r is at =
    subst (λ (q : Relation). row.0 < length q.rows) (same_Some is.relation r (sym is.is_relation ∙ at)) is.within

module _ (s : Spec) (t : Labelling) (ties : AreTies s t) (rel : ℕ) (r : Relation) (at : slice_get s.relations rel ≡ Some r) where
  pub rel_labelled : rel < length t.labels
  rel_labelled = let within = slice_get_within s.relations rel r at in omega (arith, within, ties.per_relation)

  module _ (row : ℕ) (x : Row) (at_row : slice_get r.rows row ≡ Some x) where
    pub ent_labelled : IsRelation r → x.entity.0 < length (labels_in t rel)
    ent_labelled facts =
        let below = all_at (λ (y : Row). y.entity.0 < length r.entities) r.rows row x facts.entities at_row in
        omega (arith, below, ties.per_entity rel r at)

    pub row_label : (part : ℕ) → label_of t (cell rel x.entity.0) ≡ Some part
        → label_at t (row_cell s.relations rel row) ≡ Some part
    row_label part label =
        let of : entity_of r.rows row ≡ Some x.entity.0 = cc at_row in
        ap (label_at t) (cell_at s.relations rel row r x.entity.0 at of) ∙ label

-- ---- the part of a variable

row_in : (s : Spec) (rel : RelId) (row : RowId) → (cell : (c : Cell) × (row_cell s.relations rel.0 row.0 ≡ Some c))
    → IsRowIn s rel row
row_in s rel row cell =
    let of = of_row_cell s.relations rel.0 row.0 cell.0 cell.1 in
    let x = row_at of.relation.rows row.0 of.ent of.of_row in
    record {
      relation = of.relation;
      is_relation = of.is_relation;
      within = slice_get_within of.relation.rows row.0 x.0 x.1;
    }

pub before_row : (s : Spec) (wanted : Wanted) (var : ℕ) (rel : RelId) (attr : AttrId) (earlier later : RowId)
    → slice_get (variables s wanted) var ≡ Some (says.Before rel attr earlier later) → IsRowIn s rel earlier
before_row s wanted var rel attr earlier later at =
    row_in s rel earlier (statement_cell s.relations wanted var (says.Before rel attr earlier later) at
    (λ tuple e. cc))

pub top_row : (s : Spec) (wanted : Wanted) (var : ℕ) (rel : RelId) (attr : AttrId) (row : RowId)
    → slice_get (variables s wanted) var ≡ Some (says.Top rel attr row) → IsRowIn s rel row
top_row s wanted var rel attr row at =
    row_in s rel row (statement_cell s.relations wanted var (says.Top rel attr row) at (λ tuple e. cc))

pub last_row : (s : Spec) (wanted : Wanted) (var : ℕ) (rel : RelId) (attr : AttrId) (row : RowId)
    → slice_get (variables s wanted) var ≡ Some (says.Last rel attr row) → IsRowIn s rel row
last_row s wanted var rel attr row at =
    row_in s rel row (statement_cell s.relations wanted var (says.Last rel attr row) at (λ tuple e. cc))

-- the statement of a variable, as it is told
pub meant : (now seen : Subject) (n : Numbers) (var : ℕ) (told statement : Statement) → seen ≡ now
    → n ≡ numbers_of seen.spec.relations seen.wanted → slice_get (statements_of n) var ≡ Some told → told ≡ statement
    → slice_get (vars_of now) var ≡ Some statement
meant now seen n var told statement same numbered at is =
    subst (λ (s : Subject). slice_get (vars_of s) var ≡ Some statement) same
    (subst (λ (m : Numbers). slice_get (statements_of m) var ≡ Some statement) numbered
    (at ∙ ap (λ (x : Statement). Some x) is))

-- a variable whose statement has a part stands in its list
pub stands_in : (s : Subject) (p : Parted) (part var : ℕ) (statement : Statement) → AreParts s p
    → slice_get (vars_of s) var ≡ Some statement → part_of p.ties s.spec.relations statement ≡ Some part
    → Contains (list_at p.parts part) var
stands_in s p part var statement are at of =
    in_list s.spec (vars_of s) p.ties p.parts are.parts are.ties part var
    (record { statement = statement; is_statement = at; of_part = of })

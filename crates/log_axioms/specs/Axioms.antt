-- The axioms of a specification: which clause each label has, and which literals are that clause.
use Rattle.std.specs.Prelude.{◌==◌, ◌&&◌, ◌||◌, ℕ, Bool, true, false, not, nat_lt, if◌then◌else◌, List, [], ◌∷◌, ◌++◌, length, map, Option, Some, None, slice_get}
use Rattle.std.specs.List.{filter, list_all, list_any}
use Rattle.currency_base.specs.declared.ids.AttrId.{AttrId}
use Rattle.currency_base.specs.declared.ids.EntId.{EntId}
use Rattle.currency_base.specs.declared.ids.RelId.{RelId}
use Rattle.currency_base.specs.declared.ids.RowId.{RowId}
use Rattle.currency_base.specs.declared.lit.Lit.{Lit}
use Rattle.currency_base.specs.declared.pair.Pair.{Pair}
use Rattle.currency_base.specs.declared.row.Row.{Row}
use Rattle.currency_base.specs.declared.value.Cmp.TheVariants.{Eq}
use Rattle.currency_base.specs.declared.value.Value.{Value}
use Rattle.copy_functions.specs.Copies.{CopyFunction, source_at}
use Rattle.copy_functions.specs.declared.place.Place.{Place}
use Rattle.denial_rules.specs.Instances.{field_value, instance_of, is_compared}
use Rattle.denial_rules.specs.declared.instance.RuleInstance.{RuleInstance}
use Rattle.denial_rules.specs.declared.rule.Rule.{Rule}
use Rattle.entity_rows.specs.Members.{members}
use Rattle.match_premises.specs.Premises.{comparisons_are}
use Rattle.match_premises.specs.declared.premise.Premise.{Premise}
use Rattle.partial_orders.specs.Pairs.{entity_of, has_pair}
use Rattle.query_model.specs.declared.query.Atom.{Atom}
use Rattle.query_model.specs.declared.query.Disjunct.{Disjunct}
use Rattle.query_model.specs.declared.query.Query.{Query}
use Rattle.spec_model.specs.Spec.{Spec}
use Rattle.spec_model.specs.declared.relation.Relation.{Relation}
use Rattle.refutation_log.specs.declared.statement.Statement.{Statement}
use Rattle.refutation_log.specs.declared.statement.Statement.TheVariants as says
use Rattle.refutation_log.specs.declared.step.Label.{Label}
use Rattle.refutation_log.specs.declared.step.Label.TheVariants as label
use Rattle.log_axioms.specs.declared.signed.Signed.{Signed}
use Rattle.log_axioms.specs.Matches.{answer_place, match_claims}
use Rattle.log_axioms.specs.Posed.{Posed}
use Rattle.log_axioms.specs.Truth.{meaning, rows_in}

-- ---- statements with their signs

abbrev pub before : RelId → AttrId → RowId → RowId → Signed
before rel attr earlier later = record { statement = says.Before rel attr earlier later; negative = false }

abbrev pub not_before : RelId → AttrId → RowId → RowId → Signed
not_before rel attr earlier later = record { statement = says.Before rel attr earlier later; negative = true }

abbrev pub top : RelId → AttrId → RowId → Signed
top rel attr row = record { statement = says.Top rel attr row; negative = false }

abbrev pub not_top : RelId → AttrId → RowId → Signed
not_top rel attr row = record { statement = says.Top rel attr row; negative = true }

abbrev pub last : RelId → AttrId → RowId → Signed
last rel attr row = record { statement = says.Last rel attr row; negative = false }

abbrev pub not_last : RelId → AttrId → RowId → Signed
not_last rel attr row = record { statement = says.Last rel attr row; negative = true }

-- the tuple at a place is an answer
abbrev pub answer : ℕ → Signed
answer place = record { statement = says.Answer place; negative = false }

-- ---- conditions

-- the relation has the attribute
abbrev pub is_attr : Relation → AttrId → Bool
is_attr r attr = nat_lt attr.0 (length r.attrs)

-- both are there, and they are one number
abbrev pub is_one : Option ℕ → Option ℕ → Bool
is_one (Some a) (Some b) = a == b
is_one a b = false

-- both rows are there, and of one entity
abbrev pub same_entity : List Row → RowId → RowId → Bool
same_entity rows a b = is_one (entity_of rows a.0) (entity_of rows b.0)

-- two different rows of one entity
abbrev pub are_two : List Row → RowId → RowId → Bool
are_two rows a b = same_entity rows a b && not (a.0 == b.0)

-- both rows have a value of the attribute, and it is one value
abbrev pub same_value : List Row → ℕ → RowId → RowId → Bool
same_value rows attr a b = is_compared (field_value rows (Some a) attr) Eq (field_value rows (Some b) attr)

-- all rows are of one entity
abbrev pub of_one_entity : List Row → List RowId → Bool
of_one_entity rows [] = false
of_one_entity rows (first ∷ more) = list_all (same_entity rows first) (first ∷ more)

-- the other rows of an entity
abbrev pub others : List Row → ℕ → RowId → List RowId
others rows ent row = filter (λ other. not (row.0 == other.0)) (members rows ent)

-- the rows of an entity that have a row's value
abbrev pub alike : List Row → ℕ → ℕ → RowId → List RowId
alike rows attr ent row = filter (same_value rows attr row) (members rows ent)

-- ---- the clause of each kind of label

-- the earlier row stands before the later one, if the pair is given
abbrev pub given_clause : RelId → AttrId → RowId → RowId → Relation → Option (List Signed)
given_clause rel attr earlier later r =
    if has_pair r.given (record { attr = attr; earlier = earlier; later = later }) then Some
    (before rel attr earlier later ∷ []) else None

-- of three different rows of one entity
abbrev pub transitive_clause : RelId → AttrId → RowId → RowId → RowId → Relation → Option (List Signed)
transitive_clause rel attr first second third r =
    if is_attr r attr && are_two r.rows first second && are_two r.rows second third && are_two r.rows first third
    then Some (not_before rel attr first second ∷ not_before rel attr second third ∷ before rel attr first third ∷ [])
    else None

-- of two different rows of one entity
abbrev pub above_clause : RelId → AttrId → RowId → RowId → Relation → Option (List Signed)
above_clause rel attr row other r =
    if is_attr r attr && are_two r.rows row other then Some (not_top rel attr row ∷ before rel attr other row ∷ []) else None

-- of a row: it stands last, or one of the others of its entity does not stand before it
abbrev pub top_clause : RelId → AttrId → RowId → Relation → Option (List Signed)
top_clause rel attr row r = if is_attr r attr then of (entity_of r.rows row.0) else None
  where
    of : Option ℕ → Option (List Signed)
    of None = None
    of (Some ent) = Some (top rel attr row ∷ map (λ other. not_before rel attr other row) (others r.rows ent row))

-- the same, where the rows of its entity are these
abbrev pub top_among : RelId → AttrId → RowId → List RowId → List Signed
top_among rel attr row members =
    top rel attr row ∷ map (λ other. not_before rel attr other row) (filter (λ other. not (row.0 == other.0)) members)

-- of a row
abbrev pub last_clause : RelId → AttrId → RowId → Relation → Option (List Signed)
last_clause rel attr row r =
    if is_attr r attr && same_entity r.rows row row then Some (not_top rel attr row ∷ last rel attr row ∷ []) else None

-- of a row: its value is not the current one, or one of the rows of its entity with that value stands last
abbrev pub value_clause : RelId → AttrId → RowId → Relation → Option (List Signed)
value_clause rel attr row r = if is_attr r attr then of (entity_of r.rows row.0) else None
  where
    of : Option ℕ → Option (List Signed)
    of None = None
    of (Some ent) = Some (not_last rel attr row ∷ map (top rel attr) (alike r.rows attr.0 ent row))

-- the same, where the rows of its entity are these
abbrev pub value_among : RelId → AttrId → RowId → List Row → List RowId → List Signed
value_among rel attr row rows members = not_last rel attr row ∷ map (top rel attr) (filter (same_value rows attr.0 row) members)

-- the conclusion of an instance, if it has one
abbrev pub concluded_clause : RelId → Option Pair → List Signed
concluded_clause rel None = []
concluded_clause rel (Some p) = before rel p.attr p.earlier p.later ∷ []

-- the negation of each premise, and the conclusion
abbrev pub instance_said : RelId → RuleInstance → List Signed
instance_said rel i = map (λ p. not_before rel p.attr p.earlier p.later) i.premises ++ concluded_clause rel i.conclusion

-- of an instance of a rule: one of its premises does not hold, or its conclusion does
abbrev pub instance_clause : RelId → Option RuleInstance → Option (List Signed)
instance_clause rel None = None
instance_clause rel (Some i) =
    Some (map (λ p. not_before rel p.attr p.earlier p.later) i.premises ++ concluded_clause rel i.conclusion)

-- of one row per variable of a rule, all of one entity, for which the rule has an instance
abbrev pub rule_clause : Rule → List RowId → Relation → Option (List Signed)
rule_clause rule rows r =
    if (length rows == rule.vars) && of_one_entity r.rows rows then instance_clause rule.relation
    (instance_of rule r.rows rows) else None

-- of two mapped rows at a place: their sources do not stand in this order, or they do
abbrev pub place_clause : CopyFunction → RowId → RowId → RowId → RowId → Option Place → Option (List Signed)
place_clause copy first second first_source second_source None = None
place_clause copy first second first_source second_source (Some place) =
    Some (not_before copy.source place.source first_source second_source ∷ before copy.target place.target first second ∷ [])

-- the same, for a place by its number
abbrev pub clause_at : CopyFunction → ℕ → RowId → RowId → RowId → RowId → Option (List Signed)
clause_at copy place first second first_source second_source =
    place_clause copy first second first_source second_source (slice_get copy.places place)

-- of two different rows of one entity that are mapped to two different rows of one entity
abbrev pub copy_clause : CopyFunction → ℕ → RowId → RowId → Relation → Relation → Option (List Signed)
copy_clause copy place first second target source = of (source_at copy first) (source_at copy second)
  where
    of : Option RowId → Option RowId → Option (List Signed)
    of (Some s) (Some w) =
        if are_two target.rows first second && are_two source.rows s w
        then place_clause copy first second s w (slice_get copy.places place) else None
    of s w = None

-- of a match: its tuple is an answer, or one of what it claims is not the current value
abbrev pub claimed_clause : Option ℕ → Option (List Premise) → Option (List Signed)
claimed_clause (Some place) (Some premises) = Some (answer place ∷ map (λ p. not_last p.rel p.attr p.row) premises)
claimed_clause place premises = None

-- of a match whose tuple stands at this place
abbrev pub placed_clause : List Relation → ℕ → List EntId → List Value → List Atom → Option (List Signed)
placed_clause relations place entities values atoms = claimed_clause (Some place) (match_claims relations values atoms entities)

-- of one entity per atom of a disjunct and one value per variable, for which its comparisons hold
abbrev pub match_clause : List Relation → List (List Value) → List EntId → List Value → Disjunct → Option (List Signed)
match_clause relations answers entities values d =
    if (length values == d.vars) && (length entities == length d.atoms) && comparisons_are values d.tests
    then claimed_clause (answer_place answers values d.head) (match_claims relations values d.atoms entities) else None

-- ---- the clause of a label

-- what a relation gives, if it is there
abbrev pub in_relation : List Relation → RelId → (Relation → Option (List Signed)) → Option (List Signed)
in_relation relations rel clause = of (slice_get relations rel.0)
  where
    of : Option Relation → Option (List Signed)
    of None = None
    of (Some r) = clause r

-- what a rule gives, if it is there
abbrev pub of_rule : Spec → List RowId → Option Rule → Option (List Signed)
of_rule s rows None = None
of_rule s rows (Some rule) = in_relation s.relations rule.relation (rule_clause rule rows)

-- what a copy function gives, if it is there
abbrev pub of_copy : Spec → ℕ → RowId → RowId → Option CopyFunction → Option (List Signed)
of_copy s place first second None = None
of_copy s place first second (Some copy) =
    in_relation s.relations copy.target (λ target. in_relation s.relations copy.source
    (copy_clause copy place first second target))

-- what a disjunct gives, if it is there
abbrev pub of_disjunct : List Relation → List (List Value) → List EntId → List Value → Option Disjunct → Option (List Signed)
of_disjunct relations answers entities values None = None
of_disjunct relations answers entities values (Some d) = match_clause relations answers entities values d

-- what a query gives, if one is asked
abbrev pub of_query : List Relation → List (List Value) → ℕ → List EntId → List Value → Option Query → Option (List Signed)
of_query relations answers disjunct entities values None = None
of_query relations answers disjunct entities values (Some q) =
    of_disjunct relations answers entities values (slice_get q.disjuncts disjunct)

-- the clause of a label; a label whose condition does not hold has none, and so has a match where no query is asked
abbrev pub axiom_of : Spec → Posed → Label → Option (List Signed)
axiom_of s posed (label.Given rel attr earlier later) = in_relation s.relations rel (given_clause rel attr earlier later)
axiom_of s posed (label.Transitive rel attr first second third) = in_relation s.relations rel
    (transitive_clause rel attr first second third)
axiom_of s posed (label.Rule rule rows) = of_rule s rows (slice_get s.rules rule.0)
axiom_of s posed (label.Copy copy place first second) = of_copy s place first second (slice_get s.copies copy.0)
axiom_of s posed (label.Above rel attr row other) = in_relation s.relations rel (above_clause rel attr row other)
axiom_of s posed (label.Top rel attr row) = in_relation s.relations rel (top_clause rel attr row)
axiom_of s posed (label.Last rel attr row) = in_relation s.relations rel (last_clause rel attr row)
axiom_of s posed (label.Value rel attr row) = in_relation s.relations rel (value_clause rel attr row)
axiom_of s posed (label.Match disjunct entities values) =
    of_query s.relations posed.answers disjunct entities values posed.query

-- ---- literals and the clause

-- the signs are one
abbrev pub same_sign : Bool → Bool → Bool
same_sign true b = b
same_sign false b = not b

-- the place is one: relation and attribute
abbrev pub same_place : RelId → AttrId → RelId → AttrId → Bool
same_place rel attr rel' attr' = (rel.0 == rel'.0) && (attr.0 == attr'.0)

-- two statements with their signs say the same: that a row stands before another is the negation of that it stands after it,
-- and a value is named by any row of its entity that has it
abbrev pub says_same : List Relation → Signed → Signed → Bool
says_same relations a b = by a.statement b.statement
  where
    by : Statement → Statement → Bool
    by (says.Before rel attr earlier later) (says.Before rel' attr' earlier' later') =
        same_place rel attr rel' attr'
        && (((earlier.0 == earlier'.0) && (later.0 == later'.0) && same_sign a.negative b.negative)
        || ((earlier.0 == later'.0) && (later.0 == earlier'.0) && not (same_sign a.negative b.negative)))
    by (says.Top rel attr row) (says.Top rel' attr' row') =
        same_place rel attr rel' attr' && (row.0 == row'.0) && same_sign a.negative b.negative
    by (says.Last rel attr row) (says.Last rel' attr' row') =
        same_place rel attr rel' attr' && same_sign a.negative b.negative
        && same_entity (rows_in (slice_get relations rel.0)) row row' && same_value
        (rows_in (slice_get relations rel.0)) attr.0 row row'
    by (says.Answer tuple) (says.Answer tuple') = (tuple == tuple') && same_sign a.negative b.negative
    by s t = false

-- what is said, if anything is, is the same as a statement with its sign
abbrev pub is_said : List Relation → Signed → Option Signed → Bool
is_said relations s None = false
is_said relations s (Some m) = says_same relations m s

-- a literal says the same as a statement with its sign
abbrev pub lit_says : List Relation → List Statement → Signed → Lit → Bool
lit_says relations statements s lit = is_said relations s (meaning statements lit)

-- the literals are, as a set, a clause: each of them says the same as one of the clause's, and each of these as one of them
abbrev pub is_clause : List Relation → List Statement → List Lit → List Signed → Bool
is_clause relations statements lits clause =
    list_all (λ lit. list_any (λ s. lit_says relations statements s lit) clause) lits
    && list_all (λ s. list_any (lit_says relations statements s) lits) clause

-- the literals are the clause of the label, if it has one
abbrev pub is_axiom : Spec → Posed → List Statement → Label → List Lit → Bool
is_axiom s posed statements l lits = of (axiom_of s posed l)
  where
    of : Option (List Signed) → Bool
    of None = false
    of (Some clause) = is_clause s.relations statements lits clause

-- Clauses of labels other than matches name no answer.
use Rattle.std.proofs.Common.{◌≡◌, ◌==◌, ◌&&◌, ◌++◌, ℕ, Bool, true, cond, List, [], ◌∷◌, All, Option, Some, None, length, map, slice_get, refl, subst}
use Rattle.std.proofs.lemmas.List.Elements.{All-append, All-cons, All-nil}
use Rattle.std.proofs.lemmas.Option.{none-some}
use Rattle.copy_functions.specs.Copies.{CopyFunction, source_at}
use Rattle.copy_functions.specs.declared.place.Place.{Place}
use Rattle.currency_base.specs.declared.ids.AttrId.{AttrId}
use Rattle.currency_base.specs.declared.ids.RelId.{RelId}
use Rattle.currency_base.specs.declared.ids.RowId.{RowId}
use Rattle.currency_base.specs.declared.pair.Pair.{Pair}
use Rattle.denial_rules.specs.Instances.{instance_of}
use Rattle.denial_rules.specs.declared.instance.RuleInstance.{RuleInstance}
use Rattle.denial_rules.specs.declared.rule.Rule.{Rule}
use Rattle.partial_orders.specs.Pairs.{entity_of, has_pair}
use Rattle.refutation_log.specs.declared.statement.Statement.{Statement}
use Rattle.refutation_log.specs.declared.statement.Statement.TheVariants.{Answer}
use Rattle.refutation_log.specs.declared.step.Label.{Label}
use Rattle.refutation_log.specs.declared.step.Label.TheVariants as label
use Rattle.spec_model.specs.Spec.{Spec}
use Rattle.spec_model.specs.declared.relation.Relation.{Relation}
use Rattle.log_axioms.specs.Axioms.{above_clause, alike, are_two, axiom_of, before, concluded_clause, copy_clause, given_clause, in_relation, instance_clause, is_attr, last, last_clause, not_before, not_last, not_top, of_copy, of_one_entity, of_rule, others, place_clause, rule_clause, same_entity, top, top_clause, transitive_clause, value_clause}
use Rattle.log_axioms.specs.Posed.{Posed}
use Rattle.log_axioms.specs.declared.signed.Signed.{Signed}
use Rattle.axiom_laws.proofs.Chosen.{given_if, in_relation_is, some_if}

-- no answer is named
abbrev pub IsPlain : Signed → Type 0
IsPlain s = by s.statement
  where
    by : Statement → Type 0
    by (Answer tuple) = ⊥
    by t = Unit {0}

one : (s : Signed) → IsPlain s → All IsPlain (s ∷ [])
one s plain = All-cons IsPlain s [] plain (All-nil IsPlain)

two : (s t : Signed) → IsPlain s → IsPlain t → All IsPlain (s ∷ t ∷ [])
two s t plain more = All-cons IsPlain s (t ∷ []) plain (one t more)

pub plain_map : {A : Type 0} (f : A → Signed) → ((x : A) → IsPlain (f x)) → (xs : List A) → All IsPlain (map f xs)
plain_map f plain [] = All-nil IsPlain
plain_map f plain (x ∷ xs) = All-cons IsPlain (f x) (map f xs) (plain x) (plain_map f plain xs)

plain_if : (b : Bool) (xs clause : List Signed) → All IsPlain xs → cond b (Some xs) None ≡ Some clause → All IsPlain clause
plain_if b xs clause plain e = subst (All IsPlain) (some_if b xs clause e).1 plain

plain_given : (rel : RelId) (attr : AttrId) (earlier later : RowId) (r : Relation) (clause : List Signed)
    → given_clause rel attr earlier later r ≡ Some clause → All IsPlain clause
plain_given rel attr earlier later r clause e =
    let p : Pair = record { attr = attr; earlier = earlier; later = later } in
    plain_if (has_pair r.given p) (before rel attr earlier later ∷ []) clause (one (before rel attr earlier later) tt) e

plain_transitive : (rel : RelId) (attr : AttrId) (first second third : RowId) (r : Relation) (clause : List Signed)
    → transitive_clause rel attr first second third r ≡ Some clause → All IsPlain clause
plain_transitive rel attr first second third r clause e =
    let rest = not_before rel attr second third ∷ before rel attr first third ∷ [] in
    plain_if (is_attr r attr && are_two r.rows first second && are_two r.rows second third && are_two r.rows first third)
    (not_before rel attr first second ∷ rest) clause
    (All-cons IsPlain (not_before rel attr first second) rest tt
    (two (not_before rel attr second third) (before rel attr first third) tt tt)) e

plain_above : (rel : RelId) (attr : AttrId) (row other : RowId) (r : Relation) (clause : List Signed)
    → above_clause rel attr row other r ≡ Some clause → All IsPlain clause
plain_above rel attr row other r clause e =
    plain_if (is_attr r attr && are_two r.rows row other) (not_top rel attr row ∷ before rel attr other row ∷ []) clause
    (two (not_top rel attr row) (before rel attr other row) tt tt) e

plain_last : (rel : RelId) (attr : AttrId) (row : RowId) (r : Relation) (clause : List Signed)
    → last_clause rel attr row r ≡ Some clause → All IsPlain clause
plain_last rel attr row r clause e =
    plain_if (is_attr r attr && same_entity r.rows row row) (not_top rel attr row ∷ last rel attr row ∷ []) clause
    (two (not_top rel attr row) (last rel attr row) tt tt) e

plain_top : (rel : RelId) (attr : AttrId) (row : RowId) (r : Relation) (clause : List Signed)
    → top_clause rel attr row r ≡ Some clause → All IsPlain clause
plain_top rel attr row r clause e = by (entity_of r.rows row.0) refl e
  where
    by : (o : Option ℕ) → entity_of r.rows row.0 ≡ o → top_clause rel attr row r ≡ Some clause → All IsPlain clause
    by None of e =
        let none : cond (is_attr r attr) None None ≡ Some clause = rw of at e in
        absurd (none-some clause (given_if (is_attr r attr) None clause none).1)
    by (Some ent) of e =
        let rest = map (λ x. not_before rel attr x row) (others r.rows ent row) in
        let here : cond (is_attr r attr) (Some (top rel attr row ∷ rest)) None ≡ Some clause = rw of at e in
        plain_if (is_attr r attr) (top rel attr row ∷ rest) clause
        (All-cons IsPlain (top rel attr row) rest tt (plain_map (λ x. not_before rel attr x row) (λ x. tt)
        (others r.rows ent row))) here

plain_value : (rel : RelId) (attr : AttrId) (row : RowId) (r : Relation) (clause : List Signed)
    → value_clause rel attr row r ≡ Some clause → All IsPlain clause
plain_value rel attr row r clause e = by (entity_of r.rows row.0) refl e
  where
    by : (o : Option ℕ) → entity_of r.rows row.0 ≡ o → value_clause rel attr row r ≡ Some clause → All IsPlain clause
    by None of e =
        let none : cond (is_attr r attr) None None ≡ Some clause = rw of at e in
        absurd (none-some clause (given_if (is_attr r attr) None clause none).1)
    by (Some ent) of e =
        let rest = map (top rel attr) (alike r.rows attr.0 ent row) in
        let here : cond (is_attr r attr) (Some (not_last rel attr row ∷ rest)) None ≡ Some clause = rw of at e in
        plain_if (is_attr r attr) (not_last rel attr row ∷ rest) clause
        (All-cons IsPlain (not_last rel attr row) rest tt (plain_map (top rel attr) (λ x. tt) (alike r.rows attr.0 ent row))) here

plain_concluded : (rel : RelId) (o : Option Pair) → All IsPlain (concluded_clause rel o)
plain_concluded rel None = All-nil IsPlain
plain_concluded rel (Some p) = one (before rel p.attr p.earlier p.later) tt

plain_instance : (rel : RelId) (o : Option RuleInstance) (clause : List Signed) → instance_clause rel o ≡ Some clause
    → All IsPlain clause
plain_instance rel None clause e = absurd (none-some clause e)
plain_instance rel (Some i) clause e =
    let premises = map (λ p. not_before rel p.attr p.earlier p.later) i.premises in
    plain_if true (premises ++ concluded_clause rel i.conclusion) clause
    (All-append IsPlain premises (concluded_clause rel i.conclusion)
    (plain_map (λ (p : Pair). not_before rel p.attr p.earlier p.later) (λ p. tt) i.premises) (plain_concluded rel i.conclusion)) e

plain_rule : (rule : Rule) (rows : List RowId) (r : Relation) (clause : List Signed) → rule_clause rule rows r ≡ Some
    clause → All IsPlain clause
plain_rule rule rows r clause e =
    let fit = (length rows == rule.vars) && of_one_entity r.rows rows in
    let chosen = given_if fit (instance_clause rule.relation (instance_of rule r.rows rows)) clause e in
    plain_instance rule.relation (instance_of rule r.rows rows) clause chosen.1

plain_place : (copy : CopyFunction) (first second s w : RowId) (o : Option Place) (clause : List Signed)
    → place_clause copy first second s w o ≡ Some clause → All IsPlain clause
plain_place copy first second s w None clause e = absurd (none-some clause e)
plain_place copy first second s w (Some place) clause e =
    let denied = not_before copy.source place.source s w in
    let said = before copy.target place.target first second in
    plain_if true (denied ∷ said ∷ []) clause (two denied said tt tt) e

plain_copy : (copy : CopyFunction) (place : ℕ) (first second : RowId) (target source : Relation) (clause : List Signed)
    → copy_clause copy place first second target source ≡ Some clause → All IsPlain clause
plain_copy copy place first second target source clause e = by (source_at copy first) (source_at copy second) refl refl e
  where
    by : (x y : Option RowId) → source_at copy first ≡ x → source_at copy second ≡ y → copy_clause copy place first
        second target source ≡ Some clause
        → All IsPlain clause
    by None y f g e = let none : None ≡ Some clause = rw f at e in absurd (none-some clause none)
    by (Some s) None f g e = let none : None ≡ Some clause = rw (f, g) at e in absurd (none-some clause none)
    by (Some s) (Some w) f g e =
        let fits = are_two target.rows first second && are_two source.rows s w in
        let at = slice_get copy.places place in
        let here : cond fits (place_clause copy first second s w at) None ≡ Some clause = rw (f, g) at e in
        plain_place copy first second s w at clause (given_if fits (place_clause copy first second s w at) clause here).1

-- ---- labels

-- the label is no match
abbrev pub IsNoMatch : Label → Type 0
IsNoMatch (label.Match disjunct entities values) = ⊥
IsNoMatch l = Unit {0}

of_relation : (relations : List Relation) (rel : RelId) (f : Relation → Option (List Signed)) (clause : List Signed)
    → ((r : Relation) → f r ≡ Some clause → All IsPlain clause) → in_relation relations rel f ≡ Some clause → All IsPlain clause
of_relation relations rel f clause plain e = let r = in_relation_is relations rel f clause e in plain r.0 r.2

plain_rules : (s : Spec) (rows : List RowId) (o : Option Rule) (clause : List Signed) → of_rule s rows o ≡ Some
    clause → All IsPlain clause
plain_rules s rows None clause e = absurd (none-some clause e)
plain_rules s rows (Some rule) clause e =
    of_relation s.relations rule.relation (rule_clause rule rows) clause (λ r. plain_rule rule rows r clause) e

plain_copies : (s : Spec) (place : ℕ) (first second : RowId) (o : Option CopyFunction) (clause : List Signed)
    → of_copy s place first second o ≡ Some clause → All IsPlain clause
plain_copies s place first second None clause e = absurd (none-some clause e)
plain_copies s place first second (Some copy) clause e =
    of_relation s.relations copy.target (λ target. in_relation s.relations copy.source
    (copy_clause copy place first second target)) clause
    (λ target. of_relation s.relations copy.source (copy_clause copy place first second target) clause
    (λ source. plain_copy copy place first second target source clause)) e

pub plain_label : (s : Spec) (posed : Posed) (l : Label) (clause : List Signed) → IsNoMatch l → axiom_of s posed l ≡
    Some clause → All IsPlain clause
plain_label s posed (label.Given rel attr earlier later) clause is e =
    of_relation s.relations rel (given_clause rel attr earlier later) clause (λ r. plain_given rel attr earlier later r clause) e
plain_label s posed (label.Transitive rel attr first second third) clause is e =
    of_relation s.relations rel (transitive_clause rel attr first second third) clause
    (λ r. plain_transitive rel attr first second third r clause) e
plain_label s posed (label.Rule rule rows) clause is e = plain_rules s rows (slice_get s.rules rule.0) clause e
plain_label s posed (label.Copy copy place first second) clause is e = plain_copies s place first second
    (slice_get s.copies copy.0) clause e
plain_label s posed (label.Above rel attr row other) clause is e =
    of_relation s.relations rel (above_clause rel attr row other) clause (λ r. plain_above rel attr row other r clause) e
plain_label s posed (label.Top rel attr row) clause is e =
    of_relation s.relations rel (top_clause rel attr row) clause (λ r. plain_top rel attr row r clause) e
plain_label s posed (label.Last rel attr row) clause is e =
    of_relation s.relations rel (last_clause rel attr row) clause (λ r. plain_last rel attr row r clause) e
plain_label s posed (label.Value rel attr row) clause is e =
    of_relation s.relations rel (value_clause rel attr row) clause (λ r. plain_value rel attr row r clause) e
plain_label s posed (label.Match disjunct entities values) clause is e = absurd is

-- The instances of a rule hold.
use Rattle.std.proofs.Common.{◌≡◌, ◌⊎◌, ◌==◌, ◌&&◌, ◌++◌, ◌<◌, ℕ, Bool, true, false, cond, List, [], ◌∷◌, All, Contains, Option, Some, None, option_map, length, map, get_or, slice_get, slice_index_or, refl, sym, ap, ◌∙◌, subst, inl, inr, arith}
use Rattle.std.specs.List.{list_all}
use Rattle.std.proofs.lemmas.Bool.{and_parts, eqb-true, eq-eqb, true≢false, false≢true}
use Rattle.std.proofs.lemmas.List.{length-map}
use Rattle.std.proofs.lemmas.List.Elements.{All-nil, All-cons, All-head, All-tail, All-contains}
use Rattle.std.proofs.lemmas.List.Sums.{AllPass-from_list_all}
use Rattle.std.proofs.lemmas.Option.{same_Some, none-some}
use Rattle.currency_base.specs.declared.ids.AttrId.{AttrId}
use Rattle.currency_base.specs.declared.ids.RelId.{RelId}
use Rattle.currency_base.specs.declared.ids.RowId.{RowId}
use Rattle.currency_base.specs.declared.pair.Pair.{Pair}
use Rattle.currency_base.specs.declared.row.Row.{Row}
use Rattle.currency_base.specs.declared.value.ValueKind.{ValueKind}
use Rattle.denial_rules.specs.Instances.{comparison_holds, values_hold, pair_at, atom_pair, pair_and, premises_of, concluded, instance_of}
use Rattle.denial_rules.specs.Rules.{IsPredicate, IsRuleOn}
use Rattle.denial_rules.specs.declared.instance.RuleInstance.{RuleInstance}
use Rattle.denial_rules.specs.declared.rule.Conclusion.{Conclusion}
use Rattle.denial_rules.specs.declared.rule.Conclusion.TheVariants as conclusion
use Rattle.denial_rules.specs.declared.rule.Predicate.{Predicate}
use Rattle.denial_rules.specs.declared.rule.Predicate.TheVariants.{Order, Compare}
use Rattle.denial_rules.specs.declared.rule.Rule.{Rule}
use Rattle.partial_orders.specs.Pairs.{entity_of}
use Rattle.spec_model.specs.Completion.{Rankings, lists_of, IsCompletion, Before}
use Rattle.spec_model.specs.Facts.{kinds_of}
use Rattle.spec_model.specs.Satisfies.{IsChoice, StandsBefore, PredicateHolds, ConclusionHolds, SatisfiesRule}
use Rattle.spec_model.specs.declared.relation.Relation.{Relation}
use Rattle.log_axioms.specs.Axioms.{not_before, same_entity, of_one_entity, concluded_clause, instance_clause, rule_clause}
use Rattle.log_axioms.specs.declared.signed.Signed.{Signed}
use Rattle.axiom_laws.proofs.Chosen.{HasTrue, IsCase, first_in, rest_in, true_first, true_mapped, true_in_front, true_behind, given_if, relation_facts}
use Rattle.axiom_laws.proofs.Decisions.{Decided, row_is, before_or}
use Rattle.axiom_laws.proofs.SaysSame.{one_is}
use Rattle.axiom_laws.proofs.Standing.{AreTwo, contains_at, entity_in, not_both_ways}

-- the rows of a pair stand in its order
abbrev Stands : Rankings → ℕ → Pair → Type 0
Stands c rel p = Before (lists_of c rel p.attr.0) p.earlier p.later

-- ---- choices of rows

choice_of : (table : List Row) (vars : ℕ) (rows : List RowId) → length rows ≡ vars → of_one_entity table rows ≡ true
    → IsChoice table vars rows
choice_of table vars [] long e = absurd (false≢true e)
choice_of table vars (first ∷ more) long e =
    let pass = AllPass-from_list_all (same_entity table first) (first ∷ more) e in
    let own = one_is (entity_of table first.0) (entity_of table first.0) (pass 0 first (omega arith)) in
    record {
      one_each = long;
      ent = own.0;
      of_entity = λ k d below. each (get_or (first ∷ more) k d) own.0 own.1 (pass k d below);
    }
  where
    each : (row : RowId) (ent : ℕ) → entity_of table first.0 ≡ Some ent → same_entity table first row ≡ true
        → entity_of table row.0 ≡ Some ent
    each row ent of same =
        let both = one_is (entity_of table first.0) (entity_of table row.0) same in
        both.2 ∙ (sym both.1 ∙ of)

-- ---- order atoms

-- a pair of two rows, which are these, and differ
record IsPairOf (attr : AttrId) (x y : Option RowId) (p : Pair) : Type 0 where
  attr_is : attr ≡ p.attr
  earlier_is : x ≡ Some p.earlier
  later_is : y ≡ Some p.later
  differ : p.earlier.0 ≡ p.later.0 → ⊥

pair_of : (attr : AttrId) (x y : Option RowId) (p : Pair) → pair_at attr x y ≡ Some p → IsPairOf attr x y p
pair_of attr None y p e = absurd (none-some p e)
pair_of attr (Some a) None p e = absurd (none-some p e)
pair_of attr (Some a) (Some b) p e = by (a.0 == b.0) refl e
  where
    pair : Pair
    pair = record { attr = attr; earlier = a; later = b }

    by : (t : Bool) → (a.0 == b.0) ≡ t → cond (a.0 == b.0) None (Some pair) ≡ Some p → IsPairOf attr (Some a) (Some b) p
    by true t e = let none : None ≡ Some p = rw t at e in absurd (none-some p none)
    by false t e =
        let same : Some pair ≡ Some p = rw t at e in
        subst (IsPairOf attr (Some a) (Some b)) (same_Some pair p same)
        record { attr_is = refl; earlier_is = refl; later_is = refl; differ = λ d. true≢false (sym (eq-eqb a.0 b.0 d) ∙ t) }

-- where the pair's rows stand in its order, those of the atom do
stands_as : (c : Rankings) (rel : ℕ) (attr : AttrId) (x y : Option RowId) (p : Pair) → IsPairOf attr x y p → Stands c rel p
    → StandsBefore (lists_of c rel attr.0) x y
stands_as c rel attr x y p is h =
    let here : Before (lists_of c rel attr.0) p.earlier p.later =
    subst (λ (t : AttrId). Before (lists_of c rel t.0) p.earlier p.later) (sym is.attr_is) h in
    subst (λ o. StandsBefore (lists_of c rel attr.0) o y) (sym is.earlier_is)
    (subst (StandsBefore (lists_of c rel attr.0) (Some p.earlier)) (sym is.later_is) here)

-- rows that stand in an atom's order are its pair, which is in that order
record IsPairStanding (c : Rankings) (rel : ℕ) (attr : AttrId) (x y : Option RowId) : Type 0 where
  pair : Pair
  pair_is : pair_at attr x y ≡ Some pair
  stands : Stands c rel pair

pair_standing : (relations : List Relation) (c : Rankings) (rel : ℕ) (attr : AttrId) (x y : Option RowId)
    → IsCompletion relations c
    → StandsBefore (lists_of c rel attr.0) x y → IsPairStanding c rel attr x y
pair_standing relations c rel attr None y completion h = absurd h
pair_standing relations c rel attr (Some a) None completion h = absurd h
pair_standing relations c rel attr (Some a) (Some b) completion h = by (a.0 == b.0) refl
  where
    pair : Pair
    pair = record { attr = attr; earlier = a; later = b }

    by : (t : Bool) → (a.0 == b.0) ≡ t → IsPairStanding c rel attr (Some a) (Some b)
    by true t =
        let same : b ≡ a = row_is b a (sym (eqb-true a.0 b.0 t)) in
        let again : Before (lists_of c rel attr.0) b a =
        subst (λ (r : RowId). Before (lists_of c rel attr.0) r a) (sym same) (subst (Before (lists_of c rel attr.0) a) same h) in
        absurd (not_both_ways relations c rel attr.0 a b completion h again)
    by false t = record { pair = pair; pair_is = ap (λ u. cond u None (Some pair)) t; stands = h }

-- ---- premises

both_parts : (p : Option Pair) (ps : Option (List Pair)) (qs : List Pair) → pair_and p ps ≡ Some qs
    → (q : Pair) × (rest : List Pair) × (p ≡ Some q) × (ps ≡ Some rest) × (q ∷ rest ≡ qs)
both_parts (Some q) (Some rest) qs e = (q, rest, refl, refl, same_Some (q ∷ rest) qs e)
both_parts (Some q) None qs e = absurd (none-some qs e)
both_parts None ps qs e = absurd (none-some qs e)

-- where the premises stand, the predicates hold
predicates_hold : (table : List Row) (c : Rankings) (rel : ℕ) (rows : List RowId) (ps : List Predicate) (qs : List Pair)
    → list_all (comparison_holds table rows) ps ≡ true
    → premises_of rows ps ≡ Some qs → All (Stands c rel) qs → All (PredicateHolds table (slice_index_or c rel []) rows) ps
predicates_hold table c rel rows [] qs values e hold = All-nil (PredicateHolds table (slice_index_or c rel []) rows)
predicates_hold table c rel rows (Order atom ∷ more) qs values e hold =
    let parts = both_parts (atom_pair rows atom) (premises_of rows more) qs e in
    let all = subst (All (Stands c rel)) (sym parts.4) hold in
    let x = slice_get rows atom.earlier in
    let y = slice_get rows atom.later in
    All-cons (PredicateHolds table (slice_index_or c rel []) rows) (Order atom) more
    (stands_as c rel atom.attr x y parts.0 (pair_of atom.attr x y parts.0 parts.2) (All-head (Stands c rel) parts.0 parts.1 all))
    (predicates_hold table c rel rows more parts.1 values parts.3 (All-tail (Stands c rel) parts.0 parts.1 all))
predicates_hold table c rel rows (Compare left cmp right ∷ more) qs values e hold =
    let first = comparison_holds table rows (Compare left cmp right) in
    let both = and_parts first (list_all (comparison_holds table rows) more) values in
    All-cons (PredicateHolds table (slice_index_or c rel []) rows) (Compare left cmp right) more both.0
    (predicates_hold table c rel rows more qs both.1 e hold)

-- a premise is of an attribute, and of two different ones of the rows
record IsPremise (kinds : List ValueKind) (rows : List RowId) (p : Pair) : Type 0 where
  attr_in : p.attr.0 < length kinds
  earlier_in : Contains rows p.earlier
  later_in : Contains rows p.later
  differ : p.earlier.0 ≡ p.later.0 → ⊥

premises_are : (vars : ℕ) (kinds : List ValueKind) (rows : List RowId) (ps : List Predicate) (qs : List Pair)
    → premises_of rows ps ≡ Some qs → All (IsPredicate vars kinds) ps
    → All (IsPremise kinds rows) qs
premises_are vars kinds rows [] qs e are = subst (All (IsPremise kinds rows)) (same_Some [] qs e) (All-nil (IsPremise kinds rows))
premises_are vars kinds rows (Order atom ∷ more) qs e are =
    let parts = both_parts (atom_pair rows atom) (premises_of rows more) qs e in
    let is = pair_of atom.attr (slice_get rows atom.earlier) (slice_get rows atom.later) parts.0 parts.2 in
    let within = (All-head (IsPredicate vars kinds) (Order atom) more are).attr in
    let first : IsPremise kinds rows parts.0 = record {
      attr_in = subst (λ (t : AttrId). t.0 < length kinds) is.attr_is within;
      earlier_in = contains_at rows atom.earlier parts.0.earlier is.earlier_is;
      later_in = contains_at rows atom.later parts.0.later is.later_is;
      differ = is.differ;
    } in
    subst (All (IsPremise kinds rows)) parts.4
    (All-cons (IsPremise kinds rows) parts.0 parts.1 first
    (premises_are vars kinds rows more parts.1 parts.3 (All-tail (IsPredicate vars kinds) (Order atom) more are)))
premises_are vars kinds rows (Compare left cmp right ∷ more) qs e are =
    premises_are vars kinds rows more qs e (All-tail (IsPredicate vars kinds) (Compare left cmp right) more are)

-- all items have a decided property, or one has not
pub all_or : {A : Type 0} (P : A → Type 0) (xs : List A) → ((x : A) → Decided (P x))
    → All P xs ⊎ ((x : A) × Contains xs x × (P x → ⊥))
all_or P [] choose = inl (All-nil P)
all_or {A} P (x ∷ xs) choose = by (choose x) (all_or P xs choose)
  where
    by : Decided (P x) → All P xs ⊎ ((y : A) × Contains xs y × (P y → ⊥))
        → All P (x ∷ xs) ⊎ ((y : A) × Contains (x ∷ xs) y × (P y → ⊥))
    by (inr n) rest = inr (x, first_in x xs, n)
    by (inl h) (inl all) = inl (All-cons P x xs h all)
    by (inl h) (inr (y, is_in, n)) = inr (y, rest_in x y xs is_in, n)

-- ---- the clause of an instance

-- the order of each pair's rows, denied
abbrev denied : RelId → List Pair → List Signed
denied rel pairs = map (λ p. not_before rel p.attr p.earlier p.later) pairs

made_of : {A B : Type 0} (f : A → B) (o : Option A) (y : B) → option_map f o ≡ Some y → (x : A) × (o ≡ Some x) × (f x ≡ y)
made_of f (Some x) y e = (x, refl, same_Some (f x) y e)
made_of f None y e = absurd (none-some y e)

-- the clause of an instance
abbrev all_of : RelId → RuleInstance → List Signed
all_of rel i = denied rel i.premises ++ concluded_clause rel i.conclusion

instance_parts : (rel : RelId) (o : Option RuleInstance) (clause : List Signed) → instance_clause rel o ≡ Some clause
    → (i : RuleInstance) × (o ≡ Some i) × (all_of rel i ≡ clause)
instance_parts rel (Some i) clause e = (i, refl, same_Some (all_of rel i) clause e)
instance_parts rel None clause e = absurd (none-some clause e)

-- what a rule concludes stands in the clause, and is true
concluded_true : (relations : List Relation) (c : Rankings) (answers : ℕ → Type 0) (rel : RelId) (rows : List RowId)
    (q : Conclusion)
    (front : List Signed) → IsCompletion relations c
    → ConclusionHolds (slice_index_or c rel.0 []) rows q → HasTrue relations c answers
    (front ++ concluded_clause rel (concluded rows q))
concluded_true relations c answers rel rows conclusion.Never front completion holds = absurd holds
concluded_true relations c answers rel rows (conclusion.Order atom) front completion holds =
    let x = slice_get rows atom.earlier in
    let y = slice_get rows atom.later in
    let s = pair_standing relations c rel.0 atom.attr x y completion holds in
    subst (λ o. HasTrue relations c answers (front ++ concluded_clause rel o)) (sym s.pair_is)
    (true_behind relations c answers front (concluded_clause rel (Some s.pair)) (true_first tt s.stands))

-- a premise that does not hold stands in the clause, denied
premise_true : (relations : List Relation) (c : Rankings) (answers : ℕ → Type 0) (rel : RelId) (r : Relation)
    (vars : ℕ) (rows : List RowId)
    (qs : List Pair) (end : List Signed) (p : Pair) → IsCase relations c
    → slice_get relations rel.0 ≡ Some r → IsChoice r.rows vars rows → Contains qs p → IsPremise (kinds_of r) rows p
    → (Stands c rel.0 p → ⊥)
    → HasTrue relations c answers (denied rel qs ++ end)
premise_true relations c answers rel r vars rows qs end p is at choice is_in premise n =
    let facts = relation_facts relations rel.0 r is.facts at in
    let long = length-map r.attrs (λ a. a.kind) in
    let of_entity : (row : RowId) → Contains rows row → entity_of r.rows row.0 ≡ Some choice.ent =
    λ row there. All-contains (λ (x : RowId). entity_of r.rows x.0 ≡ Some choice.ent) rows row choice.of_entity there in
    let earlier_of = of_entity p.earlier premise.earlier_in in
    let two : AreTwo relations rel.0 p.attr.0 p.earlier p.later = record {
      relation = r;
      is_relation = at;
      attr_in = omega (arith, long, premise.attr_in);
      ent = choice.ent;
      ent_in = entity_in r.rows (length r.entities) p.earlier.0 choice.ent facts.entities earlier_of;
      first_of = earlier_of;
      second_of = of_entity p.later premise.later_in;
      differ = premise.differ;
    } in
    true_in_front relations c answers (denied rel qs) end
    (true_mapped relations c answers (λ q. not_before rel q.attr q.earlier q.later) qs p is_in two n)

pub rule_true : (relations : List Relation) (c : Rankings) (answers : ℕ → Type 0) (rule : Rule) (rows : List RowId) (r : Relation)
    (clause : List Signed) → IsCase relations c
    → slice_get relations rule.relation.0 ≡ Some r → IsRuleOn (kinds_of r) rule
    → SatisfiesRule r.rows (slice_index_or c rule.relation.0 []) rule
    → rule_clause rule rows r ≡ Some clause → HasTrue relations c answers clause
rule_true relations c answers rule rows r clause is at fits satisfied e =
    let instance = instance_of rule r.rows rows in
    let fit = (length rows == rule.vars) && of_one_entity r.rows rows in
    let chosen = given_if fit (instance_clause rule.relation instance) clause e in
    let both = and_parts (length rows == rule.vars) (of_one_entity r.rows rows) chosen.0 in
    let choice = choice_of r.rows rule.vars rows (eqb-true (length rows) rule.vars both.0) both.1 in
    let of_instance = instance_parts rule.relation instance clause chosen.1 in
    let said = premises_of rows rule.predicates in
    let valued = given_if (values_hold rule r.rows rows) (option_map made said) of_instance.0 of_instance.1 in
    let premises = made_of made said of_instance.0 valued.1 in
    let stand = all_or (Stands c rule.relation.0) premises.0
    (λ p. before_or (lists_of c rule.relation.0 p.attr.0) p.earlier p.later) in
    let here = by premises.0 choice valued.0 premises.1 stand in
    subst (HasTrue relations c answers) of_instance.2
    (subst (λ (i : RuleInstance). HasTrue relations c answers (all_of rule.relation i)) premises.2 here)
  where
    made : List Pair → RuleInstance
    made premises = record { premises = premises; conclusion = concluded rows rule.conclusion }

    by : (qs : List Pair) → IsChoice r.rows rule.vars rows → values_hold rule r.rows rows ≡ true
        → premises_of rows rule.predicates ≡ Some qs
        → All (Stands c rule.relation.0) qs ⊎ ((p : Pair) × Contains qs p × (Stands c rule.relation.0 p → ⊥))
        → HasTrue relations c answers (denied rule.relation qs ++ concluded_clause rule.relation (concluded rows rule.conclusion))
    by qs choice values premises (inl all) =
        concluded_true relations c answers rule.relation rows rule.conclusion (denied rule.relation qs) is.completion
        (satisfied rows choice (predicates_hold r.rows c rule.relation.0 rows rule.predicates qs values premises all))
    by qs choice values premises (inr (p, is_in, n)) =
        let are = premises_are rule.vars (kinds_of r) rows rule.predicates qs premises fits.predicates in
        let end = concluded_clause rule.relation (concluded rows rule.conclusion) in
        premise_true relations c answers rule.relation r rule.vars rows qs end p is at choice is_in
        (All-contains (IsPremise (kinds_of r) rows) qs p are is_in) n

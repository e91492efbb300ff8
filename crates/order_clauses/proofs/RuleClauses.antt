-- The axioms of rules.
use Rattle.std.proofs.Common.{◌≡◌, ◌∙◌, ◌<◌, ◌+◌, ◌==◌, ℕ, Bool, true, false, List, [], ◌∷◌, ◌++◌, All, Option, Some, None, IfSome, option_map, if◌then◌else◌, length, map, take, slice_get, refl, sym, ap, subst, arith}
use Rattle.std.proofs.lemmas.Bool.{eqb-false}
use Rattle.std.proofs.lemmas.List.{length-map, map_more}
use Rattle.std.proofs.lemmas.List.Elements.{All-nil, All-cons, All-head, All-tail, All-weaker}
use Rattle.std.proofs.lemmas.Option.{same_Some, none-some, slice_get_within, get_or_from_slice_get}
use Rattle.currency_base.specs.declared.ids.AttrId.{AttrId}
use Rattle.currency_base.specs.declared.ids.RelId.{RelId}
use Rattle.currency_base.specs.declared.ids.RowId.{RowId}
use Rattle.currency_base.specs.declared.ids.RuleId.{RuleId}
use Rattle.currency_base.specs.declared.lit.Lit.{Lit}
use Rattle.currency_base.specs.declared.pair.Pair.{Pair}
use Rattle.currency_base.specs.declared.row.Row.{Row}
use Rattle.denial_rules.specs.Instances.{values_hold, pair_at, atom_pair, pair_and, premises_of, concluded, instance_of}
use Rattle.denial_rules.specs.Rules.{IsPredicate, IsConclusion, IsRuleOn}
use Rattle.denial_rules.specs.declared.instance.RuleInstance.{RuleInstance}
use Rattle.denial_rules.specs.declared.rule.Conclusion.{Conclusion}
use Rattle.denial_rules.specs.declared.rule.Conclusion.TheVariants as conclusion
use Rattle.denial_rules.specs.declared.rule.Predicate.{Predicate}
use Rattle.denial_rules.specs.declared.rule.Predicate.TheVariants.{Order, Compare}
use Rattle.denial_rules.specs.declared.rule.Rule.{Rule}
use Rattle.entity_ground.specs.Grounds.{AreRuleGrounds, IsGround}
use Rattle.partial_orders.specs.Pairs.{entity_of}
use Rattle.spec_model.specs.Facts.{AreRules, IsRuleOf, kinds_of}
use Rattle.spec_model.specs.Satisfies.{IsChoice}
use Rattle.spec_model.specs.Spec.{Spec}
use Rattle.spec_model.specs.declared.relation.Relation.{Relation}
use Rattle.refutation_log.specs.declared.step.Step.{Step}
use Rattle.refutation_log.specs.declared.statement.Statement.{Statement}
use Rattle.order_literals.specs.Axioms.{instance_clause}
use Rattle.order_literals.specs.Said.{Said, Says, before, not_before}
use Rattle.order_clauses.specs.Added.{Adds, Say}
use Rattle.order_clauses.specs.Listing.{ground_labels, rule_at}
use Rattle.order_clauses.specs.Subject.{Subject, IsGroundOf, IsPairOn}
use Rattle.order_clauses.proofs.Reading.{all_at}
use Rattle.order_clauses.proofs.Saying.{say_both}

-- ---- the pairs of an instance

record IsPairAt (attr : AttrId) (earlier later : Option RowId) (p : Pair) : Type 0 where
  attr_is : p.attr ≡ attr
  earlier_is : earlier ≡ Some p.earlier
  later_is : later ≡ Some p.later
  differ : p.earlier ≡ p.later → ⊥

pair_parts : (attr : AttrId) (x y : Option RowId) (p : Pair) → pair_at attr x y ≡ Some p → IsPairAt attr x y p
pair_parts attr None y p e = absurd (none-some p e)
pair_parts attr (Some a) None p e = absurd (none-some p e)
pair_parts attr (Some a) (Some b) p e = go (a.0 == b.0) refl
  where
    pair : Pair
    pair = record { attr = attr; earlier = a; later = b }

    go : (test : Bool) → a.0 == b.0 ≡ test → IsPairAt attr (Some a) (Some b) p
    go true t = absurd (none-some p (sym (ap (λ b'. if b' then None else Some pair) t) ∙ e))
    go false t =
        let same : pair ≡ p = same_Some pair p (sym (ap (λ b'. if b' then None else Some pair) t) ∙ e) in
        subst (IsPairAt attr (Some a) (Some b)) same (let r : IsPairAt attr (Some a) (Some b) pair = record {
          attr_is = refl;
          earlier_is = refl;
          later_is = refl;
          differ = λ q. eqb-false a.0 b.0 t (ap (λ (row : RowId). row.0) q);
        } in r)

-- a pair of rows that are taken for the variables is one of two rows of one entity
pair_on : (s : Spec) (rel : RelId) (r : Relation) (vars : ℕ) (rows : List RowId) (attr : AttrId) (v w : ℕ) (p : Pair)
    → slice_get s.relations rel.0 ≡ Some r → IsChoice r.rows vars rows
    → attr.0 < length (kinds_of r) → pair_at attr (slice_get rows v) (slice_get rows w) ≡ Some p → IsPairOn s rel p
pair_on s rel r vars rows attr v w p at choice within e =
    let parts = pair_parts attr (slice_get rows v) (slice_get rows w) p e in
    let many = length-map r.attrs (λ a. a.kind) in
    let attr_is : p.attr.0 ≡ attr.0 = ap (λ (a : AttrId). a.0) parts.attr_is in
    record {
      relation = r;
      is_relation = at;
      attr_within = omega arith;
      two = record {
        ent = choice.ent;
        a_of = all_at (λ (row : RowId). entity_of r.rows row.0 ≡ Some choice.ent) rows v p.earlier choice.of_entity
            parts.earlier_is;
        b_of = all_at (λ (row : RowId). entity_of r.rows row.0 ≡ Some choice.ent) rows w p.later choice.of_entity parts.later_is;
        differ = parts.differ;
      };
    }

both_parts : (p : Option Pair) (ps : Option (List Pair)) (qs : List Pair) → pair_and p ps ≡ Some qs
    → (q : Pair) × (rest : List Pair) × (p ≡ Some q) × (ps ≡ Some rest) × (q ∷ rest ≡ qs)
both_parts (Some q) (Some rest) qs e = (q, rest, refl, refl, same_Some (q ∷ rest) qs e)
both_parts (Some q) None qs e = absurd (none-some qs e)
both_parts None ps qs e = absurd (none-some qs e)

premises_on : (s : Spec) (rel : RelId) (r : Relation) (vars : ℕ) (rows : List RowId) (ps : List Predicate)
    (qs : List Pair) → slice_get s.relations rel.0 ≡ Some r → IsChoice r.rows vars rows
    → All (IsPredicate vars (kinds_of r)) ps → premises_of rows ps ≡ Some qs → All (IsPairOn s rel) qs
premises_on s rel r vars rows [] qs at choice are e = subst (All (IsPairOn s rel)) (same_Some [] qs e) (All-nil (IsPairOn s rel))
premises_on s rel r vars rows (Order atom ∷ more) qs at choice are e =
    let parts = both_parts (atom_pair rows atom) (premises_of rows more) qs e in
    let is = All-head (IsPredicate vars (kinds_of r)) (Order atom) more are in
    subst (All (IsPairOn s rel)) parts.4 (All-cons (IsPairOn s rel) parts.0 parts.1
    (pair_on s rel r vars rows atom.attr atom.earlier atom.later parts.0 at choice is.attr parts.2)
    (premises_on s rel r vars rows more parts.1 at choice (All-tail (IsPredicate vars (kinds_of r)) (Order atom) more
    are) parts.3))
premises_on s rel r vars rows (Compare left cmp right ∷ more) qs at choice are e =
    premises_on s rel r vars rows more qs at choice (All-tail (IsPredicate vars (kinds_of r)) (Compare left cmp right) more are) e

concluded_on : (s : Spec) (rel : RelId) (r : Relation) (vars : ℕ) (rows : List RowId) (q : Conclusion)
    → slice_get s.relations rel.0 ≡ Some r → IsChoice r.rows vars rows
    → IsConclusion vars (kinds_of r) q → IfSome (concluded rows q) (IsPairOn s rel)
concluded_on s rel r vars rows conclusion.Never at choice is = tt
concluded_on s rel r vars rows (conclusion.Order atom) at choice is = go (atom_pair rows atom) refl
  where
    go : (x : Option Pair) → atom_pair rows atom ≡ x → IfSome x (IsPairOn s rel)
    go None e = tt
    go (Some p) e = pair_on s rel r vars rows atom.attr atom.earlier atom.later p at choice is.attr e

-- an instance's parts
instance_parts : (rule : Rule) (table : List Row) (rows : List RowId) (i : RuleInstance) → instance_of rule table rows ≡ Some i
    → (premises_of rows rule.predicates ≡ Some i.premises) × (i.conclusion ≡ concluded rows rule.conclusion)
instance_parts rule table rows i e = go (values_hold rule table rows) (premises_of rows rule.predicates) refl refl
  where
    instance : List Pair → RuleInstance
    instance ps = record { premises = ps; conclusion = concluded rows rule.conclusion }

    go : (values : Bool) (premises : Option (List Pair)) → values_hold rule table rows ≡ values
        → premises_of rows rule.predicates ≡ premises
        → (premises ≡ Some i.premises) × (i.conclusion ≡ concluded rows rule.conclusion)
    go false premises v p = absurd
        (none-some i (sym (ap (λ b. if b then option_map instance (premises_of rows rule.predicates) else None) v) ∙ e))
    go true None v p =
        absurd (none-some i (sym (ap (λ b. if b then option_map instance (premises_of rows rule.predicates) else
        None) v ∙ ap (option_map instance) p) ∙ e))
    go true (Some ps) v p =
        let same : instance ps ≡ i =
        same_Some (instance ps) i (sym
        (ap (λ b. if b then option_map instance (premises_of rows rule.predicates) else None) v
        ∙ ap (option_map instance) p) ∙ e) in
        (ap Some (ap (λ (j : RuleInstance). j.premises) same), sym (ap (λ (j : RuleInstance). j.conclusion) same))

-- what is known of the ground of a rule that is at hand
ground_of : (s : Spec) (k : ℕ) (rows : List RowId) (rule : Rule) (r : Relation) → IsGroundOf s k rows
    → slice_get s.rules k ≡ Some rule
    → slice_get s.relations rule.relation.0 ≡ Some r → IsRuleOn (kinds_of r) rule × IsGround rule r.rows rows
ground_of s k rows rule r g at at_r =
    let same : g.rule ≡ rule = same_Some g.rule rule (sym g.is_rule ∙ at) in
    let here : g.relation ≡ r = same_Some g.relation r
    (sym g.is_relation ∙ (ap (λ (q : Rule). slice_get s.relations q.relation.0) same ∙ at_r)) in (
      subst (λ (q : Rule). IsRuleOn (kinds_of r) q) same (subst (λ (t : Relation). IsRuleOn (kinds_of t) g.rule) here g.fits),
      subst (λ (q : Rule). IsGround q r.rows rows) same (subst (λ (t : Relation). IsGround g.rule t.rows rows) here g.ground),
    )

pub ground_premises : (s : Spec) (k : ℕ) (rows : List RowId) (rule : Rule) (r : Relation) (i : RuleInstance)
    → IsGroundOf s k rows → slice_get s.rules k ≡ Some rule
    → slice_get s.relations rule.relation.0 ≡ Some r → instance_of rule r.rows rows ≡ Some i
    → All (IsPairOn s rule.relation) i.premises
ground_premises s k rows rule r i g at at_r e =
    let f = ground_of s k rows rule r g at at_r in
    premises_on s rule.relation r rule.vars rows rule.predicates i.premises at_r f.1.choice f.0.predicates
    (instance_parts rule r.rows rows i e).0

pub ground_conclusion : (s : Spec) (k : ℕ) (rows : List RowId) (rule : Rule) (r : Relation) (i : RuleInstance)
    → IsGroundOf s k rows → slice_get s.rules k ≡ Some rule
    → slice_get s.relations rule.relation.0 ≡ Some r → instance_of rule r.rows rows ≡ Some i → IfSome i.conclusion
    (IsPairOn s rule.relation)
ground_conclusion s k rows rule r i g at at_r e =
    let f = ground_of s k rows rule r g at at_r in
    subst (λ (o : Option Pair). IfSome o (IsPairOn s rule.relation)) (sym (instance_parts rule r.rows rows i e).1)
    (concluded_on s rule.relation r rule.vars rows rule.conclusion at_r f.1.choice f.0.conclusion)

-- ---- the literals of an instance

pub say_premise : (statements : List Statement) (rel : RelId) (ps : List Pair) (n : ℕ) (p : Pair)
    (old new : List Lit) (lit : Lit) → slice_get ps n ≡ Some p
    → Say statements old (map (λ q. not_before rel q.attr q.earlier q.later) (take n ps)) → Says statements lit
    (not_before rel p.attr p.earlier p.later)
    → new ≡ old ++ lit ∷ [] → Say statements new (map (λ q. not_before rel q.attr q.earlier q.later) (take (n + 1) ps))
say_premise statements rel ps n p old new lit at say says e =
    let said : Pair → Said = λ q. not_before rel q.attr q.earlier q.later in
    rw (e, map_more said ps n p (slice_get_within ps n p at), get_or_from_slice_get ps n p p at)
    (say_both statements old (lit ∷ []) (map said (take n ps)) (said p ∷ []) say (says, tt))

pub say_conclusion : (statements : List Statement) (rel : RelId) (i : RuleInstance) (p : Pair) (old new : List Lit)
    (lit : Lit) → i.conclusion ≡ Some p
    → Say statements old (map (λ q. not_before rel q.attr q.earlier q.later) i.premises) → Says statements lit
    (before rel p.attr p.earlier p.later)
    → new ≡ old ++ lit ∷ [] → Say statements new (instance_clause rel i)
say_conclusion statements rel i p old new lit is say says e =
    rw (e, is) (say_both statements old (lit ∷ []) (map (λ q. not_before rel q.attr q.earlier q.later) i.premises)
    (before rel p.attr p.earlier p.later ∷ []) say (says, tt))

-- ---- listing

pub rule_at_is : (s : Subject) (grounds : List (List (List RowId))) (k : RuleId) (rows : List (List RowId))
    (a b : List Step) → slice_get grounds k.0 ≡ Some rows
    → Adds s (ground_labels k rows) a b → Adds s (rule_at grounds k.0) a b
unfolding rule_at
rule_at_is s grounds k rows a b at adds = rw (get_or_from_slice_get grounds k.0 rows [] at) adds

pub all_grounds : (s : Spec) (grounds : List (List (List RowId))) (k : ℕ) (rule : Rule) (rows : List (List RowId))
    → AreRules s.relations s.rules → AreRuleGrounds s grounds
    → slice_get s.rules k ≡ Some rule → slice_get grounds k ≡ Some rows → All (IsGroundOf s k) rows
all_grounds s grounds k rule rows are of at at_rows =
    let is = all_at (IsRuleOf s.relations) s.rules k rule are.each at in
    let each = (of.exact k rule is.relation rows at is.is_relation at_rows).each in
    All-weaker (IsGround rule is.relation.rows) (IsGroundOf s k) (λ row h. let r : IsGroundOf s k row = record {
      rule = rule;
      is_rule = at;
      relation = is.relation;
      is_relation = is.is_relation;
      fits = is.fits;
      ground = h;
    } in r) rows each

-- The rows of which rules, copy functions and given pairs speak are of one entity.
use Rattle.std.proofs.Common.{◌≡◌, ◌==◌, ◌<◌, ◌∙◌, ℕ, zero, suc, Bool, true, false, List, [], ◌∷◌, All, Option, Some, None, is_some, option_map, if◌then◌else◌, length, slice_get, refl, sym, ap, subst, arith}
use Rattle.std.proofs.lemmas.List.{length-map}
use Rattle.std.proofs.lemmas.List.Elements.{All-nil, All-cons, All-head, All-tail}
use Rattle.std.proofs.lemmas.Option.{same_Some, none-some, slice_get_within, get_or_from_slice_get}
use Rattle.std.proofs.lemmas.Bool.{false≢true}
use Rattle.currency_base.specs.declared.ids.AttrId.{AttrId}
use Rattle.currency_base.specs.declared.ids.RowId.{RowId}
use Rattle.currency_base.specs.declared.pair.Pair.{Pair}
use Rattle.currency_base.specs.declared.row.Row.{Row}
use Rattle.copied_pairs.specs.Copied.{IsCopiedPair}
use Rattle.copied_pairs.specs.declared.pairs.CopiedPair.{CopiedPair}
use Rattle.copy_functions.specs.Copies.{CopyFunction, source_at}
use Rattle.copy_functions.specs.declared.place.Place.{Place}
use Rattle.denial_rules.specs.Instances.{values_hold, pair_at, atom_pair, pair_and, premises_of, concluded, instance_of}
use Rattle.denial_rules.specs.Rules.{IsAtom, IsPredicate, IsConclusion, IsRuleOn}
use Rattle.denial_rules.specs.declared.instance.RuleInstance.{RuleInstance}
use Rattle.denial_rules.specs.declared.rule.Conclusion.TheVariants as conclusion
use Rattle.denial_rules.specs.declared.rule.OrderAtom.{OrderAtom}
use Rattle.denial_rules.specs.declared.rule.Predicate.{Predicate}
use Rattle.denial_rules.specs.declared.rule.Predicate.TheVariants.{Order, Compare}
use Rattle.denial_rules.specs.declared.rule.Rule.{Rule}
use Rattle.entity_ground.specs.Grounds.{IsGround}
use Rattle.partial_orders.specs.Pairs.{entity_of}
use Rattle.spec_model.specs.Facts.{IsRelation, IsGivenPair, IsRuleOf, IsCopyAmong, IsPlaceBetween, kinds_of}
use Rattle.spec_model.specs.Satisfies.{IsChoice}
use Rattle.spec_model.specs.declared.relation.Relation.{Relation}
use Rattle.order_squares.specs.Squares.{IsSlot, Stand}
use Rattle.order_squares.proofs.Places.{item_at}
use Rattle.forced_closure.specs.Forced.{IsGiven}
use Rattle.forced_closure.specs.Clauses.{Subject, IsSubject, AreSlots, IsRuleClause, IsCopyClause, HasPair}
use Rattle.forced_closure.proofs.Adding.{stands}

pub all_at : {A : Type 0} (P : A → Type 0) (xs : List A) (i : ℕ) (x : A) → All P xs → slice_get xs i ≡ Some x → P x
all_at P xs i x all at = subst P (get_or_from_slice_get xs i x x at) (all i x (slice_get_within xs i x at))

-- a pair is of an attribute of this relation and of rows of one of its entities
abbrev pub StandsIn : List Relation → ℕ → Pair → Type 0
StandsIn relations rel p = Stand relations rel p.attr.0 p.earlier p.later

-- ---- given pairs

-- the entity of a row that is there
entity_there : (rows : List Row) (row : ℕ) → row < length rows → (ent : ℕ) × (entity_of rows row ≡ Some ent)
entity_there [] row below = absurd (omega arith)
entity_there (r ∷ rows) zero below = (r.entity.0, refl)
entity_there (r ∷ rows) (suc row) below = entity_there rows row (omega arith)

pub given_stands : (m : Subject) (rel : ℕ) (p : Pair) → IsSubject m → IsGiven m.spec rel p → StandsIn m.spec.relations rel p
given_stands m rel p is g =
    let relation = all_at IsRelation m.spec.relations rel g.relation is.facts.relations.each g.is_relation in
    let st = stands g.relation.given p g.is_in in
    let pair = all_at (IsGivenPair g.relation) g.relation.given st.0 p relation.given st.1 in
    let ent = entity_there g.relation.rows p.earlier.0 pair.earlier in
    record {
      relation = g.relation;
      is_relation = g.is_relation;
      attr_in = pair.attr;
      ent = ent.0;
      earlier_of = ent.1;
      later_of = sym pair.one_entity.1 ∙ ent.1;
    }

-- ---- rules

record IsPairAt (attr : AttrId) (earlier later : Option RowId) (p : Pair) : Type 0 where
  attr_is : p.attr ≡ attr
  earlier_is : earlier ≡ Some p.earlier
  later_is : later ≡ Some p.later

pair_parts : (attr : AttrId) (x y : Option RowId) (p : Pair) → pair_at attr x y ≡ Some p → IsPairAt attr x y p
pair_parts attr None y p e = absurd (none-some p e)
pair_parts attr (Some a) None p e = absurd (none-some p e)
pair_parts attr (Some a) (Some b) p e = go (a.0 == b.0) e
  where
    pair : Pair
    pair = record { attr = attr; earlier = a; later = b }

    go : (test : Bool) → (if test then None else Some pair) ≡ Some p → IsPairAt attr (Some a) (Some b) p
    go true e = absurd (none-some p e)
    go false e =
        let same : pair ≡ p = same_Some pair p e in
        subst (IsPairAt attr (Some a) (Some b)) same (let r : IsPairAt attr (Some a) (Some b) pair =
        record { attr_is = refl; earlier_is = refl; later_is = refl } in r)

-- rows that are taken for the variables are of one entity
chosen_stands : (relations : List Relation) (rel : ℕ) (r : Relation) (vars : ℕ) (rows : List RowId) (attr : ℕ)
    (v w : ℕ) (a b : RowId) → slice_get relations rel ≡ Some r
    → IsChoice r.rows vars rows → attr < length (kinds_of r) → slice_get rows v ≡ Some a → slice_get rows w ≡ Some b
    → Stand relations rel attr a b
chosen_stands relations rel r vars rows attr v w a b at choice within at_a at_b =
    let many = length-map r.attrs (λ x. x.kind) in
    record {
      relation = r;
      is_relation = at;
      attr_in = omega (arith, many, within);
      ent = choice.ent;
      earlier_of = all_at (λ (row : RowId). entity_of r.rows row.0 ≡ Some choice.ent) rows v a choice.of_entity at_a;
      later_of = all_at (λ (row : RowId). entity_of r.rows row.0 ≡ Some choice.ent) rows w b choice.of_entity at_b;
    }

pair_stands : (relations : List Relation) (rel : ℕ) (r : Relation) (vars : ℕ) (rows : List RowId) (attr : AttrId)
    (v w : ℕ) (p : Pair) → slice_get relations rel ≡ Some r
    → IsChoice r.rows vars rows → attr.0 < length (kinds_of r) → pair_at attr (slice_get rows v) (slice_get rows w) ≡
    Some p → StandsIn relations rel p
pair_stands relations rel r vars rows attr v w p at choice within e =
    let parts = pair_parts attr (slice_get rows v) (slice_get rows w) p e in
    let here : p.attr.0 < length (kinds_of r) = subst (λ (x : AttrId). x.0 < length (kinds_of r)) (sym parts.attr_is) within in
    chosen_stands relations rel r vars rows p.attr.0 v w p.earlier p.later at choice here parts.earlier_is parts.later_is

both_parts : (p : Option Pair) (ps : Option (List Pair)) (qs : List Pair) → pair_and p ps ≡ Some qs
    → (q : Pair) × (rest : List Pair) × (p ≡ Some q) × (ps ≡ Some rest) × (q ∷ rest ≡ qs)
both_parts (Some q) (Some rest) qs e = (q, rest, refl, refl, same_Some (q ∷ rest) qs e)
both_parts (Some q) None qs e = absurd (none-some qs e)
both_parts None ps qs e = absurd (none-some qs e)

premises_stand : (relations : List Relation) (rel : ℕ) (r : Relation) (vars : ℕ) (rows : List RowId)
    (ps : List Predicate) (qs : List Pair) → slice_get relations rel ≡ Some r
    → IsChoice r.rows vars rows → All (IsPredicate vars (kinds_of r)) ps → premises_of rows ps ≡ Some qs
    → All (StandsIn relations rel) qs
premises_stand relations rel r vars rows [] qs at choice are e = subst (All (StandsIn relations rel))
    (same_Some [] qs e) (All-nil (StandsIn relations rel))
premises_stand relations rel r vars rows (Order atom ∷ more) qs at choice are e =
    let parts = both_parts (atom_pair rows atom) (premises_of rows more) qs e in
    let is = All-head (IsPredicate vars (kinds_of r)) (Order atom) more are in
    subst (All (StandsIn relations rel)) parts.4 (All-cons (StandsIn relations rel) parts.0 parts.1
    (pair_stands relations rel r vars rows atom.attr atom.earlier atom.later parts.0 at choice is.attr parts.2)
    (premises_stand relations rel r vars rows more parts.1 at choice (All-tail (IsPredicate vars (kinds_of r))
    (Order atom) more are) parts.3))
premises_stand relations rel r vars rows (Compare left cmp right ∷ more) qs at choice are e =
    premises_stand relations rel r vars rows more qs at choice (All-tail (IsPredicate vars (kinds_of r))
    (Compare left cmp right) more are) e

instance_premises : (rule : Rule) (table : List Row) (rows : List RowId) (i : RuleInstance) → instance_of rule table
    rows ≡ Some i → premises_of rows rule.predicates ≡ Some i.premises
instance_premises rule table rows i e = go (values_hold rule table rows) (premises_of rows rule.predicates) e
  where
    made : List Pair → RuleInstance
    made ps = record { premises = ps; conclusion = concluded rows rule.conclusion }

    go : (values : Bool) (premises : Option (List Pair)) → (if values then option_map made premises else None) ≡ Some
        i → premises ≡ Some i.premises
    go false premises e = absurd (none-some i e)
    go true None e = absurd (none-some i e)
    go true (Some ps) e = ap Some (ap (λ (j : RuleInstance). j.premises) (same_Some (made ps) i e))

-- what is known of a ground of a rule
pub record IsGroundOf (m : Subject) (k : ℕ) (rule : Rule) (rows : List RowId) : Type 0 where
  pub relation : Relation
  pub is_relation : slice_get m.spec.relations rule.relation.0 ≡ Some relation
  pub fits : IsRuleOn (kinds_of relation) rule
  pub choice : IsChoice relation.rows rule.vars rows
  pub instance : is_some (instance_of rule relation.rows rows) ≡ true

pub ground_of : (m : Subject) (k : ℕ) (rule : Rule) (grounds : List (List RowId)) (ground : ℕ) (rows : List RowId)
    → IsSubject m → slice_get m.spec.rules k ≡ Some rule
    → slice_get m.rules k ≡ Some grounds → slice_get grounds ground ≡ Some rows → IsGroundOf m k rule rows
ground_of m k rule grounds ground rows is at_rule at_grounds at_rows =
    let of = all_at (IsRuleOf m.spec.relations) m.spec.rules k rule is.facts.rules.each at_rule in
    let are = is.rules.exact k rule of.relation grounds at_rule of.is_relation at_grounds in
    let g = all_at (IsGround rule of.relation.rows) grounds ground rows are.each at_rows in
    record { relation = of.relation; is_relation = of.is_relation; fits = of.fits; choice = g.choice; instance = g.instance }

pub ground_premises : (m : Subject) (k : ℕ) (rule : Rule) (rows : List RowId) (relation : Relation)
    (i : RuleInstance) → IsGroundOf m k rule rows
    → slice_get m.spec.relations rule.relation.0 ≡ Some relation → instance_of rule relation.rows rows ≡ Some i
    → All (StandsIn m.spec.relations rule.relation.0) i.premises
ground_premises m k rule rows relation i g at e =
    let same : relation ≡ g.relation = same_Some relation g.relation (sym at ∙ g.is_relation) in
    let here : instance_of rule g.relation.rows rows ≡ Some i = ap (λ (r : Relation). instance_of rule r.rows rows)
    (sym same) ∙ e in
    premises_stand m.spec.relations rule.relation.0 g.relation rule.vars rows rule.predicates i.premises
    g.is_relation g.choice g.fits.predicates
    (instance_premises rule g.relation.rows rows i here)

pub ground_instance : (m : Subject) (k : ℕ) (rule : Rule) (rows : List RowId) (relation : Relation) → IsGroundOf m k rule rows
    → slice_get m.spec.relations rule.relation.0 ≡ Some relation → instance_of rule relation.rows rows ≡ None → ⊥
ground_instance m k rule rows relation g at none =
    let same : relation ≡ g.relation = same_Some relation g.relation (sym at ∙ g.is_relation) in
    let here : instance_of rule g.relation.rows rows ≡ None = ap (λ (r : Relation). instance_of rule r.rows rows)
    (sym same) ∙ none in
    false≢true (sym (ap is_some here) ∙ g.instance)

-- the atom that a rule concludes speaks of its variables and of an attribute
pub concluded_atom : (m : Subject) (k : ℕ) (rule : Rule) (rows : List RowId) (atom : OrderAtom)
    (g : IsGroundOf m k rule rows) → rule.conclusion ≡ conclusion.Order atom
    → (atom.earlier < length rows) × (atom.later < length rows) × (atom.attr.0 < length (kinds_of g.relation))
concluded_atom m k rule rows atom g is =
    let a : IsAtom rule.vars (kinds_of g.relation) atom = subst (IsConclusion rule.vars (kinds_of g.relation)) is
    g.fits.conclusion in
    (omega (arith, a.earlier, g.choice.one_each), omega (arith, a.later, g.choice.one_each), a.attr)

pub ground_conclusion : (m : Subject) (k : ℕ) (rule : Rule) (rows : List RowId) (atom : OrderAtom) (a b : RowId)
    → IsGroundOf m k rule rows → rule.conclusion ≡ conclusion.Order atom
    → slice_get rows atom.earlier ≡ Some a → slice_get rows atom.later ≡ Some b → Stand m.spec.relations
    rule.relation.0 atom.attr.0 a b
ground_conclusion m k rule rows atom a b g is at_a at_b =
    let c = concluded_atom m k rule rows atom g is in
    chosen_stands m.spec.relations rule.relation.0 g.relation rule.vars rows atom.attr.0 atom.earlier atom.later a b
    g.is_relation g.choice c.2 at_a at_b

pub rule_clause : (m : Subject) (k : ℕ) (rule : Rule) (grounds : List (List RowId)) (ground : ℕ) (rows : List RowId)
    (relation : Relation) (i : RuleInstance) (atom : OrderAtom) (a b : RowId)
    (ps : List ℕ) (c : ℕ) → IsGroundOf m k rule rows → slice_get m.spec.rules k ≡ Some rule → slice_get m.rules k ≡
    Some grounds → slice_get grounds ground ≡ Some rows
    → slice_get m.spec.relations rule.relation.0 ≡ Some relation → instance_of rule relation.rows rows ≡ Some i
    → rule.conclusion ≡ conclusion.Order atom
    → slice_get rows atom.earlier ≡ Some a → slice_get rows atom.later ≡ Some b → AreSlots m.layout rule.relation.0 i.premises ps
    → IsSlot m.layout rule.relation.0 atom.attr.0 a b c → IsRuleClause m k ground ps c
rule_clause m k rule grounds ground rows relation i atom a b ps c g at_rule at_grounds at_rows at e is at_a at_b slots slot =
    let same : g.relation ≡ relation = same_Some g.relation relation (sym g.is_relation ∙ at) in
    record {
      grounds = grounds;
      are_grounds = at_grounds;
      rows = rows;
      are_rows = at_rows;
      rule = rule;
      taken = i;
      atom = atom;
      earlier = a;
      later = b;
      is_instance = record {
        number = k;
        is_rule = at_rule;
        relation = relation;
        is_relation = at;
        rows = rows;
        choice = subst (λ (r : Relation). IsChoice r.rows rule.vars rows) same g.choice;
        is_instance = e;
        concludes = is;
        earlier_is = at_a;
        later_is = at_b;
      };
      of_rule = refl;
      of_rows = refl;
      few_rows = omega (arith, g.choice.one_each, g.fits.few_vars);
      premises_are = slots;
      conclusion_is = slot;
    }

-- ---- copy functions

-- what is known of a pair of a copy function
pub record IsPairOf (m : Subject) (copy : CopyFunction) (p : CopiedPair) : Type 0 where
  pub target : Relation
  pub source : Relation
  pub is_target : slice_get m.spec.relations copy.target.0 ≡ Some target
  pub is_source : slice_get m.spec.relations copy.source.0 ≡ Some source
  pub places : All (IsPlaceBetween target source) copy.places
  pub pair : IsCopiedPair copy target.rows source.rows p

pub pair_of : (m : Subject) (k : ℕ) (copy : CopyFunction) (p : CopiedPair) → IsSubject m → slice_get m.spec.copies
    k ≡ Some copy → HasPair m k p → IsPairOf m copy p
pair_of m k copy p is at has =
    let among = all_at (IsCopyAmong m.spec.relations) m.spec.copies k copy is.facts.copies.each at in
    let pairs = item_at m.copies k (omega (arith, is.copies.per_copy, slice_get_within m.spec.copies k copy at)) in
    let are = is.copies.exact k copy among.target among.source pairs.0 at among.is_target among.is_source pairs.1 in
    let st = stands pairs.0 p (has pairs.0 pairs.1) in
    record {
      target = among.target;
      source = among.source;
      is_target = among.is_target;
      is_source = among.is_source;
      places = among.places;
      pair = all_at (IsCopiedPair copy among.target.rows among.source.rows) pairs.0 st.0 p are.each st.1;
    }

pub source_stands : (m : Subject) (copy : CopyFunction) (p : CopiedPair) (at : ℕ) (place : Place) (f g : RowId)
    → IsPairOf m copy p → slice_get copy.places at ≡ Some place
    → source_at copy p.first ≡ Some f → source_at copy p.second ≡ Some g → Stand m.spec.relations copy.source.0 place.source.0 f g
source_stands m copy p at place f g of is_place from_f from_g =
    let between = all_at (IsPlaceBetween of.target of.source) copy.places at place of.places is_place in
    let many = length-map of.source.attrs (λ x. x.kind) in
    let within = slice_get_within (kinds_of of.source) place.source.0 between.kind between.in_source in
    let t = of.pair.together in
    let first : t.first_source ≡ f = same_Some t.first_source f (sym t.first_is ∙ from_f) in
    let second : t.second_source ≡ g = same_Some t.second_source g (sym t.second_is ∙ from_g) in
    record {
      relation = of.source;
      is_relation = of.is_source;
      attr_in = omega (arith, many, within);
      ent = t.source_ent;
      earlier_of = ap (λ (r : RowId). entity_of of.source.rows r.0) (sym first) ∙ t.first_source_of;
      later_of = ap (λ (r : RowId). entity_of of.source.rows r.0) (sym second) ∙ t.second_source_of;
    }

pub target_stands : (m : Subject) (copy : CopyFunction) (p : CopiedPair) (at : ℕ) (place : Place) → IsPairOf m copy p
    → slice_get copy.places at ≡ Some place
    → Stand m.spec.relations copy.target.0 place.target.0 p.first p.second
target_stands m copy p at place of is_place =
    let between = all_at (IsPlaceBetween of.target of.source) copy.places at place of.places is_place in
    let many = length-map of.target.attrs (λ x. x.kind) in
    let within = slice_get_within (kinds_of of.target) place.target.0 between.kind between.in_target in
    record {
      relation = of.target;
      is_relation = of.is_target;
      attr_in = omega (arith, many, within);
      ent = of.pair.together.ent;
      earlier_of = of.pair.together.first_of;
      later_of = of.pair.together.second_of;
    }

pub copy_clause : (m : Subject) (k at : ℕ) (copy : CopyFunction) (place : Place) (p : CopiedPair) (f g : RowId)
    (from to : ℕ) → IsPairOf m copy p
    → slice_get m.spec.copies k ≡ Some copy → slice_get copy.places at ≡ Some place → source_at copy p.first ≡ Some f
    → source_at copy p.second ≡ Some g
    → IsSlot m.layout copy.source.0 place.source.0 f g from → IsSlot m.layout copy.target.0 place.target.0 p.first p.second to
    → IsCopyClause m k at p.first p.second from to
copy_clause m k at copy place p f g from to of is_copy is_place from_f from_g source target =
    let t = of.pair.together in
    let first : f ≡ t.first_source = same_Some f t.first_source (sym from_f ∙ t.first_is) in
    let second : g ≡ t.second_source = same_Some g t.second_source (sym from_g ∙ t.second_is) in
    record {
      are = record {
        copy = copy;
        place = place;
        are_at = record {
          number = k;
          is_copy = is_copy;
          target = of.target;
          is_target = of.is_target;
          source = of.source;
          is_source = of.is_source;
          at = at;
          is_place = is_place;
          rows = t;
        };
        of_copy = refl;
        of_place = refl;
        differ = of.pair.differ;
        sources_differ = of.pair.sources_differ;
      };
      source = subst (λ (r : RowId). IsSlot m.layout copy.source.0 place.source.0 r t.second_source from) first
          (subst (λ (r : RowId). IsSlot m.layout copy.source.0 place.source.0 f r from) second source);
      target = target;
    }

pub not_mapped : (copy : CopyFunction) (row from : RowId) → source_at copy row ≡ Some from → source_at copy row ≡ None → ⊥
not_mapped copy row from some none = absurd (none-some from (sym none ∙ some))

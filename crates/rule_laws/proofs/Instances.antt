-- The instances of a rule hold exactly where each choice of rows satisfies it.
use Rattle.std.proofs.Common.{◌≡◌, ◌∙◌, ◌<◌, ◌≤◌, ℕ, Bool, true, false, ◌&&◌, ◌==◌, List, [], ◌∷◌, All, Option, Some, None, length, slice_get, slice_index_or, option_map, if◌then◌else◌, refl, sym, ap, subst, ⊎_elim, arith}
use Rattle.std.specs.List.{list_all}
use Rattle.std.proofs.lemmas.Bool.{cases_lt, eqb-true}
use Rattle.std.proofs.lemmas.List.{get_or_past, length-map}
use Rattle.std.proofs.lemmas.List.Elements.{All-nil, All-cons, All-head, All-tail, All-get_or}
use Rattle.std.proofs.lemmas.Option.{same_Some, none-some, get_or_from_slice_get, slice_get_within}
use Rattle.currency_base.specs.declared.ids.AttrId.{AttrId}
use Rattle.currency_base.specs.declared.ids.RowId.{RowId}
use Rattle.currency_base.specs.declared.pair.Pair.{Pair}
use Rattle.currency_base.specs.declared.row.Row.{Row}
use Rattle.denial_rules.specs.Instances.{comparison_holds, values_hold, pair_at, atom_pair, pair_and, premises_of, concluded}
use Rattle.denial_rules.specs.Rules.{IsPredicate, IsConclusion, IsRuleOn}
use Rattle.denial_rules.specs.declared.instance.RuleInstance.{RuleInstance}
use Rattle.denial_rules.specs.declared.rule.Conclusion.{Conclusion}
use Rattle.denial_rules.specs.declared.rule.Conclusion.TheVariants as conclusion
use Rattle.denial_rules.specs.declared.rule.Predicate.{Predicate}
use Rattle.denial_rules.specs.declared.rule.Predicate.TheVariants.{Order, Compare}
use Rattle.denial_rules.specs.declared.rule.Rule.{Rule}
use Rattle.spec_model.specs.Spec.{Spec}
use Rattle.spec_model.specs.Facts.{AreRules, IsRuleOf, kinds_of}
use Rattle.spec_model.specs.Completion.{Rankings, IsCompletion, Before}
use Rattle.spec_model.specs.Satisfies.{Lists, StandsBefore, AtomHolds, PredicateHolds, ConclusionHolds, SatisfiesRule}
use Rattle.spec_model.specs.declared.relation.Relation.{Relation}
use Rattle.rule_laws.specs.Holds.{PairHolds, ConcludedHolds, InstancesHold}

-- no row stands before itself in the lists of any of so many attributes
abbrev IsStrict : ℕ → Lists → Type 0
IsStrict attrs lists = (attr : ℕ) (row : RowId) → attr < attrs → Before (slice_index_or lists attr []) row row → ⊥

all_at : {A : Type 0} (P : A → Type 0) (xs : List A) (i : ℕ) (x : A) → All P xs → slice_get xs i ≡ Some x → P x
all_at P xs i x all at = subst P (get_or_from_slice_get xs i x x at) (All-get_or P xs i x (slice_get_within xs i x at) all)

-- ---- order atoms

same_row : (a b : RowId) → a.0 ≡ b.0 → a ≡ b
same_row a b e = ap (λ (n : ℕ). let x : RowId = record { 0 = n } in x) e

-- an order atom of rows that stand so says a pair, which holds
pair_standing : (attrs : ℕ) (lists : Lists) (attr : AttrId) (x y : Option RowId) → IsStrict attrs lists → attr.0 < attrs
    → StandsBefore (slice_index_or lists attr.0 []) x y → (p : Pair) × (pair_at attr x y ≡ Some p) × PairHolds lists p
pair_standing attrs lists attr None y strict within stands = absurd stands
pair_standing attrs lists attr (Some a) None strict within stands = absurd stands
pair_standing attrs lists attr (Some a) (Some b) strict within stands = go (a.0 == b.0) refl
  where
    go : (test : Bool) → a.0 == b.0 ≡ test → (p : Pair) × (pair_at attr (Some a) (Some b) ≡ Some p) × PairHolds lists p
    go true e =
        let same = same_row a b (eqb-true a.0 b.0 e) in
        absurd (strict attr.0 b within (subst (λ (q : RowId). Before (slice_index_or lists attr.0 []) q b) same stands))
    go false e = (
      record { attr = attr; earlier = a; later = b },
      ap (λ t. if t then None else Some record { attr = attr; earlier = a; later = b }) e,
      stands,
    )

-- and where the pair that it says holds, its rows stand so
standing_pair : (lists : Lists) (attr : AttrId) (x y : Option RowId) (p : Pair) → pair_at attr x y ≡ Some p
    → PairHolds lists p → StandsBefore (slice_index_or lists attr.0 []) x y
standing_pair lists attr None y p e holds = absurd (none-some p e)
standing_pair lists attr (Some a) None p e holds = absurd (none-some p e)
standing_pair lists attr (Some a) (Some b) p e holds = go (a.0 == b.0) refl
  where
    pair : Pair
    pair = record { attr = attr; earlier = a; later = b }

    go : (test : Bool) → a.0 == b.0 ≡ test → Before (slice_index_or lists attr.0 []) a b
    go true t = absurd (none-some p (sym (ap (λ b'. if b' then None else Some pair) t) ∙ e))
    go false t = subst (PairHolds lists) (sym (same_Some pair p (sym (ap (λ b'. if b' then None else Some pair) t) ∙ e))) holds

-- ---- premises

both_parts : (p : Option Pair) (ps : Option (List Pair)) (qs : List Pair) → pair_and p ps ≡ Some qs
    → (q : Pair) × (rest : List Pair) × (p ≡ Some q) × (ps ≡ Some rest) × (q ∷ rest ≡ qs)
both_parts (Some q) (Some rest) qs e = (q, rest, refl, refl, same_Some (q ∷ rest) qs e)
both_parts (Some q) None qs e = absurd (none-some qs e)
both_parts None ps qs e = absurd (none-some qs e)

and_both : (a b : Bool) → a && b ≡ true → (a ≡ true) × (b ≡ true)
and_both true true e = (refl, refl)
and_both true false e = absurd (cc)
and_both false b e = absurd (cc)

-- predicates that hold have premises, which hold
premises_holding : (vars : ℕ) (r : Relation) (lists : Lists) (rows : List RowId) (ps : List Predicate)
    → IsStrict (length (kinds_of r)) lists
    → All (IsPredicate vars (kinds_of r)) ps → All (PredicateHolds r.rows lists rows) ps → (qs : List Pair) ×
    (premises_of rows ps ≡ Some qs) × All (PairHolds lists) qs
premises_holding vars r lists rows [] strict are hold = ([], refl, All-nil (PairHolds lists))
premises_holding vars r lists rows (Order atom ∷ more) strict are hold =
    let is = All-head (IsPredicate vars (kinds_of r)) (Order atom) more are in
    let one = pair_standing (length (kinds_of r)) lists atom.attr (slice_get rows atom.earlier)
    (slice_get rows atom.later) strict is.attr
    (All-head (PredicateHolds r.rows lists rows) (Order atom) more hold) in
    let rest = premises_holding vars r lists rows more strict (All-tail (IsPredicate vars (kinds_of r)) (Order atom) more are)
    (All-tail (PredicateHolds r.rows lists rows) (Order atom) more hold) in (
      one.0 ∷ rest.0,
      ap (λ q. pair_and q (premises_of rows more)) one.1 ∙ ap (pair_and (Some one.0)) rest.1,
      All-cons
          (PairHolds lists) one.0 rest.0 one.2 rest.2,
    )
premises_holding vars r lists rows (Compare left cmp right ∷ more) strict are hold =
    premises_holding vars r lists rows more strict (All-tail (IsPredicate vars (kinds_of r)) (Compare left cmp right) more are)
    (All-tail (PredicateHolds r.rows lists rows) (Compare left cmp right) more hold)

-- and their comparisons hold
values_holding : (table : List Row) (lists : Lists) (rows : List RowId) (ps : List Predicate)
    → All (PredicateHolds table lists rows) ps → list_all (comparison_holds table rows) ps ≡ true
values_holding table lists rows [] hold = refl
values_holding table lists rows (Order atom ∷ more) hold = values_holding table lists rows more
    (All-tail (PredicateHolds table lists rows) (Order atom) more hold)
values_holding table lists rows (Compare left cmp right ∷ more) hold =
    ap (λ b. b && list_all (comparison_holds table rows) more) (All-head (PredicateHolds table lists rows)
    (Compare left cmp right) more hold)
    ∙ values_holding table lists rows more (All-tail (PredicateHolds table lists rows) (Compare left cmp right) more hold)

-- predicates whose comparisons and premises hold, hold
predicates_holding : (table : List Row) (lists : Lists) (rows : List RowId) (ps : List Predicate) (qs : List Pair)
    → list_all (comparison_holds table rows) ps ≡ true
    → premises_of rows ps ≡ Some qs → All (PairHolds lists) qs → All (PredicateHolds table lists rows) ps
predicates_holding table lists rows [] qs values e hold = All-nil (PredicateHolds table lists rows)
predicates_holding table lists rows (Order atom ∷ more) qs values e hold =
    let parts = both_parts (atom_pair rows atom) (premises_of rows more) qs e in
    let all = subst (All (PairHolds lists)) (sym parts.4) hold in
    All-cons (PredicateHolds table lists rows) (Order atom) more
    (standing_pair lists atom.attr (slice_get rows atom.earlier) (slice_get rows atom.later) parts.0 parts.2
    (All-head (PairHolds lists) parts.0 parts.1 all))
    (predicates_holding table lists rows more parts.1 values parts.3 (All-tail (PairHolds lists) parts.0 parts.1 all))
predicates_holding table lists rows (Compare left cmp right ∷ more) qs values e hold =
    let both = and_both (comparison_holds table rows (Compare left cmp right))
    (list_all (comparison_holds table rows) more) values in
    All-cons (PredicateHolds table lists rows) (Compare left cmp right) more both.0
    (predicates_holding table lists rows more qs both.1 e hold)

-- ---- conclusions

concluded_holding : (vars : ℕ) (r : Relation) (lists : Lists) (rows : List RowId) (q : Conclusion)
    → IsStrict (length (kinds_of r)) lists
    → IsConclusion vars (kinds_of r) q → ConclusionHolds lists rows q → ConcludedHolds lists (concluded rows q)
concluded_holding vars r lists rows conclusion.Never strict is holds = holds
concluded_holding vars r lists rows (conclusion.Order atom) strict is holds =
    let one = pair_standing (length (kinds_of r)) lists atom.attr (slice_get rows atom.earlier)
    (slice_get rows atom.later) strict is.attr holds in
    subst (ConcludedHolds lists) (sym one.1) one.2

holding_concluded : (lists : Lists) (rows : List RowId) (q : Conclusion) → ConcludedHolds lists (concluded rows q)
    → ConclusionHolds lists rows q
holding_concluded lists rows conclusion.Never holds = holds
holding_concluded lists rows (conclusion.Order atom) holds = go (atom_pair rows atom) refl holds
  where
    go : (x : Option Pair) → atom_pair rows atom ≡ x → ConcludedHolds lists x → AtomHolds lists rows atom
    go None e h = absurd h
    go (Some p) e h = standing_pair lists atom.attr (slice_get rows atom.earlier) (slice_get rows atom.later) p e h

-- ---- rules

instances_hold : (r : Relation) (lists : Lists) (rule : Rule) → IsStrict (length (kinds_of r)) lists
    → IsRuleOn (kinds_of r) rule → SatisfiesRule r.rows lists rule → InstancesHold r.rows lists rule
instances_hold r lists rule strict is satisfied rows choice i e hold = go (values_hold rule r.rows rows)
    (premises_of rows rule.predicates) refl refl
  where
    instance : List Pair → RuleInstance
    instance ps = record { premises = ps; conclusion = concluded rows rule.conclusion }

    go : (values : Bool) (premises : Option (List Pair)) → values_hold rule r.rows rows ≡ values
        → premises_of rows rule.predicates ≡ premises → ConcludedHolds lists i.conclusion
    go false premises v p = absurd
        (none-some i (sym (ap (λ b. if b then option_map instance (premises_of rows rule.predicates) else None) v) ∙ e))
    go true None v p =
        absurd (none-some i (sym (ap (λ b. if b then option_map instance (premises_of rows rule.predicates) else
        None) v ∙ ap (option_map instance) p) ∙ e))
    go true (Some ps) v p =
        let same : instance ps ≡ i =
        same_Some (instance ps) i (sym
        (ap (λ b. if b then option_map instance (premises_of rows rule.predicates) else None) v
        ∙ ap (option_map instance) p) ∙ e) in
        let all = subst (λ (j : RuleInstance). All (PairHolds lists) j.premises) (sym same) hold in
        let holds = satisfied rows choice (predicates_holding r.rows lists rows rule.predicates ps v p all) in
        subst (λ (j : RuleInstance). ConcludedHolds lists j.conclusion) same
        (concluded_holding rule.vars r lists rows rule.conclusion strict is.conclusion holds)

satisfied : (r : Relation) (lists : Lists) (rule : Rule) → IsStrict (length (kinds_of r)) lists
    → IsRuleOn (kinds_of r) rule → InstancesHold r.rows lists rule → SatisfiesRule r.rows lists rule
satisfied r lists rule strict is hold rows choice all =
    let premises = premises_holding rule.vars r lists rows rule.predicates strict is.predicates all in
    let v : values_hold rule r.rows rows ≡ true = values_holding r.rows lists rows rule.predicates all in
    holding_concluded lists rows rule.conclusion
    (hold rows choice (instance premises.0)
    (ap (λ b. if b then option_map instance (premises_of rows rule.predicates) else None) v
    ∙ ap (option_map instance) premises.1) premises.2)
  where
    instance : List Pair → RuleInstance
    instance ps = record { premises = ps; conclusion = concluded rows rule.conclusion }

-- ---- completions

-- in a completion no row stands before itself
strict_of : (rs : List Relation) (c : Rankings) (rel : ℕ) (r : Relation) → IsCompletion rs c → slice_get rs rel ≡
    Some r → IsStrict (length (kinds_of r)) (slice_index_or c rel [])
strict_of rs c rel r completion at attr row below before =
    let within : attr < length r.attrs = (let e = length-map r.attrs (λ a. a.kind) in omega arith) in
    let listed = completion.shape.per_entity rel r at attr within in
    ⊎_elim
    (λ (is : before.ent < length r.entities).
    let same = (completion.ranked rel r at attr before.ent within is).once before.low before.high row before.first
    before.second in
    absurd (omega (arith, before.below, same)))
    (λ (past : length r.entities ≤ before.ent).
    let none = get_or_past (slice_index_or (slice_index_or c rel []) attr []) before.ent [] (omega (arith, listed, past)) in
    none-some row (sym (ap (λ (l : List RowId). slice_get l before.low) none) ∙ before.first))
    (cases_lt before.ent (length r.entities))

pub satisfied_both_ways : (s : Spec) (c : Rankings) → AreRules s.relations s.rules → IsCompletion s.relations c →
    (k : ℕ) (rule : Rule) → slice_get s.rules k ≡ Some rule
    → (r : Relation) → slice_get s.relations rule.relation.0 ≡ Some r
    → (SatisfiesRule r.rows (slice_index_or c rule.relation.0 []) rule → InstancesHold r.rows
    (slice_index_or c rule.relation.0 []) rule)
    × (InstancesHold r.rows (slice_index_or c rule.relation.0 []) rule → SatisfiesRule r.rows
    (slice_index_or c rule.relation.0 []) rule)
satisfied_both_ways s c are completion k rule at r at_r =
    let rel = rule.relation.0 in
    let of = all_at (IsRuleOf s.relations) s.rules k rule are.each at in
    let fits = subst (λ (q : Relation). IsRuleOn (kinds_of q) rule)
    (same_Some of.relation r (sym of.is_relation ∙ at_r)) of.fits in
    let strict = strict_of s.relations c rel r completion at_r in
    (instances_hold r (slice_index_or c rel []) rule strict fits, satisfied r (slice_index_or c rel []) rule strict fits)

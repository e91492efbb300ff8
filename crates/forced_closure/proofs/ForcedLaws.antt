-- Forced pairs hold in every consistent completion.
use Rattle.std.proofs.Common.{◌≡◌, ◌≢◌, ◌==◌, ℕ, Bool, true, false, List, [], All, Contains, Option, Some, None, get_or, slice_get, slice_index_or, option_map, if◌then◌else◌, sym, ap, ap₂, ◌∙◌, subst, ⊎_elim, arith}
use Rattle.std.proofs.lemmas.List.{length-map}
use Rattle.std.proofs.lemmas.List.Elements.{Contains-get_or}
use Rattle.std.proofs.lemmas.Option.{same_Some, none-some, slice_get_within}
use Rattle.currency_base.specs.declared.ids.AttrId.{AttrId}
use Rattle.currency_base.specs.declared.ids.RowId.{RowId}
use Rattle.currency_base.specs.declared.pair.Pair.{Pair}
use Rattle.currency_base.specs.declared.row.Row.{Row}
use Rattle.copy_functions.specs.Copies.{CopyFunction}
use Rattle.copy_functions.specs.declared.place.Place.{Place}
use Rattle.denial_rules.specs.Instances.{values_hold, pair_at, atom_pair, premises_of, concluded, instance_of}
use Rattle.denial_rules.specs.declared.instance.RuleInstance.{RuleInstance}
use Rattle.denial_rules.specs.declared.rule.OrderAtom.{OrderAtom}
use Rattle.denial_rules.specs.declared.rule.Rule.{Rule}
use Rattle.rule_laws.specs.Holds.{PairHolds, ConcludedHolds, InstancesHold}
use Rattle.spec_model.specs.Completion.{Rankings, lists_of, Before}
use Rattle.spec_model.specs.Consistent.{IsConsistent}
use Rattle.spec_model.specs.Facts.{IsSpecification, IsRelation, IsCopyAmong, IsPlaceBetween, kinds_of}
use Rattle.spec_model.specs.Satisfies.{Lists}
use Rattle.spec_model.specs.Spec.{Spec}
use Rattle.spec_model.specs.declared.relation.Relation.{Relation}
use Rattle.forced_closure.specs.Forced.{IsInstance, AreCopiedAt, IsForced, given, transitive, ruled, copied, back, HasLoop}
use Rattle.forced_closure.proofs.RowOrders.{all_at, AreTwo, before_next, either_before, not_both_ways}

-- a consistent completion of a specification, in which every instance of each rule holds
pub record IsCase (s : Spec) (c : Rankings) : Type 0 where
  pub facts : IsSpecification s
  pub consistent : IsConsistent s c
  pub instances : (k : ℕ) (rule : Rule) → slice_get s.rules k ≡ Some rule → (r : Relation)
      → slice_get s.relations rule.relation.0 ≡ Some r
      → InstancesHold r.rows (slice_index_or c rule.relation.0 []) rule

-- ---- rules

-- what holds of each item of a list holds of all
all_of : {A : Type 0} (P : A → Type 0) (xs : List A) → ((x : A) → Contains xs x → P x) → All P xs
all_of P xs each = λ k d below. each (get_or xs k d) (Contains-get_or xs k d below)

-- what an instance concludes is what its rule does of the rows
instance_concludes : (rule : Rule) (table : List Row) (rows : List RowId) (i : RuleInstance)
    → instance_of rule table rows ≡ Some i → i.conclusion ≡ concluded rows rule.conclusion
instance_concludes rule table rows i e = by (values_hold rule table rows) (premises_of rows rule.predicates) e
  where
    made : List Pair → RuleInstance
    made premises = record { premises = premises; conclusion = concluded rows rule.conclusion }

    by : (values : Bool) (premises : Option (List Pair)) → (if values then option_map made premises else None) ≡ Some i
        → i.conclusion ≡ concluded rows rule.conclusion
    by false premises e = absurd (none-some i e)
    by true None e = absurd (none-some i e)
    by true (Some premises) e = ap (λ (j : RuleInstance). j.conclusion) (sym (same_Some (made premises) i e))

-- where what two rows conclude holds, the one stands before the other; one row twice concludes nothing, which never holds
concluded_stands : (lists : Lists) (attr : AttrId) (earlier later : RowId)
    → ConcludedHolds lists (pair_at attr (Some earlier) (Some later)) → Before (slice_index_or lists attr.0 []) earlier later
concluded_stands lists attr earlier later holds = by (earlier.0 == later.0) holds
  where
    pair : Pair
    pair = record { attr = attr; earlier = earlier; later = later }

    by : (same : Bool) → ConcludedHolds lists (if same then None else Some pair)
        → Before (slice_index_or lists attr.0 []) earlier later
    by true holds = absurd holds
    by false holds = holds

-- where the premises of an instance hold, its two rows stand as the rule concludes
ruled_holds : (s : Spec) (c : Rankings) (rule : Rule) (i : RuleInstance) (atom : OrderAtom) (earlier later : RowId) → IsCase s c
    → IsInstance s rule i atom earlier later → All (PairHolds (slice_index_or c rule.relation.0 [])) i.premises
    → Before (lists_of c rule.relation.0 atom.attr.0) earlier later
ruled_holds s c rule i atom earlier later is n hold =
    let lists = slice_index_or c rule.relation.0 [] in
    let holds : ConcludedHolds lists i.conclusion =
    is.instances n.number rule n.is_rule n.relation n.is_relation n.rows n.choice i n.is_instance hold in
    let of_rule = instance_concludes rule n.relation.rows n.rows i n.is_instance in
    let of_atom : concluded n.rows rule.conclusion ≡ atom_pair n.rows atom = ap (concluded n.rows) n.concludes in
    let of_rows : atom_pair n.rows atom ≡ pair_at atom.attr (Some earlier) (Some later) =
    ap₂ (pair_at atom.attr) n.earlier_is n.later_is in
    concluded_stands lists atom.attr earlier later (subst (ConcludedHolds lists) (of_rule ∙ (of_atom ∙ of_rows)) holds)

-- ---- copy functions

-- mapped rows stand as their sources do
copied_holds : (s : Spec) (c : Rankings) (copy : CopyFunction) (place : Place) (first second : RowId) → IsConsistent s c
    → (m : AreCopiedAt s copy place first second)
    → Before (lists_of c copy.source.0 place.source.0) m.rows.first_source m.rows.second_source
    → Before (lists_of c copy.target.0 place.target.0) first second
copied_holds s c copy place first second is m sources =
    is.copies m.number copy m.is_copy m.target m.source m.is_target m.is_source m.at place m.is_place first second m.rows sources

-- the two mapped rows, the other way round
turned : (s : Spec) (copy : CopyFunction) (place : Place) (first second : RowId) → AreCopiedAt s copy place first second
    → AreCopiedAt s copy place second first
turned s copy place first second m = record {
  number = m.number;
  is_copy = m.is_copy;
  target = m.target;
  is_target = m.is_target;
  source = m.source;
  is_source = m.is_source;
  at = m.at;
  is_place = m.is_place;
  rows = record {
    first_source = m.rows.second_source;
    second_source = m.rows.first_source;
    first_is = m.rows.second_is;
    second_is = m.rows.first_is;
    ent = m.rows.ent;
    first_of = m.rows.second_of;
    second_of = m.rows.first_of;
    source_ent = m.rows.source_ent;
    first_source_of = m.rows.second_source_of;
    second_source_of = m.rows.first_source_of;
  };
}

-- different sources are two rows of one entity, in an attribute of their relation
two_sources : (s : Spec) (copy : CopyFunction) (place : Place) (first second : RowId) → IsSpecification s
    → (m : AreCopiedAt s copy place first second) → m.rows.first_source ≢ m.rows.second_source
    → AreTwo s.relations copy.source.0 place.source.0 m.rows.first_source m.rows.second_source
two_sources s copy place first second facts m differ =
    let among = all_at (IsCopyAmong s.relations) s.copies m.number copy facts.copies.each m.is_copy in
    let between = all_at (IsPlaceBetween among.target among.source) copy.places m.at place among.places m.is_place in
    let own : among.source ≡ m.source = same_Some among.source m.source (sym among.is_source ∙ m.is_source) in
    let in_source : slice_get (kinds_of m.source) place.source.0 ≡ Some between.kind =
    subst (λ (r : Relation). slice_get (kinds_of r) place.source.0 ≡ Some between.kind) own between.in_source in
    let listed = slice_get_within (kinds_of m.source) place.source.0 between.kind in_source in
    let long = length-map m.source.attrs (λ a. a.kind) in
    record {
      relation = m.source;
      is_relation = m.is_source;
      attr_in = omega (arith, long, listed);
      entities = (all_at IsRelation s.relations copy.source.0 m.source facts.relations.each m.is_source).entities;
      ent = m.rows.source_ent;
      first_of = m.rows.first_source_of;
      second_of = m.rows.second_source_of;
      differ = differ;
    }

-- different sources stand as the mapped rows do: the other way round they would turn the mapped rows round
back_holds : (s : Spec) (c : Rankings) (copy : CopyFunction) (place : Place) (first second : RowId) → IsCase s c
    → (m : AreCopiedAt s copy place first second) → m.rows.first_source ≢ m.rows.second_source
    → Before (lists_of c copy.target.0 place.target.0) first second
    → Before (lists_of c copy.source.0 place.source.0) m.rows.first_source m.rows.second_source
unfolding turned
back_holds s c copy place first second is m differ targets =
    let completion = is.consistent.completion in
    let two = two_sources s copy place first second is.facts m differ in
    ⊎_elim
    (λ stands. stands)
    (λ round.
    let over = copied_holds s c copy place second first is.consistent (turned s copy place first second m) round in
    absurd (not_both_ways s.relations c copy.target.0 place.target.0 first second completion targets over))
    (either_before s.relations c copy.source.0 place.source.0 m.rows.first_source m.rows.second_source completion two)

-- ---- all forced pairs

-- each forced pair holds, step by step from the given ones
pub forced_holds : (s : Spec) (c : Rankings) → IsCase s c → (rel attr : ℕ) (earlier later : RowId)
    → IsForced s rel attr earlier later → Before (lists_of c rel attr) earlier later
forced_holds s c is _ _ _ _ (given rel p g) = is.consistent.given rel g.relation g.is_relation p g.is_in
forced_holds s c is _ _ _ _ (transitive rel attr a b d one next) =
    before_next s.relations c rel attr a b d is.consistent.completion
    (forced_holds s c is rel attr a b one) (forced_holds s c is rel attr b d next)
forced_holds s c is _ _ _ _ (ruled rule i atom earlier later n premises) =
    ruled_holds s c rule i atom earlier later is n
    (all_of (PairHolds (slice_index_or c rule.relation.0 [])) i.premises
    (λ p is_in. forced_holds s c is rule.relation.0 p.attr.0 p.earlier p.later (premises p is_in)))
forced_holds s c is _ _ _ _ (copied copy place first second m apart differ sources) =
    copied_holds s c copy place first second is.consistent m
    (forced_holds s c is copy.source.0 place.source.0 m.rows.first_source m.rows.second_source sources)
forced_holds s c is _ _ _ _ (back copy place first second m apart differ targets) =
    back_holds s c copy place first second is m differ
    (forced_holds s c is copy.target.0 place.target.0 first second targets)

-- where forced pairs hold there is no loop
pub loop_rules_out : (s : Spec) (c : Rankings) → IsConsistent s c
    → ((rel attr : ℕ) (earlier later : RowId) → IsForced s rel attr earlier later → Before (lists_of c rel attr) earlier later)
    → HasLoop s → ⊥
loop_rules_out s c is hold loop =
    let before = hold loop.rel loop.attr loop.row loop.row loop.forced in
    not_both_ways s.relations c loop.rel loop.attr loop.row loop.row is.completion before before

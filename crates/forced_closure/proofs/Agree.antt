-- Forced pairs are the pairs of the least set's cells.
use Rattle.std.proofs.Common.{◌≡◌, ◌≢◌, ◌∙◌, ℕ, zero, suc, List, [], ◌∷◌, Some, Contains, is_some, true, length, slice_get, refl, sym, ap, subst, inl, inr, arith}
use Rattle.std.proofs.lemmas.Option.{none-some, same_Some, slice_get_within}
use Rattle.currency_base.specs.declared.ids.RowId.{RowId}
use Rattle.currency_base.specs.declared.ids.RuleId.{RuleId}
use Rattle.currency_base.specs.declared.pair.Pair.{Pair}
use Rattle.copied_pairs.specs.declared.pairs.CopiedPair.{CopiedPair}
use Rattle.copy_functions.specs.Copies.{CopyFunction, source_at}
use Rattle.copy_functions.specs.declared.place.Place.{Place}
use Rattle.denial_rules.specs.Instances.{instance_of}
use Rattle.denial_rules.specs.declared.instance.RuleInstance.{RuleInstance}
use Rattle.denial_rules.specs.declared.rule.Conclusion.{Conclusion}
use Rattle.denial_rules.specs.declared.rule.Conclusion.TheVariants as conclusion
use Rattle.denial_rules.specs.declared.rule.OrderAtom.{OrderAtom}
use Rattle.denial_rules.specs.declared.rule.Rule.{Rule}
use Rattle.spec_model.specs.Spec.{Spec}
use Rattle.spec_model.specs.declared.relation.Relation.{Relation}
use Rattle.horn_closure.specs.Least.{Horn, IsLeast, fact, joined, clause}
use Rattle.order_squares.specs.Squares.{Layout, IsSlot}
use Rattle.order_squares.proofs.Places.{item_at}
use Rattle.order_squares.proofs.Slots.{one_slot, IsOnePair, one_pair, joins, parts}
use Rattle.forced_closure.specs.Forced.{IsForced, IsInstance, AreCopiedAt, given, transitive, ruled, copied, back}
use Rattle.forced_closure.specs.Clauses.{Subject, IsSubject, AreFacts, IsRuleClause, IsCopyClause, IsSaid, HornClauses, AreSaid}
use Rattle.forced_closure.specs.Clauses.{AreClauses, OfRules, OfCopies, OfPair}
use Rattle.forced_closure.specs.Derived.{AreCopied}
use Rattle.forced_closure.specs.declared.origin.Origin.{Origin}
use Rattle.forced_closure.specs.declared.origin.Origin.TheVariants as origin
use Rattle.forced_closure.proofs.Adding.{stands, contains_at}

-- the cells, facts and clauses of a specification
abbrev pub horn_of : Subject → List ℕ → HornClauses → Horn
horn_of m facts t = record { sizes = m.layout.sizes; facts = facts; premises = t.premises; conclusions = t.conclusions }

-- a specification with its facts and clauses
pub record IsCase (m : Subject) (facts : List ℕ) (t : HornClauses) : Type 0 where
  pub subject : IsSubject m
  pub facts_are : AreFacts m facts
  pub clauses : AreClauses m t

-- ---- the same pair

pub move_forced : (s : Spec) (rel attr : ℕ) (a b : RowId) (rel' attr' : ℕ) (a' b' : RowId) → IsOnePair rel attr a b
    rel' attr' a' b'
    → IsForced s rel attr a b → IsForced s rel' attr' a' b'
move_forced s rel attr a b rel' attr' a' b' one forced =
    subst (λ x. IsForced s x attr' a' b') one.rels
    (subst (λ x. IsForced s rel x a' b') one.attrs (subst (λ x. IsForced s rel attr x b') one.earliers
    (subst (λ x. IsForced s rel attr a x) one.laters forced)))

pub move_slot : (l : Layout) (rel attr : ℕ) (a b : RowId) (rel' attr' : ℕ) (a' b' : RowId) (slot : ℕ)
    → IsOnePair rel attr a b rel' attr' a' b'
    → IsSlot l rel attr a b slot → IsSlot l rel' attr' a' b' slot
move_slot l rel attr a b rel' attr' a' b' slot one is =
    subst (λ x. IsSlot l x attr' a' b' slot) one.rels
    (subst (λ x. IsSlot l rel x a' b' slot) one.attrs (subst (λ x. IsSlot l rel attr x b' slot) one.earliers
    (subst (λ x. IsSlot l rel attr a x slot) one.laters is)))

pub only_one : (x y : ℕ) (xs : List ℕ) → xs ≡ x ∷ [] → Contains xs y → x ≡ y
only_one x y xs e c = by (stands (x ∷ []) y (subst (λ (l : List ℕ). Contains l y) e c))
  where
    by : (i : ℕ) × (slice_get (x ∷ []) i ≡ Some y) → x ≡ y
    by (zero, at) = same_Some x y at
    by (suc i, at) = absurd (none-some y at)

pub the_one : (x : ℕ) (xs : List ℕ) → xs ≡ x ∷ [] → Contains xs x
the_one x xs e = subst (λ (l : List ℕ). Contains l x) (sym e) (contains_at (x ∷ []) 0 x refl)

-- ---- of a clause

-- what a clause was made of
pub record IsMade (m : Subject) (t : HornClauses) (k : ℕ) (premises : List ℕ) (conclusion : ℕ) : Type 0 where
  pub from : Origin
  pub is_from : slice_get t.origins k ≡ Some from
  pub said : IsSaid m from premises conclusion

pub made : (m : Subject) (t : HornClauses) (k : ℕ) (premises : List ℕ) (conclusion : ℕ) → AreSaid m t → slice_get t.premises
    k ≡ Some premises
    → slice_get t.conclusions k ≡ Some conclusion → IsMade m t k premises conclusion
made m t k premises conclusion are at_ps at_c =
    let o = item_at t.origins k (omega (arith, are.premises, slice_get_within t.premises k premises at_ps)) in
    record { from = o.0; is_from = o.1; said = are.each k o.0 premises conclusion o.1 at_ps at_c }

-- a clause that was made of something
pub record HasClause (m : Subject) (t : HornClauses) (o : Origin) : Type 0 where
  pub k : ℕ
  pub premises : List ℕ
  pub conclusion : ℕ
  pub are_premises : slice_get t.premises k ≡ Some premises
  pub is_conclusion : slice_get t.conclusions k ≡ Some conclusion
  pub said : IsSaid m o premises conclusion

pub clause_of : (m : Subject) (t : HornClauses) (o : Origin) → AreSaid m t → Contains t.origins o → HasClause m t o
clause_of m t o are c =
    let at = stands t.origins o c in
    let below = slice_get_within t.origins at.0 o at.1 in
    let ps = item_at t.premises at.0 (omega (arith, are.premises, below)) in
    let q = item_at t.conclusions at.0 (omega (arith, are.conclusions, below)) in
    record {
      k = at.0;
      premises = ps.0;
      conclusion = q.0;
      are_premises = ps.1;
      is_conclusion = q.1;
      said =
          are.each at.0 o ps.0 q.0 at.1 ps.1 q.1;
    }

-- ---- pairs of the least set are forced

-- each pair of a slot is forced
abbrev pub AllForced : Subject → ℕ → Type 0
AllForced m slot = (rel attr : ℕ) (a b : RowId) → IsSlot m.layout rel attr a b slot → IsForced m.spec rel attr a b

said_forced : (m : Subject) (from : Origin) (premises : List ℕ) (conclusion : ℕ) → IsSaid m from premises conclusion
    → ((slot : ℕ) → Contains premises slot → AllForced m slot) → AllForced m conclusion
said_forced m (origin.Rule rule ground) premises conclusion r forced rel attr a b is =
    move_forced m.spec r.rule.relation.0 r.atom.attr.0 r.earlier r.later rel attr a b
    (one_pair m.layout r.rule.relation.0 r.atom.attr.0 r.earlier r.later rel attr a b conclusion r.conclusion_is is)
    (ruled r.rule r.taken r.atom r.earlier r.later r.is_instance (λ p c.
    let q = r.premises_are.all p c in
    forced q.slot q.is_in r.rule.relation.0 p.attr.0 p.earlier p.later q.is_slot))
said_forced m (origin.Copy copy place first second) premises conclusion (from, e, q) forced rel attr a b is =
    move_forced m.spec q.are.copy.target.0 q.are.place.target.0 first second rel attr a b
    (one_pair m.layout q.are.copy.target.0 q.are.place.target.0 first second rel attr a b conclusion q.target is)
    (copied q.are.copy q.are.place first second q.are.are_at q.are.differ q.are.sources_differ
    (forced from (the_one from premises e) q.are.copy.source.0 q.are.place.source.0 q.are.are_at.rows.first_source
    q.are.are_at.rows.second_source q.source))
said_forced m (origin.Back copy place first second) premises conclusion (to, e, q) forced rel attr a b is =
    move_forced m.spec q.are.copy.source.0 q.are.place.source.0 q.are.are_at.rows.first_source
    q.are.are_at.rows.second_source rel attr a b
    (one_pair m.layout q.are.copy.source.0 q.are.place.source.0 q.are.are_at.rows.first_source
    q.are.are_at.rows.second_source rel attr a b conclusion q.source is)
    (back q.are.copy q.are.place first second q.are.are_at q.are.differ q.are.sources_differ
    (forced to (the_one to premises e) q.are.copy.target.0 q.are.place.target.0 first second q.target))

pub least_forced : (m : Subject) (facts : List ℕ) (t : HornClauses) → IsCase m facts t → (slot : ℕ)
    → IsLeast (horn_of m facts t) slot → AllForced m slot
least_forced m facts t is _ (fact slot c) rel attr a b at =
    let g = is.facts_are.each slot c in
    move_forced m.spec g.rel g.pair.attr.0 g.pair.earlier g.pair.later rel attr a b
    (one_pair m.layout g.rel g.pair.attr.0 g.pair.earlier g.pair.later rel attr a b slot g.is_slot at)
    (given g.rel g.pair g.is_given)
least_forced m facts t is _ (joined first second third meet one two) rel attr a b at =
    let p = parts m.layout is.subject.layout rel attr a b first second third at meet in
    transitive rel attr a p.middle b (least_forced m facts t is first one rel attr a p.middle p.first_is)
    (least_forced m facts t is second two rel attr p.middle b p.second_is)
least_forced m facts t is _ (clause k premises conclusion are_premises is_conclusion all) rel attr a b at =
    let o = made m t k premises conclusion is.clauses.said are_premises is_conclusion in
    said_forced m o.from premises conclusion o.said (λ slot c. least_forced m facts t is slot (all slot c)) rel attr a b at

-- ---- forced pairs are of the least set

-- the slot of a pair is of the least set
pub record HasLeast (m : Subject) (facts : List ℕ) (t : HornClauses) (rel attr : ℕ) (a b : RowId) : Type 0 where
  pub slot : ℕ
  pub is_slot : IsSlot m.layout rel attr a b slot
  pub is_least : IsLeast (horn_of m facts t) slot

-- two instances of a rule for the same rows are one
record IsOneInstance (rule : Rule) (i : RuleInstance) (atom : OrderAtom) (earlier later : RowId) (rule' : Rule)
    (i' : RuleInstance) (atom' : OrderAtom) (earlier' later' : RowId) : Type 0 where
  rules : rule ≡ rule'
  instances : i ≡ i'
  atoms : atom ≡ atom'
  earliers : earlier ≡ earlier'
  laters : later ≡ later'

same_atom : (p q : OrderAtom) → conclusion.Order p ≡ conclusion.Order q → p ≡ q
same_atom p q e = ap (atom_of p) e
  where
    atom_of : OrderAtom → Conclusion → OrderAtom
    atom_of d conclusion.Never = d
    atom_of d (conclusion.Order x) = x

one_instance : (s : Spec) (rule : Rule) (i : RuleInstance) (atom : OrderAtom) (earlier later : RowId) (rule' : Rule)
    (i' : RuleInstance) (atom' : OrderAtom) (earlier' later' : RowId)
    → (n : IsInstance s rule i atom earlier later) → (n' : IsInstance s rule' i' atom' earlier' later')
    → n.number ≡ n'.number → n.rows ≡ n'.rows
    → IsOneInstance rule i atom earlier later rule' i' atom' earlier' later'
one_instance s rule i atom earlier later rule' i' atom' earlier' later' n n' numbers rows =
    let rules : rule ≡ rule' = same_Some rule rule' (sym n.is_rule ∙ (ap (slice_get s.rules) numbers ∙ n'.is_rule)) in
    let relations : n.relation ≡ n'.relation =
    same_Some n.relation n'.relation
    (sym n.is_relation ∙ (ap (λ (r : Rule). slice_get s.relations r.relation.0) rules ∙ n'.is_relation)) in
    let instances : i ≡ i' = same_Some i i' (sym n.is_instance ∙ (ap (λ (r : Rule). instance_of r n.relation.rows n.rows) rules
    ∙ (ap (λ (r : Relation). instance_of rule' r.rows n.rows) relations ∙
    (ap (instance_of rule' n'.relation.rows) rows ∙ n'.is_instance)))) in
    let atoms : atom ≡ atom' = same_atom atom atom' (sym n.concludes ∙ (ap (λ (r : Rule). r.conclusion) rules ∙ n'.concludes)) in
    record {
      rules = rules;
      instances = instances;
      atoms = atoms;
      earliers = same_Some earlier earlier'
          (sym n.earlier_is ∙ (ap (λ (x : OrderAtom). slice_get n.rows x.earlier) atoms ∙
          (ap (λ (x : List RowId). slice_get x atom'.earlier) rows ∙ n'.earlier_is)));
      laters = same_Some later later' (sym n.later_is ∙ (ap (λ (x : OrderAtom). slice_get n.rows x.later) atoms ∙
          (ap (λ (x : List RowId). slice_get x atom'.later) rows ∙ n'.later_is)));
    }

-- the origin of an instance
rule_origin : (m : Subject) (facts : List ℕ) (t : HornClauses) → IsCase m facts t → (rule : Rule) (i : RuleInstance)
    (atom : OrderAtom) (earlier later : RowId)
    → (n : IsInstance m.spec rule i atom earlier later)
    → (grounds : List (List RowId)) × (ground : ℕ) × (slice_get m.rules n.number ≡ Some grounds) ×
    (slice_get grounds ground ≡ Some n.rows) × Contains t.origins (origin.Rule (record { 0 = n.number }) ground)
rule_origin m facts t is rule i atom earlier later n =
    let below = slice_get_within m.spec.rules n.number rule n.is_rule in
    let grounds = item_at m.rules n.number (omega (arith, below, is.subject.rules.per_rule)) in
    let are = is.subject.rules.exact n.number rule n.relation grounds.0 n.is_rule n.is_relation grounds.1 in
    let has : is_some (instance_of rule n.relation.rows n.rows) ≡ true = ap is_some n.is_instance in
    let at = stands grounds.0 n.rows (are.all n.rows (record { choice = n.choice; instance = has })) in
    let k : RuleId = record { 0 = n.number } in
    let of : OfRules m (length m.spec.rules) (origin.Rule k at.0) = record {
      k = k;
      below = below;
      of = record {
        rule = rule;
        is_rule = n.is_rule;
        atom = atom;
        concludes = n.concludes;
        at = record {
          grounds = grounds.0;
          are_grounds = grounds.1;
          of = record { ground = at.0; below = slice_get_within grounds.0 at.0 n.rows at.1; is = refl };
        };
      };
    } in
    (grounds.0, at.0, grounds.1, at.1, is.clauses.rules (origin.Rule k at.0) of)

ruled_least : (m : Subject) (facts : List ℕ) (t : HornClauses) → IsCase m facts t → (rule : Rule) (i : RuleInstance)
    (atom : OrderAtom) (earlier later : RowId)
    → (n : IsInstance m.spec rule i atom earlier later)
    → ((p : Pair) → Contains i.premises p → HasLeast m facts t rule.relation.0 p.attr.0 p.earlier p.later)
    → HasLeast m facts t rule.relation.0 atom.attr.0 earlier later
ruled_least m facts t is rule i atom earlier later n premises =
    let from = rule_origin m facts t is rule i atom earlier later n in
    let h = clause_of m t (origin.Rule (record { 0 = n.number }) from.1) is.clauses.said from.4 in
    by from.0 from.1 from.2 from.3 h.k h.premises h.conclusion h.are_premises h.is_conclusion h.said
  where
    by : (grounds : List (List RowId)) (ground : ℕ) → slice_get m.rules n.number ≡ Some grounds
        → slice_get grounds ground ≡ Some n.rows
        → (k : ℕ) (ps : List ℕ) (c : ℕ) → slice_get t.premises k ≡ Some ps → slice_get t.conclusions k ≡ Some c
        → IsRuleClause m n.number ground ps c
        → HasLeast m facts t rule.relation.0 atom.attr.0 earlier later
    by grounds ground at at_rows k ps c at_ps at_c r =
        let lists : r.grounds ≡ grounds = same_Some r.grounds grounds (sym r.are_grounds ∙ at) in
        let rows : r.rows ≡ n.rows = same_Some r.rows n.rows
        (sym r.are_rows ∙ (ap (λ (g : List (List RowId)). slice_get g ground) lists ∙ at_rows)) in
        let one = one_instance m.spec r.rule r.taken r.atom r.earlier r.later rule i atom earlier later r.is_instance
        n r.of_rule (r.of_rows ∙ rows) in
        let pair : IsOnePair r.rule.relation.0 r.atom.attr.0 r.earlier r.later rule.relation.0 atom.attr.0 earlier
        later = record {
          rels = ap (λ (x : Rule). x.relation.0) one.rules;
          attrs = ap (λ (x : OrderAtom). x.attr.0) one.atoms;
          earliers = one.earliers;
          laters = one.laters;
        } in
        let least : IsLeast (horn_of m facts t) c = clause k ps c at_ps at_c (λ slot is_in.
        let q = r.premises_are.each slot is_in in
        let h = premises q.pair (subst (λ (x : RuleInstance). Contains x.premises q.pair) one.instances q.is_in) in
        let here : IsSlot m.layout rule.relation.0 q.pair.attr.0 q.pair.earlier q.pair.later slot =
        subst (λ (x : Rule). IsSlot m.layout x.relation.0 q.pair.attr.0 q.pair.earlier q.pair.later slot) one.rules q.is_slot in
        subst (IsLeast (horn_of m facts t)) (one_slot m.layout is.subject.layout rule.relation.0 q.pair.attr.0
        q.pair.earlier q.pair.later h.slot slot h.is_slot here) h.is_least) in
        record {
          slot = c;
          is_slot = move_slot m.layout r.rule.relation.0 r.atom.attr.0 r.earlier r.later rule.relation.0 atom.attr.0
              earlier later c pair r.conclusion_is;
          is_least = least;
        }

-- ---- copies

record IsOneCopy (copy copy' : CopyFunction) (place place' : Place) (first second first' second' : RowId) : Type 0 where
  copies : copy ≡ copy'
  places : place ≡ place'
  firsts : first ≡ first'
  seconds : second ≡ second'

one_copy : (s : Spec) (k at : ℕ) (first second : RowId) (are : AreCopied s k at first second) (copy : CopyFunction)
    (place : Place)
    → (p : AreCopiedAt s copy place first second) → k ≡ p.number → at ≡ p.at
    → IsOneCopy are.copy copy are.place place are.are_at.rows.first_source are.are_at.rows.second_source
    p.rows.first_source p.rows.second_source
one_copy s k at first second are copy place p numbers ats =
    let copies : are.copy ≡ copy = same_Some are.copy copy (sym are.are_at.is_copy ∙
    (ap (slice_get s.copies) (are.of_copy ∙ numbers) ∙ p.is_copy)) in
    let places : are.place ≡ place =
    same_Some are.place place (sym are.are_at.is_place ∙ (ap (slice_get are.copy.places) (are.of_place ∙ ats) ∙
    (ap (λ (c : CopyFunction). slice_get c.places p.at) copies ∙ p.is_place))) in
    record {
      copies = copies;
      places = places;
      firsts = same_Some are.are_at.rows.first_source p.rows.first_source (sym are.are_at.rows.first_is ∙
          (ap (λ (c : CopyFunction). source_at c first) copies ∙ p.rows.first_is));
      seconds = same_Some are.are_at.rows.second_source p.rows.second_source (sym are.are_at.rows.second_is ∙
          (ap (λ (c : CopyFunction). source_at c second) copies ∙ p.rows.second_is));
    }

copy_origin : (m : Subject) (facts : List ℕ) (t : HornClauses) → IsCase m facts t → (copy : CopyFunction) (place : Place)
    (first second : RowId)
    → (p : AreCopiedAt m.spec copy place first second) → first ≢ second → p.rows.first_source ≢ p.rows.second_source
    → (o : Origin)
    → OfPair (record { 0 = p.number }) p.at (record { first = first; second = second }) o → Contains t.origins o
copy_origin m facts t is copy place first second p differ apart o of =
    let pair : CopiedPair = record { first = first; second = second } in
    let below = slice_get_within m.spec.copies p.number copy p.is_copy in
    let pairs = item_at m.copies p.number (omega (arith, below, is.subject.copies.per_copy)) in
    let are = is.subject.copies.exact p.number copy p.target p.source pairs.0 p.is_copy p.is_target p.is_source pairs.1 in
    let at = stands pairs.0 pair (are.all pair (record { together = p.rows; differ = differ; sources_differ = apart })) in
    let within : OfCopies m (length m.spec.copies) o = record {
      k = record { 0 = p.number };
      below = below;
      of = record {
        copy = copy;
        is_copy = p.is_copy;
        of = record {
          place = p.at;
          below = slice_get_within copy.places p.at place p.is_place;
          of = record {
            pairs = pairs.0;
            are_pairs = pairs.1;
            of = record { i = at.0; below = slice_get_within pairs.0 at.0 pair at.1; pair = pair; is_pair = at.1; of = of };
          };
        };
      };
    } in
    is.clauses.copies o within

-- the slots of a copy clause are those of the pair that is copied
moved_source : (m : Subject) (k at : ℕ) (first second : RowId) (from to : ℕ)
    (q : IsCopyClause m k at first second from to) (copy : CopyFunction) (place : Place)
    → (p : AreCopiedAt m.spec copy place first second) → k ≡ p.number → at ≡ p.at
    → IsSlot m.layout copy.source.0 place.source.0 p.rows.first_source p.rows.second_source from × IsSlot m.layout
    copy.target.0 place.target.0 first second to
moved_source m k at first second from to q copy place p numbers ats =
    let one = one_copy m.spec k at first second q.are copy place p numbers ats in (
      move_slot m.layout q.are.copy.source.0 q.are.place.source.0 q.are.are_at.rows.first_source
          q.are.are_at.rows.second_source copy.source.0 place.source.0 p.rows.first_source p.rows.second_source from
          (record {
            rels = ap (λ (c : CopyFunction). c.source.0) one.copies;
            attrs = ap (λ (x : Place). x.source.0)
                one.places;
            earliers = one.firsts;
            laters = one.seconds;
          }) q.source,
      move_slot m.layout q.are.copy.target.0 q.are.place.target.0 first second copy.target.0 place.target.0 first second to
          (record {
            rels = ap (λ (c : CopyFunction). c.target.0) one.copies;
            attrs = ap (λ (x : Place). x.target.0)
                one.places;
            earliers = refl;
            laters = refl;
          }) q.target,
    )

-- a clause of one premise
one_premise : (m : Subject) (facts : List ℕ) (t : HornClauses) (k : ℕ) (ps : List ℕ) (x c : ℕ) → slice_get t.premises k ≡
    Some ps → slice_get t.conclusions k ≡ Some c
    → ps ≡ x ∷ [] → IsLeast (horn_of m facts t) x → IsLeast (horn_of m facts t) c
one_premise m facts t k ps x c at_ps at_c e least = clause k ps c at_ps at_c
    (λ slot is_in. subst (IsLeast (horn_of m facts t)) (only_one x slot ps e is_in) least)

copied_least : (m : Subject) (facts : List ℕ) (t : HornClauses) → IsCase m facts t → (copy : CopyFunction) (place : Place)
    (first second : RowId)
    → (p : AreCopiedAt m.spec copy place first second) → first ≢ second → p.rows.first_source ≢ p.rows.second_source
    → HasLeast m facts t copy.source.0 place.source.0 p.rows.first_source p.rows.second_source → HasLeast m facts t
    copy.target.0 place.target.0 first second
copied_least m facts t is copy place first second p differ apart h =
    let o : Origin = origin.Copy (record { 0 = p.number }) p.at first second in
    let c = clause_of m t o is.clauses.said (copy_origin m facts t is copy place first second p differ apart o (inl refl)) in
    by c.k c.premises c.conclusion c.are_premises c.is_conclusion c.said
  where
    by : (k : ℕ) (ps : List ℕ) (c : ℕ) → slice_get t.premises k ≡ Some ps → slice_get t.conclusions k ≡ Some c
        → (from : ℕ) × (ps ≡ from ∷ []) × IsCopyClause m p.number p.at first second from c → HasLeast m facts t
        copy.target.0 place.target.0 first second
    by k ps c at_ps at_c (from, e, q) =
        let slots = moved_source m p.number p.at first second from c q copy place p refl refl in
        let same = one_slot m.layout is.subject.layout copy.source.0 place.source.0 p.rows.first_source
        p.rows.second_source h.slot from h.is_slot slots.0 in
        record {
          slot = c;
          is_slot = slots.1;
          is_least = one_premise m facts t k ps from c at_ps at_c e
              (subst (IsLeast (horn_of m facts t)) same h.is_least);
        }

back_least : (m : Subject) (facts : List ℕ) (t : HornClauses) → IsCase m facts t → (copy : CopyFunction) (place : Place)
    (first second : RowId)
    → (p : AreCopiedAt m.spec copy place first second) → first ≢ second → p.rows.first_source ≢ p.rows.second_source
    → HasLeast m facts t copy.target.0 place.target.0 first second → HasLeast m facts t copy.source.0 place.source.0
    p.rows.first_source p.rows.second_source
back_least m facts t is copy place first second p differ apart h =
    let o : Origin = origin.Back (record { 0 = p.number }) p.at first second in
    let c = clause_of m t o is.clauses.said (copy_origin m facts t is copy place first second p differ apart o (inr refl)) in
    by c.k c.premises c.conclusion c.are_premises c.is_conclusion c.said
  where
    by : (k : ℕ) (ps : List ℕ) (c : ℕ) → slice_get t.premises k ≡ Some ps → slice_get t.conclusions k ≡ Some c
        → (to : ℕ) × (ps ≡ to ∷ []) × IsCopyClause m p.number p.at first second c to
        → HasLeast m facts t copy.source.0 place.source.0 p.rows.first_source p.rows.second_source
    by k ps c at_ps at_c (to, e, q) =
        let slots = moved_source m p.number p.at first second c to q copy place p refl refl in
        let same = one_slot m.layout is.subject.layout copy.target.0 place.target.0 first second h.slot to h.is_slot slots.1 in
        record {
          slot = c;
          is_slot = slots.0;
          is_least = one_premise m facts t k ps to c at_ps at_c e
              (subst (IsLeast (horn_of m facts t)) same h.is_least);
        }

-- ---- all of them

pub forced_least : (m : Subject) (facts : List ℕ) (t : HornClauses) → IsCase m facts t → (rel attr : ℕ) (a b : RowId)
    → IsForced m.spec rel attr a b
    → HasLeast m facts t rel attr a b
forced_least m facts t is _ _ _ _ (given rel p g) =
    let f = is.facts_are.all rel p g in
    record { slot = f.slot; is_slot = f.is_slot; is_least = fact f.slot f.is_in }
forced_least m facts t is _ _ _ _ (transitive rel attr a b d one two) =
    let x = forced_least m facts t is rel attr a b one in
    let y = forced_least m facts t is rel attr b d two in
    let j = joins m.layout is.subject.layout rel attr a b d x.slot y.slot x.is_slot y.is_slot in
    record { slot = j.slot; is_slot = j.is_slot; is_least = joined x.slot y.slot j.slot j.meet x.is_least y.is_least }
forced_least m facts t is _ _ _ _ (ruled rule i atom earlier later n premises) =
    ruled_least m facts t is rule i atom earlier later n (λ p c. forced_least m facts t is rule.relation.0 p.attr.0
    p.earlier p.later (premises p c))
forced_least m facts t is _ _ _ _ (copied copy place first second p differ apart source) =
    copied_least m facts t is copy place first second p differ apart
    (forced_least m facts t is copy.source.0 place.source.0 p.rows.first_source p.rows.second_source source)
forced_least m facts t is _ _ _ _ (back copy place first second p differ apart target) =
    back_least m facts t is copy place first second p differ apart
    (forced_least m facts t is copy.target.0 place.target.0 first second target)

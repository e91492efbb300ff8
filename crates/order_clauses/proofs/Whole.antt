-- The axioms of all labels that are listed are exactly those that are asked, each once.
use Rattle.std.proofs.Common.{◌≡◌, ◌∙◌, ◌⊎◌, ◌<◌, ℕ, zero, suc, true, List, [], ◌∷◌, ◌++◌, All, Contains, Some, is_some, length, slice_get, slice_index_or, refl, sym, ap, subst, ⊎_elim, arith}
use Rattle.std.proofs.lemmas.List.Elements.{Contains-append_left, Contains-append_right, Contains-append_cases}
use Rattle.std.proofs.lemmas.Option.{same_Some, none-some, slice_get_within, get_or_from_slice_get}
use Rattle.currency_base.specs.Lists.{OnlyOnce}
use Rattle.currency_base.specs.declared.ids.AttrId.{AttrId}
use Rattle.currency_base.specs.declared.ids.RelId.{RelId}
use Rattle.currency_base.specs.declared.ids.RowId.{RowId}
use Rattle.currency_base.specs.declared.lit.Lit.{Lit}
use Rattle.currency_base.specs.declared.row.Row.{Row}
use Rattle.copied_pairs.specs.Copied.{IsCopiedPair}
use Rattle.copied_pairs.specs.declared.pairs.CopiedPair.{CopiedPair}
use Rattle.entity_ground.specs.Grounds.{AreCopyGrounds, AreRuleGrounds, IsGround}
use Rattle.partial_orders.specs.Pairs.{entity_of}
use Rattle.spec_model.specs.Facts.{AreRelations, AreRules, AreCopies, IsRelation, IsRuleOf, IsCopyAmong}
use Rattle.spec_model.specs.declared.relation.Relation.{Relation}
use Rattle.value_names.specs.Names.{name_of}
use Rattle.refutation_log.specs.declared.step.Label.{Label}
use Rattle.refutation_log.specs.declared.step.Label.TheVariants as label
use Rattle.refutation_log.specs.declared.step.Step.{Step}
use Rattle.refutation_log.specs.declared.step.Step.TheVariants as step
use Rattle.order_literals.specs.Axioms.{IsAxiom}
use Rattle.order_literals.specs.Numbers.{is_wanted}
use Rattle.order_literals.specs.Said.{Said}
use Rattle.order_clauses.specs.Added.{IsStepOf, AreStepsOf, Adds}
use Rattle.order_clauses.specs.Clauses.{IsAsked, IsAskedStep, StandsOverOne, AreAxioms}
use Rattle.order_clauses.specs.Listing.{given_at, given_labels, rule_at, rule_labels, copy_at, copy_labels, row_labels, wanted_at, wanted_labels, all_labels}
use Rattle.order_clauses.specs.Listing.{AddsAll}
use Rattle.order_clauses.specs.Subject.{Subject, variables}
use Rattle.order_clauses.proofs.Adding.{adds_both}
use Rattle.order_clauses.proofs.GivenPairs.{entity_there}
use Rattle.order_clauses.proofs.Listed.{at_of, in_below}
use Rattle.order_clauses.proofs.LabelsAre.{in_given, given_listed, in_rule, rule_listed, in_copy, copy_listed, attribute, IsWantedLabel, in_wanted, above_in_row, top_in_row, last_in_row, value_in_row, row_listed, same_row, once_all}
use Rattle.order_clauses.proofs.Reading.{all_at, item_at}
use Rattle.order_clauses.proofs.Saying.{all_of, contains_at}

-- what is known of the specification and its grounds
pub record Facts (s : Subject) (rules : List (List (List RowId))) (copies : List (List CopiedPair)) : Type 0 where
  pub relations : AreRelations s.spec.relations
  pub rules_are : AreRules s.spec.relations s.spec.rules
  pub copies_are : AreCopies s.spec.relations s.spec.copies
  pub rule_grounds : AreRuleGrounds s.spec rules
  pub copy_grounds : AreCopyGrounds s.spec copies
  pub given_once : OnlyOnce (given_labels s.spec)

-- ---- steps and labels

pub step_at : (s : Subject) (ls : List Label) (steps : List Step) (i : ℕ) (t : Step) → AreStepsOf s ls steps
    → slice_get steps i ≡ Some t
    → (l : Label) × (slice_get ls i ≡ Some l) × IsStepOf s l t
step_at s [] [] i t are at = absurd (none-some t at)
step_at s [] (x ∷ steps) i t are at = absurd are
step_at s (l ∷ ls) [] i t are at = absurd are
step_at s (l ∷ ls) (x ∷ steps) zero t are at = (l, refl, subst (IsStepOf s l) (same_Some x t at) are.0)
step_at s (l ∷ ls) (x ∷ steps) (suc i) t are at = step_at s ls steps i t are.1 at

pub label_at : (s : Subject) (ls : List Label) (steps : List Step) (i : ℕ) (l : Label) → AreStepsOf s ls steps
    → slice_get ls i ≡ Some l
    → (t : Step) × (slice_get steps i ≡ Some t) × IsStepOf s l t
label_at s [] [] i l are at = absurd (none-some l at)
label_at s [] (x ∷ steps) i l are at = absurd are
label_at s (k ∷ ls) [] i l are at = absurd are
label_at s (k ∷ ls) (x ∷ steps) zero l are at = (x, refl, subst (λ (m : Label). IsStepOf s m x) (same_Some k l at) are.0)
label_at s (k ∷ ls) (x ∷ steps) (suc i) l are at = label_at s ls steps i l are.1 at

pub label_of_step : (s : Subject) (ls : List Label) (steps : List Step) (i : ℕ) (l : Label) (lits : List Lit)
    → AreStepsOf s ls steps → slice_get steps i ≡ Some (step.Axiom l lits)
    → slice_get ls i ≡ Some l
label_of_step s ls steps i l lits are at =
    let m = step_at s ls steps i (step.Axiom l lits) are at in
    let e : step.Axiom l lits ≡ step.Axiom m.0 m.2.lits = m.2.step.is_step in
    let same : l ≡ m.0 = cc in
    m.1 ∙ ap Some (sym same)

-- ---- what is listed is asked

asked_wanted : (s : Subject) (i : ℕ) (l : Label) → IsWantedLabel s i l → IsAsked s.spec s.wanted.currents l
asked_wanted s i l w = ⊎_elim
    (λ (a : (other : RowId) × (entity_of w.relation.rows other.0 ≡ Some w.ent) × (w.row.0 ≡ other.0 → ⊥) ×
    (l ≡ label.Above (record { 0 = i }) (record { 0 = w.attr }) w.row other)).
    subst (IsAsked s.spec s.wanted.currents) (sym a.3) w.wanted)
    (λ (rest : (l ≡ label.Top (record { 0 = i }) (record { 0 = w.attr }) w.row) ⊎
    ((l ≡ label.Last (record { 0 = i }) (record { 0 = w.attr }) w.row)
    ⊎ ((l ≡ label.Value (record { 0 = i }) (record { 0 = w.attr }) w.row) ×
    ((name_of w.relation.rows w.attr w.row).0 ≡ w.row.0)))). ⊎_elim
    (λ (e : l ≡ label.Top (record { 0 = i }) (record { 0 = w.attr }) w.row). subst (IsAsked s.spec s.wanted.currents)
    (sym e) w.wanted)
    (λ (more : (l ≡ label.Last (record { 0 = i }) (record { 0 = w.attr }) w.row)
    ⊎ ((l ≡ label.Value (record { 0 = i }) (record { 0 = w.attr }) w.row) ×
    ((name_of w.relation.rows w.attr w.row).0 ≡ w.row.0))). ⊎_elim
    (λ (e : l ≡ label.Last (record { 0 = i }) (record { 0 = w.attr }) w.row). subst
    (IsAsked s.spec s.wanted.currents) (sym e) w.wanted)
    (λ (v : (l ≡ label.Value (record { 0 = i }) (record { 0 = w.attr }) w.row) ×
    ((name_of w.relation.rows w.attr w.row).0 ≡ w.row.0)).
    subst (IsAsked s.spec s.wanted.currents) (sym v.0) (
      w.wanted,
      λ r at.
          let same : w.relation ≡ r = same_Some w.relation r (sym w.is_relation ∙ at) in
          subst (λ (q : Relation). name_of q.rows w.attr w.row ≡ w.row) same
          (same_row (name_of w.relation.rows w.attr w.row) w.row v.1),
    ))
    more)
    rest)
    w.label.one_of

asked : (s : Subject) (rules : List (List (List RowId))) (copies : List (List CopiedPair)) (l : Label)
    → Contains (all_labels s rules copies) l → IsAsked s.spec s.wanted.currents l
unfolding all_labels given_labels rule_labels copy_labels wanted_labels
asked s rules copies l h = ⊎_elim
    (λ (g : Contains (given_labels s.spec) l). let m = in_below (given_at s.spec) (length s.spec.relations) l g in
    subst (IsAsked s.spec s.wanted.currents) (sym (in_given s.spec m.0 l m.2).is) tt)
    (λ (h : Contains (rule_labels rules ++ (copy_labels s.spec copies ++ wanted_labels s)) l). ⊎_elim
    (λ (g : Contains (rule_labels rules) l). let m = in_below (rule_at rules) (length rules) l g in
    subst (IsAsked s.spec s.wanted.currents) (sym (in_rule rules m.0 l m.2).is) tt)
    (λ (h : Contains (copy_labels s.spec copies ++ wanted_labels s) l). ⊎_elim
    (λ (g : Contains (copy_labels s.spec copies) l). let m = in_below (copy_at s.spec copies) (length s.spec.copies) l g in
    subst (IsAsked s.spec s.wanted.currents) (sym (in_copy s.spec copies m.0 l m.2).is) tt)
    (λ (g : Contains (wanted_labels s) l). let m = in_below (wanted_at s) (length s.spec.relations) l
    g in asked_wanted s m.0 l (in_wanted s m.0 l m.2))
    (Contains-append_cases (copy_labels s.spec copies) (wanted_labels s) l h))
    (Contains-append_cases (rule_labels rules) (copy_labels s.spec copies ++ wanted_labels s) l h))
    (Contains-append_cases (given_labels s.spec) (rule_labels rules ++ (copy_labels s.spec copies ++ wanted_labels s)) l h)

-- ---- what is asked is listed

entity_below : (r : Relation) (row ent : ℕ) → IsRelation r → entity_of r.rows row ≡ Some ent → ent < length r.entities
entity_below r row ent is of = go r.rows row is.entities of
  where
    go : (rows : List Row) (row : ℕ) → All (λ x. x.entity.0 < length r.entities) rows → entity_of rows row ≡ Some ent
        → ent < length r.entities
    go [] row all of = cc
    go (x ∷ rows) zero all of = let same : x.entity.0 ≡ ent = same_Some x.entity.0 ent of in let below = all 0 x
        (omega arith) in omega arith
    go (x ∷ rows) (suc row) all of = go rows row (λ k d within. all (suc k) d (omega arith)) of

in_given_part : (s : Subject) (rules : List (List (List RowId))) (copies : List (List CopiedPair)) (l : Label)
    → Contains (given_labels s.spec) l → Contains (all_labels s rules copies) l
unfolding all_labels
in_given_part s rules copies l h = Contains-append_left (given_labels s.spec)
    (rule_labels rules ++ (copy_labels s.spec copies ++ wanted_labels s)) l h

in_rule_part : (s : Subject) (rules : List (List (List RowId))) (copies : List (List CopiedPair)) (l : Label)
    → Contains (rule_labels rules) l → Contains (all_labels s rules copies) l
unfolding all_labels
in_rule_part s rules copies l h = Contains-append_right (given_labels s.spec)
    (rule_labels rules ++ (copy_labels s.spec copies ++ wanted_labels s)) l
    (Contains-append_left (rule_labels rules) (copy_labels s.spec copies ++ wanted_labels s) l h)

in_copy_part : (s : Subject) (rules : List (List (List RowId))) (copies : List (List CopiedPair)) (l : Label)
    → Contains (copy_labels s.spec copies) l → Contains (all_labels s rules copies) l
unfolding all_labels
in_copy_part s rules copies l h = Contains-append_right (given_labels s.spec)
    (rule_labels rules ++ (copy_labels s.spec copies ++ wanted_labels s)) l
    (Contains-append_right (rule_labels rules) (copy_labels s.spec copies ++ wanted_labels s) l
    (Contains-append_left (copy_labels s.spec copies) (wanted_labels s) l h))

in_wanted_part : (s : Subject) (rules : List (List (List RowId))) (copies : List (List CopiedPair)) (l : Label)
    → Contains (wanted_labels s) l → Contains (all_labels s rules copies) l
unfolding all_labels
in_wanted_part s rules copies l h = Contains-append_right (given_labels s.spec)
    (rule_labels rules ++ (copy_labels s.spec copies ++ wanted_labels s)) l
    (Contains-append_right (rule_labels rules) (copy_labels s.spec copies ++ wanted_labels s) l
    (Contains-append_right (copy_labels s.spec copies) (wanted_labels s) l h))

relation_is : (s : Subject) (rules : List (List (List RowId))) (copies : List (List CopiedPair)) (rel : ℕ)
    (r : Relation) → Facts s rules copies → slice_get s.spec.relations rel ≡ Some r → IsRelation r
relation_is s rules copies rel r facts at = all_at IsRelation s.spec.relations rel r facts.relations.each at

row_part : (s : Subject) (rules : List (List (List RowId))) (copies : List (List CopiedPair)) (r : Relation)
    (rel : RelId) (attr : AttrId) (ent : ℕ) (row : RowId) (l : Label) → Facts s rules copies
    → slice_get s.spec.relations rel.0 ≡ Some r → is_wanted s.wanted.currents rel.0 ≡ true → attr.0 < length r.attrs
    → entity_of r.rows row.0 ≡ Some ent
    → Contains (row_labels (attribute s r rel attr.0) ent row) l → Contains (all_labels s rules copies) l
row_part s rules copies r rel attr ent row l facts at wants within of h = in_wanted_part s rules copies l
    (row_listed s r rel attr ent row l at wants within
    (entity_below r row.0 ent (relation_is s rules copies rel.0 r facts at) of) of h)

listed : (s : Subject) (rules : List (List (List RowId))) (copies : List (List CopiedPair)) → Facts s rules copies →
    (l : Label) (clause : List Said) → IsAxiom s.spec l clause
    → IsAsked s.spec s.wanted.currents l → Contains (all_labels s rules copies) l
listed s rules copies facts (label.Given rel attr earlier later) clause ax asks =
    in_given_part s rules copies (label.Given rel attr earlier later)
    (given_listed s.spec rel ax.0 (record { attr = attr; earlier = earlier; later = later }) ax.1 ax.2.0)
listed s rules copies facts (label.Transitive rel attr first second third) clause ax asks = absurd asks
listed s rules copies facts (label.Rule k rows) clause ax asks =
    let rule = ax.0 in
    let r = ax.2.0 in
    let within = slice_get_within s.spec.rules k.0 rule ax.1 in
    let all = item_at rules k.0 (omega (arith, within, facts.rule_grounds.per_rule)) in
    let is : IsGround rule r.rows rows = record { choice = ax.2.2.0; instance = ap is_some ax.2.2.2 } in
    let there = (facts.rule_grounds.exact k.0 rule r all.0 ax.1 ax.2.1 all.1).all rows is in
    in_rule_part s rules copies (label.Rule k rows) (rule_listed rules k rows all.0 all.1 there)
listed s rules copies facts (label.Copy k place first second) clause ax asks =
    let copy = ax.0 in
    let c = ax.2 in
    let within = slice_get_within s.spec.copies k.0 copy ax.1 in
    let all = item_at copies k.0 (omega (arith, within, facts.copy_grounds.per_copy)) in
    let is : IsCopiedPair copy c.target.rows c.source.rows (record { first = first; second = second }) = record {
      together = record {
        first_source = c.first_source;
        second_source = c.second_source;
        first_is = c.first_from;
        second_is = c.second_from;
        ent = c.targets.ent;
        first_of = c.targets.a_of;
        second_of = c.targets.b_of;
        source_ent = c.sources.ent;
        first_source_of = c.sources.a_of;
        second_source_of = c.sources.b_of;
      };
      differ = c.targets.differ;
      sources_differ = c.sources.differ;
    } in
    let there = (facts.copy_grounds.exact k.0 copy c.target c.source all.0 ax.1 c.is_target c.is_source all.1).all
    (record { first = first; second = second }) is in
    in_copy_part s rules copies (label.Copy k place first second)
    (copy_listed s.spec copies k copy all.0 place (record { first = first; second = second }) ax.1 all.1
    (slice_get_within copy.places place c.at c.is_place) there)
listed s rules copies facts (label.Above rel attr row other) clause ax asks =
    let r = ax.0 in
    let two = ax.2.1 in
    row_part s rules copies r rel attr two.ent row (label.Above rel attr row other) facts ax.1 asks ax.2.0 two.a_of
    (above_in_row (attribute s r rel attr.0) two.ent row other two.b_of (λ e. two.differ (same_row row other e)))
listed s rules copies facts (label.Top rel attr row) clause ax asks =
    row_part s rules copies ax.0 rel attr ax.2.1 row (label.Top rel attr row) facts ax.1 asks ax.2.0 ax.2.2
    (top_in_row (attribute s ax.0 rel attr.0) ax.2.1 row)
listed s rules copies facts (label.Last rel attr row) clause ax asks =
    let ent = entity_there ax.0.rows row.0 ax.2.1 in
    row_part s rules copies ax.0 rel attr ent.0 row (label.Last rel attr row) facts ax.1 asks ax.2.0 ent.1
    (last_in_row (attribute s ax.0 rel attr.0) ent.0 row)
listed s rules copies facts (label.Value rel attr row) clause ax asks =
    row_part s rules copies ax.0 rel attr ax.2.1 row (label.Value rel attr row) facts ax.1 asks.0 ax.2.0 ax.2.2
    (value_in_row (attribute s ax.0 rel attr.0) ax.2.1 row (asks.1 ax.0 ax.1))
listed s rules copies facts (label.Match disjunct entities values) clause ax asks = absurd asks

-- ---- all together

grounds_once : (s : Subject) (rules : List (List (List RowId))) (copies : List (List CopiedPair))
    → Facts s rules copies → (i : ℕ) → i < length rules → OnlyOnce (slice_index_or rules i [])
grounds_once s rules copies facts i within =
    let rule = item_at s.spec.rules i (omega (arith, within, facts.rule_grounds.per_rule)) in
    let all = item_at rules i within in
    let is = all_at (IsRuleOf s.spec.relations) s.spec.rules i rule.0 facts.rules_are.each rule.1 in
    let once = (facts.rule_grounds.exact i rule.0 is.relation all.0 rule.1 is.is_relation all.1).once in
    subst OnlyOnce (sym (get_or_from_slice_get rules i all.0 [] all.1)) once

pairs_once : (s : Subject) (rules : List (List (List RowId))) (copies : List (List CopiedPair))
    → Facts s rules copies → (i : ℕ) → i < length s.spec.copies → OnlyOnce (slice_index_or copies i [])
pairs_once s rules copies facts i within =
    let copy = item_at s.spec.copies i within in
    let all = item_at copies i (omega (arith, within, facts.copy_grounds.per_copy)) in
    let is = all_at (IsCopyAmong s.spec.relations) s.spec.copies i copy.0 facts.copies_are.each copy.1 in
    let once = (facts.copy_grounds.exact i copy.0 is.target is.source all.0 copy.1 is.is_target is.is_source all.1).once in
    subst OnlyOnce (sym (get_or_from_slice_get copies i all.0 [] all.1)) once

whole : (s : Subject) (rules : List (List (List RowId))) (copies : List (List CopiedPair)) (steps : List Step)
    → Facts s rules copies → AreStepsOf s (all_labels s rules copies) steps
    → AreAxioms s.spec s.wanted.currents (variables s) steps
whole s rules copies steps facts are =
    let labels = all_labels s rules copies in
    record {
      each = all_of (IsAskedStep s.spec s.wanted.currents (variables s)) steps (λ t h.
          let at = at_of steps t h in
          let m = step_at s labels steps at.0 t are at.1 in
          let r : IsAskedStep s.spec s.wanted.currents (variables s) t = record {
            label = m.0;
            lits = m.2.lits;
            step = m.2.step;
            asked = asked s rules copies m.0 (contains_at labels at.0 m.0 m.1);
          } in r);
      all = λ l clause ax asks.
          let at = at_of labels l (listed s rules copies facts l clause ax asks) in
          let m = label_at s labels steps at.0 l are at.1 in
          let r : StandsOverOne steps l = record {
            lits = m.2.lits;
            is_in = contains_at steps at.0
                (step.Axiom l m.2.lits) (m.1 ∙ ap Some m.2.step.is_step);
          } in r;
      once = λ i j l lits other at_i at_j.
          once_all s rules copies facts.given_once (grounds_once s rules copies facts) (pairs_once s rules copies facts) i j l
          (label_of_step s labels steps i l lits are at_i) (label_of_step s labels steps j l other are at_j);
    }

pub are_axioms : (s : Subject) (rules : List (List (List RowId))) (copies : List (List CopiedPair))
    (steps : List Step) → Facts s rules copies
    → Adds s (all_labels s rules copies) [] steps → AreAxioms s.spec s.wanted.currents (variables s) steps
are_axioms s rules copies steps facts adds =
    whole s rules copies steps facts (subst (AreStepsOf s (all_labels s rules copies)) (sym adds.is_added) adds.are_steps)

pub all_added : (s : Subject) (rules : List (List (List RowId))) (copies : List (List CopiedPair))
    (a b c d e : List Step) → Adds s (given_labels s.spec) a b → Adds s (rule_labels rules) b c
    → Adds s (copy_labels s.spec copies) c d → Adds s (wanted_labels s) d e → Adds s (all_labels s rules copies) a e
unfolding all_labels
all_added s rules copies a b c d e one two three four =
    adds_both s (given_labels s.spec) (rule_labels rules ++ (copy_labels s.spec copies ++ wanted_labels s)) a b e one
    (adds_both s (rule_labels rules) (copy_labels s.spec copies ++ wanted_labels s) b c e two
    (adds_both s (copy_labels s.spec copies) (wanted_labels s) c d e three four))

pub all_put : (s : Subject) (rules : List (List (List RowId))) (copies : List (List CopiedPair)) (a b c d e : List Step)
    → OnlyOnce (given_labels s.spec) → Adds s (given_labels s.spec) a b → Adds s (rule_labels rules) b c
    → Adds s (copy_labels s.spec copies) c d → Adds s (wanted_labels s) d e → AddsAll s rules copies a e
all_put s rules copies a b c d e once one two three four = record {
  adds = all_added s rules copies a b c d e one two three four;
  given_once = once;
}

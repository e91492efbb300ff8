-- The axioms of given pairs, of three rows and of a row that stands last.
use Rattle.std.proofs.Common.{◌≡◌, ◌∙◌, ◌&&◌, true, false, List, [], ◌∷◌, Some, refl, sym, subst}
use Rattle.std.proofs.lemmas.Bool.{and_from, and_parts}
use Rattle.currency_base.specs.declared.ids.AttrId.{AttrId}
use Rattle.currency_base.specs.declared.ids.RelId.{RelId}
use Rattle.currency_base.specs.declared.ids.RowId.{RowId}
use Rattle.currency_base.specs.declared.pair.Pair.{Pair}
use Rattle.partial_orders.specs.Pairs.{has_pair}
use Rattle.partial_orders.proofs.PairOrder.{has_is_contained}
use Rattle.spec_model.specs.Spec.{Spec}
use Rattle.refutation_log.specs.declared.step.Label.TheVariants as label
use Rattle.log_axioms.specs.Axioms as judged
use Rattle.log_axioms.specs.Axioms.{is_attr, are_two, given_clause, transitive_clause, above_clause}
use Rattle.log_axioms.specs.declared.signed.Signed.{Signed}
use Rattle.order_literals.specs.Axioms.{IsAxiom}
use Rattle.order_literals.specs.Said.{Said, before, not_before, not_top}
use Rattle.axiom_agreement.proofs.Sayings.{IsJudged, HasAxiom, judged_of, order_agrees, top_agrees}
use Rattle.axiom_agreement.proofs.Tests.{attr_passes, passed_attr, two_pass, passed_two, given_passes, given_if, then_given, in_relation_at, in_relation_is}

-- ---- given pairs

pub given_made : (s : Spec) (rel : RelId) (attr : AttrId) (earlier later : RowId) (clause : List Said)
    → IsAxiom s (label.Given rel attr earlier later) clause
    → IsJudged s (label.Given rel attr earlier later) clause
given_made s rel attr earlier later clause x =
    let r = x.0 in
    let p : Pair = record { attr = attr; earlier = earlier; later = later } in
    let here : List Signed = judged.before rel attr earlier later ∷ [] in
    let made : IsJudged s (label.Given rel attr earlier later) (before rel attr earlier later ∷ []) = record {
      signed = here;
      is = in_relation_at s.relations rel r (given_clause rel attr earlier later) x.1
          ∙ then_given (has_pair r.given p) (Some here) (given_passes r.given p x.2.0);
      agree = (order_agrees s.relations rel attr earlier later false, tt);
    } in
    subst (IsJudged s (label.Given rel attr earlier later)) (sym x.2.1) made

pub given_has : (s : Spec) (rel : RelId) (attr : AttrId) (earlier later : RowId) (clause : List Signed) → judged_of s
    (label.Given rel attr earlier later) ≡ Some clause
    → HasAxiom s (label.Given rel attr earlier later)
given_has s rel attr earlier later clause e =
    let p : Pair = record { attr = attr; earlier = earlier; later = later } in
    let r = in_relation_is s.relations rel (given_clause rel attr earlier later) clause e in
    let parts = given_if (has_pair r.0.given p) (Some (judged.before rel attr earlier later ∷ [])) clause r.2 in
    (before rel attr earlier later ∷ [], (r.0, r.1, (has_is_contained r.0.given p parts.0, refl)))

-- ---- three rows

pub transitive_made : (s : Spec) (rel : RelId) (attr : AttrId) (a b c : RowId) (clause : List Said)
    → IsAxiom s (label.Transitive rel attr a b c) clause
    → IsJudged s (label.Transitive rel attr a b c) clause
transitive_made s rel attr a b c clause x =
    let r = x.0 in
    let here : List Signed = judged.not_before rel attr a b ∷ judged.not_before rel attr b c ∷ judged.before rel attr a c ∷ [] in
    let first = is_attr r attr && are_two r.rows a b in
    let passes =
    and_from (first && are_two r.rows b c) (are_two r.rows a c)
    (and_from first (are_two r.rows b c)
    (and_from (is_attr r attr) (are_two r.rows a b) (attr_passes r attr x.2.0) (two_pass r.rows a b x.2.1))
    (two_pass r.rows b c x.2.2))
    (two_pass r.rows a c x.2.3) in
    let made : IsJudged s (label.Transitive rel attr a b c) (not_before rel attr a b ∷ not_before rel attr b c
    ∷ before rel attr a c ∷ []) = record {
      signed = here;
      is = in_relation_at s.relations rel r (transitive_clause rel attr a b c) x.1
          ∙ then_given (first && are_two r.rows b c && are_two r.rows a c) (Some here) passes;
      agree = (
        order_agrees s.relations rel attr a b true,
        (
          order_agrees s.relations rel attr b c true,
          (order_agrees s.relations rel attr a c false, tt),
        ),
      );
    } in
    subst (IsJudged s (label.Transitive rel attr a b c)) (sym x.2.4) made

pub transitive_has : (s : Spec) (rel : RelId) (attr : AttrId) (a b c : RowId) (clause : List Signed) → judged_of s
    (label.Transitive rel attr a b c) ≡ Some clause
    → HasAxiom s (label.Transitive rel attr a b c)
transitive_has s rel attr a b c clause e =
    let found = in_relation_is s.relations rel (transitive_clause rel attr a b c) clause e in
    let r = found.0 in
    let first = is_attr r attr && are_two r.rows a b in
    let here : List Signed = judged.not_before rel attr a b ∷ judged.not_before rel attr b c ∷ judged.before rel attr a c ∷ [] in
    let parts = given_if (first && are_two r.rows b c && are_two r.rows a c) (Some here) clause found.2 in
    let outer = and_parts (first && are_two r.rows b c) (are_two r.rows a c) parts.0 in
    let middle = and_parts first (are_two r.rows b c) outer.0 in
    let inner = and_parts (is_attr r attr) (are_two r.rows a b) middle.0 in (
      not_before rel attr a b ∷ not_before rel attr b c ∷ before rel attr a c ∷ [],
      (
        r,
        found.1,
        (
          passed_attr r attr inner.0,
          passed_two r.rows a b inner.1,
          passed_two r.rows b c middle.1,
          passed_two r.rows a c outer.1,
          refl,
        ),
      ),
    )

-- ---- a row that stands last

pub above_made : (s : Spec) (rel : RelId) (attr : AttrId) (row other : RowId) (clause : List Said)
    → IsAxiom s (label.Above rel attr row other) clause
    → IsJudged s (label.Above rel attr row other) clause
above_made s rel attr row other clause x =
    let r = x.0 in
    let here : List Signed = judged.not_top rel attr row ∷ judged.before rel attr other row ∷ [] in
    let made : IsJudged s (label.Above rel attr row other) (not_top rel attr row ∷ before rel attr other row ∷ []) = record {
      signed = here;
      is = in_relation_at s.relations rel r (above_clause rel attr row other) x.1
          ∙ then_given (is_attr r attr && are_two r.rows row other) (Some here)
          (and_from (is_attr r attr) (are_two r.rows row other) (attr_passes r attr x.2.0) (two_pass r.rows row other x.2.1));
      agree = (top_agrees s.relations rel attr row true, (order_agrees s.relations rel attr other row false, tt));
    } in
    subst (IsJudged s (label.Above rel attr row other)) (sym x.2.2) made

pub above_has : (s : Spec) (rel : RelId) (attr : AttrId) (row other : RowId) (clause : List Signed) → judged_of s
    (label.Above rel attr row other) ≡ Some clause
    → HasAxiom s (label.Above rel attr row other)
above_has s rel attr row other clause e =
    let found = in_relation_is s.relations rel (above_clause rel attr row other) clause e in
    let r = found.0 in
    let here : List Signed = judged.not_top rel attr row ∷ judged.before rel attr other row ∷ [] in
    let parts = given_if (is_attr r attr && are_two r.rows row other) (Some here) clause found.2 in
    let both = and_parts (is_attr r attr) (are_two r.rows row other) parts.0 in (
      not_top rel attr row ∷ before rel attr other row ∷ [],
      (r, found.1, (passed_attr r attr both.0, passed_two r.rows row other both.1, refl)),
    )

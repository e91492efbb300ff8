-- A question of the whole that speaks of a part's rows is one of the part.
use Rattle.std.proofs.Common.{◌≡◌, ◌<◌, ◌+◌, ◌∙◌, ℕ, List, ◌∷◌, All, Some, map, length, get_or, slice_get, sym, ap, subst, arith}
use Rattle.std.proofs.lemmas.List.Elements.{All-weaker}
use Rattle.std.proofs.lemmas.Option.{same_Some, slice_get-get_or, slice_get_within}
use Rattle.currency_base.specs.declared.ids.AttrId.{AttrId}
use Rattle.currency_base.specs.declared.ids.EntId.{EntId}
use Rattle.currency_base.specs.declared.ids.RelId.{RelId}
use Rattle.currency_base.specs.declared.ids.RowId.{RowId}
use Rattle.currency_base.specs.declared.pair.Pair.{Pair}
use Rattle.currency_base.specs.declared.value.ValueKind.{ValueKind}
use Rattle.currency_base.specs.declared.value.ValueKind.TheVariants.{Text}
use Rattle.partial_orders.specs.Pairs.{entity_of}
use Rattle.query_model.specs.declared.query.Atom.{Atom}
use Rattle.query_model.specs.declared.query.Disjunct.{Disjunct}
use Rattle.query_model.specs.declared.query.Query.{Query}
use Rattle.spec_model.specs.Facts.{IsGivenPair}
use Rattle.spec_model.specs.Queries.{IsTermOn, IsAtomOn, IsDisjunctOn, IsQueryOn}
use Rattle.spec_model.specs.Questions.{IsAskedPair, IsQuestionOn}
use Rattle.spec_model.specs.Spec.{Spec}
use Rattle.spec_model.specs.declared.question.Asked.{Asked}
use Rattle.spec_model.specs.declared.question.Question.{Question}
use Rattle.spec_model.specs.declared.question.Question.TheVariants as asked
use Rattle.spec_model.specs.declared.relation.Attr.{Attr}
use Rattle.spec_model.specs.declared.relation.Relation.{Relation}
use Rattle.part_laws.specs.Parts.{Scope, Places, rows_in, entities_in, EntitiesAscend, IsPairPart, IsRelationPart, IsPartOf}
use Rattle.part_laws.proofs.Rows.{all_at, there, entity_of_row, one_entity}
use Rattle.unit_questions.specs.Facts.{IsOfFact}
use Rattle.part_facts.specs.Laws.{PartsAreAsked}
use Rattle.part_facts.specs.Questions.{IsAskedPart, AreAskedParts, IsPartQuestion}

-- ---- pairs

-- two rows of a part that are of one entity of the whole are of one of the part
together : (r new : Relation) (rows : List RowId) (entities : List EntId) (x y old_x old_y : RowId) → EntitiesAscend entities
    → IsRelationPart r rows entities new → slice_get rows x.0 ≡ Some old_x → slice_get rows y.0 ≡ Some old_y
    → x.0 < length new.rows → y.0 < length new.rows → entity_of r.rows old_x.0 ≡ entity_of r.rows old_y.0
    → entity_of new.rows x.0 ≡ entity_of new.rows y.0
together r new rows entities x y old_x old_y ascend part at_x at_y below_x below_y same =
    let a = there new.rows x.0 below_x in
    let b = there new.rows y.0 below_y in
    let of_a = part.each_row x.0 old_x a.0 at_x a.1 in
    let of_b = part.each_row y.0 old_y b.0 at_y b.1 in
    let number : of_a.old.entity.0 ≡ of_b.old.entity.0 =
    same_Some of_a.old.entity.0 of_b.old.entity.0
    (sym (entity_of_row r.rows old_x.0 of_a.old of_a.is_old) ∙ same ∙ entity_of_row r.rows old_y.0 of_b.old of_b.is_old) in
    let entity : of_a.old.entity ≡ of_b.old.entity = ap (λ (n : ℕ). let e : EntId = record { 0 = n } in e) number in
    let one : a.0.entity.0 ≡ b.0.entity.0 =
    one_entity entities a.0.entity.0 b.0.entity.0 of_b.old.entity ascend (of_a.entity ∙ ap Some entity) of_b.entity in
    entity_of_row new.rows x.0 a.0 a.1 ∙ ap Some one ∙ sym (entity_of_row new.rows y.0 b.0 b.1)

pair_given : (r new : Relation) (rows : List RowId) (entities : List EntId) (q old : Pair) → EntitiesAscend entities
    → IsRelationPart r rows entities new → IsPairPart rows q old → IsGivenPair r old → IsGivenPair new q
pair_given r new rows entities q old ascend part is given =
    let attrs : length new.attrs ≡ length r.attrs = ap (λ (l : List Attr). length l) part.attrs in
    let attr : q.attr.0 ≡ old.attr.0 = ap (λ (a : AttrId). a.0) is.attr in
    let first = slice_get_within rows q.earlier.0 old.earlier is.earlier in
    let second = slice_get_within rows q.later.0 old.later is.later in
    let earlier : q.earlier.0 < length new.rows = omega (arith, first, part.per_row) in
    let later : q.later.0 < length new.rows = omega (arith, second, part.per_row) in
    record {
      attr = omega (arith, attr, attrs, given.attr);
      earlier = earlier;
      later = later;
      one_entity = (
        λ e. given.one_entity.0
            (same_Some old.earlier old.later (sym is.earlier ∙ (ap (λ (x : RowId). slice_get rows x.0) e ∙ is.later))),
        together r new rows entities q.earlier q.later old.earlier old.later ascend part is.earlier is.later earlier later
            given.one_entity.1,
      );
    }

-- ---- questions

module _ (s : Spec) (scope : Scope) (n : Places) (part : Spec) (of : IsPartOf s scope n part) where
  part_at : (rel : ℕ) (r : Relation) → slice_get s.relations rel ≡ Some r
      → (new : Relation) × (slice_get part.relations rel ≡ Some new)
  part_at rel r at =
      let below = slice_get_within s.relations rel r at in
      let many = of.per_relation in
      there part.relations rel (omega (arith, below, many))

  pair_asked : (new old : Asked) → IsAskedPart n new old → IsAskedPair s.relations old → IsAskedPair part.relations new
  pair_asked new old is can =
      let found = part_at old.rel.0 can.relation can.is_relation in
      record {
        relation = found.0;
        is_relation = subst (λ (rel : RelId). slice_get part.relations rel.0 ≡ Some found.0) (sym is.rel) found.1;
        pair = pair_given can.relation found.0 (rows_in n old.rel.0) (entities_in n old.rel.0) new.pair old.pair
            (of.places.entities_ascend old.rel.0) (of.relations old.rel.0 can.relation found.0 can.is_relation found.1) is.pair
            can.pair;
      }

  pairs_asked : (new old : List Asked) → AreAskedParts n new old → All (IsAskedPair s.relations) old
      → All (IsAskedPair part.relations) new
  pairs_asked new old are can k d inside =
      let q = get_or new k d in
      let at = slice_get-get_or new k d inside in
      let one = there old k (omega (arith, inside, are.as_many)) in
      pair_asked q one.0 (are.each k q one.0 at one.1) (all_at (IsAskedPair s.relations) old k one.0 can one.1)

  atom_on : (kinds : List ValueKind) (atom : Atom) → IsAtomOn s.relations kinds atom → IsAtomOn part.relations kinds atom
  atom_on kinds atom is =
      let rel = atom.relation.0 in
      let found = part_at rel is.relation is.is_relation in
      let attrs : is.relation.attrs ≡ found.0.attrs =
      sym (of.relations rel is.relation found.0 is.is_relation found.1).attrs in
      record {
        relation = found.0;
        is_relation = found.1;
        as_many = is.as_many ∙ ap (λ (l : List Attr). length l + 1) attrs;
        terms = λ k t at.
            subst (λ (l : List Attr). IsTermOn kinds (slice_get (Text ∷ map (λ (a : Attr). a.kind) l) k) t) attrs
            (is.terms k t at);
      }

  disjunct_on : (heads : List ValueKind) (d : Disjunct) → IsDisjunctOn s.relations heads d → IsDisjunctOn part.relations heads d
  disjunct_on heads d is = record {
    few_atoms = is.few_atoms;
    few_tests = is.few_tests;
    few_vars = is.few_vars;
    kinds = is.kinds;
    per_var = is.per_var;
    atoms = All-weaker (IsAtomOn s.relations is.kinds) (IsAtomOn part.relations is.kinds) (atom_on is.kinds) d.atoms is.atoms;
    tests = is.tests;
    head = is.head;
  }

  query_on : (query : Query) → IsQueryOn s.relations query → IsQueryOn part.relations query
  query_on query is = record {
    is_query = is.is_query;
    few = is.few;
    heads = is.heads;
    disjuncts = All-weaker (IsDisjunctOn s.relations is.heads) (IsDisjunctOn part.relations is.heads) (disjunct_on is.heads)
        query.disjuncts is.disjuncts;
  }

  question_on : (new q : Question) → IsPartQuestion n new q → IsQuestionOn s.relations q → IsQuestionOn part.relations new
  question_on asked.Consistent asked.Consistent is_part on = on
  question_on (asked.Certain new) (asked.Certain old) is_part on = pairs_asked new old is_part on
  question_on (asked.Answers new) (asked.Answers old) is_part on =
      query_on new (subst (IsQueryOn s.relations) (sym is_part) on)
  question_on new q is_part on = absurd is_part

  of_fact : (new q : Question) → IsPartQuestion n new q → IsOfFact q → IsOfFact new
  of_fact asked.Consistent asked.Consistent is_part is = is
  of_fact (asked.Certain new) (asked.Certain old) is_part is = is
  of_fact (asked.Answers new) (asked.Answers old) is_part is =
      subst (λ (query : Query). IsOfFact (asked.Answers query)) (sym is_part) is
  of_fact new q is_part is = absurd is_part

pub parts_are_asked : PartsAreAsked
parts_are_asked s scope n part new q whole_is of fact is_part = record {
  on = question_on s scope n part of new q is_part fact.on;
  of_fact = of_fact s scope n part of new q is_part fact.of_fact;
}

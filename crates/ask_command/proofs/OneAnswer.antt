-- Of two right verdicts on a question, both are an answer of no, or neither is.
use Rattle.std.proofs.Common.{◌≡◌, ◌∙◌, ◌<◌, Bool, true, false, List, length, refl, sym, ap, subst}
use Rattle.std.proofs.Common.{All, Contains, None, Some, slice_get}
use Rattle.std.proofs.lemmas.Bool.{false≢true}
use Rattle.std.proofs.lemmas.List.Elements.{All-contains}
use Rattle.std.proofs.lemmas.Option.{same_Some}
use Rattle.ask_command.specs.Forms.{is_no}
use Rattle.current_tuples.specs.Places.{IsPlaceOf}
use Rattle.currency_base.specs.declared.ids.AttrId.{AttrId}
use Rattle.currency_base.specs.declared.ids.EntId.{EntId}
use Rattle.currency_base.specs.declared.ids.RelId.{RelId}
use Rattle.report_model.specs.Verdicts.{kind_of}
use Rattle.report_model.specs.declared.verdict.Current.{Current}
use Rattle.report_model.specs.declared.verdict.Verdict.{Verdict}
use Rattle.report_model.specs.declared.verdict.Verdict.TheVariants as verdict
use Rattle.report_verify.proofs.Differing.{no_value}
use Rattle.report_verify.specs.Asked.{AreItemsOf}
use Rattle.report_verify.specs.Right.{DifferInSome, EachConsistent, FailsInSome, IsCurrentIn, IsRight, PairHolds}
use Rattle.query_model.specs.declared.query.Query.{Query}
use Rattle.spec_model.specs.Completion.{Rankings}
use Rattle.spec_model.specs.Consistent.{IsConsistent, IsSatisfiable}
use Rattle.spec_model.specs.Current.{current_value}
use Rattle.spec_model.specs.Spec.{Spec}
use Rattle.spec_model.specs.declared.question.Asked.{Asked}
use Rattle.spec_model.specs.declared.question.Question.{Question}
use Rattle.spec_model.specs.declared.question.Question.TheVariants as asked
use Rattle.spec_model.specs.declared.relation.Relation.{Relation}

-- ---- an answer of yes and one of no exclude each other

certain_apart : (s : Spec) (pairs : List Asked) (p : Asked) → All (λ p. EachConsistent s (PairHolds p)) pairs
    → Contains pairs p → FailsInSome s p → ⊥
certain_apart s pairs p all asked fails =
    fails.fails (All-contains (λ p. EachConsistent s (PairHolds p)) pairs p all asked fails.rankings fails.consistent)

-- current values at a place where two completions differ
module _ (s : Spec) (rels : List RelId) (items : List Current) (rel : RelId) (attr : AttrId) (ent : EntId) where
  -- the value of an item is that of each consistent completion
  value_in : All (λ item. EachConsistent s (IsCurrentIn s.relations item)) items → (r : Relation)
      → slice_get s.relations rel.0 ≡ Some r → attr.0 < length r.attrs
      → (item : Current) → Contains items item → item.rel ≡ rel → item.ent ≡ ent
      → (c : Rankings) → IsConsistent s c → slice_get item.values attr.0 ≡ current_value c rel.0 r.rows attr.0 ent.0
  value_in current r is within item listed of_rel of_ent c consistent =
      let i = All-contains (λ item. EachConsistent s (IsCurrentIn s.relations item)) items item current listed c consistent in
      let same : i.relation ≡ r = same_Some i.relation r
      (sym i.is_relation ∙ ap (λ (k : RelId). slice_get s.relations k.0) of_rel ∙ is) in
      i.current attr.0 (subst (λ (x : Relation). attr.0 < length x.attrs) (sym same) within)
      ∙ ap (λ (k : RelId). current_value c k.0 i.relation.rows attr.0 item.ent.0) of_rel
      ∙ ap (λ (x : Relation). current_value c rel.0 x.rows attr.0 item.ent.0) same
      ∙ ap (λ (e : EntId). current_value c rel.0 r.rows attr.0 e.0) of_ent

  same_apart : AreItemsOf s.relations rels items → All (λ item. EachConsistent s (IsCurrentIn s.relations item)) items
      → Contains rels rel → DifferInSome s rel attr ent → ⊥
  same_apart are current asked d =
      d.differ.differ
      (no_value s.relations rel attr ent d.one r d.one_consistent.completion.shape d.differ.is_relation at_place
      ∙ sym (no_value s.relations rel attr ent d.other r d.other_consistent.completion.shape d.differ.is_relation at_place))
    where
      r : Relation
      r = d.differ.relation

      at_place : IsPlaceOf s.relations rel.0 attr.0 ent.0 → ⊥
      at_place place =
          let same : place.relation ≡ r = same_Some place.relation r (sym place.is_relation ∙ d.differ.is_relation) in
          let found = are.all rel ent record {
            asked = asked;
            relation = place.relation;
            is_relation = place.is_relation;
            within = place.ent_within;
          } in
          let within = subst (λ (x : Relation). attr.0 < length x.attrs) same place.attr_within in
          let value = value_in current r d.differ.is_relation within found.0 found.1 found.2 found.3 in
          d.differ.differ (sym (value d.one d.one_consistent) ∙ value d.other d.other_consistent)

-- ---- an answer of yes asks for a consistent completion

satisfied : (s : Spec) (q : Question) (v : Verdict) → IsRight s q v → is_no (kind_of v) ≡ false → IsSatisfiable s
satisfied s asked.Consistent verdict.Inconsistent h e = absurd (false≢true (sym e))
satisfied s asked.Consistent verdict.Consistent h e = h
satisfied s asked.Consistent verdict.Certain h e = absurd h
satisfied s asked.Consistent (verdict.NotCertain p) h e = absurd (false≢true (sym e))
satisfied s asked.Consistent (verdict.Same items) h e = absurd h
satisfied s asked.Consistent (verdict.NotSame rel attr ent) h e = absurd (false≢true (sym e))
satisfied s asked.Consistent (verdict.Answers tuples) h e = absurd h
satisfied s asked.Consistent (verdict.Undecided counted) h e = absurd h
satisfied s (asked.Certain pairs) verdict.Inconsistent h e = absurd (false≢true (sym e))
satisfied s (asked.Certain pairs) verdict.Consistent h e = absurd h
satisfied s (asked.Certain pairs) verdict.Certain h e = h.0
satisfied s (asked.Certain pairs) (verdict.NotCertain p) h e = absurd (false≢true (sym e))
satisfied s (asked.Certain pairs) (verdict.Same items) h e = absurd h
satisfied s (asked.Certain pairs) (verdict.NotSame rel attr ent) h e = absurd (false≢true (sym e))
satisfied s (asked.Certain pairs) (verdict.Answers tuples) h e = absurd h
satisfied s (asked.Certain pairs) (verdict.Undecided counted) h e = absurd h
satisfied s (asked.Same rels) verdict.Inconsistent h e = absurd (false≢true (sym e))
satisfied s (asked.Same rels) verdict.Consistent h e = absurd h
satisfied s (asked.Same rels) verdict.Certain h e = absurd h
satisfied s (asked.Same rels) (verdict.NotCertain p) h e = absurd (false≢true (sym e))
satisfied s (asked.Same rels) (verdict.Same items) h e = h.0
satisfied s (asked.Same rels) (verdict.NotSame rel attr ent) h e = absurd (false≢true (sym e))
satisfied s (asked.Same rels) (verdict.Answers tuples) h e = absurd h
satisfied s (asked.Same rels) (verdict.Undecided counted) h e = absurd h
satisfied s (asked.Answers query) verdict.Inconsistent h e = absurd (false≢true (sym e))
satisfied s (asked.Answers query) verdict.Consistent h e = absurd h
satisfied s (asked.Answers query) verdict.Certain h e = absurd h
satisfied s (asked.Answers query) (verdict.NotCertain p) h e = absurd (false≢true (sym e))
satisfied s (asked.Answers query) (verdict.Same items) h e = absurd h
satisfied s (asked.Answers query) (verdict.NotSame rel attr ent) h e = absurd (false≢true (sym e))
satisfied s (asked.Answers query) (verdict.Answers tuples) h e = h.0
satisfied s (asked.Answers query) (verdict.Undecided counted) h e = absurd h

-- ---- a pair that fails, and values that differ, are no answers where another one is right

failing_apart : (s : Spec) (q : Question) (v : Verdict) (p : Asked) → IsRight s q v → is_no (kind_of v) ≡ false
    → IsRight s q (verdict.NotCertain p) → ⊥
failing_apart s asked.Consistent v p h e k = k
failing_apart s (asked.Same rels) v p h e k = k
failing_apart s (asked.Answers query) v p h e k = k
failing_apart s (asked.Certain pairs) verdict.Inconsistent p h e k = false≢true (sym e)
failing_apart s (asked.Certain pairs) verdict.Consistent p h e k = h
failing_apart s (asked.Certain pairs) verdict.Certain p h e k = certain_apart s pairs p h.1 k.0 k.1
failing_apart s (asked.Certain pairs) (verdict.NotCertain other) p h e k = false≢true (sym e)
failing_apart s (asked.Certain pairs) (verdict.Same items) p h e k = h
failing_apart s (asked.Certain pairs) (verdict.NotSame rel attr ent) p h e k = false≢true (sym e)
failing_apart s (asked.Certain pairs) (verdict.Answers tuples) p h e k = h
failing_apart s (asked.Certain pairs) (verdict.Undecided counted) p h e k = h

differing_apart : (s : Spec) (q : Question) (v : Verdict) (rel : RelId) (attr : AttrId) (ent : EntId) → IsRight s q v
    → is_no (kind_of v) ≡ false → IsRight s q (verdict.NotSame rel attr ent) → ⊥
differing_apart s asked.Consistent v rel attr ent h e k = k
differing_apart s (asked.Certain pairs) v rel attr ent h e k = k
differing_apart s (asked.Answers query) v rel attr ent h e k = k
differing_apart s (asked.Same rels) verdict.Inconsistent rel attr ent h e k = false≢true (sym e)
differing_apart s (asked.Same rels) verdict.Consistent rel attr ent h e k = h
differing_apart s (asked.Same rels) verdict.Certain rel attr ent h e k = h
differing_apart s (asked.Same rels) (verdict.NotCertain p) rel attr ent h e k = false≢true (sym e)
differing_apart s (asked.Same rels) (verdict.Same items) rel attr ent h e k = same_apart s rels items rel attr ent h.1 h.2 k.0 k.1
differing_apart s (asked.Same rels) (verdict.NotSame r a n) rel attr ent h e k = false≢true (sym e)
differing_apart s (asked.Same rels) (verdict.Answers tuples) rel attr ent h e k = h
differing_apart s (asked.Same rels) (verdict.Undecided counted) rel attr ent h e k = h

yes_and_no : (s : Spec) (q : Question) (v w : Verdict) → IsRight s q v → is_no (kind_of v) ≡ false → IsRight s q w
    → is_no (kind_of w) ≡ true → ⊥
yes_and_no s q v verdict.Inconsistent h e k f = k (satisfied s q v h e)
yes_and_no s q v (verdict.NotCertain p) h e k f = failing_apart s q v p h e k
yes_and_no s q v (verdict.NotSame rel attr ent) h e k f = differing_apart s q v rel attr ent h e k
yes_and_no s q v verdict.Consistent h e k f = false≢true f
yes_and_no s q v verdict.Certain h e k f = false≢true f
yes_and_no s q v (verdict.Same items) h e k f = false≢true f
yes_and_no s q v (verdict.Answers tuples) h e k f = false≢true f
yes_and_no s q v (verdict.Undecided counted) h e k f = false≢true f

-- two right verdicts say no both, or neither does
pub one_no : (s : Spec) (q : Question) (v w : Verdict) → IsRight s q v → IsRight s q w
    → is_no (kind_of v) ≡ is_no (kind_of w)
one_no s q v w h k = by (is_no (kind_of v)) (is_no (kind_of w)) refl refl
  where
    by : (a b : Bool) → is_no (kind_of v) ≡ a → is_no (kind_of w) ≡ b → a ≡ b
    by true true e f = refl
    by false false e f = refl
    by true false e f = absurd (yes_and_no s q w v k f h e)
    by false true e f = absurd (yes_and_no s q v w h e k f)

-- ---- a query with too many answers is answered with no no

-- where a consistent completion exists, a right answer of no to a query is none
pub no_query_denied : (s : Spec) (q : Query) (v : Verdict) → IsSatisfiable s → IsRight s (asked.Answers q) v
    → is_no (kind_of v) ≡ true → ⊥
no_query_denied s q verdict.Inconsistent some h e = h some
no_query_denied s q (verdict.NotCertain p) some h e = h
no_query_denied s q (verdict.NotSame rel attr ent) some h e = h
no_query_denied s q verdict.Consistent some h e = h
no_query_denied s q verdict.Certain some h e = h
no_query_denied s q (verdict.Same items) some h e = h
no_query_denied s q (verdict.Answers tuples) some h e = false≢true e
no_query_denied s q (verdict.Undecided counted) some h e = h

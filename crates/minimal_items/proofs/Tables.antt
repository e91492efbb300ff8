-- What a question and its fact say of relations says nothing of given pairs.
use Rattle.std.proofs.Common.{◌≡◌, ◌∙◌, ◌+◌, ◌<◌, ℕ, zero, suc, List, [], ◌∷◌, Option, Some, None, option_map, length, slice_get, slice_index_or, refl, sym, ap, subst, arith}
use Rattle.std.proofs.lemmas.List.Elements.{All-weaker}
use Rattle.std.proofs.lemmas.Option.{none-some, same_Some}
use Rattle.currency_base.specs.declared.ids.RelId.{RelId}
use Rattle.currency_base.specs.declared.pair.Pair.{Pair}
use Rattle.currency_base.specs.declared.value.ValueKind.{ValueKind}
use Rattle.currency_base.specs.declared.value.Value.{Value}
use Rattle.query_model.specs.declared.query.Atom.{Atom}
use Rattle.query_model.specs.declared.query.Disjunct.{Disjunct}
use Rattle.query_model.specs.declared.query.Query.{Query}
use Rattle.spec_items.specs.Kept.{Keeps, kept_pairs, kept_relations}
use Rattle.spec_model.specs.Completion.{Rankings}
use Rattle.spec_model.specs.Current.{AreCurrentTuples, IsCurrentInstance, IsCurrentTuple}
use Rattle.spec_model.specs.Queries.{IsAtomOn, IsDisjunctOn, IsQueryOn}
use Rattle.spec_model.specs.Questions.{AreAskedRelations, IsAskedPair, IsQuestionOn}
use Rattle.spec_model.specs.declared.question.Asked.{Asked}
use Rattle.spec_model.specs.declared.question.Question.{Question}
use Rattle.spec_model.specs.declared.question.Question.TheVariants as asked
use Rattle.spec_model.specs.declared.relation.Relation.{Relation}
use Rattle.unit_questions.specs.Facts.{FactHolds, IsFactQuestion}

-- ---- relations with some of their given pairs

abbrev kept_relation : Keeps → ℕ → Relation → Relation
kept_relation keeps rel r = record r { given = kept_pairs keeps rel r.given }

relation_from : (keeps : Keeps) (first : ℕ) (rs : List Relation) (rel : ℕ)
    → slice_get (kept_relations keeps first rs) rel ≡ option_map (kept_relation keeps (first + rel)) (slice_get rs rel)
relation_from keeps first [] rel = refl
relation_from keeps first (r ∷ rs) zero =
    let same : first ≡ first + 0 = omega arith in ap (λ n. Some (kept_relation keeps n r)) same
relation_from keeps first (r ∷ rs) (suc rel) =
    let same : suc first + rel ≡ first + suc rel = omega arith in
    relation_from keeps (suc first) rs rel ∙ ap (λ n. option_map (kept_relation keeps n) (slice_get rs rel)) same

of_option : {A B : Type 0} (f : A → B) (o : Option A) (y : B) → option_map f o ≡ Some y → (x : A) × (o ≡ Some x) × (f x ≡ y)
of_option f None y e = absurd (none-some y e)
of_option f (Some x) y e = (x, refl, same_Some (f x) y e)

-- the relation that one is kept of
whole_relation : (keeps : Keeps) (rs : List Relation) (rel : ℕ) (r : Relation)
    → slice_get (kept_relations keeps 0 rs) rel ≡ Some r
    → (whole : Relation) × (slice_get rs rel ≡ Some whole) × (kept_relation keeps (0 + rel) whole ≡ r)
whole_relation keeps rs rel r at =
    of_option (kept_relation keeps (0 + rel)) (slice_get rs rel) r (sym (relation_from keeps 0 rs rel) ∙ at)

relation_kept : (keeps : Keeps) (rs : List Relation) (rel : ℕ) (whole : Relation) → slice_get rs rel ≡ Some whole
    → slice_get (kept_relations keeps 0 rs) rel ≡ Some (kept_relation keeps (0 + rel) whole)
relation_kept keeps rs rel whole at =
    relation_from keeps 0 rs rel ∙ ap (option_map (kept_relation keeps (0 + rel))) at

as_many : (keeps : Keeps) (first : ℕ) (rs : List Relation) → length (kept_relations keeps first rs) ≡ length rs
as_many keeps first [] = refl
as_many keeps first (r ∷ rs) = let more = as_many keeps (suc first) rs in omega (arith, more)

-- ---- questions

module _ (keeps : Keeps) (rs : List Relation) where
  asked_pair : (p : Asked) → IsAskedPair rs p → IsAskedPair (kept_relations keeps 0 rs) p
  asked_pair p is = record {
    relation = kept_relation keeps (0 + p.rel.0) is.relation;
    is_relation = relation_kept keeps rs p.rel.0 is.relation is.is_relation;
    pair = record {
      attr = is.pair.attr;
      earlier = is.pair.earlier;
      later = is.pair.later;
      one_entity = is.pair.one_entity;
    };
  }

  asked_relations : (rels : List RelId) → AreAskedRelations rs rels → AreAskedRelations (kept_relations keeps 0 rs) rels
  asked_relations rels are = record {
    there = All-weaker (λ rel. rel.0 < length rs) (λ rel. rel.0 < length (kept_relations keeps 0 rs))
        (λ rel below. let many = as_many keeps 0 rs in omega (arith, many, below)) rels are.there;
    once = are.once;
  }

  atom_on : (kinds : List ValueKind) (atom : Atom) → IsAtomOn rs kinds atom → IsAtomOn (kept_relations keeps 0 rs) kinds atom
  atom_on kinds atom is = record {
    relation = kept_relation keeps (0 + atom.relation.0) is.relation;
    is_relation = relation_kept keeps rs atom.relation.0 is.relation is.is_relation;
    as_many = is.as_many;
    terms = is.terms;
  }

  disjunct_on : (heads : List ValueKind) (d : Disjunct) → IsDisjunctOn rs heads d
      → IsDisjunctOn (kept_relations keeps 0 rs) heads d
  disjunct_on heads d is = record {
    few_atoms = is.few_atoms;
    few_tests = is.few_tests;
    few_vars = is.few_vars;
    kinds = is.kinds;
    per_var = is.per_var;
    atoms = All-weaker (IsAtomOn rs is.kinds) (IsAtomOn (kept_relations keeps 0 rs) is.kinds) (atom_on is.kinds) d.atoms is.atoms;
    tests = is.tests;
    head = is.head;
  }

  query_on : (query : Query) → IsQueryOn rs query → IsQueryOn (kept_relations keeps 0 rs) query
  query_on query is = record {
    is_query = is.is_query;
    few = is.few;
    heads = is.heads;
    disjuncts = All-weaker (IsDisjunctOn rs is.heads) (IsDisjunctOn (kept_relations keeps 0 rs) is.heads) (disjunct_on is.heads)
        query.disjuncts is.disjuncts;
  }

  question_on : (q : Question) → IsQuestionOn rs q → IsQuestionOn (kept_relations keeps 0 rs) q
  question_on asked.Consistent is = is
  question_on (asked.Certain pairs) is =
      All-weaker (IsAskedPair rs) (IsAskedPair (kept_relations keeps 0 rs)) asked_pair pairs is
  question_on (asked.Same rels) is = asked_relations rels is
  question_on (asked.Answers query) is = query_on query is

  pub fact_question : (q : Question) → IsFactQuestion rs q → IsFactQuestion (kept_relations keeps 0 rs) q
  fact_question q is = record { on = question_on q is.on; of_fact = is.of_fact }

-- ---- current tuples

tuple_kept : (c : Rankings) (rel : ℕ) (r : Relation) (given : List Pair) (ent : ℕ) (tuple : List Value)
    → IsCurrentTuple c rel r ent tuple → IsCurrentTuple c rel (record r { given = given }) ent tuple
tuple_kept c rel r given ent tuple is = record {
  name = is.name;
  values = is.values;
  is_name = is.is_name;
  tuple_is = is.tuple_is;
  per_attr = is.per_attr;
  current = is.current;
}

tuple_whole : (c : Rankings) (rel : ℕ) (r : Relation) (given : List Pair) (ent : ℕ) (tuple : List Value)
    → IsCurrentTuple c rel (record r { given = given }) ent tuple → IsCurrentTuple c rel r ent tuple
tuple_whole c rel r given ent tuple is = record {
  name = is.name;
  values = is.values;
  is_name = is.is_name;
  tuple_is = is.tuple_is;
  per_attr = is.per_attr;
  current = is.current;
}

tuples_kept : (c : Rankings) (rel : ℕ) (r : Relation) (given : List Pair) (tuples : List (List Value))
    → AreCurrentTuples c rel r tuples → AreCurrentTuples c rel (record r { given = given }) tuples
tuples_kept c rel r given tuples are = record {
  per_entity = are.per_entity;
  each = λ ent tuple at. tuple_kept c rel r given ent tuple (are.each ent tuple at);
}

tuples_whole : (c : Rankings) (rel : ℕ) (r : Relation) (given : List Pair) (tuples : List (List Value))
    → AreCurrentTuples c rel (record r { given = given }) tuples → AreCurrentTuples c rel r tuples
tuples_whole c rel r given tuples are = record {
  per_entity = are.per_entity;
  each = λ ent tuple at. tuple_whole c rel r given ent tuple (are.each ent tuple at);
}

-- ---- facts

module _ (keeps : Keeps) (rs : List Relation) (c : Rankings) where
  instance_kept : (instance : List (List (List Value))) → IsCurrentInstance rs c instance
      → IsCurrentInstance (kept_relations keeps 0 rs) c instance
  instance_kept instance is = record {
    per_relation = is.per_relation ∙ sym (as_many keeps 0 rs);
    each = λ rel r at.
        let of = whole_relation keeps rs rel r at in
        subst (λ (z : Relation). AreCurrentTuples c rel z (slice_index_or instance rel [])) of.2
        (tuples_kept c rel of.0 (kept_pairs keeps (0 + rel) of.0.given) (slice_index_or instance rel []) (is.each rel of.0 of.1));
  }

  instance_whole : (instance : List (List (List Value))) → IsCurrentInstance (kept_relations keeps 0 rs) c instance
      → IsCurrentInstance rs c instance
  instance_whole instance is = record {
    per_relation = is.per_relation ∙ as_many keeps 0 rs;
    each = λ rel r at.
        tuples_whole c rel r (kept_pairs keeps (0 + rel) r.given) (slice_index_or instance rel [])
        (is.each rel (kept_relation keeps (0 + rel) r) (relation_kept keeps rs rel r at));
  }

  pub fact_kept : (q : Question) → FactHolds rs q c → FactHolds (kept_relations keeps 0 rs) q c
  fact_kept asked.Consistent holds = holds
  fact_kept (asked.Certain pairs) holds = holds
  fact_kept (asked.Same rels) holds = holds
  fact_kept (asked.Answers query) holds = record {
    instance = holds.instance;
    is_current = instance_kept holds.instance holds.is_current;
    is_answer = holds.is_answer;
  }

  pub fact_whole : (q : Question) → FactHolds (kept_relations keeps 0 rs) q c → FactHolds rs q c
  fact_whole asked.Consistent holds = holds
  fact_whole (asked.Certain pairs) holds = holds
  fact_whole (asked.Same rels) holds = holds
  fact_whole (asked.Answers query) holds = record {
    instance = holds.instance;
    is_current = instance_whole holds.instance holds.is_current;
    is_answer = holds.is_answer;
  }

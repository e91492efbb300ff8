-- A fact that holds of a part's rows holds of the whole.
use Rattle.std.proofs.Common.{◌≡◌, ℕ, List, [], All, Contains, Some, get_or, slice_get, slice_index_or, subst, arith}
use Rattle.std.proofs.lemmas.List.Elements.{All-weaker}
use Rattle.std.proofs.lemmas.Option.{slice_get-get_or, slice_get_within}
use Rattle.answer_laws.specs.Answered.{IsAnswerIn}
use Rattle.answer_laws.proofs.Instances.{some_instance}
use Rattle.currency_base.specs.declared.ids.AttrId.{AttrId}
use Rattle.currency_base.specs.declared.ids.RelId.{RelId}
use Rattle.currency_base.specs.declared.value.Value.{Value}
use Rattle.query_model.specs.Answers.{AtomHolds, IsAnswer}
use Rattle.query_model.specs.declared.query.Atom.{Atom}
use Rattle.query_model.specs.declared.query.Query.{Query}
use Rattle.report_verify.specs.Right.{PairHolds}
use Rattle.spec_model.specs.Completion.{lists_of, IsCompletion, Before}
use Rattle.spec_model.specs.Questions.{IsAskedPair, IsQuestionOn}
use Rattle.spec_model.specs.declared.question.Asked.{Asked}
use Rattle.spec_model.specs.declared.question.Question.{Question}
use Rattle.spec_model.specs.declared.question.Question.TheVariants as asked
use Rattle.part_laws.proofs.Rows.{all_at, there}
use Rattle.part_laws.proofs.Cuts.{Parted, IsParted}
use Rattle.part_laws.proofs.FactsKept.{pairs_are_kept}
use Rattle.unit_questions.specs.Facts.{FactHolds}
use Rattle.part_facts.specs.Laws.{FactsWiden}
use Rattle.part_facts.specs.Questions.{IsAskedPart, AreAskedParts, IsPartQuestion}
use Rattle.part_facts.proofs.Tuples.{instance_wider}

-- ---- pairs

pair_wider : (p : Parted) → IsParted p → IsCompletion p.s.relations p.c → (new old : Asked) → IsAskedPart p.n new old
    → IsAskedPair p.s.relations old → PairHolds new p.narrow → PairHolds old p.c
pair_wider p is completion new old part can holds =
    let earlier = new.pair.earlier in
    let later = new.pair.later in
    let moved : Before (lists_of p.narrow old.rel.0 old.pair.attr.0) earlier later =
    subst (λ (attr : AttrId). Before (lists_of p.narrow old.rel.0 attr.0) earlier later) part.pair.attr
    (subst (λ (rel : RelId). Before (lists_of p.narrow rel.0 new.pair.attr.0) earlier later) part.rel holds) in
    (pairs_are_kept p.s p.scope p.n p.part p.c p.narrow is.whole_is is.of completion is.shape is.narrowed old.rel.0 can.relation
    can.is_relation old.pair.attr.0 can.pair.attr earlier later old.pair.earlier old.pair.later part.pair.earlier
    part.pair.later).0 moved

-- what holds at each place holds of all
all_of : {A : Type 0} (P : A → Type 0) (xs : List A) → ((k : ℕ) (x : A) → slice_get xs k ≡ Some x → P x) → All P xs
all_of P xs each k d below = each k (get_or xs k d) (slice_get-get_or xs k d below)

pairs_wider : (p : Parted) → IsParted p → IsCompletion p.s.relations p.c → (new old : List Asked) → AreAskedParts p.n new old
    → All (IsAskedPair p.s.relations) old → All (λ q. PairHolds q p.narrow) new → All (λ q. PairHolds q p.c) old
pairs_wider p is completion new old are can holds =
    all_of (λ q. PairHolds q p.c) old
    (λ k q at.
    let inside = slice_get_within old k q at in
    let one = there new k (omega (arith, inside, are.as_many)) in
    pair_wider p is completion one.0 q (are.each k one.0 q one.1 at) (all_at (IsAskedPair p.s.relations) old k q can at)
    (all_at (λ z. PairHolds z p.narrow) new k one.0 holds one.1))

-- ---- answers

-- an answer stays one where no tuple is missing
module _ (instance whole : List (List (List Value)))
    (has : (rel : ℕ) (tuple : List Value) → Contains (slice_index_or instance rel []) tuple
    → Contains (slice_index_or whole rel []) tuple) where
  atom_wider : (values : List Value) (atom : Atom) → AtomHolds instance values atom → AtomHolds whole values atom
  atom_wider values atom holds = record {
    tuple = holds.tuple;
    is_there = has atom.relation.0 holds.tuple holds.is_there;
    fits = holds.fits;
  }

  answer_wider : (query : Query) (tuple : List Value) → IsAnswer query instance tuple → IsAnswer query whole tuple
  answer_wider query tuple is = record {
    disjunct = is.disjunct;
    is_disjunct = is.is_disjunct;
    values = is.values;
    meets = record {
      per_var = is.meets.per_var;
      atoms = All-weaker (AtomHolds instance is.values) (AtomHolds whole is.values) (atom_wider is.values) is.disjunct.atoms
          is.meets.atoms;
      tests = is.meets.tests;
    };
    is_head = is.is_head;
  }

query_wider : (p : Parted) → IsParted p → IsCompletion p.s.relations p.c → (new old : Query) → new ≡ old
    → IsAnswerIn p.part.relations new [] p.narrow → IsAnswerIn p.s.relations old [] p.c
query_wider p is completion new old same holds =
    let whole = some_instance p.s.relations is.whole_is.relations.each p.c completion in
    record {
      instance = whole.0;
      is_current = whole.1;
      is_answer = answer_wider holds.instance whole.0 (instance_wider p is holds.instance whole.0 holds.is_current whole.1) old []
          (subst (λ (query : Query). IsAnswer query holds.instance []) same holds.is_answer);
    }

-- ---- facts

fact_wider : (p : Parted) → IsParted p → IsCompletion p.s.relations p.c → (new q : Question)
    → IsQuestionOn p.s.relations q → IsPartQuestion p.n new q → FactHolds p.part.relations new p.narrow
    → FactHolds p.s.relations q p.c
fact_wider p is completion asked.Consistent asked.Consistent on part holds = holds
fact_wider p is completion (asked.Certain new) (asked.Certain old) on part holds =
    pairs_wider p is completion new old part on holds
fact_wider p is completion (asked.Answers new) (asked.Answers old) on part holds =
    query_wider p is completion new old part holds
fact_wider p is completion new q on part holds = absurd part

pub facts_widen : FactsWiden
facts_widen s scope n part c narrow new q whole_is of completion shape narrowed fact is_part holds =
    let p : Parted = record { s = s; scope = scope; n = n; part = part; c = c; narrow = narrow } in
    let is : IsParted p = record { whole_is = whole_is; of = of; shape = shape; narrowed = narrowed } in
    fact_wider p is completion new q fact.on is_part holds

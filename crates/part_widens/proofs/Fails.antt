-- What fails over a part fails over the whole.
use Rattle.std.proofs.Common.{List, All, sym, subst, arith}
use Rattle.std.proofs.lemmas.Option.{slice_get_within}
use Rattle.currency_base.specs.declared.ids.AttrId.{AttrId}
use Rattle.currency_base.specs.declared.ids.RelId.{RelId}
use Rattle.minimal_items.specs.declared.needed.Needed.{Needed}
use Rattle.part_facts.specs.Questions.{AreAskedParts, IsPartQuestion}
use Rattle.part_laws.specs.Laws.{PairsAreKept}
use Rattle.part_laws.specs.Parts.{IsNarrowed}
use Rattle.part_laws.proofs.Rows.{all_at, there}
use Rattle.report_verify.specs.Right.{PairHolds}
use Rattle.spec_model.specs.Completion.{Rankings, lists_of, HasShape, IsCompletion, Before}
use Rattle.spec_model.specs.Facts.{IsSpecification}
use Rattle.spec_model.specs.Questions.{IsAskedPair}
use Rattle.spec_model.specs.declared.question.Asked.{Asked}
use Rattle.spec_model.specs.declared.question.Question.{Question}
use Rattle.spec_model.specs.declared.question.Question.TheVariants as asked
use Rattle.unit_questions.specs.Facts.{FactHolds, IsFactQuestion}
use Rattle.part_widens.specs.Widened.{IsSeenToFail}
use Rattle.part_widens.proofs.Lists.{all_of}
use Rattle.part_widens.proofs.WideItems.{Widening, IsWidening}

-- a completion of the whole, and one of the part that says the same of its rows
pub record AreBoth (w : Widening) (narrow c : Rankings) : Type 0 where
  pub whole_is : IsSpecification w.s
  pub completion : IsCompletion w.s.relations c
  pub shape : HasShape w.part.relations narrow
  pub narrowed : IsNarrowed w.s.relations w.n c narrow

-- pairs that hold over the whole hold over the part
pairs_hold : PairsAreKept → (w : Widening) (narrow c : Rankings) (new old : List Asked) → IsWidening w → AreBoth w narrow c
    → All (IsAskedPair w.s.relations) old → AreAskedParts w.n new old
    → All (λ p. PairHolds p c) old → All (λ p. PairHolds p narrow) new
pairs_hold pairs w narrow c new old is both on are holds =
    all_of (λ (p : Asked). PairHolds p narrow) new (λ k p at.
    let below = slice_get_within new k p at in
    let q = there old k (let many = are.as_many in omega (arith, below, many)) in
    let of = are.each k p q.0 at q.1 in
    let fits = all_at (IsAskedPair w.s.relations) old k q.0 on q.1 in
    let here = all_at (λ (x : Asked). PairHolds x c) old k q.0 holds q.1 in
    let back = (pairs w.s w.scope w.n w.part c narrow both.whole_is is.of both.completion both.shape both.narrowed
    q.0.rel.0 fits.relation fits.is_relation q.0.pair.attr.0 fits.pair.attr p.pair.earlier p.pair.later
    q.0.pair.earlier q.0.pair.later of.pair.earlier of.pair.later).1 here in
    subst (λ (rel : RelId). Before (lists_of narrow rel.0 p.pair.attr.0) p.pair.earlier p.pair.later) (sym of.rel)
    (subst (λ (attr : AttrId). Before (lists_of narrow q.0.rel.0 attr.0) p.pair.earlier p.pair.later) (sym of.pair.attr) back))

-- where the fact fails over the part, and a query was seen to fail, it fails over the whole
pub fails : PairsAreKept → (w : Widening) (x y : Needed) (new q : Question) → IsWidening w → AreBoth w x.without y.without
    → IsFactQuestion w.s.relations q → IsPartQuestion w.n new q
    → (FactHolds w.part.relations new x.without → ⊥) → IsSeenToFail w.s.relations q y
    → FactHolds w.s.relations q y.without → ⊥
fails pairs w x y new asked.Consistent is both fact part in_part seen holds = holds
fails pairs w x y (asked.Certain news) (asked.Certain olds) is both fact part in_part seen holds =
    in_part (pairs_hold pairs w x.without y.without news olds is both fact.on part holds)
fails pairs w x y asked.Consistent (asked.Certain olds) is both fact part in_part seen holds = absurd part
fails pairs w x y (asked.Same rels) (asked.Certain olds) is both fact part in_part seen holds = absurd part
fails pairs w x y (asked.Answers query) (asked.Certain olds) is both fact part in_part seen holds = absurd part
fails pairs w x y new (asked.Same rels) is both fact part in_part seen holds = absurd fact.of_fact
fails pairs w x y new (asked.Answers query) is both fact part in_part seen holds = seen holds

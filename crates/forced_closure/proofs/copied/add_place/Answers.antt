use Rattle.std.proofs.Common.{◌∙◌, ◌+◌, ◌<◌, List, length, slice_get, sym, ap, arith}
use Rattle.std.proofs.lemmas.Option.{same_Some, slice_get-get_or}
use Rattle.copied_pairs.specs.declared.pairs.CopiedPair.{CopiedPair}
use Rattle.forced_closure.specs.Clauses.{OfPair, OfPairs, OfPlace}
use Rattle.forced_closure.proofs.Adding.{adds_none, adds_then, adds_as, contains_at, pairs_cases}
use Rattle.forced_closure.proofs.copied.add_place.Goals as goal

pub pairs_of-pair-items-requires : goal.pairs_of-pair-items-requires
pairs_of-pair-items-requires c = omega (arith, c.spec.ensures.facts.copies.per_copy, c.requires.copy)

pub loop-pair-init : goal.loop-pair-init
loop-pair-init c =
    adds_none c.args.subject.now c.args.gathered.now
    (OfPairs c.args.copy c.args.place c.pairs_of-pair-items.result.now 0) (λ o is. absurd (omega (arith, is.below)))

pub push_pair-requires-clause-pair : goal.push_pair-requires-clause-pair
push_pair-requires-clause-pair c pairs at =
    let same = same_Some c.pairs_of-pair-items.result.now pairs (sym c.pairs_of-pair-items.ensures ∙ at) in
    let there = slice_get-get_or c.pairs_of-pair-items.result.now c.loop-pair.pair-index _ c.loop-pair-test.true in
    rw (sym same) (contains_at c.pairs_of-pair-items.result.now c.loop-pair.pair-index _ there)

pub loop-pair-preserved : goal.loop-pair-preserved
loop-pair-preserved c =
    let there = slice_get-get_or c.pairs_of-pair-items.result.now c.loop-pair.pair-index _ c.loop-pair-test.true in
    adds_then c.args.subject.now c.args.gathered.now c.loop-pair.gathered c.push_pair.new.gathered
    (OfPairs c.args.copy c.args.place c.pairs_of-pair-items.result.now c.loop-pair.pair-index) (OfPair c.args.copy c.args.place _)
    (OfPairs c.args.copy c.args.place c.pairs_of-pair-items.result.now (c.loop-pair.pair-index + 1))
    c.loop-pair.invariant c.in_ok-push_pair.ensures
    (λ o is. pairs_cases c.args.copy c.args.place c.pairs_of-pair-items.result.now c.loop-pair.pair-index _ o there is)

pub returns : goal.returns
returns c =
    adds_as c.args.subject.now c.args.gathered.now c.loop-pair.gathered
    (OfPairs c.args.copy c.args.place c.pairs_of-pair-items.result.now c.loop-pair.pair-index)
    (OfPlace c.args.subject.now c.args.copy c.args.place) c.loop-pair.invariant (λ o is.
    let same = same_Some is.pairs c.pairs_of-pair-items.result.now (sym is.are_pairs ∙ c.pairs_of-pair-items.ensures) in
    let long = ap (λ (ps : List CopiedPair). length ps) same in
    let below : is.of.i < c.loop-pair.pair-index = omega (arith, is.of.below, long) in
    record {
      i = is.of.i;
      below = below;
      pair = is.of.pair;
      is_pair =
          ap (λ (ps : List CopiedPair). slice_get ps is.of.i) (sym same) ∙ is.of.is_pair;
      of = is.of.of;
    })

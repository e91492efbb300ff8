use Rattle.std.proofs.Common.{◌≡◌, Some, get_or, sym, ap, ◌∙◌, subst}
use Rattle.ranked_pairs.proofs.FirstMet.{AreRead, pair_is_met, pair_stands, same_read}
use Rattle.ranked_pairs.proofs.holds.pair_holds.Goals as goal
use Rattle.spec_model.specs.Facts.{IsGivenPair}

pub returns-clause-holds : goal.returns-clause-holds
returns-clause-holds c = λ holds.
    let own = c.index-relations-asked.result in
    let index : own ≡ get_or c.args.spec.now.relations c.args.asked.rel.0 own = rw c.relations.ensures.value at
    c.index-relations-asked.is in
    let same = same_read c.args.spec.now.relations c.args.asked.rel.0 own c.requires.pair.relation index
    c.requires.pair.is_relation in
    let read : AreRead c.args.spec.now.relations c.args.completion.now c.args.asked own c.row.result.now
    c.ranking-list.result.now =
    record {
      is_relation = c.requires.pair.is_relation ∙ ap Some (sym same);
      is_row = c.row.ensures;
      is_list =
          c.ranking-list.ensures;
    } in
    pair_stands c.args.spec.now.relations c.args.completion.now c.args.asked own c.row.result.now c.ranking-list.result.now
    c.relations.ensures.facts c.requires.completion (subst (λ r. IsGivenPair r c.args.asked.pair) (sym same)
    c.requires.pair.pair) read
    (c.is_met_first.ensures.met holds)

pub returns-clause-fails : goal.returns-clause-fails
returns-clause-fails c = λ fails before.
    let own = c.index-relations-asked.result in
    let index : own ≡ get_or c.args.spec.now.relations c.args.asked.rel.0 own = rw c.relations.ensures.value at
    c.index-relations-asked.is in
    let same = same_read c.args.spec.now.relations c.args.asked.rel.0 own c.requires.pair.relation index
    c.requires.pair.is_relation in
    let read : AreRead c.args.spec.now.relations c.args.completion.now c.args.asked own c.row.result.now
    c.ranking-list.result.now =
    record {
      is_relation = c.requires.pair.is_relation ∙ ap Some (sym same);
      is_row = c.row.ensures;
      is_list =
          c.ranking-list.ensures;
    } in
    c.is_met_first.ensures.unmet fails
    (pair_is_met c.args.spec.now.relations c.args.completion.now c.args.asked own c.row.result.now c.ranking-list.result.now
    c.relations.ensures.facts c.requires.completion (subst (λ r. IsGivenPair r c.args.asked.pair) (sym same)
    c.requires.pair.pair) read before)

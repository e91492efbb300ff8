use Rattle.std.proofs.Common.{◌≡◌, drop}
use Rattle.spec_model.specs.Completion.{HasShape}
use Rattle.currency_report.specs.Completed.{ranked_by}
use Rattle.currency_report.proofs.rank.rank_all.Given as goal

abbrev pub invariant-loop-ranking : goal.invariant-loop-ranking
invariant-loop-ranking l = record {
  due : ranked_by l.spec.relations (drop l.ranking-index l.rankings) l.completion ≡ ranked_by l.spec.relations
      l.rankings l.initial.completion;
  shape : HasShape l.spec.relations l.completion;
}

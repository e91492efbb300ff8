use Rattle.std.proofs.Common.{sym, arith}
use Rattle.std.proofs.lemmas.Result.{IfOk-weaker}
use Rattle.match_candidates.proofs.Branches.{each_way_at}
use Rattle.match_candidates.proofs.branching.ways.Goals as goal

pub returns-in-None : goal.returns-in-None
returns-in-None c =
    IfOk-weaker c.each_way.result _ _
    (λ ways is. each_way_at c.args.tables.now c.args.at c.args.values.now c.in-Var.var c.args.term.now _ c.in-Var.is (omega arith)
    (sym c.in-None.ensures) is) c.each_way.ensures

use Rattle.query_plan.proofs.equalities.leader_of.Given as goal

abbrev pub invariant-loop-equality : goal.invariant-loop-equality
invariant-loop-equality l = Unit {0}

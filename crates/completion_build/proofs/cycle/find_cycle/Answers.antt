use Rattle.std.proofs.Common.{length, refl}
use Rattle.completion_build.specs.Contests.{Beats}
use Rattle.completion_build.proofs.Rounds.{is_round}
use Rattle.completion_build.proofs.Scores.{some_third}
use Rattle.completion_build.proofs.cycle.find_cycle.Goals as goal

pub unreachable-requires : goal.unreachable-requires
unreachable-requires c =
    let t = c.args.tournament.now in
    some_third (length t.rows) (Beats t) c.args.counts.now c.rows-rows.ensures.decided c.requires c.in-Some.first c.in-Some.second
    c.in-Some.ensures.some c.in_default-find_third.ensures.none

pub returns-clause-some : goal.returns-clause-some
returns-clause-some c =
    let third = c.in-Some-find_third.ensures.some in
    is_round c.args.tournament.now c.rows-rows.result.now c.args.ent.0 c.in-Some.first c.in-Some.second
    c.in-Some-find_third.third (record { 0 = 0 }) _
    c.rows-rows.ensures.value c.in-Some.ensures.some.beats third.1 third.2 c.rel.ensures c.attr.ensures refl refl refl refl

use Rattle.std.proofs.Common.{◌∙◌}
use Rattle.possible_command.proofs.Adding.{line_more}
use Rattle.possible_command.proofs.telling.add_lines.Goals as goal

pub loop-place-preserved : goal.loop-place-preserved
loop-place-preserved c =
    line_more c.args.spec.now.relations c.args.found.now.candidates c.args.found.now.shown c.loop-place.place
    c.get-one.result.now c.get.result.now c.loop-place.into c.add_line.new.into c.get-one.ensures c.get.ensures
    c.in_ok-add_line.ensures
    ∙ c.loop-place.invariant

use Rattle.std.proofs.Common.{map}
use Rattle.std.specs.String.{string_bytes}
use Rattle.program_words.specs.Said.{said_of}
use Rattle.currency_cli.proofs.InRange.{in_range}
use Rattle.currency_cli.proofs.words.command_kept.Goals as goal

pub returns-then-keep_for-clause-in_range : goal.returns-then-keep_for-clause-in_range
returns-then-keep_for-clause-in_range g c =
    let n = c.numbers_are_in_range.ensures in
    in_range n.budget n.size n.unit n.explain_budget n.conflicts_budget n.golden_budget n.possible_budget n.certain_table
    n.possible_table n.session (map (λ w. string_bytes w) c.args.words.now) (said_of c.in-Ok.command) c.in-Ok.ensures.taken

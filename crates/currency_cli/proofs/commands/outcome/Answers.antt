use Rattle.std.proofs.Common.{map}
use Rattle.std.specs.String.{string_bytes}
use Rattle.program_words.specs.Said.{said_of}
use Rattle.currency_cli.proofs.ForWords.{printed_for_words}
use Rattle.currency_cli.proofs.commands.outcome.Goals as goal

pub returns-in-Ok-clause-printed : goal.returns-in-Ok-clause-printed
returns-in-Ok-clause-printed g c =
    printed_for_words (g.S.Shelf.texts c.args.shelf.now) _ (map (λ w. string_bytes w) c.args.words.now)
    (said_of c.in-Ok.command) c.outcome_of.result
    c.in-Ok.ensures.taken c.outcome_of.ensures.printed

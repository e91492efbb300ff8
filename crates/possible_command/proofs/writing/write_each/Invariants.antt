use Rattle.std.proofs.Common.{◌≡◌, ◌∷◌, drop}
use Rattle.log_write.specs.Pieces.{many_pieces}
use Rattle.report_write.specs.Pieces.{completion_pieces, completions_pieces, differing}
use Rattle.text_write.specs.Spacing.{writes_all}
use Rattle.possible_command.proofs.writing.write_each.Given as goal

abbrev pub invariant-loop-completion : goal.invariant-loop-completion
invariant-loop-completion l =
    writes_all l.into (many_pieces (λ c. completion_pieces l.spec.relations (differing l.first c))
    (drop l.completion-index l.later))
    ≡ writes_all l.fn.into (completions_pieces l.spec.relations (l.first ∷ l.later))

use Rattle.std.proofs.Common.{subst, sym}
use Rattle.spec_model.specs.Completion.{IsBlank}
use Rattle.spec_model.proofs.BlankLists.{is_blank}
use Rattle.spec_model.proofs.completion.Completion.new.Goals as goal

pub returns-clause-blank : goal.returns-clause-blank
returns-clause-blank c = subst IsBlank (sym c.loop-relation.invariant) (is_blank _)

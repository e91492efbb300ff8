use Rattle.relation_bind.proofs.OneDeclaration.{one_declared}
use Rattle.relation_bind.proofs.laws.one_declaration.Goals as goal

pub returns : goal.returns
returns c = one_declared c.one_table.ensures

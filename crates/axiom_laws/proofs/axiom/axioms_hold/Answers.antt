use Rattle.log_axioms.specs.Posed.{passing}
use Rattle.axiom_laws.proofs.Sound.{axiom_true}
use Rattle.axiom_laws.proofs.axiom.axioms_hold.Goals as goal

pub returns : goal.returns
returns c answers = axiom_true (passing answers)

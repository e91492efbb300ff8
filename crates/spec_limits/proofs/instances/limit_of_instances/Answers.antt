use Rattle.std.proofs.Common.{◌∙◌, sym}
use Rattle.spec_limits.proofs.OfSpec.{too_many, not_too_many}
use Rattle.spec_limits.proofs.instances.limit_of_instances.Goals as goal

pub returns-in-Some : goal.returns-in-Some
returns-in-Some c = sym (not_too_many c.args.spec.now c.in-Some.field-0 (sym c.left_by_all.ensures ∙ c.in-Some.is))

pub returns : goal.returns
returns c = sym (too_many c.args.spec.now (sym c.left_by_all.ensures ∙ c.in-None.is))

use Rattle.currency_session.proofs.Edited.{held_after}
use Rattle.currency_session.proofs.session.Session.edit.Goals as goal

pub invariant_of-self : goal.invariant_of-self
invariant_of-self c =
    held_after c.self.inside.edited c.edit_known.new.spec c.args.edit c.self.inside.kept.items c.edit_known.new.start
    c.edit_known.result c.edit_known.ensures.ok c.edit_known.ensures.err c.self.invariant.kept c.edit_known.ensures.start

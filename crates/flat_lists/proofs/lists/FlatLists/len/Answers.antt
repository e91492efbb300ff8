use Rattle.std.proofs.Common.{◌∙◌, length, sym, ap}
use Rattle.flat_lists.proofs.Cuts.{length-cut_from}
use Rattle.flat_lists.proofs.lists.FlatLists.len.Goals as goal

pub returns : goal.returns
returns g c =
    c.len.ensures ∙ c.self.inside.ends.ok.0
    ∙ sym (length-cut_from 0 c.self.inside.ends.items c.self.inside.items.items) ∙ ap length c.self.view_is

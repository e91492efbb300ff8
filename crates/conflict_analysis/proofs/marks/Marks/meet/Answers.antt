use Rattle.std.proofs.Common.{◌∙◌, ap, slice_set, true}
use Rattle.conflict_analysis.proofs.Rounds.{meets}
use Rattle.conflict_analysis.proofs.marks.Marks.meet.Goals as goal

pub returns : goal.returns
returns c =
    let inside = c.self.inside in
    meets inside.round inside.rounds.items c.args.place ∙ ap (λ bs. slice_set bs c.args.place true) c.self.view_is

use Rattle.std.proofs.Common.{◌∙◌, ap, subst, sym}
use Rattle.spec_model.specs.Completion.{HasShape, ranking_of}
use Rattle.completion_fill.specs.Filled.{filled, list_or}
use Rattle.completion_fill.proofs.Shapes.{filled_ranking, filled_shape, same_rankings}
use Rattle.order_search.specs.Searches.{Subject}
use Rattle.order_search.proofs.subject.Subject.copied.Goals as goal

pub fill-requires-clause-first : goal.fill-requires-clause-first
fill-requires-clause-first c =
    subst (λ (s : Subject). HasShape s.spec.relations c.args.completion.now) (sym c.self.view_is) c.requires

pub returns-in-Ok-fill : goal.returns-in-Ok-fill
returns-in-Ok-fill c =
    let relations = c.self.inside.spec.now.relations in
    let other = c.args.completion.now in
    let blank = c.in-Ok.copy in
    let of_other = subst (λ (s : Subject). HasShape s.spec.relations other) (sym c.self.view_is) c.requires in
    let of_blank = c.in-Ok.ensures.shape in
    c.in-Ok-fill.ensures.filled
    ∙ same_rankings relations (filled other blank) other (filled_shape relations other blank of_other of_blank) of_other
    (λ rel attr ent. filled_ranking relations other blank of_other of_blank rel attr ent
    ∙ ap (list_or (ranking_of other rel attr ent)) (c.in-Ok.ensures.blank rel attr ent))

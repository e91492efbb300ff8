use Rattle.std.proofs.Common.{◌∙◌, ◌++◌, ◌∷◌, [], List, take, ap, sym}
use Rattle.std.proofs.lemmas.List.{take_more}
use Rattle.std.proofs.lemmas.Option.{get_or_from_slice_get, slice_get_within}
use Rattle.order_literals.specs.Statements.{statements_of}
use Rattle.refutation_log.specs.declared.statement.Statement.{Statement}
use Rattle.order_search.proofs.subject.statements.Goals as goal

pub loop-var-preserved : goal.loop-var-preserved
loop-var-preserved c =
    let all = statements_of c.args.numbering.now in
    let place = c.loop-var.var in
    let one = c.meaning_of.result in
    c.in-Ok.ensures.ok ∙ ap (λ (list : List Statement). list ++ one ∷ []) c.loop-var.invariant
    ∙ sym (take_more all place one (slice_get_within all place one c.meaning_of.ensures)
    ∙ ap (λ (y : Statement). take place all ++ y ∷ []) (get_or_from_slice_get all place one one c.meaning_of.ensures))

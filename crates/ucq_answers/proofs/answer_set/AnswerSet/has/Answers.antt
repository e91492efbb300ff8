use Rattle.std.proofs.Common.{subst, sym, ◌∙◌}
use Rattle.std.specs.List.{Contains}
use Rattle.std.proofs.lemmas.Map.Views.{btree_set_contains_iff}
use Rattle.ucq_answers.specs.Found.{Bounded}
use Rattle.ucq_answers.specs.TupleOrder.{tuple_total}
use Rattle.ucq_answers.proofs.Values.{exact_tuples}
use Rattle.ucq_answers.proofs.answer_set.AnswerSet.has.Goals as goal

pub returns : goal.returns
returns c = λ is.
    let told = btree_set_contains_iff tuple_total exact_tuples c.self.inside.answers c.args.answer.now in
    subst (λ (b : Bounded). Contains b.tuples c.args.answer.now) c.self.view_is (told.0 (sym c.contains.ensures ∙ is))

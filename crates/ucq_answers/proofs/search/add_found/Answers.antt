use Rattle.std.proofs.Common.{List, Option, subst}
use Rattle.currency_base.specs.declared.value.Value.{Value}
use Rattle.ucq_answers.specs.Found.{IsFound}
use Rattle.ucq_answers.specs.Kept.{atoms_of}
use Rattle.ucq_answers.specs.Partly.{IsHeadOfSome, IsSolution}
use Rattle.ucq_answers.proofs.Collecting.{adds_known, adds_one}
use Rattle.ucq_answers.proofs.Searching.{head_is, head_of_each}
use Rattle.ucq_answers.proofs.search.add_found.Goals as goal

pub returns-then-is_known : goal.returns-then-is_known
returns-then-is_known c = λ is.
    let instance = c.args.search.now.relations.now in
    let conditions = c.args.search.now.conditions.now in
    let head = c.args.search.now.head.now in
    let steps = atoms_of c.args.steps.now in
    let b = c.args.values.now in
    adds_known (IsHeadOfSome instance conditions head steps b) c.args.answers.now c.args.answer
    (c.is_known.ensures c.if-is_known.true) (λ other some. head_is instance conditions head steps b c.args.answer other is some)

pub returns : goal.returns
returns c = λ is.
    let instance = c.args.search.now.relations.now in
    let conditions = c.args.search.now.conditions.now in
    let head = c.args.search.now.head.now in
    let steps = atoms_of c.args.steps.now in
    let b = c.args.values.now in
    let found : List (Option Value) = c.in-Some.field-0 in
    let solution : IsSolution instance conditions steps b found = subst (IsFound instance conditions steps b) c.in-Some.is
    c.in_ok-find.ensures in
    adds_one (IsHeadOfSome instance conditions head steps b) c.args.answers.now c.add.new.self c.args.answer
    c.in_ok-add.field-0 c.in_ok-add.ensures.bound c.in_ok-add.ensures.tuples
    c.in_ok-add.ensures.full record {
      values = found;
      solution = solution;
      is_head = head_of_each instance conditions head
          steps b found c.args.answer is solution;
    }
    (λ other some. head_is instance conditions head steps b c.args.answer other is some)

use Rattle.std.proofs.Common.{length, refl, sym, ◌∙◌}
use Rattle.std.proofs.lemmas.Option.{slice_get_read}
use Rattle.report_verify.proofs.Differing.{agrees, differs}
use Rattle.report_verify.proofs.Fronts.{all_more, all_taken, contains_at}
use Rattle.report_verify.proofs.listed.one_differs.Goals as goal
use Rattle.report_verify.specs.Listed.{AgreesAt}

pub returns-then-not-test-clause-differs : goal.returns-then-not-test-clause-differs
returns-then-not-test-clause-differs c = λ e.
    let cs = c.args.completions.now in
    let at = slice_get_read cs (length cs) c.loop-completion.completion-index c.completion-item.result refl
    c.loop-completion-test.true c.completion-item.is in
    record {
      other = c.completion-item.result;
      listed = contains_at cs c.loop-completion.completion-index c.completion-item.result at;
      differ = differs c.args.spec.now.relations c.args.rel c.args.attr c.args.ent c.args.first.now c.completion-item.result
          c.last-value.result.now c.last.result.now c.requires.place c.last-value.ensures c.last.ensures
          (sym c.test.ensures ∙ c.if-not-test.true);
    }

pub loop-completion-preserved : goal.loop-completion-preserved
loop-completion-preserved c =
    let cs = c.args.completions.now in
    let at = slice_get_read cs (length cs) c.loop-completion.completion-index c.completion-item.result refl
    c.loop-completion-test.true c.completion-item.is in
    all_more (AgreesAt c.args.spec.now.relations c.args.rel c.args.attr c.args.ent c.args.first.now) cs
    c.loop-completion.completion-index
    c.completion-item.result at c.loop-completion.invariant
    (agrees c.args.spec.now.relations c.args.rel c.args.attr c.args.ent c.args.first.now c.completion-item.result
    c.last-value.result.now c.last.result.now c.last-value.ensures c.last.ensures (sym c.test.ensures ∙ c.if-not-test.false))

pub returns-clause-none : goal.returns-clause-none
returns-clause-none c = λ e.
    all_taken (AgreesAt c.args.spec.now.relations c.args.rel c.args.attr c.args.ent c.args.first.now) c.args.completions.now
    c.loop-completion.completion-index c.loop-completion-test.false c.loop-completion.invariant

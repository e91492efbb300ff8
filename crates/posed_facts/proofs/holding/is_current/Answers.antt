use Rattle.std.proofs.Common.{◌∙◌, sym}
use Rattle.posed_facts.proofs.Finding.{found_current, found_other}
use Rattle.posed_facts.proofs.Reading.{is_read}
use Rattle.posed_facts.proofs.holding.is_current.Goals as goal

pub returns-clause-current : goal.returns-clause-current
returns-clause-current c = λ holds.
    found_current c.args.spec.now.relations c.args.claim c.args.completion.now c.row_of.result.now c.value_of.result.now
    c.last-current.result.now
    record {
      read = is_read c.args.spec.now.relations c.row_of.ensures.facts c.args.claim c.requires.claim;
      is_row = c.row_of.ensures.row;
      is_value = c.value_of.ensures;
      is_last = c.last-current.ensures;
    }
    (sym c.test.ensures ∙ holds)

pub returns-clause-other : goal.returns-clause-other
returns-clause-other c = λ fails.
    found_other c.args.spec.now.relations c.args.claim c.args.completion.now c.row_of.result.now c.value_of.result.now
    c.last-current.result.now
    record {
      read = is_read c.args.spec.now.relations c.row_of.ensures.facts c.args.claim c.requires.claim;
      is_row = c.row_of.ensures.row;
      is_value = c.value_of.ensures;
      is_last = c.last-current.ensures;
    }
    (sym c.test.ensures ∙ fails)

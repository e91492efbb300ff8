use Rattle.std.proofs.Common.{◌≡◌, ◌∙◌, ◌++◌, ℕ, List, OnOk, subst}
use Rattle.possible_command.specs.Findings.{finding_pieces}
use Rattle.possible_command.proofs.Written.{text_is}
use Rattle.possible_command.proofs.writing.add_line.Goals as goal

pub returns : goal.returns
returns c =
    subst (λ (text : List ℕ). OnOk c.append.result (c.append.new.into ≡ c.args.into.now ++ text))
    (c.as_slice-2.ensures ∙ c.into_text.ensures
    ∙ text_is c.write_finding.new.into c.new-line.result
    (finding_pieces c.args.spec.now.relations c.args.one.now c.args.finding) c.new-line.ensures
    c.in_ok-write_finding.ensures)
    c.append.ensures

use Rattle.std.proofs.Common.{subst, sym}
use Rattle.spec_edits.specs.declared.edit.Edit.{Edit}
use Rattle.edit_checks.proofs.Edits.{withdrawal_stays}
use Rattle.edit_checks.specs.Stays.{StaysConsistent}
use Rattle.edit_checks.proofs.stays.stays_consistent.Goals as goal

pub returns-in-AddGiven : goal.returns-in-AddGiven
returns-in-AddGiven c =
    λ is.
    subst (λ (e : Edit). StaysConsistent c.args.spec.now e c.args.completion.now) (sym c.in-AddGiven.is)
    (c.is_given.ensures is)

pub returns-in-AddRule : goal.returns-in-AddRule
returns-in-AddRule c =
    λ is.
    subst (λ (e : Edit). StaysConsistent c.args.spec.now e c.args.completion.now) (sym c.in-AddRule.is)
    (c.keeps_rule.ensures is)

pub returns-in-MapCopied : goal.returns-in-MapCopied
returns-in-MapCopied c =
    λ is.
    subst (λ (e : Edit). StaysConsistent c.args.spec.now e c.args.completion.now) (sym c.in-MapCopied.is)
    (c.keeps_mapped.ensures is)

pub returns-in_default : goal.returns-in_default
returns-in_default c =
    λ is.
    withdrawal_stays c.args.spec.now c.args.edit.now c.args.completion.now (c.is_withdrawal.ensures is) c.requires.consistent

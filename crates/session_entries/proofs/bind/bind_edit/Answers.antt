-- What names are refused for is no read fault.
use Rattle.std.proofs.Common.{◌∙◌, Result, ap, subst}
use Rattle.spec_edits.specs.declared.edit.Edit.{Edit}
use Rattle.session_entries.specs.Entries.{IsEntryReadFault, bound}
use Rattle.session_entries.specs.declared.fault.EntryFault.{EntryFault}
use Rattle.session_entries.proofs.Unread.{copied_unread, given_unread}
use Rattle.session_entries.proofs.bind.bind_edit.Goals as goal

pub returns-in-Order-clause-reads : goal.returns-in-Order-clause-reads
returns-in-Order-clause-reads c = λ h.
    given_unread c.args.spec.now.relations c.in-Order.add c.in-Order.relation c.in-Order.attr c.in-Order.pair
    (subst (λ (r : Result Edit EntryFault). IsEntryReadFault r) (c.bound.ensures ∙ ap bound c.bind_given.ensures.value) h)

pub returns-in-Copy-clause-reads : goal.returns-in-Copy-clause-reads
returns-in-Copy-clause-reads c = λ h.
    copied_unread c.args.spec.now c.in-Copy.add c.in-Copy.name c.in-Copy.mapping
    (subst (λ (r : Result Edit EntryFault). IsEntryReadFault r)
    (c.bound-in-Copy.ensures ∙ ap bound c.bind_copied.ensures.value) h)

-- The change of the names is that of the edit.
use Rattle.std.proofs.Common.{◌∙◌, ap}
use Rattle.spec_model.specs.Spec.{Spec}
use Rattle.spec_names.specs.NameLists.{NameLists}
use Rattle.spec_names.specs.Names.{all_names_of}
use Rattle.session_entries.specs.Renamed.{renamed}
use Rattle.session_entries.proofs.NamesKept.{edit_renames}
use Rattle.session_command.proofs.done.do_bound.Goals as goal

pub returns-in-Ok-rename-clause-names : goal.returns-in-Ok-rename-clause-names
returns-in-Ok-rename-clause-names c =
    let old = c.args.session.now.spec in
    let new = c.edit.new.self.spec in
    c.in-Ok-rename.ensures.ok
    ∙ ap (λ (ns : NameLists). renamed ns c.spec.result.now.rules c.in-Ok.change) c.requires.names
    ∙ ap (λ (s : Spec). renamed (all_names_of old) s.rules c.in-Ok.change) c.spec.ensures.value
    ∙ ap (renamed (all_names_of old) new.rules) c.in-Ok.ensures
    ∙ edit_renames old new c.args.edit c.in-Ok-edit.ensures.ok

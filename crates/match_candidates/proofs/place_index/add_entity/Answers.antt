use Rattle.std.proofs.Common.{◌∙◌, ◌++◌, ap, Bor, List, map}
use Rattle.currency_base.specs.declared.value.Value.{Value}
use Rattle.match_candidates.proofs.AlikeEntries.{added_entries, entry_of}
use Rattle.match_candidates.proofs.place_index.add_entity.Goals as goal

pub returns : goal.returns
returns c =
    added_entries c.args.table.now c.args.place c.args.ent c.in_ok-values.values.items c.args.entries.now.items
    c.add_values.new.entries.items
    c.in_ok-values.ensures
    (c.in_ok-add_values.ensures ∙ ap (λ (vs : List (Bor Value)). c.args.entries.now.items ++ map
    (entry_of c.args.ent) vs) c.deref.ensures.value)

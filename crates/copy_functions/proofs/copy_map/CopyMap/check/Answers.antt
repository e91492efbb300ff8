use Rattle.std.proofs.Common.{◌≡◌, None, rules}
use Rattle.copy_functions.specs.Copies.{values_of}
use Rattle.copy_functions.specs.Faults.{first_difference}
use Rattle.copy_functions.proofs.SameValues.{equal_at_each}
use Rattle.copy_functions.proofs.copy_map.CopyMap.check.Goals as goal

pub returns-in-None-clause-equal : goal.returns-in-None-clause-equal
returns-in-None-clause-equal c =
    let none : first_difference 0 c.args.self.now.places (values_of c.args.target_rows.now c.args.target)
    (values_of c.args.source_rows.now c.args.source) ≡ None = search rules in
    record {
      in_target = c.requires.target_row;
      in_source = c.requires.source_row;
      equal = equal_at_each 0 c.args.self.now.places _ _ c.requires.target_values c.requires.source_values none;
    }

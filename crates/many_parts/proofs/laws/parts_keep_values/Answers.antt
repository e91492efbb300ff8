use Rattle.many_parts.proofs.Certainty.{values_are_certain, values_are_possible}
use Rattle.many_parts.proofs.laws.parts_keep_values.Goals as goal

pub returns-clause-certain : goal.returns-clause-certain
returns-clause-certain c =
    values_are_certain c.parts_narrow.ensures c.narrows_exist.ensures c.parts_extend.ensures c.parts_keep_facts.ensures.values

pub returns-clause-possible : goal.returns-clause-possible
returns-clause-possible c =
    values_are_possible c.parts_narrow.ensures c.narrows_exist.ensures c.parts_extend.ensures c.parts_keep_facts.ensures.values

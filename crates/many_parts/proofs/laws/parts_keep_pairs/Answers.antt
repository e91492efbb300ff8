use Rattle.many_parts.proofs.Certainty.{pairs_are_certain, pairs_are_possible}
use Rattle.many_parts.proofs.laws.parts_keep_pairs.Goals as goal

pub returns-clause-certain : goal.returns-clause-certain
returns-clause-certain c =
    pairs_are_certain c.parts_narrow.ensures c.narrows_exist.ensures c.parts_extend.ensures c.parts_keep_facts.ensures.pairs

pub returns-clause-possible : goal.returns-clause-possible
returns-clause-possible c =
    pairs_are_possible c.parts_narrow.ensures c.narrows_exist.ensures c.parts_extend.ensures c.parts_keep_facts.ensures.pairs

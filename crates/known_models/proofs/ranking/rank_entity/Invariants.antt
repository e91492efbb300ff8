use Rattle.known_models.specs.Ranked.{FindsLists}
use Rattle.known_models.proofs.ranking.rank_entity.Given as goal

abbrev pub invariant-loop-attr : goal.invariant-loop-attr
invariant-loop-attr l = FindsLists l.parted l.part l.truths l.member.rel.0 l.attr l.member.ent.0 l.initial.draft l.draft

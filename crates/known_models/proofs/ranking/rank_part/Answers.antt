use Rattle.known_models.proofs.Finding.{part_found}
use Rattle.known_models.proofs.ranking.rank_part.Goals as goal

pub returns : goal.returns
returns c =
    part_found c.args.parted.now c.args.part c.args.truths.now c.members.result.now c.rank_members.new.draft
    (λ m of. (c.members.ensures m).1 of) c.in_ok-rank_members.ensures

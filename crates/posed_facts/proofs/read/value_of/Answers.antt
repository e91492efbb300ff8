use Rattle.posed_facts.proofs.Reading.{has_value}
use Rattle.posed_facts.proofs.read.value_of.Goals as goal

pub get-requires : goal.get-requires
get-requires c =
    has_value c.args.spec.now.relations c.row_of.ensures.facts c.args.claim c.requires c.row_of.result.now c.row_of.ensures.row

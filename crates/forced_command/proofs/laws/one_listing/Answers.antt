use Rattle.forced_command.proofs.OneText.{forced_one}
use Rattle.forced_command.proofs.laws.one_listing.Goals as goal

pub returns : goal.returns
returns c = forced_one c.one_read.ensures.specs

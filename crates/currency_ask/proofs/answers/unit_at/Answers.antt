use Rattle.std.proofs.lemmas.Option.{slice_get_within}
use Rattle.currency_ask.proofs.answers.unit_at.Goals as goal

pub get-requires : goal.get-requires
get-requires c = slice_get_within c.args.decisions.now c.args.place _ c.requires.1

use Rattle.std.proofs.Common.{refl}
use Rattle.edit_checks.proofs.Lists.{read_there}
use Rattle.edit_checks.proofs.MoreMapped.{mapped_stays}
use Rattle.edit_checks.proofs.mapped.keeps_mapped.Goals as goal

pub returns : goal.returns
returns c =
    let s = c.args.spec.now in
    let map = c.index-copies-copy.result in
    λ is.
    mapped_stays s c.args.copy map c.args.copied c.args.completion.now
    (read_there s.copies c.copies.result.now c.args.copy.0 c.args.copy.0 map c.requires.rows.function c.copies.ensures.value
    refl c.index-copies-copy.is c.requires.rows.is_function)
    c.copies.ensures.facts c.requires.consistent (c.keeps_places.ensures is)

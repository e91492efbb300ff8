use Rattle.std.proofs.Common.{length, ap, arith}
use Rattle.std.proofs.lemmas.Option.{slice_get_within}
use Rattle.order_literals.specs.Numbers.{Numbers}
use Rattle.order_literals.proofs.Kept.{count_of_firsts, pairs_place, tops_place, lasts_place}
use Rattle.order_literals.proofs.catalogue.place_of.Goals as goal

pub bounds-firsts-rel : goal.bounds-firsts-rel
bounds-firsts-rel c =
    let many = ap length c.requires.firsts in
    let within = slice_get_within c.args.tables.now c.args.rel.0 c.requires.place.table c.requires.place.is_table in
    omega (arith, count_of_firsts c.args.tables.now)

pub bounds-firsts-tables : goal.bounds-firsts-tables
bounds-firsts-tables c =
    let many = ap length c.requires.firsts in
    omega (arith, count_of_firsts c.args.tables.now)

pub returns-in-Pairs : goal.returns-in-Pairs
returns-in-Pairs c answers =
    let n : Numbers = record { tables = c.args.tables.now; answers = answers } in
    rw c.in-Pairs.is (pairs_place n c.args.firsts.now c.args.rel c.args.attr c.requires.firsts c.requires.place)

pub returns-in-Tops : goal.returns-in-Tops
returns-in-Tops c answers =
    let n : Numbers = record { tables = c.args.tables.now; answers = answers } in
    rw c.in-Tops.is (tops_place n c.args.firsts.now c.args.rel c.args.attr c.requires.firsts c.requires.place)

pub returns-in-Lasts : goal.returns-in-Lasts
returns-in-Lasts c answers =
    let n : Numbers = record { tables = c.args.tables.now; answers = answers } in
    rw c.in-Lasts.is (lasts_place n c.args.firsts.now c.args.rel c.args.attr c.requires.firsts c.requires.place)

use Rattle.std.proofs.Common.{refl, arith}
use Rattle.match_candidates.proofs.Whole.{all_found, all_listed, too_many}
use Rattle.match_candidates.proofs.listing.searched.Goals as goal

pub returns-then-len-most-clause-too_many : goal.returns-then-len-most-clause-too_many
returns-then-len-most-clause-too_many c =
    let is = all_found c.args.tables.now c.args.tables.now c.args.query.now c.as_slice.result.now c.args.most c.new-found.result
    c.collect.new.found c.in_ok-collect.field-0 c.requires refl
    c.as_slice.ensures c.new-found.ensures c.into_list.ensures.ascend c.in_ok-collect.ensures in
    too_many c.args.tables.now c.args.query.now c.args.most c.collect.new.found c.in_ok-collect.field-0 is c.in_ok-list.list
    c.in_ok-list.ensures.matches (let n = c.len.ensures in let more = c.if-len-most.true in omega (arith, n, more))

pub returns-clause-listed : goal.returns-clause-listed
returns-clause-listed c =
    let is = all_found c.args.tables.now c.args.tables.now c.args.query.now c.as_slice.result.now c.args.most c.new-found.result
    c.collect.new.found c.in_ok-collect.field-0 c.requires refl
    c.as_slice.ensures c.new-found.ensures c.into_list.ensures.ascend c.in_ok-collect.ensures in
    all_listed c.args.tables.now c.args.query.now c.args.most c.collect.new.found c.in_ok-collect.field-0 is c.in_ok-list.list
    c.in_ok-list.ensures.matches (let n = c.len.ensures in let few = c.if-len-most.false in omega (arith, n, few))

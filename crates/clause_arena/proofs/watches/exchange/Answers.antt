use Rattle.std.proofs.Common.{◌≡◌, ◌∙◌, get_or, slice_set, ap}
use Rattle.std.proofs.lemmas.Option.{get_or_from_slice_get}
use Rattle.currency_base.specs.declared.lit.Lit.{Lit}
use Rattle.clause_arena.proofs.Changed.{put_length, put_room, put_twice}
use Rattle.clause_arena.proofs.watches.exchange.Goals as goal

pub set-requires-2 : goal.set-requires-2
set-requires-2 c =
    let put = c.set.ensures.lists c.get-lits.result.now c.get-lits.ensures in
    record {
      clause = rw (put_length _ _ _ _ _ _ c.get-lits.ensures put) c.requires.clause;
      place = put_room _ _ _ _ _ _ c.get-lits.ensures put c.args.to c.requires.to;
    }

pub returns-clause-lists : goal.returns-clause-lists
returns-clause-lists c lits left taken is_clause is_left is_taken =
    let now = c.get-lits.result.now in
    let is_now = c.get-lits.ensures in
    let same : now ≡ lits = cc in
    let none : Lit = record { 0 = 0 } in
    let is_left_read : get_or now c.args.from none ≡ left = ap (λ ls. get_or ls c.args.from none) same
    ∙ get_or_from_slice_get lits c.args.from left none is_left in
    let is_taken_read : get_or now c.args.to none ≡ taken = ap (λ ls. get_or ls c.args.to none) same
    ∙ get_or_from_slice_get lits c.args.to taken none is_taken in
    let twice = put_twice _ _ _ _ _ c.args.to lits _ (get_or now c.args.from none) is_clause
    (c.set.ensures.lists lits is_clause) c.set-2.ensures.lists in
    twice
    ∙ ap (λ (x : Lit). slice_set c.args.clauses.now.lists c.args.clause
    (slice_set (slice_set lits c.args.from x) c.args.to (get_or now c.args.from none))) is_taken_read
    ∙ ap (λ (x : Lit). slice_set c.args.clauses.now.lists c.args.clause
    (slice_set (slice_set lits c.args.from taken) c.args.to x)) is_left_read

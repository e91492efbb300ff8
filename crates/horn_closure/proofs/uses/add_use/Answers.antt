use Rattle.std.proofs.Common.{◌≡◌, ◌<◌, ◌++◌, ◌∷◌, [], Some, length, slice_get, refl, arith, rules}
use Rattle.std.proofs.lemmas.Option.{slice_get_read}
use Rattle.horn_closure.proofs.UseFacts.{use_added}
use Rattle.horn_closure.proofs.uses.add_use.Goals as goal

pub returns-clause-ok : goal.returns-clause-ok
returns-clause-ok c =
    let was : slice_get c.args.uses.now.lasts.items c.args.slot ≡ Some c.index-before.result.now =
    slice_get_read _ _ _ _ refl c.requires c.index-before.ensures in
    let items : c.push.new.self.items ≡ c.args.uses.now.uses.items
    ++ record { clause = c.args.clause; before = c.index-before.result.now } ∷ [] = search rules in
    let count : c.len-2.result ≡ length c.args.uses.now.uses.items = omega (arith, c.len-2.ensures, c.args.uses.now.uses.ok.0) in
    let room : length c.args.uses.now.uses.items < 4294967295 =
    omega (arith, c.len.ensures, c.args.uses.now.uses.ok.0, c.if-len.false) in
    rw (items, count) (use_added _ _ _ _ _ was room)

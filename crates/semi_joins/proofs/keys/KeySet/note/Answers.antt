use Rattle.std.proofs.Common.{◌≡◌, true, subst, sym}
use Rattle.semi_joins.specs.Kept.{is_key, key_at}
use Rattle.semi_joins.proofs.Keeping.{noted_kept}
use Rattle.semi_joins.proofs.keys.KeySet.note.Goals as goal

pub returns-clause-kept : goal.returns-clause-kept
returns-clause-kept c = λ key was.
    noted_kept c.self.inside.set.keys c.insert.new.self.keys (key_at c.args.places.now c.args.row.now) key
    (c.in_ok-insert.ensures.updates.0 key) (subst (λ l. is_key l key ≡ true) (sym c.self.view_is) was)

use Rattle.std.proofs.Common.{◌≡◌}
use Rattle.report_write.specs.Pieces.{differing}
use Rattle.report_write.proofs.shown.Shown.ranking.Goals as goal

pub differing_list-requires : goal.differing_list-requires
differing_list-requires c =
    let value : differing c.in-Some.first.now c.self.inside.completion.now ≡ c.args.self.now = rw c.in-Some.is at
    c.self.view_is in
    record {
      alike = rw c.in-Some.is at c.self.invariant;
      rel = rw value c.requires.rel;
      attr = rw value c.requires.attr;
      ent = rw value c.requires.ent;
    }

use Rattle.std.proofs.Common.{List, subst, sym}
use Rattle.match_candidates.specs.Tables.{AreFor}
use Rattle.match_candidates.specs.declared.place_index.Entry.{Entry}
use Rattle.spec_model.specs.declared.relation.Relation.{Relation}
use Rattle.match_candidates.proofs.Asked.{all_for}
use Rattle.match_candidates.proofs.indexed_table.IndexedTable.candidates.Goals as goal

pub loop-index-init : goal.loop-index-init
loop-index-init c =
    let own = c.self.inside.table.now in
    subst (λ (es : List Entry). AreFor c.args.self.now c.args.atom.now c.args.values.now es) (sym c.as_slice-best.ensures.value)
    (subst (λ (r : Relation). AreFor r c.args.atom.now c.args.values.now c.self.inside.all.items) c.self.view_is
    (all_for own c.args.atom.now c.args.values.now c.self.inside.all.items c.self.invariant.entities))

use Rattle.std.proofs.Common.{◌∙◌, ◌≤◌, ap, length, sym, arith}
use Rattle.std.proofs.lemmas.Bool.{ltb-false}
use Rattle.spec_model.specs.declared.relation.Relation.{Relation}
use Rattle.entity_rows.specs.Members.{members}
use Rattle.match_candidates.proofs.Had.{no_members}
use Rattle.match_candidates.proofs.relation_table.RelationTable.rows_of.Goals as goal

pub returns-in-None : goal.returns-in-None
returns-in-None c =
    let low = ltb-false c.args.ent.0 (length c.as_slice.result.now) (sym c.in-None.ensures.lookup.0) in
    let lists = c.self.invariant.rows.per_entity in
    let own = ap length c.as_slice.ensures in
    let past : length c.self.inside.relation.now.entities ≤ c.args.ent.0 = omega (arith, low, lists, own) in
    sym (ap (λ (r : Relation). members r.rows c.args.ent.0) (sym c.self.view_is)
    ∙ no_members c.self.inside.relation.now c.args.ent.0 c.self.invariant.facts.entities past)

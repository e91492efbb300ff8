use Rattle.std.proofs.Common.{◌≡◌, ◌∷◌, ◌++◌, [], refl, rules}
use Rattle.currency_base.specs.declared.ids.RowId.{RowId}
use Rattle.entity_ties.proofs.LinkSteps.{adds_skip, adds_more}
use Rattle.entity_ties.proofs.links.add_links.Goals as goal
use Rattle.entity_ties.proofs.links.add_links.Goals.{in-Some+in_ok-push-in-Some, in-None}

pub loop-row-preserved : goal.loop-row-preserved
loop-row-preserved c =
    let copy = c.args.copy.now in
    let targets = c.args.targets.now in
    let sources = c.args.sources.now in
    let row : RowId = record { 0 = c.loop-row.row } in
    elim c.match-link_of.branch [
      | in-Some+in_ok-push-in-Some w ↦
          let pushed : c.match-link_of.links.items ≡ c.loop-row.links.items ++ w.in-Some.link ∷ [] = search rules in
          rw pushed (adds_more copy targets sources c.args.first c.args.first_source c.loop-row.row row
          w.in-Some.link c.args.links.now.items c.loop-row.links.items
          refl w.in-Some.ensures.some c.loop-row.invariant)
      | in-None w ↦
          let same : c.match-link_of.links.items ≡ c.loop-row.links.items = search rules in
          rw same (adds_skip copy targets sources c.args.first c.args.first_source c.loop-row.row row
          c.args.links.now.items c.loop-row.links.items
          refl w.in-None.ensures.none c.loop-row.invariant)
    ]

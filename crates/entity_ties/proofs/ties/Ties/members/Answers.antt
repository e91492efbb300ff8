use Rattle.std.proofs.Common.{◌≡◌, ◌∙◌, ℕ, List, [], Contains, Some, slice_get, sym, ap, subst}
use Rattle.std.proofs.lemmas.Option.{get_or_from_slice_get}
use Rattle.entity_ties.specs.Labels.{Labelling}
use Rattle.entity_ties.specs.Parts.{list_at}
use Rattle.entity_ties.specs.declared.cells.Member.{Member}
use Rattle.entity_ties.proofs.ties.Ties.members.Goals as goal

pub returns : goal.returns
returns c m =
    let labels_are : c.self.inside.labels ≡ c.args.self.now.labels = ap (λ (t : Labelling). t.labels) c.self.view_is in
    let list_is : list_at c.self.inside.parts c.args.part ≡ c.as_slice.result.now =
    get_or_from_slice_get c.self.inside.parts c.args.part c.get.result.now [] c.get.ensures ∙ sym c.as_slice.ensures in (
      λ has.
          ap (λ (labels : List (List ℕ)). slice_get (list_at labels m.rel.0) m.ent.0) (sym labels_are)
          ∙ c.self.invariant.only c.args.part m (subst (λ (l : List Member). Contains l m) (sym list_is) has),
      λ of.
          subst (λ (l : List Member). Contains l m) list_is
          (c.self.invariant.each c.args.part m
          (ap (λ (labels : List (List ℕ)). slice_get (list_at labels m.rel.0) m.ent.0) labels_are ∙ of)),
    )

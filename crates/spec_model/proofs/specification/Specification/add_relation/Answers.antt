use Rattle.std.proofs.Common.{◌≡◌, ◌∷◌, ◌++◌, [], ap, rules}
use Rattle.spec_model.specs.Spec.{Spec}
use Rattle.spec_model.proofs.AddedRules.{rules_beside}
use Rattle.spec_model.proofs.AddedCopies.{copies_beside}
use Rattle.spec_model.proofs.specification.Specification.add_relation.Goals as goal
use Rattle.spec_model.proofs.specification.Specification.add_relation.Goals.{in-Ok, in-Err}

pub invariant_of-self : goal.invariant_of-self
invariant_of-self c =
    let same : c.self.inside.relations.items ≡ c.args.self.now.relations = ap (λ (s : Spec). s.relations) c.self.view_is in
    elim c.match-push.branch [
      | in-Ok w ↦
          let more : c.push.new.self.items ≡ c.self.inside.relations.items ++ c.args.relation ∷ [] = search rules in
          record {
            relations = rw (more, same) c.requires;
            rules = rw more (rules_beside c.self.inside.relations.items (c.args.relation ∷ [])
                c.self.inside.rules.items c.self.invariant.rules);
            copies = rw more (copies_beside c.self.inside.relations.items (c.args.relation ∷ [])
                c.self.inside.copies.items c.self.invariant.copies);
          }
      | in-Err w ↦
          let kept : c.push.new.self.items ≡ c.self.inside.relations.items = search rules in
          record {
            relations = rw kept c.self.invariant.relations;
            rules = rw kept c.self.invariant.rules;
            copies =
                rw kept c.self.invariant.copies;
          }
    ]

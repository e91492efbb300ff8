use Rattle.std.proofs.Common.{◌≡◌, ap}
use Rattle.spec_model.specs.Spec.{Spec}
use Rattle.spec_model.proofs.AddedPairs.{read_at}
use Rattle.spec_model.proofs.AddedCopies.{copies_given}
use Rattle.spec_model.proofs.AddedRules.{rules_given}
use Rattle.spec_model.proofs.TakenPairs.{are_relations_taking, takes_given, was_given}
use Rattle.spec_model.proofs.specification.Specification.withdraw_given.Goals as goal

pub invariant_of-self : goal.invariant_of-self
invariant_of-self c =
    let same : c.self.inside.relations.items ≡ c.args.self.now.relations = ap (λ (s : Spec). s.relations) c.self.view_is in
    let read = c.index_mut-relation.ensures.value in
    let here = read_at c.self.inside.relations.items c.args.self.now.relations c.args.rel.0 c.index_mut-relation.result.now
    same c.requires read in
    record {
      relations = are_relations_taking c.self.inside.relations.items c.args.self.now.relations c.args.rel.0
          c.index_mut-relation.result.now c.args.pair c.remove.new.self same c.self.invariant.relations c.requires read
          c.remove.ensures.value;
      rules = rules_given c.self.inside.relations.items c.args.rel.0 c.index_mut-relation.result.now c.remove.new.self
          c.self.inside.rules.items here c.self.invariant.rules;
      copies = copies_given c.self.inside.relations.items c.args.rel.0 c.index_mut-relation.result.now c.remove.new.self
          c.self.inside.copies.items here c.self.invariant.copies;
    }

pub returns-clause-value : goal.returns-clause-value
returns-clause-value c =
    let same : c.self.inside.relations.items ≡ c.args.self.now.relations = ap (λ (s : Spec). s.relations) c.self.view_is in
    takes_given c.self.inside.relations.items c.args.self.now.relations c.args.rel.0 c.index_mut-relation.result.now c.args.pair
    c.remove.new.self same c.requires c.index_mut-relation.ensures.value c.remove.ensures.value

pub returns-clause-was : goal.returns-clause-was
returns-clause-was c =
    let same : c.self.inside.relations.items ≡ c.args.self.now.relations = ap (λ (s : Spec). s.relations) c.self.view_is in
    was_given c.self.inside.relations.items c.args.self.now.relations c.args.rel.0 c.index_mut-relation.result.now c.args.pair
    c.remove.result same c.requires c.index_mut-relation.ensures.value c.remove.ensures.was

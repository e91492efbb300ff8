use Rattle.std.proofs.Common.{◌≡◌, ap}
use Rattle.spec_model.specs.Spec.{Spec}
use Rattle.spec_model.proofs.AddedPairs.{are_relations_adding, are_relations_keeping, adds_given, read_at}
use Rattle.spec_model.proofs.AddedCopies.{copies_given}
use Rattle.spec_model.proofs.AddedRules.{rules_given}
use Rattle.spec_model.proofs.specification.Specification.add_given.Goals as goal
use Rattle.spec_model.proofs.specification.Specification.add_given.Goals.{in-Ok, in-Err}

pub invariant_of-self : goal.invariant_of-self
invariant_of-self c =
    let same : c.self.inside.relations.items ≡ c.args.self.now.relations = ap (λ (s : Spec). s.relations) c.self.view_is in
    let read = c.index_mut-relation.ensures.value in
    record {
      relations = elim c.match-add.branch [
        | in-Ok w ↦ are_relations_adding c.self.inside.relations.items c.args.self.now.relations c.args.rel.0
            c.index_mut-relation.result.now
            c.args.pair c.add.new.self same c.self.invariant.relations c.requires.within read c.requires.fits w.in-Ok.ensures.ok
        | in-Err w ↦ are_relations_keeping c.self.inside.relations.items c.args.self.now.relations c.args.rel.0
            c.index_mut-relation.result.now
            c.add.new.self same c.self.invariant.relations c.requires.within read w.in-Err.ensures.err
      ];
      rules = rules_given c.self.inside.relations.items c.args.rel.0 c.index_mut-relation.result.now c.add.new.self
          c.self.inside.rules.items
          (read_at c.self.inside.relations.items c.args.self.now.relations c.args.rel.0
          c.index_mut-relation.result.now same c.requires.within read)
          c.self.invariant.rules;
      copies = copies_given c.self.inside.relations.items c.args.rel.0 c.index_mut-relation.result.now c.add.new.self
          c.self.inside.copies.items
          (read_at c.self.inside.relations.items c.args.self.now.relations c.args.rel.0
          c.index_mut-relation.result.now same c.requires.within read)
          c.self.invariant.copies;
    }

pub returns-clause-ok : goal.returns-clause-ok
returns-clause-ok c =
    let same : c.self.inside.relations.items ≡ c.args.self.now.relations = ap (λ (s : Spec). s.relations) c.self.view_is in
    elim c.match-add.branch [
      | in-Ok w ↦ rw w.result-is (adds_given c.self.inside.relations.items c.args.self.now.relations c.args.rel.0
          c.index_mut-relation.result.now
          c.args.pair c.add.new.self same c.requires.within c.index_mut-relation.ensures.value w.in-Ok.ensures.ok)
      | in-Err w ↦ rw w.result-is tt
    ]

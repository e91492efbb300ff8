use Rattle.std.proofs.Common.{◌≡◌, ◌<◌, length, ap, refl}
use Rattle.std.proofs.lemmas.Option.{slice_get_read}
use Rattle.spec_model.specs.Spec.{Spec}
use Rattle.spec_model.proofs.TakenRules.{rules_without}
use Rattle.spec_model.proofs.specification.Specification.withdraw_rule.Goals as goal

pub invariant_of-self : goal.invariant_of-self
invariant_of-self c =
    let same : c.self.inside.rules.items ≡ c.args.self.now.rules = ap (λ (s : Spec). s.rules) c.self.view_is in
    let within : c.args.rule.0 < length c.self.inside.rules.items = rw same c.requires in
    record {
      relations = c.self.invariant.relations;
      rules = rw c.remove.ensures.items (rules_without c.self.inside.relations.items c.self.inside.rules.items c.args.rule.0
          within c.self.invariant.rules);
      copies = c.self.invariant.copies;
    }

pub returns-clause-was : goal.returns-clause-was
returns-clause-was c =
    let same : c.self.inside.rules.items ≡ c.args.self.now.rules = ap (λ (s : Spec). s.rules) c.self.view_is in
    slice_get_read c.args.self.now.rules (length c.args.self.now.rules) c.args.rule.0 c.remove.result refl c.requires
    (rw same at c.remove.ensures.value)

use Rattle.forced_closure.proofs.ForcedLaws.{forced_holds}
use Rattle.forced_closure.proofs.laws.forced_pairs_hold.Goals as goal

pub returns : goal.returns
returns c s rankings facts consistent =
    forced_holds s rankings
    record {
      facts = facts;
      consistent = consistent;
      instances = λ k rule is_rule r is_relation.
          (c.satisfied_by_instances.ensures s rankings facts.rules consistent.completion k rule is_rule r is_relation).0
          (consistent.rules k rule is_rule r is_relation);
    }

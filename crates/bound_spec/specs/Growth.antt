-- Specifications as they grow, within limits.
use Rattle.std.specs.Prelude.{◌≡◌, ℕ, List, [], ◌∷◌, ◌++◌, map, Option, Some, None, Result, Ok, Err}
use Rattle.copy_functions.specs.Copies.{CopyFunction}
use Rattle.denial_rules.specs.declared.rule.Rule.{Rule}
use Rattle.spec_model.specs.Spec.{Spec}
use Rattle.spec_model.specs.declared.relation.Relation.{Relation}
use Rattle.spec_limits.specs.Limits.{exceeded, too_many_variables}
use Rattle.spec_limits.specs.Instances.{too_many_instances}
use Rattle.bind_faults.specs.declared.fault.BindFault.{BindFault}
use Rattle.bind_faults.specs.declared.fault.BindFault.TheVariants.{Limit}

-- ---- growth

-- the specification that no statement says
abbrev pub nothing : Spec
nothing = record { relations = []; rules = []; copies = [] }

-- the names of the relations
abbrev pub relation_names : Spec → List (List ℕ)
relation_names s = map (λ r. r.name) s.relations

-- one more relation, after the others
abbrev pub with_relation : Spec → Relation → Spec
with_relation s r = record s { relations = s.relations ++ r ∷ [] }

-- one more rule, after the others
abbrev pub with_rule : Spec → Rule → Spec
with_rule s rule = record s { rules = s.rules ++ rule ∷ [] }

-- one more copy function, after the others
abbrev pub with_copy : Spec → CopyFunction → Spec
with_copy s copy = record s { copies = s.copies ++ copy ∷ [] }

-- ---- limits

-- the specification, unless it exceeds a limit
abbrev pub unless_above : Option ℕ → Spec → Result Spec BindFault
unless_above None s = Ok s
unless_above (Some k) s = Err (Limit k)

-- the specification, unless it exceeds one of limits 4 to 9
abbrev pub limited : Spec → Result Spec BindFault
limited s = unless_above (exceeded s) s

-- the first of two limits that is exceeded
abbrev pub first_limit : Option ℕ → Option ℕ → Option ℕ
first_limit None later = later
first_limit (Some k) later = Some k

-- the specification, unless it exceeds limit 10, or else limit 11
abbrev pub limited_at_last : Spec → Result Spec BindFault
limited_at_last s = unless_above (first_limit (too_many_variables s) (too_many_instances s)) s

-- no limit is exceeded
pub record IsWithinLimits (s : Spec) : Type 0 where
  pub parts : exceeded s ≡ None
  pub variables : too_many_variables s ≡ None
  pub instances : too_many_instances s ≡ None

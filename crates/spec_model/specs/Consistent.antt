-- Consistent completions.
use Rattle.std.specs.Prelude.{◌≡◌, ℕ, List, [], Some, slice_get, slice_index_or, Contains}
use Rattle.currency_base.specs.declared.pair.Pair.{Pair}
use Rattle.copy_functions.specs.Copies.{CopyFunction}
use Rattle.denial_rules.specs.declared.rule.Rule.{Rule}
use Rattle.spec_model.specs.Spec.{Spec}
use Rattle.spec_model.specs.Completion.{Rankings, lists_of, IsCompletion, Before}
use Rattle.spec_model.specs.Satisfies.{SatisfiesRule}
use Rattle.spec_model.specs.Compatible.{Copying, IsCompatible}
use Rattle.spec_model.specs.declared.relation.Relation.{Relation}

-- each given pair is kept: its earlier row stands before its later row in its attribute
abbrev pub KeepsGiven : List Relation → Rankings → Type 0
KeepsGiven relations c = (rel : ℕ) (r : Relation) → slice_get relations rel ≡ Some r
    → (p : Pair) → Contains r.given p → Before (lists_of c rel p.attr.0) p.earlier p.later

-- each of these rules is satisfied on its relation
abbrev pub SatisfiesRules : List Relation → List Rule → Rankings → Type 0
SatisfiesRules relations rules c = (k : ℕ) (rule : Rule) → slice_get rules k ≡ Some rule
    → (r : Relation) → slice_get relations rule.relation.0 ≡ Some r → SatisfiesRule r.rows
    (slice_index_or c rule.relation.0 []) rule

-- a copy function between two relations, whose lists are those of a completion
abbrev pub copying : CopyFunction → Relation → Relation → Rankings → Copying
copying copy target source c = record {
  copy = copy;
  target_rows = target.rows;
  source_rows = source.rows;
  target_lists = slice_index_or c copy.target.0 [];
  source_lists = slice_index_or c copy.source.0 [];
}

-- a completion is compatible with each of these copy functions
abbrev pub IsCompatibleWith : List Relation → List CopyFunction → Rankings → Type 0
IsCompatibleWith relations copies c = (k : ℕ) (copy : CopyFunction) → slice_get copies k ≡ Some copy
    → (target source : Relation) → slice_get relations copy.target.0 ≡ Some target → slice_get relations
    copy.source.0 ≡ Some source
    → IsCompatible (copying copy target source c)

-- a consistent completion of a specification
pub record IsConsistent (s : Spec) (c : Rankings) : Type 0 where
  pub completion : IsCompletion s.relations c
  pub given : KeepsGiven s.relations c
  pub rules : SatisfiesRules s.relations s.rules c
  pub copies : IsCompatibleWith s.relations s.copies c

-- a specification that has a consistent completion
abbrev pub IsSatisfiable : Spec → Type 0
IsSatisfiable s = (c : Rankings) × IsConsistent s c

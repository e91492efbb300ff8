-- Axioms on the order of rows are true: of given pairs, of three rows, of rules and of copied rows.
use Rattle.std.proofs.Common.{◌≡◌, ◌⊎◌, ℕ, List, [], ◌∷◌, All, Contains, Option, Some, None, map, slice_get, slice_index_or, sym, subst, inl, inr}
use Rattle.currency_base.specs.declared.ids.AttrId.{AttrId}
use Rattle.currency_base.specs.declared.ids.RelId.{RelId}
use Rattle.currency_base.specs.declared.ids.RowId.{RowId}
use Rattle.currency_base.specs.declared.pair.Pair.{Pair}
use Rattle.copy_functions.specs.Copies.{CopyFunction}
use Rattle.denial_rules.specs.declared.instance.RuleInstance.{RuleInstance}
use Rattle.denial_rules.specs.declared.rule.Rule.{Rule}
use Rattle.order_literals.specs.Axioms.{conclusion_clause, instance_clause, IsCopyAxiom}
use Rattle.order_literals.specs.Said.{Said, before, not_before}
use Rattle.order_literals.specs.Truth.{OneHolds}
use Rattle.rule_laws.specs.Holds.{PairHolds, ConcludedHolds, InstancesHold}
use Rattle.spec_model.specs.Compatible.{AreCopiedTogether}
use Rattle.spec_model.specs.Completion.{Rankings, lists_of, IsCompletion, Before}
use Rattle.spec_model.specs.Consistent.{IsCompatibleWith}
use Rattle.spec_model.specs.Facts.{AreRules}
use Rattle.spec_model.specs.Satisfies.{Lists, SatisfiesRule}
use Rattle.spec_model.specs.Spec.{Spec}
use Rattle.spec_model.specs.declared.relation.Relation.{Relation}
use Rattle.order_adequacy.proofs.Chosen.{first_holds, later_holds, mapped_holds, front_holds, back_holds, all_or}
use Rattle.order_adequacy.proofs.Decided.{Decided, before_or}
use Rattle.order_adequacy.proofs.Orders.{before_next}

-- a completion satisfies a rule exactly where each of its instances holds
abbrev pub RulesByInstances : Type 0
RulesByInstances = (s : Spec) (c : Rankings) → AreRules s.relations s.rules → IsCompletion s.relations c → (k : ℕ) (rule : Rule)
    → slice_get s.rules k ≡ Some rule → (r : Relation) → slice_get s.relations rule.relation.0 ≡ Some r
    → (SatisfiesRule r.rows (slice_index_or c rule.relation.0 []) rule → InstancesHold r.rows
    (slice_index_or c rule.relation.0 []) rule)
    × (InstancesHold r.rows (slice_index_or c rule.relation.0 []) rule → SatisfiesRule r.rows
    (slice_index_or c rule.relation.0 []) rule)

-- ---- three rows

pub transitive_true : (relations : List Relation) (c : Rankings) (answers : ℕ → Type 0) (rel : RelId) (attr : AttrId)
    (first second third : RowId)
    → IsCompletion relations c
    → OneHolds relations c answers (not_before rel attr first second ∷ not_before rel attr second third
    ∷ before rel attr first third ∷ [])
transitive_true relations c answers rel attr first second third completion =
    by (before_or (lists_of c rel.0 attr.0) first second) (before_or (lists_of c rel.0 attr.0) second third)
  where
    by : Decided (Before (lists_of c rel.0 attr.0) first second) → Decided (Before (lists_of c rel.0 attr.0) second third)
        → OneHolds relations c answers (not_before rel attr first second ∷ not_before rel attr second third
        ∷ before rel attr first third ∷ [])
    by (inr n) later = first_holds n
    by (inl s) (inr n) = later_holds (first_holds n)
    by (inl s) (inl t) = later_holds
        (later_holds (first_holds (before_next relations c rel.0 attr.0 first second third completion s t)))

-- ---- rules

pub instance_true : (relations : List Relation) (c : Rankings) (answers : ℕ → Type 0) (rel : RelId) (i : RuleInstance)
    → (All (PairHolds (slice_index_or c rel.0 [])) i.premises → ConcludedHolds (slice_index_or c rel.0 []) i.conclusion)
    → OneHolds relations c answers (instance_clause rel i)
instance_true relations c answers rel i holds =
    by (all_or (PairHolds lists) i.premises (λ p. before_or (slice_index_or lists p.attr.0 []) p.earlier p.later))
  where
    lists : Lists
    lists = slice_index_or c rel.0 []

    concluding : (o : Option Pair) → ConcludedHolds (slice_index_or c rel.0 []) o → OneHolds relations c answers
        (conclusion_clause rel o)
    concluding None h = absurd h
    concluding (Some p) h = first_holds h

    by : All (PairHolds (slice_index_or c rel.0 [])) i.premises
        ⊎ ((p : Pair) × Contains i.premises p × (PairHolds (slice_index_or c rel.0 []) p → ⊥))
        → OneHolds relations c answers (instance_clause rel i)
    by (inl all) =
        back_holds relations c answers (map (λ p. not_before rel p.attr p.earlier p.later) i.premises)
        (conclusion_clause rel i.conclusion)
        (concluding i.conclusion (holds all))
    by (inr (p, at, never)) =
        front_holds relations c answers (map (λ p. not_before rel p.attr p.earlier p.later) i.premises)
        (conclusion_clause rel i.conclusion)
        (mapped_holds relations c answers (λ p. not_before rel p.attr p.earlier p.later) i.premises p at never)

-- ---- copied rows

pub copy_true : (s : Spec) (c : Rankings) (answers : ℕ → Type 0) (k : ℕ) (copy : CopyFunction) (place : ℕ)
    (first second : RowId) (clause : List Said)
    → IsCompatibleWith s.relations s.copies c → slice_get s.copies k ≡ Some copy → IsCopyAxiom s copy place first second clause
    → OneHolds s.relations c answers clause
copy_true s c answers k copy place first second clause compatible at is =
    subst (OneHolds s.relations c answers) (sym is.clause_is)
    (by (before_or (lists_of c copy.source.0 is.at.source.0) is.first_source is.second_source))
  where
    together : AreCopiedTogether copy is.target.rows is.source.rows first second
    together = record {
      first_source = is.first_source;
      second_source = is.second_source;
      first_is = is.first_from;
      second_is = is.second_from;
      ent = is.targets.ent;
      first_of = is.targets.a_of;
      second_of = is.targets.b_of;
      source_ent = is.sources.ent;
      first_source_of = is.sources.a_of;
      second_source_of = is.sources.b_of;
    }

    by : Decided (Before (lists_of c copy.source.0 is.at.source.0) is.first_source is.second_source)
        → OneHolds s.relations c answers
        (not_before copy.source is.at.source is.first_source is.second_source ∷ before copy.target is.at.target first second ∷ [])
    by (inr n) = first_holds n
    by (inl h) = later_holds (first_holds (compatible k copy at is.target is.source is.is_target is.is_source place
        is.at is.is_place first second together h))

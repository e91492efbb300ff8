-- A consistent completion over a change of what a specification says besides its rows.
use Rattle.std.proofs.Common.{◌≡◌, ◌<◌, ℕ, List, [], All, Contains, Some, length, slice_get, slice_index_or, slice_set, sym, subst, ⊎_elim}
use Rattle.std.proofs.lemmas.Bool.{cases_eq}
use Rattle.std.proofs.lemmas.List.Elements.{All-contains, All-contains_itself, All-weaker}
use Rattle.copy_functions.specs.Copies.{CopyFunction}
use Rattle.currency_base.specs.declared.pair.Pair.{Pair}
use Rattle.denial_rules.specs.declared.rule.Rule.{Rule}
use Rattle.spec_edits.proofs.SameButGiven.{kept_from, shape_kept}
use Rattle.spec_edits.specs.Kept.{AreSameButGiven}
use Rattle.spec_model.specs.Compatible.{IsCompatible}
use Rattle.spec_model.specs.Completion.{Before, IsCompletion, IsRanking, Rankings, lists_of, ranking_of}
use Rattle.spec_model.specs.Consistent.{IsCompatibleWith, IsConsistent, KeepsGiven, SatisfiesRules, copying}
use Rattle.spec_model.specs.Satisfies.{SatisfiesRule}
use Rattle.spec_model.specs.Spec.{Spec}
use Rattle.spec_model.specs.declared.relation.Relation.{Relation}
use Rattle.edit_checks.proofs.Lists.{each_has, item_has, written_here, written_there}

-- ---- the same relations but for their given pairs

completed : (old new : List Relation) (c : Rankings) → AreSameButGiven old new → IsCompletion old c → IsCompletion new c
completed old new c same is =
    record {
      shape = shape_kept old new c same is.shape;
      ranked = λ rel r at.
          let was = kept_from old new rel r same at in
          subst
          (λ (q : Relation). (attr ent : ℕ) → attr < length q.attrs → ent < length q.entities
          → IsRanking q.rows ent (ranking_of c rel attr ent))
          was.same (is.ranked rel was.relation was.is_relation);
    }

satisfied : (old new : List Relation) (rules : List Rule) (c : Rankings) → AreSameButGiven old new
    → SatisfiesRules old rules c → SatisfiesRules new rules c
satisfied old new rules c same is k rule at r at_r =
    let was = kept_from old new rule.relation.0 r same at_r in
    subst (λ (q : Relation). SatisfiesRule q.rows (slice_index_or c rule.relation.0 []) rule) was.same
    (is k rule at was.relation was.is_relation)

compatible : (old new : List Relation) (copies : List CopyFunction) (c : Rankings) → AreSameButGiven old new
    → IsCompatibleWith old copies c → IsCompatibleWith new copies c
compatible old new copies c same is k copy at target source at_target at_source =
    let t = kept_from old new copy.target.0 target same at_target in
    let s = kept_from old new copy.source.0 source same at_source in
    subst (λ (q : Relation). IsCompatible (copying copy target q c)) s.same
    (subst (λ (q : Relation). IsCompatible (copying copy q s.relation c)) t.same
    (is k copy at t.relation s.relation t.is_relation s.is_relation))

-- what was ranked is; the given pairs, the rules and the copy functions are asked for
pub over : (s t : Spec) (c : Rankings) → AreSameButGiven s.relations t.relations → IsConsistent s c
    → KeepsGiven t.relations c → SatisfiesRules s.relations t.rules c → IsCompatibleWith s.relations t.copies c
    → IsConsistent t c
over s t c same is given rules copies =
    record {
      completion = completed s.relations t.relations c same is.completion;
      given = given;
      rules = satisfied s.relations t.relations t.rules c same rules;
      copies = compatible s.relations t.relations t.copies c same copies;
    }

-- ---- given pairs

-- a completion has a pair's rows in its order
abbrev pub Stands : Rankings → ℕ → Pair → Type 0
Stands c rel p = Before (lists_of c rel p.attr.0) p.earlier p.later

pub stand : (relations : List Relation) (c : Rankings) (rel : ℕ) (r : Relation) → KeepsGiven relations c
    → slice_get relations rel ≡ Some r → All (Stands c rel) r.given
stand relations c rel r keeps at =
    All-weaker (Contains r.given) (Stands c rel) (keeps rel r at) r.given (All-contains_itself r.given)

-- other given pairs at one relation
pub given_at : (relations : List Relation) (c : Rankings) (rel : ℕ) (r : Relation) (given : List Pair) → KeepsGiven relations c
    → All (Stands c rel) given → KeepsGiven (slice_set relations rel (record r { given = given })) c
given_at relations c rel r given keeps each other q at =
    ⊎_elim
    (λ (is : other ≡ rel).
    let new : Relation = record r { given = given } in
    let here = subst (λ (n : ℕ). slice_get (slice_set relations rel new) n ≡ Some q) is at in
    let one = written_here relations rel new q here in
    λ (p : Pair) (among : Contains q.given p).
    subst (λ (n : ℕ). Stands c n p) (sym is)
    (All-contains (Stands c rel) given p each (subst (λ (x : Relation). Contains x.given p) (sym one) among)))
    (λ (apart : other ≡ rel → ⊥).
    keeps other q (written_there relations rel other (record r { given = given }) q apart at))
    (cases_eq other rel)

-- ---- rules

-- a rule is satisfied on its relation
abbrev pub Satisfied : List Relation → Rankings → Rule → Type 0
Satisfied relations c rule = (r : Relation) → slice_get relations rule.relation.0 ≡ Some r
    → SatisfiesRule r.rows (slice_index_or c rule.relation.0 []) rule

pub rules_all : (relations : List Relation) (rules : List Rule) (c : Rankings) → SatisfiesRules relations rules c
    → All (Satisfied relations c) rules
rules_all relations rules c is = each_has (Satisfied relations c) rules is

pub rules_each : (relations : List Relation) (rules : List Rule) (c : Rankings) → All (Satisfied relations c) rules
    → SatisfiesRules relations rules c
rules_each relations rules c all = item_has (Satisfied relations c) rules all

-- ---- copy functions

-- a completion is compatible with a copy function
abbrev pub Fits : List Relation → Rankings → CopyFunction → Type 0
Fits relations c copy = (target source : Relation) → slice_get relations copy.target.0 ≡ Some target
    → slice_get relations copy.source.0 ≡ Some source → IsCompatible (copying copy target source c)

pub copies_all : (relations : List Relation) (copies : List CopyFunction) (c : Rankings)
    → IsCompatibleWith relations copies c → All (Fits relations c) copies
copies_all relations copies c is = each_has (Fits relations c) copies is

pub copies_each : (relations : List Relation) (copies : List CopyFunction) (c : Rankings) → All (Fits relations c) copies
    → IsCompatibleWith relations copies c
copies_each relations copies c all = item_has (Fits relations c) copies all

-- An edit keeps the relations but for their given pairs.
use Rattle.std.proofs.Common.{◌≡◌, ◌∙◌, ℕ, Bool, true, false, Option, Some, None, Result, Ok, Err, cond, map, slice_get, refl, sym, ap}
use Rattle.copy_functions.specs.Copies.{CopyFunction, with_source, without_source}
use Rattle.copy_functions.specs.declared.fault.CopyFault.{CopyFault}
use Rattle.currency_base.specs.declared.ids.RowId.{RowId}
use Rattle.currency_base.specs.declared.pair.Pair.{Pair}
use Rattle.partial_orders.specs.Pairs.{has_pair}
use Rattle.spec_limits.specs.Instances.{are_of_one_entity, too_many_instances}
use Rattle.spec_limits.specs.Limits.{exceeded}
use Rattle.spec_model.specs.Facts.{copied_due, with_given, without_given}
use Rattle.spec_model.specs.Spec.{Spec}
use Rattle.spec_model.specs.declared.relation.Relation.{Relation}
use Rattle.spec_edits.specs.Edits.{edited, first_of_limits, giving, is_mapped_to, limited, mapping, taking, unless_above, unless_due, unmapping, with_copy_at, with_relation_at, with_rule, without_rule}
use Rattle.spec_edits.specs.Kept.{AreSameButGiven, without_pairs}
use Rattle.spec_edits.specs.declared.edit.Edit.{Edit}
use Rattle.spec_edits.specs.declared.edit.Edit.TheVariants.{AddGiven, AddRule, MapCopied, UnmapCopied, WithdrawGiven, WithdrawRule}
use Rattle.spec_edits.specs.declared.fault.EditFault.{EditFault}
use Rattle.spec_edits.specs.declared.fault.EditFault.TheVariants.{NotOneEntity, NotThere}
use Rattle.spec_edits.proofs.SameButGiven.{given_aside}

itself : (s t : Spec) → ◌≡◌ {A = Result Spec EditFault} (Ok s) (Ok t) → AreSameButGiven s.relations t.relations
itself s t is = let same : s ≡ t = cc in ap (λ (u : Spec). map without_pairs u.relations) (sym same)

-- what a test lets pass
pub passed : (b : Bool) (new t : Spec) (fault : EditFault) → cond b (Ok new) (Err fault) ≡ Ok t → new ≡ t
passed true new t fault is = cc
passed false new t fault is = cc

unless_kept : (o : Option ℕ) (new t : Spec) → unless_above o new ≡ Ok t → new ≡ t
unless_kept None new t is = cc
unless_kept (Some k) new t is = cc

limited_kept : (new t : Spec) → limited new ≡ Ok t → new ≡ t
limited_kept new t is = unless_kept (first_of_limits (exceeded new) (too_many_instances new)) new t is

due_kept : (due : Option CopyFault) (new t : Spec) → unless_due due (limited new) ≡ Ok t → new ≡ t
due_kept None new t is = limited_kept new t is
due_kept (Some fault) new t is = cc

-- relations that two specifications share
shared : (s new t : Spec) → new.relations ≡ s.relations → new ≡ t → AreSameButGiven s.relations t.relations
shared s new t same is =
    ap (λ (u : Spec). map without_pairs u.relations) (sym is) ∙ ap (map without_pairs) same

giving_kept : (s t : Spec) (rel : ℕ) (pair : Pair) (o : Option Relation) → slice_get s.relations rel ≡ o
    → giving s rel pair o ≡ Ok t → AreSameButGiven s.relations t.relations
giving_kept s t rel pair None at is = itself s t is
giving_kept s t rel pair (Some r) at is =
    let new = with_relation_at s rel (with_given r pair) in
    let same = passed (are_of_one_entity r.rows pair.earlier pair.later) new t NotOneEntity is in
    ap (λ (u : Spec). map without_pairs u.relations) (sym same) ∙ given_aside s.relations rel r (with_given r pair).given at

taking_kept : (s t : Spec) (rel : ℕ) (pair : Pair) (o : Option Relation) → slice_get s.relations rel ≡ o
    → taking s rel pair o ≡ Ok t → AreSameButGiven s.relations t.relations
taking_kept s t rel pair None at is = itself s t is
taking_kept s t rel pair (Some r) at is =
    let new = with_relation_at s rel (without_given r pair) in
    let same = passed (has_pair r.given pair) new t NotThere is in
    ap (λ (u : Spec). map without_pairs u.relations) (sym same) ∙ given_aside s.relations rel r (without_given r pair).given at

mapping_kept : (s t : Spec) (copy : ℕ) (target source : RowId) (o : Option CopyFunction)
    → mapping s copy target source o ≡ Ok t → AreSameButGiven s.relations t.relations
mapping_kept s t copy target source None is = itself s t is
mapping_kept s t copy target source (Some c) is =
    let new = with_copy_at s copy (with_source c target source) in
    shared s new t refl (due_kept (copied_due s copy target source) new t is)

unmapping_kept : (s t : Spec) (copy : ℕ) (target source : RowId) (o : Option CopyFunction)
    → unmapping s copy target source o ≡ Ok t → AreSameButGiven s.relations t.relations
unmapping_kept s t copy target source None is = itself s t is
unmapping_kept s t copy target source (Some c) is =
    let new = with_copy_at s copy (without_source c target) in
    shared s new t refl (passed (is_mapped_to c target source) new t NotThere is)

pub edit_kept : (s t : Spec) (edit : Edit) → edited s edit ≡ Ok t → AreSameButGiven s.relations t.relations
unfolding edited
edit_kept s t (AddGiven rel pair) is = giving_kept s t rel.0 pair (slice_get s.relations rel.0) refl is
edit_kept s t (AddRule rule) is = shared s (with_rule s rule) t refl (limited_kept (with_rule s rule) t is)
edit_kept s t (MapCopied copy target source) is = mapping_kept s t copy.0 target source (slice_get s.copies copy.0) is
edit_kept s t (WithdrawGiven rel pair) is = taking_kept s t rel.0 pair (slice_get s.relations rel.0) refl is
edit_kept s t (WithdrawRule rule) is = shared s (without_rule s rule.0) t refl (passed true (without_rule s rule.0) t NotThere is)
edit_kept s t (UnmapCopied copy target source) is = unmapping_kept s t copy.0 target source (slice_get s.copies copy.0) is

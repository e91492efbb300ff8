-- A consistent completion over withdrawals, over a given pair that it has, and over a rule that it satisfies.
use Rattle.std.proofs.Common.{◌≡◌, ◌∙◌, ℕ, suc, Bool, true, List, All, Option, Some, None, Result, Ok, IfSome, drop, slice_get, take, refl, sym, ap, subst, ⊎_elim}
use Rattle.std.specs.Ordering.{is_eq}
use Rattle.std.proofs.lemmas.Bool.{cases_eq}
use Rattle.std.proofs.lemmas.List.Elements.{All-append, All-drop, All-push, All-set, All-take}
use Rattle.std.proofs.lemmas.Map.Views.{All-insert_key, All-remove_key}
use Rattle.std.proofs.lemmas.Option.{none-some}
use Rattle.copy_functions.proofs.TakenSources.{is_unmapped, others_mapped}
use Rattle.copy_functions.specs.Copies.{CopyFunction, source_at, without_source}
use Rattle.currency_base.specs.declared.ids.CopyId.{CopyId}
use Rattle.currency_base.specs.declared.ids.RelId.{RelId}
use Rattle.currency_base.specs.declared.ids.RowId.{RowId}
use Rattle.currency_base.specs.declared.ids.RuleId.{RuleId}
use Rattle.currency_base.specs.declared.pair.Pair.{Pair}
use Rattle.denial_rules.specs.declared.rule.Rule.{Rule}
use Rattle.partial_orders.specs.Pairs.{has_pair, pair_cmp}
use Rattle.spec_edits.proofs.GivenEdits.{given_pair}
use Rattle.spec_edits.proofs.Kept.{edit_kept, passed}
use Rattle.spec_edits.specs.Edits.{IsPairAt, IsWithdrawal, edited, first_of_limits, giving, is_mapped_to, limited, taking, unless_above, unmapping, with_copy_at, with_relation_at, with_rule, without_rule}
use Rattle.spec_edits.specs.Kept.{AreSameButGiven}
use Rattle.spec_edits.specs.declared.edit.Edit.{Edit}
use Rattle.spec_edits.specs.declared.edit.Edit.TheVariants.{AddGiven, AddRule, MapCopied, UnmapCopied, WithdrawGiven, WithdrawRule}
use Rattle.spec_edits.specs.declared.fault.EditFault.{EditFault}
use Rattle.spec_edits.specs.declared.fault.EditFault.TheVariants.{NotOneEntity, NotThere}
use Rattle.spec_limits.specs.Instances.{are_of_one_entity, too_many_instances}
use Rattle.spec_limits.specs.Limits.{exceeded}
use Rattle.spec_model.specs.Completion.{Rankings}
use Rattle.spec_model.specs.Consistent.{IsCompatibleWith, IsConsistent, KeepsGiven, SatisfiesRules}
use Rattle.spec_model.specs.Facts.{with_given, without_given}
use Rattle.spec_model.specs.Questions.{IsAskedPair}
use Rattle.spec_model.specs.Spec.{Spec}
use Rattle.spec_model.specs.declared.relation.Relation.{Relation}
use Rattle.edit_checks.proofs.Over.{Fits, Satisfied, Stands, copies_all, copies_each, given_at, over, rules_all, rules_each, stand}
use Rattle.edit_checks.specs.Stays.{StaysConsistent}

-- where nothing changes
itself : (s t : Spec) (c : Rankings) → ◌≡◌ {A = Result Spec EditFault} (Ok s) (Ok t) → IsConsistent s c → IsConsistent t c
itself s t c done is = let same : s ≡ t = cc in subst (λ (u : Spec). IsConsistent u c) same is

-- ---- given pairs

-- other given pairs at one relation, all of which the completion has
with_pairs : (s t : Spec) (rel : ℕ) (r : Relation) (given : List Pair) (c : Rankings)
    → AreSameButGiven s.relations t.relations → IsConsistent s c
    → with_relation_at s rel (record r { given = given }) ≡ t → All (Stands c rel) given → IsConsistent t c
with_pairs s t rel r given c same is new each =
    over s t c same is
    (subst (λ (u : Spec). KeepsGiven u.relations c) new (given_at s.relations c rel r given is.given each))
    (subst (λ (u : Spec). SatisfiesRules s.relations u.rules c) new is.rules)
    (subst (λ (u : Spec). IsCompatibleWith s.relations u.copies c) new is.copies)

giving_stays : (s t : Spec) (rel : ℕ) (p : Pair) (c : Rankings) (o : Option Relation) → slice_get s.relations rel ≡ o
    → AreSameButGiven s.relations t.relations → IsConsistent s c → Stands c rel p → giving s rel p o ≡ Ok t
    → IsConsistent t c
giving_stays s t rel p c None at same is stands done = itself s t c done is
giving_stays s t rel p c (Some r) at same is stands done =
    let new = passed (are_of_one_entity r.rows p.earlier p.later) (with_relation_at s rel (with_given r p)) t NotOneEntity done in
    with_pairs s t rel r (with_given r p).given c same is new
    (All-insert_key pair_cmp p (Stands c rel) r.given (stand s.relations c rel r is.given at) stands)

pub added_pair : (s : Spec) (rel : RelId) (p : Pair) (c : Rankings) → IsConsistent s c → Stands c rel.0 p
    → StaysConsistent s (AddGiven rel p) c
unfolding edited
added_pair s rel p c is stands t done =
    giving_stays s t rel.0 p c (slice_get s.relations rel.0) refl (edit_kept s t (AddGiven rel p) done) is stands done

-- a pair of two rows of one entity can be asked about
pub asked_pair : (s : Spec) (rel : RelId) (p : Pair) (told : Bool) → IsPairAt s.relations rel.0 p
    → IfSome (slice_get s.relations rel.0) (λ r. told ≡ are_of_one_entity r.rows p.earlier p.later) → told ≡ true
    → IsAskedPair s.relations (record { rel = rel; pair = p })
asked_pair s rel p told at is one =
    let here : told ≡ are_of_one_entity at.relation.rows p.earlier p.later = rw at.is_relation at is in
    record {
      relation = at.relation;
      is_relation = at.is_relation;
      pair = given_pair at.relation p at.pair (sym here ∙ one);
    }

taking_stays : (s t : Spec) (rel : ℕ) (p : Pair) (c : Rankings) (o : Option Relation) → slice_get s.relations rel ≡ o
    → AreSameButGiven s.relations t.relations → IsConsistent s c → taking s rel p o ≡ Ok t → IsConsistent t c
taking_stays s t rel p c None at same is done = itself s t c done is
taking_stays s t rel p c (Some r) at same is done =
    let new = passed (has_pair r.given p) (with_relation_at s rel (without_given r p)) t NotThere done in
    with_pairs s t rel r (without_given r p).given c same is new
    (All-remove_key (λ q. is_eq (pair_cmp p q)) (Stands c rel) r.given (stand s.relations c rel r is.given at))

pub withdrawn_pair : (s : Spec) (rel : RelId) (p : Pair) (c : Rankings) → IsConsistent s c
    → StaysConsistent s (WithdrawGiven rel p) c
unfolding edited
withdrawn_pair s rel p c is t done =
    taking_stays s t rel.0 p c (slice_get s.relations rel.0) refl (edit_kept s t (WithdrawGiven rel p) done) is done

-- ---- rules

without_stays : (s t : Spec) (k : ℕ) (c : Rankings) → AreSameButGiven s.relations t.relations → IsConsistent s c
    → without_rule s k ≡ t → IsConsistent t c
without_stays s t k c same is new =
    let all = rules_all s.relations s.rules c is.rules in
    let fewer = All-append (Satisfied s.relations c) (take k s.rules) (drop (suc k) s.rules)
    (All-take (Satisfied s.relations c) k s.rules all) (All-drop (Satisfied s.relations c) (suc k) s.rules all) in
    over s t c same is (subst (λ (u : Spec). KeepsGiven u.relations c) new is.given)
    (subst (λ (u : Spec). SatisfiesRules s.relations u.rules c) new
    (rules_each s.relations (without_rule s k).rules c fewer))
    (subst (λ (u : Spec). IsCompatibleWith s.relations u.copies c) new is.copies)

pub withdrawn_rule : (s : Spec) (rule : RuleId) (c : Rankings) → IsConsistent s c → StaysConsistent s (WithdrawRule rule) c
unfolding edited
withdrawn_rule s rule c is t done =
    without_stays s t rule.0 c (edit_kept s t (WithdrawRule rule) done) is (passed true (without_rule s rule.0) t NotThere done)

-- what is made where no limit is exceeded
pub limited_is : (new t : Spec) → limited new ≡ Ok t → new ≡ t
limited_is new t done = unless_above_is (first_of_limits (exceeded new) (too_many_instances new)) new t done
  where
    unless_above_is : (o : Option ℕ) (new t : Spec) → unless_above o new ≡ Ok t → new ≡ t
    unless_above_is None new t done = cc
    unless_above_is (Some k) new t done = cc

-- one more rule, which the completion satisfies
with_stays : (s t : Spec) (rule : Rule) (c : Rankings) → AreSameButGiven s.relations t.relations → IsConsistent s c
    → Satisfied s.relations c rule → with_rule s rule ≡ t → IsConsistent t c
with_stays s t rule c same is one new =
    let more = All-push (Satisfied s.relations c) s.rules rule (rules_all s.relations s.rules c is.rules) one in
    over s t c same is (subst (λ (u : Spec). KeepsGiven u.relations c) new is.given)
    (subst (λ (u : Spec). SatisfiesRules s.relations u.rules c) new
    (rules_each s.relations (with_rule s rule).rules c more))
    (subst (λ (u : Spec). IsCompatibleWith s.relations u.copies c) new is.copies)

pub added_rule : (s : Spec) (rule : Rule) (c : Rankings) → IsConsistent s c → Satisfied s.relations c rule
    → StaysConsistent s (AddRule rule) c
unfolding edited
added_rule s rule c is one t done =
    with_stays s t rule c (edit_kept s t (AddRule rule) done) is one (limited_is (with_rule s rule) t done)

-- ---- copied rows

-- what is mapped with one row less was mapped alike
was_mapped : (f : CopyFunction) (target row source : RowId) → source_at (without_source f target) row ≡ Some source
    → source_at f row ≡ Some source
was_mapped f target row source at =
    ⊎_elim
    (λ (is : row.0 ≡ target.0).
    let same : row ≡ target = ap (λ (n : ℕ). let x : RowId = record { 0 = n } in x) is in
    absurd (none-some source (sym (is_unmapped f target) ∙ (ap (source_at (without_source f target)) (sym same) ∙ at))))
    (λ (apart : row.0 ≡ target.0 → ⊥).
    sym (others_mapped f target row (λ e. apart (ap (λ (x : RowId). x.0) e))) ∙ at)
    (cases_eq row.0 target.0)

fits_less : (relations : List Relation) (c : Rankings) (f : CopyFunction) (row : RowId) → Fits relations c f
    → Fits relations c (without_source f row)
fits_less relations c f row fits target source at_target at_source place_at place is first second rows before =
    fits target source at_target at_source place_at place is first second
    (record {
      first_source = rows.first_source;
      second_source = rows.second_source;
      first_is = was_mapped f row first rows.first_source rows.first_is;
      second_is = was_mapped f row second rows.second_source rows.second_is;
      ent = rows.ent;
      first_of = rows.first_of;
      second_of = rows.second_of;
      source_ent = rows.source_ent;
      first_source_of = rows.first_source_of;
      second_source_of = rows.second_source_of;
    })
    before

unmapping_stays : (s t : Spec) (copy : ℕ) (target source : RowId) (c : Rankings) (o : Option CopyFunction)
    → slice_get s.copies copy ≡ o → AreSameButGiven s.relations t.relations → IsConsistent s c
    → unmapping s copy target source o ≡ Ok t → IsConsistent t c
unmapping_stays s t copy target source c None at same is done = itself s t c done is
unmapping_stays s t copy target source c (Some f) at same is done =
    let less = without_source f target in
    let new = passed (is_mapped_to f target source) (with_copy_at s copy less) t NotThere done in
    let fits : Fits s.relations c f = is.copies copy f at in
    over s t c same is (subst (λ (u : Spec). KeepsGiven u.relations c) new is.given)
    (subst (λ (u : Spec). SatisfiesRules s.relations u.rules c) new is.rules)
    (subst (λ (u : Spec). IsCompatibleWith s.relations u.copies c) new
    (copies_each s.relations (with_copy_at s copy less).copies c
    (All-set (Fits s.relations c) s.copies copy less (fits_less s.relations c f target fits)
    (copies_all s.relations s.copies c is.copies))))

pub withdrawn_copy : (s : Spec) (copy : CopyId) (target source : RowId) (c : Rankings) → IsConsistent s c
    → StaysConsistent s (UnmapCopied copy target source) c
unfolding edited
withdrawn_copy s copy target source c is t done =
    unmapping_stays s t copy.0 target source c (slice_get s.copies copy.0) refl
    (edit_kept s t (UnmapCopied copy target source) done) is done

-- ---- all together

pub withdrawal_stays : (s : Spec) (edit : Edit) (c : Rankings) → IsWithdrawal edit → IsConsistent s c → StaysConsistent s edit c
withdrawal_stays s (AddGiven rel p) c none is = absurd none
withdrawal_stays s (AddRule rule) c none is = absurd none
withdrawal_stays s (MapCopied copy target source) c none is = absurd none
withdrawal_stays s (WithdrawGiven rel p) c of is = withdrawn_pair s rel p c is
withdrawal_stays s (WithdrawRule rule) c of is = withdrawn_rule s rule c is
withdrawal_stays s (UnmapCopied copy target source) c of is = withdrawn_copy s copy target source c is

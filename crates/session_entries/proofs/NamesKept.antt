-- What an edit leaves of the names of a specification.
use Rattle.std.proofs.Common.{◌≡◌, ◌∙◌, ◌++◌, ◌∷◌, [], ℕ, Bool, true, false, map, set, get_or, Option, Some, None, Result, Ok, Err, refl, sym, ap, subst, slice_get}
use Rattle.std.specs.Prelude.{if◌then◌else◌}
use Rattle.std.proofs.lemmas.List.{map-append}
use Rattle.std.proofs.lemmas.Option.{get_or_from_slice_get}
use Rattle.std.proofs.Math.Seq.{map-set_same}
use Rattle.currency_base.specs.declared.ids.RowId.{RowId}
use Rattle.currency_base.specs.declared.pair.Pair.{Pair}
use Rattle.copy_functions.specs.Copies.{CopyFunction, with_source, without_source}
use Rattle.copy_functions.specs.declared.fault.CopyFault.{CopyFault}
use Rattle.denial_rules.specs.declared.rule.Rule.{Rule}
use Rattle.partial_orders.specs.Pairs.{has_pair}
use Rattle.spec_model.specs.Facts.{copied_due, with_given, without_given}
use Rattle.spec_model.specs.Spec.{Spec}
use Rattle.spec_model.specs.declared.relation.Relation.{Relation}
use Rattle.spec_names.specs.Names.{all_names_of, names_of}
use Rattle.spec_edits.specs.Edits.{IsEditOf, edited, giving, is_mapped_to, limited, mapping, taking, unless_above, unless_due, unmapping, with_copy_at, with_relation_at, with_rule, without_rule}
use Rattle.spec_edits.specs.declared.edit.Edit.{Edit}
use Rattle.spec_edits.specs.declared.edit.Edit.TheVariants.{AddGiven, AddRule, MapCopied, UnmapCopied, WithdrawGiven, WithdrawRule}
use Rattle.spec_edits.specs.declared.fault.EditFault.{EditFault}
use Rattle.session_entries.specs.Renamed.{IsFresh, change_of, renamed}

-- the names stay where a relation is replaced by one of the same names
relation_kept : (s : Spec) (rel : ℕ) (r other : Relation) → slice_get s.relations rel ≡ Some r → other.name ≡ r.name
    → names_of other ≡ names_of r → all_names_of (with_relation_at s rel other) ≡ all_names_of s
relation_kept s rel r other here name parts =
    let there : get_or s.relations rel r ≡ r = get_or_from_slice_get s.relations rel r r here in
    let of_relations : map (λ (q : Relation). q.name) (set s.relations rel other) ≡ map (λ
    (q : Relation). q.name) s.relations =
    map-set_same (λ (q : Relation). q.name) s.relations rel other r (name ∙ ap (λ (q : Relation). q.name) (sym there)) in
    let of_parts : map names_of (set s.relations rel other) ≡ map names_of s.relations =
    map-set_same names_of s.relations rel other r (parts ∙ ap names_of (sym there)) in
    cc (of_relations, of_parts)

-- and where a copy function is replaced by one of the same name
copy_kept : (s : Spec) (copy : ℕ) (c other : CopyFunction) → slice_get s.copies copy ≡ Some c → other.name ≡ c.name
    → all_names_of (with_copy_at s copy other) ≡ all_names_of s
copy_kept s copy c other here name =
    let there : get_or s.copies copy c ≡ c = get_or_from_slice_get s.copies copy c c here in
    let of_copies : map (λ (d : CopyFunction). d.name) (set s.copies copy other) ≡ map (λ
    (d : CopyFunction). d.name) s.copies =
    map-set_same (λ (d : CopyFunction). d.name) s.copies copy other c (name
    ∙ ap (λ (d : CopyFunction). d.name) (sym there)) in
    cc of_copies

-- what an edit comes to that keeps the names
abbrev Keeps : Spec → Spec → Result Spec EditFault → Type 0
Keeps s new due = due ≡ Ok new → all_names_of s ≡ all_names_of new

kept_if : (s new made : Spec) (b : Bool) (fault : EditFault) → all_names_of made ≡ all_names_of s
    → Keeps s new (if b then (Ok made) else (Err fault))
kept_if s new made true fault same is = sym same ∙ ap all_names_of (let it : made ≡ new = cc in it)
kept_if s new made false fault same is = absurd (cc)

giving_keeps : (s new : Spec) (rel : ℕ) (pair : Pair) (o : Option Relation) → slice_get s.relations rel ≡ o
    → Keeps s new (giving s rel pair o)
giving_keeps s new rel pair None here is = ap all_names_of (let it : s ≡ new = cc in it)
giving_keeps s new rel pair (Some r) here is =
    kept_if s new (with_relation_at s rel (with_given r pair)) _ _
    (relation_kept s rel r (with_given r pair) here refl refl) is

taking_keeps : (s new : Spec) (rel : ℕ) (pair : Pair) (o : Option Relation) → slice_get s.relations rel ≡ o
    → Keeps s new (taking s rel pair o)
taking_keeps s new rel pair None here is = ap all_names_of (let it : s ≡ new = cc in it)
taking_keeps s new rel pair (Some r) here is =
    kept_if s new (with_relation_at s rel (without_given r pair)) (has_pair r.given pair) _
    (relation_kept s rel r (without_given r pair) here refl refl) is

-- a specification within the limits is the one that is made
limited_is : (s new : Spec) → limited s ≡ Ok new → s ≡ new
limited_is s new is = by _ is
  where
    by : (limit : Option ℕ) → unless_above limit s ≡ Ok new → s ≡ new
    by None none = cc
    by (Some k) some = absurd (cc)

mapping_keeps : (s new : Spec) (copy : ℕ) (target source : RowId) (o : Option CopyFunction) → slice_get s.copies copy ≡ o
    → Keeps s new (mapping s copy target source o)
mapping_keeps s new copy target source None here is = ap all_names_of (let it : s ≡ new = cc in it)
mapping_keeps s new copy target source (Some c) here is = by (copied_due s copy target source) is
  where
    by : (fault : Option CopyFault)
        → Keeps s new (unless_due fault (limited (with_copy_at s copy (with_source c target source))))
    by (Some fault) none = absurd (cc)
    by None made =
        sym (copy_kept s copy c (with_source c target source) here refl) ∙ ap all_names_of (limited_is _ new made)

unmapping_keeps : (s new : Spec) (copy : ℕ) (target source : RowId) (o : Option CopyFunction) → slice_get s.copies copy ≡ o
    → Keeps s new (unmapping s copy target source o)
unmapping_keeps s new copy target source None here is = ap all_names_of (let it : s ≡ new = cc in it)
unmapping_keeps s new copy target source (Some c) here is =
    kept_if s new (with_copy_at s copy (without_source c target)) (is_mapped_to c target source) _
    (copy_kept s copy c (without_source c target) here refl) is

-- the names after an edit are those before it with its change
pub edit_renames : (s new : Spec) (e : Edit) → edited s e ≡ Ok new
    → renamed (all_names_of s) new.rules (change_of e) ≡ all_names_of new
unfolding edited
edit_renames s new (AddGiven rel pair) is = giving_keeps s new rel.0 pair (slice_get s.relations rel.0) refl is
edit_renames s new (AddRule rule) is =
    let made : with_rule s rule ≡ new = limited_is _ new is in
    let more : map (λ (r : Rule). r.name) (s.rules ++ rule ∷ []) ≡ map (λ (r : Rule). r.name) s.rules ++ rule.name ∷ [] =
    map-append (λ (r : Rule). r.name) s.rules (rule ∷ []) in
    ap (λ names. record (all_names_of s) { rules = names }) (sym more) ∙ ap all_names_of made
edit_renames s new (MapCopied copy target source) is =
    mapping_keeps s new copy.0 target source (slice_get s.copies copy.0) refl is
edit_renames s new (WithdrawGiven rel pair) is = taking_keeps s new rel.0 pair (slice_get s.relations rel.0) refl is
edit_renames s new (WithdrawRule rule) is =
    let made : without_rule s rule.0 ≡ new = cc in
    subst (λ (t : Spec). renamed (all_names_of s) t.rules (change_of (WithdrawRule rule)) ≡ all_names_of t) made refl
edit_renames s new (UnmapCopied copy target source) is =
    unmapping_keeps s new copy.0 target source (slice_get s.copies copy.0) refl is

-- the name of a rule that an edit adds is new
pub edit_is_fresh : (s : Spec) (e : Edit) → IsEditOf s e → IsFresh (all_names_of s) (change_of e)
edit_is_fresh s (AddGiven rel pair) there = tt
edit_is_fresh s (AddRule rule) there = there.fresh
edit_is_fresh s (MapCopied copy target source) there = tt
edit_is_fresh s (WithdrawGiven rel pair) there = tt
edit_is_fresh s (WithdrawRule rule) there = tt
edit_is_fresh s (UnmapCopied copy target source) there = tt

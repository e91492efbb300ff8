-- What is found of copy functions by the places of rows, as the definitions say it.
use Rattle.std.proofs.Common.{◌≡◌, ◌∙◌, ℕ, List, Some, All, slice_get, sym, subst}
use Rattle.std.proofs.lemmas.Option.{same_Some}
use Rattle.currency_base.specs.declared.ids.RowId.{RowId}
use Rattle.copy_functions.specs.Copies.{CopyFunction}
use Rattle.spec_model.specs.Spec.{Spec}
use Rattle.spec_model.specs.Facts.{AreRules, AreCopies, IsCopyAmong, IsPlaceBetween}
use Rattle.spec_model.specs.Completion.{Rankings}
use Rattle.spec_model.specs.Consistent.{IsCompatibleWith}
use Rattle.spec_model.specs.FirstFlaw.{IsFirstCopyBroken, IsFirstFlaw}
use Rattle.spec_model.specs.declared.flaw.Flaw.{Flaw}
use Rattle.spec_model.specs.declared.flaw.Flaw.TheVariants.{NotARanking, GivenBroken, RuleBroken, CopyBroken}
use Rattle.spec_model.specs.declared.relation.Relation.{Relation}
use Rattle.completion_check.specs.Tests.{Places}
use Rattle.completion_check.specs.Breaks.{NoRuleBreaks}
use Rattle.completion_check.specs.CopyBreaks.{NoCopyBreaks, IsFirstCopyBreak}
use Rattle.completion_check.specs.Flaws.{AreAllInOrder, IsCopyFlaw}
use Rattle.completion_check.proofs.CopyMeaning.{IsCopyScene, keeps_unbroken, breaks_broken}
use Rattle.completion_check.proofs.Kept.{all_at}
use Rattle.completion_check.proofs.Lifted.{IsMarkedCompletion, scene_of, keeps_given, satisfies_rules}
use Rattle.completion_check.proofs.Places.{get_of_take}

-- a copy function of a specification
copy_scene : (s : Spec) (c : Rankings) (places : List Places) (k : ℕ) (copy : CopyFunction)
    (target source : Relation) → IsMarkedCompletion s.relations c places
    → AreCopies s.relations s.copies → slice_get s.copies k ≡ Some copy → slice_get s.relations copy.target.0 ≡ Some
    target → slice_get s.relations copy.source.0 ≡ Some source
    → IsCopyScene copy target source c places
copy_scene s c places k copy target source is are at at_target at_source =
    let among = all_at (IsCopyAmong s.relations) s.copies k copy are.each at in
    let one_target : among.target ≡ target = same_Some among.target target (sym among.is_target ∙ at_target) in
    let one_source : among.source ≡ source = same_Some among.source source (sym among.is_source ∙ at_source) in
    record {
      in_target = scene_of s.relations c places copy.target.0 target is at_target;
      in_source = scene_of s.relations c places copy.source.0 source is at_source;
      among = subst (λ (q : Relation). All (IsPlaceBetween target q) copy.places) one_source
          (subst (λ (q : Relation). All (IsPlaceBetween q among.source) copy.places) one_target among.places);
    }

pub compatible : (s : Spec) (c : Rankings) (places : List Places) → IsMarkedCompletion s.relations c places
    → AreCopies s.relations s.copies
    → NoCopyBreaks s.relations s.copies places → IsCompatibleWith s.relations s.copies c
compatible s c places is are none k copy at_copy target source at_target at_source at place at_place first second =
    keeps_unbroken copy target source c places at place first second
    (copy_scene s c places k copy target source is are at_copy at_target at_source) at_place
    (λ ent of_first of_second. none k copy at_copy target source at_target at_source at place at_place ent first
    second of_first of_second)

first_copy_broken : (s : Spec) (c : Rankings) (places : List Places) (k at : ℕ) (first second : RowId)
    → IsMarkedCompletion s.relations c places → AreCopies s.relations s.copies
    → IsFirstCopyBreak s.relations s.copies places k at first second → IsFirstCopyBroken s c k at first second
first_copy_broken s c places k at first second is are found =
    let copy = found.copy in
    let target = found.breaks.target in
    let source = found.breaks.source in
    let rows = found.breaks.first_place.rows in
    let place = found.breaks.first_place.place in
    let scene = copy_scene s c places k copy target source is are found.is_copy found.breaks.is_target found.breaks.is_source in
    record {
      copy = copy;
      is_copy = found.is_copy;
      target = target;
      source = source;
      is_target = found.breaks.is_target;
      is_source = found.breaks.is_source;
      place = place;
      is_place = found.breaks.first_place.is_place;
      broken = breaks_broken copy target source c places at place rows.ent first second scene
          found.breaks.first_place.is_place rows.first_of rows.second_of rows.breaks;
      earlier_copies = λ k' copy' at_copy target' source' at_target at_source at' place' at_place t u.
          let there = get_of_take s.copies k k' copy' at_copy in
          keeps_unbroken copy' target' source' c places at' place' t u
          (copy_scene s c places k' copy' target' source' is are there.1 at_target at_source) at_place
          (λ ent of_first of_second. found.earlier k' copy' at_copy target' source' at_target at_source at' place'
          at_place ent t u of_first of_second);
      earlier_places = λ at' place' less at_place t u.
          keeps_unbroken copy target source c places at' place' t u scene at_place
          (λ ent of_first of_second. found.breaks.first_place.earlier at' place' less at_place ent t u of_first of_second);
      earlier_rows = λ t u before.
          keeps_unbroken copy target source c places at place t u scene found.breaks.first_place.is_place
          (λ ent of_first of_second. rows.earlier ent t u before of_first of_second);
    }

pub copy_flaw : (s : Spec) (c : Rankings) (places : List Places) (flaw : Flaw) → IsMarkedCompletion s.relations c
    places → AreRules s.relations s.rules → AreCopies s.relations s.copies
    → AreAllInOrder s.relations places → NoRuleBreaks s.relations s.rules places → IsCopyFlaw s.relations s.copies
    places flaw → IsFirstFlaw s c flaw
copy_flaw s c places (NotARanking rel attr ent) is rules copies order none found = absurd found
copy_flaw s c places (GivenBroken rel pair) is rules copies order none found = absurd found
copy_flaw s c places (RuleBroken rule rows) is rules copies order none found = absurd found
copy_flaw s c places (CopyBroken copy place first second) is rules copies order none found = (
  is.completion,
  keeps_given s.relations c places is order,
  satisfies_rules s.relations s.rules c places is rules none,
  first_copy_broken s c places copy.0 place first second is copies found,
)

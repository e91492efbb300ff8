use Rattle.std.proofs.Common.{◌≡◌, ◌∙◌, ℕ, List, All, length, refl, subst, sym}
use Rattle.entity_ties.specs.Parts.{list_at}
use Rattle.known_models.specs.Changes.{AreBelied, AreModelOf, IsBeside, IsReplaced, Takes}
use Rattle.known_models.specs.Known.{IsKnown, PartedSpec, variables_in}
use Rattle.order_search.proofs.PartNumbers.{list_is}
use Rattle.order_search.proofs.TiedSteps.{all_beside, of_none, takes_both}
use Rattle.order_search.proofs.partwise.replace.Goals as goal

pub replace-requires-clause-known : goal.replace-requires-clause-known
replace-requires-clause-known c =
    subst (λ (p : PartedSpec). IsKnown p c.args.parting.now.known) (sym c.parted-parted.ensures) c.requires.parting.known

pub replace-requires-clause-values : goal.replace-requires-clause-values
replace-requires-clause-values c =
    subst (λ (p : PartedSpec). AreModelOf p c.args.values.now.given c.args.part) (sym c.parted-parted.ensures) c.requires.values

pub take_beside-requires-clause-known : goal.take_beside-requires-clause-known
take_beside-requires-clause-known c = (rw c.in-Ok-None.field-0-is at c.in-Ok-None.ensures.replaced).known

pub take_beside-requires-clause-many : goal.take_beside-requires-clause-many
take_beside-requires-clause-many c =
    subst (λ (p : PartedSpec). length c.args.values.now.given ≡ length (variables_in p)) (sym c.parted-parted.ensures)
    c.requires.values.per_variable

pub take_beside-requires-clause-beside : goal.take_beside-requires-clause-beside
take_beside-requires-clause-beside c =
    let g = c.args.parting.now in
    let given = c.args.values.now.given in
    subst (λ (xs : List ℕ). All (IsBeside c.parted-parted.result given) xs)
    (sym (c.as_slice-members.ensures ∙ list_is g.members c.args.part c.get.result.now c.get.ensures))
    (subst (λ (p : PartedSpec). All (IsBeside p given) (list_at g.members c.args.part)) (sym c.parted-parted.ensures)
    (all_beside c.variables_have_parts.ensures.answers c.args.subject.now g c.requires.parting.parts c.requires.members c.args.part
    given c.requires.beside))

pub returns-in-Ok-None-clause-taken : goal.returns-in-Ok-None-clause-taken
returns-in-Ok-None-clause-taken c =
    let s = c.args.subject.now in
    let g = c.args.parting.now in
    let part = c.args.part in
    let given = c.args.values.now.given in
    let replaced = subst (λ (p : PartedSpec). IsReplaced p given part g.known c.replace.new.self) c.parted-parted.ensures
    (rw c.in-Ok-None.field-0-is at c.in-Ok-None.ensures.replaced) in
    let beside = subst (λ (xs : List ℕ). Takes xs given c.replace.new.self.truths c.take_beside.new.self.truths)
    (c.as_slice-members.ensures ∙ list_is g.members part c.get.result.now c.get.ensures) c.take_beside.ensures.truths in
    record {
      same = record { parts = refl; members = refl; ties = refl };
      known = subst (λ (p : PartedSpec). IsKnown p c.take_beside.new.self) c.parted-parted.ensures c.take_beside.ensures.known;
      truths = takes_both (list_at g.parts.parts part) (list_at g.members part) given g.known.truths c.replace.new.self.truths
          c.take_beside.new.self.truths replaced.truths beside
          (λ var here member.
          let m = c.requires.members.each part var member in
          of_none c.variables_have_parts.ensures.answers s g c.requires.parting.parts m.answer var part m.says here);
      done = c.take_beside.ensures.done ∙ replaced.done;
    }

pub returns-in-Ok-Some-clause-belied : goal.returns-in-Ok-Some-clause-belied
returns-in-Ok-Some-clause-belied c =
    subst (λ (p : PartedSpec). AreBelied p c.args.values.now.given c.args.part c.args.parting.now.known c.in-Ok-Some.cycles)
    c.parted-parted.ensures (rw c.in-Ok-Some.field-0-is at c.in-Ok-Some.ensures.belied)

use Rattle.std.proofs.Common.{◌≡◌, ◌∙◌, ◌<◌, ℕ, Some, ap, length, slice_get, arith, refl, ⊎_elim}
use Rattle.std.proofs.lemmas.Option.{same_Some}
use Rattle.order_search.specs.declared.parting.Tie.{Tie}
use Rattle.order_search.specs.declared.parting.Tie.TheVariants as tie
use Rattle.order_search.specs.Moved.{Joined, Leaves, StaysOut}
use Rattle.order_search.proofs.Growing.{on_ok}
use Rattle.order_search.proofs.Moves.{moved_across, moved_away, moved_in, moved_not}
use Rattle.order_search.proofs.TiedSteps.{list_there}
use Rattle.order_search.proofs.tying.move_tie.Goals as goal

pub returns-in-Loose : goal.returns-in-Loose
returns-in-Loose c =
    let s = c.args.subject.now in
    let old = c.args.parting.now in
    let answer = c.args.answer in
    let loose : slice_get old.ties answer ≡ Some tie.Loose = c.get.ensures ∙ ap (λ (t : Tie). Some t) c.in-Loose.is in
    let below : answer < length old.ties = omega (arith, c.requires.answer, c.requires.members.per_answer) in
    on_ok c.join.result
    (λ joined. ⊎_elim
    (λ (out : StaysOut answer old c.join.new.parting).
    moved_across s old c.join.new.parting c.requires.members answer c.args.var c.requires.says below (Some tie.Loose) loose
    (λ part e. cc) out c.args.home)
    (λ (j : Joined answer c.args.var c.args.home old c.join.new.parting).
    moved_in s old c.join.new.parting c.requires.members answer c.args.var c.requires.says below c.args.home loose j) joined)
    c.join.ensures

pub returns-in-In : goal.returns-in-In
returns-in-In c =
    let s = c.args.subject.now in
    let old = c.args.parting.now in
    let answer = c.args.answer in
    let part = c.in-In.part in
    let is : slice_get old.ties answer ≡ Some (tie.In part) = c.get.ensures ∙ ap (λ (t : Tie). Some t) c.in-In.is in
    let below : answer < length old.ties = omega (arith, c.requires.answer, c.requires.members.per_answer) in
    on_ok c.stay.result
    (λ stayed. ⊎_elim
    (λ (same : (c.args.home ≡ Some part) × (c.stay.new.parting ≡ old)).
    moved_not s old c.stay.new.parting c.requires.members answer c.args.var c.requires.says c.args.home (Some (tie.In part)) is
    (λ e. cc) (λ other e.
    let in_same : tie.In part ≡ tie.In other = same_Some (tie.In part) (tie.In other) e in
    let part_same : part ≡ other = cc in
    same.0 ∙ ap (λ (p : ℕ). Some p) part_same) same.1)
    (λ (leaves : Leaves answer c.args.var part old c.stay.new.parting).
    moved_away s old c.stay.new.parting c.requires.members answer c.args.var c.requires.says below part is leaves c.args.home)
    stayed)
    c.stay.ensures

pub returns-in-Across : goal.returns-in-Across
returns-in-Across c =
    moved_not c.args.subject.now c.args.parting.now c.args.parting.now c.requires.members c.args.answer c.args.var c.requires.says
    c.args.home (Some tie.Across) (c.get.ensures ∙ ap (λ (t : Tie). Some t) c.in-Across.is) (λ e. cc) (λ part e. cc) refl

pub stay-requires-clause-part : goal.stay-requires-clause-part
stay-requires-clause-part c =
    list_there c.args.parting.now.members c.in-In.part c.args.var
    (c.requires.members.all c.in-In.part c.args.answer c.args.var (c.get.ensures ∙ ap (λ (t : Tie). Some t) c.in-In.is)
    c.requires.says)

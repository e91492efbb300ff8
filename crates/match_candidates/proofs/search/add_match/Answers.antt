use Rattle.std.proofs.Common.{◌≡◌, ◌∙◌, ap, sym, true}
use Rattle.match_premises.specs.Premises.{comparisons_are}
use Rattle.ucq_answers.specs.Partly.{values_of}
use Rattle.match_candidates.specs.Meant.{IsLast}
use Rattle.match_candidates.specs.MatchOrder.{made}
use Rattle.match_candidates.proofs.Collecting.{adds_one}
use Rattle.match_candidates.proofs.search.add_match.Goals as goal

pub returns : goal.returns
returns c =
    let number = c.args.source.number in
    let values = values_of c.args.values.now in
    let one = made number c.in_ok-entity_list.field-0 c.in_ok-tuple.tuple in
    let is = ap (λ es. made number es c.in_ok-tuple.tuple) c.in_ok-entity_list.ensures
    ∙ ap (made number c.args.ents.now) c.in_ok-tuple.ensures in
    let hold : comparisons_are values c.args.source.tests.now ≡ true =
    ap (λ xs. comparisons_are xs c.args.source.tests.now) (sym (c.as_slice.ensures ∙ c.in_ok-tuple.ensures))
    ∙ sym c.if-not-comparisons_hold.ensures in
    adds_one (IsLast c.args.source.tests.now number c.args.ents.now c.args.values.now) c.args.found.now c.add.new.self one
    c.in_ok-add.field-0 c.in_ok-add.ensures.bound c.in_ok-add.ensures.matches c.in_ok-add.ensures.full
    record { is = is; compared = hold } (λ other last. is ∙ sym last.is)

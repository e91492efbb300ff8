use Rattle.std.proofs.Common.{◌≡◌, ◌+◌, ◌≤◌, ℕ, length, get_or, arith}
use Rattle.std.proofs.lemmas.List.{length-map}
use Rattle.std.proofs.lemmas.Option.{slice_get-get_or}
use Rattle.report_verify.proofs.Fronts.{all_more, all_taken}
use Rattle.report_verify.proofs.Needing.{first_unmet, pair_at, pair_need}
use Rattle.report_verify.proofs.needs.check_pairs.Goals as goal
use Rattle.report_verify.specs.Supported.{IsDerived, pair_needs}
use Rattle.spec_model.specs.declared.question.Asked.{Asked}

-- what is read past the end
abbrev blank : Asked
blank = record {
  rel = record { 0 = 0 };
  pair = record {
    attr = record { 0 = 0 };
    earlier = record { 0 = 0 };
    later =
        record { 0 = 0 };
  };
}

pub returns-then-not-has_before-clause-unmet : goal.returns-then-not-has_before-clause-unmet
returns-then-not-has_before-clause-unmet c =
    let pairs = c.args.pairs.now in
    let place = c.loop-place.place in
    let p = get_or pairs place blank in
    let relations = c.args.units.now.relations in
    let log = c.args.units.now.log in
    c.unmet.ensures 0 place relations log (pair_needs pairs) (plain place)
    (first_unmet relations log (pair_needs pairs) place (pair_need p)
    (pair_at pairs place p (slice_get-get_or pairs place blank c.loop-place-test.true))
    (c.has_before.ensures.missing c.if-not-has_before.true) c.loop-place.invariant)
  where
    plain : (n : ℕ) → n ≡ 0 + n
    plain n = omega arith

pub loop-place-preserved : goal.loop-place-preserved
loop-place-preserved c =
    let pairs = c.args.pairs.now in
    let place = c.loop-place.place in
    let p = get_or pairs place blank in
    all_more (IsDerived c.args.units.now.relations c.args.units.now.log) (pair_needs pairs) place (pair_need p)
    (pair_at pairs place p (slice_get-get_or pairs place blank c.loop-place-test.true)) c.loop-place.invariant
    (c.has_before.ensures.there c.if-not-has_before.false)

pub returns-clause-derived : goal.returns-clause-derived
returns-clause-derived c =
    let past : length (pair_needs c.args.pairs.now) ≤ c.loop-place.place =
    (let test = c.loop-place-test.false in omega (arith, test, length-map c.args.pairs.now pair_need)) in
    all_taken (IsDerived c.args.units.now.relations c.args.units.now.log) (pair_needs c.args.pairs.now)
    c.loop-place.place past c.loop-place.invariant

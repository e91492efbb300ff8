use Rattle.std.proofs.Common.{◌≤◌, ◌*◌, ◌∙◌, ℕ, length, sym, ap, arith, refl}
use Rattle.std.specs.List.{count_by, range_with_len}
use Rattle.std.proofs.lemmas.List.FromFn.{length-range_with_len}
use Rattle.spec_limits.specs.Instances.{copy_partners, is_copy_instance}
use Rattle.spec_limits.specs.Left.{left_of}
use Rattle.spec_limits.proofs.Leaving.{goes_on, stops, ends}
use Rattle.spec_limits.proofs.OfSpec.{pairs_sum, partners_sum, place, read_at}
use Rattle.spec_limits.proofs.copies.left_by_copy.Goals as goal

pub returns-in_default : goal.returns-in_default
returns-in_default c =
    let copy = c.args.copy.now in
    let target = c.args.target.now in
    let source = c.args.source.now in
    let first = c.loop-at.at in
    let row = c.index-target-at.result in
    let term = λ (first : ℕ). length copy.places * copy_partners copy target source first in
    let partners = ap (count_by (is_copy_instance copy target source (record { 0 = first }))) c.as_slice-others.ensures
    ∙ partners_sum copy target source c.args.entities.now first row c.get.result.now c.requires.lists
    (read_at target first first row refl c.loop-at-test.true c.index-target-at.is) c.get.ensures in
    let here = c.left_by_first.ensures ∙ ap (λ n. left_of c.loop-at.left (length copy.places * n)) partners in
    let at = place (length target) first c.loop-at-test.true in
    sym (ap (left_of c.args.left) (sym (pairs_sum copy target source))
    ∙ stops term (range_with_len 0 (length target)) first first c.args.left c.loop-at.left at.0 at.1
    c.loop-at.invariant (sym here ∙ c.in_default.is))

pub loop-at-preserved : goal.loop-at-preserved
loop-at-preserved c =
    let copy = c.args.copy.now in
    let target = c.args.target.now in
    let source = c.args.source.now in
    let first = c.loop-at.at in
    let row = c.index-target-at.result in
    let term = λ (first : ℕ). length copy.places * copy_partners copy target source first in
    let partners = ap (count_by (is_copy_instance copy target source (record { 0 = first }))) c.as_slice-others.ensures
    ∙ partners_sum copy target source c.args.entities.now first row c.get.result.now c.requires.lists
    (read_at target first first row refl c.loop-at-test.true c.index-target-at.is) c.get.ensures in
    let here = c.left_by_first.ensures ∙ ap (λ n. left_of c.loop-at.left (length copy.places * n)) partners in
    let at = place (length target) first c.loop-at-test.true in
    goes_on term (range_with_len 0 (length target)) first first c.args.left c.loop-at.left c.in-Some.rest at.0 at.1
    c.loop-at.invariant (sym here ∙ c.in-Some.is)

pub returns : goal.returns
returns c =
    let copy = c.args.copy.now in
    let target = c.args.target.now in
    let source = c.args.source.now in
    let all : length (range_with_len 0 (length target)) ≤ c.loop-at.at = omega (arith, length-range_with_len 0 (length target)) in
    sym (ap (left_of c.args.left) (sym (pairs_sum copy target source))
    ∙ ends (λ first. length copy.places * copy_partners copy target source first) (range_with_len 0 (length target))
    c.loop-at.at c.args.left c.loop-at.left all
    c.loop-at.invariant)

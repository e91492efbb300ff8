use Rattle.std.proofs.Common.{sym, subst}
use Rattle.std.proofs.lemmas.Result.{IfErr-weaker, on_ok_weaker}
use Rattle.spec_model.specs.FirstFlaw.{IsFirstFlaw}
use Rattle.completion_check.specs.Breaks.{NoRuleBreaks}
use Rattle.completion_check.specs.CopyBreaks.{NoCopyBreaks}
use Rattle.completion_check.specs.Flaws.{AreMarkedIn, AreAllInOrder, IsPairFlaw, IsRuleFlaw, IsCopyFlaw}
use Rattle.completion_check.proofs.CopyLifted.{copy_flaw, compatible}
use Rattle.completion_check.proofs.Lifted.{IsMarkedCompletion, pair_flaw, rule_flaw, consistent}
use Rattle.completion_check.proofs.check.check_completion.Goals as goal

pub returns-in-Err-clause-flaw : goal.returns-in-Err-clause-flaw
returns-in-Err-clause-flaw c =
    let same = c.relations-relations.ensures.value in
    let rs = c.args.spec.now.relations in
    let ps = c.as_slice-places.result.now in
    let marked : AreMarkedIn rs c.args.completion.now ps = subst (AreMarkedIn rs c.args.completion.now)
    (sym c.as_slice-places.ensures.value) (rw same at c.in_ok-check_rankings.ensures.marked) in
    let is : IsMarkedCompletion rs c.args.completion.now ps =
    record {
      facts = c.relations-relations.ensures.facts;
      completion =
          rw same at c.in_ok-check_rankings.ensures.ok;
      marked = marked;
    } in
    let found : IsPairFlaw rs ps c.in-Err.flaw = rw same at c.in-Err.ensures.err in
    pair_flaw c.args.spec.now c.args.completion.now ps c.in-Err.flaw is found

pub returns-in-Err-check_rules-clause-flaw : goal.returns-in-Err-check_rules-clause-flaw
returns-in-Err-check_rules-clause-flaw c =
    let same = c.relations-relations.ensures.value in
    let rs = c.args.spec.now.relations in
    let ps = c.as_slice-places.result.now in
    let marked : AreMarkedIn rs c.args.completion.now ps = subst (AreMarkedIn rs c.args.completion.now)
    (sym c.as_slice-places.ensures.value) (rw same at c.in_ok-check_rankings.ensures.marked) in
    let is : IsMarkedCompletion rs c.args.completion.now ps =
    record {
      facts = c.relations-relations.ensures.facts;
      completion =
          rw same at c.in_ok-check_rankings.ensures.ok;
      marked = marked;
    } in
    let order : AreAllInOrder rs ps = rw same at c.in_default.ensures.ok in
    let found : IsRuleFlaw rs c.args.spec.now.rules ps c.in-Err-check_rules.flaw = rw (same, c.rules.ensures.value)
    at c.in-Err-check_rules.ensures.err in
    rule_flaw c.args.spec.now c.args.completion.now ps c.in-Err-check_rules.flaw is c.rules.ensures.facts order found

pub returns-clause-consistent : goal.returns-clause-consistent
returns-clause-consistent c =
    let same = c.relations-relations.ensures.value in
    let rs = c.args.spec.now.relations in
    let ps = c.as_slice-places.result.now in
    let marked : AreMarkedIn rs c.args.completion.now ps = subst (AreMarkedIn rs c.args.completion.now)
    (sym c.as_slice-places.ensures.value) (rw same at c.in_ok-check_rankings.ensures.marked) in
    let is : IsMarkedCompletion rs c.args.completion.now ps =
    record {
      facts = c.relations-relations.ensures.facts;
      completion =
          rw same at c.in_ok-check_rankings.ensures.ok;
      marked = marked;
    } in
    let order : AreAllInOrder rs ps = rw same at c.in_default.ensures.ok in
    let none : NoRuleBreaks rs c.args.spec.now.rules ps = rw (same, c.rules.ensures.value) at
    c.in_default-check_rules.ensures.ok in
    on_ok_weaker c.check_copies.result
    (λ (unbroken : NoCopyBreaks rs c.args.spec.now.copies ps). consistent c.args.spec.now c.args.completion.now ps is
    c.rules.ensures.facts order none
    (compatible c.args.spec.now c.args.completion.now ps is c.copies.ensures.facts unbroken))
    (rw (same, c.copies.ensures.value) at c.check_copies.ensures.ok)

pub returns-clause-flaw : goal.returns-clause-flaw
returns-clause-flaw c =
    let same = c.relations-relations.ensures.value in
    let rs = c.args.spec.now.relations in
    let ps = c.as_slice-places.result.now in
    let marked : AreMarkedIn rs c.args.completion.now ps = subst (AreMarkedIn rs c.args.completion.now)
    (sym c.as_slice-places.ensures.value) (rw same at c.in_ok-check_rankings.ensures.marked) in
    let is : IsMarkedCompletion rs c.args.completion.now ps =
    record {
      facts = c.relations-relations.ensures.facts;
      completion =
          rw same at c.in_ok-check_rankings.ensures.ok;
      marked = marked;
    } in
    let order : AreAllInOrder rs ps = rw same at c.in_default.ensures.ok in
    let none : NoRuleBreaks rs c.args.spec.now.rules ps = rw (same, c.rules.ensures.value) at
    c.in_default-check_rules.ensures.ok in
    IfErr-weaker c.check_copies.result (IsCopyFlaw rs c.args.spec.now.copies ps)
    (IsFirstFlaw c.args.spec.now c.args.completion.now)
    (λ flaw found. copy_flaw c.args.spec.now c.args.completion.now ps flaw is c.rules.ensures.facts
    c.copies.ensures.facts order none found)
    (rw (same, c.copies.ensures.value) at c.check_copies.ensures.err)

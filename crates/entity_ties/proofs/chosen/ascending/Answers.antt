use Rattle.std.proofs.Common.{◌≡◌, subst, rules}
use Rattle.std.specs.List.Sorted.{IsPermutation}
use Rattle.std.proofs.lemmas.List.Filters.{dedup_is}
use Rattle.std.proofs.lemmas.List.Kept.{Contains-dedup_nat, Contains-from_dedup}
use Rattle.std.proofs.lemmas.List.Sorted.{Contains-permutation, IsPermutation-sym}
use Rattle.std.proofs.lemmas.Map.Keys.{IsStrictlyIncreasing-dedup}
use Rattle.entity_ties.proofs.chosen.ascending.Goals as goal

pub returns : goal.returns
returns c =
    let is = dedup_is _ _ _ c.dedup.ensures.filtered in
    let copied : c.extend_from_slice.new.self.items ≡ c.args.numbers.now = search rules in
    let moved : IsPermutation c.args.numbers.now c.sort_unstable.new.self.items =
    subst (λ l. IsPermutation l c.sort_unstable.new.self.items) copied c.sort_unstable.ensures.permutation in
    record {
      ascend = rw is (IsStrictlyIncreasing-dedup _ c.sort_unstable.ensures.sorted);
      same = λ x. (
        λ h. Contains-permutation _ _ x (IsPermutation-sym _ _ moved) (Contains-from_dedup _ _ x (rw is at h)),
        λ h. rw is (Contains-dedup_nat _ x (Contains-permutation _ _ x moved h)),
      );
    }

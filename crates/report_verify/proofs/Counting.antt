-- One step more is counted.
use Rattle.std.proofs.Common.{◌≡◌, ◌+◌, ℕ, Bool, true, false, cond, List, take, Some, get_or, slice_get, ap, ◌∙◌, arith}
use Rattle.std.proofs.lemmas.List.Sums.{count_by_more_yes, count_by_more_no}
use Rattle.std.proofs.lemmas.Option.{get_or_from_slice_get, slice_get_within}
use Rattle.refutation_log.specs.Counted.{counted_steps}
use Rattle.refutation_log.specs.Steps.{is_counted}
use Rattle.refutation_log.specs.declared.step.Step.{Step}

pub counted_more : (steps : List Step) (k : ℕ) (step : Step) → slice_get steps k ≡ Some step
    → counted_steps (take (k + 1) steps) ≡ counted_steps (take k steps) + cond (is_counted step) 1 0
counted_more steps k step at = by (is_counted step) (ap is_counted (get_or_from_slice_get steps k step step at))
  where
    by : (b : Bool) → is_counted (get_or steps k step) ≡ b
        → counted_steps (take (k + 1) steps) ≡ counted_steps (take k steps) + cond b 1 0
    by true e = count_by_more_yes is_counted steps k step (slice_get_within steps k step at) e
    by false e = count_by_more_no is_counted steps k step (slice_get_within steps k step at) e
        ∙ zero_more (counted_steps (take k steps))
      where
        zero_more : (n : ℕ) → n ≡ n + 0
        zero_more n = omega arith

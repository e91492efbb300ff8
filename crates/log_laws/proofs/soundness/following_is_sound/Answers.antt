use Rattle.std.proofs.Common.{◌≡◌, true}
use Rattle.refutation_log.specs.Counted.{holds}
use Rattle.log_laws.proofs.Sound.{holds_is_truth, follows_true}
use Rattle.log_laws.proofs.soundness.following_is_sound.Goals as goal

pub returns : goal.returns
returns c truth = follows_true (λ lit. holds truth lit ≡ true) (holds_is_truth truth)

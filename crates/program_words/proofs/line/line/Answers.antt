use Rattle.std.proofs.Common.{◌≡◌, ◌∙◌, ap}
use Rattle.std.proofs.lemmas.Result.{IfOk-weaker}
use Rattle.clap.specs.Simple.{Shape}
use Rattle.clap.specs.Words.{App, with_subcommand}
use Rattle.program_words.specs.Line.{ask_shape, conflicts_shape, explain_shape, forced_shape, golden_shape, line}
use Rattle.program_words.specs.Line.{possible_shape, session_shape, trial_shape, verify_shape}
use Rattle.program_words.proofs.line.line.Goals as goal

-- one more subcommand after those that are known
then : {a b c : App} (s : Shape) → c ≡ with_subcommand b s → b ≡ a → c ≡ with_subcommand a s
then s is before = is ∙ ap (λ a. with_subcommand a s) before

pub returns : goal.returns
unfolding line
returns c =
    let asks = then ask_shape (c.in_ok-with_ask.ensures ask_shape c.ask.ensures.shape) c.bare_line.ensures in
    let verifies = then verify_shape (c.in_ok-with_verify.ensures verify_shape c.verify.ensures.shape) asks in
    let forces = then forced_shape (c.in_ok-with_forced.ensures forced_shape c.forced.ensures.shape) verifies in
    let tries = then trial_shape (c.in_ok-with_trial.ensures trial_shape c.trial.ensures.shape) forces in
    let explains = then explain_shape (c.in_ok-with_explain.ensures explain_shape c.explain.ensures.shape) tries in
    let conflicting =
    then conflicts_shape (c.in_ok-with_conflicts.ensures conflicts_shape c.conflicts.ensures.shape) explains in
    let finds = then golden_shape (c.in_ok-with_golden.ensures golden_shape c.golden.ensures.shape) conflicting in
    let may = then possible_shape (c.in_ok-with_possible.ensures possible_shape c.possible.ensures.shape) finds in
    IfOk-weaker c.with_subcommand-9.result _ _ (λ r h. then session_shape h may)
    (c.with_subcommand-9.ensures session_shape c.session.ensures.shape)

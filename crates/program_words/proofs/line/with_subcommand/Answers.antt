use Rattle.std.proofs.Common.{◌≡◌, ◌∙◌, ap, subst}
use Rattle.std.specs.Prelude.{IfOk}
use Rattle.std.proofs.lemmas.Result.{IfOk-weaker}
use Rattle.clap.specs.Words.{app_of, shape_of, with_subcommand}
use Rattle.program_words.proofs.line.with_subcommand.Goals as goal

pub returns : goal.returns
returns c = λ shape is.
    let same : shape_of c.in_ok-subcommand.field-0 ≡ shape =
    subst (λ r. IfOk r (λ s. shape_of s ≡ shape)) c.in_ok-subcommand.was is in
    IfOk-weaker c.added.result _ _ (λ r h. h ∙ ap (λ s. with_subcommand (app_of c.args.command) s) same) c.added.ensures

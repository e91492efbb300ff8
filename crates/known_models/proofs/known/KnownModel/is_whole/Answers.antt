use Rattle.std.proofs.Common.{◌≡◌, ◌∙◌, refl, sym, ap}
use Rattle.std.proofs.lemmas.Bool.{eqb-true}
use Rattle.known_models.specs.Changes.{left_in}
use Rattle.known_models.specs.Known.{KnownModel}
use Rattle.known_models.proofs.Counting.{all_done, none_left}
use Rattle.known_models.proofs.known.KnownModel.is_whole.Goals as goal

pub returns : goal.returns
returns c =
    let done : c.self.inside.done.items ≡ c.args.self.now.done = ap (λ (k : KnownModel). k.done) c.self.view_is in
    let left : c.self.inside.left ≡ left_in c.args.self.now.done = c.self.invariant.left_is ∙ ap left_in done in (
      λ e. none_left c.args.self.now.done (sym left ∙ eqb-true c.self.inside.left 0 e),
      λ whole. rw (left ∙ all_done c.args.self.now.done whole) refl,
    )

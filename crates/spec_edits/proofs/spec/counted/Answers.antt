use Rattle.std.proofs.Common.{◌∙◌, ℕ, Option, sym, refl, subst}
use Rattle.std.specs.Option.{IsSome}
use Rattle.spec_edits.proofs.Counting.{some_left}
use Rattle.spec_edits.proofs.spec.counted.Goals as goal

pub unwrap-left-requires : goal.unwrap-left-requires
unwrap-left-requires c =
    subst (λ (o : Option ℕ). IsSome o) (sym (c.left_by_all.ensures ∙ some_left c.args.spec.now c.requires.instances)) refl

use Rattle.std.proofs.Common.{◌≡◌, ◌∙◌, Option, Bool, false, Some, None, is_some, refl, slice_get, ap, sym, subst, arith}
use Rattle.search_trail.specs.Trails.{IsFree, ScopedValues, values_of}
use Rattle.search_trail.proofs.KnownValues.{is_free, is_variable}
use Rattle.worked_rows.proofs.guessed.give.Goals as goal

is_nothing : (o : Option Bool) → is_some o ≡ false → o ≡ None
is_nothing None none = refl
is_nothing (Some b) none = cc

pub assume-requires-clause-within : goal.assume-requires-clause-within
assume-requires-clause-within c =
    let t = c.args.trail.now in
    let at : slice_get (values_of t).given c.args.var ≡ Some c.value.result =
    ap (λ (vs : ScopedValues). slice_get vs.given c.args.var) (sym c.values-then-var-len.ensures) ∙ c.value.ensures in
    let within = is_variable t c.args.var c.value.result at in
    let same = c.new.ensures.var in
    omega arith

pub assume-requires-clause-free : goal.assume-requires-clause-free
assume-requires-clause-free c =
    let t = c.args.trail.now in
    let at : slice_get (values_of t).given c.args.var ≡ Some c.value.result =
    ap (λ (vs : ScopedValues). slice_get vs.given c.args.var) (sym c.values-then-var-len.ensures) ∙ c.value.ensures in
    let none = is_nothing c.value.result c.if-is_none.ensures in
    subst (IsFree t) (sym c.new.ensures.var) (is_free t c.args.var (at ∙ ap Some none))

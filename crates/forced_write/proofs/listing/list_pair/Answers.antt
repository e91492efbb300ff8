use Rattle.std.proofs.Common.{[], ◌∷◌, ◌++◌, sym, subst}
use Rattle.std.proofs.lemmas.Result.{on_ok_weaker}
use Rattle.spec_model.specs.declared.question.Asked.{Asked}
use Rattle.forced_write.specs.Listing.{AreListed}
use Rattle.forced_write.proofs.Growing.{listed_more, listed_past, not_both}
use Rattle.forced_write.proofs.listing.list_pair.Goals as goal

pub returns-then-not-has : goal.returns-then-not-has
returns-then-not-has c = λ laters below are.
    let p : Asked = record { rel = c.args.rel; pair = c.args.pair } in
    listed_past c.args.closure.now.spec p laters c.args.pairs.now (λ forced. not_both c.has.result c.if-not-has.true
    (c.has.ensures.1 forced)) are

pub returns : goal.returns
returns c =
    let s = c.args.closure.now.spec in
    let p : Asked = record { rel = c.args.rel; pair = c.args.pair } in
    on_ok_weaker c.push.result
    (λ is. λ laters below are. subst (AreListed s p.rel.0 p.pair.attr.0 p.pair.earlier.0 (laters ++ p.pair.later ∷ [])) (sym is)
    (listed_more s p laters c.args.pairs.now (c.has.ensures.0 c.if-not-has.false) below are))
    c.push.ensures.ok

use Rattle.std.proofs.Common.{◌≡◌, ◌≢◌, Some, length, slice_get, refl, sym}
use Rattle.std.proofs.lemmas.Option.{slice_get_read, slice_get_within}
use Rattle.std.proofs.lemmas.Result.{on_ok_weaker}
use Rattle.entity_ties.proofs.Linked.{joined, joined_round}
use Rattle.entity_ties.proofs.classes.join.Goals as goal

pub returns-then-len-clause-joined : goal.returns-then-len-clause-joined
returns-then-len-clause-joined c =
    let labels = c.args.labels.now.items in
    let at_one : slice_get labels c.args.one ≡ Some c.index.result.now =
    slice_get_read labels (length labels) c.args.one c.index.result.now refl c.requires.one c.index.ensures in
    let at_other : slice_get labels c.args.other ≡ Some c.index-2.result.now =
    slice_get_read labels (length labels) c.args.other c.index-2.result.now refl c.requires.other c.index-2.ensures in
    on_ok_weaker c.unite.result (λ is.
    joined c.args.one c.args.other c.index.result.now c.index-2.result.now labels c.unite.new.labels.items at_one
    at_other c.if-one-other.false is)
    c.unite.ensures.united

pub unite-requires-2-clause-from : goal.unite-requires-2-clause-from
unite-requires-2-clause-from c = slice_get_within c.args.members.now c.index-2.result.now c.get-2.result.now c.get-2.ensures

pub unite-requires-2-clause-to : goal.unite-requires-2-clause-to
unite-requires-2-clause-to c = slice_get_within c.args.members.now c.index.result.now c.get.result.now c.get.ensures

pub returns-clause-joined : goal.returns-clause-joined
returns-clause-joined c =
    let labels = c.args.labels.now.items in
    let at_one : slice_get labels c.args.one ≡ Some c.index.result.now =
    slice_get_read labels (length labels) c.args.one c.index.result.now refl c.requires.one c.index.ensures in
    let at_other : slice_get labels c.args.other ≡ Some c.index-2.result.now =
    slice_get_read labels (length labels) c.args.other c.index-2.result.now refl c.requires.other c.index-2.ensures in
    let apart : c.index-2.result.now ≢ c.index.result.now = λ e. c.if-one-other.false (sym e) in
    on_ok_weaker c.unite-2.result (λ is.
    joined_round c.args.one c.args.other labels c.unite-2.new.labels.items
    (joined c.args.other c.args.one c.index-2.result.now c.index.result.now labels c.unite-2.new.labels.items
    at_other at_one apart is))
    c.unite-2.ensures.united

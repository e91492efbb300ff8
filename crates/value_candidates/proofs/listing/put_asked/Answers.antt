use Rattle.std.proofs.Common.{◌≡◌, get_or, length, refl}
use Rattle.std.proofs.lemmas.Option.{slice_get_read}
use Rattle.value_candidates.proofs.Marking.{is_asked, not_asked}
use Rattle.value_candidates.proofs.Placing.{relation_not_asked}
use Rattle.value_candidates.proofs.listing.put_asked.Goals as goal

pub returns-then-not-marks-rel : goal.returns-then-not-marks-rel
returns-then-not-marks-rel c = λ rels marks so_far.
    relation_not_asked c.args.spec.now.relations rels c.args.rel c.args.claims.now
    (not_asked rels (length c.args.spec.now.relations) c.args.marks.now c.args.rel marks c.if-not-marks-rel.true) so_far

pub returns : goal.returns
returns c = λ rels marks so_far.
    let relations = c.args.spec.now.relations in
    let r = c.index-relations-rel.result in
    let read : r ≡ get_or relations c.args.rel.0 r = rw c.relations.ensures.value at c.index-relations-rel.is in
    c.in_ok-put_relation.ensures relations rels
    (slice_get_read relations (length relations) c.args.rel.0 r refl c.requires.rel read)
    (is_asked rels (length relations) c.args.marks.now c.args.rel marks c.requires.rel c.if-not-marks-rel.false) so_far

use Rattle.std.proofs.Common.{◌≡◌, ◌+◌, ◌<◌, false, get_or, length, sym, ap, ◌∙◌, subst, arith}
use Rattle.std.proofs.lemmas.Bool.{eqb-false, eqb-true}
use Rattle.report_verify.proofs.Meeting.{met_all, met_fewer, met_skip}
use Rattle.report_verify.proofs.items.are_items_of.Goals as goal
use Rattle.report_verify.proofs.items.are_items_of.Goals.{then-asked+in-Some, else-asked}
use Rattle.report_verify.specs.Shaped.{AreMet, is_asked}

pub loop-rel-preserved : goal.loop-rel-preserved
loop-rel-preserved c =
    let relations = c.args.relations.now in
    let rels = c.args.rels.now in
    let items = c.args.items.now in
    let rel = c.loop-rel.rel in
    let within : rel < length relations =
    (let test = c.loop-rel-test.true in let count = c.as_slice-asked-items.ensures.len in let all =
    c.in_ok-marks.ensures.len in omega (arith, test, count, all)) in
    let mark : get_or c.as_slice-asked-items.result.now rel false ≡ is_asked rels rel =
    ap (λ marks. get_or marks rel false) c.as_slice-asked-items.ensures.value ∙ c.in_ok-marks.ensures.marks rel within in
    elim c.if-asked.branch [
      | then-asked+in-Some w ↦
          subst (AreMet relations rels items (rel + 1) 0) (sym w.at-is)
          (w.in-Some.ensures.met rels (sym mark ∙ w.if-asked.true) c.loop-rel.invariant)
      | else-asked w ↦
          subst (AreMet relations rels items (rel + 1) 0) (sym w.at-is)
          (met_skip relations rels items rel c.loop-rel.at (sym mark ∙ w.if-asked.false) c.loop-rel.invariant)
    ]

pub returns-clause-are : goal.returns-clause-are
returns-clause-are c = λ e.
    let all : c.loop-rel.rel ≡ length c.args.relations.now =
    (let test = c.loop-rel-test.false in let most = c.loop-rel.auto.rel-end in let count =
    c.as_slice-asked-items.ensures.len in let whole = c.in_ok-marks.ensures.len in omega (arith, test, most, count, whole)) in
    met_all c.args.relations.now c.args.rels.now c.args.items.now c.loop-rel.at
    (eqb-true c.loop-rel.at (length c.args.items.now) e)
    (subst (λ n. AreMet c.args.relations.now c.args.rels.now c.args.items.now n 0 c.loop-rel.at) all c.loop-rel.invariant)

pub returns-clause-others : goal.returns-clause-others
returns-clause-others c = λ e.
    let all : c.loop-rel.rel ≡ length c.args.relations.now =
    (let test = c.loop-rel-test.false in let most = c.loop-rel.auto.rel-end in let count =
    c.as_slice-asked-items.ensures.len in let whole = c.in_ok-marks.ensures.len in omega (arith, test, most, count, whole)) in
    met_fewer c.args.relations.now c.args.rels.now c.args.items.now c.loop-rel.at
    (eqb-false c.loop-rel.at (length c.args.items.now) e)
    (subst (λ n. AreMet c.args.relations.now c.args.rels.now c.args.items.now n 0 c.loop-rel.at) all c.loop-rel.invariant)

use Rattle.std.proofs.Common.{◌≡◌, ◌+◌, Result, Ok, Err, subst}
use Rattle.std.specs.Result.{OnOk}
use Rattle.completion_build.specs.Contests.{Contest}
use Rattle.completion_build.specs.Drafts.{rankings_with, cycles_with}
use Rattle.completion_build.specs.Judged.{IsJudged}
use Rattle.completion_build.specs.Places.{AreBuilt}
use Rattle.completion_build.proofs.Tables.{relation_at}
use Rattle.completion_build.proofs.Building.{is_place, judged_more}
use Rattle.completion_build.proofs.ranking.rank_list.Goals as goal

pub put-requires-clause-attr : goal.put-requires-clause-attr
put-requires-clause-attr c =
    let s = c.args.source.now in
    let here = relation_at s.relations c.args.rel.0 c.requires.rel in
    (is_place s.relations c.args.draft.now.completion c.args.rel.0 c.args.attr.0 c.args.ent.0 here.0 c.requires.built.shape here.1
    (c.requires.attr here.0 here.1) (c.requires.ent here.0 here.1)).in_relation

pub put-requires-clause-ent : goal.put-requires-clause-ent
put-requires-clause-ent c =
    let s = c.args.source.now in
    let here = relation_at s.relations c.args.rel.0 c.requires.rel in
    (is_place s.relations c.args.draft.now.completion c.args.rel.0 c.args.attr.0 c.args.ent.0 here.0 c.requires.built.shape here.1
    (c.requires.attr here.0 here.1) (c.requires.ent here.0 here.1)).in_attribute

on_both : {T E : Type 0} (r : Result T E) (P Q S : Type 0) → (P → Q → S) → OnOk r P → OnOk r Q → OnOk r S
on_both (Ok x) P Q S both p q = both p q
on_both (Err e) P Q S both p q = tt

pub returns : goal.returns
returns c =
    let s = c.args.source.now in
    let rel = c.args.rel in
    let attr = c.args.attr in
    let ent = c.args.ent.0 in
    let old = c.args.draft.now in
    let judged = c.in_ok-judged.judged in
    let here = relation_at s.relations rel.0 c.requires.rel in
    let is = subst (λ (t : Contest). IsJudged t ent judged) (c.tournament-tournament.ensures here.0 here.1)
    c.in_ok-judged.ensures in
    let next = judged_more s.relations s.numbers s.truths rel attr ent here.0 here.1 (c.requires.attr here.0 here.1)
    (c.requires.ent here.0 here.1)
    old.completion old.cycles c.requires.built (λ list. c.set_keeps_shape.ensures s.relations old.completion rel.0
    attr.0 ent list c.requires.built.shape) judged is in
    on_both c.put.result (c.put.new.self.completion ≡ rankings_with old.completion rel.0 attr.0 ent judged)
    (c.put.new.self.cycles ≡ cycles_with old.cycles judged)
    (AreBuilt s.relations s.numbers s.truths rel.0 attr.0 (ent + 1) c.put.new.self.completion c.put.new.self.cycles)
    (λ e f. rw (e, f) next) c.put.ensures.completion c.put.ensures.cycles

use Rattle.std.proofs.Common.{◌≡◌, ◌∙◌, ◌<◌, Result, Ok, Err, length, sym, subst}
use Rattle.std.proofs.lemmas.Option.{same_Some, slice_get_within}
use Rattle.std.specs.Result.{OnOk}
use Rattle.completion_build.specs.Drafts.{cycles_with}
use Rattle.spec_model.specs.declared.relation.Relation.{Relation}
use Rattle.known_models.specs.Known.{IsListIn}
use Rattle.known_models.specs.Ranked.{FindsList, lists_with}
use Rattle.known_models.proofs.Finding.{judged_more, there}
use Rattle.known_models.proofs.ranking.rank_list.Goals as goal

pub judge-requires-clause-rel : goal.judge-requires-clause-rel
judge-requires-clause-rel c =
    let p = c.args.parted.now in
    let m = c.args.member in
    let is = there p m.rel.0 m.ent.0 c.args.part c.facts.ensures.ties c.requires.member in
    slice_get_within p.spec.relations m.rel.0 is.relation is.is_relation

pub judge-requires-clause-ent : goal.judge-requires-clause-ent
judge-requires-clause-ent c r at =
    let p = c.args.parted.now in
    let m = c.args.member in
    let is = there p m.rel.0 m.ent.0 c.args.part c.facts.ensures.ties c.requires.member in
    subst (λ (x : Relation). m.ent.0 < length x.entities)
    (same_Some is.relation r (sym is.is_relation ∙ at)) is.within

on_both : {T E : Type 0} (r : Result T E) (P Q S : Type 0) → (P → Q → S) → OnOk r P → OnOk r Q → OnOk r S
on_both (Ok x) P Q S both p q = both p q
on_both (Err e) P Q S both p q = tt

pub returns : goal.returns
returns c =
    let p = c.args.parted.now in
    let truths = c.args.truths.now in
    let m = c.args.member in
    let attr = c.args.attr in
    let old = c.args.draft.now in
    let new = c.put.new.self in
    let judged = c.in_ok-judged.judged in
    let is = there p m.rel.0 m.ent.0 c.args.part c.facts.ensures.ties c.requires.member in
    let list : IsListIn p c.args.part m.rel attr m.ent.0 is.relation = record {
      is_relation = is.is_relation;
      attr_within = c.requires.attr is.relation is.is_relation;
      of_part = c.requires.member;
    } in
    on_both c.put.result (new.lists ≡ lists_with old.lists m.rel attr m.ent judged) (new.cycles ≡ cycles_with old.cycles judged)
    (FindsList p c.args.part truths m.rel.0 attr.0 m.ent.0 old new)
    (λ e f.
    judged_more p c.args.part truths m.rel attr m.ent is.relation list is.within old c.requires.found judged new
    (c.in_ok-judged.ensures is.relation is.is_relation) e f)
    c.put.ensures.lists c.put.ensures.cycles

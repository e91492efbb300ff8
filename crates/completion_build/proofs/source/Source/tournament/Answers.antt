use Rattle.std.proofs.Common.{slice_get, sym, ap, subst, ◌∙◌}
use Rattle.completion_build.specs.Contests.{IsListOf}
use Rattle.completion_build.specs.Sources.{Source, IsSource}
use Rattle.completion_build.proofs.Tables.{is_list_of, contest_is}
use Rattle.completion_build.proofs.source.Source.tournament.Goals as goal

pub new-requires : goal.new-requires
new-requires c =
    let s = c.args.self.now in
    subst (λ (v : Source). IsListOf v.numbers v.truths c.args.rel.0 c.args.attr.0 c.args.ent.0) (sym c.self.view_is)
    (is_list_of s c.args.rel.0 c.args.attr.0 c.args.ent.0 (subst IsSource c.self.view_is c.self.invariant)
    c.requires.rel c.requires.attr c.requires.ent)

pub returns : goal.returns
returns c = λ r at.
    let s = c.args.self.now in
    contest_is s c.new.result c.args.rel c.args.attr c.args.ent.0 r (subst IsSource c.self.view_is c.self.invariant) at
    (c.new.ensures.numbers ∙ ap (λ (v : Source). v.numbers) c.self.view_is)
    (c.new.ensures.truths ∙ ap (λ (v : Source). v.truths) c.self.view_is)
    c.new.ensures.rel c.new.ensures.attr
    (λ table here. c.new.ensures.rows table (ap (λ (v : Source). slice_get v.numbers.tables c.args.rel.0)
    c.self.view_is ∙ here))

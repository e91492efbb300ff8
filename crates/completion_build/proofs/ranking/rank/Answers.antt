use Rattle.std.proofs.Common.{List, sym, subst}
use Rattle.order_literals.specs.Statements.{statements_of}
use Rattle.completion_build.specs.declared.built.Built.{Built}
use Rattle.completion_build.specs.declared.built.Cycle.{Cycle}
use Rattle.completion_build.specs.Places.{AreBuilt}
use Rattle.completion_build.specs.Ranked.{IsBuilt}
use Rattle.completion_build.specs.Sources.{Source}
use Rattle.completion_build.proofs.Ends.{built_none}
use Rattle.completion_build.proofs.Tables.{is_source}
use Rattle.completion_build.proofs.Whole.{built_all}
use Rattle.completion_build.proofs.ranking.rank.Goals as goal

pub invariant_of-source : goal.invariant_of-source
invariant_of-source c =
    is_source c.args.spec.now.relations c.args.wanted.now c.args.numbering.now c.args.assignment.now
    c.requires.numbering c.requires.assignment

pub rank_relations-requires : goal.rank_relations-requires
rank_relations-requires c =
    subst (λ (cycles : List Cycle). AreBuilt c.args.spec.now.relations c.args.numbering.now c.args.assignment.now 0 0
    0 c.in_ok-completion.completion cycles)
    (sym c.new-2.ensures)
    (built_none c.args.spec.now.relations c.args.numbering.now c.args.assignment.now c.in_ok-completion.completion
    c.in_ok-completion.ensures.shape)

pub returns : goal.returns
returns c =
    let s : Source = record {
      relations = c.args.spec.now.relations;
      numbers = c.args.numbering.now;
      truths =
          c.args.assignment.now;
    } in
    let is = is_source c.args.spec.now.relations c.args.wanted.now c.args.numbering.now c.args.assignment.now
    c.requires.numbering c.requires.assignment in
    let draft = c.rank_relations.new.draft in
    subst (λ (b : Built). IsBuilt s.relations (statements_of s.numbers) s.truths b) (sym c.built.ensures)
    (built_all c.pairs_are_decided.ensures.exclude c.pairs_are_decided.ensures.pairs s is
    c.rank_relations.ensures.facts draft.completion draft.cycles
    c.in_ok-rank_relations.ensures.built)

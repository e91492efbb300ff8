use Rattle.std.proofs.Common.{◌∙◌, ℕ, ap, replicate}
use Rattle.order_search.specs.declared.parting.Tie.TheVariants as tie
use Rattle.order_search.proofs.TiedSteps.{none_members}
use Rattle.order_search.proofs.parting.none_done.Goals as goal

pub returns-clause-members : goal.returns-clause-members
returns-clause-members c =
    none_members c.args.subject.now (record {
      parts = c.in_ok-parts.parts;
      known = c.in_ok-known.known;
      members = c.in_ok-members.members;
      ties = c.in_ok-ties.ties;
    }) c.count-2.result c.in_ok-members.ensures c.count-2.ensures.value
    (c.in_ok-ties.ensures ∙ ap (λ (n : ℕ). replicate n tie.Loose) c.answers.ensures)

use Rattle.std.proofs.Common.{Bor, List, map, subst}
use Rattle.currency_base.specs.declared.value.Value.{Value}
use Rattle.match_candidates.specs.Tables.{HaveSame}
use Rattle.match_candidates.proofs.Once.{same_sorted}
use Rattle.match_candidates.proofs.relation_table.distinct.Goals as goal

pub returns : goal.returns
returns c =
    let now : Bor Value → Value = λ v. v.now in
    same_sorted now c.args.values.items c.sort_unstable.new.self.items
    (map now c.in_ok-without_repeats.field-0.items) c.sort_unstable.ensures.permutation
    (subst (λ (vs : List (Bor Value)). HaveSame (map now vs)
    (map now c.in_ok-without_repeats.field-0.items)) c.deref.ensures.value
    c.in_ok-without_repeats.ensures)

use Rattle.std.proofs.Common.{◌≡◌, ◌∙◌, ◌++◌, ◌∷◌, [], List, map, ap}
use Rattle.currency_base.specs.declared.lit.Lit.{Lit}
use Rattle.conflict_analysis.specs.Steps.{negated, without}
use Rattle.conflict_analysis.specs.Steps.IsWritten.{followed}
use Rattle.conflict_analysis.proofs.writing.write_learned.Goals as goal

pub returns : goal.returns
returns c =
    let t = c.args.trail.now in
    let first : c.push_lit.new.lits.items ≡ negated t.entries c.args.point ∷ [] =
    c.in_ok-push_lit.ensures ∙ ap (λ (ls : List Lit). ls ++ c.negated_at.result ∷ []) c.clear.ensures.items
    ∙ ap (λ (l : Lit). l ∷ []) c.negated_at.ensures in
    let both : c.push_lit-2.new.lits.items ≡ negated t.entries c.args.point ∷ negated t.entries c.in-Some.second ∷ [] =
    c.in_ok-push_lit-2.ensures ∙ ap (λ (ls : List Lit). ls ++ c.negated_at-2.result ∷ []) first
    ∙ ap (λ (l : Lit). negated t.entries c.args.point ∷ l ∷ []) c.negated_at-2.ensures in
    followed c.in-Some.second c.in-Some.ensures.some
    (c.in_ok-spell_all.ensures ∙ ap (λ (ls : List Lit). ls ++ map (negated t.entries)
    (without c.in-Some.second c.args.leaves.now)) both) c.level_at.ensures

use Rattle.std.proofs.Common.{◌≡◌, ◌∙◌, ◌∷◌, Bool, true, [], if◌then◌else◌, sym, subst}
use Rattle.std.proofs.lemmas.Result.{on_ok_weaker}
use Rattle.order_literals.specs.Said.{Said}
use Rattle.order_literals.specs.Statements.{statements_of}
use Rattle.match_clauses.specs.Claimed.{is_asked, not_current}
use Rattle.match_clauses.specs.Clauses.{Puts}
use Rattle.match_clauses.proofs.Putting.{puts_one}
use Rattle.match_clauses.proofs.claims.put_term.Goals as goal

pub returns : goal.returns
returns c =
    let asked : is_asked c.args.term.now ≡ true = sym c.is_asked.ensures ∙ c.if-not-is_asked.false in
    let said : Said = not_current c.args.source.spec.now.relations c.args.source.completion.now c.args.rel
    c.args.attr c.args.ent in
    on_ok_weaker c.put.result
    (λ is. subst (λ (b : Bool). Puts (statements_of c.args.source.numbering.now) (if b then said ∷ [] else [])
    c.args.lits.now c.put.new.lits) (sym asked)
    (puts_one (statements_of c.args.source.numbering.now) said c.not_current.result c.args.lits.now c.put.new.lits
    c.not_current.ensures is))
    c.put.ensures

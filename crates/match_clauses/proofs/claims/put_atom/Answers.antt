use Rattle.std.proofs.Common.{List, OnOk, drop, subst}
use Rattle.query_model.specs.declared.query.Term.{Term}
use Rattle.order_literals.specs.Statements.{statements_of}
use Rattle.match_clauses.specs.Claimed.{terms_said}
use Rattle.match_clauses.specs.Clauses.{Puts}
use Rattle.match_clauses.proofs.Putting.{all_but_first}
use Rattle.match_clauses.proofs.claims.put_atom.Goals as goal

pub returns-in-len1-up : goal.returns-in-len1-up
returns-in-len1-up c =
    let relations = c.args.source.spec.now.relations in
    let completion = c.args.source.completion.now in
    let terms = c.as_slice.result.now in
    let said : OnOk c.put_terms.result (Puts (statements_of c.args.source.numbering.now)
    (terms_said relations completion c.args.atom.now.relation c.args.ent 0 (drop 1 terms))
    c.args.lits.now c.put_terms.new.lits) =
    subst (λ (xs : List Term). OnOk c.put_terms.result (Puts (statements_of c.args.source.numbering.now)
    (terms_said relations completion c.args.atom.now.relation c.args.ent 0 xs) c.args.lits.now c.put_terms.new.lits))
    (all_but_first terms)
    c.put_terms.ensures in
    subst (λ (xs : List Term). OnOk c.put_terms.result (Puts (statements_of c.args.source.numbering.now)
    (terms_said relations completion c.args.atom.now.relation c.args.ent 0 (drop 1 xs)) c.args.lits.now
    c.put_terms.new.lits)) c.as_slice.ensures said

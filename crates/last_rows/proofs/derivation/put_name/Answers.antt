use Rattle.std.proofs.Common.{◌≡◌, ◌∙◌, ◌++◌, ◌∷◌, [], List, Contains, ap, subst, sym}
use Rattle.std.proofs.lemmas.Result.{on_ok_weaker}
use Rattle.currency_base.specs.declared.lit.Lit.{Lit}
use Rattle.last_rows.specs.Rows.{literals_of}
use Rattle.last_rows.specs.Underway.{AreNames}
use Rattle.last_rows.proofs.Threes.{names_more, names_there}
use Rattle.last_rows.proofs.derivation.put_name.Goals as goal

pub returns-then-is_in : goal.returns-then-is_in
returns-then-is_in c = λ were.
    let l = literals_of c.args.list.now in
    names_there l c.args.row c.args.lits.now.items were
    (subst (λ (x : Lit). Contains c.args.lits.now.items x) c.name-name.ensures
    (subst (λ (xs : List Lit). Contains xs c.name-name.result) c.as_slice.ensures.value (c.is_in.ensures.yes c.if-is_in.true)))

pub returns : goal.returns
returns c =
    let l = literals_of c.args.list.now in
    let old = c.args.lits.now.items in
    let new = c.put_lit.new.lits.items in
    let row = c.args.row in
    on_ok_weaker c.put_lit.result
    (λ (is : new ≡ old ++ c.name-name.result ∷ []) (were : AreNames l row old).
    names_more l row old new were
    (λ (h : Contains old (l.name row)). c.is_in.ensures.no c.if-is_in.false
    (subst (λ (xs : List Lit). Contains xs c.name-name.result) (sym c.as_slice.ensures.value)
    (subst (λ (x : Lit). Contains old x) (sym c.name-name.ensures) h)))
    (is ∙ ap (λ (x : Lit). old ++ x ∷ []) c.name-name.ensures))
    c.put_lit.ensures

-- What the parts are refused for is due, in the order of the checks.
use Rattle.std.proofs.Common.{◌∙◌, ap, sym, arith, Ok}
use Rattle.std.proofs.lemmas.Result.{err_from_is_err_and}
use Rattle.bind_faults.specs.Faults.{unless}
use Rattle.rule_bind.specs.Ruled.{rule_of}
use Rattle.rule_bind.proofs.Due.{few_names, predicates_fault, conclusion_fault, parts_there}
use Rattle.bind_faults.proofs.Outcomes.{due_same}
use Rattle.rule_bind.proofs.Fitting.{is_fresh, rule_fits}
use Rattle.rule_bind.proofs.bind.bind_at.Goals as goal

pub predicates_of-requires-clause-vars : goal.predicates_of-requires-clause-vars
predicates_of-requires-clause-vars c =
    omega (
      arith,
      few_names c.in_ok-names.field-0.names c.as_slice.result.now c.args.tree.now.vars c.in_ok-names.ensures.names
          c.as_slice.ensures,
      c.if-len.false,
      c.len-else-len-eq0.ensures,
    )

pub returns-in_err-predicates-clause-due : goal.returns-in_err-predicates-clause-due
returns-in_err-predicates-clause-due c =
    let p = err_from_is_err_and c.from_residual-in_err-predicates.result c.from_residual-in_err-predicates.ensures.1 in
    rw (p.1, p.2) (predicates_fault c.args.rules.now c.args.place.now.rel.0 c.args.place.now.relation.now c.args.tree.now
    c.in_ok-names.field-0.names c.args.place.now.attrs.now c.as_slice.result.now c.as_slice-2.result.now
    c.in_err-predicates.field-0.0
    (record {
      is_names = c.in_ok-names.ensures.names;
      is_vars = c.as_slice.ensures;
      is_attrs = c.requires.attrs;
      is_trees = c.as_slice-2.ensures;
    })
    c.in_err-predicates.ensures)

pub conclusion_of-requires-clause-vars : goal.conclusion_of-requires-clause-vars
conclusion_of-requires-clause-vars c =
    omega (
      arith,
      few_names c.in_ok-names.field-0.names c.as_slice.result.now c.args.tree.now.vars c.in_ok-names.ensures.names
          c.as_slice.ensures,
      c.if-len.false,
      c.len-else-len-eq0.ensures,
    )

pub returns-in_err-conclusion-clause-due : goal.returns-in_err-conclusion-clause-due
returns-in_err-conclusion-clause-due c =
    let p = err_from_is_err_and c.from_residual-in_err-conclusion.result c.from_residual-in_err-conclusion.ensures.1 in
    rw (p.1, p.2) (due_same _ _ (conclusion_fault c.args.rules.now c.args.place.now.rel.0
    c.args.place.now.relation.now c.args.tree.now
    c.in_ok-names.field-0.names c.args.place.now.attrs.now c.as_slice.result.now c.as_slice-2.result.now
    c.in_ok-predicates.predicates
    c.in_err-conclusion.field-0.0
    (record {
      is_names = c.in_ok-names.ensures.names;
      is_vars = c.as_slice.ensures;
      is_attrs = c.requires.attrs;
      is_trees = c.as_slice-2.ensures;
    })
    c.in_ok-predicates.ensures c.in_err-conclusion.ensures))

pub returns-in-Some-clause-due : goal.returns-in-Some-clause-due
returns-in-Some-clause-due c =
    let rule = rule_of c.args.tree.now c.args.place.now.rel.0 c.in_ok-predicates.predicates c.in_ok-conclusion.conclusion in
    due_same _ _ (parts_there c.args.rules.now c.args.place.now.rel.0 c.args.place.now.relation.now c.args.tree.now
    c.in_ok-names.field-0.names c.args.place.now.attrs.now c.as_slice.result.now c.as_slice-2.result.now
    c.in_ok-predicates.predicates
    c.in_ok-conclusion.conclusion
    (record {
      is_names = c.in_ok-names.ensures.names;
      is_vars = c.as_slice.ensures;
      is_attrs = c.requires.attrs;
      is_trees = c.as_slice-2.ensures;
    })
    c.in_ok-predicates.ensures c.in_ok-conclusion.ensures
    ∙ ap (λ fault. unless fault (Ok rule)) (sym c.in-Some.ensures))

pub returns-clause-due : goal.returns-clause-due
returns-clause-due c =
    let tree = c.args.tree.now in
    let rule = rule_of tree c.args.place.now.rel.0 c.in_ok-predicates.predicates c.in_ok-conclusion.conclusion in
    parts_there c.args.rules.now c.args.place.now.rel.0 c.args.place.now.relation.now tree
    c.in_ok-names.field-0.names c.args.place.now.attrs.now c.as_slice.result.now c.as_slice-2.result.now
    c.in_ok-predicates.predicates
    c.in_ok-conclusion.conclusion
    (record {
      is_names = c.in_ok-names.ensures.names;
      is_vars = c.as_slice.ensures;
      is_attrs = c.requires.attrs;
      is_trees = c.as_slice-2.ensures;
    })
    c.in_ok-predicates.ensures c.in_ok-conclusion.ensures
    ∙ ap (λ fault. unless fault (Ok rule)) (sym c.in-None.ensures)
    ∙ ap (λ name. Ok (record rule { name = name })) (sym c.in_ok-duplicate-in-None.ensures)
    ∙ ap (λ vars. Ok (record rule { name = c.in_ok-duplicate-in-None.field-0; vars = vars })) (sym c.len-in-None.ensures)

pub returns-clause-fits : goal.returns-clause-fits
returns-clause-fits c = λ few_vars few_predicates.
    rule_fits c.args.rules.now c.args.place.now.relation.now c.args.tree.now c.in_ok-names.field-0.names
    c.args.place.now.attrs.now
    c.as_slice.result.now c.as_slice-2.result.now
    (record {
      name = c.in_ok-duplicate-in-None.field-0;
      relation = c.args.place.now.rel;
      vars = c.len-in-None.result;
      predicates = c.in_ok-predicates.predicates;
      conclusion = c.in_ok-conclusion.conclusion;
    })
    (record {
      is_names = c.in_ok-names.ensures.names;
      is_vars = c.as_slice.ensures;
      is_attrs = c.requires.attrs;
      is_trees = c.as_slice-2.ensures;
    })
    c.in_ok-predicates.ensures c.in_ok-conclusion.ensures c.in-None.ensures
    (omega (arith, c.if-len-eq0.false, c.len.ensures)) c.len-in-None.ensures few_vars few_predicates

pub returns-clause-fresh : goal.returns-clause-fresh
returns-clause-fresh c =
    is_fresh c.args.rules.now c.args.place.now.relation.now c.args.tree.now c.in_ok-duplicate-in-None.field-0
    c.in_ok-duplicate-in-None.ensures c.in-None.ensures

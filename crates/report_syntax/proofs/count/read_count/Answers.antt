use Rattle.std.proofs.Common.{◌≡◌, List, ℕ, suc, [], ◌∷◌, length, get_or, arith, sym, ◌∙◌}
use Rattle.std.proofs.lemmas.Bool.{eqb-true}
use Rattle.report_syntax.proofs.Counts.{count_of_not_text, count_of_plus, parses_count}
use Rattle.report_syntax.proofs.count.read_count.Goals as goal
use Rattle.report_syntax.proofs.count.read_count.Goals.{else-not-is_empty-via-then-not-is_empty+else-bytes-eq43, else-not-is_empty-via-else-not-is_empty}

-- no byte stands in an empty text
nothing_first : (bytes : List ℕ) (n : ℕ) → length bytes ≡ 0 → get_or bytes 0 0 ≡ suc n → ⊥
nothing_first [] n e h = cc
nothing_first (c ∷ cs) n e h = omega arith

pub returns-then-bytes-eq43 : goal.returns-then-bytes-eq43
returns-then-bytes-eq43 c = count_of_plus c.args.bytes.now c.if-bytes-eq43.true

pub returns-in-Ok : goal.returns-in-Ok
returns-in-Ok c =
    let same = c.in-Ok.ensures.cases.0 in
    let parsed = rw same at c.parse.ensures.value.0 in
    let no_plus : get_or c.args.bytes.now 0 0 ≡ 43 → ⊥ =
    elim c.else-not-is_empty.branch [
      | else-not-is_empty-via-then-not-is_empty+else-bytes-eq43 w ↦ w.if-bytes-eq43.false
      | else-not-is_empty-via-else-not-is_empty w ↦ λ plus. nothing_first c.args.bytes.now 42
          (eqb-true _ 0 (sym c.is_empty.ensures ∙ w.if-not-is_empty.false)) plus
    ] in
    c.ok.ensures.value ∙ parses_count c.args.bytes.now c.parse.result parsed no_plus

pub returns-in-Err : goal.returns-in-Err
returns-in-Err c = count_of_not_text c.args.bytes.now c.in-Err.ensures.cases.0

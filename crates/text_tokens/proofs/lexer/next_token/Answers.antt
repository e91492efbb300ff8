use Rattle.std.proofs.Common.{◌≡◌, ◌+◌, ◌-◌, ◌≤◌, ◌<◌, length, drop, take, min, refl, sym, ap, ◌∙◌, arith, length-drop}
use Rattle.std.specs.Prelude.{count_by, ◌==◌}
use Rattle.std.proofs.lemmas.List.{take_rest, drop-drop}
use Rattle.text_tokens.specs.Tokens.{line_after}
use Rattle.text_tokens.proofs.Steps.{token_found, line_to}
use Rattle.text_tokens.proofs.lexer.next_token.Goals as goal

pub returns : goal.returns
returns c =
    let source = c.args.source.now in
    let at = c.args.at in
    let start = at + c.gap_len.result in
    let within = simp take_rest at c.gap_len.ensures.within in
    let gap = simp take_rest at c.gap_len.ensures.gap in
    let behind : at ≤ start = omega arith in
    let inside : start < length source = omega (arith, within, length-drop at source) in
    let e : c.gap_len.result ≡ start - at = omega arith in
    let lines : c.line_past.result ≡ line_after (take start source) =
    c.line_past.ensures ∙ ap (λ n. min (n + count_by (λ c. c == 10) (take (start - at) (drop at source))) 4294967295)
    c.requires.line ∙ line_to source at start behind in
    token_found source at start c.kind_and_len-kind.result.1 _ behind inside
    (simp take_rest at c.kind_and_len-kind.ensures.within)
    (sym gap ∙ drop-drop c.gap_len.result at source)
    (simp take_rest at c.kind_and_len-kind.ensures.token) refl refl lines

use Rattle.std.proofs.Common.{◌++◌, ◌∷◌, List, [], drop, take, map, sym, ap, ◌∙◌, subst, append-nil}
use Rattle.text_tokens.specs.Lexeme.{Lexeme, lexeme_of}
use Rattle.text_tokens.specs.Tokens.{AreTokens}
use Rattle.text_tokens.proofs.Steps.{found_more, next_line, token_more}
use Rattle.text_tokens.proofs.lexer.tokens_from.Goals as goal

pub loop-token-preserved : goal.loop-token-preserved
loop-token-preserved c =
    let source = c.args.source.now in
    let at = c.loop-token.at in
    let t = c.in-Some.token in
    let P : List Lexeme → Type 0 = λ xs. AreTokens (take c.args.start source) (drop c.args.start source) xs in
    record {
      within = c.in-Some.ensures.within;
      line = c.line_past-line-in-Some.ensures ∙ next_line source at (lexeme_of t) c.in-Some.ensures;
      rest = λ ts rest. subst P (sym (found_more c.loop-token.found t ts) ∙ ap (λ xs. map lexeme_of xs ++ ts)
          (sym c.in_ok-push.ensures.ok))
          (c.loop-token.invariant.rest (lexeme_of t ∷ ts) (token_more source at (lexeme_of t) c.in-Some.ensures ts rest));
    }

pub returns : goal.returns
returns c =
    let source = c.args.source.now in
    let P : List Lexeme → Type 0 = λ xs. AreTokens (take c.args.start source) (drop c.args.start source) xs in
    subst P (append-nil _) (c.loop-token.invariant.rest [] (c.in_default.ensures))

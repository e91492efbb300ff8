-- A reader that is not chosen by the first token.
use Rattle.std.proofs.Common.{◌≡◌, ◌≤◌, Bool, false, cond, List, [], ◌∷◌, length, get_or, map, sym, ap, ◌∙◌, arith}
use Rattle.text_tokens.specs.Lexeme.{Lexeme, lexeme_of}
use Rattle.text_tokens.specs.declared.token.Token.{Token}
use Rattle.text_grammar.specs.Reading.{Parser, choose}

-- where the first token fails the test, the second of two readers is chosen
pub passed_over : {A : Type 0} (test : Lexeme → Bool) (p q : Parser A) (tokens : List Token) (d : Token) (b : Bool)
    → 1 ≤ length tokens
    → b ≡ test (lexeme_of (get_or tokens 0 d)) → b ≡ false → choose test p q (map lexeme_of tokens) ≡ q (map lexeme_of tokens)
passed_over test p q [] d b some e f = absurd (omega arith)
passed_over test p q (t ∷ ts) d b some e f =
    ap (λ (b : Bool). cond b (p (map lexeme_of (t ∷ ts))) (q (map lexeme_of (t ∷ ts)))) (sym e ∙ f)

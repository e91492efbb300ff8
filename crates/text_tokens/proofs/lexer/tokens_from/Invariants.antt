use Rattle.std.proofs.Common.{◌≡◌, ◌≤◌, ◌-◌, ◌++◌, List, take, drop, map, length}
use Rattle.text_tokens.specs.Lexeme.{Lexeme, lexeme_of}
use Rattle.text_tokens.specs.Tokens.{AreTokens, line_after}
use Rattle.text_tokens.proofs.lexer.tokens_from.Given as goal

abbrev pub invariant-loop-token : goal.invariant-loop-token
invariant-loop-token l = record {
  within : l.at ≤ length l.source;
  line : l.line ≡ line_after (take l.at l.source);
  rest : (ts : List Lexeme) → AreTokens (take l.at l.source) (drop l.at l.source) ts
      → AreTokens (take l.start l.source) (drop l.start l.source) (map lexeme_of l.found ++ ts);
}

abbrev pub decreases-loop-token : goal.decreases-loop-token
decreases-loop-token l = length l.source - l.at

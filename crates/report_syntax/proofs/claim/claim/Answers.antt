use Rattle.std.proofs.Common.{map, sym, subst, ◌∙◌, codes}
use Rattle.text_tokens.specs.Lexeme.{lexeme_of}
use Rattle.text_grammar.specs.Words.{is_word}
use Rattle.text_grammar.specs.Reading.{Gives, Outcome, choose}
use Rattle.report_syntax.specs.declared.tree.ClaimTree.{ClaimTree}
use Rattle.report_syntax.specs.Reading.{claim_at, consistent_at, further_claim_at, inconsistent_at}
use Rattle.report_syntax.proofs.PassedOver.{passed_over}
use Rattle.report_syntax.proofs.claim.claim.Goals as goal

pub returns-else-is_fixed-2 : goal.returns-else-is_fixed-2
unfolding claim_at
returns-else-is_fixed-2 c =
    subst (λ (o : Outcome ClaimTree). Gives (λ x. (x.0, map lexeme_of x.1.now)) c.further_claim-else-is_fixed-2.result o)
    (sym (passed_over (is_word (codes "inconsistent")) inconsistent_at
    (choose (is_word (codes "consistent")) consistent_at further_claim_at) c.args.tokens.now _ _
    c.in-len1-up.len_at_least c.is_fixed.ensures c.if-is_fixed.false
    ∙ passed_over (is_word (codes "consistent")) consistent_at further_claim_at c.args.tokens.now _ _
    c.in-len1-up.len_at_least c.is_fixed-else-is_fixed.ensures c.if-is_fixed-2.false))
    c.further_claim-else-is_fixed-2.ensures

-- A text has one list of tokens.
use Rattle.std.proofs.Common.{◌≡◌, ℕ, List, [], ◌∷◌, ◌++◌, length, sym, refl, ap, ◌∙◌, subst}
use Rattle.std.proofs.lemmas.List.{append_cancel_right}
use Rattle.text_tokens.specs.Lexeme.{Lexeme}
use Rattle.text_tokens.specs.Tokens.{AreTokens, TokensOf, line_after, mark_of, token_at, unmarked}
use Rattle.text_tokens.specs.declared.token.TokenKind.{TokenKind}

same_lexeme : (t u : Lexeme) → t.kind ≡ u.kind → t.text ≡ u.text → t.start ≡ u.start → t.line ≡ u.line → t ≡ u
same_lexeme t u a b c d =
    let F : TokenKind → List ℕ → ℕ → ℕ → Lexeme = λ k x s l. record { kind = k; text = x; start = s; line = l } in
    ap (λ k. F k t.text t.start t.line) a ∙ ap (λ x. F u.kind x t.start t.line) b
    ∙ ap (λ s. F u.kind u.text s t.line) c ∙ ap (λ l. F u.kind u.text u.start l) d

same_gap : (text gap gap' after after' : List ℕ) → text ≡ gap ++ after → text ≡ gap' ++ after' → after ≡ after' → gap ≡ gap'
same_gap text gap gap' after after' p q e = append_cancel_right gap gap' after' (ap (λ x. gap ++ x) (sym e) ∙ sym p ∙ q)

same_rest : (text rest rest' : List ℕ) → text ++ rest ≡ text ++ rest' → rest ≡ rest'
same_rest [] rest rest' e = e
same_rest (x ∷ xs) rest rest' e = same_rest xs rest rest' (cc)

same_at : (c d : ℕ) (cs ds : List ℕ) → c ∷ cs ≡ d ∷ ds → token_at c cs ≡ token_at d ds
same_at c d cs ds e = let a : c ≡ d = cc in let b : cs ≡ ds = cc in rw (a, b)

same_kind : (j k : TokenKind) (xs ys : List ℕ) → (let P : TokenKind × List ℕ = (j, xs) in let Q : TokenKind × List
    ℕ = (k, ys) in P ≡ Q) → (j ≡ k) × (xs ≡ ys)
same_kind j k xs ys e = (ap (λ (p : TokenKind × List ℕ). p.0) e, ap (λ (p : TokenKind × List ℕ). p.1) e)

same_tokens : (before text : List ℕ) (a b : List Lexeme) → AreTokens before text a → AreTokens before text b → a ≡ b
same_tokens before text [] [] p q = refl
same_tokens before text [] (u ∷ us) p q = cc (p, q.5)
same_tokens before text (t ∷ ts) [] p q = cc (p.5, q)
same_tokens before text (t ∷ ts) (u ∷ us) p q =
    let after : p.1 ∷ p.2 ≡ q.1 ∷ q.2 = sym p.5 ∙ q.5 in
    let gap : p.0 ≡ q.0 = same_gap text p.0 q.0 (p.1 ∷ p.2) (q.1 ∷ q.2) p.4 q.4 after in
    let both = same_kind t.kind u.kind t.text u.text (sym p.6 ∙ same_at p.1 q.1 p.2 q.2 after ∙ q.6) in
    let texts : t.text ≡ u.text = both.1 in
    let rest : p.3 ≡ q.3 = same_rest u.text p.3 q.3 (ap (λ x. x ++ p.3) (sym texts) ∙ sym p.7 ∙ after ∙ q.7) in
    let start : t.start ≡ u.start = p.8 ∙ ap (λ g. length (before ++ g)) gap ∙ sym q.8 in
    let line : t.line ≡ u.line = p.9 ∙ ap (λ g. line_after (before ++ g)) gap ∙ sym q.9 in
    let head : t ≡ u = same_lexeme t u both.0 texts start line in
    let front : before ++ p.0 ++ t.text ≡ before ++ q.0 ++ u.text = cc in
    let P : List ℕ → Type 0 = λ x. AreTokens x p.3 ts in
    let Q : List ℕ → Type 0 = λ x. AreTokens (before ++ q.0 ++ u.text) x ts in
    let tail : ts ≡ us = same_tokens (before ++ q.0 ++ u.text) q.3 ts us (subst Q rest (subst P front p.10)) q.10 in
    cc

pub one_list : (source : List ℕ) (a b : List Lexeme) → TokensOf source a → TokensOf source b → a ≡ b
one_list source a b p q = same_tokens (mark_of source) (unmarked source) a b p q

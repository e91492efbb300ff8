-- The words among the tokens of a text.
use Rattle.std.proofs.Common.{◌≡◌, ℕ, Bool, true, false, cond, List, [], ◌∷◌, ◌++◌, refl, sym, ◌∙◌, ap, subst, arith, Option, Some, None}
use Rattle.std.specs.Prelude.{All, ◌&&◌, ◌==◌}
use Rattle.std.specs.List.{list_all, take_while}
use Rattle.std.proofs.lemmas.List.Elements.{All-nil, All-cons}
use Rattle.std.proofs.lemmas.List.Sums.{take_while-cons}
use Rattle.text_tokens.specs.Lexeme.{Lexeme}
use Rattle.text_tokens.specs.Tokens.{AreTokens, TokensOf, begins_with, is_before_equals, is_symbol_byte, is_word_byte, mark_of, string_len_after, string_token, token_at, unmarked}
use Rattle.text_tokens.specs.declared.token.TokenKind.{TokenKind}
use Rattle.text_tokens.specs.declared.token.TokenKind.TheVariants.{Word, Negative, Text, Symbol, Fault}
use Rattle.text_write.specs.Written.{AreWordBytes}

-- a token that may stand in a text: if it is a word, it has a word's bytes
pub record IsToken (t : Lexeme) : Type 0 where
  pub word : t.kind ≡ Word → AreWordBytes t.text

-- the bytes of a word up to its end are a word's
word_bytes : (bytes : List ℕ) → list_all is_word_byte (take_while is_word_byte bytes) ≡ true
word_bytes [] = refl
word_bytes (c ∷ cs) = rw (take_while-cons is_word_byte c cs) (by (is_word_byte c) refl (word_bytes cs))
  where
    by : (b : Bool) → is_word_byte c ≡ b → list_all is_word_byte (take_while is_word_byte cs) ≡ true
        → list_all is_word_byte (cond b (c ∷ take_while is_word_byte cs) []) ≡ true
    by true e h = ap (λ (b : Bool). b && list_all is_word_byte (take_while is_word_byte cs)) e ∙ h
    by false e h = refl

-- a kind and bytes: if the kind is a word's, the bytes are
HoldsWord : TokenKind × List ℕ → Type 0
HoldsWord x = x.0 ≡ Word → AreWordBytes x.1

chosen_holds : (b : Bool) (x y : TokenKind × List ℕ) → (b ≡ true → HoldsWord x) → (b ≡ false → HoldsWord y)
    → HoldsWord (cond b x y)
chosen_holds true x y f g = f refl
chosen_holds false x y f g = g refl

no_word : (x : TokenKind × List ℕ) (k : TokenKind) → x.0 ≡ k → (k ≡ Word → ⊥) → HoldsWord x
unfolding HoldsWord
no_word x k e apart = λ h. absurd (apart (sym e ∙ h))

string_holds : (rest : List ℕ) (o : Option ℕ) → HoldsWord (string_token rest o)
string_holds rest None = no_word (string_token rest None) Fault refl (λ h. cc)
string_holds rest (Some n) = no_word (string_token rest (Some n)) Text refl (λ h. cc)

whole_word : (c : ℕ) (rest : List ℕ) → is_word_byte c ≡ true → HoldsWord (Word, c ∷ take_while is_word_byte rest)
unfolding HoldsWord
whole_word c rest e = λ h. record {
  some = omega arith;
  each = ap (λ (b : Bool). b && list_all is_word_byte (take_while is_word_byte rest)) e ∙ word_bytes rest;
}

token_holds : (c : ℕ) (rest : List ℕ) → HoldsWord (token_at c rest)
token_holds c rest =
    chosen_holds (is_word_byte c) _ _ (whole_word c rest)
    (λ _. chosen_holds ((c == 45) && begins_with is_word_byte rest) _ _ (λ _. no_word _ Negative refl (λ h. cc))
    (λ _. chosen_holds (c == 34) _ _ (λ _. string_holds rest (string_len_after false rest))
    (λ _. chosen_holds (is_before_equals c && begins_with (λ x. x == 61) rest) _ _ (λ _. no_word _ Symbol refl (λ h. cc))
    (λ _. chosen_holds (is_symbol_byte c) _ _ (λ _. no_word _ Symbol refl (λ h. cc)) (λ _. no_word _ Fault refl (λ h. cc))))))

token_is : (c : ℕ) (rest : List ℕ) (t : Lexeme) → token_at c rest ≡ (t.kind, t.text) → IsToken t
unfolding HoldsWord
token_is c rest t e = record { word = subst HoldsWord e (token_holds c rest) }

are_tokens : (before text : List ℕ) (found : List Lexeme) → AreTokens before text found → All IsToken found
are_tokens before text [] h = All-nil IsToken
are_tokens before text (t ∷ ts) h =
    All-cons IsToken t ts (token_is h.1 h.2 t h.6) (are_tokens (before ++ h.0 ++ t.text) h.3 ts h.10)

-- the tokens of a text are tokens
pub tokens_of_text : (source : List ℕ) (found : List Lexeme) → TokensOf source found → All IsToken found
tokens_of_text source found h = are_tokens (mark_of source) (unmarked source) found h

-- A claim that is written spells its tree.
use Rattle.std.proofs.Common.{◌≡◌, ℕ, ◌<◌, ◌≤◌, ◌^◌, true, List, [], ◌∷◌, ◌++◌, length, map, refl, ap, ◌∙◌, arith, codes, Some}
use Rattle.std.specs.Prelude.{All}
use Rattle.std.specs.Fmt.{decimal}
use Rattle.std.specs.Str.{all_ascii_digits}
use Rattle.std.specs.Str.Parse.{digits_value}
use Rattle.std.proofs.lemmas.Bool.{lt-ltb}
use Rattle.std.proofs.lemmas.Fmt.{digits_decimal, decimal_nonempty, digits_value-decimal}
use Rattle.std.proofs.lemmas.List.{length-map}
use Rattle.std.proofs.lemmas.Str.Parse.{IsNumeralModel, numerals_by_value, tells_all_ascii_digits}
use Rattle.currency_base.specs.declared.value.Value.{Value}
use Rattle.spec_model.specs.declared.relation.Relation.{Relation}
use Rattle.text_tokens.specs.Lexeme.{Lexeme}
use Rattle.text_grammar.specs.Grammar.{Says}
use Rattle.text_grammar.specs.declared.named.Named.{Named}
use Rattle.text_write.specs.Pieces.{Piece, word_piece}
use Rattle.currency_base.specs.Values.{IsValue}
use Rattle.text_write.proofs.Numbers.{decimal_is_word}
use Rattle.log_syntax.specs.Grammar.{UpTo}
use Rattle.log_write.specs.Pieces.{many_pieces, symbol, values_pieces, word}
use Rattle.refutation_log.specs.Writable.{AreFew}
use Rattle.log_write.proofs.Rules.{semicolon, text_values}
use Rattle.log_write.proofs.Texts.{IsText, text_says, text_then, text_word}
use Rattle.report_model.specs.declared.verdict.Current.{Current}
use Rattle.report_model.specs.declared.verdict.Verdict.{Verdict}
use Rattle.report_model.specs.declared.verdict.Verdict.TheVariants as verdict
use Rattle.report_syntax.specs.Spells.{SpellsAnswer, SpellsClaim, SpellsCurrent, count_in, count_of}
use Rattle.report_syntax.specs.declared.tree.AnswerTree.{AnswerTree}
use Rattle.report_syntax.specs.declared.tree.ClaimTree.TheVariants.{Inconsistent, Consistent, Certain, NotCertain, Same, NotSame, Answers, Undecided}
use Rattle.report_write.specs.Pieces.{claim_pieces, current_pieces}
use Rattle.report_write.specs.Writable.{HasTextNames}
use Rattle.report_model.specs.Writable.{IsItemOf, IsWritableVerdict}
use Rattle.report_reread.specs.Trees.{claim_tree, current_tree, unlined_answer, unlined_claim, unlined_current}
use Rattle.report_reread.proofs.Likenesses.{IsLike, like_after, like_before, like_both, like_few, like_fixed, like_made, like_many}
use Rattle.report_reread.proofs.Names.{colon, less, like_attribute, like_entity, like_relation, like_row, like_word}

-- ---- a number of 64 bits

-- the digits and their number, in std's words
own : IsNumeralModel (λ ds. all_ascii_digits ds ≡ true) (digits_value 10)
own = numerals_by_value _ tells_all_ascii_digits

counted_is : (n : ℕ) → n < 2 ^ 64 → count_of (decimal n) ≡ Some n
unfolding count_of
counted_is n h =
    rw (
      lt-ltb 0 (length (decimal n)) (decimal_nonempty n h),
      digits_decimal own n h,
      digits_value-decimal own n h,
      lt-ltb n (2 ^ 64) h,
    ) refl

-- what a token that has a piece says, whatever its place
abbrev lexeme_with : Piece → Lexeme
lexeme_with p = record { kind = p.kind; text = p.text; start = 0; line = 0 }

text_count : (n : ℕ) → n < 2 ^ 64 → IsText (Says count_in n) (word_piece (decimal n) ∷ [])
text_count n h =
    text_says count_in n (word_piece (decimal n)) (record { whole = decimal_is_word n h })
    (λ t e. ap (λ (p : Piece). count_in (lexeme_with p)) e ∙ counted_is n h)

-- ---- items

like_current : (relations : List Relation) → All HasTextNames relations → (item : Current) → IsItemOf relations item
    → IsText (IsLike SpellsCurrent unlined_current (current_tree relations item)) (current_pieces relations item)
like_current relations texts item h =
    like_made (λ (x : ℕ × (Named × Named)). record { line = x.0; relation = x.1.0; entity = x.1.1; values = item.values })
    (λ x tokens s. s) (λ x. refl)
    (like_both (like_word (codes "current") (omega arith) refl)
    (like_both (like_relation relations item.rel.0 texts)
    (like_before (like_entity relations item.rel.0 item.ent.0 texts) (text_then (text_values item.values h.values) semicolon))))

-- an answer, as a tree and as pieces
abbrev answer_tree : List Value → AnswerTree
answer_tree values = record { line = 0; values = values }

abbrev answer_pieces : List Value → List Piece
answer_pieces values = word (codes "answer") ++ values_pieces values ++ symbol (codes ";")

like_answer : (values : List Value) → AreFew IsValue values
    → IsText (IsLike SpellsAnswer unlined_answer (answer_tree values)) (answer_pieces values)
like_answer values h =
    like_made (λ (line : ℕ). record { line = line; values = values }) (λ x tokens s. s) (λ x. refl)
    (like_before (like_word (codes "answer") (omega arith) refl) (text_then (text_values values h) semicolon))

-- items that are few
like_items : {A X : Type 0} {P : A → List Lexeme → Type 0} {u : A → A} (f : X → A) (pieces : X → List Piece) (Q : X → Type 0)
    → ((x : X) → Q x → IsText (IsLike P u (f x)) (pieces x))
    → (xs : List X) → AreFew Q xs → IsText (IsLike (UpTo 4294967294 P) (map u) (map f xs)) (many_pieces pieces xs)
like_items f pieces Q each xs h =
    let few : length xs ≤ 4294967294 = h.few in
    let count : length (map f xs) ≡ length xs = length-map xs f in
    like_few 4294967294 (omega arith) (like_many f pieces Q each xs h.each)

-- ---- claims

pub like_claim : (relations : List Relation) → All HasTextNames relations → (v : Verdict) → IsWritableVerdict relations v
    → IsText (IsLike SpellsClaim unlined_claim (claim_tree relations v)) (claim_pieces relations v)
like_claim relations texts verdict.Inconsistent h =
    like_fixed Inconsistent refl (text_then (text_word (codes "inconsistent") (omega arith) refl) semicolon)
like_claim relations texts verdict.Consistent h =
    like_fixed Consistent refl (text_then (text_word (codes "consistent") (omega arith) refl) semicolon)
like_claim relations texts verdict.Certain h =
    like_fixed Certain refl (text_then (text_word (codes "certain") (omega arith) refl) semicolon)
like_claim relations texts (verdict.NotCertain p) h =
    like_made (λ (x : (Named × Named) × (Named × Named)). NotCertain x.0.0 x.0.1 x.1.0 x.1.1) (λ x tokens s. s) (λ x. refl)
    (like_after (text_word (codes "not") (omega arith) refl)
    (like_after (text_word (codes "certain") (omega arith) refl)
    (like_both (like_attribute relations p.rel.0 p.pair.attr.0 texts)
    (like_after colon
    (like_both (like_row relations p.rel.0 p.pair.earlier texts)
    (like_after less (like_before (like_row relations p.rel.0 p.pair.later texts) semicolon)))))))
like_claim relations texts (verdict.Same items) h =
    like_made Same (λ x tokens s. s) (λ x. refl)
    (like_after (text_word (codes "same") (omega arith) refl)
    (like_after semicolon
    (like_items (current_tree relations) (current_pieces relations) (IsItemOf relations) (like_current relations texts) items h)))
like_claim relations texts (verdict.NotSame rel attr ent) h =
    like_made (λ (x : (Named × Named) × Named). NotSame x.0.0 x.0.1 x.1) (λ x tokens s. s) (λ x. refl)
    (like_after (text_word (codes "not") (omega arith) refl)
    (like_after (text_word (codes "same") (omega arith) refl)
    (like_both (like_attribute relations rel.0 attr.0 texts)
    (like_after (text_word (codes "of") (omega arith) refl) (like_before (like_entity relations rel.0 ent.0 texts) semicolon)))))
like_claim relations texts (verdict.Answers tuples) h =
    like_made Answers (λ x tokens s. s) (λ x. refl)
    (like_after (text_word (codes "answers") (omega arith) refl)
    (like_after semicolon (like_items answer_tree answer_pieces (AreFew IsValue) like_answer tuples h)))
like_claim relations texts (verdict.Undecided counted) h =
    like_fixed (Undecided counted) refl
    (text_then (text_word (codes "undecided") (omega arith) refl) (text_then (text_count counted h) semicolon))

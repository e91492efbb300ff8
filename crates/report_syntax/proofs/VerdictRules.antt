-- Verdicts are read as they are spelled.
use Rattle.std.proofs.Common.{◌≡◌, ℕ, Bool, true, List, [], ◌∷◌, inl, inr, refl, subst, Some, codes}
use Rattle.text_tokens.specs.Lexeme.{Lexeme}
use Rattle.text_tokens.specs.declared.token.TokenKind.TheVariants.{Word}
use Rattle.text_grammar.specs.Words.{is_word}
use Rattle.text_grammar.specs.Grammar.{Language, ◌⋅◌, IsWord, IsSymbol, Says, SpellsName}
use Rattle.text_grammar.specs.Reading.{one}
use Rattle.text_grammar.specs.Laws.{IsReader}
use Rattle.text_grammar.specs.declared.named.Named.{Named}
use Rattle.text_grammar.proofs.Readers.{always, Begins, reads_made, reads_one, reads_same, reads_two}
use Rattle.text_grammar.proofs.Choices.{Either}
use Rattle.text_grammar.proofs.FixedTokens.{after_symbol, after_word, before_symbol, reads_name, reads_symbol}
use Rattle.log_syntax.specs.Grammar.{UpTo}
use Rattle.log_syntax.proofs.Keywords.{BeginsWith, Case, case_begins, either_begins, reads_case, reads_cases}
use Rattle.log_syntax.proofs.Rules.{reads_values}
use Rattle.log_syntax.proofs.UpToReaders.{ends_within, reads_gathered}
use Rattle.log_syntax.proofs.WordLines.{begins_word_on, reads_word_on}
use Rattle.report_syntax.specs.declared.attribute.AttributeTree.{AttributeTree}
use Rattle.report_syntax.specs.declared.tree.AnswerTree.{AnswerTree}
use Rattle.report_syntax.specs.declared.tree.ClaimTree.{ClaimTree}
use Rattle.report_syntax.specs.declared.tree.ClaimTree.TheVariants.{Inconsistent, Consistent, Certain, NotCertain, Same, NotSame, Answers, Undecided}
use Rattle.report_syntax.specs.declared.tree.CurrentTree.{CurrentTree}
use Rattle.report_syntax.specs.declared.tree.VerdictTree.{VerdictTree}
use Rattle.report_syntax.specs.Spells.{SpellsAnswer, SpellsAttribute, SpellsClaim, SpellsCurrent, SpellsVerdict, count_in, count_of}
use Rattle.report_syntax.specs.Reading.{answer_at, answers_at, answers_claim_at, attribute_at, certain_at, claim_at, consistent_at, current_at, currents_at, denied_at, further_claim_at, inconsistent_at, not_at, not_certain_at, not_same_at, same_at, undecided_at, verdict_at}

-- ---- the items of a verdict

reads_current : IsReader SpellsCurrent always current_at
unfolding current_at
reads_current =
    reads_made
    (reads_two (reads_word_on (codes "current"))
    (reads_two reads_name (reads_two reads_name (before_symbol (codes ";") reads_values (λ a t e. refl)))))
    (λ x. record { line = x.0; relation = x.1.0; entity = x.1.1.0; values = x.1.1.1 }) always
    (λ a t. refl) (λ x tokens h. h)
    (λ c tokens h. record { tree = (c.line, (c.relation, (c.entity, c.values))); is = refl; spelled = h })

begins_current : Begins (is_word (codes "current")) true SpellsCurrent
begins_current c tokens h = begins_word_on (codes "current") c.line _ tokens h

-- what ends current tuples
abbrev ends_currents : List CurrentTree → Lexeme → Bool
ends_currents = ends_within 4294967294 (is_word (codes "current"))

reads_currents : IsReader (UpTo 4294967294 SpellsCurrent) ends_currents currents_at
unfolding currents_at
reads_currents = reads_gathered reads_current (is_word (codes "current")) begins_current 4294967294

reads_answer : IsReader SpellsAnswer always answer_at
unfolding answer_at
reads_answer =
    reads_made (reads_two (reads_word_on (codes "answer")) (before_symbol (codes ";") reads_values (λ a t e. refl)))
    (λ x. record { line = x.0; values = x.1 }) always
    (λ a t. refl) (λ x tokens h. h) (λ a tokens h. record { tree = (a.line, a.values); is = refl; spelled = h })

begins_answer : Begins (is_word (codes "answer")) true SpellsAnswer
begins_answer a tokens h = begins_word_on (codes "answer") a.line _ tokens h

-- what ends answers
abbrev ends_answers : List AnswerTree → Lexeme → Bool
ends_answers = ends_within 4294967294 (is_word (codes "answer"))

reads_answers : IsReader (UpTo 4294967294 SpellsAnswer) ends_answers answers_at
unfolding answers_at
reads_answers = reads_gathered reads_answer (is_word (codes "answer")) begins_answer 4294967294

-- ---- what a verdict claims

abbrev pub Semicolon : Unit {0} → Language
Semicolon u = IsSymbol (codes ";")

abbrev pub AttributeOf : AttributeTree → Language
AttributeOf a = SpellsAttribute a.relation a.attr

pub reads_attribute : IsReader AttributeOf always attribute_at
unfolding attribute_at
reads_attribute =
    reads_made (reads_two reads_name (after_symbol (codes ".") reads_name)) (λ x. record { relation = x.0; attr = x.1 }) always
    (λ a t. refl) (λ x tokens h. h) (λ a tokens h. record { tree = (a.relation, a.attr); is = refl; spelled = h })

said_count : count_in (record { kind = Word; text = codes "1"; start = 0; line = 0 }) ≡ Some 1
unfolding count_of
said_count = refl

reads_count : IsReader (λ counted. Says count_in counted) always (one count_in)
reads_count = reads_one count_in (record { kind = Word; text = codes "1"; start = 0; line = 0 }) 1 said_count

-- what ends a claim: a further item goes on with it where it has items
abbrev pub ends_claim : ClaimTree → Lexeme → Bool
ends_claim Inconsistent t = true
ends_claim Consistent t = true
ends_claim Certain t = true
ends_claim (NotCertain relation attr earlier later) t = true
ends_claim (Same items) t = ends_currents items t
ends_claim (NotSame relation attr entity) t = true
ends_claim (Answers items) t = ends_answers items t
ends_claim (Undecided counted) t = true

abbrev not_certain_of : AttributeTree × (Named × Named) → ClaimTree
not_certain_of x = NotCertain x.0.relation x.0.attr x.1.0 x.1.1

abbrev not_same_of : AttributeTree × Named → ClaimTree
not_same_of x = NotSame x.0.relation x.0.attr x.1

abbrev same_of : List CurrentTree → ClaimTree
same_of items = Same items

abbrev answers_of : List AnswerTree → ClaimTree
answers_of items = Answers items

abbrev undecided_of : ℕ → ClaimTree
undecided_of counted = Undecided counted

abbrev NotCertainParts : AttributeTree × (Named × Named) → Language
NotCertainParts x =
    AttributeOf x.0 ⋅ IsSymbol (codes ":") ⋅ SpellsName x.1.0 ⋅ IsSymbol (codes "<") ⋅ SpellsName x.1.1 ⋅ IsSymbol (codes ";")

abbrev NotSameParts : AttributeTree × Named → Language
NotSameParts x = AttributeOf x.0 ⋅ IsWord (codes "of") ⋅ SpellsName x.1 ⋅ IsSymbol (codes ";")

abbrev SameParts : List CurrentTree → Language
SameParts items = IsSymbol (codes ";") ⋅ UpTo 4294967294 SpellsCurrent items

abbrev AnswersParts : List AnswerTree → Language
AnswersParts items = IsSymbol (codes ";") ⋅ UpTo 4294967294 SpellsAnswer items

abbrev UndecidedParts : ℕ → Language
UndecidedParts counted = Says count_in counted ⋅ IsSymbol (codes ";")

reads_inconsistent : IsReader (Case (codes "inconsistent") (λ u. Inconsistent) Semicolon) ends_claim inconsistent_at
unfolding inconsistent_at
reads_inconsistent = reads_case (codes "inconsistent") (reads_symbol (codes ";")) (λ u. Inconsistent) ends_claim (λ a t. refl)

reads_consistent : IsReader (Case (codes "consistent") (λ u. Consistent) Semicolon) ends_claim consistent_at
unfolding consistent_at
reads_consistent = reads_case (codes "consistent") (reads_symbol (codes ";")) (λ u. Consistent) ends_claim (λ a t. refl)

reads_certain : IsReader (Case (codes "certain") (λ u. Certain) Semicolon) ends_claim certain_at
unfolding certain_at
reads_certain = reads_case (codes "certain") (reads_symbol (codes ";")) (λ u. Certain) ends_claim (λ a t. refl)

reads_not_certain : IsReader (Case (codes "certain") not_certain_of NotCertainParts) ends_claim not_certain_at
unfolding not_certain_at
reads_not_certain =
    reads_case (codes "certain")
    (reads_two reads_attribute (after_symbol (codes ":") (reads_two reads_name
    (after_symbol (codes "<") (before_symbol (codes ";") reads_name (λ a t e. refl))))))
    not_certain_of ends_claim (λ a t. refl)

reads_not_same : IsReader (Case (codes "same") not_same_of NotSameParts) ends_claim not_same_at
unfolding not_same_at
reads_not_same =
    reads_case (codes "same") (reads_two reads_attribute
    (after_word (codes "of") (before_symbol (codes ";") reads_name (λ a t e. refl))))
    not_same_of ends_claim (λ a t. refl)

-- what is not so, after the word `not`
abbrev Denied : ClaimTree → Language
Denied = Either (Case (codes "certain") not_certain_of NotCertainParts) (Case (codes "same") not_same_of NotSameParts)

reads_denied : IsReader Denied ends_claim denied_at
unfolding denied_at
reads_denied =
    reads_cases (codes "certain") (codes "same" ∷ []) reads_not_certain reads_not_same
    (case_begins (codes "same") not_same_of NotSameParts) (refl, tt)

reads_not : IsReader (Case (codes "not") (λ c. c) Denied) ends_claim not_at
unfolding not_at
reads_not = reads_case (codes "not") reads_denied (λ c. c) ends_claim (λ a t. refl)

reads_same_claim : IsReader (Case (codes "same") same_of SameParts) ends_claim same_at
unfolding same_at
reads_same_claim = reads_case (codes "same") (after_symbol (codes ";") reads_currents) same_of ends_claim (λ a t. refl)

reads_answers_claim : IsReader (Case (codes "answers") answers_of AnswersParts) ends_claim answers_claim_at
unfolding answers_claim_at
reads_answers_claim = reads_case (codes "answers") (after_symbol (codes ";") reads_answers) answers_of ends_claim (λ a t. refl)

reads_undecided : IsReader (Case (codes "undecided") undecided_of UndecidedParts) ends_claim undecided_at
unfolding undecided_at
reads_undecided = reads_case (codes "undecided") (before_symbol (codes ";") reads_count (λ a t e. refl)) undecided_of
    ends_claim (λ a t. refl)

-- claims from some word on, in the order in which they are tried
abbrev FromUndecided : ClaimTree → Language
FromUndecided = Case (codes "undecided") undecided_of UndecidedParts

abbrev FromAnswers : ClaimTree → Language
FromAnswers = Either (Case (codes "answers") answers_of AnswersParts) FromUndecided

abbrev FromSame : ClaimTree → Language
FromSame = Either (Case (codes "same") same_of SameParts) FromAnswers

abbrev FromNot : ClaimTree → Language
FromNot = Either (Case (codes "not") (λ c. c) Denied) FromSame

abbrev FromCertain : ClaimTree → Language
FromCertain = Either (Case (codes "certain") (λ u. Certain) Semicolon) FromNot

abbrev FromConsistent : ClaimTree → Language
FromConsistent = Either (Case (codes "consistent") (λ u. Consistent) Semicolon) FromCertain

abbrev FromInconsistent : ClaimTree → Language
FromInconsistent = Either (Case (codes "inconsistent") (λ u. Inconsistent) Semicolon) FromConsistent

abbrev words_undecided : List (List ℕ)
words_undecided = codes "undecided" ∷ []

abbrev words_answers : List (List ℕ)
words_answers = codes "answers" ∷ words_undecided

abbrev words_same : List (List ℕ)
words_same = codes "same" ∷ words_answers

abbrev words_not : List (List ℕ)
words_not = codes "not" ∷ words_same

abbrev words_certain : List (List ℕ)
words_certain = codes "certain" ∷ words_not

abbrev words_consistent : List (List ℕ)
words_consistent = codes "consistent" ∷ words_certain

begins_undecided : BeginsWith words_undecided FromUndecided
begins_undecided = case_begins (codes "undecided") undecided_of UndecidedParts

begins_answers : BeginsWith words_answers FromAnswers
begins_answers = either_begins (codes "answers") words_undecided answers_of AnswersParts FromUndecided begins_undecided

begins_same : BeginsWith words_same FromSame
begins_same = either_begins (codes "same") words_answers same_of SameParts FromAnswers begins_answers

begins_not : BeginsWith words_not FromNot
begins_not = either_begins (codes "not") words_same (λ c. c) Denied FromSame begins_same

begins_certain : BeginsWith words_certain FromCertain
begins_certain = either_begins (codes "certain") words_not (λ u. Certain) Semicolon FromNot begins_not

begins_consistent : BeginsWith words_consistent FromConsistent
begins_consistent = either_begins (codes "consistent") words_certain (λ u. Consistent) Semicolon FromCertain begins_certain

reads_further_claim : IsReader FromCertain ends_claim further_claim_at
unfolding further_claim_at
reads_further_claim =
    reads_cases (codes "certain") words_not reads_certain
    (reads_cases (codes "not") words_same reads_not
    (reads_cases (codes "same") words_answers reads_same_claim
    (reads_cases (codes "answers") words_undecided reads_answers_claim reads_undecided begins_undecided (refl, tt))
    begins_answers (refl, (refl, tt)))
    begins_same (refl, (refl, (refl, tt))))
    begins_not (refl, (refl, (refl, (refl, tt))))

-- what is denied is a claim with the word `not` before it
denied_spelled : (c : ClaimTree) (tokens : List Lexeme) → (IsWord (codes "not") ⋅ Denied c) tokens → SpellsClaim c tokens
denied_spelled c tokens h = elim h.second [
  | inl k ↦ subst (λ (c : ClaimTree). SpellsClaim c tokens) k.is (certain_spelled k.tree k.spelled)
  | inr k ↦ subst (λ (c : ClaimTree). SpellsClaim c tokens) k.is (same_spelled k.tree k.spelled)
]
  where
    certain_spelled : (x : AttributeTree × (Named × Named)) → (IsWord (codes "certain") ⋅ NotCertainParts x) h.rest
        → SpellsClaim (not_certain_of x) tokens
    certain_spelled x k = record { front = h.front; rest = h.rest; split = h.split; first = h.first; second = k }

    same_spelled : (x : AttributeTree × Named) → (IsWord (codes "same") ⋅ NotSameParts x) h.rest → SpellsClaim
        (not_same_of x) tokens
    same_spelled x k = record { front = h.front; rest = h.rest; split = h.split; first = h.first; second = k }

claim_spelled : (c : ClaimTree) (tokens : List Lexeme) → FromInconsistent c tokens → SpellsClaim c tokens
claim_spelled c tokens (inl h) = subst (λ (c : ClaimTree). SpellsClaim c tokens) h.is h.spelled
claim_spelled c tokens (inr (inl h)) = subst (λ (c : ClaimTree). SpellsClaim c tokens) h.is h.spelled
claim_spelled c tokens (inr (inr (inl h))) = subst (λ (c : ClaimTree). SpellsClaim c tokens) h.is h.spelled
claim_spelled c tokens (inr (inr (inr (inl h)))) =
    subst (λ (c : ClaimTree). SpellsClaim c tokens) h.is (denied_spelled h.tree tokens h.spelled)
claim_spelled c tokens (inr (inr (inr (inr (inl h))))) = subst (λ (c : ClaimTree). SpellsClaim c tokens) h.is h.spelled
claim_spelled c tokens (inr (inr (inr (inr (inr (inl h)))))) = subst (λ (c : ClaimTree). SpellsClaim c tokens) h.is h.spelled
claim_spelled c tokens (inr (inr (inr (inr (inr (inr h)))))) = subst (λ (c : ClaimTree). SpellsClaim c tokens) h.is h.spelled

spelled_claim : (c : ClaimTree) (tokens : List Lexeme) → SpellsClaim c tokens → FromInconsistent c tokens
spelled_claim Inconsistent tokens h = inl (record { tree = tt; is = refl; spelled = h })
spelled_claim Consistent tokens h = inr (inl (record { tree = tt; is = refl; spelled = h }))
spelled_claim Certain tokens h = inr (inr (inl (record { tree = tt; is = refl; spelled = h })))
spelled_claim (NotCertain relation attr earlier later) tokens h = inr (inr (inr (inl (record {
  tree = NotCertain relation attr earlier later;
  is = refl;
  spelled = record {
    front = h.front;
    rest = h.rest;
    split = h.split;
    first = h.first;
    second = inl (record {
      tree = (record { relation = relation; attr = attr }, (earlier, later));
      is =
          refl;
      spelled = h.second;
    });
  };
}))))
spelled_claim (NotSame relation attr entity) tokens h = inr (inr (inr (inl (record {
  tree = NotSame relation attr entity;
  is = refl;
  spelled = record {
    front = h.front;
    rest = h.rest;
    split = h.split;
    first = h.first;
    second = inr (record { tree = (record { relation = relation; attr = attr }, entity); is = refl; spelled = h.second });
  };
}))))
spelled_claim (Same items) tokens h = inr (inr (inr (inr (inl (record { tree = items; is = refl; spelled = h })))))
spelled_claim (Answers items) tokens h = inr (inr (inr (inr (inr (inl (record { tree = items; is = refl; spelled = h }))))))
spelled_claim (Undecided counted) tokens h = inr (inr (inr (inr (inr (inr (record { tree = counted; is = refl; spelled = h }))))))

reads_claim : IsReader SpellsClaim ends_claim claim_at
unfolding claim_at
reads_claim = reads_same
    (reads_cases (codes "inconsistent") words_consistent reads_inconsistent
    (reads_cases (codes "consistent") words_certain reads_consistent reads_further_claim begins_certain
    (refl, (refl, (refl, (refl, (refl, tt))))))
    begins_consistent (refl, (refl, (refl, (refl, (refl, (refl, tt)))))))
    claim_spelled spelled_claim

-- what ends a verdict
abbrev pub ends_verdict : VerdictTree → Lexeme → Bool
ends_verdict v = ends_claim v.claim

pub reads_verdict : IsReader SpellsVerdict ends_verdict verdict_at
unfolding verdict_at
reads_verdict =
    reads_made (reads_two (reads_word_on (codes "verdict")) reads_claim) (λ x. record { line = x.0; claim = x.1 }) ends_verdict
    (λ a t. refl) (λ x tokens h. h) (λ v tokens h. record { tree = (v.line, v.claim); is = refl; spelled = h })

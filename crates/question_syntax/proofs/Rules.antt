-- Questions are read as they are spelled.
use Rattle.std.proofs.Common.{◌≡◌, ℕ, Bool, true, false, not, ◌&&◌, ◌||◌, cond, List, [], ◌∷◌, inl, inr, refl, ap, subst, Option, Some, None, option_map, codes}
use Rattle.std.specs.Str.{bytes_eq}
use Rattle.text_tokens.specs.Lexeme.{Lexeme}
use Rattle.text_tokens.specs.declared.token.TokenKind.{TokenKind}
use Rattle.text_tokens.specs.declared.token.TokenKind.TheVariants.{Word, Negative, Text, Symbol, Fault}
use Rattle.text_grammar.specs.Words.{same_kind, is_word, is_symbol, as_text, name_in, named, on_line}
use Rattle.text_grammar.specs.Grammar.{Language, ◌⋅◌, Says, IsWord, IsSymbol, SpellsName, SpellsString, Listed}
use Rattle.text_grammar.specs.Reading.{one, before, choose, listed}
use Rattle.text_grammar.specs.Laws.{IsReader}
use Rattle.text_grammar.specs.declared.named.Named.{Named}
use Rattle.text_grammar.proofs.Readers.{always, Begins, Ended, Image, begins_image, first_says, first_then, reads_one, reads_two, reads_mapped, reads_same}
use Rattle.text_grammar.proofs.Choices.{Either, reads_choose}
use Rattle.text_grammar.proofs.ListReaders.{ends, reads_listed}
use Rattle.text_grammar.proofs.FixedTokens.{a_fixed, a_fixed_is, apart, reads_name, reads_string, after_word, before_symbol, listed_symbol, begins_fixed}
use Rattle.query_syntax.specs.declared.trees.QueryTree.{QueryTree}
use Rattle.query_syntax.specs.Grammar.{SpellsQuery}
use Rattle.query_syntax.proofs.Rules.{begins_query, query_ends, reads_query}
use Rattle.spec_syntax.specs.Grammar.{SpellsOrdering}
use Rattle.spec_syntax.proofs.Rules.{reads_ordering}
use Rattle.question_syntax.specs.declared.trees.AskedTree.{AskedTree}
use Rattle.question_syntax.specs.declared.trees.AskedTree.TheVariants.{Ordering, Table}
use Rattle.question_syntax.specs.declared.trees.QuestionTree.{QuestionTree}
use Rattle.question_syntax.specs.declared.trees.QuestionTree.TheVariants.{Consistent, Certain, Same, Answers}
use Rattle.question_syntax.specs.Grammar.{SpellsAsked, SpellsQuestion, word_line}
use Rattle.question_syntax.specs.Reading.{table_at, pairs_at, asked_at, consistent_at, certain_at, same_at, answers_at, question_at}

-- ---- no name is the word `orders`

not_reserved : (text : List ℕ) (line : ℕ) (n : Named) (a b c : Bool) → option_map (on_line line)
    (cond (a || b || c) None (as_text text)) ≡ Some n → c ≡ false
not_reserved text line n true b c e = absurd (cc)
not_reserved text line n false true c e = absurd (cc)
not_reserved text line n false false true e = absurd (cc)
not_reserved text line n false false false e = refl

name_by : (k : TokenKind) (text : List ℕ) (line : ℕ) (n : Named) → option_map (on_line line) (name_in k text) ≡ Some
    n → same_kind k Word && bytes_eq text (codes "orders") ≡ false
name_by Word text line n e = not_reserved text line n (bytes_eq text (codes "if")) (bytes_eq text (codes "false"))
    (bytes_eq text (codes "orders")) e
name_by Negative text line n e = refl
name_by Text text line n e = refl
name_by Symbol text line n e = refl
name_by Fault text line n e = refl

name_not_orders : (t : Lexeme) (n : Named) → named t ≡ Some n → is_word (codes "orders") t ≡ false
name_not_orders t n e = name_by t.kind t.text t.line n e

-- ---- asked parts

-- what ends an asked part: any token, but a comma goes on with an ordering
abbrev ends_asked : AskedTree → Lexeme → Bool
ends_asked (Ordering o) t = not (is_symbol (codes ",") t)
ends_asked (Table relation document) t = true

-- the parts of `orders`: relation and document
abbrev TableParts : Type 0
TableParts = Named × Named

abbrev table_of : TableParts → AskedTree
table_of x = Table x.0 x.1

abbrev SpellsTable : TableParts → Language
SpellsTable x = IsWord (codes "orders") ⋅ SpellsName x.0 ⋅ IsWord (codes "from") ⋅ SpellsString x.1

reads_table : IsReader (Image table_of SpellsTable) ends_asked table_at
unfolding table_at
reads_table = reads_mapped (after_word (codes "orders")
    (reads_two reads_name (after_word (codes "from") reads_string))) table_of ends_asked (λ x t. refl)

reads_pairs : IsReader (Image Ordering SpellsOrdering) ends_asked pairs_at
unfolding pairs_at
reads_pairs = reads_mapped reads_ordering Ordering ends_asked (λ o t. refl)

begins_table : Begins (is_word (codes "orders")) true (Image table_of SpellsTable)
begins_table = begins_image table_of SpellsTable (is_word (codes "orders")) true
    (begins_fixed (λ (x : TableParts). SpellsName x.0 ⋅ IsWord (codes "from") ⋅ SpellsString x.1) Word
    (codes "orders") (is_word (codes "orders")) true (λ t e. e))

begins_pairs : Begins (is_word (codes "orders")) false (Image Ordering SpellsOrdering)
begins_pairs = begins_image Ordering SpellsOrdering (is_word (codes "orders")) false
    (λ o tokens h. first_then (is_word (codes "orders")) false
    (first_says (is_word (codes "orders")) false name_not_orders o.relation) h)

asked_spelled : (a : AskedTree) (tokens : List Lexeme) → Either (Image table_of SpellsTable)
    (Image Ordering SpellsOrdering) a tokens → SpellsAsked a tokens
asked_spelled a tokens (inl h) = subst (λ (a : AskedTree). SpellsAsked a tokens) h.is h.spelled
asked_spelled a tokens (inr h) = subst (λ (a : AskedTree). SpellsAsked a tokens) h.is h.spelled

spelled_asked : (a : AskedTree) (tokens : List Lexeme) → SpellsAsked a tokens → Either (Image table_of SpellsTable)
    (Image Ordering SpellsOrdering) a tokens
spelled_asked (Ordering o) tokens h = inr (record { tree = o; is = refl; spelled = h })
spelled_asked (Table relation document) tokens h = inl (record { tree = (relation, document); is = refl; spelled = h })

reads_asked : IsReader SpellsAsked ends_asked asked_at
unfolding asked_at
reads_asked = reads_same (reads_choose reads_table reads_pairs (is_word (codes "orders")) begins_table begins_pairs)
    asked_spelled spelled_asked

-- the word `and` ends an asked part
ends_at_and : Ended ends_asked (is_word (codes "and"))
ends_at_and (Ordering o) t e = ap not (apart Word (codes "and") Symbol (codes ",") refl t e)
ends_at_and (Table relation document) t e = refl

-- and so does the semicolon, which ends the list too
ends_at_semicolon : Ended ends_asked (is_symbol (codes ";"))
ends_at_semicolon (Ordering o) t e = ap not (apart Symbol (codes ";") Symbol (codes ",") refl t e)
ends_at_semicolon (Table relation document) t e = refl

both_hold : (a b : Bool) → a ≡ true → b ≡ true → a && b ≡ true
both_hold true b e f = f
both_hold false b e f = absurd (cc)

list_ends : Ended (ends ends_asked (is_word (codes "and"))) (is_symbol (codes ";"))
list_ends [] t e = ap not (apart Symbol (codes ";") Word (codes "and") refl t e)
list_ends (a ∷ []) t e = both_hold (ends_asked a t) (not (is_word (codes "and") t)) (ends_at_semicolon a t e)
    (ap not (apart Symbol (codes ";") Word (codes "and") refl t e))
list_ends (a ∷ b ∷ rest) t e = list_ends (b ∷ rest) t e

-- ---- questions

-- the line of a word
reads_word_line : (text : List ℕ) → IsReader (Says (word_line text)) always (one (word_line text))
reads_word_line text = reads_one (word_line text) (a_fixed Word text) (a_fixed Word text).line
    (ap (λ (b : Bool). cond b (Some (a_fixed Word text).line) None) (a_fixed_is Word text))

-- a token that says the line of a word is that word
says_word : (text : List ℕ) (t : Lexeme) (line : ℕ) → word_line text t ≡ Some line → is_word text t ≡ true
says_word text t line e = passes (is_word text t) t.line line e
  where
    passes : (b : Bool) (n m : ℕ) → ◌≡◌ {A = Option ℕ} (cond b (Some n) None) (Some m) → b ≡ true
    passes true n m e = refl
    passes false n m e = absurd (cc)

-- what is known of a word is known of the token that says its line
first_word : (text : List ℕ) (test : Lexeme → Bool) (b : Bool) → ((t : Lexeme) → is_word text t ≡ true → test t ≡ b)
    → (t : Lexeme) (line : ℕ) → word_line text t ≡ Some line → test t ≡ b
first_word text test b goes t line e = goes t (says_word text t line e)

abbrev SpellsConsistent : ℕ → Language
SpellsConsistent line = Says (word_line (codes "consistent")) line ⋅ IsSymbol (codes ";")

reads_consistent : IsReader (Image Consistent SpellsConsistent) always consistent_at
unfolding consistent_at
reads_consistent = reads_mapped (before_symbol (codes ";") (reads_word_line (codes "consistent")) (λ line t e. refl))
    Consistent always (λ line t. refl)

-- the parts of `certain`: the line of the word, and what is asked
abbrev CertainParts : Type 0
CertainParts = ℕ × List AskedTree

abbrev certain_of : CertainParts → QuestionTree
certain_of x = Certain x.0 x.1

abbrev SpellsEndedAsked : List AskedTree → Language
SpellsEndedAsked asked = Listed (IsWord (codes "and")) SpellsAsked asked ⋅ IsSymbol (codes ";")

abbrev SpellsCertain : CertainParts → Language
SpellsCertain x = Says (word_line (codes "certain")) x.0 ⋅ SpellsEndedAsked x.1

reads_ended_asked : IsReader SpellsEndedAsked always (before (listed (is_word (codes "and")) asked_at) (is_symbol (codes ";")))
reads_ended_asked = before_symbol (codes ";")
    (reads_listed reads_asked (is_word (codes "and")) (a_fixed Word (codes "and")) (a_fixed_is Word (codes "and"))
    ends_at_and) list_ends

reads_certain : IsReader (Image certain_of SpellsCertain) always certain_at
unfolding certain_at
reads_certain = reads_mapped (reads_two (reads_word_line (codes "certain")) reads_ended_asked) certain_of always (λ x t. refl)

abbrev SpellsEndedNames : List Named → Language
SpellsEndedNames names = Listed (IsSymbol (codes ",")) SpellsName names ⋅ IsSymbol (codes ";")

-- the parts of `same`: the line of the word, and the names
abbrev SameParts : Type 0
SameParts = ℕ × List Named

abbrev same_of : SameParts → QuestionTree
same_of x = Same x.0 x.1

abbrev SpellsSame : SameParts → Language
SpellsSame x = Says (word_line (codes "same")) x.0 ⋅ SpellsEndedNames x.1

reads_same_names : IsReader (Image same_of SpellsSame) always same_at
unfolding same_at
reads_same_names = reads_mapped
    (reads_two (reads_word_line (codes "same")) (before_symbol (codes ";") (listed_symbol (codes ",") reads_name)
    (λ names t e. ap not (apart Symbol (codes ";") Symbol (codes ",") refl t e))))
    same_of always (λ x t. refl)

abbrev SpellsAnswers : QueryTree → Language
SpellsAnswers q = SpellsQuery q ⋅ IsSymbol (codes ";")

reads_answers : IsReader (Image Answers SpellsAnswers) always answers_at
unfolding answers_at
reads_answers = reads_mapped (before_symbol (codes ";") reads_query (query_ends (codes ";"))) Answers always (λ q t. refl)

begins_consistent : Begins (is_word (codes "consistent")) true (Image Consistent SpellsConsistent)
begins_consistent = begins_image Consistent SpellsConsistent (is_word (codes "consistent")) true
    (λ line tokens h. first_then (is_word (codes "consistent")) true
    (first_says (is_word (codes "consistent")) true
    (first_word (codes "consistent") (is_word (codes "consistent")) true (λ t e. e)) line) h)

begins_certain : (test : Lexeme → Bool) (b : Bool) → ((t : Lexeme) → is_word (codes "certain") t ≡ true → test t ≡ b)
    → Begins test b (Image certain_of SpellsCertain)
begins_certain test b goes = begins_image certain_of SpellsCertain test b
    (λ x tokens h. first_then test b (first_says test b (first_word (codes "certain") test b goes) x.0) h)

begins_same : (test : Lexeme → Bool) (b : Bool) → ((t : Lexeme) → is_word (codes "same") t ≡ true → test t ≡ b)
    → Begins test b (Image same_of SpellsSame)
begins_same test b goes = begins_image same_of SpellsSame test b
    (λ x tokens h. first_then test b (first_says test b (first_word (codes "same") test b goes) x.0) h)

begins_answers : (test : Lexeme → Bool) (b : Bool) → ((t : Lexeme) → is_word (codes "answers") t ≡ true → test t ≡ b)
    → Begins test b (Image Answers SpellsAnswers)
begins_answers test b goes = begins_image Answers SpellsAnswers test b
    (λ q tokens h. first_then test b (begins_query test b goes q) h)

-- questions from some word on, in the order in which they are tried
abbrev FromSame : QuestionTree → Language
FromSame = Either (Image same_of SpellsSame) (Image Answers SpellsAnswers)

abbrev FromCertain : QuestionTree → Language
FromCertain = Either (Image certain_of SpellsCertain) FromSame

abbrev FromConsistent : QuestionTree → Language
FromConsistent = Either (Image Consistent SpellsConsistent) FromCertain

begins_from_same : (test : Lexeme → Bool) (b : Bool) → ((t : Lexeme) → is_word (codes "same") t ≡ true → test t ≡ b)
    → ((t : Lexeme) → is_word (codes "answers") t ≡ true → test t ≡ b) → Begins test b FromSame
begins_from_same test b same answers q tokens (inl h) = begins_same test b same q tokens h
begins_from_same test b same answers q tokens (inr h) = begins_answers test b answers q tokens h

begins_from_certain : Begins (is_word (codes "consistent")) false FromCertain
begins_from_certain q tokens (inl h) =
    begins_certain (is_word (codes "consistent")) false (apart Word (codes "certain") Word (codes "consistent") refl) q tokens h
begins_from_certain q tokens (inr h) =
    begins_from_same (is_word (codes "consistent")) false (apart Word (codes "same") Word (codes "consistent") refl)
    (apart Word (codes "answers") Word (codes "consistent") refl) q tokens h

question_spelled : (q : QuestionTree) (tokens : List Lexeme) → FromConsistent q tokens → SpellsQuestion q tokens
question_spelled q tokens (inl h) = subst (λ (q : QuestionTree). SpellsQuestion q tokens) h.is h.spelled
question_spelled q tokens (inr (inl h)) = subst (λ (q : QuestionTree). SpellsQuestion q tokens) h.is h.spelled
question_spelled q tokens (inr (inr (inl h))) = subst (λ (q : QuestionTree). SpellsQuestion q tokens) h.is h.spelled
question_spelled q tokens (inr (inr (inr h))) = subst (λ (q : QuestionTree). SpellsQuestion q tokens) h.is h.spelled

spelled_question : (q : QuestionTree) (tokens : List Lexeme) → SpellsQuestion q tokens → FromConsistent q tokens
spelled_question (Consistent line) tokens h = inl (record { tree = line; is = refl; spelled = h })
spelled_question (Certain line asked) tokens h = inr (inl (record { tree = (line, asked); is = refl; spelled = h }))
spelled_question (Same line names) tokens h = inr (inr (inl (record { tree = (line, names); is = refl; spelled = h })))
spelled_question (Answers query) tokens h = inr (inr (inr (record { tree = query; is = refl; spelled = h })))

reads_from_same : IsReader FromSame always (choose (is_word (codes "same")) same_at answers_at)
reads_from_same = reads_choose reads_same_names reads_answers (is_word (codes "same"))
    (begins_same (is_word (codes "same")) true (λ t e. e))
    (begins_answers (is_word (codes "same")) false (apart Word (codes "answers") Word (codes "same") refl))

reads_from_certain : IsReader FromCertain always (choose (is_word (codes "certain")) certain_at
    (choose (is_word (codes "same")) same_at answers_at))
reads_from_certain = reads_choose reads_certain reads_from_same (is_word (codes "certain"))
    (begins_certain (is_word (codes "certain")) true (λ t e. e))
    (begins_from_same (is_word (codes "certain")) false (apart Word (codes "same") Word (codes "certain") refl)
    (apart Word (codes "answers") Word (codes "certain") refl))

pub reads_question : IsReader SpellsQuestion always question_at
unfolding question_at
reads_question = reads_same
    (reads_choose reads_consistent reads_from_certain (is_word (codes "consistent")) begins_consistent begins_from_certain)
    question_spelled spelled_question

-- A choice among rules that begin with different words.
use Rattle.std.proofs.Common.{◌≡◌, ℕ, Bool, true, false, List, [], ◌∷◌, inl, inr}
use Rattle.std.specs.Str.{bytes_eq}
use Rattle.text_tokens.specs.Lexeme.{Lexeme}
use Rattle.text_tokens.specs.declared.token.TokenKind.TheVariants.{Word}
use Rattle.text_grammar.specs.Words.{is_word}
use Rattle.text_grammar.specs.Grammar.{Language, ◌⋅◌, IsWord}
use Rattle.text_grammar.specs.Reading.{Parser, after, both, choose, mapped, one}
use Rattle.text_grammar.specs.Laws.{IsReader}
use Rattle.text_grammar.proofs.Readers.{Begins, Image, begins_image, reads_mapped, reads_two}
use Rattle.text_grammar.proofs.Choices.{Either, reads_choose}
use Rattle.text_grammar.proofs.FixedTokens.{after_word, apart, begins_fixed}
use Rattle.log_syntax.specs.Grammar.{IsWordOn, word_line}
use Rattle.log_syntax.proofs.WordLines.{begins_word_line, reads_word_on}

-- a rule of a word and parts, made into a tree
abbrev pub Case : {A B : Type 0} → List ℕ → (A → B) → (A → Language) → B → Language
Case word f P = Image f (λ a. IsWord word ⋅ P a)

-- the same where the word's line is kept
abbrev pub CaseOn : {A B : Type 0} → List ℕ → (ℕ × A → B) → (A → Language) → B → Language
CaseOn word f P = Image f (λ x. IsWordOn word x.0 ⋅ P x.1)

-- a test answers so at each of these words
abbrev pub AnswersAt : (Lexeme → Bool) → Bool → List (List ℕ) → Type 0
AnswersAt test b [] = Unit {0}
AnswersAt test b (word ∷ words) = ((t : Lexeme) → is_word word t ≡ true → test t ≡ b) × AnswersAt test b words

-- rules that begin with these words
abbrev pub BeginsWith : {B : Type 0} → List (List ℕ) → (B → Language) → Type 0
BeginsWith words Q = (test : Lexeme → Bool) (b : Bool) → AnswersAt test b words → Begins test b Q

-- a word differs from each of these: `refl` proves it of each
abbrev pub Differs : List ℕ → List (List ℕ) → Type 0
Differs word [] = Unit {0}
Differs word (other ∷ words) = (bytes_eq other word ≡ false) × Differs word words

answers_apart : (word : List ℕ) (words : List (List ℕ)) → Differs word words → AnswersAt (is_word word) false words
answers_apart word [] h = tt
answers_apart word (other ∷ words) h = (apart Word other Word word h.0, answers_apart word words h.1)

pub case_begins : {A B : Type 0} (word : List ℕ) (f : A → B) (P : A → Language) → BeginsWith (word ∷ []) (Case word f P)
case_begins word f P test b h = begins_image f (λ a. IsWord word ⋅ P a) test b (begins_fixed P Word word test b h.0)

pub case_on_begins : {A B : Type 0} (word : List ℕ) (f : ℕ × A → B) (P : A → Language) → BeginsWith (word ∷ []) (CaseOn word f P)
case_on_begins word f P test b h =
    begins_image f (λ x. IsWordOn word x.0 ⋅ P x.1) test b (λ x tokens k. begins_word_line word test b h.0 x.0 (P x.1) tokens k)

-- a rule that begins with a word, or those of others
pub one_of_begins : {B : Type 0} (word : List ℕ) (words : List (List ℕ)) (P Q : B → Language) → BeginsWith (word ∷ []) P
    → BeginsWith words Q → BeginsWith (word ∷ words) (Either P Q)
one_of_begins word words P Q begins begins' test b h tree tokens (inl k) = begins test b (h.0, tt) tree tokens k
one_of_begins word words P Q begins begins' test b h tree tokens (inr k) = begins' test b h.1 tree tokens k

pub either_begins : {A B : Type 0} (word : List ℕ) (words : List (List ℕ)) (f : A → B) (P : A → Language) (Q : B → Language)
    → BeginsWith words Q → BeginsWith (word ∷ words) (Either (Case word f P) Q)
either_begins word words f P Q begins = one_of_begins word words (Case word f P) Q (case_begins word f P) begins

pub either_on_begins : {A B : Type 0} (word : List ℕ) (words : List (List ℕ)) (f : ℕ × A → B) (P : A → Language)
    (Q : B → Language)
    → BeginsWith words Q → BeginsWith (word ∷ words) (Either (CaseOn word f P) Q)
either_on_begins word words f P Q begins = one_of_begins word words (CaseOn word f P) Q (case_on_begins word f P) begins

-- ---- their readers

pub reads_case : {A B : Type 0} {P : A → Language} {stop : A → Lexeme → Bool} {p : Parser A}
    → (word : List ℕ) → IsReader P stop p → (f : A → B) (stop' : B → Lexeme → Bool)
    → ((a : A) (t : Lexeme) → stop' (f a) t ≡ stop a t)
    → IsReader (Case word f P) stop' (mapped f (after (is_word word) p))
reads_case word r f stop' same = reads_mapped (after_word word r) f stop' same

pub reads_case_on : {A B : Type 0} {P : A → Language} {stop : A → Lexeme → Bool} {p : Parser A}
    → (word : List ℕ) → IsReader P stop p → (f : ℕ × A → B) (stop' : B → Lexeme → Bool)
    → ((x : ℕ × A) (t : Lexeme) → stop' (f x) t ≡ stop x.1 t)
    → IsReader (CaseOn word f P) stop' (mapped f (both (one (word_line word)) p))
reads_case_on word r f stop' same = reads_mapped (reads_two (reads_word_on word) r) f stop' same

-- a rule that begins with a word, or those of others
pub reads_one_of : {B : Type 0} {P Q : B → Language} {stop : B → Lexeme → Bool} {p q : Parser B}
    → (word : List ℕ) (words : List (List ℕ)) → IsReader P stop p → BeginsWith (word ∷ []) P → IsReader Q stop q
    → BeginsWith words Q
    → Differs word words → IsReader (Either P Q) stop (choose (is_word word) p q)
reads_one_of word words r begins w begins' differs =
    reads_choose r w (is_word word) (begins (is_word word) true ((λ t e. e), tt))
    (begins' (is_word word) false (answers_apart word words differs))

-- the case of a word, or those of others
pub reads_cases : {A B : Type 0} {P : A → Language} {Q : B → Language} {stop : B → Lexeme → Bool} {p q : Parser B} {f : A → B}
    → (word : List ℕ) (words : List (List ℕ)) → IsReader (Case word f P) stop p → IsReader Q stop q → BeginsWith words Q
    → Differs word words
    → IsReader (Either (Case word f P) Q) stop (choose (is_word word) p q)
reads_cases {P = P} {f = f} word words r w begins differs = reads_one_of word words r (case_begins word f P) w begins differs

pub reads_cases_on : {A B : Type 0} {Q : B → Language} {stop : B → Lexeme → Bool} {p q : Parser B}
    → (word : List ℕ) (words : List (List ℕ)) (f : ℕ × A → B) (P : A → Language) → IsReader (CaseOn word f P) stop p
    → IsReader Q stop q → BeginsWith words Q
    → Differs word words
    → IsReader (Either (CaseOn word f P) Q) stop (choose (is_word word) p q)
reads_cases_on word words f P r w begins differs = reads_one_of word words r (case_on_begins word f P) w begins differs

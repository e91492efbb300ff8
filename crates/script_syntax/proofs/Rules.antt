-- Scripts are read as they are spelled.
use Rattle.std.proofs.Common.{◌≡◌, ℕ, Bool, true, false, cond, List, inl, inr, refl, ap, subst, Option, Some, None, codes}
use Rattle.text_tokens.specs.Lexeme.{Lexeme}
use Rattle.text_tokens.specs.declared.token.TokenKind.TheVariants.{Word}
use Rattle.text_grammar.specs.Words.{is_word}
use Rattle.text_grammar.specs.Grammar.{Language, ◌⋅◌, Says, IsWord, IsSymbol, SpellsName}
use Rattle.text_grammar.specs.Reading.{one, choose}
use Rattle.text_grammar.specs.Laws.{IsReader}
use Rattle.text_grammar.specs.declared.named.Named.{Named}
use Rattle.text_grammar.specs.declared.named.NamedPair.{NamedPair}
use Rattle.text_grammar.proofs.Readers.{always, Begins, FirstIs, Image, begins_image, first_says, first_then, reads_one, reads_two, reads_made, reads_mapped, reads_same}
use Rattle.text_grammar.proofs.Choices.{Either, reads_choose}
use Rattle.text_grammar.proofs.ListReaders.{unless, reads_many_plain}
use Rattle.text_grammar.proofs.FixedTokens.{a_fixed, a_fixed_is, apart, reads_name, after_word, after_symbol, before_symbol, begins_fixed}
use Rattle.rule_syntax.specs.Grammar.{SpellsRule}
use Rattle.rule_syntax.proofs.Rules.{begins_rule, reads_rule}
use Rattle.copy_syntax.specs.Grammar.{SpellsMapping}
use Rattle.copy_syntax.proofs.Copies.{reads_mapping}
use Rattle.spec_syntax.specs.Grammar.{SpellsPair}
use Rattle.spec_syntax.proofs.Rules.{reads_pair}
use Rattle.question_syntax.specs.declared.trees.QuestionTree.{QuestionTree}
use Rattle.question_syntax.specs.Grammar.{SpellsQuestion, word_line}
use Rattle.question_syntax.proofs.Rules.{reads_question}
use Rattle.script_syntax.specs.declared.trees.Entry.{Entry}
use Rattle.script_syntax.specs.declared.trees.EntryTree.{EntryTree}
use Rattle.script_syntax.specs.declared.trees.EntryTree.TheVariants.{Order, AddRule, WithdrawRule, Copy, Ask}
use Rattle.script_syntax.specs.Grammar.{verb, SpellsGiven, SpellsCopied, SpellsOn, SpellsEntry, SpellsScript}
use Rattle.script_syntax.specs.Reading.{order_at, constraint_at, copying_at, change_at, edit_at, ask_at, entry_at, script_at}

-- ---- what is added or withdrawn

-- the parts of a given pair: relation, attribute and pair
abbrev GivenParts : Type 0
GivenParts = Named × (Named × NamedPair)

abbrev order_of : Bool → GivenParts → EntryTree
order_of add x = Order add x.0 x.1.0 x.1.1

abbrev SpellsGivenParts : GivenParts → Language
SpellsGivenParts x = SpellsGiven x.0 x.1.0 x.1.1

abbrev Orders : Bool → EntryTree → Language
Orders add = Image (order_of add) SpellsGivenParts

reads_order : (add : Bool) → IsReader (Orders add) always (order_at add)
unfolding order_at
reads_order add = reads_mapped
    (after_word (codes "order") (reads_two reads_name (after_symbol (codes ".") (reads_two reads_name
    (after_symbol (codes ":") reads_pair)))))
    (order_of add) always (λ x t. refl)

abbrev SpellsRuleName : Named → Language
SpellsRuleName name = IsWord (codes "rule") ⋅ SpellsName name

-- a rule that is added, or the name of one that is withdrawn
abbrev Constraints : Bool → EntryTree → Language
Constraints true = Image AddRule SpellsRule
Constraints false = Image WithdrawRule SpellsRuleName

reads_constraint : (add : Bool) → IsReader (Constraints add) always (constraint_at add)
unfolding constraint_at
reads_constraint true = reads_mapped reads_rule AddRule always (λ r t. refl)
reads_constraint false = reads_mapped (after_word (codes "rule") reads_name) WithdrawRule always (λ n t. refl)

-- the parts of a copied row: the copy's name and the mapping
abbrev CopiedParts : Type 0
CopiedParts = Named × NamedPair

abbrev copy_of : Bool → CopiedParts → EntryTree
copy_of add x = Copy add x.0 x.1

abbrev SpellsCopiedParts : CopiedParts → Language
SpellsCopiedParts x = SpellsCopied x.0 x.1

abbrev Copies : Bool → EntryTree → Language
Copies add = Image (copy_of add) SpellsCopiedParts

reads_copying : (add : Bool) → IsReader (Copies add) always (copying_at add)
unfolding copying_at
reads_copying add = reads_mapped
    (after_word (codes "copy") (reads_two reads_name (after_symbol (codes ":") reads_mapping)))
    (copy_of add) always (λ x t. refl)

begins_order : (add : Bool) → Begins (is_word (codes "order")) true (Orders add)
begins_order add = begins_image (order_of add) SpellsGivenParts (is_word (codes "order")) true
    (begins_fixed
    (λ (x : GivenParts). SpellsName x.0 ⋅ IsSymbol (codes ".") ⋅ SpellsName x.1.0 ⋅ IsSymbol (codes ":") ⋅ SpellsPair x.1.1)
    Word (codes "order") (is_word (codes "order")) true (λ t e. e))

begins_constraint : (add : Bool) (test : Lexeme → Bool) (b : Bool) → ((t : Lexeme) → is_word (codes "rule") t ≡ true
    → test t ≡ b) → Begins test b (Constraints add)
begins_constraint true test b goes = begins_image AddRule SpellsRule test b (begins_rule test b goes)
begins_constraint false test b goes = begins_image WithdrawRule SpellsRuleName test b
    (begins_fixed SpellsName Word (codes "rule") test b goes)

begins_copying : (add : Bool) (test : Lexeme → Bool) (b : Bool) → ((t : Lexeme) → is_word (codes "copy") t ≡ true
    → test t ≡ b) → Begins test b (Copies add)
begins_copying add test b goes = begins_image (copy_of add) SpellsCopiedParts test b
    (begins_fixed (λ (x : CopiedParts). SpellsName x.0 ⋅ IsSymbol (codes ":") ⋅ SpellsMapping x.1) Word (codes "copy")
    test b goes)

-- changes from the word `rule` on, in the order in which they are tried
abbrev FromRule : Bool → EntryTree → Language
FromRule add = Either (Constraints add) (Copies add)

abbrev Changes : Bool → EntryTree → Language
Changes add = Either (Orders add) (FromRule add)

begins_from_rule : (add : Bool) → Begins (is_word (codes "order")) false (FromRule add)
begins_from_rule add c tokens (inl h) =
    begins_constraint add (is_word (codes "order")) false (apart Word (codes "rule") Word (codes "order") refl) c tokens h
begins_from_rule add c tokens (inr h) =
    begins_copying add (is_word (codes "order")) false (apart Word (codes "copy") Word (codes "order") refl) c tokens h

reads_from_rule : (add : Bool) → IsReader (FromRule add) always
    (choose (is_word (codes "rule")) (constraint_at add) (copying_at add))
reads_from_rule add = reads_choose (reads_constraint add) (reads_copying add) (is_word (codes "rule"))
    (begins_constraint add (is_word (codes "rule")) true (λ t e. e))
    (begins_copying add (is_word (codes "rule")) false (apart Word (codes "copy") Word (codes "rule") refl))

reads_change : (add : Bool) → IsReader (Changes add) always (change_at add)
unfolding change_at
reads_change add = reads_choose (reads_order add) (reads_from_rule add) (is_word (codes "order")) (begins_order add)
    (begins_from_rule add)

-- ---- the word of an entry

-- the line of a word
reads_word_line : (text : List ℕ) → IsReader (Says (word_line text)) always (one (word_line text))
reads_word_line text = reads_one (word_line text) (a_fixed Word text) (a_fixed Word text).line
    (ap (λ (b : Bool). cond b (Some (a_fixed Word text).line) None) (a_fixed_is Word text))

-- a token that says the line of a word is that word
says_word : (text : List ℕ) (t : Lexeme) (line : ℕ) → word_line text t ≡ Some line → is_word text t ≡ true
says_word text t line e = passes (is_word text t) t.line line e
  where
    passes : (b : Bool) (n m : ℕ) → ◌≡◌ {A = Option ℕ} (cond b (Some n) None) (Some m) → b ≡ true
    passes true n m e = refl
    passes false n m e = absurd (cc)

-- what begins with the line of a word, seen by the test for this or another one
begins_line : {rest : List Lexeme → Type 0} (text : List ℕ) (test : Lexeme → Bool) (b : Bool)
    → ((t : Lexeme) → is_word text t ≡ true → test t ≡ b) → (line : ℕ) (tokens : List Lexeme)
    → (Says (word_line text) line ⋅ rest) tokens → FirstIs test b tokens
begins_line text test b goes line tokens h =
    first_then test b (first_says test b (λ t n e. goes t (says_word text t n e)) line) h

-- ---- entries

-- an edit that adds, or one that withdraws
abbrev Edits : Bool → Entry → Language
Edits add e = Says (word_line (verb add)) e.line ⋅ Changes add e.tree ⋅ IsSymbol (codes ";")

reads_edit : (add : Bool) → IsReader (Edits add) always (edit_at add)
unfolding edit_at
reads_edit add =
    reads_made (reads_two (reads_word_line (verb add)) (before_symbol (codes ";") (reads_change add) (λ c t e. refl)))
    (λ x. record { line = x.0; tree = x.1 }) always
    (λ x t. refl) (λ x tokens h. h) (λ e tokens h. record { tree = (e.line, e.tree); is = refl; spelled = h })

-- the parts of a question: the line of the word and the question
abbrev AskParts : Type 0
AskParts = ℕ × QuestionTree

abbrev ask_of : AskParts → Entry
ask_of x = record { line = x.0; tree = Ask x.1 }

abbrev SpellsAsk : AskParts → Language
SpellsAsk x = Says (word_line (codes "ask")) x.0 ⋅ SpellsQuestion x.1

abbrev Asks : Entry → Language
Asks = Image ask_of SpellsAsk

reads_ask : IsReader Asks always ask_at
unfolding ask_at
reads_ask = reads_mapped (reads_two (reads_word_line (codes "ask")) reads_question) ask_of always (λ x t. refl)

begins_edit : (add : Bool) (test : Lexeme → Bool) (b : Bool) → ((t : Lexeme) → is_word (verb add) t ≡ true
    → test t ≡ b) → Begins test b (Edits add)
begins_edit add test b goes e tokens h = begins_line (verb add) test b goes e.line tokens h

begins_ask : (test : Lexeme → Bool) (b : Bool) → ((t : Lexeme) → is_word (codes "ask") t ≡ true → test t ≡ b)
    → Begins test b Asks
begins_ask test b goes = begins_image ask_of SpellsAsk test b
    (λ x tokens h. begins_line (codes "ask") test b goes x.0 tokens h)

-- entries from the word `withdraw` on, in the order in which they are tried
abbrev FromWithdraw : Entry → Language
FromWithdraw = Either (Edits false) Asks

abbrev FromAdd : Entry → Language
FromAdd = Either (Edits true) FromWithdraw

begins_from_withdraw : (test : Lexeme → Bool) (b : Bool) → ((t : Lexeme) → is_word (codes "withdraw") t ≡ true
    → test t ≡ b) → ((t : Lexeme) → is_word (codes "ask") t ≡ true → test t ≡ b) → Begins test b FromWithdraw
begins_from_withdraw test b withdraw ask e tokens (inl h) = begins_edit false test b withdraw e tokens h
begins_from_withdraw test b withdraw ask e tokens (inr h) = begins_ask test b ask e tokens h

reads_from_withdraw : IsReader FromWithdraw always (choose (is_word (codes "withdraw")) (edit_at false) ask_at)
reads_from_withdraw = reads_choose (reads_edit false) reads_ask (is_word (codes "withdraw"))
    (begins_edit false (is_word (codes "withdraw")) true (λ t e. e))
    (begins_ask (is_word (codes "withdraw")) false (apart Word (codes "ask") Word (codes "withdraw") refl))

-- the middle one of three parts in other words
with_middle : {L M N K : List Lexeme → Type 0} {tokens : List Lexeme} (h : (L ⋅ M ⋅ N) tokens) → K h.second.front
    → (L ⋅ K ⋅ N) tokens
with_middle h k = record {
  front = h.front;
  rest = h.rest;
  split = h.split;
  first = h.first;
  second = record {
    front = h.second.front;
    rest = h.second.rest;
    split = h.second.split;
    first = k;
    second = h.second.second;
  };
}

-- an edit is spelled as an entry
edit_spelled : (add : Bool) (line : ℕ) (tree : EntryTree) (tokens : List Lexeme)
    (h : (Says (word_line (verb add)) line ⋅ Changes add tree ⋅ IsSymbol (codes ";")) tokens)
    → Changes add tree h.second.front → SpellsOn line tree tokens
edit_spelled add line tree tokens h (inl k) = subst (λ (c : EntryTree). SpellsOn line c tokens) k.is
    (with_middle {K = SpellsGivenParts k.tree} h k.spelled)
edit_spelled true line tree tokens h (inr (inl k)) = subst (λ (c : EntryTree). SpellsOn line c tokens) k.is
    (with_middle {K = SpellsRule k.tree} h k.spelled)
edit_spelled false line tree tokens h (inr (inl k)) = subst (λ (c : EntryTree). SpellsOn line c tokens) k.is
    (with_middle {K = SpellsRuleName k.tree} h k.spelled)
edit_spelled add line tree tokens h (inr (inr k)) = subst (λ (c : EntryTree). SpellsOn line c tokens) k.is
    (with_middle {K = SpellsCopiedParts k.tree} h k.spelled)

entry_spelled : (e : Entry) (tokens : List Lexeme) → FromAdd e tokens → SpellsEntry e tokens
entry_spelled e tokens (inl h) = edit_spelled true e.line e.tree tokens h h.second.first
entry_spelled e tokens (inr (inl h)) = edit_spelled false e.line e.tree tokens h h.second.first
entry_spelled e tokens (inr (inr h)) = subst (λ (e : Entry). SpellsEntry e tokens) h.is h.spelled

-- an entry that adds or withdraws is spelled as an edit
spelled_edit : (add : Bool) (line : ℕ) (tree : EntryTree) (tokens : List Lexeme)
    → (Says (word_line (verb add)) line ⋅ Changes add tree ⋅ IsSymbol (codes ";")) tokens
    → FromAdd (record { line = line; tree = tree }) tokens
spelled_edit true line tree tokens h = inl h
spelled_edit false line tree tokens h = inr (inl h)

spelled_on : (line : ℕ) (tree : EntryTree) (tokens : List Lexeme) → SpellsOn line tree tokens
    → FromAdd (record { line = line; tree = tree }) tokens
spelled_on line (Order add relation attr pair) tokens h = spelled_edit add line (Order add relation attr pair) tokens
    (with_middle {K = Changes add (Order add relation attr pair)} h
    (inl (record { tree = (relation, (attr, pair)); is = refl; spelled = h.second.first })))
spelled_on line (AddRule rule) tokens h = inl
    (with_middle {K = Changes true (AddRule rule)} h
    (inr (inl (record { tree = rule; is = refl; spelled = h.second.first }))))
spelled_on line (WithdrawRule name) tokens h = inr (inl
    (with_middle {K = Changes false (WithdrawRule name)} h
    (inr (inl (record { tree = name; is = refl; spelled = h.second.first })))))
spelled_on line (Copy add name mapping) tokens h = spelled_edit add line (Copy add name mapping) tokens
    (with_middle {K = Changes add (Copy add name mapping)} h
    (inr (inr (record { tree = (name, mapping); is = refl; spelled = h.second.first }))))
spelled_on line (Ask question) tokens h = inr (inr (record { tree = (line, question); is = refl; spelled = h }))

spelled_entry : (e : Entry) (tokens : List Lexeme) → SpellsEntry e tokens → FromAdd e tokens
spelled_entry e tokens h = spelled_on e.line e.tree tokens h

reads_entry : IsReader SpellsEntry always entry_at
unfolding entry_at
reads_entry = reads_same
    (reads_choose (reads_edit true) reads_from_withdraw (is_word (codes "add"))
    (begins_edit true (is_word (codes "add")) true (λ t e. e))
    (begins_from_withdraw (is_word (codes "add")) false (apart Word (codes "withdraw") Word (codes "add") refl)
    (apart Word (codes "ask") Word (codes "add") refl)))
    entry_spelled spelled_entry

-- ---- scripts

begins_entry : Begins (λ t. true) true SpellsEntry
begins_entry e tokens h = elim (spelled_entry e tokens h) [
  | inl k ↦ begins_edit true (λ t. true) true (λ t i. refl) e tokens k
  | inr k ↦ begins_from_withdraw (λ t. true) true (λ t i. refl) (λ t i. refl) e tokens k
]

pub reads_script : IsReader SpellsScript (unless (λ t. true)) script_at
unfolding script_at
reads_script = reads_many_plain reads_entry (λ t. true) begins_entry

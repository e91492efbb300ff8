-- The rules of logs are read as they are spelled.
use Rattle.std.proofs.Common.{◌≡◌, ℕ, Bool, true, not, List, [], ◌∷◌, inl, inr, refl, sym, ap, subst, Option, Some, None, codes}
use Rattle.text_tokens.specs.Lexeme.{Lexeme}
use Rattle.text_tokens.specs.declared.token.TokenKind.TheVariants.{Symbol}
use Rattle.text_grammar.specs.Words.{is_symbol}
use Rattle.text_grammar.specs.Grammar.{Language, ◌⋅◌, IsSymbol, Maybe}
use Rattle.text_grammar.specs.Reading.{both}
use Rattle.text_grammar.specs.Laws.{IsReader}
use Rattle.text_grammar.proofs.Readers.{always, Begins, Ended, Image, first_then, reads_made, reads_same, reads_then, reads_two}
use Rattle.text_grammar.proofs.Choices.{Either, maybe_ends, reads_maybe}
use Rattle.text_grammar.proofs.FixedTokens.{after_symbol, apart, before_symbol, begins_fixed}
use Rattle.currency_base.specs.declared.ids.EntId.{EntId}
use Rattle.currency_base.specs.declared.ids.RowId.{RowId}
use Rattle.currency_base.specs.declared.lit.Lit.{Lit}
use Rattle.currency_base.specs.declared.value.Value.{Value}
use Rattle.refutation_log.specs.declared.step.Label.{Label}
use Rattle.refutation_log.specs.declared.step.Label.TheVariants as label
use Rattle.log_syntax.specs.declared.trees.Cell.{Cell}
use Rattle.log_syntax.specs.Numbers.{lit_in, place_in, says_some}
use Rattle.log_syntax.specs.Grammar.{SpellsCell, SpellsConstant, SpellsConstants, SpellsEntities, SpellsFurther, SpellsHints, SpellsLabel, SpellsLits, SpellsNumber, SpellsRows, SpellsValues, UpTo}
use Rattle.log_syntax.specs.Reading.{above_at, all_of, cell_at, constants_at, copy_at, current_label_at, entities_at, entity_at, further_at, given_at, hints_at, is_inside, label_at, last_at, lits_at, match_at, number_at, pushed, put_all, row_at, rows_at, rule_at, some_constants_at, top_at, transitive_at, value_at, values_at}
use Rattle.log_syntax.proofs.Gathering.{all_pushed}
use Rattle.log_syntax.proofs.Keywords.{BeginsWith, Case, case_begins, either_begins, reads_case, reads_cases}
use Rattle.log_syntax.proofs.Tokens.{begins_said, constant_inside, reads_constant_value, reads_lit, reads_number, symbol_no_lit, symbol_no_number}
use Rattle.log_syntax.proofs.UpToReaders.{ended_within, ends_within, reads_gathered, reads_up_to}

-- ---- lists of tokens

-- what ends numbers, and literals
abbrev pub ends_numbers : {A : Type 0} → List A → Lexeme → Bool
ends_numbers = ends_within 4294967294 (says_some place_in)

abbrev pub ends_lits : List Lit → Lexeme → Bool
ends_lits = ends_within 4294967294 (says_some lit_in)

-- a symbol ends them
pub numbers_end : {A : Type 0} (text : List ℕ) → Ended {A = List A} ends_numbers (is_symbol text)
numbers_end text = ended_within 4294967294 (says_some place_in) (is_symbol text) (symbol_no_number text)

pub lits_end : (text : List ℕ) → Ended ends_lits (is_symbol text)
lits_end text = ended_within 4294967294 (says_some lit_in) (is_symbol text) (symbol_no_lit text)

reads_row : IsReader (λ (row : RowId). SpellsNumber row.0) always row_at
unfolding row_at
reads_row = reads_made reads_number (λ n. record { 0 = n }) always (λ a t. refl) (λ n tokens h. h)
    (λ row tokens h. record { tree = row.0; is = refl; spelled = h })

reads_entity : IsReader (λ (entity : EntId). SpellsNumber entity.0) always entity_at
unfolding entity_at
reads_entity = reads_made reads_number (λ n. record { 0 = n }) always (λ a t. refl) (λ n tokens h. h)
    (λ entity tokens h. record { tree = entity.0; is = refl; spelled = h })

reads_rows : IsReader SpellsRows ends_numbers rows_at
unfolding rows_at
reads_rows = reads_gathered reads_row (says_some place_in) (λ row. begins_said place_in row.0) 4294967294

reads_entities : IsReader SpellsEntities ends_numbers entities_at
unfolding entities_at
reads_entities = reads_gathered reads_entity (says_some place_in) (λ entity. begins_said place_in entity.0) 4294967294

pub reads_hints : IsReader SpellsHints ends_numbers hints_at
unfolding hints_at
reads_hints = reads_gathered reads_number (says_some place_in) (begins_said place_in) 4294967294

pub reads_lits : IsReader SpellsLits ends_lits lits_at
unfolding lits_at
reads_lits = reads_gathered reads_lit (says_some lit_in) (begins_said lit_in) 4294967294

abbrev pub CellOf : Cell → Language
CellOf c = SpellsCell c.rel c.attr c.row

pub reads_cell : IsReader CellOf always cell_at
unfolding cell_at
reads_cell =
    reads_made (reads_two reads_number (reads_two reads_number reads_number))
    (λ x. record { rel = record { 0 = x.0 }; attr = record { 0 = x.1.0 }; row = record { 0 = x.1.1 } }) always
    (λ a t. refl) (λ x tokens h. h) (λ c tokens h. record { tree = (c.rel.0, (c.attr.0, c.row.0)); is = refl; spelled = h })

-- ---- values

-- one constant or more
abbrev SomeConstants : List Value → Language
SomeConstants [] = λ tokens. ⊥
SomeConstants (v ∷ vs) = SpellsConstant v ⋅ UpTo 4294967293 SpellsFurther vs

-- what ends constants
abbrev ends_constants : List Value → Lexeme → Bool
ends_constants [] t = not (is_inside t)
ends_constants (v ∷ vs) t = ends_within 4294967293 (is_symbol (codes ",")) vs t

begins_further : Begins (is_symbol (codes ",")) true SpellsFurther
begins_further = begins_fixed SpellsConstant Symbol (codes ",") (is_symbol (codes ",")) true (λ t e. e)

reads_further : IsReader SpellsFurther always further_at
unfolding further_at
reads_further = after_symbol (codes ",") reads_constant_value

all_constants : (v : Value) (vs : List Value) → put_all pushed (v ∷ []) vs ≡ v ∷ vs
all_constants v vs = all_pushed (v ∷ []) vs

reads_some_constants : IsReader SomeConstants ends_constants some_constants_at
unfolding some_constants_at
reads_some_constants =
    reads_made (reads_two reads_constant_value (reads_up_to reads_further (is_symbol (codes ",")) begins_further 4294967293))
    (λ x. put_all pushed (x.0 ∷ []) x.1) ends_constants
    (λ x t. ap (λ (l : List Value). ends_constants l t) (all_constants x.0 x.1))
    (λ x tokens h. subst (λ (l : List Value). SomeConstants l tokens) (sym (all_constants x.0 x.1)) h)
    back
  where
    back : (vs : List Value) (tokens : List Lexeme) → SomeConstants vs tokens
        → Image (λ (x : Value × List Value). put_all pushed (x.0 ∷ []) x.1)
        (λ (x : Value × List Value). SpellsConstant x.0 ⋅ UpTo 4294967293 SpellsFurther x.1) vs tokens
    back [] tokens h = absurd h
    back (v ∷ vs) tokens h = record { tree = (v, vs); is = all_constants v vs; spelled = h }

begins_some_constants : Begins is_inside true SomeConstants
begins_some_constants [] tokens h = absurd h
begins_some_constants (v ∷ vs) tokens h = first_then is_inside true
    (λ front k. record { token = k.token; rest = []; is = k.alone; answers = constant_inside k.token v k.said }) h

reads_constants : IsReader SpellsConstants ends_constants constants_at
unfolding constants_at
reads_constants =
    reads_made (reads_maybe reads_some_constants is_inside begins_some_constants) all_of ends_constants same into back
  where
    same : (o : Option (List Value)) (t : Lexeme) → ends_constants (all_of o) t ≡ maybe_ends ends_constants is_inside o t
    same None t = refl
    same (Some vs) t = refl

    into : (o : Option (List Value)) (tokens : List Lexeme) → Maybe SomeConstants o tokens → SpellsConstants (all_of o) tokens
    into None tokens h = h
    into (Some []) tokens h = absurd h
    into (Some (v ∷ vs)) tokens h = h

    back : (vs : List Value) (tokens : List Lexeme) → SpellsConstants vs tokens → Image all_of (Maybe SomeConstants) vs tokens
    back [] tokens h = record { tree = None; is = refl; spelled = h }
    back (v ∷ vs) tokens h = record { tree = Some (v ∷ vs); is = refl; spelled = h }

constants_end : Ended ends_constants (is_symbol (codes ")"))
constants_end [] t e = ap (λ (b : Bool). not (not b)) e
constants_end (v ∷ vs) t e = ended_within 4294967293 (is_symbol (codes ",")) (is_symbol (codes ")"))
    (apart Symbol (codes ")") Symbol (codes ",") refl) vs t e

pub reads_values : IsReader SpellsValues always values_at
unfolding values_at
reads_values = after_symbol (codes "(") (before_symbol (codes ")") reads_constants constants_end)

pub begins_values : Begins (is_symbol (codes "(")) true SpellsValues
begins_values =
    begins_fixed (λ vs. SpellsConstants vs ⋅ IsSymbol (codes ")")) Symbol (codes "(") (is_symbol (codes "(")) true (λ t e. e)

-- ---- labels

-- what ends a label: a number where it ends in a list of rows goes on with it
abbrev ends_label : Label → Lexeme → Bool
ends_label (label.Given rel attr earlier later) t = true
ends_label (label.Transitive rel attr first second third) t = true
ends_label (label.Rule rule rows) t = ends_numbers rows t
ends_label (label.Copy copy place first second) t = true
ends_label (label.Above rel attr row other) t = true
ends_label (label.Top rel attr row) t = true
ends_label (label.Last rel attr row) t = true
ends_label (label.Value rel attr row) t = true
ends_label (label.Match disjunct entities values) t = true

abbrev given_of : Cell × ℕ → Label
given_of x = label.Given x.0.rel x.0.attr x.0.row (record { 0 = x.1 })

abbrev transitive_of : Cell × (ℕ × ℕ) → Label
transitive_of x = label.Transitive x.0.rel x.0.attr x.0.row (record { 0 = x.1.0 }) (record { 0 = x.1.1 })

abbrev rule_of : ℕ × List RowId → Label
rule_of x = label.Rule (record { 0 = x.0 }) x.1

abbrev copy_of : ℕ × (ℕ × (ℕ × ℕ)) → Label
copy_of x = label.Copy (record { 0 = x.0 }) x.1.0 (record { 0 = x.1.1.0 }) (record { 0 = x.1.1.1 })

abbrev above_of : Cell × ℕ → Label
above_of x = label.Above x.0.rel x.0.attr x.0.row (record { 0 = x.1 })

abbrev top_of : Cell → Label
top_of x = label.Top x.rel x.attr x.row

abbrev last_of : Cell → Label
last_of x = label.Last x.rel x.attr x.row

abbrev value_of : Cell → Label
value_of x = label.Value x.rel x.attr x.row

abbrev match_of : ℕ × (List EntId × List Value) → Label
match_of x = label.Match x.0 x.1.0 x.1.1

abbrev pub CellAndRow : Cell × ℕ → Language
CellAndRow x = CellOf x.0 ⋅ SpellsNumber x.1

abbrev CellAndRows : Cell × (ℕ × ℕ) → Language
CellAndRows x = CellOf x.0 ⋅ SpellsNumber x.1.0 ⋅ SpellsNumber x.1.1

abbrev RuleAndRows : ℕ × List RowId → Language
RuleAndRows x = SpellsNumber x.0 ⋅ SpellsRows x.1

abbrev FourNumbers : ℕ × (ℕ × (ℕ × ℕ)) → Language
FourNumbers x = SpellsNumber x.0 ⋅ SpellsNumber x.1.0 ⋅ SpellsNumber x.1.1.0 ⋅ SpellsNumber x.1.1.1

abbrev MatchParts : ℕ × (List EntId × List Value) → Language
MatchParts x = SpellsNumber x.0 ⋅ SpellsEntities x.1.0 ⋅ SpellsValues x.1.1

pub reads_cell_and_row : IsReader CellAndRow always (both cell_at number_at)
reads_cell_and_row = reads_two reads_cell reads_number

reads_given : IsReader (Case (codes "given") given_of CellAndRow) ends_label given_at
unfolding given_at
reads_given = reads_case (codes "given") reads_cell_and_row given_of ends_label (λ a t. refl)

reads_transitive : IsReader (Case (codes "transitive") transitive_of CellAndRows) ends_label transitive_at
unfolding transitive_at
reads_transitive = reads_case (codes "transitive") (reads_two reads_cell (reads_two reads_number reads_number))
    transitive_of ends_label (λ a t. refl)

reads_rule : IsReader (Case (codes "rule") rule_of RuleAndRows) ends_label rule_at
unfolding rule_at
reads_rule = reads_case (codes "rule") (reads_two reads_number reads_rows) rule_of ends_label (λ a t. refl)

reads_copy : IsReader (Case (codes "copy") copy_of FourNumbers) ends_label copy_at
unfolding copy_at
reads_copy = reads_case (codes "copy")
    (reads_two reads_number (reads_two reads_number (reads_two reads_number reads_number))) copy_of ends_label (λ a t. refl)

reads_above : IsReader (Case (codes "above") above_of CellAndRow) ends_label above_at
unfolding above_at
reads_above = reads_case (codes "above") reads_cell_and_row above_of ends_label (λ a t. refl)

reads_top : IsReader (Case (codes "top") top_of CellOf) ends_label top_at
unfolding top_at
reads_top = reads_case (codes "top") reads_cell top_of ends_label (λ a t. refl)

reads_last : IsReader (Case (codes "last") last_of CellOf) ends_label last_at
unfolding last_at
reads_last = reads_case (codes "last") reads_cell last_of ends_label (λ a t. refl)

reads_value : IsReader (Case (codes "value") value_of CellOf) ends_label value_at
unfolding value_at
reads_value = reads_case (codes "value") reads_cell value_of ends_label (λ a t. refl)

reads_match : IsReader (Case (codes "match") match_of MatchParts) ends_label match_at
unfolding match_at
reads_match =
    reads_case (codes "match") (reads_two reads_number
    (reads_then reads_entities reads_values (is_symbol (codes "(")) begins_values (numbers_end (codes "("))))
    match_of ends_label (λ a t. refl)

-- labels from some word on, in the order in which they are tried
abbrev FromMatch : Label → Language
FromMatch = Case (codes "match") match_of MatchParts

abbrev FromValue : Label → Language
FromValue = Either (Case (codes "value") value_of CellOf) FromMatch

abbrev FromLast : Label → Language
FromLast = Either (Case (codes "last") last_of CellOf) FromValue

abbrev FromTop : Label → Language
FromTop = Either (Case (codes "top") top_of CellOf) FromLast

abbrev FromAbove : Label → Language
FromAbove = Either (Case (codes "above") above_of CellAndRow) FromTop

abbrev FromCopy : Label → Language
FromCopy = Either (Case (codes "copy") copy_of FourNumbers) FromAbove

abbrev FromRule : Label → Language
FromRule = Either (Case (codes "rule") rule_of RuleAndRows) FromCopy

abbrev FromTransitive : Label → Language
FromTransitive = Either (Case (codes "transitive") transitive_of CellAndRows) FromRule

abbrev FromGiven : Label → Language
FromGiven = Either (Case (codes "given") given_of CellAndRow) FromTransitive

abbrev words_match : List (List ℕ)
words_match = codes "match" ∷ []

abbrev words_value : List (List ℕ)
words_value = codes "value" ∷ words_match

abbrev words_last : List (List ℕ)
words_last = codes "last" ∷ words_value

abbrev words_top : List (List ℕ)
words_top = codes "top" ∷ words_last

abbrev words_above : List (List ℕ)
words_above = codes "above" ∷ words_top

abbrev words_copy : List (List ℕ)
words_copy = codes "copy" ∷ words_above

abbrev words_rule : List (List ℕ)
words_rule = codes "rule" ∷ words_copy

abbrev words_transitive : List (List ℕ)
words_transitive = codes "transitive" ∷ words_rule

begins_match : BeginsWith words_match FromMatch
begins_match = case_begins (codes "match") match_of MatchParts

begins_value : BeginsWith words_value FromValue
begins_value = either_begins (codes "value") words_match value_of CellOf FromMatch begins_match

begins_last : BeginsWith words_last FromLast
begins_last = either_begins (codes "last") words_value last_of CellOf FromValue begins_value

begins_top : BeginsWith words_top FromTop
begins_top = either_begins (codes "top") words_last top_of CellOf FromLast begins_last

begins_above : BeginsWith words_above FromAbove
begins_above = either_begins (codes "above") words_top above_of CellAndRow FromTop begins_top

begins_copy : BeginsWith words_copy FromCopy
begins_copy = either_begins (codes "copy") words_above copy_of FourNumbers FromAbove begins_above

begins_rule : BeginsWith words_rule FromRule
begins_rule = either_begins (codes "rule") words_copy rule_of RuleAndRows FromCopy begins_copy

begins_transitive : BeginsWith words_transitive FromTransitive
begins_transitive = either_begins (codes "transitive") words_rule transitive_of CellAndRows FromRule begins_rule

reads_current_label : IsReader FromTop ends_label current_label_at
unfolding current_label_at
reads_current_label =
    reads_cases (codes "top") words_last reads_top
    (reads_cases (codes "last") words_value reads_last
    (reads_cases (codes "value") words_match reads_value reads_match begins_match (refl, tt))
    begins_value (refl, (refl, tt)))
    begins_last (refl, (refl, (refl, tt)))

label_spelled : (l : Label) (tokens : List Lexeme) → FromGiven l tokens → SpellsLabel l tokens
label_spelled l tokens (inl h) = subst (λ (l : Label). SpellsLabel l tokens) h.is h.spelled
label_spelled l tokens (inr (inl h)) = subst (λ (l : Label). SpellsLabel l tokens) h.is h.spelled
label_spelled l tokens (inr (inr (inl h))) = subst (λ (l : Label). SpellsLabel l tokens) h.is h.spelled
label_spelled l tokens (inr (inr (inr (inl h)))) = subst (λ (l : Label). SpellsLabel l tokens) h.is h.spelled
label_spelled l tokens (inr (inr (inr (inr (inl h))))) = subst (λ (l : Label). SpellsLabel l tokens) h.is h.spelled
label_spelled l tokens (inr (inr (inr (inr (inr (inl h)))))) = subst (λ (l : Label). SpellsLabel l tokens) h.is h.spelled
label_spelled l tokens (inr (inr (inr (inr (inr (inr (inl h))))))) = subst (λ (l : Label). SpellsLabel l tokens) h.is h.spelled
label_spelled l tokens (inr (inr (inr (inr (inr (inr (inr (inl h)))))))) =
    subst (λ (l : Label). SpellsLabel l tokens) h.is h.spelled
label_spelled l tokens (inr (inr (inr (inr (inr (inr (inr (inr h)))))))) =
    subst (λ (l : Label). SpellsLabel l tokens) h.is h.spelled

spelled_label : (l : Label) (tokens : List Lexeme) → SpellsLabel l tokens → FromGiven l tokens
spelled_label (label.Given rel attr earlier later) tokens h =
    inl (record { tree = (record { rel = rel; attr = attr; row = earlier }, later.0); is = refl; spelled = h })
spelled_label (label.Transitive rel attr first second third) tokens h =
    inr (inl (record { tree = (record { rel = rel; attr = attr; row = first }, (second.0, third.0)); is = refl; spelled = h }))
spelled_label (label.Rule rule rows) tokens h = inr (inr (inl (record { tree = (rule.0, rows); is = refl; spelled = h })))
spelled_label (label.Copy copy place first second) tokens h =
    inr (inr (inr (inl (record { tree = (copy.0, (place, (first.0, second.0))); is = refl; spelled = h }))))
spelled_label (label.Above rel attr row other) tokens h =
    inr (inr (inr (inr (inl (record {
      tree = (record { rel = rel; attr = attr; row = row }, other.0);
      is =
          refl;
      spelled = h;
    })))))
spelled_label (label.Top rel attr row) tokens h =
    inr (inr (inr (inr (inr (inl (record { tree = record { rel = rel; attr = attr; row = row }; is = refl; spelled = h }))))))
spelled_label (label.Last rel attr row) tokens h =
    inr (inr (inr (inr (inr (inr (inl
    (record { tree = record { rel = rel; attr = attr; row = row }; is = refl; spelled = h })))))))
spelled_label (label.Value rel attr row) tokens h =
    inr (inr (inr (inr (inr (inr (inr
    (inl (record { tree = record { rel = rel; attr = attr; row = row }; is = refl; spelled = h }))))))))
spelled_label (label.Match disjunct entities values) tokens h =
    inr (inr (inr (inr (inr (inr (inr (inr (record { tree = (disjunct, (entities, values)); is = refl; spelled = h }))))))))

pub reads_label : IsReader SpellsLabel ends_label label_at
unfolding label_at
reads_label = reads_same
    (reads_cases (codes "given") words_transitive reads_given
    (reads_cases (codes "transitive") words_rule reads_transitive
    (reads_cases (codes "rule") words_copy reads_rule
    (reads_cases (codes "copy") words_above reads_copy
    (reads_cases (codes "above") words_top reads_above reads_current_label begins_top (refl, (refl, (refl, (refl, tt)))))
    begins_above (refl, (refl, (refl, (refl, (refl, tt))))))
    begins_copy (refl, (refl, (refl, (refl, (refl, (refl, tt)))))))
    begins_rule (refl, (refl, (refl, (refl, (refl, (refl, (refl, tt))))))))
    begins_transitive (refl, (refl, (refl, (refl, (refl, (refl, (refl, (refl, tt)))))))))
    label_spelled spelled_label

pub label_ends : Ended ends_label (is_symbol (codes ":"))
label_ends (label.Given rel attr earlier later) t e = refl
label_ends (label.Transitive rel attr first second third) t e = refl
label_ends (label.Rule rule rows) t e = numbers_end (codes ":") rows t e
label_ends (label.Copy copy place first second) t e = refl
label_ends (label.Above rel attr row other) t e = refl
label_ends (label.Top rel attr row) t e = refl
label_ends (label.Last rel attr row) t e = refl
label_ends (label.Value rel attr row) t e = refl
label_ends (label.Match disjunct entities values) t e = refl

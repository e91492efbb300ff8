-- Loops over heads, disjuncts, places and items, one step more.
use Rattle.std.proofs.Common.{◌≡◌, ◌≢◌, ◌∙◌, ◌+◌, ◌-◌, ◌<◌, ◌≤◌, ℕ, zero, suc, Bool, true, false, List, [], ◌∷◌, ◌++◌, Option, Some, None, if◌then◌else◌, get_or, drop, drop_of_length-le, length, option_map, slice_get, append_assoc, append-nil, refl, sym, ap, ap₂, ⊎_elim, arith}
use Rattle.std.proofs.lemmas.Bool.{cases_eq, eq-eqb, ne_eqb}
use Rattle.std.proofs.lemmas.List.{drop_more}
use Rattle.std.proofs.lemmas.Option.{same_Some, none-some}
use Rattle.currency_base.specs.declared.ids.EntId.{EntId}
use Rattle.currency_base.specs.declared.ids.RelId.{RelId}
use Rattle.currency_base.specs.declared.value.Value.{Value}
use Rattle.query_model.specs.declared.query.Disjunct.{Disjunct}
use Rattle.query_model.specs.declared.query.Term.{Term}
use Rattle.query_model.specs.declared.query.Term.TheVariants as term
use Rattle.report_model.specs.declared.report.Part.TheVariants as part
use Rattle.report_model.specs.declared.verdict.Current.{Current}
use Rattle.report_model.specs.declared.verdict.Verdict.TheVariants as verdict
use Rattle.report_verify.specs.Asked.{query_of}
use Rattle.report_verify.specs.Supported.{Need, answer_needs, item_needs, needs_of, value_needs}
use Rattle.report_verify.specs.Supported.Claim.{HasValue}
use Rattle.spec_model.specs.declared.question.Question.{Question}
use Rattle.spec_model.specs.declared.question.Question.TheVariants as asked
use Rattle.spec_model.specs.declared.relation.Relation.{Relation}
use Rattle.unit_questions.specs.Steps.{value_term}
use Rattle.unit_questions.specs.Substituted.{fits_head, given_disjunct, given_disjuncts, given_value}
use Rattle.unit_questions.specs.Units.{answer_question, any_places, question_of, value_places}
use Rattle.unit_questions.proofs.Lists.{drop_next}
use Rattle.unit_questions.proofs.Heads.{fits_length}

-- ---- heads

none_given : (head : List ℕ) (v : ℕ) → given_value head [] v ≡ None
none_given [] v = refl
none_given (w ∷ head) v = refl

pub given_end : (head : List ℕ) (tuple : List Value) (v place : ℕ) → length tuple ≤ place
    → given_value (drop place head) (drop place tuple) v ≡ None
given_end head tuple v place past =
    ap (λ l. given_value (drop place head) l v) (drop_of_length-le tuple past) ∙ none_given (drop place head) v

pub given_more : (head : List ℕ) (tuple : List Value) (v place d : ℕ) (e : Value) → place < length head → place < length tuple
    → (get_or head place d ≡ v → ⊥)
    → given_value (drop place head) (drop place tuple) v ≡ given_value (drop (place + 1) head) (drop (place + 1) tuple) v
given_more head tuple v place d e in_head in_tuple apart =
    ap₂ (λ h t. given_value h t v) (drop_more head place d in_head) (drop_more tuple place e in_tuple)
    ∙ ap (λ test. if test then Some (get_or tuple place e) else given_value (drop (place + 1) head) (drop (place + 1) tuple) v)
    (ne_eqb (get_or head place d) v apart)

pub fits_not : (g : ℕ → Option Value) (head : List ℕ) (tuple : List Value) → length head ≢ length tuple
    → false ≡ fits_head g head tuple
fits_not g head tuple apart = go (fits_head g head tuple) refl
  where
    go : (b : Bool) → fits_head g head tuple ≡ b → false ≡ b
    go true fits = absurd (apart (fits_length g head tuple fits))
    go false fits = refl

-- ---- disjuncts

pub disjunct_put : (tuple : List Value) (ds : List Disjunct) (at : ℕ) (d : Disjunct) (done whole : List Disjunct)
    → slice_get ds at ≡ Some d → fits_head (given_value d.head tuple) d.head tuple ≡ true
    → done ++ given_disjuncts tuple (drop at ds) ≡ whole
    → (done ++ given_disjunct tuple d ∷ []) ++ given_disjuncts tuple (drop (at + 1) ds) ≡ whole
disjunct_put tuple ds at d done whole here fits so_far =
    let later = given_disjuncts tuple (drop (at + 1) ds) in
    append_assoc done (given_disjunct tuple d ∷ []) later
    ∙ ap (λ l. done ++ l)
    (sym (ap (given_disjuncts tuple) (drop_next ds at d here)
    ∙ ap (λ test. if test then given_disjunct tuple d ∷ later else later) fits))
    ∙ so_far

pub disjunct_left : (tuple : List Value) (ds : List Disjunct) (at : ℕ) (d : Disjunct) (done whole : List Disjunct)
    → slice_get ds at ≡ Some d → fits_head (given_value d.head tuple) d.head tuple ≡ false
    → done ++ given_disjuncts tuple (drop at ds) ≡ whole → done ++ given_disjuncts tuple (drop (at + 1) ds) ≡ whole
disjunct_left tuple ds at d done whole here fails so_far =
    let later = given_disjuncts tuple (drop (at + 1) ds) in
    ap (λ l. done ++ l)
    (sym (ap (given_disjuncts tuple) (drop_next ds at d here)
    ∙ ap (λ test. if test then given_disjunct tuple d ∷ later else later) fails))
    ∙ so_far

-- ---- places

any_is : (n k : ℕ) → k < n → slice_get (any_places n) k ≡ Some term.Any
any_is zero k below = absurd (omega (arith, below))
any_is (suc n) zero below = refl
any_is (suc n) (suc k) below = any_is n k (omega (arith, below))

-- the value at its own place, and anything elsewhere
pub term_here : (k attr : ℕ) (value : Value) → k ≡ attr → value_term k attr value ≡ term.Constant value
term_here k attr value same = ap (λ test. if test then term.Constant value else term.Any) (eq-eqb k attr same)

pub term_other : (k attr : ℕ) (value : Value) → (k ≡ attr → ⊥) → value_term k attr value ≡ term.Any
term_other k attr value apart = ap (λ test. if test then term.Constant value else term.Any) (ne_eqb k attr apart)

term_behind : (k attr : ℕ) (value : Value) → value_term k attr value ≡ value_term (suc k) (suc attr) value
term_behind k attr value = ⊎_elim
    (λ (same : k ≡ attr).
    term_here k attr value same ∙ sym (term_here (suc k) (suc attr) value (ap (λ n. suc n) same)))
    (λ (apart : k ≡ attr → ⊥).
    term_other k attr value apart ∙ sym (term_other (suc k) (suc attr) value (λ same. apart (omega (arith, same)))))
    (cases_eq k attr)

pub place_is : (n attr k : ℕ) (value : Value) → k < n → slice_get (value_places n attr value) k ≡ Some (value_term k attr value)
place_is zero attr k value below = absurd (omega (arith, below))
place_is (suc n) zero zero value below = refl
place_is (suc n) zero (suc k) value below =
    any_is n k (omega (arith, below)) ∙ ap (λ t. Some t) (sym (term_other (suc k) zero value (λ same. omega (arith, same))))
place_is (suc n) (suc attr) zero value below =
    ap (λ t. Some t) (sym (term_other zero (suc attr) value (λ same. omega (arith, same))))
place_is (suc n) (suc attr) (suc k) value below =
    place_is n attr k value (omega (arith, below)) ∙ ap (λ t. Some t) (term_behind k attr value)

any_length : (n : ℕ) → length (any_places n) ≡ n
any_length zero = refl
any_length (suc n) = ap (λ m. suc m) (any_length n)

pub places_length : (n attr : ℕ) (value : Value) → length (value_places n attr value) ≡ n
places_length zero attr value = refl
places_length (suc n) zero value = ap (λ m. suc m) (any_length n)
places_length (suc n) (suc attr) value = ap (λ m. suc m) (places_length n attr value)

pub place_put : (n attr k : ℕ) (value : Value) (done whole : List Term) → k < n
    → done ++ drop k (value_places n attr value) ≡ whole
    → (done ++ value_term k attr value ∷ []) ++ drop (k + 1) (value_places n attr value) ≡ whole
place_put n attr k value done whole below so_far =
    append_assoc done (value_term k attr value ∷ []) (drop (k + 1) (value_places n attr value))
    ∙ ap (λ l. done ++ l)
    (sym (drop_next (value_places n attr value) k (value_term k attr value) (place_is n attr k value below)))
    ∙ so_far

pub place_end : (n attr k : ℕ) (value : Value) (done whole : List Term) → n ≤ k
    → done ++ drop k (value_places n attr value) ≡ whole → done ≡ whole
place_end n attr k value done whole past so_far =
    sym (append-nil done)
    ∙ ap (λ l. done ++ l)
    (sym (drop_of_length-le (value_places n attr value) (omega (arith, past, places_length n attr value))))
    ∙ so_far

-- ---- claims

value_here : (item : ℕ) (rel : RelId) (ent : EntId) (start : ℕ) (values : List Value) (rest : List Need) (k : ℕ) (v : Value)
    → slice_get values k ≡ Some v
    → slice_get (value_needs item rel ent start values ++ rest) k
    ≡ Some (record { part = part.Item item; claim = HasValue rel (record { 0 = start + k }) ent v })
value_here item rel ent start [] rest k v at = absurd (none-some v at)
value_here item rel ent start (x ∷ values) rest zero v at =
    let same : start ≡ start + 0 = omega arith in
    ap₂ (λ n y. Some (record { part = part.Item item; claim = HasValue rel (record { 0 = n }) ent y })) same (same_Some x v at)
value_here item rel ent start (x ∷ values) rest (suc k) v at =
    let same : start + 1 + k ≡ start + suc k = omega arith in
    value_here item rel ent (start + 1) values rest k v at
    ∙ ap (λ n. Some (record { part = part.Item item; claim = HasValue rel (record { 0 = n }) ent v })) same

value_past : (item : ℕ) (rel : RelId) (ent : EntId) (start : ℕ) (values : List Value) (rest : List Need) (k j : ℕ)
    → k ≡ length values + j → slice_get (value_needs item rel ent start values ++ rest) k ≡ slice_get rest j
value_past item rel ent start [] rest k j same =
    let equal : k ≡ j = omega (arith, same) in ap (slice_get rest) equal
value_past item rel ent start (x ∷ values) rest zero j same = absurd (omega (arith, same))
value_past item rel ent start (x ∷ values) rest (suc k) j same =
    value_past item rel ent (start + 1) values rest k j (omega (arith, same))

pub unit_here : (relations : List Relation) (q : Question) (items : List Current) (at : ℕ) (item : Current) (left unit : ℕ)
    (v : Value) → slice_get items at ≡ Some item → slice_get item.values left ≡ Some v
    → slice_get (item_needs at (drop at items)) left ≡ slice_get (item_needs 0 items) unit
    → Some (question_of relations q (HasValue item.rel (record { 0 = left }) item.ent v))
    ≡ option_map (λ need. question_of relations q need.claim) (slice_get (item_needs 0 items) unit)
unit_here relations q items at item left unit v here value same =
    let zeroed : 0 + left ≡ left = omega arith in
    ap (λ n. Some (question_of relations q (HasValue item.rel (record { 0 = n }) item.ent v))) (sym zeroed)
    ∙ ap (λ o. option_map (λ need. question_of relations q need.claim) o)
    (sym (ap (λ l. slice_get (item_needs at l) left) (drop_next items at item here)
    ∙ value_here at item.rel item.ent 0 item.values (item_needs (at + 1) (drop (at + 1) items)) left v value)
    ∙ same)

pub unit_past : (items : List Current) (at : ℕ) (item : Current) (left unit : ℕ) → slice_get items at ≡ Some item
    → length item.values ≤ left → slice_get (item_needs at (drop at items)) left ≡ slice_get (item_needs 0 items) unit
    → slice_get (item_needs (at + 1) (drop (at + 1) items)) (left - length item.values) ≡ slice_get (item_needs 0 items) unit
unit_past items at item left unit here past same =
    sym (ap (λ l. slice_get (item_needs at l) left) (drop_next items at item here)
    ∙ value_past at item.rel item.ent 0 item.values (item_needs (at + 1) (drop (at + 1) items)) left (left - length item.values)
    (omega (arith, past)))
    ∙ same

pub needs_same : (q : Question) (items : List Current) → needs_of q (verdict.Same items) ≡ item_needs 0 items
needs_same asked.Consistent items = refl
needs_same (asked.Certain pairs) items = refl
needs_same (asked.Same rels) items = refl
needs_same (asked.Answers query) items = refl

pub needs_answers : (q : Question) (tuples : List (List Value)) → needs_of q (verdict.Answers tuples) ≡ answer_needs 0 tuples
needs_answers asked.Consistent tuples = refl
needs_answers (asked.Certain pairs) tuples = refl
needs_answers (asked.Same rels) tuples = refl
needs_answers (asked.Answers query) tuples = refl

-- the question for the answer of a number
pub answer_here : (relations : List Relation) (q : Question) (at : ℕ) (tuples : List (List Value)) (unit : ℕ)
    → option_map (λ tuple. answer_question tuple (query_of q)) (slice_get tuples unit)
    ≡ option_map (λ need. question_of relations q need.claim) (slice_get (answer_needs at tuples) unit)
answer_here relations q at [] unit = refl
answer_here relations q at (tuple ∷ tuples) zero = refl
answer_here relations q at (tuple ∷ tuples) (suc unit) = answer_here relations q (at + 1) tuples unit

-- The units of claims, one claim after another.
use Rattle.std.proofs.Common.{◌≡◌, ◌+◌, ℕ, zero, suc, List, [], ◌∷◌, ◌++◌, All, Some, option_map, take, drop, length, slice_get, refl, sym, ap, ap₂, ◌∙◌, subst, arith, append_assoc}
use Rattle.std.proofs.lemmas.List.{length-append, length-take-le}
use Rattle.std.proofs.lemmas.List.Elements.{All-append, All-nil}
use Rattle.std.proofs.lemmas.Option.{none-some, same_Some, slice_get-map, slice_get_within}
use Rattle.currency_base.specs.declared.ids.EntId.{EntId}
use Rattle.currency_base.specs.declared.ids.RelId.{RelId}
use Rattle.currency_base.specs.declared.value.Value.{Value}
use Rattle.refutation_log.specs.declared.log.Log.{Log}
use Rattle.report_model.specs.declared.report.Part.{Part}
use Rattle.report_model.specs.declared.report.Part.TheVariants as part
use Rattle.report_model.specs.declared.verdict.Current.{Current}
use Rattle.report_verify.proofs.Fronts.{front_more, get_behind, get_front, split_at, take_behind, take_front}
use Rattle.report_verify.specs.Judged.{IsFirstUnmet, IsUnmetFrom}
use Rattle.report_verify.specs.Supported.{HasAnswer, HasValue, Holds, IsDerived, Need, answer_needs, item_needs, pair_needs, value_needs}
use Rattle.report_verify.specs.declared.fault.Missing.TheVariants.{Shape, NoEmptyClause, NoCompletion, NoUnit, NotBroken, NotDifferent, NotCommon, WrongCount}
use Rattle.report_verify.specs.declared.fault.Unshown.TheVariants.{BadCompletion, BadLog, NotShown}
use Rattle.report_verify.specs.declared.fault.VerifyFault.{VerifyFault}
use Rattle.report_verify.specs.declared.fault.VerifyFault.TheVariants.{Refused, NoMemory}
use Rattle.spec_model.specs.declared.question.Asked.{Asked}
use Rattle.spec_model.specs.declared.relation.Relation.{Relation}

abbrev pub pair_need : Asked → Need
pair_need p = record { part = part.Verdict; claim = Holds p }

abbrev pub value_need : ℕ → RelId → ℕ → EntId → Value → Need
value_need item rel attr ent v = record { part = part.Item item; claim = HasValue rel (record { 0 = attr }) ent v }

abbrev pub answer_need : ℕ → List Value → Need
answer_need item tuple = record { part = part.Item item; claim = HasAnswer tuple }

-- ---- the claim at a place

pub pair_at : (pairs : List Asked) (k : ℕ) (p : Asked) → slice_get pairs k ≡ Some p → slice_get (pair_needs pairs)
    k ≡ Some (pair_need p)
pair_at pairs k p at = slice_get-map pair_need pairs k ∙ ap (option_map pair_need) at

value_from : (item : ℕ) (rel : RelId) (ent : EntId) (from : ℕ) (values : List Value) (k : ℕ) (v : Value)
    → slice_get values k ≡ Some v
    → slice_get (value_needs item rel ent from values) k ≡ Some (value_need item rel (from + k) ent v)
value_from item rel ent from [] k v at = absurd (none-some v at)
value_from item rel ent from (x ∷ values) zero v at =
    let same : from ≡ from + 0 = omega arith in
    ap Some (ap₂ (λ n w. value_need item rel n ent w) same (same_Some x v at))
value_from item rel ent from (x ∷ values) (suc k) v at =
    let same : from + 1 + k ≡ from + suc k = omega arith in
    value_from item rel ent (from + 1) values k v at ∙ ap (λ n. Some (value_need item rel n ent v)) same

pub value_at : (item : ℕ) (rel : RelId) (ent : EntId) (values : List Value) (k : ℕ) (v : Value) → slice_get values k ≡ Some v
    → slice_get (value_needs item rel ent 0 values) k ≡ Some (value_need item rel k ent v)
value_at item rel ent values k v at =
    let same : 0 + k ≡ k = omega arith in
    value_from item rel ent 0 values k v at ∙ ap (λ n. Some (value_need item rel n ent v)) same

pub length_values : (item : ℕ) (rel : RelId) (ent : EntId) (from : ℕ) (values : List Value)
    → length (value_needs item rel ent from values) ≡ length values
length_values item rel ent from [] = refl
length_values item rel ent from (x ∷ values) = ap suc (length_values item rel ent (from + 1) values)

answer_from : (from : ℕ) (tuples : List (List Value)) (k : ℕ) (t : List Value) → slice_get tuples k ≡ Some t
    → slice_get (answer_needs from tuples) k ≡ Some (answer_need (from + k) t)
answer_from from [] k t at = absurd (none-some t at)
answer_from from (x ∷ tuples) zero t at =
    let same : from ≡ from + 0 = omega arith in
    ap Some (ap₂ (λ n u. answer_need n u) same (same_Some x t at))
answer_from from (x ∷ tuples) (suc k) t at =
    let same : from + 1 + k ≡ from + suc k = omega arith in
    answer_from (from + 1) tuples k t at ∙ ap (λ n. Some (answer_need n t)) same

pub answer_at : (tuples : List (List Value)) (k : ℕ) (t : List Value) → slice_get tuples k ≡ Some t
    → slice_get (answer_needs 0 tuples) k ≡ Some (answer_need k t)
answer_at tuples k t at =
    let same : 0 + k ≡ k = omega arith in
    answer_from 0 tuples k t at ∙ ap (λ n. Some (answer_need n t)) same

pub length_answers : (from : ℕ) (tuples : List (List Value)) → length (answer_needs from tuples) ≡ length tuples
length_answers from [] = refl
length_answers from (x ∷ tuples) = ap suc (length_answers (from + 1) tuples)

-- the claims of items, and those of the items after them
needs_append : (at : ℕ) (xs ys : List Current) → item_needs at (xs ++ ys) ≡ item_needs at xs ++ item_needs (at + length xs) ys
needs_append at [] ys = let same : at ≡ at + 0 = omega arith in ap (λ n. item_needs n ys) same
needs_append at (x ∷ xs) ys =
    let same : at + 1 + length xs ≡ at + suc (length xs) = omega arith in
    ap (λ ns. value_needs at x.rel x.ent 0 x.values ++ ns) (needs_append (at + 1) xs ys
    ∙ ap (λ n. item_needs (at + 1) xs ++ item_needs n ys) same)
    ∙ sym (append_assoc (value_needs at x.rel x.ent 0 x.values) (item_needs (at + 1) xs) (item_needs (at + suc (length xs)) ys))

module _ (relations : List Relation) (log : Log) where
  -- ---- the first that is not derived

  pub first_unmet : (needs : List Need) (place : ℕ) (need : Need) → slice_get needs place ≡ Some need
      → (IsDerived relations log need → ⊥) → All (IsDerived relations log) (take place needs)
      → IsFirstUnmet relations log needs need.part place
  first_unmet needs place need at underived before =
      record { need = need; claimed = at; of_part = refl; underived = underived; before = before }

  -- among claims that stand after derived ones and before others
  unmet_within : (front own rest : List Need) (p : Part) (at : ℕ) → All (IsDerived relations log) front
      → IsFirstUnmet relations log own p at → IsFirstUnmet relations log (front ++ (own ++ rest)) p (length front + at)
  unmet_within front own rest p at derived first =
      let inside = slice_get_within own at first.need first.claimed in
      record {
        need = first.need;
        claimed = get_behind front (own ++ rest) at ∙ get_front own rest at first.need first.claimed;
        of_part = first.of_part;
        underived = first.underived;
        before = subst (All (IsDerived relations log))
            (sym (take_behind front (own ++ rest) at ∙ ap (λ ns. front ++ ns) (take_front own rest at (omega arith))))
            (All-append (IsDerived relations log) front (take at own) derived first.before);
      }

  pub unmet_after : (front own rest : List Need) (from : ℕ) (fault : VerifyFault) → from ≡ length front
      → All (IsDerived relations log) front
      → IsUnmetFrom from relations log own fault → IsUnmetFrom 0 relations log (front ++ (own ++ rest)) fault
  unmet_after front own rest from (Refused p (NotShown (NoUnit place))) is derived unmet =
      let same = unmet.1 in
      (length front + unmet.0, omega arith, unmet_within front own rest p unmet.0 derived unmet.2)
  unmet_after front own rest from NoMemory is derived unmet = tt
  unmet_after front own rest from (Refused p (BadCompletion flaw)) is derived unmet = absurd unmet
  unmet_after front own rest from (Refused p (BadLog fault)) is derived unmet = absurd unmet
  unmet_after front own rest from (Refused p (NotShown Shape)) is derived unmet = absurd unmet
  unmet_after front own rest from (Refused p (NotShown NoEmptyClause)) is derived unmet = absurd unmet
  unmet_after front own rest from (Refused p (NotShown NoCompletion)) is derived unmet = absurd unmet
  unmet_after front own rest from (Refused p (NotShown NotBroken)) is derived unmet = absurd unmet
  unmet_after front own rest from (Refused p (NotShown NotDifferent)) is derived unmet = absurd unmet
  unmet_after front own rest from (Refused p (NotShown NotCommon)) is derived unmet = absurd unmet
  unmet_after front own rest from (Refused p (NotShown WrongCount)) is derived unmet = absurd unmet

  -- ---- items

  -- the claims of the first items
  abbrev pub first_needs : List Current → ℕ → List Need
  first_needs items k = item_needs 0 (take k items)

  abbrev own_needs : Current → ℕ → List Need
  own_needs item k = value_needs k item.rel item.ent 0 item.values

  first_more : (items : List Current) (k : ℕ) (item : Current) → slice_get items k ≡ Some item
      → first_needs items (k + 1) ≡ first_needs items k ++ (own_needs item k ++ [])
  first_more items k item at =
      ap (item_needs 0) (front_more items k item at) ∙ needs_append 0 (take k items) (item ∷ [])
      ∙ ap (λ n. first_needs items k ++ (own_needs item n ++ [])) (number items k item at)
    where
      number : (items : List Current) (k : ℕ) (item : Current) → slice_get items k ≡ Some item → 0 + length (take k items) ≡ k
      number items k item at =
          let inside = slice_get_within items k item at in
          let count = length-take-le k items (omega arith) in
          omega (arith, count)

  pub items_more : (items : List Current) (k : ℕ) (item : Current) → slice_get items k ≡ Some item
      → All (IsDerived relations log) (first_needs items k) → All (IsDerived relations log) (own_needs item k)
      → All (IsDerived relations log) (first_needs items (k + 1))
  items_more items k item at front own =
      subst (All (IsDerived relations log)) (sym (first_more items k item at))
      (All-append (IsDerived relations log) (first_needs items k) (own_needs item k ++ []) front
      (All-append (IsDerived relations log) (own_needs item k) [] own (All-nil (IsDerived relations log))))

  pub count_more : (items : List Current) (k : ℕ) (item : Current) (place next : ℕ) → slice_get items k ≡ Some item
      → place ≡ length (first_needs items k) → next ≡ place + length item.values → next ≡ length (first_needs items (k + 1))
  count_more items k item place next at before more =
      let own = length_values k item.rel item.ent 0 item.values in
      let whole = ap length (first_more items k item at) in
      let front = length-append (first_needs items k) (own_needs item k ++ []) in
      let back = length-append (own_needs item k) (let none : List Need = [] in none) in
      omega (arith, own, whole, front, back)

  pub items_unmet : (items : List Current) (k : ℕ) (item : Current) (place : ℕ) (fault : VerifyFault)
      → slice_get items k ≡ Some item
      → place ≡ length (first_needs items k) → All (IsDerived relations log) (first_needs items k)
      → IsUnmetFrom place relations log (own_needs item k) fault → IsUnmetFrom 0 relations log (item_needs 0 items) fault
  items_unmet items k item place fault at count derived unmet =
      subst (λ ns. IsUnmetFrom 0 relations log ns fault) (sym parts)
      (unmet_after (first_needs items k) (own_needs item k) (item_needs (k + 1) (drop (k + 1) items)) place fault
      count derived unmet)
    where
      number : 0 + length (take k items) ≡ k
      number =
          let inside = slice_get_within items k item at in
          let count = length-take-le k items (omega arith) in
          omega (arith, count)

      parts : item_needs 0 items ≡ first_needs items k ++ (own_needs item k ++ item_needs (k + 1) (drop (k + 1) items))
      parts =
          ap (item_needs 0) (split_at items k item at) ∙ needs_append 0 (take k items) (item ∷ drop (k + 1) items)
          ∙ ap (λ n. first_needs items k ++ (own_needs item n ++ item_needs (n + 1) (drop (k + 1) items))) number

-- ---- the same claims

pub moved_derived : (rs rs' : List Relation) (log log' : Log) (ps ps' : List Asked) → rs ≡ rs' → log ≡ log' → ps ≡ ps'
    → All (IsDerived rs log) (pair_needs ps) → All (IsDerived rs' log') (pair_needs ps')
moved_derived rs rs' log log' ps ps' e f g all =
    subst (λ r. All (IsDerived r log') (pair_needs ps')) e
    (subst (λ l. All (IsDerived rs l) (pair_needs ps')) f (subst (λ p. All (IsDerived rs log) (pair_needs p)) g all))

pub moved_unmet : (rs rs' : List Relation) (log log' : Log) (ps ps' : List Asked) (fault : VerifyFault) → rs ≡ rs'
    → log ≡ log' → ps ≡ ps'
    → IsUnmetFrom 0 rs log (pair_needs ps) fault → IsUnmetFrom 0 rs' log' (pair_needs ps') fault
moved_unmet rs rs' log log' ps ps' fault e f g unmet =
    subst (λ r. IsUnmetFrom 0 r log' (pair_needs ps') fault) e
    (subst (λ l. IsUnmetFrom 0 rs l (pair_needs ps') fault) f (subst (λ p. IsUnmetFrom 0 rs log (pair_needs p) fault) g unmet))

-- The text of records begins with a byte order mark only where their first field does.
use Rattle.std.proofs.Common.{◌≡◌, ◌==◌, ◌++◌, ◌∷◌, ◌∙◌, ◌<◌, ◌≤◌, [], ℕ, List, Bool, true, false, refl, sym, ap, append_assoc, arith, inl, inr}
use Rattle.std.specs.Prelude.{length, ◌&&◌}
use Rattle.std.specs.List.{list_any}
use Rattle.std.proofs.lemmas.List.{append-nil}
use Rattle.std.proofs.lemmas.Bool.{cases_Bool, eqb-true}
use Rattle.csv.specs.Reading.{is_bom, strip_bom}
use Rattle.csv.specs.Writing.{default_writer, field_text, fields_text, is_blank, needs_byte}
use Rattle.record_text.specs.Laws.{BeginsPlain, byte_order_mark}
use Rattle.record_text.specs.Text.{record_text, records_text}

-- a text begins with these three bytes, which are variables here so that no numeral is taken apart
record Begins (text : List ℕ) (a b c : ℕ) : Type 0 where
  rest : List ℕ
  text_is : text ≡ a ∷ b ∷ c ∷ rest

-- a text begins with a byte order mark
pub record IsMarked (text : List ℕ) : Type 0 where
  pub rest : List ℕ
  pub text_is : text ≡ byte_order_mark ++ rest

-- both of two tests
both : (p q : Bool) → (p && q) ≡ true → (p ≡ true) × (q ≡ true)
both true true e = (refl, refl)
both true false e = cc e
both false q e = cc e

-- three bytes that are a byte order mark
the_mark : (a b c : ℕ) (rest : List ℕ) → is_bom a b c ≡ true → IsMarked (a ∷ b ∷ c ∷ rest)
the_mark a b c rest e =
    let (front, third) = both ((a == 239) && (b == 187)) (c == 191) e in
    let (first, second) = both (a == 239) (b == 187) front in
    record { rest = rest; text_is = rw (eqb-true a 239 first, eqb-true b 187 second, eqb-true c 191 third) refl }

-- a text that does not begin with one is read as it is
pub kept_text : (text : List ℕ) → ¬ (IsMarked text) → strip_bom text ≡ text
unfolding strip_bom
kept_text [] plain = refl
kept_text (a ∷ []) plain = refl
kept_text (a ∷ b ∷ []) plain = refl
kept_text (a ∷ b ∷ c ∷ rest) plain = elim (cases_Bool (is_bom a b c)) [
  | inl marked ↦ absurd (plain (the_mark a b c rest marked))
  | inr other ↦ rw other refl
]

-- two texts are equal part by part
parts : (x y : ℕ) (xs ys : List ℕ) → x ∷ xs ≡ y ∷ ys → (x ≡ y) × (xs ≡ ys)
parts x y xs ys e = (cc e, cc e)

-- a field that is followed by a byte too small for a mark has the mark whole
plain_first : (field : List ℕ) (next a b c : ℕ) (tail rest : List ℕ) → next < a → next < b → next < c
    → field ++ next ∷ tail ≡ a ∷ b ∷ c ∷ rest → Begins field a b c
plain_first [] next a b c tail rest na nb nc e = absurd (omega (arith, (parts _ _ _ _ e).0))
plain_first (x ∷ []) next a b c tail rest na nb nc e =
    let second = parts _ _ _ _ (parts _ _ _ _ e).1 in
    absurd (omega (arith, second.0))
plain_first (x ∷ y ∷ []) next a b c tail rest na nb nc e =
    let second = parts _ _ _ _ (parts _ _ _ _ e).1 in
    let third = parts _ _ _ _ second.1 in
    absurd (omega (arith, third.0))
plain_first (x ∷ y ∷ z ∷ more) next a b c tail rest na nb nc e =
    let first = parts _ _ _ _ e in
    let second = parts _ _ _ _ first.1 in
    let third = parts _ _ _ _ second.1 in
    record { rest = more; text_is = rw (first.0, second.0, third.0) refl }

-- a text begins with a field, and a byte of the format comes next
record IsFirst (field text : List ℕ) : Type 0 where
  next : ℕ
  tail : List ℕ
  mark : next ≤ 44
  text_is : text ≡ field ++ next ∷ tail

-- the text of a record begins with that of its first field
first_field : (field : List ℕ) (fields : List (List ℕ)) (more : List ℕ)
    → IsFirst (field_text default_writer field) (record_text (field ∷ fields) ++ more)
unfolding is_blank fields_text
first_field field [] more =
    let text = field_text default_writer field in
    let alone = append-nil text in
    elim (cases_Bool (length text == 0)) [
      | inl blank ↦ record {
        next = 34;
        tail = 34 ∷ 10 ∷ more;
        mark = omega arith;
        text_is = rw (blank, alone) (append_assoc text (34 ∷ 34 ∷ 10 ∷ []) more);
      }
      | inr shown ↦ record {
        next = 10;
        tail = more;
        mark = omega arith;
        text_is = rw (shown, alone) (append_assoc text (10 ∷ []) more);
      }
    ]
first_field field (other ∷ rest) more =
    let text = field_text default_writer field in
    let others = fields_text default_writer (other ∷ rest) in
    record {
      next = 44;
      tail = ((field_text default_writer other ++ fields_text default_writer rest) ++ 10 ∷ []) ++ more;
      mark = omega arith;
      text_is = append_assoc (text ++ others) (10 ∷ []) more ∙ append_assoc text others (10 ∷ more)
          ∙ ap (λ (t : List ℕ). text ++ t) (sym (append_assoc others (10 ∷ []) more));
    }

-- the text of a field begins with a byte order mark only where the field does
marked_field : (field : List ℕ) (next : ℕ) (tail : List ℕ) → next ≤ 44
    → IsMarked (field_text default_writer field ++ next ∷ tail) → IsMarked field
marked_field field next tail mark marked = elim (cases_Bool (list_any (needs_byte default_writer) field)) [
  | inl needs ↦
      let start = rw needs at marked.text_is in
      absurd (omega (arith, (parts _ _ _ _ start).0))
  | inr plain ↦
      let start = rw plain at marked.text_is in
      let begins = plain_first field next 239 187 191 tail marked.rest (omega (arith, mark)) (omega (arith, mark))
      (omega (arith, mark)) start in
      record { rest = begins.rest; text_is = begins.text_is }
]

-- the text of records that begin plain begins with no byte order mark
pub plain_text : (records : List (List (List ℕ))) → BeginsPlain records → ¬ (IsMarked (records_text records))
unfolding is_blank
plain_text [] plain marked = cc marked.text_is
plain_text ([] ∷ more) plain marked = omega (arith, (parts _ _ _ _ marked.text_is).0)
plain_text ((field ∷ fields) ∷ more) plain marked =
    let first = first_field field fields (records_text more) in
    let text_marked : IsMarked (field_text default_writer field ++ first.next ∷ first.tail) =
    record { rest = marked.rest; text_is = sym first.text_is ∙ marked.text_is } in
    let field_marked = marked_field field first.next first.tail first.mark text_marked in
    plain field_marked.rest fields more (ap (λ (x : List ℕ). (x ∷ fields) ∷ more) field_marked.text_is)

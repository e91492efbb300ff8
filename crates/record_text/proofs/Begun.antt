-- What a record under way has written.
use Rattle.std.proofs.Common.{◌≡◌, ◌≢◌, ◌∙◌, ◌++◌, ◌∷◌, ◌+◌, ◌-◌, ◌^◌, ◌<◌, ◌≤◌, [], ℕ, List, Option, true, false, length, take, get_or, ap, refl, sym, arith, length-append}
use Rattle.std.specs.Prelude.{◌==◌, ◌||◌, ◌&&◌, not, min}
use Rattle.std.proofs.lemmas.List.{length-take, take_more}
use Rattle.std.specs.Io.KnownBytes.{Appends}
use Rattle.csv.specs.Writing.{field_text, fields_written, has_written, is_blank, next_sep, row_body, tail_text, text_written, writer_setup}
use Rattle.csv.specs.declared.writer.QuoteStyle.TheVariants as style
use Rattle.csv.specs.declared.writer.Writer.{Writer}
use Rattle.csv.proofs.WriteFacts.{appends-more, appends-none, blank-more, row-final, row-more}
use Rattle.record_text.specs.Text.{record_text}
use Rattle.record_text.specs.Writers.{IsBetween, free_writer}
use Rattle.record_text.proofs.FreeWriter.{free_row}

-- since a record began, just these fields of it are written
pub record HasBegun {W : Type 0} (contents : W → Option (List ℕ)) (before now : Writer W) (fields : List (List ℕ))
    : Type 0 where
  pub setup : writer_setup now ≡ free_writer
  pub count : fields_written now ≡ length fields
  pub body : Appends (text_written contents before) (text_written contents now) (row_body free_writer fields)
  pub blank : is_blank free_writer fields ≡ (not (has_written now) && ((length fields == 0) || (length fields == 1)))

-- the writer is set up to quote by what a field holds
plain_style : {W : Type 0} (w : Writer W) → writer_setup w ≡ free_writer → (writer_setup w).style ≢ style.NonNumeric
plain_style w setup = rw setup (λ e. cc e)

-- no field is written yet
pub begun_none : {W : Type 0} (contents : W → Option (List ℕ)) (w : Writer W) → IsBetween w → HasBegun contents w w []
unfolding is_blank
begun_none contents w between = record {
  setup = between.setup;
  count = between.fields;
  body = appends-none _;
  blank = rw between.shown refl;
}

-- what the writer says of a field that it wrote
pub record IsWritten {W : Type 0} (contents : W → Option (List ℕ)) (now after : Writer W) (field : List ℕ) : Type 0 where
  pub same : writer_setup after ≡ writer_setup now
  pub count : fields_written after ≡ min (fields_written now + 1) (2 ^ 64 - 1)
  pub text : (writer_setup now).style ≢ style.NonNumeric → Appends (text_written contents now) (text_written contents after)
      (next_sep (writer_setup now) (fields_written now) ++ field_text (writer_setup now) field)
  pub shows : has_written now ≡ false → (writer_setup now).style ≢ style.NonNumeric
      → has_written after ≡ not (length (field_text (writer_setup now) field) == 0)
  pub stays : has_written now ≡ true → has_written after ≡ true

-- one field more
begun_more : {W : Type 0} (contents : W → Option (List ℕ)) (before now after : Writer W) (fields : List (List ℕ))
    (field : List ℕ) → HasBegun contents before now fields → length fields + 1 ≤ 2 ^ 64 - 1
    → IsWritten contents now after field → HasBegun contents before after (fields ++ field ∷ [])
begun_more contents before now after fields field begun few written =
    let plain = plain_style now begun.setup in
    let size = length-append fields (field ∷ []) in
    let text = rw (begun.setup, begun.count) at (written.text plain) in
    let shown = rw begun.setup at (λ (w : has_written now ≡ false). written.shows w plain) in
    record {
      setup = written.same ∙ begun.setup;
      count = written.count ∙ rw (begun.count, size) (omega (arith, few));
      body = rw (row-more free_writer fields field) (appends-more _ _ _ _ _ begun.body text);
      blank = rw size (blank-more free_writer fields field (has_written now) (has_written after) begun.blank shown
          written.stays);
    }

-- the field at a place, where those before it are written
pub begun_next : {W : Type 0} (contents : W → Option (List ℕ)) (before now after : Writer W) (fields : List (List ℕ))
    (place : ℕ) (field : List ℕ) → HasBegun contents before now (take place fields) → place < length fields
    → field ≡ get_or fields place field → place + 1 ≤ 2 ^ 64 - 1 → IsWritten contents now after field
    → HasBegun contents before after (take (place + 1) fields)
begun_next contents before now after fields place field begun within is few written =
    let size = length-take place fields in
    let front = take place fields in
    let more : take (place + 1) fields ≡ front ++ field ∷ [] =
    take_more fields place field within ∙ ap (λ (x : List ℕ). front ++ x ∷ []) (sym is) in
    rw more (begun_more contents before now after front field begun (omega (arith, size, few)) written)

-- the end of the record, and with it the whole text
pub begun_all : {W : Type 0} (contents : W → Option (List ℕ)) (before now after : Writer W) (fields : List (List ℕ))
    → HasBegun contents before now fields
    → Appends (text_written contents now) (text_written contents after)
    (tail_text (writer_setup now) (has_written now) (fields_written now))
    → Appends (text_written contents before) (text_written contents after) (record_text fields)
begun_all contents before now after fields begun tail =
    let last = rw begun.setup at tail in
    rw (← free_row fields) (row-final _ _ _ free_writer fields (has_written now) (fields_written now) begun.body
    (rw begun.count begun.blank) last)

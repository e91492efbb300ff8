-- The writer that records are written by.
use Rattle.std.specs.Prelude.{◌≡◌, true, false}
use Rattle.csv.specs.Writing.{default_writer, fields_written, has_written, with_flexible, writer_setup}
use Rattle.csv.specs.declared.writer.Writer.{Writer}
use Rattle.csv.specs.declared.writer.WriterBuilder.{WriterBuilder}

-- the defaults of the crate, for records that may have different lengths
abbrev pub free_writer : WriterBuilder
free_writer = with_flexible default_writer true

-- the writer is set up so, and has ended each record that it began
pub record IsBetween {W : Type 0} (writer : Writer W) : Type 0 where
  pub setup : writer_setup writer ≡ free_writer
  pub fields : fields_written writer ≡ 0
  pub shown : has_written writer ≡ false

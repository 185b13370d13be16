-- What a writer of records over memory has taken.
use Rattle.std.specs.Prelude.{◌≡◌, ℕ, false, List, Some, Vec}
use Rattle.std.specs.declared.alloc.Global.{Global}
use Rattle.csv.specs.Writing.{default_writer, writer_setup, fields_written, has_written, text_written}
use Rattle.csv.specs.declared.writer.Writer.{Writer}

-- between two records of a default writer, which has taken this text
pub record HasTakenText (text : List ℕ) (w : Writer (Vec ℕ Global)) : Type 0 where
  pub setup : writer_setup w ≡ default_writer
  pub fields : fields_written w ≡ 0
  pub wrote : has_written w ≡ false
  pub taken : text_written (λ bytes. Some bytes.items) w ≡ Some text

-- Sources and sinks over the standard library's readers and writers.
use Rattle.std.specs.Prelude.{ℕ, List, Option}

-- A source over a reader: what the reader has left, where it says so, and how many reads have failed.
pub record ReaderState : Type 0 where
  pub left : Option (List ℕ)
  pub faults : ℕ

-- A sink over a writer: what the writer holds, where it says so, and how many writes have failed.
pub record WriterState : Type 0 where
  pub held : Option (List ℕ)
  pub faults : ℕ

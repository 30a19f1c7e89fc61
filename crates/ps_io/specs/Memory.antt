-- Sources and sinks over memory.
use Rattle.std.specs.Prelude.{ℕ, ◌-◌, List, ◌++◌, length, take, drop, nat_eq, nat_lt, ◌&&◌, if◌then◌else◌}
use Rattle.ps_io.specs.Counts.{one_more}

-- A source over memory: the bytes that are still to be given, and the greatest number of them that one read gives;
-- the numbers of the calls that fail, the number of the next call, and how many calls have failed.
pub record MemoryInput : Type 0 where
  pub left : List ℕ
  pub piece : ℕ
  pub fails : List ℕ
  pub calls : ℕ
  pub faults : ℕ

-- The source after a read that gave n bytes.
abbrev pub after_read : MemoryInput → ℕ → MemoryInput
after_read source n = record source { left = drop n source.left; calls = one_more source.calls }

-- The source after a read that failed.
abbrev pub after_failed_read : MemoryInput → MemoryInput
after_failed_read source = record source { calls = one_more source.calls; faults = one_more source.faults }

-- A sink over memory: the bytes that it has taken, and for how many more there is room; the numbers of the calls
-- that fail, the number of the next call, and how many calls were faults.
pub record MemoryOutput : Type 0 where
  pub held : List ℕ
  pub free : ℕ
  pub fails : List ℕ
  pub calls : ℕ
  pub faults : ℕ

-- To take none of a piece that isn't empty is a fault.
abbrev pub faults_after_write : ℕ → ℕ → ℕ → ℕ
faults_after_write faults n wanted = if nat_eq n 0 && nat_lt 0 wanted then one_more faults else faults

-- The sink after a write that took the first n of the bytes.
abbrev pub after_write : MemoryOutput → List ℕ → ℕ → MemoryOutput
after_write sink bytes n =
    record sink {
      held = sink.held ++ take n bytes;
      free = sink.free - n;
      calls = one_more sink.calls;
      faults = faults_after_write sink.faults n (length bytes);
    }

-- The sink after a write that failed.
abbrev pub after_failed_write : MemoryOutput → MemoryOutput
after_failed_write sink = record sink { calls = one_more sink.calls; faults = one_more sink.faults }

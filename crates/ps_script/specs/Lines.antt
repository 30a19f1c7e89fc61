-- Lines of bytes.
use Rattle.std.specs.Prelude.{◌≡◌, ◌≢◌, ℕ, ◌+◌, ◌-◌, Bool, ◌==◌, nat_lt, if◌then◌else◌, List, [], ◌++◌, length, take, slice_index, codes}
use Rattle.std.specs.List.{before_first, after_first, position_or_len}

abbrev pub is_feed : ℕ → Bool
is_feed b = b == 10

-- The bytes without a CR at their end.
unfoldable pub without_return : List ℕ → List ℕ
without_return bytes = if slice_index bytes (length bytes - 1) == 13 then take (length bytes - 1) bytes else bytes

-- The first line without its end, which is LF or CR LF; all of the bytes where they have no LF.
unfoldable pub line_of : List ℕ → List ℕ
line_of bytes = if nat_lt (position_or_len is_feed bytes) (length bytes) then without_return (before_first is_feed bytes) else bytes

-- What stands behind the first line.
unfoldable pub rest_of : List ℕ → List ℕ
rest_of bytes = after_first is_feed bytes

-- A block and the line `.` behind it: the bytes of the block, the number of these lines, and what stands behind them.
pub data HasBlock : (bytes block : List ℕ) (lines : ℕ) (rest : List ℕ) → Type 0 where
  ends_here : {bytes block : List ℕ} {lines : ℕ} {rest : List ℕ} → bytes ≢ [] → line_of bytes ≡ codes "."
      → block ≡ [] → lines ≡ 1 → rest ≡ rest_of bytes → HasBlock bytes block lines rest
  ends_later : {bytes block more : List ℕ} {lines n : ℕ} {rest : List ℕ} (front : List ℕ) → bytes ≢ [] → line_of bytes ≢ codes "."
      → bytes ≡ front ++ rest_of bytes → HasBlock (rest_of bytes) more n rest → block ≡ front ++ more → lines ≡ n + 1 → HasBlock bytes block lines rest

-- No line is `.`.
pub data HasNoBlock : List ℕ → Type 0 where
  no_line : {bytes : List ℕ} → bytes ≡ [] → HasNoBlock bytes
  no_end : {bytes : List ℕ} → bytes ≢ [] → line_of bytes ≢ codes "." → HasNoBlock (rest_of bytes) → HasNoBlock bytes

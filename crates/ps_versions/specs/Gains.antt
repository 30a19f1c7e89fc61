-- A circuit, as it lies in the fields, with more versions behind those that it has.
use Rattle.std.specs.Prelude.{ℕ, ◌≡◌, ◌<◌, List, ◌++◌, length, set, slice_get, Some, vec_len, vec_capacity}
use Rattle.ps_versions.specs.declared.data.Edition.{Edition}
use Rattle.ps_versions.specs.declared.data.Course.{Course}

pub record Gains (old new : List Course) (i : ℕ) (more : List Edition) : Type 0 where
  pub was : Course
  pub course : Course
  pub there : slice_get old i ≡ Some was
  pub changed : new ≡ set old i course
  pub qubits : course.qubits ≡ was.qubits
  pub opened : course.opened ≡ was.opened
  pub editions : course.editions.items ≡ was.editions.items ++ more

-- the circuit has room for one version more
abbrev pub HasRoom : List Course → ℕ → Type 0
HasRoom cs i = (c : Course) → slice_get cs i ≡ Some c → vec_len c.editions < vec_capacity c.editions

-- how many versions it has
abbrev pub HasCount : List Course → ℕ → ℕ → Type 0
HasCount cs i n = (c : Course) → slice_get cs i ≡ Some c → length c.editions.items ≡ n

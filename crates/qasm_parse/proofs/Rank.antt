-- How far a part is above those that it is made of, at one place.
use Rattle.std.proofs.Common.{ℕ}
use Rattle.qasm_parse.specs.declared.sort.Level.{Level}
use Rattle.qasm_parse.specs.declared.sort.Level.TheVariants.{Sums, Products}

abbrev pub rank : Level → ℕ
rank Sums = 2
rank Products = 0

-- Path sums and lists of prims: what it means that a sum denotes a list, and which sum one prim has.
use Rattle.std.specs.Prelude.{ℕ, zero, suc, ◌≡◌, ◌+◌, ◌*◌, cond, List, length}
use Rattle.std.proofs.Math.IntN.{pos}
use Rattle.ps_ring.specs.Numbers.{SameScaled}
use Rattle.ps_ring.specs.Sums.{PathValues, signed_count}
use Rattle.ps_ring.specs.Joins.{PlainSum, TurnedSum}
use Rattle.ps_prim.specs.declared.prims.Primitive.{Primitive as Prim}
use Rattle.ps_prim.specs.declared.prims.Primitive.TheVariants.{U, Cx}
use Rattle.ps_prim.specs.Amplitudes.{Truths, bit, exchanged, amplitude, turns}

-- at each input and output the sum's number is the amplitude of A, each over its power of the root of 2
pub record Denotes (n : ℕ) (S : PathValues) (A : List Prim) : Type 0 where
  pub width : (x y : Truths) → length x ≡ n → length y ≡ S.m → length (S.outs x y) ≡ n
  pub same : (x z : Truths) → length x ≡ n → SameScaled S.k (signed_count S x z) (pos (turns A + turns A)) (amplitude A x z)

-- the sum of one prim
abbrev pub LeafSum : ℕ → Prim → PathValues → Type 0
LeafSum n (U zero phi lambda q) S = PlainSum n (λ x. x) (λ x. cond (bit x q) (2 * phi + 2 * lambda) 0) S
LeafSum n (U (suc theta) phi lambda q) S = TurnedSum n (suc theta) phi lambda q S
LeafSum n (Cx c t) S = PlainSum n (exchanged c t) (λ x. 0) S

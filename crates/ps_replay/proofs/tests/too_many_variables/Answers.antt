use Rattle.std.proofs.Common.{ℕ, zero, suc, arith, subst, sym, replicate}
use Rattle.ps_prim.specs.declared.prims.Primitive.{Primitive as Prim}
use Rattle.ps_prim.specs.Maps.{IsWithin, AllWithin}
use Rattle.ps_replay.proofs.tests.too_many_variables.Goals as goal

repeated_within : (n k : ℕ) (g : Prim) → IsWithin n g → AllWithin n (replicate k g)
repeated_within n zero g w = tt
repeated_within n (suc k) g w = (w, repeated_within n k g w)

pub tells-requires-clause-first : goal.tells-requires-clause-first
tells-requires-clause-first g c = repeated_within 1 256 c.hadamard-gates.result (subst (IsWithin 1) (sym c.hadamard-gates.ensures) (omega arith))

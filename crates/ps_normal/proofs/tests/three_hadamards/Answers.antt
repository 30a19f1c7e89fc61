use Rattle.std.proofs.Common.{arith, subst, sym, ◌∙◌, ap, ap₂, [], ◌∷◌}
use Rattle.std.proofs.lemmas.Result.{IfOk-weaker}
use Rattle.ps_prim.specs.declared.prims.Primitive.{Primitive as Prim}
use Rattle.ps_prim.specs.declared.prims.Primitive.TheVariants.{U}
use Rattle.ps_prim.specs.Maps.{AllWithin}
use Rattle.ps_normal.proofs.TestRuns.{one_runs}
use Rattle.ps_normal.proofs.tests.three_hadamards.Goals as goal

pub returns : goal.returns
returns c = IfOk-weaker c.one_item.result _ _ (λ s e. one_runs 1 c.in_ok-vec.field-0.items s.value e (subst (AllWithin 1) (sym (c.in_ok-vec.ensures.items ∙ ap₂ (λ (a b : Prim). a ∷ b ∷ c.hadamard-3.result ∷ []) c.hadamard.ensures c.hadamard-2.ensures ∙ ap (λ (d : Prim). U 536870912 0 1073741824 0 ∷ U 536870912 0 1073741824 0 ∷ d ∷ []) c.hadamard-3.ensures)) (omega arith, (omega arith, (omega arith, tt))))) c.one_item.ensures

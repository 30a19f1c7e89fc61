use Rattle.std.proofs.Common.{arith, subst, sym, ◌∙◌, ap, [], ◌∷◌}
use Rattle.std.proofs.lemmas.Result.{IfOk-weaker}
use Rattle.ps_prim.specs.declared.prims.Primitive.{Primitive as Prim}
use Rattle.ps_prim.specs.Maps.{AllWithin}
use Rattle.ps_normal.proofs.TestRuns.{one_runs}
use Rattle.ps_probe.proofs.tests.one_eighth.Goals as goal

pub returns : goal.returns
returns c = IfOk-weaker c.one_item.result _ _ (λ s e. one_runs 1 c.in_ok-vec.field-0.items s.value e (subst (AllWithin 1) (sym (c.in_ok-vec.ensures.items ∙ ap (λ (a : Prim). a ∷ []) c.eighth.ensures)) (omega arith, tt))) c.one_item.ensures

-- The record of no item.
use Rattle.std.proofs.Common.{◌≡◌, ◌≤◌, ℕ, List, [], ◌∷◌, length, sym, ap, subst, arith}
use Rattle.std.specs.declared.sync.Arc.{Arc}
use Rattle.std.specs.declared.alloc.Global.{Global}
use Rattle.ps_prim.specs.declared.prims.Primitive.{Primitive as Prim}
use Rattle.ps_prim.specs.Maps.{AllWithin}
use Rattle.ps_prim.specs.Amplitudes.{turns}
use Rattle.ps_sum.specs.declared.sums.PathSum.{PathSum}
use Rattle.ps_join.specs.Joining.{IsIdentityOf}
use Rattle.ps_rules.specs.declared.steps.Move.{Move}
use Rattle.ps_rules.specs.declared.steps.Move.TheVariants.{Id}
use Rattle.ps_reach.specs.declared.evidence.Body.TheVariants.{Sum}
use Rattle.ps_reach.specs.Runs.{run_of}
use Rattle.ps_reach.specs.Fillings.{Fills, kept, no_prim}
use Rattle.ps_reach.specs.Parts.{Scaled, IsRight}
use Rattle.ps_reach.proofs.Filling.{fills_right}
use Rattle.ps_reach.proofs.Denoting.{normal_scaled}

pub no_prims : (items : List (List Prim)) → items ≡ [] → run_of items ≡ []
unfolding run_of
no_prims items e = ap run_of e

pub identity_fills : (n : ℕ) (S0 S : PathSum) (ms : List Move) → IsIdentityOf n S0 → S ≡ S0 → ms ≡ Id ∷ [] → Fills n [] (kept S ms)
identity_fills n S0 S ms i e m = subst (λ q. Fills n [] (kept S q)) (sym m) (subst (λ R. Fills n [] (kept R (Id ∷ []))) (sym e) (no_prim i))

module _ (n : ℕ) (S0 : PathSum) (s : Arc PathSum Global) (ms : List Move) (items : List (List Prim)) (i : IsIdentityOf n S0) (e : s.value ≡ S0)
    (m : ms ≡ Id ∷ []) (none : items ≡ []) where
  right : IsRight n [] ms (Sum s)
  right = fills_right [] (identity_fills n S0 s.value ms i e m)

  pub identity_few : length items ≤ 65536
  identity_few = let h : length items ≡ 0 = ap length none in omega (arith, h)

  pub identity_within : AllWithin n (run_of items)
  identity_within = subst (AllWithin n) (sym (no_prims items none)) tt

  pub identity_scale : Scaled (turns (run_of items)) s.value
  identity_scale = subst (λ A. Scaled (turns A) s.value) (sym (no_prims items none)) (normal_scaled right.0)

  pub identity_right : ∥ IsRight n (run_of items) ms (Sum s) ∥₁
  identity_right = ∣ subst (λ A. IsRight n A ms (Sum s)) (sym (no_prims items none)) right ∣₁

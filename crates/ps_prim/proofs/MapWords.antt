-- What the words on maps have to do with one another.
use Rattle.std.proofs.Common.{◌≡◌, ℕ, zero, suc, ◌<◌, ◌^◌, ap, sym, ◌∙◌, subst, arith, List, [], ◌∷◌, length}
use Rattle.std.proofs.Math.IntN.{ℤ, pos, ◌-ℤ◌, ◌*ℤ◌, +ℤ_idr}
use Rattle.std.specs.Prelude.{slice_index_or}
use Rattle.ps_prim.specs.declared.prims.Primitive.{Primitive as Prim}
use Rattle.ps_prim.specs.Amplitudes.{Truths, amplitude, turns}
use Rattle.ps_prim.specs.Maps.{DiffersAt, PhaseDiffersAt}
use Rattle.ps_prim.specs.MapLaws.{SameNowhereDiffers, PhaseNowhereDiffers, SameIsNoPhase, NoPhaseIsSame, PhaseDiffersDiffers}

pub same_nowhere_differs : SameNowhereDiffers
same_nowhere_differs n A B x l s d = d.2.1 (s x l d.0 d.1 d.2.0)

pub phase_nowhere_differs : PhaseNowhereDiffers
phase_nowhere_differs n A B p inputs w s d =
    let a = d p in
    a.4.2.1 (s a.1 (subst (λ (y : Truths). length y ≡ n) a.3 (w a.0 a.1 a.2)) a.4.0 a.4.1 a.4.2.0)

unturned : (A B : List Prim) (x z : Truths) (j : ℤ) → pos (2 ^ turns B) *ℤ amplitude A x z (j -ℤ pos 0) ≡ pos (2 ^ turns B) *ℤ amplitude A x z j
unturned A B x z j = ap (λ (i : ℤ). pos (2 ^ turns B) *ℤ amplitude A x z i) (+ℤ_idr j)

pub same_is_no_phase : SameIsNoPhase
same_is_no_phase n A B s x lx z lz j = sym (unturned A B x z j ∙ s x lx z lz j)

pub no_phase_is_same : NoPhaseIsSame
no_phase_is_same n A B s x lx z lz j = sym (s x lx z lz j ∙ unturned A B x z j)

-- a phase of 0 tells nothing more
unturned_differs : (n : ℕ) (A B : List Prim) (x : Truths) → PhaseDiffersAt n A B 0 x → DiffersAt n A B x
unturned_differs n A B x d = (d.0, d.1, (d.2.0, λ e. d.2.1 (sym (unturned A B x d.0 d.2.0 ∙ e))))

only_one : (k : ℕ) (x y : Truths) → k < length (x ∷ []) → slice_index_or (x ∷ []) k y ≡ y → x ≡ y
only_one zero x y h e = e
only_one (suc k) x y h e = absurd (omega arith)

pub phase_differs_differs : PhaseDiffersDiffers
phase_differs_differs n A B x d =
    let a = d 0 in
    unturned_differs n A B x (subst (PhaseDiffersAt n A B 0) (sym (only_one a.0 x a.1 a.2 a.3)) a.4)

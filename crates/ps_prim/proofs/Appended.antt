-- Lists of prims, one after the other.
use Rattle.std.proofs.Common.{◌≡◌, ◌+◌, refl, ap, arith, List, [], ◌∷◌, ◌++◌}
use Rattle.ps_prim.specs.declared.prims.Primitive.{Primitive as Prim}
use Rattle.ps_prim.specs.declared.prims.Primitive.TheVariants.{U, Cx}
use Rattle.ps_prim.specs.AmplitudeLaws.{AmplitudeEmpty, AmplitudeLast, AmplitudeAppend}
use Rattle.ps_prim.specs.Amplitudes.{Truths, Column, act, run, start, amplitude, turns}

pub run-append : (A B : List Prim) (v : Column) → run (A ++ B) v ≡ run B (run A v)
unfolding run
run-append [] B v = refl
run-append (g ∷ gs) B v = run-append gs B (act g v)

pub turns-append : (A B : List Prim) → turns (A ++ B) ≡ turns A + turns B
unfolding turns
turns-append [] B = omega arith
turns-append (U theta phi lambda q ∷ A) B = omega (arith, turns-append A B)
turns-append (Cx c t ∷ A) B = turns-append A B

pub amplitude-append : (A B : List Prim) (x : Truths) → amplitude (A ++ B) x ≡ run B (amplitude A x)
unfolding amplitude
amplitude-append A B x = run-append A B (start x)

-- the amplitudes after one more prim
pub amplitude-last : (A : List Prim) (g : Prim) (x : Truths) → amplitude (A ++ (g ∷ [])) x ≡ act g (amplitude A x)
unfolding run
amplitude-last A g x = amplitude-append A (g ∷ []) x

pub amplitude_empty : AmplitudeEmpty
unfolding amplitude run
amplitude_empty x z j = refl

pub amplitude_last_at : AmplitudeLast
amplitude_last_at A g x z j = ap (λ v. v z j) (amplitude-last A g x)

pub amplitude_append_at : AmplitudeAppend
amplitude_append_at A B x z j = ap (λ v. v z j) (amplitude-append A B x)

-- What prims make of columns of numbers is columns of numbers.
use Rattle.std.proofs.Common.{ap, ◌∙◌, arith, Bool, true, false, List, [], ◌∷◌, ◌*◌, set}
use Rattle.std.proofs.Math.IntN.{ℤ, pos}
use Rattle.std.proofs.lemmas.Int.{ints}
use Rattle.ps_ring.specs.Numbers.{Number, IsNumber, one, when}
use Rattle.ps_ring.proofs.Turned.{one_number, turned_number}
use Rattle.ps_ring.proofs.Whens.{when-neg}
use Rattle.ps_prim.specs.declared.prims.Primitive.{Primitive as Prim}
use Rattle.ps_prim.specs.declared.prims.Primitive.TheVariants.{U, Cx}
use Rattle.ps_prim.specs.Amplitudes.{Truths, Column, bit, same_bits, first_phase, second_phase, entry, exchanged, act, run, start, amplitude}

pub entry_number : (t f l : ℤ) (a b : Bool) (c : Number) → IsNumber c → IsNumber (entry t f l a b c)
unfolding entry
entry_number t f l a b c h j =
    let r = turned_number c h (first_phase t f l a b) j in
    let s = turned_number c h (second_phase t f l a b) j in
    omega (arith, ints)

pub act_number : (g : Prim) (v : Column) → ((z : Truths) → IsNumber (v z)) → (z : Truths) → IsNumber (act g v z)
unfolding act
act_number (Cx c t) v h z j = h (exchanged c t z) j
act_number (U theta phi lambda q) v h z j =
    let r = entry_number (pos theta) (pos (2 * phi)) (pos (2 * lambda)) (bit z q) false _ (h (set z q false)) j in
    let s = entry_number (pos theta) (pos (2 * phi)) (pos (2 * lambda)) (bit z q) true _ (h (set z q true)) j in
    omega (arith, ints)

pub run_number : (A : List Prim) (v : Column) → ((z : Truths) → IsNumber (v z)) → (z : Truths) → IsNumber (run A v z)
unfolding run
run_number [] v h z = h z
run_number (g ∷ gs) v h z = run_number gs (act g v) (act_number g v h) z

pub start_number : (x z : Truths) → IsNumber (start x z)
unfolding start
start_number x z j = ap (when (same_bits x z)) (one_number j) ∙ when-neg (same_bits x z) (one j)

pub amplitude_number : (A : List Prim) (x z : Truths) → IsNumber (amplitude A x z)
unfolding amplitude
amplitude_number A x z = run_number A (start x) (start_number x) z

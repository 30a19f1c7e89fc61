-- The text of a sum put together.
use Rattle.std.proofs.Common.{◌≡◌, ℕ, ap, ap₂, sym, ◌∙◌, List, ◌++◌, append_assoc, codes, decimal, Vec, String, Global, vec_items, ℤ, pos, negsuc, ◌≤ℤ◌, SFits, to_z, of_z, w32, arith}
use Rattle.std.proofs.lemmas.Int.{ints, to_z-of_z}
use Rattle.std.specs.Fmt.{signed_decimal}
use Rattle.std.specs.String.{string_bytes, string_vec}
use Rattle.ps_phase.specs.declared.terms.Term.{Term}
use Rattle.ps_sum.specs.declared.sums.PathSum.{PathSum}
use Rattle.ps_sum.specs.Texts.{phase_text, outs_text, sum_text}

pub bytes_are : (v : Vec ℕ Global) (s : String Global) → v ≡ string_vec s → v.items ≡ string_bytes s
bytes_are v s e = ap vec_items e

pub text_is : (S : PathSum) (t0 t1 t2 t3 : List ℕ) (ts : List Term) (fs : List (List (List ℕ))) → t0 ≡ codes "k=" ++ (signed_decimal S.k ++ (codes " m=" ++ (decimal S.m ++ codes " P="))) → ts ≡ S.phase → fs ≡ S.outs
    → t1 ≡ t0 ++ phase_text S.n ts → t2 ≡ t1 ++ codes " f=" → t3 ≡ t2 ++ outs_text S.n fs → t3 ≡ sum_text S
unfolding sum_text
text_is S t0 t1 t2 t3 ts fs e0 et ef e1 e2 e3 =
    let k = signed_decimal S.k in
    let m = decimal S.m in
    let a : t0 ≡ codes "k=" ++ k ++ codes " m=" ++ m ++ codes " P=" =
    e0 ∙ sym (append_assoc (codes "k=") k (codes " m=" ++ (m ++ codes " P="))) ∙ sym (append_assoc (codes "k=" ++ k) (codes " m=") (m ++ codes " P=")) ∙ sym (append_assoc (codes "k=" ++ k ++ codes " m=") m (codes " P=")) in
    e3 ∙ ap₂ (λ (x : List ℕ) (y : List (List (List ℕ))). x ++ outs_text S.n y) (e2 ∙ ap (λ (r : List ℕ). r ++ codes " f=") (e1 ∙ ap₂ (λ (x : List ℕ) (y : List Term). x ++ phase_text S.n y) a et)) ef

fits_scale : (k : ℤ) → (negsuc 1999999999 ≤ℤ k) × (k ≤ℤ pos 2000000000) → SFits w32 k
fits_scale k b = omega (arith, ints)

pub shown_head : (S : PathSum) → codes "k=" ++ (signed_decimal (to_z w32 (of_z w32 S.k)) ++ (codes " m=" ++ (decimal S.m ++ codes " P="))) ≡ codes "k=" ++ (signed_decimal S.k ++ (codes " m=" ++ (decimal S.m ++ codes " P=")))
shown_head S = ap (λ k. codes "k=" ++ (signed_decimal k ++ (codes " m=" ++ (decimal S.m ++ codes " P=")))) (to_z-of_z w32 S.k (fits_scale S.k S.scaled))

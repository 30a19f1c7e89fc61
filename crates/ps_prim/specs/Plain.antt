-- Lists of prims that only permute the basis inputs and turn phases.
use Rattle.std.specs.Prelude.{ℕ, ◌≡◌, ◌≢◌, ◌<◌, ◌+◌, ◌*◌, ◌%◌, ◌^◌, cond, List, [], ◌∷◌, ◌++◌, length}
use Rattle.std.proofs.Math.IntN.{ℤ, pos, ◌-ℤ◌, ◌*ℤ◌}
use Rattle.ps_ring.specs.Numbers.{one, when}
use Rattle.ps_prim.specs.declared.prims.Primitive.{Primitive as Prim}
use Rattle.ps_prim.specs.declared.prims.Primitive.TheVariants.{U, Cx}
use Rattle.ps_prim.specs.Amplitudes.{Truths, bit, same_bits, exchanged, amplitude, turns}
use Rattle.ps_prim.specs.Maps.{SameMap, DiffersAt}

-- A takes each input x of n bits to the output f x alone, turned by the phase P x
pub record IsPlain (n : ℕ) (A : List Prim) (f : Truths → Truths) (P : Truths → ℕ) : Type 0 where
  pub width : (x : Truths) → length x ≡ n → length (f x) ≡ n
  pub value : (x z : Truths) → length x ≡ n → (j : ℤ) → amplitude A x z j ≡ pos (2 ^ turns A) *ℤ when (same_bits (f x) z) (one (j -ℤ pos (P x)))

-- no prim at all
abbrev pub PlainEmpty : Type 0
PlainEmpty = (n : ℕ) → IsPlain n [] (λ x. x) (λ x. 0)

-- one more controlled not exchanges a bit of the output
abbrev pub PlainCx : Type 0
PlainCx = (n : ℕ) (A : List Prim) (f : Truths → Truths) (P : Truths → ℕ) (c t : ℕ) → IsPlain n A f P → c < n → t < n → c ≢ t → IsPlain n (A ++ (Cx c t ∷ [])) (λ x. exchanged c t (f x)) P

-- one more U at theta 0 turns the phase where its bit of the output is 1
abbrev pub PlainTurn : Type 0
PlainTurn = (n : ℕ) (A : List Prim) (f : Truths → Truths) (P : Truths → ℕ) (phi lambda q : ℕ) → IsPlain n A f P
    → IsPlain n (A ++ (U 0 phi lambda q ∷ [])) f (λ x. P x + cond (bit (f x) q) (2 * phi + 2 * lambda) 0)

-- equal outputs and phases, whole turns aside, are one map
abbrev pub PlainSame : Type 0
PlainSame = (n : ℕ) (A B : List Prim) (f g : Truths → Truths) (P Q : Truths → ℕ) → IsPlain n A f P → IsPlain n B g Q → ((x : Truths) → length x ≡ n → f x ≡ g x)
    → ((x : Truths) → length x ≡ n → P x % 4294967296 ≡ Q x % 4294967296) → SameMap n A B

-- another output is another map
abbrev pub PlainOutputDiffers : Type 0
PlainOutputDiffers = (n : ℕ) (A B : List Prim) (f g : Truths → Truths) (P Q : Truths → ℕ) → IsPlain n A f P → IsPlain n B g Q → (x : Truths) → length x ≡ n → f x ≢ g x → DiffersAt n A B x

-- so is another phase at the same output
abbrev pub PlainPhaseDiffers : Type 0
PlainPhaseDiffers = (n : ℕ) (A B : List Prim) (f g : Truths → Truths) (P Q : Truths → ℕ) → IsPlain n A f P → IsPlain n B g Q → (x : Truths) → length x ≡ n → f x ≡ g x
    → P x % 4294967296 ≢ Q x % 4294967296 → DiffersAt n A B x

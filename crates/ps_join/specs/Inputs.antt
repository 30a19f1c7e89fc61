-- Outputs that are inputs, and the phase of a rotation.
use Rattle.std.specs.Prelude.{ℕ, zero, suc, ◌≡◌, ◌+◌, ◌*◌, ◌%◌, ◌&&◌, cond, List, [], ◌∷◌}
use Rattle.ps_ring.specs.Readings.{Assignment}
use Rattle.ps_phase.specs.declared.terms.Term.{Term}
use Rattle.ps_phase.specs.Phases.{phase_value}

-- the n inputs from lo on, each by itself
unfoldable pub inputs_from : ℕ → ℕ → List (List (List ℕ))
inputs_from lo zero = []
inputs_from lo (suc n) = ((lo ∷ []) ∷ []) ∷ inputs_from (suc lo) n

-- the phase of U on input q, with the path variables n and n + 1
abbrev pub IsRotation : ℕ → ℕ → ℕ → ℕ → ℕ → List Term → Type 0
IsRotation theta phi lambda q n p = (a : Assignment) → (phase_value p a + theta) % 4294967296
    ≡ (cond (a q) (2 * lambda + 3221225472) 0 + cond (a q && a n) 2147483648 0 + cond (a n) (2 * theta) 0 + cond (a n && a (suc n)) 2147483648 0 + cond (a (suc n)) (2 * phi + 1073741824) 0) % 4294967296

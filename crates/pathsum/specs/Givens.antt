-- What the reader of two texts answers.
use Rattle.std.specs.Prelude.{ℕ, ◌≡◌, ◌≢◌, ◌≤◌}
use Rattle.qasm_expand.specs.Circuits.{CircuitOf}
use Rattle.pathsum.specs.declared.pair.TwoTexts.{TwoTexts}
use Rattle.pathsum.specs.declared.pair.TwoTexts.TheVariants.{Both, Refuses}
use Rattle.pathsum.specs.declared.refusals.Refusal.TheVariants.{Widths}
use Rattle.pathsum.specs.Texts.{Given, both, refuses}

abbrev pub given_in : TwoTexts → Given
given_in (Both pair) = both pair.qubits pair.first pair.second
given_in (Refuses why at) = refuses why at

-- the byte is below 2^33
abbrev pub IsNear : TwoTexts → Type 0
IsNear (Both pair) = Unit {0}
IsNear (Refuses why at) = at ≤ 8589934591

-- of two circuits, the second of which begins at start
pub data OfCircuits (c d : CircuitOf) (start : ℕ) : Given → Type 0 where
  differ : c.qubits ≢ d.qubits → OfCircuits c d start (refuses Widths start)
  agree : c.qubits ≡ d.qubits → OfCircuits c d start (both c.qubits c.items d.items)

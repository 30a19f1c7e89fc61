-- What is drawn from a seed: numbers, and three of them for each application.
use Rattle.std.specs.Prelude.{ℕ, zero, suc, ◌+◌, ◌-◌, ◌*◌, ◌/◌, ◌%◌, List, [], ◌∷◌}
use Rattle.ps_gen.specs.declared.applications.Gate.{Gate}
use Rattle.ps_gen.specs.declared.applications.Gate.TheVariants.{X, S, T, Cx, Cz, Swap}
use Rattle.ps_gen.specs.declared.applications.Application.{Application}

-- the number behind this one
unfoldable pub next_number : ℕ → ℕ
next_number x = (1664525 * x + 1013904223) % 4294967296

abbrev pub third_number : ℕ → ℕ
third_number x = next_number (next_number (next_number x))

-- the gates in order
abbrev pub gate_of : ℕ → Gate
gate_of zero = X
gate_of (suc zero) = S
gate_of (suc (suc zero)) = T
gate_of (suc (suc (suc zero))) = Cx
gate_of (suc (suc (suc (suc zero)))) = Cz
gate_of n = Swap

-- the first number chooses the gate, by its upper 8 of 32 bits; the second its qubit, by its upper 16; and the third, by those too, how
-- far behind it, round, the other qubit stands
abbrev pub chosen_by : ℕ → ℕ → ℕ → ℕ → Application
chosen_by qubits u v w = record {
  gate = gate_of (u / 16777216 % 6);
  first = v / 65536 % qubits;
  second = (v / 65536 % qubits + 1 + w / 65536 % (qubits - 1)) % qubits;
}

abbrev pub chosen : ℕ → ℕ → Application
chosen qubits x = chosen_by qubits (next_number x) (next_number (next_number x)) (third_number x)

-- so many of them, in order
unfoldable pub applications : ℕ → ℕ → ℕ → List Application
applications qubits zero x = []
applications qubits (suc n) x = chosen qubits x ∷ applications qubits n (third_number x)

-- What two texts are read as.
use Rattle.std.specs.Prelude.{ℕ, ◌≡◌, ◌≢◌, ◌+◌, List, Result, Ok, Err}
use Rattle.ps_prim.specs.declared.prims.Primitive.{Primitive as Prim}
use Rattle.qasm_expand.specs.declared.fault.FaultName.{FaultName}
use Rattle.qasm_expand.specs.declared.fault.ReadFault.{ReadFault}
use Rattle.qasm_expand.specs.declared.fault.ReadFault.TheVariants.{Fault}
use Rattle.qasm_expand.specs.Circuits.{CircuitOf, ReadsText}
use Rattle.pathsum.specs.declared.refusals.Refusal.{Refusal}
use Rattle.pathsum.specs.declared.refusals.Refusal.TheVariants.{Text, Widths}

-- the text is read as this circuit or this fault, and as nothing else
pub record IsReadAs (text : List ℕ) (read : Result CircuitOf ReadFault) : Type 0 where
  pub reads : ReadsText text read
  pub only : (other : Result CircuitOf ReadFault) → ReadsText text other → other ≡ read

-- two lists of items on so many qubits, or a refusal at this byte of the whole input
pub data Given : Type 0 where
  both : ℕ → List (List Prim) → List (List Prim) → Given
  refuses : Refusal → ℕ → Given

-- what text a and text b, which begins at start, are: the first text's fault, else the second's, else the two numbers of
-- qubits differ, else the items of each in order
pub data TextsAre (a b : List ℕ) (start : ℕ) : Given → Type 0 where
  first_fault : {name : FaultName} {at : ℕ} → IsReadAs a (Err (Fault name at)) → TextsAre a b start (refuses (Text name) at)
  second_fault : {c : CircuitOf} {name : FaultName} {at : ℕ} → IsReadAs a (Ok c) → IsReadAs b (Err (Fault name at)) → TextsAre a b start (refuses (Text name) (start + at))
  widths : {c d : CircuitOf} → IsReadAs a (Ok c) → IsReadAs b (Ok d) → c.qubits ≢ d.qubits → TextsAre a b start (refuses Widths start)
  circuits : {c d : CircuitOf} → IsReadAs a (Ok c) → IsReadAs b (Ok d) → c.qubits ≡ d.qubits → TextsAre a b start (both c.qubits c.items d.items)

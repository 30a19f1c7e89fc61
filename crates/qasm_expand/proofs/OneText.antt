-- There is one reading of a text, and of a block.
use Rattle.std.proofs.Common.{◌≡◌, ℕ, List, Result, sym}
use Rattle.ps_prim.specs.declared.prims.Primitive.{Primitive as Prim}
use Rattle.qasm_expand.specs.declared.fault.ReadFault.{ReadFault}
use Rattle.qasm_expand.specs.Circuits.{TableOf, CircuitOf, ReadsText, ReadsBlock}
use Rattle.qasm_expand.proofs.Outcomes.{comes_one}
use Rattle.qasm_expand.proofs.Once.{OneComes, one_text_from, one_block_from}

each_once : OneComes
each_once defs ps j r s h k = sym (comes_one defs ps j r s h k)

pub one_text : (text : List ℕ) (a b : Result CircuitOf ReadFault) → ReadsText text a → ReadsText text b → b ≡ a
one_text = one_text_from each_once

pub one_block : (table : TableOf) (block : List ℕ) (a b : Result (List (List Prim)) ReadFault) → ReadsBlock table block a → ReadsBlock table block b → b ≡ a
one_block = one_block_from each_once

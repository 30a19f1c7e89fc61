use Rattle.std.proofs.Common.{arith, refl, ap, sym, ◌∙◌, ◌∷◌, [], ◌++◌, if◌then◌else◌, ◌+◌, ◌&&◌, nat_lt}
use Rattle.qasm_expand.specs.declared.registers.Extent.{Extent}
use Rattle.qasm_expand.proofs.Sounding.{sound_more}
use Rattle.qasm_expand.proofs.declaring.declare.Goals as goal

pub returns-clause-sound : goal.returns-clause-sound
returns-clause-sound c =
    let q = c.args.quantum in let st = c.args.state.now in let name = c.spelled-word.result.now in let size = c.number-places.result in
    sound_more st _ name q size c.requires.sound (omega (arith, c.if-places-eq0.false))
    (ap (λ z. q && nat_lt 64 (z + size)) (sym c.qubits-first.ensures) ∙ sym c.too_many.ensures ∙ c.if-too_many.false)
    (c.in_ok-push.ensures
    ∙ ap (λ (x : Extent). st.registers ++ record { name = name; quantum = x.quantum; first = x.first; size = x.size } ∷ []) c.extent-extent.ensures
    ∙ ap (λ z. st.registers ++ record { name = name; quantum = q; first = if q then z else 0; size = size } ∷ []) c.qubits-first.ensures)
    refl refl refl

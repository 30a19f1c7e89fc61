use Rattle.std.proofs.Common.{ap, refl, sym, subst, ◌∙◌, ◌+◌, true, false, ◌≡◌}
use Rattle.ps_local.specs.declared.wires.Wires.{Wires}
use Rattle.ps_local.proofs.Looking.{FirstSoFar, NextOn, same_next, first_looks, first_skips, first_all}
use Rattle.ps_local.proofs.wires.Wires.first_of.Goals as goal
use Rattle.ps_local.proofs.wires.Wires.first_of.Goals.{then-has, else-has}

off : false ≡ true → ⊥
off e = cc

pub loop-qubit-preserved : goal.loop-qubit-preserved
loop-qubit-preserved c =
    let i = c.loop-qubit.invariant in
    elim c.if-has.branch [
      | then-has w ↦
          (let t = w.if-has.ensures in
          let n = w.next_on.ensures in
          let q : NextOn c.loop-qubit.self.qubits.items c.loop-qubit.self.out.items c.loop-qubit.qubit w.next_on.result = record { inside = n.inside; clear = n.clear; stands = n.stands; on = n.on } in (
            ap (λ (v : Wires). v.qubits.items) w.self-is ∙ n.qubits ∙ i.0,
            ap (λ (v : Wires). v.out.items) w.self-is ∙ n.out ∙ i.1,
            first_looks _ _ c.args.mask c.loop-qubit.first c.loop-qubit.qubit w.next_on.result _ (t.0 refl) (same_next _ _ _ _ c.loop-qubit.qubit w.next_on.result i.0 i.1 q) (w.first-is ∙ w.min-first.ensures) i.2,
          ))
      | else-has w ↦
          (let t = w.if-has.ensures in (
            ap (λ (v : Wires). v.qubits.items) w.self-is ∙ i.0,
            ap (λ (v : Wires). v.out.items) w.self-is ∙ i.1,
            subst (λ f. FirstSoFar c.args.self.now.qubits.items c.args.self.now.out.items c.args.mask f (c.loop-qubit.qubit + 1)) (sym w.first-is)
                (first_skips _ _ c.args.mask c.loop-qubit.first c.loop-qubit.qubit (λ e. off (t.1 e)) i.2),
          ))
    ]

pub returns-clause-before : goal.returns-clause-before
returns-clause-before c = let i = c.loop-qubit.invariant in first_all c.args.self.now.qubits.items c.args.self.now.out.items c.args.mask c.loop-qubit.first c.loop-qubit.qubit c.ranges.mask.fits c.loop-qubit-test.false i.2

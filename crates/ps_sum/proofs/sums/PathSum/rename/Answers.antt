use Rattle.std.proofs.Common.{arith, rules, ◌+◌, ℕ, false}
use mir.Syntax.{w32}
use mir.Val.{SFits}
use Rattle.std.proofs.lemmas.Int.{to_z-of_z}
use Rattle.ps_sum.specs.Names.{opened}
use Rattle.ps_sum.proofs.Closings.{opened_above, same_width}
use Rattle.ps_sum.proofs.sums.PathSum.rename.Goals as goal

pub invariant_of-result : goal.invariant_of-result
invariant_of-result c = record {
  qubits = c.args.self.now.qubits;
  named = (let h = c.args.self.now.named in omega arith);
  scaled = (let f : SFits w32 c.args.self.now.k = search rules in rw (to_z-of_z w32 c.args.self.now.k f) c.args.self.now.scaled);
  phase_below = λ v h. c.in_ok-phase.ensures.variables v (c.args.self.now.phase_below (opened (c.args.self.now.n + c.args.y) v) (opened_above (c.args.self.now.n + c.args.y) v _ (omega arith) (omega arith)));
  outs_below = λ v h. c.in_ok-outs.ensures.variables v (c.args.self.now.outs_below (opened (c.args.self.now.n + c.args.y) v) (opened_above (c.args.self.now.n + c.args.y) v _ (omega arith) (omega arith)));
  width = same_width _ _ c.args.self.now.n (λ (u : ℕ). false) _ (c.in_ok-outs.ensures.value (λ (u : ℕ). false)) c.args.self.now.width;
  formed = (c.in_ok-phase.ensures.form, c.in_ok-outs.ensures.form);
}

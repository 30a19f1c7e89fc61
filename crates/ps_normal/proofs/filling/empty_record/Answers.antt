use Rattle.std.proofs.Common.{sym, subst}
use Rattle.ps_reach.specs.Runs.{run_of}
use Rattle.ps_reach.specs.Fillings.{Fills}
use Rattle.ps_reach.proofs.Filling.{fills_right}
use Rattle.ps_normal.proofs.Recording.{empty_fills}
use Rattle.ps_normal.proofs.filling.empty_record.Goals as goal

pub record-requires-clause-right : goal.record-requires-clause-right
record-requires-clause-right c = ∣ fills_right (run_of c.args.items.value)
    (empty_fills c.args.n (run_of c.args.items.value) c.new-moves.result.items c.push.new.self.items c.in_ok-identity.field-0 c.in_ok-sum.sum.value c.requires.none c.in_ok-identity.ensures.sum c.in_ok-sum.ensures.ok c.new-moves.ensures.items c.in_ok-push.ensures.items) ∣₁

pub returns : goal.returns
returns c = record {
  n_is = c.record.ensures.qubits;
  items_are = c.record.ensures.items;
  outcome = subst (Fills c.args.n (run_of c.args.items.value)) (sym c.record.ensures.outcome)
      (empty_fills c.args.n (run_of c.args.items.value) c.new-moves.result.items c.push.new.self.items c.in_ok-identity.field-0 c.in_ok-sum.sum.value c.requires.none c.in_ok-identity.ensures.sum c.in_ok-sum.ensures.ok c.new-moves.ensures.items c.in_ok-push.ensures.items);
}

use Rattle.std.proofs.Common.{◌∙◌, sym, subst}
use Rattle.ps_reach.specs.Runs.{run_of}
use Rattle.ps_reach.specs.Fillings.{Fills}
use Rattle.ps_reach.proofs.Filling.{fills_right}
use Rattle.ps_normal.proofs.Recording.{sum_fills, over_fills}
use Rattle.ps_normal.proofs.filling.taken_record.Goals as goal

pub record-requires-clause-right : goal.record-requires-clause-right
record-requires-clause-right c = ∣ fills_right (run_of c.args.items.value)
    (sum_fills c.args.n _ (run_of c.args.items.value) c.args.moves.items c.args.taken c.in-Going-Some.field-0 c.in-Going-Some.sum c.in_ok-new-in-Going-Some.field-0.value c.in-Going-Some.is c.in-Going-Some.field-0-is (c.in_ok-new-in-Going-Some.ensures.ok ∙ c.in_ok-settled-in-Going-Some.ensures) c.requires.taken) ∣₁

pub record-requires-in-Over-clause-right : goal.record-requires-in-Over-clause-right
record-requires-in-Over-clause-right c = ∣ fills_right (run_of c.args.items.value) (over_fills c.args.n _ (run_of c.args.items.value) c.args.moves.items c.args.taken c.in-Over.evidence c.in-Over.is c.requires.taken) ∣₁

pub returns-in_ok-new-in-Going-Some : goal.returns-in_ok-new-in-Going-Some
returns-in_ok-new-in-Going-Some c = record {
  filled = record {
    n_is = c.record.ensures.qubits;
    items_are = c.record.ensures.items;
    outcome = subst (Fills c.args.n (run_of c.args.items.value)) (sym c.record.ensures.outcome)
        (sum_fills c.args.n _ (run_of c.args.items.value) c.args.moves.items c.args.taken c.in-Going-Some.field-0 c.in-Going-Some.sum c.in_ok-new-in-Going-Some.field-0.value c.in-Going-Some.is c.in-Going-Some.field-0-is (c.in_ok-new-in-Going-Some.ensures.ok ∙ c.in_ok-settled-in-Going-Some.ensures) c.requires.taken);
  };
  stopped = λ old new h. tt;
}

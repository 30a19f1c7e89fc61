use Rattle.std.proofs.Common.{refl, ◌∙◌, sym, arith}
use Rattle.ps_sum.specs.Sums.{path_values}
use Rattle.ps_prim.proofs.Overlaps.{overlap_is_inner, overlap_one, overlap_not_one}
use Rattle.ps_overlap.proofs.Made.{kept_scale, kept_bounds, no_outs_occur, no_width, no_polys}
use Rattle.ps_overlap.proofs.Overlapped.{open_values}
use Rattle.ps_overlap.proofs.PhaseOf.{makes_overlap}
use Rattle.ps_overlap.proofs.overlaps.overlap.Goals as goal

pub invariant_of-result : goal.invariant_of-result
invariant_of-result c =
    let e = c.of.ensures ∙ c.new.ensures.items in record {
      qubits = c.args.first.now.qubits;
      named = omega arith;
      scaled = kept_bounds c.overlap_scale.result _ c.overlap_scale.ensures c.requires.scaled;
      phase_below = c.in_ok-phase.ensures.variables;
      outs_below = λ v l. no_outs_occur c.of.result e v;
      width = no_width c.of.result c.args.first.now.n e;
      formed = (c.in_ok-phase.ensures.form, no_polys c.of.result e);
    }

pub returns-clause-sum : goal.returns-clause-sum
returns-clause-sum c = makes_overlap c.args.first.now c.args.second.now _ c.requires.qubits refl refl (kept_scale c.overlap_scale.result _ c.overlap_scale.ensures c.requires.scaled) (c.of.ensures ∙ c.new.ensures.items) c.in_ok-phase.ensures.value

pub returns-clause-inner : goal.returns-clause-inner
returns-clause-inner c = λ x l. overlap_is_inner c.args.first.now.n (path_values c.args.first.now) (path_values c.args.second.now) _ (returns-clause-sum c).overlaps (open_values c.args.first.now c.args.first.now.n refl c.requires.first_open) (open_values c.args.second.now c.args.first.now.n (sym c.requires.qubits) c.requires.second_open) x l

pub returns-clause-one : goal.returns-clause-one
returns-clause-one c = λ A B da db wa wb x l h. overlap_one c.args.first.now.n (path_values c.args.first.now) (path_values c.args.second.now) _ A B (returns-clause-sum c).overlaps da db wa wb x l h

pub returns-clause-not_one : goal.returns-clause-not_one
returns-clause-not_one c = λ A B da db wa wb x l h. overlap_not_one c.args.first.now.n (path_values c.args.first.now) (path_values c.args.second.now) _ A B (returns-clause-sum c).overlaps da db wa wb x l h

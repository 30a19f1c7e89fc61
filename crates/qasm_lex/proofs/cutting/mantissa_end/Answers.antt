use Rattle.std.proofs.Common.{◌+◌, arith, sym, ◌∙◌}
use Rattle.qasm_lex.proofs.Longest.{mantissa_whole, mantissa_point, mantissa_front, begins_front, front_run}
use Rattle.qasm_lex.proofs.cutting.mantissa_end.Goals as goal

pub returns-then-digits-at : goal.returns-then-digits-at
returns-then-digits-at c = let p = begins_front c.args.bytes.now c.args.at c.requires.begins c.run_end-digits.result c.run_end-digits.ensures c.if-digits-at.true in mantissa_front c.args.bytes.now c.args.at c.run_end.result p.0 (front_run c.args.bytes.now (c.args.at + 1) c.run_end.result c.run_end.ensures p.1) c.run_end.ensures

pub returns-then-byte_at-eq46 : goal.returns-then-byte_at-eq46
returns-then-byte_at-eq46 c = let low = c.run_end-digits.ensures.run.ordered in mantissa_point c.args.bytes.now c.args.at c.run_end-digits.result c.run_end-then-byte_at-eq46.result (omega arith) c.run_end-digits.ensures (sym c.byte_at.ensures.value ∙ c.if-byte_at-eq46.true) c.run_end-then-byte_at-eq46.ensures

pub returns : goal.returns
returns c = let low = c.run_end-digits.ensures.run.ordered in mantissa_whole c.args.bytes.now c.args.at c.run_end-digits.result (omega arith) c.run_end-digits.ensures (λ e. let q = c.byte_at.ensures.value ∙ e in absurd (omega arith))

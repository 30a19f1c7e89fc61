use Rattle.std.proofs.Common.{◌≡◌, ◌-◌, ◌++◌, arith, sym, ◌∙◌, ap}
use Rattle.qasm_parse.specs.Formulas.{ids, id_at}
use Rattle.qasm_parse.specs.Grammar.{at}
use Rattle.qasm_parse.specs.Phrases.{span_of}
use Rattle.qasm_parse.proofs.Counting.{ids_none, ids_next}
use Rattle.qasm_parse.proofs.formulas.identifiers.Goals as goal

pub loop-at-init : goal.loop-at-init
loop-at-init c = record { bound = omega arith; listed = c.new-out.ensures.items ∙ sym (ids_none c.args.tokens.now c.args.sorts.now c.args.from (c.args.from - c.args.from) (omega arith)) }

pub loop-at-preserved : goal.loop-at-preserved
loop-at-preserved c =
    let k = c.loop-at.at in let tk = c.args.tokens.now in let ts = c.args.sorts.now in
    record { bound = omega arith; listed = c.in_ok-push_id.ensures ∙ ap (λ xs. xs ++ id_at (at ts k) (span_of tk k)) c.loop-at.invariant.listed ∙ sym (ids_next tk ts c.args.from k (omega arith)) }

pub returns : goal.returns
returns c = let b = c.loop-at.invariant.bound in c.loop-at.invariant.listed ∙ ap (ids c.args.tokens.now c.args.sorts.now c.args.from) (let e : c.loop-at.at - c.args.from ≡ c.args.to - c.args.from = omega arith in e)

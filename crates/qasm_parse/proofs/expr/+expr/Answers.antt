use Rattle.std.proofs.Common.{◌≡◌, ◌+◌, ◌-◌, ◌<◌, arith, [], ◌∷◌, ◌++◌, length, sym, ◌∙◌, ap, subst, append-nil, take}
use Rattle.std.proofs.lemmas.Result.{err_from_is_err_and}
use Rattle.qasm_parse.specs.declared.sort.Mark.TheVariants.{Neg, Pow, Func}
use Rattle.qasm_parse.specs.declared.sort.Level.TheVariants.{Sums}
use Rattle.qasm_parse.specs.Grammar.{Reads, done, bad, front, sign_of, leaf_of, chain, signed, power, atom, operand, chained, chained_bad, more, more_bad, stop, negated, negated_deep, unsigned, based, based_bad, raised, raised_deep, leaf, grouped, grouped_open, grouped_bad, grouped_deep, called, called_open, called_bad, called_short, called_deep, wrong}
use Rattle.qasm_parse.proofs.Answering.{same_found, passed, one_behind, two_behind, front_front, none_past, cut_back}
use Rattle.qasm_parse.proofs.expr.+expr.Goals as goal
use Rattle.qasm_parse.proofs.expr.+expr.Goals.{atom-then-at-sorts+in_default, atom-else-at-sorts}

-- signed

pub signed-returns-then-room-eq0-clause-reads : goal.signed-returns-then-room-eq0-clause-reads
signed-returns-then-room-eq0-clause-reads t c = negated_deep (sym c.in-Minus.ensures.value) (omega arith)

pub signed-returns-in_err-to-clause-reads : goal.signed-returns-in_err-to-clause-reads
signed-returns-in_err-to-clause-reads t c =
    let low : 0 < c.args.room = omega arith in
    passed c.args.sorts.now signed signed c.args.room c.args.at (c.args.room - 1) (c.args.at + 1) c.args.ops.now.items c.negated.new.ops.items c.args.ops.now.items c.negated.new.ops.items c.in_err-to.field-0.0 c.from_residual.result
    (err_from_is_err_and c.from_residual.result c.from_residual.ensures.1)
    (λ f h. negated (sym c.in-Minus.ensures.value) low h) c.in_err-to.ensures.reads

pub signed-returns-in-Minus-clause-reads : goal.signed-returns-in-Minus-clause-reads
signed-returns-in-Minus-clause-reads t c =
    let h = c.in_ok-to.ensures.reads in
    (h.0 ++ (Neg ∷ []), one_behind c.args.ops.now.items c.negated.new.ops.items c.push.new.self.items h.0 Neg h.1 c.in_ok-push.ensures.items, negated (sym c.in-Minus.ensures.value) (omega arith) h.2)

pub signed-returns : goal.signed-returns
signed-returns t c = record {
  reads = same_found c.args.sorts.now signed power c.args.room c.args.at c.args.ops.now.items c.power.new.ops.items c.power.result (λ x h. unsigned (λ e. c.in_default.not-Minus (c.sort_at.ensures.value ∙ e)) h) c.power.ensures.reads;
  goes_on = c.power.ensures.goes_on;
}

-- power

pub power-returns-in_err-middle-clause-reads : goal.power-returns-in_err-middle-clause-reads
power-returns-in_err-middle-clause-reads t c =
    passed c.args.sorts.now power atom c.args.room c.args.at c.args.room c.args.at c.args.ops.now.items c.atom.new.ops.items c.args.ops.now.items c.atom.new.ops.items c.in_err-middle.field-0.0 c.from_residual.result
    (err_from_is_err_and c.from_residual.result c.from_residual.ensures.1)
    (λ f h. based_bad h) c.in_err-middle.ensures.reads

pub power-returns-then-room-eq0-clause-reads : goal.power-returns-then-room-eq0-clause-reads
power-returns-then-room-eq0-clause-reads t c = raised_deep c.in_ok-middle.ensures.reads.2 (sym c.in-Power.ensures.value) (omega arith)

pub power-returns-in_err-to-clause-reads : goal.power-returns-in_err-to-clause-reads
power-returns-in_err-to-clause-reads t c =
    let low : 0 < c.args.room = omega arith in
    passed c.args.sorts.now power signed c.args.room c.args.at (c.args.room - 1) (c.in_ok-middle.middle + 1) c.args.ops.now.items c.exponent.new.ops.items c.atom.new.ops.items c.exponent.new.ops.items c.in_err-to.field-0.0 c.from_residual-in_err-to.result
    (err_from_is_err_and c.from_residual-in_err-to.result c.from_residual-in_err-to.ensures.1)
    (λ f h. raised c.in_ok-middle.ensures.reads.2 (sym c.in-Power.ensures.value) low h) c.in_err-to.ensures.reads

pub power-returns-in-Power-clause-reads : goal.power-returns-in-Power-clause-reads
power-returns-in-Power-clause-reads t c =
    let g = c.in_ok-middle.ensures.reads in
    let h = c.in_ok-to.ensures.reads in
    (g.0 ++ (h.0 ++ (Pow ∷ [])), two_behind c.args.ops.now.items c.atom.new.ops.items c.exponent.new.ops.items c.push.new.self.items g.0 h.0 Pow g.1 h.1 c.in_ok-push.ensures.items, raised g.2 (sym c.in-Power.ensures.value) (omega arith) h.2)

pub power-returns : goal.power-returns
power-returns t c =
    let g = c.in_ok-middle.ensures.reads in
    record { reads = (g.0, g.1, based g.2 (λ e. c.in_default.not-Power (c.sort_at.ensures.value ∙ e))); goes_on = c.in_ok-middle.ensures.goes_on }

-- group

pub group-returns-then-room-eq0-clause-reads : goal.group-returns-then-room-eq0-clause-reads
group-returns-then-room-eq0-clause-reads t c = grouped_deep c.requires.begins (omega arith)

pub group-returns-in_err-to-clause-reads : goal.group-returns-in_err-to-clause-reads
group-returns-in_err-to-clause-reads t c =
    let low : 0 < c.args.room = omega arith in
    passed c.args.sorts.now atom (chain Sums) c.args.room c.args.at (c.args.room - 1) (c.args.at + 1) c.args.ops.now.items c.chain.new.ops.items c.args.ops.now.items c.chain.new.ops.items c.in_err-to.field-0.0 c.from_residual.result
    (err_from_is_err_and c.from_residual.result c.from_residual.ensures.1)
    (λ f h. grouped_bad c.requires.begins low h) c.in_err-to.ensures.reads

pub group-returns-in-Close-clause-reads : goal.group-returns-in-Close-clause-reads
group-returns-in-Close-clause-reads t c =
    let h = c.in_ok-to.ensures.reads in
    (h.0, h.1, grouped c.requires.begins (omega arith) h.2 (sym c.in-Close.ensures.value))

pub group-returns-in_default : goal.group-returns-in_default
group-returns-in_default t c =
    let h = c.in_ok-to.ensures.reads in
    record { reads = grouped_open c.requires.begins (omega arith) h.2 (λ e. c.in_default.not-Close (c.sort_at.ensures.value ∙ e)); goes_on = tt }

-- call

pub call-returns-then-room-eq0-clause-reads : goal.call-returns-then-room-eq0-clause-reads
call-returns-then-room-eq0-clause-reads t c = called_deep c.requires.begins (omega arith)

pub call-returns-in_default : goal.call-returns-in_default
call-returns-in_default t c = record { reads = called_short c.requires.begins (omega arith) (λ e. c.in_default.not-Open (c.sort_at.ensures.value ∙ e)); goes_on = tt }

pub call-returns-in_err-to-clause-reads : goal.call-returns-in_err-to-clause-reads
call-returns-in_err-to-clause-reads t c =
    let low : 0 < c.args.room = omega arith in
    passed c.args.sorts.now atom (chain Sums) c.args.room c.args.at (c.args.room - 1) (c.args.at + 2) c.args.ops.now.items c.chain.new.ops.items c.args.ops.now.items c.chain.new.ops.items c.in_err-to.field-0.0 c.from_residual.result
    (err_from_is_err_and c.from_residual.result c.from_residual.ensures.1)
    (λ f h. called_bad c.requires.begins low (sym c.in-Open.ensures.value) h) c.in_err-to.ensures.reads

pub call-returns-in_default-sort_at : goal.call-returns-in_default-sort_at
call-returns-in_default-sort_at t c =
    let h = c.in_ok-to.ensures.reads in
    record { reads = called_open c.requires.begins (omega arith) (sym c.in-Open.ensures.value) h.2 (λ e. c.in_default-sort_at.not-Close (c.sort_at-2.ensures.value ∙ e)); goes_on = tt }

pub call-returns-clause-reads : goal.call-returns-clause-reads
call-returns-clause-reads t c =
    let h = c.in_ok-to.ensures.reads in
    (Func ∷ [], cut_back c.args.ops.now.items c.chain.new.ops.items c.truncate.new.self.items c.push.new.self.items h.0 Func h.1 (c.truncate.ensures.items ∙ ap (λ n. take n c.chain.new.ops.items) (c.len-length.ensures ∙ (let z : c.args.ops.now.len ≡ length c.args.ops.now.items = omega (arith, c.args.ops.now.ok) in z))) c.in_ok-push.ensures.items, called c.requires.begins (omega arith) (sym c.in-Open.ensures.value) h.2 (sym c.in-Close.ensures.value))

-- atom

pub atom-returns-in-Some-clause-reads : goal.atom-returns-in-Some-clause-reads
atom-returns-in-Some-clause-reads t c = (c.in-Some.op ∷ [], c.in_ok-push.ensures.items, leaf (sym (c.in-Some.ensures ∙ ap (λ s. leaf_of s c.args.at) c.sort_at-first.ensures.value)))

pub atom-returns-in_default-first : goal.atom-returns-in_default-first
atom-returns-in_default-first t c = record {
  reads = wrong (elim c.if-at-sorts.branch [ atom-then-at-sorts+in_default w ↦ ap (λ s. leaf_of s c.args.at) (sym c.sort_at-first.ensures.value) ∙ sym w.simple.ensures ∙ w.in_default.is | atom-else-at-sorts w ↦ none_past c.args.sorts.now c.args.at (omega arith) ]) (λ e. c.in_default-first.not-Open (c.sort_at-first.ensures.value ∙ e)) (λ e. c.in_default-first.not-Function (c.sort_at-first.ensures.value ∙ e));
  goes_on = tt;
}

-- chain

pub chain-returns-in_err-to-clause-reads : goal.chain-returns-in_err-to-clause-reads
chain-returns-in_err-to-clause-reads t c =
    passed c.args.sorts.now (chain c.args.level) (operand c.args.level) c.args.room c.args.at c.args.room c.args.at c.args.ops.now.items c.operand.new.ops.items c.args.ops.now.items c.operand.new.ops.items c.in_err-to.field-0.0 c.from_residual.result
    (err_from_is_err_and c.from_residual.result c.from_residual.ensures.1)
    (λ f h. chained_bad h) c.in_err-to.ensures.reads

pub chain-loop-op-init : goal.chain-loop-op-init
chain-loop-op-init t c =
    let h = c.in_ok-to.ensures.reads in
    record { ordered = c.in_ok-to.ensures.goes_on.0; within = c.in_ok-to.ensures.goes_on.1; rest = (h.0, h.1, λ r k. chained h.2 k) }

pub chain-returns-in_err-to-2-clause-reads : goal.chain-returns-in_err-to-2-clause-reads
chain-returns-in_err-to-2-clause-reads t c =
    passed c.args.sorts.now (chain c.args.level) (operand c.args.level) c.args.room c.args.at c.args.room (c.loop-op.to + 1) c.args.ops.now.items c.operand-in-Some.new.ops.items c.loop-op.ops.items c.operand-in-Some.new.ops.items c.in_err-to-2.field-0.0 c.from_residual-in_err-to-2.result
    (err_from_is_err_and c.from_residual-in_err-to-2.result c.from_residual-in_err-to-2.ensures.1)
    (λ f h. c.loop-op.invariant.rest.2 (bad f) (more_bad (sym (c.in-Some.ensures ∙ ap (sign_of c.args.level) c.sort_at.ensures.value)) h)) c.in_err-to-2.ensures.reads

pub chain-loop-op-preserved : goal.chain-loop-op-preserved
chain-loop-op-preserved t c =
    let k = c.loop-op.invariant.rest in
    let h = c.in_ok-to-2.ensures.reads in
    let op = c.in-Some.op in
    let on = c.in_ok-to-2.ensures.goes_on in
    let before = c.loop-op.invariant.ordered in
    record {
      ordered = omega arith;
      within = on.1;
      rest = (
        k.0 ++ (h.0 ++ (op ∷ [])),
        two_behind c.args.ops.now.items c.loop-op.ops.items c.operand-in-Some.new.ops.items c.push.new.self.items k.0 h.0 op k.1 h.1 c.in_ok-push.ensures.items,
        λ r m. subst (λ x. Reads c.args.sorts.now (chain c.args.level) c.args.room c.args.at x) (front_front k.0 (h.0 ++ (op ∷ [])) r)
            (k.2 (front (h.0 ++ (op ∷ [])) r) (more (sym (c.in-Some.ensures ∙ ap (sign_of c.args.level) c.sort_at.ensures.value)) h.2 m)),
      );
    }

pub chain-returns-clause-reads : goal.chain-returns-clause-reads
chain-returns-clause-reads t c =
    let k = c.loop-op.invariant.rest in
    (k.0 ++ [], k.1 ∙ ap (λ x. c.args.ops.now.items ++ x) (sym (append-nil k.0)), k.2 (done [] c.loop-op.to) (stop (ap (sign_of c.args.level) (sym c.sort_at.ensures.value) ∙ sym c.operation.ensures ∙ c.in_default.is)))

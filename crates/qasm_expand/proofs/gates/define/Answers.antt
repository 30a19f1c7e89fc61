use Rattle.std.proofs.Common.{◌≡◌, ◌+◌, ◌∷◌, [], ◌∙◌, ap, sym, subst, true, List, length, length-append, arith}
use Rattle.qasm_expand.specs.declared.defs.Def.{Def}
use Rattle.qasm_expand.specs.Tables.{Bound, defs_sound, bound_sound}
use Rattle.qasm_expand.proofs.Soundness.{def_is_sound, defs_more, bound_more, rebound_sound}
use Rattle.qasm_expand.proofs.gates.define.Goals as goal

pub returns-clause-gates : goal.returns-clause-gates
returns-clause-gates c =
    subst (λ (ds : List Def). defs_sound ds ≡ true) (sym c.in_ok-push.ensures) (defs_more c.args.defs.now c.in_ok-def.def c.requires.gates
    (def_is_sound c.args.bytes.now c.args.defs.now c.args.bound.now c.args.params.now c.args.args.now c.args.body.now c.in_ok-def.def c.requires.names c.requires.body (sym c.in_ok-def.ensures)))

pub returns-clause-names : goal.returns-clause-names
returns-clause-names c =
    let l : length c.push.new.self ≡ length c.args.defs.now + 1 = ap length c.in_ok-push.ensures ∙ length-append c.args.defs.now (c.in_ok-def.def ∷ []) in
    let n : c.in_ok-number.number ≡ length c.args.defs.now = c.in_ok-number.ensures ∙ ap length c.as_slice.ensures in
    subst (λ (b : List Bound). bound_sound (length c.push.new.self) b ≡ true) (sym c.in_ok-rebind.ensures.bound)
    (rebound_sound (length c.push.new.self) c.args.bound.now c.spelled.result.now c.in_ok-number.number (bound_more (length c.args.defs.now) (length c.push.new.self) c.args.bound.now (omega (arith, l)) c.requires.names) (omega (arith, l, n)))

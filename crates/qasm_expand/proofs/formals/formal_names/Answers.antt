use Rattle.std.proofs.Common.{◌≡◌, ◌+◌, ◌++◌, ◌∷◌, [], ◌∙◌, ap, sym, drop, get_or, Ok, Err, true, false, append-nil, drop_of_length-le}
use Rattle.std.specs.Option.{is_none}
use Rattle.qasm_expand.specs.declared.fault.FaultName.TheVariants.{Redeclared}
use Rattle.qasm_expand.specs.Checks.{spelled, unless}
use Rattle.qasm_expand.specs.Gates.{place_of, first_again, names}
use Rattle.qasm_expand.proofs.Stepping.{known_fault, dropped, again_found, again_next, again_end, names_next}
use Rattle.qasm_expand.proofs.formals.formal_names.Goals as goal

pub returns-then-not-branch : goal.returns-then-not-branch
returns-then-not-branch c =
    let bytes = c.args.bytes.now in let spans = c.args.spans.now in let i = c.loop-i.i in let out = c.loop-i.out in
    let p = get_or spans i (record { from = 0; to = 0 }) in
    let n : is_none (place_of out (spelled bytes p)) ≡ false = ap (λ x. is_none (place_of out x)) (sym c.spelled.ensures) ∙ sym c.in_ok-push.ensures.told ∙ c.if-not-branch.true in
    known_fault c.fault.result (λ r. r ≡ unless Redeclared (first_again bytes [] spans) (Ok (names bytes spans))) (ap Err c.fault.ensures ∙ ap (λ o. unless Redeclared o (Ok (names bytes spans))) (sym (again_found bytes out p (drop i spans) (drop (i + 1) spans) (first_again bytes [] spans) (dropped spans i _ c.loop-i-test.true) n c.loop-i.invariant.apart)))

pub loop-i-preserved : goal.loop-i-preserved
loop-i-preserved c =
    let bytes = c.args.bytes.now in let spans = c.args.spans.now in let i = c.loop-i.i in let out = c.loop-i.out in
    let p = get_or spans i (record { from = 0; to = 0 }) in let rest = drop (i + 1) spans in
    let n : is_none (place_of out (spelled bytes p)) ≡ true = ap (λ x. is_none (place_of out x)) (sym c.spelled.ensures) ∙ sym c.in_ok-push.ensures.told ∙ c.if-not-branch.false in
    let q : c.push.new.self ≡ out ++ spelled bytes p ∷ [] = c.in_ok-push.ensures.pushed c.if-not-branch.false ∙ ap (λ x. out ++ x ∷ []) c.spelled.ensures in
    let s = dropped spans i (record { from = 0; to = 0 }) c.loop-i-test.true in
    record {
      named = names_next bytes out p (drop i spans) rest (names bytes spans) s c.loop-i.invariant.named ∙ ap (λ x. x ++ names bytes rest) (sym q);
      apart = again_next bytes out p (drop i spans) rest (first_again bytes [] spans) s n c.loop-i.invariant.apart ∙ ap (λ x. first_again bytes x rest) (sym q);
    }

pub returns : goal.returns
returns c =
    let bytes = c.args.bytes.now in let spans = c.args.spans.now in let i = c.loop-i.i in let out = c.loop-i.out in
    let z : drop i spans ≡ [] = drop_of_length-le spans c.loop-i-test.false in
    let a = again_end bytes out (drop i spans) (first_again bytes [] spans) z c.loop-i.invariant.apart in
    ap Ok (sym (c.loop-i.invariant.named ∙ ap (λ l. out ++ names bytes l) z ∙ append-nil out)) ∙ ap (λ o. unless Redeclared o (Ok (names bytes spans))) (sym a)

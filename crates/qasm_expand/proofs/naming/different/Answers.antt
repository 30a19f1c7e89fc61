use Rattle.std.proofs.Common.{◌≡◌, ◌+◌, ◌<◌, ◌∷◌, length, refl, subst, sym, ap, ◌∙◌, [], List, ℕ, drop, get_or, Ok, Err, None, true, false, arith, nat_eq, drop_of_length-le}
use Rattle.std.specs.List.{list_any}
use Rattle.qasm_expand.specs.declared.fault.FaultName.TheVariants.{RepeatedQubit}
use Rattle.qasm_expand.specs.Checks.{unless}
use Rattle.qasm_expand.specs.Gates.{first_repeated, arg_names}
use Rattle.qasm_expand.proofs.Stepping.{Seen, seen_none, seen_more, repeated_found, repeated_next, repeated_end, known_fault, dropped, not_false, not_true}
use Rattle.qasm_expand.proofs.naming.different.Goals as goal

pub loop-i-init : goal.loop-i-init
loop-i-init c = ([], subst (λ (ks : List ℕ). Seen [] ks) (sym c.new-seen.ensures.empty) seen_none, refl)

pub returns-then-not-branch : goal.returns-then-not-branch
returns-then-not-branch c =
    let places = c.args.places.now in let args = c.args.args.now in let i = c.loop-i.i in let keys = c.loop-i.seen.keys in let v = c.loop-i.invariant in
    let q = get_or places i 0 in let a = get_or args i (record { name = record { from = 0; to = 0 }; index = None }) in
    let t : list_any (nat_eq q) keys ≡ true = not_false _ (sym c.in_ok-insert.ensures.added ∙ c.if-not-branch.true) in
    let h : i < length args = omega (arith, c.requires, c.loop-i-test.true) in
    known_fault c.fault.result (λ r. r ≡ unless RepeatedQubit (first_repeated [] places (arg_names args)) (Ok tt)) (ap Err c.fault.ensures ∙ ap (λ o. unless RepeatedQubit o (Ok tt)) (sym (repeated_found v.0 keys q a.name (drop i places) (drop (i + 1) places) (arg_names (drop i args)) (arg_names (drop (i + 1) args)) (first_repeated [] places (arg_names args)) v.1 t (dropped places i 0 c.loop-i-test.true) (ap arg_names (dropped args i _ h)) v.2)))

pub loop-i-preserved : goal.loop-i-preserved
loop-i-preserved c =
    let places = c.args.places.now in let args = c.args.args.now in let i = c.loop-i.i in let keys = c.loop-i.seen.keys in let v = c.loop-i.invariant in
    let q = get_or places i 0 in let a = get_or args i (record { name = record { from = 0; to = 0 }; index = None }) in
    let n : list_any (nat_eq q) keys ≡ false = not_true _ (sym c.in_ok-insert.ensures.added ∙ c.if-not-branch.false) in
    let h : i < length args = omega (arith, c.requires, c.loop-i-test.true) in (
      q ∷ v.0,
      subst (λ (ks : List ℕ). Seen (q ∷ v.0) ks) (sym c.in_ok-insert.ensures.keys) (seen_more v.0 keys q v.1 n),
      repeated_next v.0 keys q a.name (drop i places) (drop (i + 1) places) (arg_names (drop i args)) (arg_names (drop (i + 1) args)) (first_repeated [] places (arg_names args)) v.1 n (dropped places i 0 c.loop-i-test.true) (ap arg_names (dropped args i _ h)) v.2,
    )

pub returns : goal.returns
returns c =
    let places = c.args.places.now in let args = c.args.args.now in let i = c.loop-i.i in let v = c.loop-i.invariant in
    ap (λ o. unless RepeatedQubit o (Ok tt)) (sym (repeated_end v.0 (drop i places) (arg_names (drop i args)) (first_repeated [] places (arg_names args)) (drop_of_length-le places c.loop-i-test.false) v.2))

use Rattle.std.proofs.Common.{◌≡◌, ◌∙◌, sym, subst, true, false, ◌+◌, Bool, None}
use Rattle.std.proofs.lemmas.Result.{IfOk-weaker}
use Rattle.ps_probe.specs.Searching.{Searched}
use Rattle.ps_probe.proofs.Searches.{all_there, other_there, fixed_searched, low_some, free_searched}
use Rattle.ps_probe.proofs.Halves.{half_some_in, half_searched}
use Rattle.ps_probe.proofs.searching.+first_other.Goals as goal
use Rattle.ps_probe.proofs.searching.+first_other.Goals.{then-is_one, else-is_one}

pub returns-then-from-sum : goal.returns-then-from-sum
returns-then-from-sum t c = elim c.if-is_one.branch [
  | then-is_one w ↦ subst (Searched c.args.pattern.now c.args.sum.now c.args.at c.args.from) (sym w.result-is) (all_there c.args.pattern.now c.args.sum.now c.args.at c.args.from c.if-from-sum.true (c.in_ok-is_one.ensures.0 w.if-is_one.true))
  | else-is_one w ↦ subst (Searched c.args.pattern.now c.args.sum.now c.args.at c.args.from) (sym w.result-is) (other_there c.args.pattern.now c.args.sum.now c.args.at c.of_bits-known.result c.args.from c.requires.inputs c.if-from-sum.true c.of_bits-known.ensures.value c.of_bits-known.ensures.form
      (λ o. clash (c.in_ok-is_one.ensures.1 o) w.if-is_one.false) c.requires.begun)
]
  where
    clash : {b : Bool} → b ≡ true → b ≡ false → ⊥
    clash e f = cc

pub returns-then-is_fixed : goal.returns-then-is_fixed
returns-then-is_fixed t c = IfOk-weaker c.first_other.result _ _ (λ o h. fixed_searched c.args.pattern.now c.args.sum.now c.set.new.self c.args.at c.args.from c.is_one.result o c.set.ensures.values (sym c.is_fixed.ensures ∙ c.if-is_fixed.true) c.is_one.ensures h) c.first_other.ensures

pub returns-in-Some : goal.returns-in-Some
returns-in-Some t c =
    low_some c.args.pattern.now c.args.sum.now c.set-2.new.self c.args.at c.in-Some.found c.args.from c.set-2.ensures.values
    (half_some_in c.args.pattern.now c.args.sum.now c.in_ok-low.low c.args.from false c.set-2.new.self c.args.at c.in-Some.found c.in_ok-low.ensures c.set-2.ensures.values
    (subst (Searched c.args.pattern.now c.in_ok-low.low c.set-2.new.self (c.args.from + 1)) c.in-Some.is c.in_ok-found.ensures))

pub returns : goal.returns
returns t c =
    IfOk-weaker c.first_other-in-None.result _ _
    (λ o h.
    free_searched c.args.pattern.now c.args.sum.now c.set-2.new.self c.set-in-None.new.self c.args.at c.args.from o c.set-2.ensures.values c.set-in-None.ensures.values
    (half_searched c.args.pattern.now c.args.sum.now c.in_ok-low.low c.args.from false c.set-2.new.self c.args.at None c.in_ok-low.ensures c.set-2.ensures.values
    (subst (Searched c.args.pattern.now c.in_ok-low.low c.set-2.new.self (c.args.from + 1)) c.in-None.is c.in_ok-found.ensures))
    (half_searched c.args.pattern.now c.args.sum.now c.in_ok-high-in-None.high c.args.from true c.set-in-None.new.self c.set-2.new.self o c.in_ok-high-in-None.ensures c.set-in-None.ensures.values h))
    c.first_other-in-None.ensures

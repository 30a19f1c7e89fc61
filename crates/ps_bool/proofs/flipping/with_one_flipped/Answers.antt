use Rattle.std.proofs.Common.{◌∙◌, ◌≡◌, ◌<◌, length, true, false, sym, rules}
use Rattle.ps_bool.specs.Flips.{has_one}
use Rattle.ps_bool.proofs.Flips.{taken_out, put_in, one_inside}
use Rattle.ps_bool.proofs.flipping.with_one_flipped.Goals as goal

pub remove-requires : goal.remove-requires
remove-requires c =
    let one : has_one c.args.monos.items ≡ true = rw (← c.deref.ensures.value) (sym c.begins_with_one.ensures ∙ c.if-begins_with_one.true) in
    let some : 0 < length c.args.monos.items = one_inside _ one in
    search rules

pub returns-then-begins_with_one : goal.returns-then-begins_with_one
returns-then-begins_with_one c =
    let one : has_one c.args.monos.items ≡ true = rw (← c.deref.ensures.value) (sym c.begins_with_one.ensures ∙ c.if-begins_with_one.true) in
    c.remove.ensures.items ∙ taken_out _ one

pub returns : goal.returns
returns c =
    let none : has_one c.args.monos.items ≡ false = rw (← c.deref.ensures.value) (sym c.begins_with_one.ensures ∙ c.if-begins_with_one.false) in
    c.in_ok-insert.ensures.items ∙ rw (c.one.ensures) (put_in _ none)

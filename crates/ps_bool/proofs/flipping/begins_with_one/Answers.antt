use Rattle.std.proofs.Common.{◌≡◌, ◌<◌, length, rules}
use Rattle.ps_bool.proofs.Flips.{none_first, first_one}
use Rattle.ps_bool.proofs.flipping.begins_with_one.Goals as goal

pub returns-then-is_empty : goal.returns-then-is_empty
returns-then-is_empty c =
    let none : length c.args.monos.now ≡ 0 = search rules in
    none_first _ none

pub returns : goal.returns
returns c =
    let some : 0 < length c.args.monos.now = search rules in
    rw (c.degree.ensures) (first_one _ _ some c.index-monos-0.is)

use Rattle.std.proofs.Common.{◌-◌, ◌<◌, refl, sym, length}
use Rattle.std.proofs.lemmas.Grind.{get_or_default_zero}
use Rattle.pathsum.proofs.Splitting.{begins_decide, above_zero}
use Rattle.pathsum.proofs.splits.begins_line.Goals as goal

pub returns-else-at-eq0 : goal.returns-else-at-eq0
returns-else-at-eq0 c =
    let l : c.args.at - 1 < length c.args.bytes.now = above_zero c.args.at (length c.args.bytes.now) c.if-at-eq0.false c.requires in
    begins_decide c.args.bytes.now c.args.at _ _ c.if-at-eq0.false c.requires (sym (get_or_default_zero c.args.bytes.now (c.args.at - 1) _ l)) refl

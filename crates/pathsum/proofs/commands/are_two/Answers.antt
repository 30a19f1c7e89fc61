use Rattle.std.proofs.Common.{refl}
use Rattle.std.specs.Prelude.{string_bytes}
use Rattle.pathsum.proofs.Judging.{two_decide, first_other, other_decides, other_count}
use Rattle.pathsum.proofs.commands.are_two.Goals as goal

pub returns-then-words-ne2 : goal.returns-then-words-ne2
returns-then-words-ne2 c = other_decides _ _ _ _ refl (other_count string_bytes c.args.words.now c.args.first.now c.args.second.now c.if-words-ne2.true)

pub returns-then-eq : goal.returns-then-eq
returns-then-eq c = two_decide string_bytes c.args.words.now _ _ c.args.first.now c.args.second.now _ _ _ _ c.if-words-ne2.false c.index-words-0.is c.index-words-1.is c.as_str.ensures.value c.as_str-then-eq.ensures.value c.eq.ensures c.if-eq.true c.eq-then-eq.ensures

pub returns-else-eq : goal.returns-else-eq
returns-else-eq c = other_decides _ _ _ _ c.if-eq.false (first_other string_bytes c.args.words.now _ c.args.first.now c.args.second.now _ _ c.index-words-0.is c.as_str.ensures.value c.eq.ensures c.if-eq.false)

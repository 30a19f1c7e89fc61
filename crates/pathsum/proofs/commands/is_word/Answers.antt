use Rattle.std.specs.Prelude.{string_bytes}
use Rattle.pathsum.proofs.Judging.{one_decides}
use Rattle.pathsum.proofs.commands.is_word.Goals as goal

pub returns-then-words-eq1 : goal.returns-then-words-eq1
returns-then-words-eq1 c =
    one_decides string_bytes _ _ c.args.word.now _ _ c.if-words-eq1.true c.index-words-0.is c.as_str.ensures.value c.eq.ensures

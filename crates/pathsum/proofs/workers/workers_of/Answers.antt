use Rattle.std.proofs.Common.{◌≡◌, length, arith}
use Rattle.std.specs.Prelude.{string_bytes}
use Rattle.pathsum.proofs.GenerationLemmas.{same_word}
use Rattle.pathsum.proofs.WorkerWords.{asks_to_run, too_many}
use Rattle.pathsum.proofs.workers.workers_of.Goals as goal

pub returns-then-workers-gt-MOST : goal.returns-then-workers-gt-MOST
returns-then-workers-gt-MOST c =
    let two : length c.args.words.now ≡ 2 = omega arith in
    let w = asks_to_run string_bytes c.args.words.now _ _ c.as_str.result.now c.as_str-2.result.now _ two c.word-item.is c.workers-item.is c.as_str.ensures.value
    c.as_str-2.ensures.value (same_word _ _ c.ne.result c.ne.ensures c.if-ne.false) c.in_ok-workers.ensures in
    λ n r. too_many _ _ n w (omega (arith, c.if-workers-gt-MOST.true)) r

pub returns : goal.returns
returns c =
    let two : length c.args.words.now ≡ 2 = omega arith in
    let w = asks_to_run string_bytes c.args.words.now _ _ c.as_str.result.now c.as_str-2.result.now _ two c.word-item.is c.workers-item.is c.as_str.ensures.value
    c.as_str-2.ensures.value (same_word _ _ c.ne.result c.ne.ensures c.if-ne.false) c.in_ok-workers.ensures in
    record { words_are = w.words_are; few = omega (arith, c.if-workers-gt-MOST.false) }

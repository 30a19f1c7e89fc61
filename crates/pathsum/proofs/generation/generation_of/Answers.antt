use Rattle.std.proofs.Common.{◌≡◌, length, arith}
use Rattle.std.specs.Prelude.{string_bytes}
use Rattle.pathsum.proofs.GenerationLemmas.{clash, same_word, are_numbers, are_generation, out_of_bounds}
use Rattle.pathsum.proofs.generation.generation_of.Goals as goal

pub returns-then-not-is_within : goal.returns-then-not-is_within
returns-then-not-is_within c =
    let four : length c.args.words.now ≡ 4 = omega arith in
    let numbers = are_numbers string_bytes c.args.words.now _ _ _ _ c.as_str.result.now c.as_str-2.result.now c.as_str-3.result.now c.as_str-4.result.now _ _ _ four c.word-item.is c.seed-item.is
    c.qubits-item.is c.items-item.is c.as_str.ensures.value c.as_str-2.ensures.value c.as_str-3.ensures.value c.as_str-4.ensures.value (same_word _ _ c.ne.result c.ne.ensures c.if-ne.false)
    c.in_ok-seed.ensures c.in_ok-qubits.ensures c.in_ok-items.ensures in
    λ s q n g. out_of_bounds _ _ _ _ s q n numbers (λ w. clash c.if-not-is_within.true (c.is_within.ensures.1 w)) g

pub returns : goal.returns
returns c =
    let four : length c.args.words.now ≡ 4 = omega arith in
    let numbers = are_numbers string_bytes c.args.words.now _ _ _ _ c.as_str.result.now c.as_str-2.result.now c.as_str-3.result.now c.as_str-4.result.now _ _ _ four c.word-item.is c.seed-item.is
    c.qubits-item.is c.items-item.is c.as_str.ensures.value c.as_str-2.ensures.value c.as_str-3.ensures.value c.as_str-4.ensures.value (same_word _ _ c.ne.result c.ne.ensures c.if-ne.false)
    c.in_ok-seed.ensures c.in_ok-qubits.ensures c.in_ok-items.ensures in
    are_generation _ _ _ _ numbers (c.is_within.ensures.0 c.if-not-is_within.false)

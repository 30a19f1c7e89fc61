use Rattle.std.proofs.Common.{◌≡◌, ◌+◌, ◌-◌, ◌<◌, [], ◌∷◌, ◌++◌, length, take, drop, replicate, sym, ap, ◌∙◌, subst, arith}
use Rattle.std.specs.Prelude.{slice_index_or}
use Rattle.std.proofs.lemmas.List.{take_more, take_more_set, drop-set-lt, drop-drop, drop-replicate, length-set}
use Rattle.std.proofs.Math.Seq.{take-length}
use Rattle.ps_script.specs.Names.{is_name}
use Rattle.ps_script.proofs.name.Name.of.Goals as goal

pub loop-i-preserved : goal.loop-i-preserved
loop-i-preserved c =
    let i = c.loop-i.i in
    let held = c.loop-i.held in
    let bytes = c.args.bytes.now in
    let inv = c.loop-i.invariant in
    let y = slice_index_or bytes i 0 in
    let near : i < length bytes = c.loop-i-test.true in
    let there : i < length held = omega (arith, inv.2, inv.3) in (
      take_more_set held i y there ∙ ap (λ xs. xs ++ y ∷ []) inv.0 ∙ sym (take_more bytes i 0 near),
      drop-set-lt (i + 1) held i y (omega arith) ∙ ap (λ n. drop n held) (omega arith) ∙ sym (drop-drop 1 i held) ∙ ap (drop 1) inv.1 ∙ drop-replicate 1 (32 - i) 0 ∙ ap (λ n. replicate n 0) (omega arith),
      length-set held i y ∙ inv.2,
      inv.3,
    )

pub invariant_of-result : goal.invariant_of-result
invariant_of-result c =
    let i = c.loop-i.i in
    let held = c.loop-i.held in
    let bytes = c.args.bytes.now in
    let inv = c.loop-i.invariant in
    let end : i ≡ length bytes = omega (arith, c.loop-i-test.false, c.loop-i.auto.i-end) in
    let all : take (length bytes) held ≡ bytes = subst (λ n. take n held ≡ take n bytes) end inv.0 ∙ take-length bytes in
    record {
      size = inv.2;
      short = inv.3;
      name = ap is_name all ∙ sym c.if-not-is_spelled.ensures.value;
      padded = subst (λ n. drop n held ≡ replicate (32 - n) 0) end inv.1;
    }

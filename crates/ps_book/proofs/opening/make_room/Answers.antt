use Rattle.std.proofs.Common.{◌≡◌, ◌+◌, ◌-◌, ℕ, zero, suc, ◌++◌, [], ◌∷◌, ap, sym, ◌∙◌, arith}
use Rattle.std.specs.List.{range_with_len}
use Rattle.ps_book.proofs.opening.make_room.Goals as goal

range_more : (a n : ℕ) → range_with_len a (suc n) ≡ range_with_len a n ++ (a + n) ∷ []
range_more a zero = let e : a ≡ a + 0 = omega arith in ap (λ k. k ∷ []) e
range_more a (suc n) =
    let e : a + 1 + n ≡ a + suc n = omega arith in
    ap (λ ks. a ∷ ks) (range_more (a + 1) n ∙ ap (λ k. range_with_len (a + 1) n ++ k ∷ []) e)

pub loop-number-preserved : goal.loop-number-preserved
loop-number-preserved c =
    let a = c.len-first.result in
    let n = c.loop-number.number in
    let more : suc (n - a) ≡ n + 1 - a = omega (arith, c.loop-number.auto.number) in
    let last : a + (n - a) ≡ n = omega (arith, c.loop-number.auto.number) in (
      c.push_reserved.ensures.items ∙ ap (λ ks. ks ++ n ∷ []) c.loop-number.invariant.0 ∙ ap (λ k. range_with_len a (n - a) ++ k ∷ []) (sym last) ∙ sym (range_more a (n - a)) ∙ ap (range_with_len a) more,
      omega (arith, c.push_reserved.ensures.len, c.loop-number.invariant.1, c.loop-number.auto.number),
      omega (arith, c.push_reserved.ensures.capacity, c.loop-number.invariant.2),
    )

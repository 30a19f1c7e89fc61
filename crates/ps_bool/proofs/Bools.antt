-- Truth values and addition modulo 2.
use Rattle.std.proofs.Common.{◌≡◌, refl, ap, ap₂, sym, ◌∙◌, Bool, true, false, ◌&&◌, ◌||◌, ◌⊎◌, inl, inr}
use Rattle.ps_mono.specs.Truth.{differ}

pub true_is_not_false : true ≡ false → ⊥
true_is_not_false e = cc

pub or_cases : (p q : Bool) → (p || q) ≡ true → (p ≡ true) ⊎ (q ≡ true)
or_cases true q h = inl refl
or_cases false q h = inr h

pub or_first : (p q : Bool) → p ≡ true → (p || q) ≡ true
or_first true q h = refl
or_first false q h = absurd (true_is_not_false (sym h))

pub or_second : (p q : Bool) → q ≡ true → (p || q) ≡ true
or_second true q h = refl
or_second false q h = h

pub differ_cancel : (h p q : Bool) → differ h p ≡ differ h q → p ≡ q
unfolding differ
differ_cancel true true true e = refl
differ_cancel true true false e = cc
differ_cancel true false true e = cc
differ_cancel true false false e = refl
differ_cancel false true true e = refl
differ_cancel false true false e = e
differ_cancel false false true e = e
differ_cancel false false false e = refl

pub differ_cross : (h p q : Bool) → differ h (differ p q) ≡ differ (differ h p) q
unfolding differ
differ_cross true true true = refl
differ_cross true true false = refl
differ_cross true false true = refl
differ_cross true false false = refl
differ_cross false true true = refl
differ_cross false true false = refl
differ_cross false false true = refl
differ_cross false false false = refl

pub differ_far : (h p q : Bool) → differ h (differ p q) ≡ differ p (differ h q)
unfolding differ
differ_far true true true = refl
differ_far true true false = refl
differ_far true false true = refl
differ_far true false false = refl
differ_far false true true = refl
differ_far false true false = refl
differ_far false false true = refl
differ_far false false false = refl

pub differ_twice : (h p q : Bool) → differ p q ≡ differ (differ h p) (differ h q)
unfolding differ
differ_twice true true true = refl
differ_twice true true false = refl
differ_twice true false true = refl
differ_twice true false false = refl
differ_twice false true true = refl
differ_twice false true false = refl
differ_twice false false true = refl
differ_twice false false false = refl

pub differ_none : (b : Bool) → b ≡ differ false b
unfolding differ
differ_none true = refl
differ_none false = refl

pub differ_zero : (b : Bool) → differ b false ≡ b
unfolding differ
differ_zero true = refl
differ_zero false = refl

pub differ_comm : (p q : Bool) → differ p q ≡ differ q p
unfolding differ
differ_comm true true = refl
differ_comm true false = refl
differ_comm false true = refl
differ_comm false false = refl

pub differ_self : (h p : Bool) → differ h (differ h p) ≡ p
unfolding differ
differ_self true true = refl
differ_self true false = refl
differ_self false true = refl
differ_self false false = refl

-- products are taken of each part of a sum
pub and_differ : (f h x r : Bool) → differ (differ f (h && x)) (h && r) ≡ differ f (h && differ x r)
unfolding differ
and_differ f true x r = sym (differ_cross f x r)
and_differ f false x r = ap (λ b. differ b false) (differ_zero f)

pub differ_and : (f x r y : Bool) → differ (differ f (x && y)) (r && y) ≡ differ f (differ x r && y)
unfolding differ
differ_and f true true true = ap (λ b. differ b true) refl ∙ last f
  where
    last : (f : Bool) → differ (differ f true) true ≡ differ f false
    last true = refl
    last false = refl
differ_and f true true false = ap (λ b. differ b false) (differ_zero f)
differ_and f true false true = differ_zero (differ f true)
differ_and f true false false = ap (λ b. differ b false) (differ_zero f)
differ_and f false true true = ap (λ b. differ b true) (differ_zero f)
differ_and f false true false = ap (λ b. differ b false) (differ_zero f)
differ_and f false false y = ap (λ b. differ b false) (differ_zero f)

pub and_false : (b : Bool) → (b && false) ≡ false
and_false true = refl
and_false false = refl

pub and_comm : (p q : Bool) → (p && q) ≡ (q && p)
and_comm true true = refl
and_comm true false = refl
and_comm false true = refl
and_comm false false = refl

pub and_first : (p q : Bool) → (p && q) ≡ true → p ≡ true
and_first true q e = refl
and_first false q e = e

pub no_first : (p q : Bool) → (p || q) ≡ false → p ≡ false
no_first true q h = h
no_first false q h = refl

pub no_second : (p q : Bool) → (p || q) ≡ false → q ≡ false
no_second true q h = absurd (true_is_not_false h)
no_second false q h = h

pub both_no : (p q : Bool) → p ≡ false → q ≡ false → (p || q) ≡ false
both_no p q a b = ap₂ (λ (x y : Bool). x || y) a b

-- what must be true where p is not false
pub unless : (p q : Bool) → (q ≡ false → p ≡ false) → p ≡ true → q ≡ true
unless p true h t = refl
unless p false h t = absurd (true_is_not_false (sym t ∙ h refl))

pub and_true : (b : Bool) → (b && true) ≡ b
and_true true = refl
and_true false = refl

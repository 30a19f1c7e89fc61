-- The text of a path sum: `k=K m=M P=PHASE f=OUTS`.
use Rattle.std.specs.Prelude.{ℕ, ◌-◌, ◌/◌, ◌^◌, cond, nat_lt, List, [], ◌∷◌, ◌++◌, codes, decimal}
use Rattle.std.specs.Fmt.{signed_decimal}
use Rattle.ps_phase.specs.declared.terms.Term.{Term}
use Rattle.ps_sum.specs.declared.sums.PathSum.{PathSum}
use Rattle.ps_sum.specs.Counts.{twos}

-- the texts of some things, in order, with a mark between each two
unfoldable pub joined : {X : Type 0} → List ℕ → (X → List ℕ) → List X → List ℕ
joined mark text [] = []
joined mark text (x ∷ []) = text x
joined mark text (x ∷ y ∷ xs) = text x ++ (mark ++ joined mark text (y ∷ xs))

-- of n inputs: `x` with the number of an input, or `y` with that of a path variable, counted from 0
unfoldable pub variable_text : ℕ → ℕ → List ℕ
variable_text n v = cond (nat_lt v n) (codes "x" ++ decimal v) (codes "y" ++ decimal (v - n))

-- the variables joined by `.`
abbrev pub mono_text : ℕ → List ℕ → List ℕ
mono_text n m = joined (codes ".") (variable_text n) m

-- units of 2^-32 as a fraction in lowest terms
unfoldable pub fraction_text : ℕ → List ℕ
fraction_text units = decimal (units / 2 ^ twos units 32) ++ (codes "/" ++ decimal (2 ^ (32 - twos units 32)))

-- `*` and the monomial, and nothing for the one without variables
unfoldable pub factor_text : ℕ → List ℕ → List ℕ
factor_text n [] = []
factor_text n (v ∷ m) = codes "*" ++ mono_text n (v ∷ m)

abbrev pub term_text : ℕ → Term → List ℕ
term_text n t = fraction_text t.phase ++ factor_text n t.mono

-- the terms joined by `+`, or `0`
unfoldable pub phase_text : ℕ → List Term → List ℕ
phase_text n [] = codes "0"
phase_text n (t ∷ ts) = joined (codes "+") (term_text n) (t ∷ ts)

-- a monomial of an output; `1` for the one without variables
unfoldable pub product_text : ℕ → List ℕ → List ℕ
product_text n [] = codes "1"
product_text n (v ∷ m) = mono_text n (v ∷ m)

-- the monomials joined by `+`, or `0`
unfoldable pub output_text : ℕ → List (List ℕ) → List ℕ
output_text n [] = codes "0"
output_text n (m ∷ f) = joined (codes "+") (product_text n) (m ∷ f)

-- the outputs joined by `,`, or `-` where there are none
unfoldable pub outs_text : ℕ → List (List (List ℕ)) → List ℕ
outs_text n [] = codes "-"
outs_text n (f ∷ fs) = joined (codes ",") (output_text n) (f ∷ fs)

unfoldable pub sum_text : PathSum → List ℕ
sum_text S = codes "k=" ++ signed_decimal S.k ++ codes " m=" ++ decimal S.m ++ codes " P=" ++ phase_text S.n S.phase ++ codes " f=" ++ outs_text S.n S.outs

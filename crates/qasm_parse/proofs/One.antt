-- One reading of each expression.
use Rattle.std.proofs.Common.{◌≡◌, ◌≢◌, ◌⊎◌, inl, inr, ℕ, ◌+◌, ◌<◌, List, [], ◌∷◌, ◌++◌, ◌-◌, arith, refl, sym, ◌∙◌, ap, subst, Some, None}
use Rattle.qasm_parse.specs.declared.sort.Mark.{Mark}
use Rattle.qasm_parse.specs.declared.sort.Mark.TheVariants.{Neg, Pow, Func}
use Rattle.qasm_parse.specs.declared.sort.Sort.{Sort}
use Rattle.qasm_parse.specs.declared.sort.Sort.TheVariants.{Open, Close, Function}
use Rattle.qasm_parse.specs.declared.sort.Level.TheVariants.{Sums}
use Rattle.qasm_parse.specs.declared.fault.ParseFault.TheVariants.{Syntax, Deep}
use Rattle.qasm_parse.specs.Grammar.{at, leaf_of, Found, done, bad, front, behind, Part, chain, atom, Reads, chained, chained_bad, more, more_bad, stop, negated, negated_deep, unsigned, based, based_bad, raised, raised_deep, leaf, grouped, grouped_open, grouped_bad, grouped_deep, called, called_open, called_bad, called_short, called_deep, wrong}

front_same : (es fs : List Mark) (r s : Found) → es ≡ fs → r ≡ s → front es r ≡ front fs s
front_same es fs r s e f = ap (λ x. front x r) e ∙ ap (front fs) f

moved : {ts : List Sort} {p : Part} {d j k : ℕ} {s : Found} → j ≡ k → Reads ts p d k s → Reads ts p d j s
moved {ts} {p} {d} {j} {k} {s} e h = subst (λ i. Reads ts p d i s) (sym e) h

-- what stands behind an opening parenthesis, once what is inside is found
abbrev closed : List Sort → (List Mark → List Mark) → Found → Found → Type 0
closed ts f (done es j) x = ((at ts j ≡ Close) × (x ≡ done (f es) (j + 1))) ⊎ ((at ts j ≢ Close) × (x ≡ bad (Syntax j)))
closed ts f (bad g) x = x ≡ bad g

closed_same : (ts : List Sort) (f : List Mark → List Mark) (r : Found) (x y : Found) → closed ts f r x → closed ts f r y → x ≡ y
closed_same ts f (done es j) x y (inl (_, e)) (inl (_, g)) = e ∙ sym g
closed_same ts f (done es j) x y (inl (h, _)) (inr (n, _)) = absurd (n h)
closed_same ts f (done es j) x y (inr (n, _)) (inl (h, _)) = absurd (n h)
closed_same ts f (done es j) x y (inr (_, e)) (inr (_, g)) = e ∙ sym g
closed_same ts f (bad g) x y e h = e ∙ sym h

abbrev keep : List Mark → List Mark
keep es = es

abbrev func : List Mark → List Mark
func es = Func ∷ []

-- An atom by its first terminal.
abbrev Opened : List Sort → ℕ → ℕ → Found → Type 0
Opened ts d i x = ((0 < d) × (r : Found) × Reads ts (chain Sums) (d - 1) (i + 1) r × closed ts keep r x) ⊎ ((d ≡ 0) × (x ≡ bad (Deep i)))

abbrev Called : List Sort → ℕ → ℕ → Found → Type 0
Called ts d i x = ((0 < d) × (at ts (i + 1) ≡ Open) × (r : Found) × Reads ts (chain Sums) (d - 1) (i + 2) r × closed ts func r x) ⊎ (((0 < d) × (at ts (i + 1) ≢ Open) × (x ≡ bad (Syntax (i + 1)))) ⊎ ((d ≡ 0) × (x ≡ bad (Deep i))))

no_leaf : (ts : List Sort) (i : ℕ) (s : Sort) (e : Mark) → leaf_of s i ≡ None → at ts i ≡ s → leaf_of (at ts i) i ≡ Some e → ⊥
no_leaf ts i s e n h k = let z : leaf_of s i ≡ Some e = ap (λ x. leaf_of x i) (sym h) ∙ k in cc

opened : {ts : List Sort} {d i : ℕ} {x : Found} → at ts i ≡ Open → Reads ts atom d i x → Opened ts d i x
opened {ts} {d} {i} o (leaf {e = e} h) = absurd (no_leaf ts i Open e refl o h)
opened o (grouped {j = j} {es = es} h lt k c) = inl (lt, done es j, k, inl (c, refl))
opened o (grouped_open {j = j} {es = es} h lt k n) = inl (lt, done es j, k, inr (n, refl))
opened o (grouped_bad {f = f} h lt k) = inl (lt, bad f, k, refl)
opened o (grouped_deep h le) = inr (le, refl)
opened o (called h _ _ _ _) = absurd (cc)
opened o (called_open h _ _ _ _) = absurd (cc)
opened o (called_bad h _ _ _) = absurd (cc)
opened o (called_short h _ _) = absurd (cc)
opened o (called_deep h _) = absurd (cc)
opened o (wrong _ n _) = absurd (n o)

function : {ts : List Sort} {d i : ℕ} {x : Found} → at ts i ≡ Function → Reads ts atom d i x → Called ts d i x
function {ts} {d} {i} o (leaf {e = e} h) = absurd (no_leaf ts i Function e refl o h)
function o (grouped h _ _ _) = absurd (cc)
function o (grouped_open h _ _ _) = absurd (cc)
function o (grouped_bad h _ _) = absurd (cc)
function o (grouped_deep h _) = absurd (cc)
function o (called {j = j} {es = es} h lt p k c) = inl (lt, p, done es j, k, inl (c, refl))
function o (called_open {j = j} {es = es} h lt p k n) = inl (lt, p, done es j, k, inr (n, refl))
function o (called_bad {f = f} h lt p k) = inl (lt, p, bad f, k, refl)
function o (called_short h lt n) = inr (inl (lt, n, refl))
function o (called_deep h le) = inr (inr (le, refl))
function o (wrong _ _ n) = absurd (n o)

simple : {ts : List Sort} {d i : ℕ} {x : Found} {e : Mark} → leaf_of (at ts i) i ≡ Some e → Reads ts atom d i x → x ≡ done (e ∷ []) (i + 1)
simple {ts} {d} {i} {x} {e} o (leaf {e = f} h) = let z : f ≡ e = cc in ap (λ y. done (y ∷ []) (i + 1)) z
simple {ts} {d} {i} {x} {e} o (grouped h _ _ _) = absurd (no_leaf ts i Open e refl h o)
simple {ts} {d} {i} {x} {e} o (grouped_open h _ _ _) = absurd (no_leaf ts i Open e refl h o)
simple {ts} {d} {i} {x} {e} o (grouped_bad h _ _) = absurd (no_leaf ts i Open e refl h o)
simple {ts} {d} {i} {x} {e} o (grouped_deep h _) = absurd (no_leaf ts i Open e refl h o)
simple {ts} {d} {i} {x} {e} o (called h _ _ _ _) = absurd (no_leaf ts i Function e refl h o)
simple {ts} {d} {i} {x} {e} o (called_open h _ _ _ _) = absurd (no_leaf ts i Function e refl h o)
simple {ts} {d} {i} {x} {e} o (called_bad h _ _ _) = absurd (no_leaf ts i Function e refl h o)
simple {ts} {d} {i} {x} {e} o (called_short h _ _) = absurd (no_leaf ts i Function e refl h o)
simple {ts} {d} {i} {x} {e} o (called_deep h _) = absurd (no_leaf ts i Function e refl h o)
simple {ts} {d} {i} {x} {e} o (wrong n _ _) = absurd (cc)

other : {ts : List Sort} {d i : ℕ} {x : Found} → leaf_of (at ts i) i ≡ None → at ts i ≢ Open → at ts i ≢ Function → Reads ts atom d i x → x ≡ bad (Syntax i)
other o a b (leaf h) = absurd (cc)
other o a b (grouped h _ _ _) = absurd (a h)
other o a b (grouped_open h _ _ _) = absurd (a h)
other o a b (grouped_bad h _ _) = absurd (a h)
other o a b (grouped_deep h _) = absurd (a h)
other o a b (called h _ _ _ _) = absurd (b h)
other o a b (called_open h _ _ _ _) = absurd (b h)
other o a b (called_bad h _ _ _) = absurd (b h)
other o a b (called_short h _ _) = absurd (b h)
other o a b (called_deep h _) = absurd (b h)
other o a b (wrong _ _ _) = refl

-- from what is inside to the whole
inside : {ts : List Sort} {d i : ℕ} (r x y : Found) → 0 < d → closed ts keep r x → ((s : Found) → Reads ts (chain Sums) (d - 1) (i + 1) s → r ≡ s) → Opened ts d i y → x ≡ y
inside {ts} r x y lt h same (inl (_, s, k, g)) = closed_same ts keep r x y h (subst (λ z. closed ts keep z y) (sym (same s k)) g)
inside r x y lt h same (inr (le, _)) = absurd (omega arith)

behind_word : {ts : List Sort} {d i : ℕ} (r x y : Found) → 0 < d → at ts (i + 1) ≡ Open → closed ts func r x → ((s : Found) → Reads ts (chain Sums) (d - 1) (i + 2) s → r ≡ s) → Called ts d i y → x ≡ y
behind_word {ts} r x y lt o h same (inl (_, _, s, k, g)) = closed_same ts func r x y h (subst (λ z. closed ts func z y) (sym (same s k)) g)
behind_word r x y lt o h same (inr (inl (_, n, _))) = absurd (n o)
behind_word r x y lt o h same (inr (inr (le, _))) = absurd (omega arith)

short_word : {ts : List Sort} {d i : ℕ} (y : Found) → 0 < d → at ts (i + 1) ≢ Open → Called ts d i y → bad (Syntax (i + 1)) ≡ y
short_word y lt n (inl (_, o, _, _, _)) = absurd (n o)
short_word y lt n (inr (inl (_, _, e))) = sym e
short_word y lt n (inr (inr (le, _))) = absurd (omega arith)

deep_word : {ts : List Sort} {d i : ℕ} (y : Found) → d ≡ 0 → Called ts d i y → bad (Deep i) ≡ y
deep_word y le (inl (lt, _, _, _, _)) = absurd (omega arith)
deep_word y le (inr (inl (lt, _, _))) = absurd (omega arith)
deep_word y le (inr (inr (_, e))) = sym e

deep_open : {ts : List Sort} {d i : ℕ} (y : Found) → d ≡ 0 → Opened ts d i y → bad (Deep i) ≡ y
deep_open y le (inl (lt, _, _, _)) = absurd (omega arith)
deep_open y le (inr (_, e)) = sym e

-- each place has one reading
pub one : {ts : List Sort} {p : Part} {d i : ℕ} {x y : Found} → Reads ts p d i x → Reads ts p d i y → x ≡ y
one (chained {j = j} {es = es} {r = r} h k) (chained {j = m} {es = fs} {r = s} g l) = let e : done es j ≡ done fs m = one h g in let f : j ≡ m = cc in front_same es fs r s (cc) (one k (moved f l))
one (chained {j = j} {es = es} h k) (chained_bad {f = f} g) = let e : done es j ≡ bad f = one h g in absurd (cc)
one (chained_bad {f = f} g) (chained {j = j} {es = es} h k) = let e : bad f ≡ done es j = one g h in absurd (cc)
one (chained_bad h) (chained_bad g) = one h g
one (more {j = j} {e = a} {es = es} {r = r} v h k) (more {j = m} {e = b} {es = fs} {r = s} w g l) = let e : done es j ≡ done fs m = one h g in let f : j ≡ m = cc in let z : es ++ (a ∷ []) ≡ fs ++ (b ∷ []) = cc in front_same (es ++ (a ∷ [])) (fs ++ (b ∷ [])) r s z (one k (moved f l))
one (more {j = j} {es = es} v h k) (more_bad {f = f} w g) = let e : done es j ≡ bad f = one h g in absurd (cc)
one (more v h k) (stop w) = absurd (cc)
one (more_bad {f = f} w g) (more {j = j} {es = es} v h k) = let e : bad f ≡ done es j = one g h in absurd (cc)
one (more_bad w g) (more_bad v h) = one g h
one (more_bad w g) (stop v) = absurd (cc)
one (stop v) (more w _ _) = absurd (cc)
one (stop v) (more_bad w _) = absurd (cc)
one (stop v) (stop w) = refl
one (negated h lt k) (negated g _ l) = ap (λ x. behind x Neg) (one k l)
one (negated h lt k) (negated_deep _ le) = absurd (omega arith)
one (negated h lt k) (unsigned n _) = absurd (n h)
one (negated_deep _ le) (negated h lt k) = absurd (omega arith)
one (negated_deep _ _) (negated_deep _ _) = refl
one (negated_deep h le) (unsigned n _) = absurd (n h)
one (unsigned n _) (negated h _ _) = absurd (n h)
one (unsigned n _) (negated_deep h _) = absurd (n h)
one (unsigned n k) (unsigned _ l) = one k l
one (based h n) (based g m) = one h g
one (based {j = j} {es = es} h n) (based_bad {f = f} g) = let e : done es j ≡ bad f = one h g in absurd (cc)
one {ts} (based {j = j} {es = es} h n) (raised {j = m} {es = fs} g p _ _) = let e : done es j ≡ done fs m = one h g in let f : j ≡ m = cc in absurd (n (ap (at ts) f ∙ p))
one {ts} (based {j = j} {es = es} h n) (raised_deep {j = m} {es = fs} g p _) = let e : done es j ≡ done fs m = one h g in let f : j ≡ m = cc in absurd (n (ap (at ts) f ∙ p))
one (based_bad {f = f} g) (based {j = j} {es = es} h n) = let e : bad f ≡ done es j = one g h in absurd (cc)
one (based_bad h) (based_bad g) = one h g
one (based_bad {f = f} g) (raised {j = j} {es = es} h _ _ _) = let e : bad f ≡ done es j = one g h in absurd (cc)
one (based_bad {f = f} g) (raised_deep {j = j} {es = es} h _ _) = let e : bad f ≡ done es j = one g h in absurd (cc)
one {ts} (raised {j = j} {es = es} h p _ _) (based {j = m} {es = fs} g n) = let e : done es j ≡ done fs m = one h g in let f : m ≡ j = cc in absurd (n (ap (at ts) f ∙ p))
one (raised {j = j} {es = es} h _ _ _) (based_bad {f = f} g) = let e : done es j ≡ bad f = one h g in absurd (cc)
one (raised {j = j} {es = es} {r = r} h p lt k) (raised {j = m} {es = fs} {r = s} g q _ l) = let e : done es j ≡ done fs m = one h g in let f : j + 1 ≡ m + 1 = cc in front_same es fs (behind r Pow) (behind s Pow) (cc) (ap (λ x. behind x Pow) (one k (moved f l)))
one (raised h p lt k) (raised_deep g q le) = absurd (omega arith)
one {ts} (raised_deep {j = j} {es = es} h p _) (based {j = m} {es = fs} g n) = let e : done es j ≡ done fs m = one h g in let f : m ≡ j = cc in absurd (n (ap (at ts) f ∙ p))
one (raised_deep {j = j} {es = es} h _ _) (based_bad {f = f} g) = let e : done es j ≡ bad f = one h g in absurd (cc)
one (raised_deep g q le) (raised h p lt k) = absurd (omega arith)
one (raised_deep {j = j} {es = es} h _ _) (raised_deep {j = m} {es = fs} g _ _) = let e : done es j ≡ done fs m = one h g in let f : j ≡ m = cc in ap (λ i. bad (Deep i)) f
one (leaf h) y = sym (simple h y)
one {y = y} (grouped {j = j} {es = es} h lt k c) l = inside (done es j) _ y lt (inl (c, refl)) (λ s m. one k m) (opened h l)
one {y = y} (grouped_open {j = j} {es = es} h lt k c) l = inside (done es j) _ y lt (inr (c, refl)) (λ s m. one k m) (opened h l)
one {y = y} (grouped_bad {f = f} h lt k) l = inside (bad f) _ y lt refl (λ s m. one k m) (opened h l)
one {y = y} (grouped_deep h le) l = deep_open y le (opened h l)
one {y = y} (called {j = j} {es = es} h lt o k c) l = behind_word (done es j) _ y lt o (inl (c, refl)) (λ s m. one k m) (function h l)
one {y = y} (called_open {j = j} {es = es} h lt o k c) l = behind_word (done es j) _ y lt o (inr (c, refl)) (λ s m. one k m) (function h l)
one {y = y} (called_bad {f = f} h lt o k) l = behind_word (bad f) _ y lt o refl (λ s m. one k m) (function h l)
one {y = y} (called_short h lt n) l = short_word y lt n (function h l)
one {y = y} (called_deep h le) l = deep_word y le (function h l)
one (wrong a b c) l = sym (other a b c l)

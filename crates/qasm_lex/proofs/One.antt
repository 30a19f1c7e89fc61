-- One reading of each text.
use Rattle.std.proofs.Common.{◌≡◌, ℕ, ◌+◌, true, false, inl, inr, List, arith, Result, Err, ap, subst, refl}
use Rattle.qasm_lex.specs.declared.types.Kind.{Kind}
use Rattle.qasm_lex.specs.declared.types.Kind.TheVariants.{Word as WordToken, Number, Text as TextToken, Sign}
use Rattle.qasm_lex.specs.declared.types.Class.{Class}
use Rattle.qasm_lex.specs.declared.types.Class.TheVariants.{Comment}
use Rattle.qasm_lex.specs.declared.types.Token.{Token}
use Rattle.qasm_lex.specs.declared.types.LexFault.{LexFault}
use Rattle.qasm_lex.specs.declared.types.LexFault.TheVariants.{BadByte, BadNumber, OpenString, Memory}
use Rattle.qasm_lex.specs.Tokens.{byte, is_white_byte, is_tail_byte, IsLongest, NoGap, IsApart, IsFaultOf, IsGap, before, Reads, finished, gap, token, bad, WholeRun}
use Rattle.qasm_lex.proofs.Longest.{whole_longest, first_of, one_kind}

gap_not : (bytes : List ℕ) (a b : ℕ) → NoGap bytes a → IsGap bytes a b → ⊥
gap_not bytes a b n (inl (w, _)) = let e = n.white in cc
gap_not bytes a b n (inr m) = n.comment m.first m.second

white_slash : (n : ℕ) → is_white_byte n ≡ true → n ≡ 47 → ⊥
white_slash n h e = let k : is_white_byte 47 ≡ true = rw e at h in cc

whole_same : (class : Class) (bytes : List ℕ) (a b c : ℕ) → WholeRun class bytes a b → WholeRun class bytes a c → b ≡ c
whole_same class bytes a b c v w = let x = whole_longest class bytes a b c v w.run in let y = whole_longest class bytes a c b w v.run in omega arith

one_gap : (bytes : List ℕ) (a b c : ℕ) → IsGap bytes a b → IsGap bytes a c → b ≡ c
one_gap bytes a b c (inl (_, e)) (inl (_, f)) = omega arith
one_gap bytes a b c (inl (w, e)) (inr m) = absurd (white_slash _ w m.first)
one_gap bytes a b c (inr m) (inl (w, e)) = absurd (white_slash _ w m.first)
one_gap bytes a b c (inr m) (inr n) = whole_same Comment bytes (a + 2) b c m.run n.run

same_kind : (bytes : List ℕ) (a b c : ℕ) (k j : Kind) → IsLongest bytes k a b → IsLongest bytes j a c → k ≡ j
same_kind bytes a b c k j x y = one_kind k j (byte bytes a) (first_of bytes k a b x.spells) (first_of bytes j a c y.spells)

same_end : (bytes : List ℕ) (a b c : ℕ) (k j : Kind) → IsLongest bytes k a b → IsLongest bytes j a c → b ≡ c
same_end bytes a b c k j x y = let p = x.longest j c y.spells in let q = y.longest k b x.spells in omega arith

-- a token of its own has never fault at its place
token_not_bad : (bytes : List ℕ) (a b : ℕ) (k : Kind) (f : LexFault) → IsLongest bytes k a b → IsApart bytes k b → IsFaultOf bytes a f → ⊥
token_not_bad bytes a b k (BadByte n) x p (_, _, never) = never k b x.spells
token_not_bad bytes a b k (OpenString n) x p (_, _, never) = never k b x.spells
token_not_bad bytes a b k Memory x p h = h
token_not_bad bytes a b WordToken (BadNumber n) x p (_, c, y, t) = let e = same_kind bytes a b c WordToken Number x y in cc
token_not_bad bytes a b TextToken (BadNumber n) x p (_, c, y, t) = let e = same_kind bytes a b c TextToken Number x y in cc
token_not_bad bytes a b Sign (BadNumber n) x p (_, c, y, t) = let e = same_kind bytes a b c Sign Number x y in cc
token_not_bad bytes a b Number (BadNumber n) x p (_, c, y, t) = let e = same_end bytes a b c Number Number x y in let q : is_tail_byte (byte bytes c) ≡ false = subst (λ i. is_tail_byte (byte bytes i) ≡ false) e p in cc

one_fault : (bytes : List ℕ) (a : ℕ) (f g : LexFault) → IsFaultOf bytes a f → IsFaultOf bytes a g → f ≡ g
one_fault bytes a (BadByte n) (BadByte m) (e, _, _) (d, _, _) = ap BadByte (omega arith)
one_fault bytes a (BadByte n) (BadNumber m) (e, _, never) (d, c, y, _) = absurd (never Number c y.spells)
one_fault bytes a (BadByte n) (OpenString m) (e, q, _) (d, p, _) = absurd (q p)
one_fault bytes a (BadNumber n) (BadByte m) (d, c, y, _) (e, _, never) = absurd (never Number c y.spells)
one_fault bytes a (BadNumber n) (BadNumber m) (d, _, _, _) (e, _, _, _) = ap BadNumber (omega arith)
one_fault bytes a (BadNumber n) (OpenString m) (d, c, y, _) (e, _, never) = absurd (never Number c y.spells)
one_fault bytes a (OpenString n) (BadByte m) (e, q, _) (d, p, _) = absurd (p q)
one_fault bytes a (OpenString n) (BadNumber m) (e, _, never) (d, c, y, _) = absurd (never Number c y.spells)
one_fault bytes a (OpenString n) (OpenString m) (e, _, _) (d, _, _) = ap OpenString (omega arith)
one_fault bytes a Memory g h _ = absurd h
one_fault bytes a (BadByte n) Memory _ h = absurd h
one_fault bytes a (BadNumber n) Memory _ h = absurd h
one_fault bytes a (OpenString n) Memory _ h = absurd h

-- each text has one reading
pub one_reading : (bytes : List ℕ) (a : ℕ) (r s : Result (List Token) LexFault) → Reads bytes a r → Reads bytes a s → r ≡ s
one_reading bytes a r s (finished e) (finished _) = refl
one_reading bytes a r s (finished e) (gap lt _ _) = absurd (omega arith)
one_reading bytes a r s (finished e) (token t _) = let lt = t.0.inside in absurd (omega arith)
one_reading bytes a r s (finished e) (bad t) = let lt = t.0.inside in absurd (omega arith)
one_reading bytes a r s (gap lt _ _) (finished e) = absurd (omega arith)
one_reading bytes a r s (gap {b = b} _ g h) (gap {b = c} _ k l) = let e : c ≡ b = one_gap bytes a c b k g in one_reading bytes b r s h (subst (λ i. Reads bytes i s) e l)
one_reading bytes a r s (gap {b = b} _ g h) (token t _) = absurd (gap_not bytes a b t.0 g)
one_reading bytes a r s (gap {b = b} _ g h) (bad t) = absurd (gap_not bytes a b t.0 g)
one_reading bytes a r s (token t _) (finished e) = let lt = t.0.inside in absurd (omega arith)
one_reading bytes a r s (token t _) (gap {b = b} _ g h) = absurd (gap_not bytes a b t.0 g)
one_reading bytes a r s (token {b = b} {kind = k} {r = x} t h) (token {b = c} {kind = j} {r = y} u l) =
    let e : c ≡ b = same_end bytes a c b j k u.1 t.1 in
    let d : k ≡ j = same_kind bytes a b c k j t.1 u.1 in
    let q : x ≡ y = one_reading bytes b x y h (subst (λ i. Reads bytes i y) e l) in
    ap (λ (p : Kind × ℕ × Result (List Token) LexFault). before (record { kind = p.0; from = a; to = p.1 }) p.2) (let z : ◌≡◌ {A = Kind × ℕ × Result (List Token) LexFault} (k, b, x) (j, c, y) = cc in z)
one_reading bytes a r s (token {b = b} {kind = k} t h) (bad {f = f} u) = absurd (token_not_bad bytes a b k f t.1 t.2 u.1)
one_reading bytes a r s (bad t) (finished e) = let lt = t.0.inside in absurd (omega arith)
one_reading bytes a r s (bad t) (gap {b = b} _ g h) = absurd (gap_not bytes a b t.0 g)
one_reading bytes a r s (bad {f = f} u) (token {b = b} {kind = k} t h) = absurd (token_not_bad bytes a b k f t.1 t.2 u.1)
one_reading bytes a r s (bad {f = f} t) (bad {f = g} u) = ap Err (one_fault bytes a f g t.1 u.1)

-- Splitting bytes at the first separator.
use Rattle.std.proofs.Common.{◌≡◌, ◌≢◌, ℕ, zero, suc, ◌+◌, ◌-◌, ◌<◌, ◌≤◌, refl, ap, sym, ◌∙◌, subst, arith, List, [], ◌∷◌, ◌++◌, length, take, drop, codes, ◌⊎◌, inl, inr, get_or, Bool, true, nat_eq}
use Rattle.std.proofs.lemmas.Bool.Decides.{Decides-eqb}
use Rattle.std.proofs.lemmas.List.{take-append-drop, length-append, take_more}
use Rattle.std.proofs.Math.Seq.{take-append_seam, drop-append_seam}
use Rattle.std.specs.Prelude.{Option, Some, None, MatchOption}
use Rattle.pathsum.specs.declared.commands.Command.{Command}
use Rattle.pathsum.specs.declared.commands.Command.TheVariants.{Same, SamePhase, SameLocal, Prove, Replay}
use Rattle.pathsum.specs.Splits.{IsMark, plain, returned, EndsLine, at_end, at_feed, Marks, AreLines, none, some, Separates, SplitsAt, NoSplit, InTwo, InThree, OneOnly, IsParted, Lacks}

heads : {x y : ℕ} {xs ys : List ℕ} → x ∷ xs ≡ y ∷ ys → x ≡ y
heads e = cc

tails : {x y : ℕ} {xs ys : List ℕ} → x ∷ xs ≡ y ∷ ys → xs ≡ ys
tails e = cc

no_cons : {x : ℕ} {xs : List ℕ} → [] ≡ x ∷ xs → ⊥
no_cons e = cc

-- another fact of an answer
pub weaker : {X : Type 0} (o : Option X) {N M : Type 0} {P Q : X → Type 0} → (N → M) → ((x : X) → P x → Q x) → MatchOption o N P → MatchOption o M Q
weaker None f g m = f m
weaker (Some x) f g m = g x m

-- ---- the end of a line
pub ends_here : (bytes rest : List ℕ) → bytes ≡ [] → rest ≡ bytes → EndsLine bytes rest
ends_here bytes rest e f = at_end e (f ∙ e)

pub ends_nowhere : (bytes : List ℕ) → bytes ≢ [] → ((rest : List ℕ) → bytes ≢ 10 ∷ rest) → (rest : List ℕ) → EndsLine bytes rest → ⊥
ends_nowhere bytes h k rest (at_end e f) = h e
ends_nowhere bytes h k rest (at_feed e) = k rest e

ends_once : (b c r s : List ℕ) → b ≡ c → EndsLine b r → EndsLine c s → r ≡ s
ends_once b c r s e (at_end f g) (at_end h k) = g ∙ sym k
ends_once b c r s e (at_end f g) (at_feed h) = absurd (no_cons (sym f ∙ e ∙ h))
ends_once b c r s e (at_feed h) (at_end f g) = absurd (no_cons (sym f ∙ sym e ∙ h))
ends_once b c r s e (at_feed f) (at_feed g) = tails (sym f ∙ e ∙ g)

-- no line ends at a CR
no_return : (b c r : List ℕ) → b ≡ 13 ∷ c → EndsLine b r → ⊥
no_return b c r e (at_end f g) = no_cons (sym f ∙ e)
no_return b c r e (at_feed f) = let h : 10 ≡ 13 = heads (sym f ∙ e) in omega (arith, h)

-- ---- a separator
abbrev equals : List ℕ → List ℕ
equals r = 61 ∷ 61 ∷ 61 ∷ 61 ∷ r

inner : (r s : List ℕ) → equals r ≡ equals s → r ≡ s
inner r s e = cc

pub mark_plain : (bytes line rest : List ℕ) → bytes ≡ codes "====" ++ line → EndsLine line rest → Marks bytes rest
mark_plain bytes line rest e f = record { mark = codes "===="; behind = line; is = plain refl; parted = e; ends = f }

pub mark_returned : (bytes line behind rest : List ℕ) → bytes ≡ codes "====" ++ line → line ≡ codes "\r" ++ behind → EndsLine behind rest → Marks bytes rest
mark_returned bytes line behind rest e g f = record { mark = codes "====\r"; behind = behind; is = returned refl; parted = e ∙ ap (λ (r : List ℕ). codes "====" ++ r) g; ends = f }

-- what stands behind the four signs of a separator
data Behind (line rest : List ℕ) : Type 0 where
  at_once : EndsLine line rest → Behind line rest
  behind_return : {b : List ℕ} → line ≡ 13 ∷ b → EndsLine b rest → Behind line rest

mark_behind : (bytes rest : List ℕ) → (m : Marks bytes rest) → (line : List ℕ) × (bytes ≡ equals line) × Behind line rest
mark_behind bytes rest m = by m.mark m.behind m.is m.parted m.ends
  where
    by : (k b : List ℕ) → IsMark k → bytes ≡ k ++ b → EndsLine b rest → (line : List ℕ) × (bytes ≡ equals line) × Behind line rest
    by k b (plain e) p f = (b, p ∙ ap (λ (x : List ℕ). x ++ b) e, at_once f)
    by k b (returned e) p f = (13 ∷ b, p ∙ ap (λ (x : List ℕ). x ++ b) e, behind_return refl f)

pub no_mark : (bytes : List ℕ) → ((line : List ℕ) → bytes ≢ codes "====" ++ line) → (rest : List ℕ) → Marks bytes rest → ⊥
no_mark bytes h rest m = let k = mark_behind bytes rest m in h k.0 k.1

no_behind : (line rest k : List ℕ) → line ≡ k → Behind k rest → ((r : List ℕ) → EndsLine line r → ⊥) → ((b r : List ℕ) → line ≡ 13 ∷ b → EndsLine b r → ⊥) → ⊥
no_behind line rest k e (at_once f) h g = h rest (subst (λ (x : List ℕ). EndsLine x rest) (sym e) f)
no_behind line rest k e (behind_return {b} p f) h g = g b rest (e ∙ p) f

pub no_plain : (bytes line : List ℕ) → bytes ≡ codes "====" ++ line → ((b : List ℕ) → line ≢ codes "\r" ++ b) → ((r : List ℕ) → EndsLine line r → ⊥) → (rest : List ℕ) → Marks bytes rest → ⊥
no_plain bytes line e h g rest m = let k = mark_behind bytes rest m in no_behind line rest k.0 (inner line k.0 (sym e ∙ k.1)) k.2 g (λ b r p f. h b p)

pub no_returned : (bytes line behind : List ℕ) → bytes ≡ codes "====" ++ line → line ≡ codes "\r" ++ behind → ((r : List ℕ) → EndsLine behind r → ⊥) → (rest : List ℕ) → Marks bytes rest → ⊥
no_returned bytes line behind e p g rest m = let k = mark_behind bytes rest m in
    no_behind line rest k.0 (inner line k.0 (sym e ∙ k.1)) k.2 (λ r f. no_return line behind r p f) (λ b r q f. g r (subst (λ (x : List ℕ). EndsLine x r) (tails (sym q ∙ p)) f))

behind_once : (l k r s : List ℕ) → l ≡ k → Behind l r → Behind k s → r ≡ s
behind_once l k r s e (at_once f) (at_once g) = ends_once l k r s e f g
behind_once l k r s e (at_once f) (behind_return {b} p g) = absurd (no_return l b r (e ∙ p) f)
behind_once l k r s e (behind_return {b} p f) (at_once g) = absurd (no_return k b s (sym e ∙ p) g)
behind_once l k r s e (behind_return {b} p f) (behind_return {b = c} q g) = ends_once b c r s (tails (sym p ∙ e ∙ q)) f g

marks_once : (b c r s : List ℕ) → b ≡ c → Marks b r → Marks c s → r ≡ s
marks_once b c r s e m n = let k = mark_behind b r m in let l = mark_behind c s n in behind_once k.0 l.0 r s (inner k.0 l.0 (sym k.1 ∙ e ∙ l.1)) k.2 l.2

-- ---- where lines begin
last_of : (xs ys : List ℕ) (a b : ℕ) → xs ++ a ∷ [] ≡ ys ++ b ∷ [] → a ≡ b
last_of [] [] a b e = heads e
last_of [] (y ∷ []) a b e = absurd (no_cons (tails e))
last_of [] (y ∷ z ∷ ys) a b e = absurd (no_cons (tails e))
last_of (x ∷ []) [] a b e = absurd (no_cons (sym (tails e)))
last_of (x ∷ z ∷ xs) [] a b e = absurd (no_cons (sym (tails e)))
last_of (x ∷ xs) (y ∷ ys) a b e = last_of xs ys a b (tails e)

snoc_full : (xs : List ℕ) (a : ℕ) → xs ++ a ∷ [] ≡ [] → ⊥
snoc_full [] a e = no_cons (sym e)
snoc_full (x ∷ xs) a e = no_cons (sym e)

lines_last : (xs : List ℕ) (a : ℕ) (text : List ℕ) → text ≡ xs ++ a ∷ [] → AreLines text → a ≡ 10
lines_last xs a text e (none f) = absurd (snoc_full xs a (sym e ∙ f))
lines_last xs a text e (some front f) = last_of xs front a 10 (sym e ∙ f)

front_of : (bytes : List ℕ) (at k b : ℕ) → at ≡ suc k → at ≤ length bytes → b ≡ get_or bytes k b → take at bytes ≡ take k bytes ++ b ∷ []
front_of bytes at k b e h g =
    let f : suc k ≡ k + 1 = omega arith in
    ap (λ i. take i bytes) (e ∙ f) ∙ take_more bytes k b (omega (arith, e, h)) ∙ ap (λ x. take k bytes ++ x ∷ []) (sym g)

pub begins_first : (bytes : List ℕ) (at : ℕ) → at ≡ 0 → AreLines (take at bytes)
begins_first bytes at e = none (ap (λ i. take i bytes) e)

pub begins_behind : (bytes : List ℕ) (at k b : ℕ) → at ≡ suc k → at ≤ length bytes → b ≡ get_or bytes k b → b ≡ 10 → AreLines (take at bytes)
begins_behind bytes at k b e h g f = some (take k bytes) (front_of bytes at k b e h g ∙ ap (λ x. take k bytes ++ x ∷ []) f)

pub begins_nowhere : (bytes : List ℕ) (at k b : ℕ) → at ≡ suc k → at ≤ length bytes → b ≡ get_or bytes k b → AreLines (take at bytes) → b ≡ 10
begins_nowhere bytes at k b e h g l = lines_last (take k bytes) b (take at bytes) (front_of bytes at k b e h g) l

pub begins_decide : (bytes : List ℕ) (at b : ℕ) (r : Bool) → (at ≡ 0 → ⊥) → at ≤ length bytes → b ≡ get_or bytes (at - 1) b → r ≡ nat_eq b 10 → (r ≡ true → AreLines (take at bytes)) × (AreLines (take at bytes) → r ≡ true)
begins_decide bytes zero b r n h g e = absurd (n refl)
begins_decide bytes (suc k) b r n h g e =
    let f : suc k - 1 ≡ k = omega arith in
    let i : b ≡ get_or bytes k b = g ∙ ap (λ j. get_or bytes j b) f in (
      λ t. begins_behind bytes (suc k) k b refl h i ((Decides-eqb b 10).0 (sym e ∙ t)),
      λ l. e ∙ (Decides-eqb b 10).1 (begins_nowhere bytes (suc k) k b refl h i l),
    )

-- ---- a separator at a place
front_is : (bytes text behind : List ℕ) → bytes ≡ text ++ behind → text ≡ take (length text) bytes
front_is bytes text behind e = sym (ap (take (length text)) e ∙ take-append_seam text behind)

back_is : (bytes text behind : List ℕ) → bytes ≡ text ++ behind → behind ≡ drop (length text) bytes
back_is bytes text behind e = sym (ap (drop (length text)) e ∙ drop-append_seam text behind)

pub separates_at : (bytes rest : List ℕ) (at : ℕ) → AreLines (take at bytes) → Marks (drop at bytes) rest → Separates bytes (take at bytes) rest
separates_at bytes rest at l m = record { behind = drop at bytes; lines = l; parted = sym (take-append-drop at bytes); mark = m }

pub not_marked : (bytes : List ℕ) (at : ℕ) → ((rest : List ℕ) → Marks (drop at bytes) rest → ⊥) → (text rest : List ℕ) → Separates bytes text rest → length text ≢ at
not_marked bytes at h text rest s e = h rest (subst (λ (x : List ℕ). Marks x rest) (back_is bytes text s.behind s.parted ∙ ap (λ i. drop i bytes) e) s.mark)

pub not_begun : (bytes : List ℕ) (at : ℕ) → (AreLines (take at bytes) → ⊥) → (text rest : List ℕ) → Separates bytes text rest → length text ≢ at
not_begun bytes at h text rest s e = h (subst AreLines (front_is bytes text s.behind s.parted ∙ ap (λ i. take i bytes) e) s.lines)

mark_long : (bytes rest : List ℕ) → Marks bytes rest → length rest + 4 ≤ length bytes
mark_long bytes rest m = let k = mark_behind bytes rest m in let e = ap length k.1 in by k.0 e k.2
  where
    ends : (l : List ℕ) → EndsLine l rest → length rest ≤ length l
    ends l (at_end e f) = let g = ap length f in omega (arith, g)
    ends l (at_feed e) = let g = ap length e in omega (arith, g)

    by : (l : List ℕ) → length bytes ≡ length (equals l) → Behind l rest → length rest + 4 ≤ length bytes
    by l e (at_once f) = omega (arith, e, ends l f)
    by l e (behind_return {b} p f) = let g = ap length p in omega (arith, e, g, ends b f)

pub separates_long : (bytes text rest : List ℕ) → Separates bytes text rest → length text + length rest + 4 ≤ length bytes
separates_long bytes text rest s = let e = ap length s.parted ∙ length-append text s.behind in omega (arith, e, mark_long s.behind rest s.mark)

-- no separator stands before the place
abbrev pub NoneBefore : List ℕ → ℕ → Type 0
NoneBefore bytes at = (text rest : List ℕ) → Separates bytes text rest → at ≤ length text

pub none_before_first : (bytes : List ℕ) → NoneBefore bytes 0
none_before_first bytes text rest s = omega arith

pub none_before_next : (bytes : List ℕ) (at : ℕ) → NoneBefore bytes at → ((text rest : List ℕ) → Separates bytes text rest → length text ≢ at) → NoneBefore bytes (at + 1)
none_before_next bytes at h k text rest s = by (h text rest s) (k text rest s)
  where
    by : {a b : ℕ} → a ≤ b → b ≢ a → a + 1 ≤ b
    by {a} {b} l n = omega (arith, l, n)

pub none_at_all : (bytes : List ℕ) (at : ℕ) → length bytes ≤ at → NoneBefore bytes at → NoSplit bytes
none_at_all bytes at l h text rest s = omega (arith, l, h text rest s, separates_long bytes text rest s)

pub split_first : (bytes text rest : List ℕ) (at start : ℕ) → at ≤ length bytes → text ≡ take at bytes → NoneBefore bytes at → Separates bytes (take at bytes) rest → start ≡ length bytes - length rest → SplitsAt bytes text rest start
split_first bytes text rest at start l e h s p = record {
  separates = subst (λ (t : List ℕ). Separates bytes t rest) (sym e) s;
  first = λ t r u. (let f = ap length e ∙ short at bytes l in omega (arith, f, h t r u));
  place = (let k = separates_long bytes (take at bytes) rest s in omega (arith, p, k));
}
  where
    short : (i : ℕ) (xs : List ℕ) → i ≤ length xs → length (take i xs) ≡ i
    short zero xs h = refl
    short (suc i) [] h = absurd (omega (arith, h))
    short (suc i) (x ∷ xs) h = ap suc (short i xs (omega (arith, h)))

-- ---- pieces
pub two_none : (bytes : List ℕ) → NoSplit bytes → Lacks Same bytes
two_none bytes h = h

pub three_none : (bytes : List ℕ) → NoSplit bytes → Lacks Replay bytes
three_none bytes h = inl h

pub three_one : (bytes text rest : List ℕ) (start : ℕ) → SplitsAt bytes text rest start → NoSplit rest → Lacks Replay bytes
three_one bytes text rest start s h = inr (record { text = text; rest = rest; start = start; split = s; none = h })

-- ---- there is one way
pub record SameSplit (t r : List ℕ) (s : ℕ) (t' r' : List ℕ) (s' : ℕ) : Type 0 where
  pub text : t ≡ t'
  pub rest : r ≡ r'
  pub start : s ≡ s'

pub splits_once : (bytes t r : List ℕ) (s : ℕ) (t' r' : List ℕ) (s' : ℕ) → SplitsAt bytes t r s → SplitsAt bytes t' r' s' → SameSplit t r s t' r' s'
splits_once bytes t r s t' r' s' a b =
    let l : length t ≡ length t' = omega (arith, a.first t' r' b.separates, b.first t r a.separates) in
    let x = a.separates in
    let y = b.separates in
    let e : r ≡ r' = marks_once x.behind y.behind r r' (back_is bytes t x.behind x.parted ∙ ap (λ i. drop i bytes) l ∙ sym (back_is bytes t' y.behind y.parted)) x.mark y.mark in
    record {
      text = front_is bytes t x.behind x.parted ∙ ap (λ i. take i bytes) l ∙ sym (front_is bytes t' y.behind y.parted);
      rest = e;
      start = (let f = ap length e in omega (arith, f, a.place, b.place));
    }

pub record SameParts (a b d : List ℕ) (s : ℕ) (a' b' d' : List ℕ) (s' : ℕ) : Type 0 where
  pub first : a ≡ a'
  pub second : b ≡ b'
  pub document : d ≡ d'
  pub start : s ≡ s'

two_once : (bytes a b d : List ℕ) (s : ℕ) (a' b' d' : List ℕ) (s' : ℕ) → InTwo bytes a b s d → InTwo bytes a' b' s' d' → SameParts a b d s a' b' d' s'
two_once bytes a b d s a' b' d' s' p q =
    let o = splits_once bytes a b s a' b' s' p.split q.split in
    record { first = o.text; second = o.rest; document = p.none ∙ sym q.none; start = o.start }

three_once : (bytes a b d : List ℕ) (s : ℕ) (a' b' d' : List ℕ) (s' : ℕ) → InThree bytes a b s d → InThree bytes a' b' s' d' → SameParts a b d s a' b' d' s'
three_once bytes a b d s a' b' d' s' p q =
    let o = splits_once bytes a p.rest s a' q.rest s' p.split q.split in
    let u = splits_once q.rest b d p.from b' d' q.from (subst (λ (r : List ℕ). SplitsAt r b d p.from) o.rest p.second) q.second in
    record { first = o.text; second = u.text; document = u.rest; start = o.start }

pub parts_once : (c : Command) (bytes a b d : List ℕ) (s : ℕ) (a' b' d' : List ℕ) (s' : ℕ) → IsParted c bytes a b s d → IsParted c bytes a' b' s' d' → SameParts a b d s a' b' d' s'
parts_once Same bytes a b d s a' b' d' s' p q = two_once bytes a b d s a' b' d' s' p q
parts_once SamePhase bytes a b d s a' b' d' s' p q = two_once bytes a b d s a' b' d' s' p q
parts_once SameLocal bytes a b d s a' b' d' s' p q = two_once bytes a b d s a' b' d' s' p q
parts_once Prove bytes a b d s a' b' d' s' p q = two_once bytes a b d s a' b' d' s' p q
parts_once Replay bytes a b d s a' b' d' s' p q = three_once bytes a b d s a' b' d' s' p q

three_or_lacks : (bytes a b d : List ℕ) (s : ℕ) → InThree bytes a b s d → NoSplit bytes ⊎ OneOnly bytes → ⊥
three_or_lacks bytes a b d s p (inl h) = h a p.rest p.split.separates
three_or_lacks bytes a b d s p (inr o) =
    let u = splits_once bytes a p.rest s o.text o.rest o.start p.split o.split in
    o.none b d (subst (λ (r : List ℕ). Separates r b d) u.rest p.second.separates)

pub parts_or_lacks : (c : Command) (bytes a b d : List ℕ) (s : ℕ) → IsParted c bytes a b s d → Lacks c bytes → ⊥
parts_or_lacks Same bytes a b d s p h = h a b p.split.separates
parts_or_lacks SamePhase bytes a b d s p h = h a b p.split.separates
parts_or_lacks SameLocal bytes a b d s p h = h a b p.split.separates
parts_or_lacks Prove bytes a b d s p h = h a b p.split.separates
parts_or_lacks Replay bytes a b d s p h = three_or_lacks bytes a b d s p h

pub above_zero : (at n : ℕ) → (at ≡ 0 → ⊥) → at ≤ n → at - 1 < n
above_zero zero n h l = absurd (h refl)
above_zero (suc k) n h l = omega (arith, l)

-- Lines, and blocks of lines.
use Rattle.std.proofs.Common.{◌≡◌, ◌≢◌, ℕ, ◌+◌, ◌-◌, ◌<◌, ◌≤◌, ◌==◌, List, [], ◌∷◌, ◌++◌, length, take, drop, codes, refl, sym, ap, ◌∙◌, subst, arith, append_assoc, append-nil, length-append, take-append-drop}
use Rattle.std.specs.Prelude.{if◌then◌else◌, Some, None}
use Rattle.std.specs.List.{before_first, position, position_or_len}
use Rattle.std.proofs.Math.Seq.{take-append_seam}
use Rattle.ps_script.proofs.WordLemmas.{position_some, position_none, not_below, behind_place, drop_over}
use Rattle.ps_script.specs.Lines.{is_feed, without_return, line_of, rest_of, HasBlock, ends_here, ends_later, HasNoBlock, no_line, no_end}

-- ---- there is one block, or none
pub no_length : (bytes : List ℕ) → length bytes ≡ 0 → bytes ≡ []
no_length [] e = refl
no_length (b ∷ bs) e = absurd (omega arith)

pub record SameBlock (b c : List ℕ) (n m : ℕ) (r s : List ℕ) : Type 0 where
  pub text : b ≡ c
  pub lines : n ≡ m
  pub rest : r ≡ s

front_same : (xs ys zs : List ℕ) → xs ++ zs ≡ ys ++ zs → xs ≡ ys
front_same xs ys zs e = by_length xs ys (let l = ap length e in omega (arith, l, length-append xs zs, length-append ys zs)) e
  where
    by_length : (xs ys : List ℕ) → length xs ≡ length ys → xs ++ zs ≡ ys ++ zs → xs ≡ ys
    by_length [] [] l e = refl
    by_length [] (y ∷ ys) l e = absurd (omega arith)
    by_length (x ∷ xs) [] l e = absurd (omega arith)
    by_length (x ∷ xs) (y ∷ ys) l e =
        let head : x ≡ y = cc in
        let tail : xs ++ zs ≡ ys ++ zs = cc in
        ap (λ z. z ∷ xs) head ∙ ap (λ (l : List ℕ). y ∷ l) (by_length xs ys (omega arith) tail)

pub block_once : (bytes b c : List ℕ) (n m : ℕ) (r s : List ℕ) → HasBlock bytes b n r → HasBlock bytes c m s → SameBlock b c n m r s
block_once bytes b c n m r s (ends_here f l e k g) (ends_here f' l' e' k' g') = record { text = e ∙ sym e'; lines = k ∙ sym k'; rest = g ∙ sym g' }
block_once bytes b c n m r s (ends_here f l e k g) (ends_later front' f' l' p' h' e' k') = absurd (l' l)
block_once bytes b c n m r s (ends_later front f l p h e k) (ends_here f' l' e' k' g') = absurd (l l')
block_once bytes b c n m r s (ends_later {more} {n = i} front f l p h e k) (ends_later {more = more'} {n = j} front' f' l' p' h' e' k') =
    let t = block_once (rest_of bytes) more more' i j r s h h' in
    let same : front ≡ front' = front_same front front' (rest_of bytes) (sym p ∙ p') in
    record {
      text = e ∙ (ap (λ x. x ++ more) same ∙ (ap (λ x. front' ++ x) t.text ∙ sym e'));
      lines = k ∙ (ap (λ x. x + 1) t.lines ∙ sym k');
      rest = t.rest;
    }

pub block_or_none : (bytes b : List ℕ) (n : ℕ) (r : List ℕ) → HasBlock bytes b n r → HasNoBlock bytes → ⊥
block_or_none bytes b n r (ends_here f l e k g) (no_line z) = f z
block_or_none bytes b n r (ends_here f l e k g) (no_end f' l' h') = l' l
block_or_none bytes b n r (ends_later front f l p h e k) (no_line z) = f z
block_or_none bytes b n r (ends_later {more} {n = i} front f l p h e k) (no_end f' l' h') = block_or_none (rest_of bytes) more i r h h'

-- ---- looking for the line `.`: what was passed, and what is still to be looked at
pub record Passed (bytes : List ℕ) (lines : ℕ) (rest : List ℕ) : Type 0 where
  pub front : List ℕ
  pub parted : bytes ≡ front ++ rest
  pub count : lines ≤ length front
  pub found : (text : List ℕ) (n : ℕ) (after : List ℕ) → HasBlock rest text n after → HasBlock bytes (front ++ text) (lines + n) after
  pub missing : HasNoBlock rest → HasNoBlock bytes

-- The first line and its end, in front of what stands behind it.
pub rest_parted : (bytes : List ℕ) → (front : List ℕ) × (bytes ≡ front ++ rest_of bytes)
unfolding rest_of
rest_parted bytes = (take (position_or_len is_feed bytes + 1) bytes, sym (take-append-drop (position_or_len is_feed bytes + 1) bytes))

pub passed_more : (bytes : List ℕ) (lines : ℕ) (rest next : List ℕ) → Passed bytes lines rest → rest ≢ [] → line_of rest ≢ codes "." → next ≡ rest_of rest
    → length next < length rest → Passed bytes (lines + 1) next
passed_more bytes lines rest next p some other e less =
    let q = rest_parted rest in
    let len = ap length q.1 ∙ length-append q.0 (rest_of rest) in
    let len' = ap length e in
    let P : List ℕ → Type 0 = λ x. Passed bytes (lines + 1) x in
    subst P (sym e) (record {
      front = p.front ++ q.0;
      parted = p.parted ∙ (ap (λ x. p.front ++ x) q.1 ∙ sym (append_assoc p.front q.0 (rest_of rest)));
      count = let c = p.count in omega (arith, length-append p.front q.0);
      found = λ text n after h.
          let one = p.found (q.0 ++ text) (n + 1) after (ends_later q.0 some other q.1 h refl refl) in
          let count : lines + (n + 1) ≡ lines + 1 + n = omega arith in
          subst (λ k. HasBlock bytes ((p.front ++ q.0) ++ text) k after) count
          (subst (λ x. HasBlock bytes x (lines + (n + 1)) after) (sym (append_assoc p.front q.0 text)) one);
      missing = λ h. p.missing (no_end some other h);
    })

-- The block that ends at this line.
pub block_found : (bytes : List ℕ) (lines : ℕ) (rest text next : List ℕ) → Passed bytes lines rest → rest ≢ [] → line_of rest ≡ codes "." → next ≡ rest_of rest
    → bytes ≡ text ++ rest → HasBlock bytes text (lines + 1) next
block_found bytes lines rest text next p some is e parted =
    let h = p.found [] 1 next (ends_here some is refl refl e) in
    let same : p.front ++ [] ≡ text = append-nil p.front ∙ front_same p.front text rest (sym p.parted ∙ parted) in
    subst (λ x. HasBlock bytes x (lines + 1) next) same h

pub front_taken : (bytes front rest : List ℕ) (n : ℕ) → bytes ≡ front ++ rest → n + length rest ≡ length bytes → bytes ≡ take n bytes ++ rest
front_taken bytes front rest n e l =
    let k = ap length e ∙ length-append front rest in
    let m : n ≡ length front = omega arith in
    let seam : take n bytes ≡ front = ap (λ i. take i bytes) m ∙ (ap (take (length front)) e ∙ take-append_seam front rest) in
    e ∙ ap (λ x. x ++ rest) (sym seam)

-- ---- the first line
pub line_some : (bytes : List ℕ) (at : ℕ) → Some at ≡ position (λ b. b == 10) bytes → without_return (take at bytes) ≡ line_of bytes
unfolding line_of
line_some bytes at e =
    let h = position_some (λ b. b == 10) bytes at e in
    sym (ap (λ t. if t then without_return (before_first is_feed bytes) else bytes) h.0 ∙ ap (λ k. without_return (take k bytes)) h.1)

pub rest_some : (bytes : List ℕ) (at : ℕ) → Some at ≡ position (λ b. b == 10) bytes → take (length bytes - (at + 1)) (drop (at + 1) bytes) ≡ rest_of bytes
unfolding rest_of
rest_some bytes at e =
    let h = position_some (λ b. b == 10) bytes at e in
    behind_place bytes at ∙ ap (λ k. drop (k + 1) bytes) (sym h.1)

pub line_none : (bytes : List ℕ) → None ≡ position (λ b. b == 10) bytes → bytes ≡ line_of bytes
unfolding line_of
line_none bytes e = sym (ap (λ t. if t then without_return (before_first is_feed bytes) else bytes) (position_none (λ b. b == 10) bytes e))

pub rest_none : (bytes : List ℕ) → None ≡ position (λ b. b == 10) bytes → [] ≡ rest_of bytes
unfolding rest_of
rest_none bytes e = sym (drop_over bytes (position_or_len is_feed bytes + 1) (let h = not_below _ _ (position_none (λ b. b == 10) bytes e) in omega arith))

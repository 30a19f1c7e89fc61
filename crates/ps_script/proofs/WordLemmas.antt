-- Words, and numbers as they are written.
use Rattle.std.proofs.Common.{◌≡◌, ◌≢◌, ℕ, zero, suc, ◌+◌, ◌-◌, ◌*◌, ◌/◌, ◌%◌, ◌^◌, ◌<◌, ◌≤◌, ◌==◌, Bool, true, false, cond, List, [], ◌∷◌, ◌++◌, length, take, drop, decimal, Some, None, refl, sym, ap, ◌∙◌, arith, length-drop, get_or, add-one, drop-cons, not}
use Rattle.std.specs.Prelude.{nat_lt}
use Rattle.std.specs.List.{onto_first, position, position_or_len, list_all, join_with_byte}
use Rattle.std.proofs.lemmas.Bool.{and_parts}
use Rattle.std.proofs.lemmas.Bool.Decides.{nat_tests}
use Rattle.std.proofs.lemmas.List.Splits.{slice_split_first, join_with_byte-slice_split}
use Rattle.std.proofs.lemmas.List.{take_all}
use Rattle.std.proofs.lemmas.Fmt.{decimal_by_steps}
use Rattle.ps_script.specs.Names.{is_name, is_lower, is_rest}
use Rattle.ps_script.specs.Words.{words, digits_value, SpellsNumber, NoNumber}

pub not_both : (b : Bool) → b ≡ true → b ≡ false → ⊥
not_both b h k = let e : true ≡ false = sym h ∙ k in cc

-- ---- one word
-- no byte is a space
unfoldable pub has_no_space : List ℕ → Bool
has_no_space [] = true
has_no_space (b ∷ bs) = cond (b == 32) false (has_no_space bs)

one_word : (bs : List ℕ) → has_no_space bs ≡ true → words bs ≡ bs ∷ []
unfolding has_no_space
one_word [] h = refl
one_word (b ∷ bs) h =
    let F : Bool → Type 0 = λ t. cond t false (has_no_space bs) ≡ true → cond t ([] ∷ words bs) (onto_first b (words bs)) ≡ (b ∷ bs) ∷ [] in
    (elim (b == 32) as F [
      | true ↦ (λ e. cc)
      | false ↦ (λ e. ap (onto_first b) (one_word bs e))
    ]) h

no_space_append : (xs ys : List ℕ) → has_no_space xs ≡ true → has_no_space ys ≡ true → has_no_space (xs ++ ys) ≡ true
unfolding has_no_space
no_space_append [] ys h k = k
no_space_append (b ∷ bs) ys h k =
    let F : Bool → Type 0 = λ t. cond t false (has_no_space bs) ≡ true → cond t false (has_no_space (bs ++ ys)) ≡ true in
    (elim (b == 32) as F [ true ↦ (λ e. e) | false ↦ (λ e. no_space_append bs ys e k) ]) h

-- a word that stands alone is all of the bytes
pub alone : (bs w : List ℕ) → words bs ≡ w ∷ [] → bs ≡ w
alone bs w e = sym (join_with_byte-slice_split 32 bs) ∙ ap (join_with_byte 32) e

-- ---- names are words
other_than_space : (b : ℕ) → is_rest b ≡ true → (b == 32) ≡ false
other_than_space b h = grind (arith, nat_tests)

lower_is_rest : (b : ℕ) → is_lower b ≡ true → is_rest b ≡ true
lower_is_rest b h = grind (arith, nat_tests)

rest_has_no_space : (bs : List ℕ) → list_all is_rest bs ≡ true → has_no_space bs ≡ true
unfolding has_no_space
rest_has_no_space [] h = refl
rest_has_no_space (b ∷ bs) h =
    let p = and_parts _ _ h in
    ap (λ t. cond t false (has_no_space bs)) (other_than_space b p.0) ∙ rest_has_no_space bs p.1

pub name_word : (n : List ℕ) → is_name n ≡ true → words n ≡ n ∷ []
unfolding is_name has_no_space
name_word [] h = absurd (cc)
name_word (b ∷ bs) h =
    let p = and_parts _ _ (and_parts _ _ h).1 in
    one_word (b ∷ bs) (ap (λ t. cond t false (has_no_space bs)) (other_than_space b (lower_is_rest b p.0)) ∙ rest_has_no_space bs p.1)

-- ---- numbers are words
digit_has_no_space : (m : ℕ) → m < 10 → has_no_space ((48 + m) ∷ []) ≡ true
unfolding has_no_space
digit_has_no_space m h = let e : ((48 + m) == 32) ≡ false = grind (arith, nat_tests) in ap (λ t. cond t false true) e

decimal_has_no_space : (n : ℕ) → n < 2 ^ 64 → has_no_space (decimal n) ≡ true
decimal_has_no_space n h = decimal_by_steps (λ m ds. has_no_space ds ≡ true) digit_has_no_space
    (λ m ds big e. no_space_append ds ((48 + m % 10) ∷ []) e (digit_has_no_space (m % 10) (omega arith))) n h

pub number_word : (bytes : List ℕ) (v : ℕ) → SpellsNumber bytes v → words bytes ≡ decimal v ∷ []
number_word bytes v s =
    let below : v < 2 ^ 64 = let b = s.below in omega arith in
    ap words (sym s.spelled) ∙ one_word (decimal v) (decimal_has_no_space v below)

pub number_alone : (bytes : List ℕ) (v : ℕ) → v < 2 ^ 32 → NoNumber bytes → words bytes ≡ decimal v ∷ [] → ⊥
number_alone bytes v below none e = none v below (sym (alone bytes (decimal v) e))

-- ---- what digits come to
value_push : (v : ℕ) (ds : List ℕ) (d : ℕ) → digits_value v (ds ++ d ∷ []) ≡ ((digits_value v ds * 10) % 2 ^ 32 + (d + 208) % 256) % 2 ^ 32
unfolding digits_value
value_push v [] d = refl
value_push v (b ∷ bs) d = value_push (((v * 10) % 2 ^ 32 + (b + 208) % 256) % 2 ^ 32) bs d

value_one : (m : ℕ) → m < 10 → digits_value 0 ((48 + m) ∷ []) ≡ m % 2 ^ 32
unfolding digits_value
value_one m h = omega arith

value_more : (m : ℕ) (ds : List ℕ) → 10 ≤ m → digits_value 0 ds ≡ m / 10 % 2 ^ 32 → digits_value 0 (ds ++ (48 + m % 10) ∷ []) ≡ m % 2 ^ 32
value_more m ds big e = value_push 0 ds (48 + m % 10) ∙ (ap (λ x. ((x * 10) % 2 ^ 32 + (48 + m % 10 + 208) % 256) % 2 ^ 32) e ∙ omega arith)

value_decimal : (n : ℕ) → n < 2 ^ 32 → digits_value 0 (decimal n) ≡ n
value_decimal n h =
    let e = decimal_by_steps (λ m ds. digits_value 0 ds ≡ m % 2 ^ 32) value_one value_more n (omega arith) in omega (arith, e)

-- The bytes are the number that they come to, or none.
pub number_none : (bytes : List ℕ) (v : ℕ) → v ≡ digits_value 0 bytes → decimal v ≢ bytes → NoNumber bytes
number_none bytes v e other w below same =
    let one : v ≡ w = e ∙ (ap (digits_value 0) (sym same) ∙ value_decimal w below) in
    other (ap decimal one ∙ same)

-- One more byte, and the end.
pub value_step : (bytes : List ℕ) (v i digit : ℕ) → i < length bytes → digit ≡ (get_or bytes i 0 + 208) % 256
    → digits_value v (drop i bytes) ≡ digits_value 0 bytes
    → digits_value (((v * 10) % 2 ^ 32 + digit) % 2 ^ 32) (drop (i + 1) bytes) ≡ digits_value 0 bytes
unfolding digits_value
value_step bytes v i digit h e so =
    let parted : drop i bytes ≡ get_or bytes i 0 ∷ drop (i + 1) bytes = rw (add-one, drop-cons bytes i 0) in
    ap (λ x. digits_value (((v * 10) % 2 ^ 32 + x) % 2 ^ 32) (drop (i + 1) bytes)) e ∙ (ap (digits_value v) (sym parted) ∙ so)

pub drop_over : (bytes : List ℕ) (n : ℕ) → length bytes ≤ n → drop n bytes ≡ []
drop_over [] zero h = refl
drop_over [] (suc n) h = refl
drop_over (b ∷ bs) zero h = absurd (omega arith)
drop_over (b ∷ bs) (suc n) h = drop_over bs n (omega arith)

pub value_end : (bytes : List ℕ) (v i : ℕ) → length bytes ≤ i → digits_value v (drop i bytes) ≡ digits_value 0 bytes → v ≡ digits_value 0 bytes
unfolding digits_value
value_end bytes v i h so = sym (ap (digits_value v) (drop_over bytes i h)) ∙ so

-- ---- where a byte stands first
pub position_some : (p : ℕ → Bool) (bytes : List ℕ) (at : ℕ) → Some at ≡ position p bytes
    → (nat_lt (position_or_len p bytes) (length bytes) ≡ true) × (position_or_len p bytes ≡ at)
position_some p bytes at e =
    let F : Bool → Type 0 = λ t. nat_lt (position_or_len p bytes) (length bytes) ≡ t → Some at ≡ cond t (Some (position_or_len p bytes)) None
    → (nat_lt (position_or_len p bytes) (length bytes) ≡ true) × (position_or_len p bytes ≡ at) in
    (elim (nat_lt (position_or_len p bytes) (length bytes)) as F [
      | true ↦ (λ k h. (k, (let same : at ≡ position_or_len p bytes = cc in sym same)))
      | false ↦ (λ k h. absurd (cc))
    ]) refl e

pub position_none : (p : ℕ → Bool) (bytes : List ℕ) → None ≡ position p bytes → nat_lt (position_or_len p bytes) (length bytes) ≡ false
position_none p bytes e =
    let F : Bool → Type 0 = λ t. nat_lt (position_or_len p bytes) (length bytes) ≡ t → None ≡ cond t (Some (position_or_len p bytes)) None
    → nat_lt (position_or_len p bytes) (length bytes) ≡ false in
    (elim (nat_lt (position_or_len p bytes) (length bytes)) as F [
      | true ↦ (λ k h. absurd (let z : None ≡ Some (position_or_len p bytes) = h in cc))
      | false ↦ (λ k h. k)
    ]) refl e

pub below_of : (m n : ℕ) → nat_lt m n ≡ true → m < n
below_of m n h = grind (arith, nat_tests)

pub not_below : (m n : ℕ) → nat_lt m n ≡ false → n ≤ m
not_below m n h = grind (arith, nat_tests)

-- what stands behind a place
pub behind_place : (bytes : List ℕ) (at : ℕ) → take (length bytes - (at + 1)) (drop (at + 1) bytes) ≡ drop (at + 1) bytes
behind_place bytes at = take_all (length bytes - (at + 1)) (drop (at + 1) bytes) (omega (arith, length-drop (at + 1) bytes))

pub cut_some : (bytes : List ℕ) (at : ℕ) → Some at ≡ position (λ b. b == 32) bytes
    → words bytes ≡ take at bytes ∷ words (take (length bytes - (at + 1)) (drop (at + 1) bytes))
cut_some bytes at e =
    let h = position_some (λ b. b == 32) bytes at e in
    slice_split_first (λ b. b == 32) bytes 0 (below_of _ _ h.0)
    ∙ (ap (λ k. take k bytes ∷ words (drop (k + 1) bytes)) h.1 ∙ ap (λ x. take at bytes ∷ words x) (sym (behind_place bytes at)))

no_space : (bs : List ℕ) → length bs ≤ position_or_len (λ b. b == 32) bs → has_no_space bs ≡ true
unfolding has_no_space
no_space [] h = refl
no_space (b ∷ bs) h =
    let F : Bool → Type 0 = λ t. length (b ∷ bs) ≤ cond (not t) (1 + position_or_len (λ b. b == 32) bs) 0 → cond t false (has_no_space bs) ≡ true in
    (elim (b == 32) as F [ true ↦ (λ e. absurd (omega arith)) | false ↦ (λ e. no_space bs (omega arith)) ]) h

pub cut_none : (bytes : List ℕ) → None ≡ position (λ b. b == 32) bytes → words bytes ≡ bytes ∷ []
cut_none bytes e = one_word bytes (no_space bytes (not_below _ _ (position_none (λ b. b == 32) bytes e)))

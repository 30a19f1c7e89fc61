-- Names by their first byte and the rest.
use Rattle.std.proofs.Common.{◌≡◌, ℕ, ◌<◌, ◌≤◌, Bool, false, ◌&&◌, List, [], ◌∷◌, length, drop, refl, arith}
use Rattle.std.specs.Prelude.{nat_le, slice_index}
use Rattle.std.specs.List.{list_all}
use Rattle.std.proofs.lemmas.Bool.Decides.{nat_tests}
use Rattle.ps_script.specs.Names.{is_name, is_word, is_lower, is_rest}

within : (n : ℕ) (b : Bool) → n ≤ 32 → (nat_le n 32 && b) ≡ b
within n b h = grind (arith, nat_tests)

pub name_empty : (bs : List ℕ) → length bs ≡ 0 → is_name bs ≡ false
unfolding is_name
name_empty [] h = refl
name_empty (b ∷ bs) h = absurd (omega arith)

pub name_long : (bs : List ℕ) → 32 < length bs → is_name bs ≡ false
unfolding is_name
name_long bs h = grind (arith, nat_tests)

pub name_is : (bs : List ℕ) → 0 < length bs → length bs ≤ 32 → is_name bs ≡ (is_lower (slice_index bs 0) && list_all is_rest (drop 1 bs))
unfolding is_name
name_is [] h k = absurd (omega arith)
name_is (b ∷ bs) h k = within (length (b ∷ bs)) (is_word (b ∷ bs)) k

pub ruleset spelling = (name_empty, name_long, name_is)

-- When versions stop being kept.
use Rattle.std.proofs.Common.{◌≡◌, ℕ, zero, suc, ◌+◌, ◌-◌, ◌<◌, refl, sym, subst, arith, Bool, true, false, ◌||◌}
use Rattle.std.specs.Prelude.{Option, Some, None, is_none, nat_lt}
use Rattle.std.proofs.lemmas.Bool.Decides.{nat_tests}
use Rattle.ps_versions.specs.Held.{Version}
use Rattle.ps_versions.specs.Lives.{IsLife, retired, pinned, unpinned, ended_where_free, ended_after}
use Rattle.ps_versions.specs.Opened.{fresh_version}

pub fresh_life : (root : Option ℕ) → IsLife (fresh_version root)
fresh_life root = record { few = omega arith; ended = refl }

free_end : (pins entry : ℕ) → is_none (ended_where_free pins entry) ≡ nat_lt 0 pins
free_end zero entry = refl
free_end (suc pins) entry = grind (arith, nat_tests)

pub retired_life : (entry : ℕ) (v : Version) → IsLife v → IsLife (retired entry v)
retired_life entry v h = record { few = h.few; ended = free_end v.pins entry }

pub pinned_life : (v : Version) → v.retired ≡ None → v.pins < 128 → IsLife v → IsLife (pinned v)
pinned_life v live few h = record { few = omega (arith, few); ended = of v.retired v.ended live h.ended }
  where
    of : (r e : Option ℕ) → r ≡ None → is_none e ≡ (is_none r || nat_lt 0 v.pins) → is_none e ≡ (is_none r || nat_lt 0 (v.pins + 1))
    of None e h k = k
    of (Some i) e h k = cc

after_end : (r e : Option ℕ) (pins entry : ℕ) → is_none e ≡ (is_none r || nat_lt 0 (suc pins)) → is_none (ended_after r pins entry e) ≡ (is_none r || nat_lt 0 pins)
after_end None e pins entry h = h
after_end (Some i) e zero entry h = refl
after_end (Some i) e (suc pins) entry h = below (nat_lt 0 (suc (suc pins))) (nat_lt 0 (suc pins)) (is_none e) (grind (arith, nat_tests)) (grind (arith, nat_tests)) h
  where
    below : (a b c : Bool) → a ≡ true → b ≡ true → c ≡ (false || a) → c ≡ (false || b)
    below a b c p q h = cc

pub unpinned_life : (entry : ℕ) (v : Version) → 0 < v.pins → IsLife v → IsLife (unpinned entry v)
unpinned_life entry v some h = record { few = omega (arith, h.few); ended = of v.pins some h.ended }
  where
    of : (pins : ℕ) → 0 < pins → is_none v.ended ≡ (is_none v.retired || nat_lt 0 pins) → is_none (ended_after v.retired (pins - 1) entry v.ended) ≡ (is_none v.retired || nat_lt 0 (pins - 1))
    of zero p k = absurd (omega arith)
    of (suc n) p k = let e : suc n - 1 ≡ n = omega arith in subst (λ m. is_none (ended_after v.retired m entry v.ended) ≡ (is_none v.retired || nat_lt 0 m)) (sym e) (after_end v.retired v.ended n entry k)

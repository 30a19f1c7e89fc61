-- What unpinning, pinning and retiring do to one version.
use Rattle.std.proofs.Common.{◌≡◌, ◌<◌, ◌≤◌, ◌+◌, ◌-◌, ℕ, zero, suc, Bool, true, false, ◌||◌, refl, sym, ap, ap₂, ◌∙◌, subst, arith, ltb-true, lt-ltb, le-ltb, ◌⊎◌, inl, inr}
use Rattle.std.specs.Prelude.{Option, Some, None, is_none, nat_lt}
use Rattle.std.proofs.lemmas.Bool.{or_cases, or_left, or_right}
use Rattle.std.proofs.lemmas.Bool.Decides.{nat_tests}
use Rattle.ps_versions.specs.Held.{Version}
use Rattle.ps_versions.specs.Lives.{is_kept, IsLife, unpinned, pinned, retired, ended_after, ended_where_free}
use Rattle.ps_journal.specs.Keeping.{ended_by}
use Rattle.ps_views.specs.Changes.{Fades, Rises, IsNotedBy, Keeps}

-- ---- when a version is kept
kept_less : (r : Option ℕ) (m n : ℕ) → m ≤ n → (is_none r || nat_lt 0 m) ≡ true → (is_none r || nat_lt 0 n) ≡ true
kept_less None m n h e = refl
kept_less (Some i) m n h e = let p : 0 < m = ltb-true 0 m e in lt-ltb 0 n (omega (arith, h, p))

same_kept : (x y : Version) → y.retired ≡ x.retired → y.pins ≡ x.pins → is_kept y ≡ is_kept x
same_kept x y e f = ap₂ (λ r n. is_none r || nat_lt 0 n) e f

less_kept : (x y : Version) → y.retired ≡ x.retired → y.pins ≤ x.pins → is_kept y ≡ true → is_kept x ≡ true
less_kept x y e f k = kept_less x.retired y.pins x.pins f (ap (λ r. is_none r || nat_lt 0 y.pins) (sym e) ∙ k)

live_kept : (x : Version) → x.retired ≡ None → is_kept x ≡ true
live_kept x e = ap (λ r. is_none r || nat_lt 0 x.pins) e

-- ---- what a version notes
ended_same : (entry : ℕ) (k : Bool) (ended : Option ℕ) → is_none ended ≡ k → ended_by entry k ended ≡ ended
ended_same entry true ended e = refl
ended_same entry false None e = cc
ended_same entry false (Some j) e = refl

ended_twice : (entry : ℕ) (k m : Bool) (ended : Option ℕ) → (k ≡ true → m ≡ true) → ended_by entry k (ended_by entry m ended) ≡ ended_by entry k ended
ended_twice entry true true ended h = refl
ended_twice entry true false ended h = let e : false ≡ true = h refl in cc
ended_twice entry false true ended h = refl
ended_twice entry false false None h = refl
ended_twice entry false false (Some j) h = refl

ended_none : (entry : ℕ) (k m : Bool) (ended : Option ℕ) → (k ≡ true → m ≡ true) → is_none ended ≡ m → is_none (ended_by entry k ended) ≡ k
ended_none entry true m ended h e = e ∙ h refl
ended_none entry false m None h e = refl
ended_none entry false m (Some j) h e = refl

-- ---- unpinned
pub fades_none : (entry : ℕ) (x : Version) → IsLife x → Fades entry 0 x x
fades_none entry x life = record { root = refl; retired = refl; pins = omega arith; ended = sym (ended_same entry (is_kept x) x.ended life.ended) }

pub fades_one : (entry : ℕ) (x : Version) → IsLife x → 0 < x.pins → Fades entry 1 x (unpinned entry x)
fades_one entry x life some = record { root = refl; retired = refl; pins = omega (arith, some); ended = by x.retired x.ended (x.pins - 1) life.ended refl }
  where
    pinned_kept : is_kept x ≡ true
    pinned_kept = or_right (is_none x.retired) (nat_lt 0 x.pins) (lt-ltb 0 x.pins some)

    by : (r ended : Option ℕ) (n : ℕ) → is_none ended ≡ is_kept x → is_kept x ≡ is_kept x → ended_after r n entry ended ≡ ended_by entry (is_none r || nat_lt 0 n) ended
    by None ended n e q = refl
    by (Some j) None zero e q = refl
    by (Some j) (Some i) zero e q = let f : false ≡ true = e ∙ pinned_kept in cc
    by (Some j) ended (suc n) e q = sym (ap (λ b. ended_by entry b ended) (lt-ltb 0 (suc n) (omega arith)))

pub fades_kept : (entry n : ℕ) (x y : Version) → Fades entry n x y → is_kept y ≡ true → is_kept x ≡ true
fades_kept entry n x y f k = less_kept x y f.retired (omega (arith, f.pins)) k

pub fades_life : (entry n : ℕ) (x y : Version) → IsLife x → Fades entry n x y → IsLife y
fades_life entry n x y life f = record {
  few = omega (arith, life.few, f.pins);
  ended = ap is_none f.ended ∙ ended_none entry (is_kept y) (is_kept x) x.ended (fades_kept entry n x y f) life.ended;
}

pub fades_then : (entry m n : ℕ) (x y z : Version) → Fades entry m x y → Fades entry n y z → Fades entry (m + n) x z
fades_then entry m n x y z a b = record {
  root = b.root ∙ a.root;
  retired = b.retired ∙ a.retired;
  pins = omega (arith, a.pins, b.pins);
  ended = b.ended ∙ ap (ended_by entry (is_kept z)) a.ended ∙ ended_twice entry (is_kept z) (is_kept y) x.ended (fades_kept entry n y z b);
}

-- ---- pinned
pub rises_none : (x : Version) → Rises 0 x x
rises_none x = record { root = refl; retired = refl; pins = omega arith; ended = refl; live = λ h. absurd (omega (arith, h)) }

pub rises_one : (x : Version) → x.retired ≡ None → Rises 1 x (pinned x)
rises_one x live = record { root = refl; retired = refl; pins = refl; ended = refl; live = λ _. live }

pub rises_then : (m n : ℕ) (x y z : Version) → Rises m x y → Rises n y z → Rises (m + n) x z
rises_then m n x y z a b = record {
  root = b.root ∙ a.root;
  retired = b.retired ∙ a.retired;
  pins = omega (arith, a.pins, b.pins);
  ended = b.ended ∙ a.ended;
  live = λ h. by m n h a.live b.live;
}
  where
    by : (m n : ℕ) → 0 < m + n → (0 < m → x.retired ≡ None) → (0 < n → y.retired ≡ None) → x.retired ≡ None
    by zero n h p q = sym a.retired ∙ q (omega (arith, h))
    by (suc m) n h p q = p (omega arith)

pub rises_kept : (n : ℕ) (x y : Version) → Rises n x y → is_kept y ≡ is_kept x
rises_kept n x y r = by n r.pins r.live
  where
    by : (n : ℕ) → y.pins ≡ x.pins + n → (0 < n → x.retired ≡ None) → is_kept y ≡ is_kept x
    by zero p l = same_kept x y r.retired (omega (arith, p))
    by (suc n) p l = let live : x.retired ≡ None = l (omega arith) in live_kept y (r.retired ∙ live) ∙ sym (live_kept x live)

pub rises_life : (n : ℕ) (x y : Version) → IsLife x → Rises n x y → y.pins ≤ 128 → IsLife y
rises_life n x y life r few = record { few = few; ended = ap is_none r.ended ∙ life.ended ∙ sym (rises_kept n x y r) }

-- ---- what all of them keep
pub fades_noted : (entry n : ℕ) (x y : Version) → Fades entry n x y → IsNotedBy entry x y
fades_noted entry n x y f = record { root = f.root; retired = f.retired; ended = f.ended }

pub noted_rises : (entry n : ℕ) (x y z : Version) → IsNotedBy entry x y → Rises n y z → IsNotedBy entry x z
noted_rises entry n x y z a b = record { root = b.root ∙ a.root; retired = b.retired ∙ a.retired; ended = b.ended ∙ a.ended ∙ ap (λ k. ended_by entry k x.ended) (sym (rises_kept n y z b)) }

pub fades_keeps : (entry n : ℕ) (x y : Version) → IsLife x → Fades entry n x y → Keeps x y
fades_keeps entry n x y life f = record { root = f.root; life = fades_life entry n x y life f; kept = fades_kept entry n x y f }

pub rises_keeps : (n : ℕ) (x y : Version) → IsLife x → Rises n x y → y.pins ≤ 128 → Keeps x y
rises_keeps n x y life r few = record { root = r.root; life = rises_life n x y life r few; kept = λ k. sym (rises_kept n x y r) ∙ k }

pub noted_same : (entry : ℕ) (x : Version) → IsLife x → IsNotedBy entry x x
noted_same entry x life = record { root = refl; retired = refl; ended = sym (ended_same entry (is_kept x) x.ended life.ended) }

pub keeps_same : (x : Version) → IsLife x → Keeps x x
keeps_same x life = record { root = refl; life = life; kept = λ k. k }

-- ---- retired
ended_free : (entry n : ℕ) (ended : Option ℕ) → ended ≡ None → ended_where_free n entry ≡ ended_by entry (nat_lt 0 n) ended
ended_free entry zero None e = refl
ended_free entry zero (Some j) e = cc
ended_free entry (suc n) ended e = sym e ∙ sym (ap (λ b. ended_by entry b ended) (lt-ltb 0 (suc n) (omega arith)))

none_is : (o : Option ℕ) → is_none o ≡ true → o ≡ None
none_is None e = refl
none_is (Some j) e = cc

pub retired_noted : (entry : ℕ) (x : Version) → IsLife x → x.retired ≡ None → IsNotedBy entry (record x { retired = Some entry }) (retired entry x)
retired_noted entry x life live = record { root = refl; retired = refl; ended = ended_free entry x.pins x.ended (none_is x.ended (life.ended ∙ live_kept x live)) }

pub retired_keeps : (entry : ℕ) (x : Version) → IsLife x → x.retired ≡ None → Keeps x (retired entry x)
retired_keeps entry x life live = record { root = refl; life = record { few = life.few; ended = by x.pins }; kept = λ _. live_kept x live }
  where
    by : (n : ℕ) → is_none (ended_where_free n entry) ≡ nat_lt 0 n
    by zero = refl
    by (suc n) = sym (lt-ltb 0 (suc n) (omega arith))

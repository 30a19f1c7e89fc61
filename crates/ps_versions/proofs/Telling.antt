-- What is told of versions and circuits, read back.
use Rattle.std.proofs.Common.{◌≡◌, ℕ, ◌<◌, List, [], ◌∷◌, length, refl, sym, ap, ◌∙◌, arith, true, ◌||◌}
use Rattle.std.specs.Prelude.{Option, Some, None, IsSome, is_none, nat_lt}
use Rattle.ps_versions.specs.Held.{Held, Version, Circuit}
use Rattle.ps_versions.specs.Lookup.{place_of, circuit_at, version_in, version_at, root_of}
use Rattle.ps_versions.specs.Reached.{is_segment, is_reached}
use Rattle.ps_versions.proofs.Reaching.{reached_by}
use Rattle.ps_versions.specs.Lives.{is_kept, IsLive, IsPinned, IsEarlier, HasFewPins}
use Rattle.ps_versions.specs.Spliced.{latest_of, latest_root}
use Rattle.ps_versions.specs.Told.{about, Tells}
use Rattle.ps_versions.specs.declared.data.About.{About}
use Rattle.ps_versions.specs.declared.data.State.{State}

live_as : (r v : Option ℕ) → r ≡ v → is_none r ≡ true → v ≡ None
live_as None v e h = sym e
live_as (Some i) v e h = cc

pub live_told : (o : Option Version) (s : State) → Tells o s → is_none s.retired ≡ true → IsLive o
live_told None s t h = absurd t
live_told (Some v) s t h = live_as s.retired v.retired t.0 h

pub few_told : (o : Option Version) (s : State) → Tells o s → s.pins < 128 → HasFewPins o
few_told None s t h = absurd t
few_told (Some v) s t h = omega (arith, t.1, h)

pub pinned_told : (o : Option Version) (s : State) → Tells o s → 0 < s.pins → IsPinned o
pinned_told None s t h = absurd t
pinned_told (Some v) s t h = omega (arith, t.1, h)

latest_is : (a b : About) → Some a ≡ Some b → a.latest ≡ b.latest
latest_is a b e = let same : a ≡ b = cc in ap (λ x. x.latest) same

pub earlier_told : (o : Option Circuit) (a : About) (n : ℕ) → Some a ≡ about o → n < a.latest → IsEarlier o n
earlier_told None a n e h = cc
earlier_told (Some c) a n e h = omega (arith, latest_is a (record { qubits = c.qubits; opened = c.opened; latest = length c.versions }) e, h)

pub there_told : (o : Option Circuit) (a : About) → Some a ≡ about o → IsSome o
there_told None a e = cc
there_told (Some c) a e = refl

pub latest_told : (o : Option Circuit) (a : About) → Some a ≡ about o → latest_of o ≡ a.latest
latest_told None a e = cc
latest_told (Some c) a e = sym (latest_is a (record { qubits = c.qubits; opened = c.opened; latest = length c.versions }) e)

pub root_told : (o : Option Circuit) (a : About) → Some a ≡ about o → root_of (version_in o a.latest) ≡ latest_root o
root_told None a e = cc
root_told (Some c) a e = ap (λ n. root_of (version_in (Some c) n)) (sym (latest_told (Some c) a e))

pub nobody : (cs : List Circuit) (name : List ℕ) → cs ≡ [] → circuit_at cs name ≡ None
unfolding place_of
nobody [] name e = refl
nobody (c ∷ cs) name e = cc

-- a segment of a version that has no end is reached
pub reached_told : {R : Type 0} (h : Held R) (name : List ℕ) (n k : ℕ) (s : State) → is_segment h (version_at h.circuits name n) k ≡ true → Tells (version_at h.circuits name n) s → is_none s.ended ≡ (is_none s.retired || nat_lt 0 s.pins) → is_none s.ended ≡ true → is_reached h k ≡ true
reached_told h name n k s seg told kept ended = at (version_at h.circuits name n) refl seg told
  where
    at : (o : Option Version) → version_at h.circuits name n ≡ o → is_segment h o k ≡ true → Tells o s → is_reached h k ≡ true
    at None e seg told = absurd told
    at (Some v) e seg told =
        let same : is_kept v ≡ (is_none s.retired || nat_lt 0 s.pins) = ap (λ r. is_none r || nat_lt 0 v.pins) (sym told.0) ∙ ap (λ m. is_none s.retired || nat_lt 0 m) (sym told.1) in
        reached_by h name n v k e (same ∙ sym kept ∙ ended) seg

-- When a version is kept, and what retiring, pinning and releasing do to it.
use Rattle.std.specs.Prelude.{ℕ, zero, suc, ◌+◌, ◌-◌, ◌≡◌, ◌<◌, ◌≤◌, Bool, ◌||◌, is_none, nat_lt, List, length, Option, Some, None}
use Rattle.ps_versions.specs.Held.{Version, Circuit}
use Rattle.ps_versions.specs.Lookup.{version_at, replaced}

-- a version is kept while it is live or pinned
abbrev pub is_kept : Version → Bool
is_kept v = is_none v.retired || nat_lt 0 v.pins

-- it has at most 128 pins, and an entry by which it stopped being kept exactly where it is not kept
pub record IsLife (v : Version) : Type 0 where
  pub few : v.pins ≤ 128
  pub ended : is_none v.ended ≡ is_kept v

-- where nothing pins it, it stops being kept by this entry
abbrev pub ended_where_free : ℕ → ℕ → Option ℕ
ended_where_free zero entry = Some entry
ended_where_free (suc pins) entry = None

abbrev pub retired : ℕ → Version → Version
retired entry v = record v { retired = Some entry; ended = ended_where_free v.pins entry }

abbrev pub pinned : Version → Version
pinned v = record v { pins = v.pins + 1 }

-- a version that is retired stops being kept with its last pin
abbrev pub ended_after : Option ℕ → ℕ → ℕ → Option ℕ → Option ℕ
ended_after None pins entry ended = ended
ended_after (Some by) zero entry ended = Some entry
ended_after (Some by) (suc pins) entry ended = ended

abbrev pub unpinned : ℕ → Version → Version
unpinned entry v = record v { pins = v.pins - 1; ended = ended_after v.retired (v.pins - 1) entry v.ended }

abbrev pub IsLive : Option Version → Type 0
IsLive None = ⊥
IsLive (Some v) = v.retired ≡ None

abbrev pub IsPinned : Option Version → Type 0
IsPinned None = ⊥
IsPinned (Some v) = 0 < v.pins

abbrev pub HasFewPins : Option Version → Type 0
HasFewPins None = ⊥
HasFewPins (Some v) = v.pins < 128

-- the version is not the latest of its circuit
abbrev pub IsEarlier : Option Circuit → ℕ → Type 0
IsEarlier None number = ⊥
IsEarlier (Some c) number = number < length c.versions

-- where the version is the latest of its circuit, no entry retired it
abbrev pub IsLiveAtEnd : Option Circuit → ℕ → Option ℕ → Type 0
IsLiveAtEnd None number retired = Unit {0}
IsLiveAtEnd (Some c) number retired = number ≡ length c.versions → retired ≡ None

-- the version at the place is changed by f, and nothing else
abbrev pub changed_to : (Version → Version) → List Circuit → List ℕ → ℕ → Option Version → List Circuit
changed_to f cs name number None = cs
changed_to f cs name number (Some v) = replaced cs name number (f v)

abbrev pub ChangesTo : (Version → Version) → List Circuit → List Circuit → List ℕ → ℕ → Type 0
ChangesTo f old new name number = new ≡ changed_to f old name number (version_at old name number)

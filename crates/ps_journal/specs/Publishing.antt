-- Publishing the record of a claimed segment.
use Rattle.std.specs.Prelude.{ℕ, ◌+◌, ◌≡◌, ◌<◌, ◌≤◌, min, List, ◌∷◌, Contains, slice_set, Option, Some, None}
use Rattle.std.specs.declared.sync.Arc.{Arc}
use Rattle.std.specs.declared.alloc.Global.{Global}
use Rattle.seg_tree.specs.Trees.{Tree, name_of, run}
use Rattle.ps_reach.specs.declared.record.Record.{Record}
use Rattle.ps_reach.specs.Runs.{run_of}
use Rattle.ps_reach.specs.Parts.{IsRight}
use Rattle.ps_reach.specs.Sizes.{record_size}
use Rattle.ps_journal.specs.declared.seats.Pin.{Pin}
use Rattle.ps_journal.specs.declared.seats.Claim.{Claim}
use Rattle.ps_journal.specs.declared.replies.Reply.{Reply}
use Rattle.ps_journal.specs.declared.replies.Reply.TheVariants.{Published, Stands, NoClaim, Dropped, Already, OtherRun, NoRoom}
use Rattle.ps_journal.specs.State.{Item, Version, Circuit, State, Finds, pin_of, claim_of, unclaimed, most_terms}
use Rattle.ps_journal.specs.State.{Published as Publication}
use Rattle.ps_journal.specs.Segments.{segments_of, published_at}

-- the seat has a claim on this segment of this version
pub record Claims (t : State) (seat : ℕ) (claim : Claim) (c : Circuit) (v : Version) (s : Tree Item) : Type 0 where
  pub claim_is : claim_of t seat ≡ Some claim
  pub found : Finds t claim.place c v
  pub within : Contains (segments_of v.tree) s
  pub named : name_of s ≡ Some claim.node

-- the version is kept, and nothing was published for the segment
pub record IsOpen (t : State) (claim : Claim) (v : Version) : Type 0 where
  pub kept : v.ended ≡ None
  pub free : published_at t.published claim.node ≡ None

-- the record has the segment's items and the circuit's qubits
pub record IsOf (c : Circuit) (s : Tree Item) (r : Record) : Type 0 where
  pub qubits : r.n ≡ c.qubits
  pub items : r.items.value ≡ run s

-- sizes are told as 10^12 where they are above that
abbrev pub size : Record → ℕ
size r = min (record_size r) 1000000000000

-- what its type keeps: the sum is normal for the prims of its items, or the evidence is true of them
abbrev pub IsRightRecord : Record → Type 0
IsRightRecord r = ∥ IsRight r.n (run_of r.items.value) r.moves r.body ∥₁

-- ---- what is changed
-- the total that was refused is noted in the seat's pin, where it has one
abbrev pub refused_pin : ℕ → Option Pin → Option Pin
refused_pin total None = None
refused_pin total (Some pin) = Some (record pin { refused = Some total })

abbrev pub refused : ℕ → ℕ → State → State
refused seat total t = record t { pins = slice_set t.pins seat (refused_pin total (pin_of t seat)) }

-- entry i has published the record for the segment of this name
abbrev pub published : ℕ → ℕ → Record → State → State
published i node r t = record t { published = record { segment = node; entry = i; kept = r } ∷ t.published; terms = t.terms + size r }

-- what entry i of the seat answers, and the state that it leaves
pub data Publishes (t : State) (i seat : ℕ) : Option (Arc Record Global) → Reply → State → Type 0 where
  no_claim : {kept : Option (Arc Record Global)} → claim_of t seat ≡ None → Publishes t i seat kept NoClaim t
  dropped : {kept : Option (Arc Record Global)} {claim : Claim} {c : Circuit} {v : Version} {s : Tree Item} {j : ℕ} → Claims t seat claim c v s
      → v.ended ≡ Some j → Publishes t i seat kept (Dropped j) (unclaimed seat t)
  already : {kept : Option (Arc Record Global)} {claim : Claim} {c : Circuit} {v : Version} {s : Tree Item} {p : Publication} → Claims t seat claim c v s
      → v.ended ≡ None → published_at t.published claim.node ≡ Some p → Publishes t i seat kept (Already p.entry) (unclaimed seat t)
  stands : {claim : Claim} {c : Circuit} {v : Version} {s : Tree Item} → Claims t seat claim c v s → IsOpen t claim v → Publishes t i seat None Stands t
  other_run : {r : Arc Record Global} {claim : Claim} {c : Circuit} {v : Version} {s : Tree Item} → Claims t seat claim c v s → IsOpen t claim v
      → ¬ IsOf c s r.value → Publishes t i seat (Some r) OtherRun (unclaimed seat t)
  no_room : {r : Arc Record Global} {claim : Claim} {c : Circuit} {v : Version} {s : Tree Item} → Claims t seat claim c v s → IsOpen t claim v
      → IsOf c s r.value → most_terms < t.terms + size r.value → Publishes t i seat (Some r) (NoRoom (t.terms + size r.value)) (refused seat (t.terms + size r.value) (unclaimed seat t))
  publishes : {r : Arc Record Global} {claim : Claim} {c : Circuit} {v : Version} {s : Tree Item} → Claims t seat claim c v s → IsOpen t claim v
      → IsOf c s r.value → t.terms + size r.value ≤ most_terms → IsRightRecord r.value → Publishes t i seat (Some r) Published (published i claim.node r.value (unclaimed seat t))

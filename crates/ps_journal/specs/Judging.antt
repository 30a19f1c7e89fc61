-- How a question about two versions ends.
use Rattle.std.specs.Prelude.{ℕ, ◌≡◌, ◌+◌, ◌<◌, ◌≤◌, ◌⊎◌, Bool, true, min, Contains, Option, Some, None}
use Rattle.std.specs.declared.sync.Arc.{Arc}
use Rattle.std.specs.declared.alloc.Global.{Global}
use Rattle.seg_tree.specs.Trees.{Tree, run}
use Rattle.ps_script.specs.declared.name.Place.{Place}
use Rattle.ps_reach.specs.declared.record.Record.{Record}
use Rattle.ps_reach.specs.declared.judged.Judged.{Judged as AJudged}
use Rattle.ps_reach.specs.Runs.{run_of}
use Rattle.ps_reach.specs.Sizes.{judged_size}
use Rattle.ps_reach.specs.Judging.{finding_of}
use Rattle.ps_reach.specs.Findings.{IsJustified}
use Rattle.ps_journal.specs.declared.seats.Pin.{Pin}
use Rattle.ps_journal.specs.declared.commands.Outcome.{Outcome}
use Rattle.ps_journal.specs.declared.commands.Outcome.TheVariants.{Judged, Done}
use Rattle.ps_journal.specs.declared.replies.Reply.{Reply}
use Rattle.ps_journal.specs.declared.replies.Reply.TheVariants.{Answered, NoPin, NoRoom, OtherRun}
use Rattle.ps_journal.specs.State.{Item, Version, Circuit, State, Finds, pin_of, with_terms, most_terms}
use Rattle.ps_journal.specs.Segments.{segments_of, is_passed}
use Rattle.ps_journal.specs.Keeping.{unpinned}
use Rattle.ps_journal.specs.Summing.{GivesUp}

-- the record is of the version's items; or it tells that a limit was passed at one of its segments
pub record Belongs (c : Circuit) (v : Version) (r : Record) : Type 0 where
  pub qubits : r.n ≡ c.qubits
  pub items : (r.items.value ≡ v.items) ⊎ ((is_passed r ≡ true) × ((s : Tree Item) × (Contains (segments_of v.tree) s × (r.items.value ≡ run s))))

-- the two versions that the seat has pinned
pub record FindsBoth (t : State) (seat : ℕ) (c d : Circuit) (v w : Version) : Type 0 where
  pub pin : Pin
  pub second : Place
  pub pin_is : pin_of t seat ≡ Some pin
  pub second_is : pin.second ≡ Some second
  pub first_found : Finds t pin.first c v
  pub second_found : Finds t second d w

-- each record belongs to the version in its place
pub record BelongBoth (c d : Circuit) (v w : Version) (j : AJudged) : Type 0 where
  pub first : Belongs c v j.first.value
  pub second : Belongs d w j.second.value

-- sizes are told as 10^12 where they are above that
abbrev pub size : AJudged → ℕ
size j = min (judged_size j) 1000000000000

-- in its mode the verdict is justified for the prims of the two versions
abbrev pub IsJustifiedFor : Circuit → Version → Version → AJudged → Type 0
IsJustifiedFor c v w j = ∥ IsJustified c.qubits (run_of v.items) (run_of w.items) j.mode (finding_of j.verdict) ∥₁

-- what entry i of the seat answers, and the state that it leaves
pub data Answers (t : State) (i seat : ℕ) : Outcome → Reply → State → Type 0 where
  no_pin : {o : Outcome} → pin_of t seat ≡ None → Answers t i seat o NoPin t
  gives_up : {pin : Pin} {o : Outcome} {r : Reply} → pin_of t seat ≡ Some pin → GivesUp pin o r → Answers t i seat o r (unpinned i seat t)
  done : {pin : Pin} → pin_of t seat ≡ Some pin → Answers t i seat Done OtherRun (unpinned i seat t)
  one_alone : {pin : Pin} {j : Arc AJudged Global} {proof : Bool} → pin_of t seat ≡ Some pin → pin.second ≡ None → Answers t i seat (Judged j proof) OtherRun (unpinned i seat t)
  other_run : {c d : Circuit} {v w : Version} {j : Arc AJudged Global} {proof : Bool} → FindsBoth t seat c d v w → ¬ BelongBoth c d v w j.value
      → Answers t i seat (Judged j proof) OtherRun (unpinned i seat t)
  no_room : {c d : Circuit} {v w : Version} {j : Arc AJudged Global} {proof : Bool} → FindsBoth t seat c d v w → BelongBoth c d v w j.value
      → most_terms < t.terms + size j.value → Answers t i seat (Judged j proof) (NoRoom (t.terms + size j.value)) (unpinned i seat t)
  answers : {c d : Circuit} {v w : Version} {j : Arc AJudged Global} {proof : Bool} → FindsBoth t seat c d v w → BelongBoth c d v w j.value
      → t.terms + size j.value ≤ most_terms → IsJustifiedFor c v w j.value
      → Answers t i seat (Judged j proof) (Answered j.value proof) (with_terms (size j.value) (unpinned i seat t))

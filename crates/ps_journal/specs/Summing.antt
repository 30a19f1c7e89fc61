-- The record that a settled version comes to, and how a question about one version ends.
use Rattle.std.specs.Prelude.{ℕ, ◌≡◌, Bool, false, true, [], Option, Some, None}
use Rattle.std.specs.List.{find}
use Rattle.std.specs.declared.sync.Arc.{Arc}
use Rattle.std.specs.declared.alloc.Global.{Global}
use Rattle.seg_tree.specs.Trees.{Tree}
use Rattle.ps_script.specs.declared.name.Place.{Place}
use Rattle.ps_reach.specs.declared.record.Record.{Record}
use Rattle.ps_reach.specs.declared.judged.Judged.{Judged as AJudged}
use Rattle.ps_reach.specs.Judging.{outcome_of}
use Rattle.ps_reach.specs.Fillings.{Fills}
use Rattle.ps_journal.specs.declared.seats.Pin.{Pin}
use Rattle.ps_journal.specs.declared.commands.Outcome.{Outcome}
use Rattle.ps_journal.specs.declared.commands.Outcome.TheVariants.{Judged, Done, Starved, Crowded}
use Rattle.ps_journal.specs.declared.replies.Reply.{Reply}
use Rattle.ps_journal.specs.declared.replies.Reply.TheVariants.{SumIs, NoPin, NoRoom, NotCrowded, OtherRun, Unsettled, Memory}
use Rattle.ps_journal.specs.State.{Item, Version, Circuit, Published, State, Finds, pin_of}
use Rattle.ps_journal.specs.Segments.{segments, published_for, has_sum, has_passed, missing, is_settled}
use Rattle.ps_journal.specs.Keeping.{unpinned}

-- the record of no item
pub record IsIdentity (n : ℕ) (r : Record) : Type 0 where
  pub qubits : r.n ≡ n
  pub items : r.items.value ≡ []
  pub filled : Fills n [] (outcome_of r)

-- the root's sum, or else the first limit that was passed, the two sides of a segment before it, or the identity where there is no item
pub data ComesTo (t : State) (c : Circuit) (v : Version) (r : Record) : Type 0 where
  of_nothing : v.tree ≡ None → IsIdentity c.qubits r → ComesTo t c v r
  of_root : {s : Tree Item} {p : Published} → v.tree ≡ Some s → has_sum t.published s ≡ true → published_for t.published s ≡ Some p → p.kept ≡ r → ComesTo t c v r
  of_limit : {s x : Tree Item} {p : Published} → v.tree ≡ Some s → has_sum t.published s ≡ false → find (has_passed t.published) (segments s) ≡ Some x
      → published_for t.published x ≡ Some p → p.kept ≡ r → ComesTo t c v r

-- what the version at a place comes to
pub record ComesToAt (t : State) (p : Place) (r : Record) : Type 0 where
  pub circuit : Circuit
  pub version : Version
  pub found : Finds t p circuit version
  pub comes : ComesTo t circuit version r

-- ---- how questions end that were not answered
-- memory was wanting, or a publish under the pin was refused for room, with this total
pub data GivesUp (pin : Pin) : Outcome → Reply → Type 0 where
  starved : GivesUp pin Starved Memory
  crowded : {total : ℕ} → pin.refused ≡ Some total → GivesUp pin Crowded (NoRoom total)
  not_crowded : pin.refused ≡ None → GivesUp pin Crowded NotCrowded

-- what entry i of the seat answers, and the state that it leaves
pub data Sums (t : State) (i seat : ℕ) : Outcome → Reply → State → Type 0 where
  no_pin : {o : Outcome} → pin_of t seat ≡ None → Sums t i seat o NoPin t
  gives_up : {pin : Pin} {o : Outcome} {r : Reply} → pin_of t seat ≡ Some pin → GivesUp pin o r → Sums t i seat o r (unpinned i seat t)
  judged : {pin : Pin} {j : Arc AJudged Global} {proof : Bool} → pin_of t seat ≡ Some pin → Sums t i seat (Judged j proof) OtherRun (unpinned i seat t)
  unsettled : {pin : Pin} {c : Circuit} {v : Version} → pin_of t seat ≡ Some pin → Finds t pin.first c v → is_settled t.published v.tree ≡ false
      → Sums t i seat Done (Unsettled (missing t.published v.tree)) (unpinned i seat t)
  sums : {pin : Pin} {c : Circuit} {v : Version} {a : Record} → pin_of t seat ≡ Some pin → Finds t pin.first c v → is_settled t.published v.tree ≡ true
      → ComesTo t c v a → Sums t i seat Done (SumIs a) (unpinned i seat t)

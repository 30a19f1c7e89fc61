-- Showing the items of a version.
use Rattle.std.specs.Prelude.{ℕ, ◌+◌, ◌<◌, ◌≤◌, length}
use Rattle.ps_script.specs.declared.name.Place.{Place}
use Rattle.ps_journal.specs.declared.replies.Reply.{Reply}
use Rattle.ps_journal.specs.declared.replies.Reply.TheVariants.{Shown, NoRoom}
use Rattle.ps_journal.specs.State.{Version, Circuit, State, FindsLive, with_terms, most_terms}
use Rattle.ps_journal.specs.Pinning.{Refuses}

-- what is answered, and the state that is left
pub data Reads (t : State) (p : Place) : Reply → State → Type 0 where
  refused : {r : Reply} → Refuses t p r → Reads t p r t
  no_room : {c : Circuit} {v : Version} → FindsLive t p c v → most_terms < t.terms + length v.items → Reads t p (NoRoom (t.terms + length v.items)) t
  shows : {c : Circuit} {v : Version} → FindsLive t p c v → t.terms + length v.items ≤ most_terms
      → Reads t p (Shown v.items) (with_terms (length v.items) t)

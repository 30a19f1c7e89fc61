-- How far a question has come, over what takes turns.
use Rattle.std.proofs.Common.{ℕ, ◌≡◌, ◌≢◌, ◌<◌, true, List, Option, Some, None, refl, sym, ◌∙◌, subst}
use Rattle.std.specs.declared.sync.Arc.{Arc}
use Rattle.std.specs.declared.alloc.Global.{Global}
use Rattle.ps_script.specs.declared.name.Place.{Place}
use Rattle.ps_reach.specs.declared.record.Record.{Record}
use Rattle.ps_reach.specs.declared.task.Task.{Task as ATask}
use Rattle.ps_normal.specs.Fillings.{IsRecordFor}
use Rattle.ps_journal.specs.declared.commands.Cmd.TheVariants as cmd
use Rattle.ps_journal.specs.declared.replies.Reply.{Reply}
use Rattle.ps_journal.specs.declared.replies.Reply.TheVariants.{Pinned, Task, Settled, Published, Already, NoRoom, Memory}
use Rattle.ps_journal.specs.History.{Entry, own_entries}
use Rattle.ps_history.specs.Inner.{Idles}
use Rattle.ps_history.specs.Lasts.{HasPinned}
use Rattle.ps_history.specs.Bounds.{IsWithin}
use Rattle.ps_history.specs.Stages.{GaveUp}
use Rattle.ps_history.specs.After.{AfterNext, AfterPublish}
use Rattle.ps_calls.specs.declared.settling.Settling.{Settling}
use Rattle.ps_calls.specs.declared.settling.Settling.TheVariants as settling
use Rattle.ps_calls.specs.Turns.{TurnView, Stays, Turned, Refused}
use Rattle.ps_calls.specs.Calls.{own}
use Rattle.ps_calls.specs.Comparing.{HaveOneWidth}
use Rattle.ps_calls.specs.Settling.{Asking, IsAsking, IsFilling, IsGivingUp, IsSettled, SettlingEnds, TakingEnds, IsCutShort}
use Rattle.ps_calls.specs.Settling.{RoundOf, filled, found, crowded, starved}
use Rattle.ps_history.proofs.Turns.{pinned-asks, next-after}
use Rattle.ps_history.proofs.Rounds.{publish-after}
use Rattle.ps_history.proofs.Ends.{starved-after, one-width, asks-within, with-within, no_more-within, gave_up-within}
use Rattle.ps_calls.proofs.Views.{turned-is}

-- ---- who asks
-- the seat, behind its entries in this view
abbrev pub asking : TurnView → Place → Option Place → Asking
asking v first second = record { seat = v.number; own = own v; first = first; second = second }

-- it has pinned the places
pub pinned_asks : {a b : TurnView} (first : Place) (second : Option Place) → Stays a b
    → a.number < 64 → Turned a b (cmd.Pin first second) Pinned → IsAsking (asking a first second) 0 b
pinned_asks {a} {b} first second s low t = record {
  number = s.number;
  asks = pinned-asks a.number a.seen b.seen first second (turned-is a.number refl low t);
}

-- ---- a Next
next_after : (at : Asking) (n : ℕ) {a b : TurnView} {r : Reply} → a.number < 64
    → Turned a b (cmd.Next true) r → IsAsking at n a → AfterNext at.seat at.own b.seen at.first at.second n r
next_after at n {a} {b} {r} low t k =
    next-after at.seat at.own a.seen b.seen at.first at.second n r k.asks (turned-is at.seat k.number (subst (λ m. m < 64) k.number low) t)

pub next_fills : (at : Asking) (n : ℕ) {a b : TurnView} {task : ATask} → a.number < 64
    → Stays a b → Turned a b (cmd.Next true) (Task task) → IsAsking at n a → IsFilling at n task b
next_fills at n low s t k = record { number = s.number ∙ k.number; asks = next_after at n low t k }

pub next_settles : (at : Asking) (n : ℕ) {a b : TurnView} {x : Record} {y : Option Record} → a.number < 64
    → Stays a b → Turned a b (cmd.Next true) (Settled x y) → IsAsking at n a → IsSettled at x y b
next_settles at n low s t k = record { number = s.number ∙ k.number; rounds = n; settled = next_after at n low t k }

other_next : (seat : ℕ) (es seen : List Entry) (first : Place) (second : Option Place) (n : ℕ) (r : Reply) → AfterNext seat es seen first second n r
    → ((task : ATask) → r ≢ Task task) → ((x : Record) (y : Option Record) → r ≢ Settled x y) → GaveUp seat es seen first second None
other_next seat es seen first second n (Task task) h no_task no_records = absurd (no_task task refl)
other_next seat es seen first second n (Settled x y) h no_task no_records = absurd (no_records x y refl)
other_next seat es seen first second n Memory h no_task no_records = h
other_next seat es seen first second n _ h no_task no_records = absurd h

pub next_starves : (at : Asking) (n : ℕ) {a b : TurnView} {r : Reply} → a.number < 64 → Stays a b → Turned a b (cmd.Next true) r → IsAsking at n a
    → ((task : ATask) → r ≢ Task task) → ((x : Record) (y : Option Record) → r ≢ Settled x y) → IsGivingUp at None b
next_starves at n {a} {b} {r} low s t k no_task no_records = record {
  number = s.number ∙ k.number;
  gave_up = other_next at.seat at.own b.seen at.first at.second n r (next_after at n low t k) no_task no_records;
}

-- ---- a Publish
other_publish : (seat : ℕ) (es seen : List Entry) (first : Place) (second : Option Place) (n : ℕ) (r : Reply) → AfterPublish seat es seen first second n r
    → r ≢ Published → ((entry : ℕ) → r ≢ Already entry) → ((total : ℕ) → r ≢ NoRoom total) → GaveUp seat es seen first second None
other_publish seat es seen first second n Published h a b c = absurd (a refl)
other_publish seat es seen first second n (Already entry) h a b c = absurd (b entry refl)
other_publish seat es seen first second n (NoRoom total) h a b c = absurd (c total refl)
other_publish seat es seen first second n Memory h a b c = h
other_publish seat es seen first second n _ h a b c = absurd h

round_ends : (at : Asking) (n : ℕ) (v : TurnView) {r : Reply} {e : Option Settling} → v.number ≡ at.seat
    → RoundOf r e → AfterPublish at.seat at.own v.seen at.first at.second n r → TakingEnds at n v e
round_ends at n v number filled h = record { number = number; asks = h }
round_ends at n v number found h = record { number = number; asks = h }
round_ends at n v number (crowded {total}) h = (total, record { number = number; gave_up = h })
round_ends at n v number (starved {r} a b c) h = record { number = number; gave_up = other_publish at.seat at.own v.seen at.first at.second n r h a b c }

pub publish_ends : (at : Asking) (n : ℕ) {task : ATask} {a b : TurnView} (kept : Arc Record Global) {r : Reply} {e : Option Settling}
    → a.number < 64 → Stays a b → Turned a b (cmd.Publish (Some kept)) r
    → IsRecordFor task.n task.work kept.value → IsFilling at n task a → RoundOf r e → TakingEnds at n b e
publish_ends at n {task} {a} {b} kept {r} low s t made k o =
    round_ends at n b (s.number ∙ k.number) o
    (publish-after at.seat at.own a.seen b.seen at.first at.second n task kept r k.asks made (turned-is at.seat k.number (subst (λ m. m < 64) k.number low) t))

pub filling_starves : (at : Asking) (n : ℕ) {task : ATask} {v : TurnView} → IsFilling at n task v → IsGivingUp at None v
filling_starves at n {task} {v} k = record { number = k.number; gave_up = starved-after at.seat at.own v.seen at.first at.second n task k.asks }

-- ---- a refused ticket
cut_short : (at : Asking) {a b : TurnView} {ticket : ℕ} → Refused a b ticket → Idles at.own (own_entries at.seat a.seen)
    → ∥ IsWithin at.seat at.own (own_entries at.seat a.seen) a.seen at.first at.second 1 ∥₁
    → IsCutShort at b ticket
cut_short at {a} {b} r idles within = record {
  idles = subst (λ l. Idles at.own (own_entries at.seat l)) (sym r.seen) idles;
  within = subst (λ l. ∥ IsWithin at.seat at.own (own_entries at.seat l) l at.first at.second 1 ∥₁) (sym r.seen) within;
  refused = r.refused;
  late = r.late;
}

pub next_cut : (at : Asking) (n : ℕ) {a b : TurnView} {ticket : ℕ} → Refused a b ticket → IsAsking at n a → IsCutShort at b ticket
next_cut at n {a} r k = cut_short at r k.asks.idles (asks-within at.seat at.own a.seen at.first at.second n k.asks)

pub publish_cut : (at : Asking) (n : ℕ) {task : ATask} {a b : TurnView} {ticket : ℕ} → Refused a b ticket → IsFilling at n task a → IsCutShort at b ticket
publish_cut at n {task} {a} r k = cut_short at r k.asks.idles (with-within at.seat at.own a.seen at.first at.second n task k.asks)

-- ---- the end of the filling
pub end_idles : (at : Asking) (v : TurnView) (e : Settling) → SettlingEnds at v e → Idles at.own (own_entries at.seat v.seen)
end_idles at v (settling.Settled x y) k = k.settled.idles
end_idles at v settling.Starved k = k.gave_up.idles
end_idles at v settling.Crowded k = k.1.gave_up.idles

pub end_pin : (at : Asking) (v : TurnView) (e : Settling) → SettlingEnds at v e → HasPinned (own_entries at.seat v.seen) at.first at.second
end_pin at v (settling.Settled x y) k = k.settled.pin
end_pin at v settling.Starved k = k.gave_up.pin
end_pin at v settling.Crowded k = k.1.gave_up.pin

end_within : (at : Asking) (v : TurnView) (e : Settling) → SettlingEnds at v e
    → ∥ IsWithin at.seat at.own (own_entries at.seat v.seen) v.seen at.first at.second 1 ∥₁
end_within at v (settling.Settled x y) k = no_more-within at.seat at.own v.seen at.first at.second k.rounds x y k.settled
end_within at v settling.Starved k = gave_up-within at.seat at.own v.seen at.first at.second None k.gave_up
end_within at v settling.Crowded k = gave_up-within at.seat at.own v.seen at.first at.second (Some k.0) k.1.gave_up

pub end_cut : (at : Asking) {a b : TurnView} {ticket : ℕ} (e : Settling) → SettlingEnds at a e → Refused a b ticket → IsCutShort at b ticket
end_cut at {a} e k r = cut_short at r (end_idles at a e k) (end_within at a e k)

-- the two records are on as many qubits
pub end_width : (seat : ℕ) (es : List Entry) (first second : Place) (v : TurnView) (e : Settling)
    → SettlingEnds (record { seat = seat; own = es; first = first; second = Some second }) v e → HaveOneWidth e
end_width seat es first second v (settling.Settled x (Some y)) k = one-width seat es v.seen first second k.rounds x y k.settled
end_width seat es first second v (settling.Settled x None) k = tt
end_width seat es first second v settling.Starved k = tt
end_width seat es first second v settling.Crowded k = tt

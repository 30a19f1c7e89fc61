-- What stands against publishing for a claim, and which records are of its segment.
use Rattle.std.specs.Prelude.{ℕ, ◌≡◌, slice_set, Option, Some, None}
use Rattle.ps_reach.specs.declared.record.Record.{Record}
use Rattle.ps_versions.specs.Held.{Version, Circuit}
use Rattle.ps_versions.specs.Lookup.{circuit_at}
use Rattle.ps_versions.specs.Records.{record_at}
use Rattle.ps_journal.specs.declared.seats.Claim.{Claim}
use Rattle.ps_journal.specs.declared.replies.Reply.{Reply}
use Rattle.ps_journal.specs.declared.replies.Reply.TheVariants.{Dropped, Already}
use Rattle.ps_journal.specs.Publishing.{refused_pin}
use Rattle.ps_views.specs.Views.{run_at}
use Rattle.ps_views.specs.Fields.{Fields, held_at, pin_at}
use Rattle.ps_views.specs.declared.filed.Filed.{Filed}

-- the version is not kept any more, since this entry; or this entry published for the segment; or nothing stands against it
pub data Objects (f : Fields) (claim : Claim) : Option Reply → Type 0 where
  ended_by : {v : Version} {j : ℕ} → held_at f.versions claim.place ≡ Some v → v.ended ≡ Some j → Objects f claim (Some (Dropped j))
  filed_by : {v : Version} {e : ℕ × Filed} → held_at f.versions claim.place ≡ Some v → v.ended ≡ None → record_at f.versions.kept claim.node ≡ Some e → Objects f claim (Some (Already e.0))
  free : {v : Version} → held_at f.versions claim.place ≡ Some v → v.ended ≡ None → record_at f.versions.kept claim.node ≡ None → Objects f claim None

-- nothing stands against it
pub record IsFree (f : Fields) (claim : Claim) : Type 0 where
  pub version : Version
  pub held : held_at f.versions claim.place ≡ Some version
  pub ended : version.ended ≡ None
  pub lacks : record_at f.versions.kept claim.node ≡ None

-- the record has the circuit's qubits, and the items of the claimed segment
pub record IsRecordAt (f : Fields) (claim : Claim) (r : Record) : Type 0 where
  pub qubits : (c : Circuit) → circuit_at f.versions.circuits claim.place.name ≡ Some c → r.n ≡ c.qubits
  pub items : r.items.value ≡ run_at f.items f.versions.nodes claim.node

-- ---- what is changed
-- the refused total is noted in the seat's pin, where it has one
abbrev pub refuses : ℕ → ℕ → Fields → Fields
refuses seat total f = record f { pins = slice_set f.pins seat (refused_pin total (pin_at f seat)) }

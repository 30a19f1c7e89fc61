-- The task that computes a ready segment of the tables, and what giving it does.
use Rattle.std.specs.Prelude.{ℕ, ◌≡◌, ◌⊎◌, slice_set, Option, Some, None}
use Rattle.ps_script.specs.declared.name.Place.{Place}
use Rattle.seg_tree.specs.Trees.{Tree, leaf, branch, name_of}
use Rattle.seg_tree.specs.Table.{tree}
use Rattle.ps_versions.specs.Held.{Circuit}
use Rattle.ps_versions.specs.Lookup.{circuit_at}
use Rattle.ps_versions.specs.Records.{record_at}
use Rattle.ps_versions.specs.declared.data.Ready.{Ready}
use Rattle.ps_reach.specs.declared.record.Record.{Record}
use Rattle.ps_reach.specs.declared.task.Task.{Task as ATask}
use Rattle.ps_reach.specs.declared.task.Work.{Work}
use Rattle.ps_reach.specs.declared.task.Work.TheVariants.{Items, Children}
use Rattle.ps_journal.specs.declared.seats.Pin.{Pin}
use Rattle.ps_journal.specs.declared.seats.Claim.{Claim}
use Rattle.ps_journal.specs.declared.replies.Reply.{Reply}
use Rattle.ps_journal.specs.declared.replies.Reply.TheVariants.{Task, Settled, Memory}
use Rattle.ps_journal.specs.State.{State}
use Rattle.ps_journal.specs.Summing.{ComesToAt}
use Rattle.ps_journal.specs.Claiming.{SecondComesTo}
use Rattle.ps_views.specs.Views.{run_of_leaf}
use Rattle.ps_views.specs.Fields.{Fields}
use Rattle.ps_views.specs.Stands.{Stands}
use Rattle.ps_views.specs.declared.filed.Filed.{Filed}

-- the record is kept at the node that names the tree
pub record IsFiledAt (f : Fields) (s : Tree ℕ) (r : Record) : Type 0 where
  pub number : ℕ
  pub named : name_of s ≡ Some number
  pub entry : ℕ × Filed
  pub kept : record_at f.versions.kept number ≡ Some entry
  pub same : entry.1.shared.value ≡ r

-- a leaf's items, or the records of the two sides
abbrev pub IsWorkAt : Fields → Tree ℕ → Work → Type 0
IsWorkAt f (leaf name items) (Items a) = a.value ≡ run_of_leaf f.items items
IsWorkAt f (branch name left right) (Children a b) = IsFiledAt f left a.value × IsFiledAt f right b.value
IsWorkAt f s w = ⊥

pub record IsTaskAt (f : Fields) (i seat : ℕ) (r : Ready) (task : ATask) : Type 0 where
  pub seat_is : task.seat ≡ seat
  pub claim_is : task.claim ≡ i
  pub qubits : (c : Circuit) → circuit_at f.versions.circuits r.place.name ≡ Some c → task.n ≡ c.qubits
  pub work : IsWorkAt f (tree f.versions.nodes r.node) task.work

-- the reply tells the task
pub record TellsTask (f : Fields) (i seat : ℕ) (r : Ready) (told : Reply) : Type 0 where
  pub task : ATask
  pub reply : told ≡ Task task
  pub is : IsTaskAt f i seat r task

-- the seat has no claim any more
abbrev pub unclaims : ℕ → Fields → Fields
unclaims seat f = record f { claims = slice_set f.claims seat None }

-- the seat has a claim on the segment
abbrev pub claims_with : ℕ → ℕ → Ready → Fields → Fields
claims_with i seat r f = record f { claims = slice_set f.claims seat (Some (record { place = r.place; node = r.node; entry = i })) }

-- the task is given, and the seat has a claim; or memory was wanting, and nothing was done
pub data Gives (f : Fields) (i seat : ℕ) (r : Ready) : Reply → Fields → Type 0 where
  given : {task : ATask} {g : Fields} → IsTaskAt f i seat r task → g ≡ claims_with i seat r f → Gives f i seat r (Task task) g
  starved : {g : Fields} → g ≡ f → Gives f i seat r Memory g

-- the second version, where there is one, comes to this record
abbrev pub SecondComesIn : Fields → Option Place → Option Record → Type 0
SecondComesIn f p b = (t : State) → Stands f t → SecondComesTo t p b

-- the reply tells what the versions of a pin come to
pub record TellsBoth (f : Fields) (pin : Pin) (told : Reply) : Type 0 where
  pub first : Record
  pub second : Option Record
  pub reply : told ≡ Settled first second
  pub first_comes : (t : State) → Stands f t → ComesToAt t pin.first first
  pub second_comes : SecondComesIn f pin.second second

-- it does so, or memory was wanting
abbrev pub SettlesIn : Fields → Pin → Reply → Type 0
SettlesIn f pin told = TellsBoth f pin told ⊎ (told ≡ Memory)

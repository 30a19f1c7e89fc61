-- The state of the service that its fields stand for, and what a turn leaves.
use Rattle.std.specs.Prelude.{ℕ, ◌≡◌, ◌≤◌, true, length, None}
use Rattle.ps_versions.specs.Records.{record_at}
use Rattle.ps_versions.specs.Reached.{is_reached}
use Rattle.ps_journal.specs.State.{State}
use Rattle.ps_journal.specs.Segments.{published_at}
use Rattle.ps_views.specs.Views.{circuits_of, published_of}
use Rattle.ps_views.specs.Fields.{Fields}

pub record Stands (f : Fields) (t : State) : Type 0 where
  pub circuits : t.circuits ≡ circuits_of f.items f.versions.nodes f.tables f.versions.circuits
  pub published : (k : ℕ) → is_reached f.versions k ≡ true → published_at t.published k ≡ published_of k (record_at f.versions.kept k)
  pub unnamed : (k : ℕ) → length f.versions.nodes ≤ k → published_at t.published k ≡ None
  pub pins : t.pins ≡ f.pins
  pub claims : t.claims ≡ f.claims
  pub terms : t.terms ≡ f.terms
  pub names : t.names ≡ length f.versions.nodes

-- what is done leads to a state for which the fields stand
pub record Leaves (does : State → Type 0) (f : Fields) : Type 0 where
  pub state : State
  pub does_so : does state
  pub stands : Stands f state

-- What a book keeps: its journal is a history of the service, and its fields stand for the state that the journal leads to.
use Rattle.std.specs.Prelude.{List}
use Rattle.ps_journal.specs.State.{State}
use Rattle.ps_journal.specs.History.{Entry, LeadsTo}
use Rattle.ps_views.specs.Fields.{Fields}
use Rattle.ps_views.specs.Stands.{Stands}

pub record IsLawful (f : Fields) (es : List Entry) : Type 0 where
  pub state : State
  pub leads : LeadsTo es state
  pub stands : Stands f state

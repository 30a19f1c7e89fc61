-- The names of refusals.
use Rattle.std.specs.Prelude.{ℕ, List, codes}
use Rattle.ps_reply.specs.Names.{fault_name}
use Rattle.pathsum.specs.declared.refusals.Refusal.{Refusal}
use Rattle.pathsum.specs.declared.refusals.Refusal.TheVariants.{Text, Separator, Widths, Form, Session, Block}

abbrev pub refusal_name : Refusal → List ℕ
refusal_name (Text fault) = fault_name fault
refusal_name Separator = codes "Separator"
refusal_name Widths = codes "Widths"
refusal_name Form = codes "Form"
refusal_name Session = codes "Session"
refusal_name Block = codes "Block"

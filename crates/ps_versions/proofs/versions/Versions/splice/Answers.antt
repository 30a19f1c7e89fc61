use Rattle.std.proofs.Common.{◌≡◌, ℕ, [], get_or, sym, subst}
use Rattle.std.specs.Prelude.{Option, Some, slice_get}
use Rattle.std.proofs.lemmas.Option.{slice_get-get_or}
use Rattle.std.proofs.lemmas.Result.{IfOk-weaker}
use Rattle.ps_versions.specs.Held.{Circuit}
use Rattle.ps_versions.specs.Spliced.{SplicesAt}
use Rattle.ps_versions.proofs.Finding.{splices_version}
use Rattle.ps_versions.proofs.versions.Versions.splice.Goals as goal

pub returns-clause-spliced : goal.returns-clause-spliced
returns-clause-spliced g c =
    let h = c.args.self.now in
    let new = c.splice_at.new.self in
    let i = c.in-Some.index in
    let none : Circuit = record { name = []; qubits = 0; opened = 0; versions = [] } in
    let there : slice_get h.circuits i ≡ Some (get_or h.circuits i none) = slice_get-get_or h.circuits i none c.in-Some.ensures.found.0 in
    IfOk-weaker c.splice_at.result _ _
    (λ number e. splices_version h new c.args.name i c.args.from c.args.to c.args.items.now number (get_or h.circuits i none) (subst (λ (p : Option ℕ). SplicesAt h new p c.args.from c.args.to c.args.items.now number) c.in-Some.ensures.place e) (sym c.in-Some.ensures.place) there)
    c.splice_at.ensures.spliced

-- The derivation of a comparison that found one map: its lines hold, and they come to the sum 1.
use Rattle.std.proofs.Common.{◌≡◌, sym, subst, List}
use mathlib.Core.Logic.{∥∥₁_map}
use Rattle.ps_steps.specs.declared.lines.Line.{Line}
use Rattle.ps_reach.specs.declared.judged.Judged.{Judged}
use Rattle.ps_reach.specs.declared.verdict.Verdict.TheVariants as verdict
use Rattle.ps_reach.specs.Runs.{run_of}
use Rattle.ps_normal.specs.Deriving.{derivation_of, Derives}
use Rattle.ps_normal.proofs.Holdings.{judged_derives}
use Rattle.ps_normal.proofs.Settling.{told_unit}

pub derivation_holds : (j : Judged) (ls : List Line) → ls ≡ derivation_of j → j.verdict ≡ verdict.Yes → Derives j ls
derivation_holds j ls l e =
    let t = told_unit j.first.value.n (run_of j.first.value.items.value) (run_of j.second.value.items.value) (derivation_of j) (∥∥₁_map (judged_derives j e) (λ d. (d.last, (d.holds, d.unit)))) in
    subst (Derives j) (sym l) (record { last = t.0; holds = t.1.0; unit = t.1.1 })

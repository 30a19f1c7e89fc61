use Rattle.std.proofs.Common.{◌≡◌, length, map, Ok, sym, subst, arith}
use Rattle.std.proofs.lemmas.Bool.Decides.{nat_tests}
use Rattle.ps_script.specs.Reading.{asked_of, IsReading}
use Rattle.ps_script.proofs.LineLemmas.{no_length}
use Rattle.ps_script.proofs.ReadLaws.{leads_end}
use Rattle.ps_script.proofs.reading.read_items.Goals as goal

pub returns : goal.returns
returns c =
    let none : length c.loop-rest.rest.now ≡ 0 = grind (arith, nat_tests) in
    subst (λ ls. IsReading 1 c.args.bytes.now (Ok (map asked_of ls))) (sym c.from_vec.ensures)
    (leads_end c.args.bytes.now c.loop-rest.lines.items c.loop-rest.number c.loop-rest.rest.now c.loop-rest.invariant.0 (no_length c.loop-rest.rest.now none))

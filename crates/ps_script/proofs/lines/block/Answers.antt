use Rattle.std.proofs.Common.{◌≡◌, ◌≢◌, [], length, ◌∙◌, sym, arith, rules}
use Rattle.std.proofs.lemmas.Bool.Decides.{Decides-eqb, nat_tests}
use Rattle.std.proofs.lemmas.Slice.Eq.{slice_eq-Decides}
use Rattle.ps_script.specs.Lines.{no_line}
use Rattle.ps_script.proofs.WordLemmas.{not_both}
use Rattle.ps_script.proofs.LineLemmas.{no_length, passed_more, block_found, front_taken}
use Rattle.ps_script.proofs.lines.block.Goals as goal

pub returns-then-eq-clause-block : goal.returns-then-eq-clause-block
returns-then-eq-clause-block c =
    let some : c.loop-rest.rest.now ≢ [] = search rules in
    let first = c.first_line-first in
    let p = c.loop-rest.invariant.0 in
    let dot = (slice_eq-Decides Decides-eqb first.result.line.now c.as_slice.result.now c.eq.result c.eq.ensures).0 c.if-eq.true ∙ c.as_slice.ensures in
    block_found c.args.bytes.now c.loop-rest.lines c.loop-rest.rest.now _ first.result.rest.now p some (sym first.ensures.line ∙ dot) first.ensures.rest
    (front_taken c.args.bytes.now p.front c.loop-rest.rest.now _ p.parted (let i = c.loop-rest.invariant.1 in omega arith))

pub loop-rest-preserved : goal.loop-rest-preserved
loop-rest-preserved c =
    let some : c.loop-rest.rest.now ≢ [] = search rules in
    let first = c.first_line-first in
    let i = c.loop-rest.invariant in (
      passed_more c.args.bytes.now c.loop-rest.lines c.loop-rest.rest.now first.result.rest.now i.0 some
          (λ e. not_both c.eq.result ((slice_eq-Decides Decides-eqb first.result.line.now c.as_slice.result.now c.eq.result c.eq.ensures).1 (first.ensures.line ∙ e ∙ sym c.as_slice.ensures)) c.if-eq.false)
          first.ensures.rest first.ensures.shorter,
      omega arith,
    )

pub returns-clause-block : goal.returns-clause-block
returns-clause-block c =
    let none : length c.loop-rest.rest.now ≡ 0 = grind (arith, nat_tests) in
    c.loop-rest.invariant.0.missing (no_line (no_length c.loop-rest.rest.now none))

use Rattle.std.proofs.Common.{◌≡◌, ◌<◌, true, ◌&&◌, length, drop, sym, ap, ◌∙◌, arith}
use Rattle.std.specs.Prelude.{slice_index}
use Rattle.std.specs.List.{list_all}
use Rattle.std.proofs.lemmas.List.{take_rest}
use Rattle.std.proofs.lemmas.Bool.Decides.{nat_tests}
use Rattle.ps_script.specs.Names.{is_name, is_lower, is_rest}
use Rattle.ps_script.proofs.NameLemmas.{name_is}
use Rattle.ps_script.proofs.name.is_spelled.Goals as goal

pub returns-then-is_lower-clause-value : goal.returns-then-is_lower-clause-value
returns-then-is_lower-clause-value c =
    let bs = c.args.bytes.now in
    let some : 0 < length bs = grind (arith, nat_tests, c.is_empty.ensures, c.if-is_empty.false) in
    let whole : is_name bs ≡ (is_lower (slice_index bs 0) && list_all is_rest (drop 1 bs)) = name_is bs some c.if-bytes-gt32.false in
    let first : is_lower (slice_index bs 0) ≡ true = sym c.is_lower.ensures ∙ c.if-is_lower.true in
    c.are_rest.ensures ∙ ap (list_all is_rest) (take_rest bs 1) ∙ sym (whole ∙ ap (λ b. b && list_all is_rest (drop 1 bs)) first)

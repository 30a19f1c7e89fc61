use Rattle.std.proofs.Common.{◌≡◌, ◌<◌, ◌+◌, suc, length, get_or, take, [], ◌&&◌, sym, ap, ◌∙◌, arith}
use Rattle.std.specs.Prelude.{Some, slice_get, is_none}
use Rattle.std.specs.List.{list_all}
use Rattle.std.proofs.lemmas.Option.{slice_get-get_or}
use Rattle.ps_versions.specs.Held.{Circuit}
use Rattle.ps_versions.specs.Choices.{lightest, lighter_of, open_from, open_of, is_done}
use Rattle.ps_versions.proofs.Lighter.{lighten_next, none_next}
use Rattle.ps_versions.proofs.versions.Versions.lightest.Goals as goal

pub loop-index-preserved : goal.loop-index-preserved
loop-index-preserved g c =
    let h = c.args.self.now in
    let cs = h.circuits in
    let passed = g.R.Kept.passed in
    let weight = g.W.Weights.weight c.args.weights.now in
    let i = c.loop-index.index in
    let none : Circuit = record { name = []; qubits = 0; opened = 0; versions = [] } in
    let d : Circuit = get_or cs i none in
    let near : i < length cs = omega (arith, c.loop-index-test.true, c.count-index-end.ensures.value) in
    let e : slice_get cs i ≡ Some d = slice_get-get_or cs i none near in
    let next : suc i ≡ i + 1 = omega arith in
    record {
      value =
          c.lighten_circuit-best.ensures.value d e
          ∙ ap (λ o. lighter_of weight o (lightest weight (open_from passed h d.name 1 d.versions))) c.loop-index.invariant.value
          ∙ lighten_next passed h weight cs i d e
          ∙ ap (λ n. lightest weight (open_of passed h (take n cs))) next;
      none =
          c.lighten_circuit-best.ensures.none d e
          ∙ ap (λ b. b && list_all (is_done passed h) d.versions) c.loop-index.invariant.none
          ∙ none_next passed h cs i d e
          ∙ ap (λ n. list_all (λ (x : Circuit). list_all (is_done passed h) x.versions) (take n cs)) next;
    }

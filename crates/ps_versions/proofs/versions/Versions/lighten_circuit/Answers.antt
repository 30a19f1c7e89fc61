use Rattle.std.proofs.Common.{◌≡◌, ◌+◌, suc, length, take, [], ◌∷◌, ◌&&◌, sym, ap, ◌∙◌, subst, arith}
use Rattle.std.specs.Prelude.{Some, IfSome, slice_get, is_none}
use Rattle.std.specs.List.{list_all}
use Rattle.std.proofs.lemmas.List.{take_all}
use Rattle.ps_versions.specs.Choices.{lightest, lighter_of, open_from, is_done}
use Rattle.ps_versions.specs.Views.{version_of}
use Rattle.ps_versions.proofs.Lighter.{lighten_last, none_last}
use Rattle.ps_versions.proofs.Telling.{latest_told}
use Rattle.ps_versions.specs.Spliced.{latest_of}
use Rattle.ps_versions.proofs.versions.Versions.lighten_circuit.Goals as goal

pub loop-number-preserved : goal.loop-number-preserved
loop-number-preserved g c = λ d e.
    let h = c.args.self.now in
    let passed = g.R.Kept.passed in
    let weight = g.W.Weights.weight c.args.weights.now in
    let best = c.args.best in
    let name = c.name-name.result in
    let j = c.loop-number.number in
    let v = version_of c.edition_at.result.now in
    let inv = c.loop-number.invariant d e in
    let at : slice_get d.versions j ≡ Some v = c.edition_at.ensures.value d e in
    let named : d.name ≡ name = subst (λ o. IfSome o (λ k. k.name ≡ name)) e c.name-name.ensures.circuit in
    let next : suc j ≡ j + 1 = omega arith in
    record {
      value =
          c.lighten_version-best.ensures.value
          ∙ ap (λ o. lighter_of weight o (lightest weight (open_from passed h name (j + 1) (v ∷ [])))) inv.value
          ∙ ap (λ n. lighter_of weight (lighter_of weight best (lightest weight (open_from passed h d.name 1 (take j d.versions)))) (lightest weight (open_from passed h n (j + 1) (v ∷ [])))) (sym named)
          ∙ lighten_last passed h weight best d.name j d.versions v at
          ∙ ap (λ n. lighter_of weight best (lightest weight (open_from passed h d.name 1 (take n d.versions)))) next;
      none =
          c.lighten_version-best.ensures.none
          ∙ ap (λ b. b && is_done passed h v) inv.none
          ∙ none_last passed h (is_none best) j d.versions v at
          ∙ ap (λ n. is_none best && list_all (is_done passed h) (take n d.versions)) next;
    }

pub returns-clause-value : goal.returns-clause-value
returns-clause-value g c = λ d e.
    let weight = g.W.Weights.weight c.args.weights.now in
    let latest : length d.versions ≡ c.course-number-end.result.latest = subst (λ o. latest_of o ≡ c.course-number-end.result.latest) e (latest_told (slice_get c.args.self.now.circuits c.args.index) c.course-number-end.result c.course-number-end.ensures.about) in
    (c.loop-number.invariant d e).value
    ∙ ap (λ vs. lighter_of weight c.args.best (lightest weight (open_from g.R.Kept.passed c.args.self.now d.name 1 vs))) (take_all c.loop-number.number d.versions (omega (arith, latest, c.loop-number-test.false)))

pub returns-clause-none : goal.returns-clause-none
returns-clause-none g c = λ d e.
    let latest : length d.versions ≡ c.course-number-end.result.latest = subst (λ o. latest_of o ≡ c.course-number-end.result.latest) e (latest_told (slice_get c.args.self.now.circuits c.args.index) c.course-number-end.result c.course-number-end.ensures.about) in
    (c.loop-number.invariant d e).none
    ∙ ap (λ vs. is_none c.args.best && list_all (is_done g.R.Kept.passed c.args.self.now) vs) (take_all c.loop-number.number d.versions (omega (arith, latest, c.loop-number-test.false)))

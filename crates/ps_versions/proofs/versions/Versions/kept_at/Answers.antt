use Rattle.std.proofs.Common.{◌≡◌, ◌<◌, length, refl, sym, ap, ◌∙◌, subst, arith, true}
use Rattle.std.specs.Prelude.{Some, None, slice_get, is_some}
use Rattle.std.proofs.lemmas.Option.{slice_get_read}
use Rattle.seg_tree.specs.Table.{tree}
use Rattle.ps_versions.specs.Records.{record_at}
use Rattle.ps_versions.specs.Questions.{below_have_sums}
use Rattle.ps_versions.specs.Views.{kept_of}
use Rattle.ps_versions.proofs.Lookups.{get-kept-none, get-kept-some}
use Rattle.ps_versions.proofs.versions.Versions.kept_at.Goals as goal

pub returns-in-None-clause-value : goal.returns-in-None-clause-value
returns-in-None-clause-value g c =
    let rs = c.self.inside.records.items in
    let near : c.number.result < length rs = omega (arith, c.number.ensures, c.self.invariant.recorded, ap (λ h. length h.nodes) c.self.view_is) in
    let got : slice_get rs c.number.result ≡ Some None = slice_get_read rs (length rs) c.number.result c.index.result.now refl near c.index.ensures ∙ ap Some c.in-None.is in
    rw (← c.self.view_is, ← c.number.ensures) (get-kept-none rs c.number.result got)

pub returns-in-Some-clause-value : goal.returns-in-Some-clause-value
returns-in-Some-clause-value g c =
    let rs = c.self.inside.records.items in
    let near : c.number.result < length rs = omega (arith, c.number.ensures, c.self.invariant.recorded, ap (λ h. length h.nodes) c.self.view_is) in
    let got : slice_get rs c.number.result ≡ Some (Some c.in-Some.stored) = slice_get_read rs (length rs) c.number.result c.index.result.now refl near c.index.ensures ∙ ap Some c.in-Some.is in
    rw (← c.self.view_is, ← c.number.ensures) (get-kept-some rs c.number.result c.in-Some.stored got)

pub returns-in-Some-clause-below : goal.returns-in-Some-clause-below
returns-in-Some-clause-below g c =
    let rs = c.self.inside.records.items in
    let k = c.args.node in
    let near : c.number.result < length rs = omega (arith, c.number.ensures, c.self.invariant.recorded, ap (λ h. length h.nodes) c.self.view_is) in
    let got : slice_get rs c.number.result ≡ Some (Some c.in-Some.stored) = slice_get_read rs (length rs) c.number.result c.index.result.now refl near c.index.ensures ∙ ap Some c.in-Some.is in
    let kept : is_some (record_at (kept_of rs) k) ≡ true = ap (λ n. is_some (record_at (kept_of rs) n)) (sym c.number.ensures) ∙ ap is_some (get-kept-some rs c.number.result c.in-Some.stored got) in
    λ _. subst (λ h. below_have_sums h.kept g.R.Kept.passed (tree h.nodes k) ≡ true) c.self.view_is (c.self.invariant.filled k kept)

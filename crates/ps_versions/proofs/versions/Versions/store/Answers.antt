use Rattle.std.proofs.Common.{◌≡◌, ◌<◌, ◌≤◌, ◌+◌, length, refl, sym, ap, ◌∙◌, subst, arith, Bool, true, false, cond}
use Rattle.std.specs.Prelude.{Some, None, slice_set}
use Rattle.std.specs.List.{count_by}
use Rattle.std.proofs.lemmas.List.{length-set}
use Rattle.std.proofs.lemmas.List.Sums.{count_by-le-length}
use mir.Val.{bool_byte}
use Rattle.seg_tree.specs.Table.{tree}
use Rattle.ps_versions.specs.Records.{record_at, ChildrenHaveSums}
use Rattle.ps_versions.specs.Questions.{is_passed, below_have_sums}
use Rattle.ps_versions.specs.Views.{kept_of, IsFilled}
use Rattle.ps_versions.proofs.Lookups.{kept-set, length-kept}
use Rattle.ps_versions.proofs.Filling.{children_below, filled_stored, passed_stored}
use Rattle.ps_versions.proofs.Finding.{stored_there}
use Rattle.ps_versions.proofs.versions.Versions.store.Goals as goal

one_more : (b : Bool) → bool_byte b ≡ cond b 1 0
one_more true = refl
one_more false = refl

small : (b : Bool) → bool_byte b ≤ 1
small true = omega arith
small false = omega arith

pub overflow_add-self : goal.overflow_add-self
overflow_add-self g c =
    let rs = c.self.inside.records in
    omega (arith, c.self.invariant.counted, count_by-le-length (is_passed g.R.Kept.passed) (kept_of rs.items), length-kept rs.items, rs.ok.0, rs.ok.1, rs.small, c.from.ensures, small c.is_passed.result)

pub invariant_of-self : goal.invariant_of-self
invariant_of-self g c =
    let a = c.self.inside in
    let rs = a.records.items in
    let s = c.self.invariant in
    let passed = g.R.Kept.passed in
    let k = c.args.node in
    let i = c.number.result in
    let near : i < length rs = omega (arith, c.number.ensures, s.recorded, ap (λ h. length h.nodes) c.self.view_is, c.requires.there) in
    let stored : kept_of (slice_set rs i (Some (record { entry = c.args.entry; kept = c.args.kept }))) ≡ slice_set (kept_of rs) k (Some (c.args.entry, c.args.kept)) = kept-set rs i (record { entry = c.args.entry; kept = c.args.kept }) near ∙ ap (λ n. slice_set (kept_of rs) n (Some (c.args.entry, c.args.kept))) c.number.ensures in
    let free : record_at (kept_of rs) k ≡ None = ap (λ h. record_at h.kept k) c.self.view_is ∙ c.requires.free in
    let ready : ChildrenHaveSums passed (kept_of rs) (tree a.nodes k) = subst (λ h. ChildrenHaveSums passed h.kept (tree h.nodes k)) (sym c.self.view_is) c.requires.ready in
    let full : below_have_sums (kept_of rs) passed (tree a.nodes k) ≡ true = children_below passed a.nodes (kept_of rs) k c.look.result c.look.ensures s.filled ready in
    record {
      named = s.named;
      recorded = length-set rs i _ ∙ s.recorded;
      numbered = s.numbered;
      once = s.once;
      lives = s.lives;
      few = s.few;
      begun = s.begun;
      live = s.live;
      filled = subst (IsFilled passed a.nodes) (sym stored) (filled_stored passed a.nodes (kept_of rs) k (c.args.entry, c.args.kept) free full s.filled);
      counted =
          ap (λ n. n + c.from.result) s.counted
          ∙ ap (λ n. count_by (is_passed passed) (kept_of rs) + n) (c.from.ensures ∙ one_more c.is_passed.result ∙ ap (λ b. cond b 1 0) c.is_passed.ensures)
          ∙ sym (ap (count_by (is_passed passed)) stored ∙ passed_stored passed (kept_of rs) k (c.args.entry, c.args.kept) (omega (arith, near, length-kept rs, c.number.ensures)) free);
    }

pub returns-clause-kept : goal.returns-clause-kept
returns-clause-kept g c =
    let rs = c.self.inside.records.items in
    let near : c.number.result < length rs = omega (arith, c.number.ensures, c.self.invariant.recorded, ap (λ h. length h.nodes) c.self.view_is, c.requires.there) in
    kept-set rs c.number.result (record { entry = c.args.entry; kept = c.args.kept }) near
    ∙ ap (λ h. slice_set h.kept c.number.result (Some (c.args.entry, c.args.kept))) c.self.view_is
    ∙ ap (λ n. slice_set c.args.self.now.kept n (Some (c.args.entry, c.args.kept))) c.number.ensures

pub returns-clause-stored : goal.returns-clause-stored
returns-clause-stored g c =
    ap (λ ks. record_at ks c.args.node) (returns-clause-kept g c)
    ∙ stored_there c.args.self.now.kept c.args.node (Some (c.args.entry, c.args.kept)) (omega (arith, c.requires.there, ap (λ h. length h.kept) c.self.view_is, length-kept c.self.inside.records.items, c.self.invariant.recorded, ap (λ h. length h.nodes) c.self.view_is))

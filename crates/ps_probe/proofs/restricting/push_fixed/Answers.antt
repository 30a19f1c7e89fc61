use Rattle.std.proofs.Common.{◌≡◌, ◌∙◌, ◌+◌, ℕ, Bool, false, sym, ap, subst}
use Rattle.std.specs.Prelude.{MatchOption}
use Rattle.std.specs.Vec.{vec_items}
use Rattle.ps_mono.specs.Sets.{holds}
use Rattle.ps_probe.specs.Patterns.{set_by, IsMonoFixed}
use Rattle.ps_probe.proofs.Restricted.{FixedTerms, terms_start, terms_push, terms_skip, terms_end}
use Rattle.ps_probe.proofs.restricting.push_fixed.Goals as goal
use Rattle.ps_probe.proofs.restricting.push_fixed.Goals.{in-Some+in_ok-push-in-Some, in-None}

pub loop-term-init : goal.loop-term-init
loop-term-init c = terms_start c.args.pattern.now c.args.terms.now c.args.out.now.items

pub loop-term-preserved : goal.loop-term-preserved
loop-term-preserved c = elim c.match-fixed_mono.branch [
  | in-Some+in_ok-push-in-Some w ↦ terms_push c.args.pattern.now c.args.terms.now c.args.out.now.items c.loop-term.out.items _ c.loop-term.term-index c.term-item.result _ c.loop-term-test.true c.term-item.is
      (subst (λ o. MatchOption o ((a : ℕ → Bool) → holds c.term-item.result.mono (set_by c.args.pattern.now a) ≡ false) (IsMonoFixed c.args.pattern.now c.term-item.result.mono)) w.in-Some.is c.fixed_mono.ensures) (ap vec_items w.out-is ∙ w.in_ok-push-in-Some.ensures.items) c.loop-term.invariant
  | in-None w ↦ subst (FixedTerms c.args.pattern.now c.args.terms.now (c.loop-term.term-index + 1) c.args.out.now.items) (sym (ap vec_items w.out-is)) (terms_skip c.args.pattern.now c.args.terms.now c.args.out.now.items c.loop-term.out.items c.loop-term.term-index c.term-item.result c.loop-term-test.true c.term-item.is
      (subst (λ o. MatchOption o ((a : ℕ → Bool) → holds c.term-item.result.mono (set_by c.args.pattern.now a) ≡ false) (IsMonoFixed c.args.pattern.now c.term-item.result.mono)) w.in-None.is c.fixed_mono.ensures) c.loop-term.invariant)
]

pub returns-clause-value : goal.returns-clause-value
returns-clause-value c = terms_end c.args.pattern.now c.args.terms.now c.args.out.now.items c.loop-term.out.items c.loop-term.term-index c.loop-term-test.false c.loop-term.invariant

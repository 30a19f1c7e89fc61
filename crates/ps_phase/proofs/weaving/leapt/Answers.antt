use Rattle.std.proofs.Common.{get_or, subst, List, ◌≡◌}
use Rattle.std.specs.declared.cmp.Ordering.TheVariants.{Less}
use Rattle.ps_mono.specs.Sets.{mono_cmp}
use Rattle.ps_phase.specs.declared.terms.Term.{Term}
use Rattle.ps_phase.proofs.Weaves.{step_passed}
use Rattle.ps_phase.proofs.weaving.leapt.Goals as goal

pub returns-clause-weaving : goal.returns-clause-weaving
returns-clause-weaving c xs ys fx fy e s =
    step_passed xs ys c.args.place.left c.args.place.more c.args.place.from c.passed.result.left c.first_after-first.result c.passed.result.more c.passed.result.from c.args.other.now c.args.terms.now.items c.passed.new.terms.items c.first_after-first.ensures.within
    c.passed.ensures.left c.passed.ensures.more c.passed.ensures.from c.requires.more c.passed.ensures.terms fx fy e
    (λ d h. subst (λ (ts : List Term). mono_cmp c.args.other.now.mono (get_or ts c.first_after-first.result d).mono ≡ Less) c.deref.ensures.value (c.first_after-first.ensures.after d h)) s

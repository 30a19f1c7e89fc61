use Rattle.std.proofs.Common.{◌≡◌, ℕ, ◌<◌, true, false, not, Bool, sym, ap, ◌∙◌, subst, arith, refl}
use Rattle.std.specs.Prelude.{nat_lt}
use Rattle.std.proofs.lemmas.Bool.Decides.{nat_tests}
use Rattle.seg_tree.specs.Table.{tree}
use Rattle.ps_versions.specs.Questions.{segments, is_ready, lacks}
use Rattle.ps_versions.specs.Walks.{walked}
use Rattle.ps_versions.specs.declared.walks.Walk.{Walk}
use Rattle.ps_versions.specs.declared.walks.Walk.TheVariants.{Seeking, Looking, Found}
use Rattle.ps_versions.proofs.Counting.{walked-found}
use Rattle.ps_versions.proofs.Pruning.{absent_name, seek_none, look_none, none_ready, none_lack_in, not_true}
use Rattle.ps_versions.proofs.versions.Versions.passes_over.Goals as goal

less : (m n : ℕ) → nat_lt m n ≡ true → m < n
less m n e = grind (arith, nat_tests)

pub returns-in-Seeking : goal.returns-in-Seeking
returns-in-Seeking g c = λ e.
    let t = tree c.args.self.now.nodes c.args.node in
    let ready = is_ready c.args.self.now.kept g.R.Kept.passed in
    let past : c.args.node < c.in-Seeking.after = omega (arith, less c.number.result c.number-in-Seeking.result e, c.number.ensures, c.number-in-Seeking.ensures) in
    subst (λ (w : Walk). walked ready w (segments t) ≡ w) (sym c.in-Seeking.is) (seek_none ready c.in-Seeking.after (segments t) (absent_name c.in-Seeking.after t (c.height.ensures.whole.below c.in-Seeking.after past)))

pub returns-in-Looking : goal.returns-in-Looking
returns-in-Looking g c = λ e.
    let kept = c.args.self.now.kept in
    let passed = g.R.Kept.passed in
    let t = tree c.args.self.now.nodes c.args.node in
    let ready = is_ready kept passed in
    let keeps : c.lacks.result ≡ false = not_true c.lacks.result e in
    subst (λ (w : Walk). walked ready w (segments t) ≡ w) (sym c.in-Looking.is)
    (look_none ready (segments t) (none_ready kept passed (segments t) (none_lack_in kept passed t (sym c.lacks.ensures.value ∙ keeps) (c.lacks.ensures.below keeps))))

pub returns-in-Found : goal.returns-in-Found
returns-in-Found g c = λ _.
    let t = tree c.args.self.now.nodes c.args.node in
    let ready = is_ready c.args.self.now.kept g.R.Kept.passed in
    subst (λ (w : Walk). walked ready w (segments t) ≡ w) (sym c.in-Found.is) (walked-found ready c.in-Found.field-0 (segments t))

-- Commands dealt out to their sessions.
use Rattle.std.proofs.Common.{◌≡◌, ◌≢◌, ℕ, ◌+◌, List, [], ◌∷◌, ◌++◌, set, sym, ap, ◌∙◌, arith, ne_eqb}
use mathlib.Core.Option.{some, some-injective}
use mathlib.Core.Logic.{dite}
use native.Mathlib.Decide.{ℕ_discrete}
use lib.ListN.{get_elem?}
use Rattle.std.specs.declared.vec.Vec.{Vec}
use Rattle.std.specs.declared.alloc.Global.{Global}
use Rattle.ps_desk.proofs.ListLemmas.{set_there}
use Rattle.ps_script.specs.declared.command.Command.{Command}
use Rattle.ps_script.specs.declared.script.Line.{Line}
use Rattle.ps_sessions.specs.Lines.{seat_of, commands_of}
use Rattle.ps_sessions.proofs.LineLemmas.{commands_here, commands_there}
use Rattle.ps_threads.specs.Served.{AreDealt}
use Rattle.ps_threads.proofs.ListLaws.{set_else}

-- nobody has commands yet
abbrev pub AllEmpty : List (Vec Command Global) → Type 0
AllEmpty dealt = (k : ℕ) (v : Vec Command Global) → get_elem? dealt k ≡ some v → v.items ≡ []

-- one line more
module _ (served : List Line) (l : Line) (dealt : List (Vec Command Global)) (v w : Vec Command Global) (all : AreDealt served dealt) (at : get_elem? dealt l.session ≡ some v)
    (more : w.items ≡ v.items ++ l.command ∷ []) where
  here : w.items ≡ commands_of (l.session + 1) (served ++ l ∷ [])
  here = more ∙ ap (λ cs. cs ++ l.command ∷ []) (all l.session v at) ∙ sym (commands_here served l)

  pub dealt_more : AreDealt (served ++ l ∷ []) (set dealt l.session w)
  dealt_more k x e =
      dite (ℕ_discrete k l.session)
      (λ same.
      let at' : get_elem? (set dealt l.session w) k ≡ some w = ap (get_elem? (set dealt l.session w)) same ∙ set_there dealt l.session v w at in
      let is : x ≡ w = some-injective x w (sym e ∙ at') in
      ap (λ (y : Vec Command Global). y.items) is ∙ here ∙ ap (λ n. commands_of (n + 1) (served ++ l ∷ [])) (sym same))
      (λ ne.
      let e' : get_elem? dealt k ≡ some x = sym (set_else dealt l.session k w ne) ∙ e in
      let no : l.session + 1 ≢ k + 1 = λ h. ne (omega (arith, h)) in
      all k x e' ∙ sym (commands_there (k + 1) served l (ne_eqb (seat_of l) (k + 1) no)))

-- From what is found of what is left of two lists of items to the answer.
use Rattle.std.proofs.Common.{◌≡◌, ℕ, refl, ap, sym, ◌∙◌, subst, arith, List}
use Rattle.ps_prim.specs.declared.prims.Primitive.{Primitive as Prim}
use Rattle.ps_prim.specs.Maps.{AllWithin}
use Rattle.ps_reach.specs.declared.evidence.Evidence.{Evidence}
use Rattle.ps_reach.specs.declared.judged.Judged.{Judged}
use Rattle.ps_reach.specs.declared.verdict.Verdict.{Verdict}
use Rattle.ps_reach.specs.declared.verdict.Verdict.TheVariants as verdict
use Rattle.ps_reach.specs.Runs.{run_of}
use Rattle.ps_reach.specs.Findings.{no}
use Rattle.ps_reach.specs.Judging.{finding_of}
use Rattle.ps_normal.specs.declared.decision.Decision.{Decision}
use Rattle.ps_normal.specs.declared.decision.Decision.TheVariants as decision
use Rattle.ps_local.specs.declared.local.Found.{Found}
use Rattle.ps_local.specs.declared.local.Found.TheVariants.{Nothing, Decided, Windows}
use Rattle.ps_local.specs.declared.local.Local.{Local}
use Rattle.ps_local.specs.Local.{found_as, IsLocal}
use Rattle.ps_local.proofs.Telling.{found_finds, finding_tells}
use Rattle.pathsum.specs.declared.input.Input.{Input}
use Rattle.pathsum.specs.declared.answer.Answer.{Answer}
use Rattle.pathsum.specs.declared.answer.Answer.TheVariants.{Yes, No, NoBehind, Passed}
use Rattle.pathsum.specs.Verdicts.{Says, says_yes, says_no, says_passed}
use Rattle.pathsum.specs.Local.{SaysBehind, plainly, behind, IsLocalVerdict}

-- ---- an input
pub no_first : (input : Input) (front : ℕ) → front ≡ 0 → SaysBehind input.qubits front (no input.at) (No input)
no_first input front e = plainly e (says_no refl refl)

pub no_later : (input : Input) (front : ℕ) → ¬ (front ≡ 0) → SaysBehind input.qubits front (no input.at) (NoBehind input front)
no_later input front h = behind (omega arith) refl refl

-- ---- a verdict
pub behind_no : (n front : ℕ) (v : Verdict) (bits : List ℕ) (a : Answer) → v ≡ verdict.No bits → SaysBehind n front (no bits) a → SaysBehind n front (finding_of v) a
behind_no n front v bits a e s = subst (λ w. SaysBehind n front (finding_of w) a) (sym e) s

pub behind_other : (n front : ℕ) (v : Verdict) (a : Answer) → ((bits : List ℕ) → v ≡ verdict.No bits → ⊥) → Says n (finding_of v) a → SaysBehind n front (finding_of v) a
behind_other n front verdict.Yes a h s = plainly tt s
behind_other n front (verdict.YesPhase p) a h s = plainly tt s
behind_other n front (verdict.No b) a h s = absurd (h b refl)
behind_other n front (verdict.NoPair b c) a h s = plainly tt s
behind_other n front (verdict.Stuck S) a h s = plainly tt s
behind_other n front (verdict.Passed w) a h s = plainly tt s

-- ---- what was found
pub behind_nothing : (n front : ℕ) (f : Found) → f ≡ Nothing → SaysBehind n front (found_as f) Yes
behind_nothing n front f e = subst (λ g. SaysBehind n front (found_as g) Yes) (sym e) (plainly tt says_yes)

pub behind_windows : (n front : ℕ) (f : Found) → f ≡ Windows → SaysBehind n front (found_as f) Yes
behind_windows n front f e = subst (λ g. SaysBehind n front (found_as g) Yes) (sym e) (plainly tt says_yes)

pub behind_judged : (n front : ℕ) (f : Found) (d : Decision) (j : Judged) (a : Answer) → f ≡ Decided d → d ≡ decision.Judged j → SaysBehind n front (finding_of j.verdict) a → SaysBehind n front (found_as f) a
behind_judged n front f d j a e g s = subst (λ x. SaysBehind n front (found_as x) a) (sym (e ∙ ap Decided g)) s

pub behind_passed : (n front : ℕ) (f : Found) (d : Decision) (w : Evidence) → f ≡ Decided d → d ≡ decision.Passed w → SaysBehind n front (found_as f) (Passed w.passed)
behind_passed n front f d w e g = subst (λ x. SaysBehind n front (found_as x) (Passed w.passed)) (sym (e ∙ ap Decided g)) (plainly tt (says_passed refl))

-- ---- the answer
pub local_told : (n : ℕ) (I K I' K' : List (List Prim)) (l : Local) (a : Answer) → I' ≡ I → K' ≡ K → AllWithin n (run_of I) → IsLocal n I' K' l → SaysBehind n l.front (found_as l.found) a → IsLocalVerdict n I K a
local_told n I K I' K' l a e f w h s = at_lists (subst (λ X. IsLocal n X K l) e (subst (λ X. IsLocal n I' X l) f h))
  where
    at_lists : IsLocal n I K l → IsLocalVerdict n I K a
    at_lists h =
        let finds = found_finds n h.cut.first h.cut.second l.found h.found in
        record {
          cut = h.cut;
          is_cut = h.is_cut;
          finding = found_as l.found;
          found = finds;
          tells = finding_tells n I K h.cut (found_as l.found) h.is_cut w finds;
          told = subst (λ k. SaysBehind n k (found_as l.found) a) h.front s;
        }

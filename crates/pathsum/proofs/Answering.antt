-- There is one answer to an input.
use Rattle.std.proofs.Common.{◌≡◌, ◌≢◌, ℕ, refl, ap, sym, ◌∙◌, subst, arith, ◌+◌, ◌<◌, ◌≤◌, List, [], ◌∷◌, ◌++◌, length, map, codes, decimal, Option, Some, None, Result, Ok, Err}
use Rattle.ps_prim.specs.declared.prims.Primitive.{Primitive as Prim}
use Rattle.ps_sum.specs.declared.sums.PathSum.{PathSum}
use Rattle.ps_sum.specs.declared.faults.Passed.{Passed as Limit}
use Rattle.ps_rules.specs.declared.steps.Step.{Step}
use Rattle.ps_rules.specs.declared.steps.Move.{Move}
use Rattle.ps_overlap.specs.Overlapping.{point}
use Rattle.ps_reach.specs.declared.mode.Mode.{Mode}
use Rattle.ps_reach.specs.declared.mode.Mode.TheVariants.{Exact, Phase}
use Rattle.ps_reach.specs.Overruns.{Overrun}
use Rattle.ps_reach.specs.Runs.{run_of}
use Rattle.ps_reach.specs.Fillings.{Outcome, Fills, kept, passed}
use Rattle.ps_reach.specs.Findings.{Finding, yes, limit, Compares, first_limit}
use Rattle.ps_reach.proofs.FillsOnce.{fills_only}
use Rattle.ps_reach.proofs.Justifying.{compares_only}
use Rattle.ps_normal.specs.Comparing.{Decides, PassesFirst, Settles, early, both as compared}
use Rattle.ps_normal.specs.Deriving.{lines_by}
use Rattle.ps_steps.specs.declared.derivation.Derivation.{Derivation}
use Rattle.ps_steps.specs.Texts.{lines_text}
use Rattle.ps_replay.specs.declared.replayed.Replayed.{Replayed}
use Rattle.ps_replay.specs.declared.replayed.Replayed.TheVariants as replayed
use Rattle.ps_replay.specs.declared.replayed.Why.{Why}
use Rattle.ps_replay.proofs.Once.{replays_once}
use Rattle.qasm_expand.specs.declared.fault.FaultName.{FaultName}
use Rattle.qasm_expand.specs.declared.fault.ReadFault.{ReadFault}
use Rattle.qasm_expand.specs.declared.fault.ReadFault.TheVariants.{Fault}
use Rattle.qasm_expand.specs.Circuits.{CircuitOf}
use Rattle.qasm_lex.specs.Places.{IsPlace}
use Rattle.pathsum.specs.declared.answer.Answer.{Answer}
use Rattle.pathsum.specs.declared.answer.Answer.TheVariants.{Yes, Proof, YesPhase, No, NoPair, NoBehind, Stuck, Passed, Accepted, Rejected, Left, Refused, Words, Read, TooLong, Memory}
use Rattle.pathsum.specs.declared.input.Input.{Input}
use Rattle.pathsum.specs.declared.commands.Command.{Command}
use Rattle.pathsum.specs.declared.commands.Command.TheVariants as command
use Rattle.pathsum.specs.declared.refusals.Refusal.{Refusal}
use Rattle.pathsum.specs.declared.refusals.Refusal.TheVariants.{Text, Separator}
use Rattle.pathsum.specs.Answers.{status_of}
use Rattle.pathsum.specs.Commands.{IsCommand, words_of}
use Rattle.pathsum.specs.Inputs.{bit_code}
use Rattle.pathsum.specs.Splits.{IsParted}
use Rattle.pathsum.specs.Texts.{IsReadAs, Given, both, refuses, TextsAre, first_fault, second_fault, widths, circuits}
use Rattle.pathsum.specs.Verdicts.{Says, says_yes, says_yes_phase, says_no, says_no_pair, says_stuck, says_passed, IsVerdict}
use Rattle.ps_local.specs.declared.cut.Cut.{Cut}
use Rattle.ps_local.specs.Local.{Finds, nothing, something, windowed}
use Rattle.ps_local.specs.Windows.{IsUnknown}
use Rattle.ps_local.proofs.Uniqueness.{cut_once}
use Rattle.pathsum.specs.Local.{SaysBehind, plainly, behind, IsLocalVerdict}
use Rattle.pathsum.specs.Proofs.{IsDerivation, Proves, derived, other, Echoes, accepted, rejected, left, IsReplay, Works}
use Rattle.pathsum.specs.Ended.{Judges, lacking, refused, judged, Answers, IsOfInput, Agree, AreAlike, agree, turned, turned_back, IsOneAnswer}
use Rattle.pathsum.proofs.Splitting.{parts_once, parts_or_lacks}
use Rattle.pathsum.proofs.Placing.{place_once}

same_agree : (a : Answer) → Agree a a
same_agree a = record { status = refl; text = refl }

equal_agree : (a b : Answer) → a ≡ b → Agree a b
equal_agree a b e = subst (λ x. Agree a x) e (same_agree a)

no_agree : (n : ℕ) (i k : Input) → i.qubits ≡ n → k.qubits ≡ n → i.at ≡ k.at → Agree (No i) (No k)
no_agree n i k e f s = record {
  status = refl;
  text = ap (λ q. codes "no " ++ map bit_code (point q i.at) ++ codes "\n") (e ∙ sym f) ∙ ap (λ b. codes "no " ++ map bit_code (point k.qubits b) ++ codes "\n") s;
}

pair_agree : (n : ℕ) (i j k l : Input) → i.qubits ≡ n → j.qubits ≡ n → k.qubits ≡ n → l.qubits ≡ n → i.at ≡ k.at → j.at ≡ l.at → Agree (NoPair i j) (NoPair k l)
pair_agree n i j k l p q r s x y = record {
  status = refl;
  text = ap (λ (z : List ℕ). codes "no " ++ z ++ codes " " ++ digits j ++ codes "\n") (one i k p r x) ∙ ap (λ (z : List ℕ). codes "no " ++ digits k ++ codes " " ++ z ++ codes "\n") (one j l q s y);
}
  where
    digits : Input → List ℕ
    digits i = map bit_code (point i.qubits i.at)

    one : (i k : Input) → i.qubits ≡ n → k.qubits ≡ n → i.at ≡ k.at → digits i ≡ digits k
    one i k e f s = ap (λ q. map bit_code (point q i.at)) (e ∙ sym f) ∙ ap (λ b. map bit_code (point k.qubits b)) s

passed_agree : (p q : Limit) → p ≡ q → Agree (Passed p) (Passed q)
passed_agree p q e = equal_agree (Passed p) (Passed q) (ap Passed e)

-- ---- one finding is told in one way
says_same : {n : ℕ} {f : Finding} {a b : Answer} → Says n f a → Says n f b → Agree a b
says_same says_yes says_yes = same_agree Yes
says_same (says_yes_phase {p = p}) says_yes_phase = same_agree (YesPhase p)
says_same {n} (says_no {input = i} p q) (says_no {input = k} r s) = no_agree n i k p r (sym q ∙ s)
says_same {n} (says_no_pair {first = i} {second = j} p q x y) (says_no_pair {first = k} {second = l} r s z w) = pair_agree n i j k l p q r s (sym x ∙ z) (sym y ∙ w)
says_same (says_stuck {S = S}) says_stuck = same_agree (Stuck S)
says_same (says_passed {passed = x} p) (says_passed {passed = y} q) = passed_agree x y (p ∙ sym q)

says_one : (n : ℕ) (f g : Finding) (a b : Answer) → f ≡ g → Says n f a → Says n g b → Agree a b
says_one n f g a b e p q = says_same (subst (λ x. Says n x a) e p) q

says_yes_only : (n : ℕ) (f : Finding) (a : Answer) → f ≡ yes → Says n f a → a ≡ Yes
says_yes_only n f a e s = told (subst (λ x. Says n x a) e s)
  where
    told : {a : Answer} → Says n yes a → a ≡ Yes
    told says_yes = refl

-- ---- two comparisons of the same lists take the same steps and find the same
compares_one : (mode : Mode) (n : ℕ) (A B : List Prim) (o1 o2 u1 u2 : Outcome) (ss ts : List Step) (f g : Finding) → Fills n A o1 → Fills n B o2 → Compares mode o1 o2 ss f → Fills n A u1 → Fills n B u2 → Compares mode u1 u2 ts g → (ss ≡ ts) × (f ≡ g)
compares_one mode n A B o1 o2 u1 u2 ss ts f g a b c d e h =
    let k = compares_only c (subst (λ o. Compares mode o1 o ts g) (fills_only e b) (subst (λ o. Compares mode o u2 ts g) (fills_only d a) h)) in (k.steps, k.found)

finding_one : (mode : Mode) (n : ℕ) (A B : List Prim) (ss ts : List Step) (f g : Finding) → Decides n A B mode ss f → Decides n A B mode ts g → f ≡ g
finding_one mode n A B ss ts f g d e = (compares_one mode n A B d.first d.second e.first e.second ss ts f g d.first_fills d.second_fills d.compares e.first_fills e.second_fills e.compares).1

early_one : (mode : Mode) (n : ℕ) (A B : List Prim) (ss : List Step) (e : Overrun) (g : Finding) → PassesFirst n A e → Decides n A B mode ss g → limit e ≡ g
early_one mode n A B ss e g p d = (compares_only first_limit (subst (λ o. Compares mode o d.second ss g) (fills_only d.first_fills p.fills) d.compares)).found

same_limits : (d e : Overrun) (ms ns : List Move) → passed d ms ≡ passed e ns → limit d ≡ limit e
same_limits d e ms ns h = cc

settled_one : (mode : Mode) (n : ℕ) (A B : List Prim) {ss ts : List Step} {f g : Finding} → Settles n A B mode ss f → Settles n A B mode ts g → f ≡ g
settled_one mode n A B (early {e = d} p) (early {e = e} q) = same_limits d e p.moves q.moves (fills_only p.fills q.fills)
settled_one mode n A B (early {e = e} p) (compared {steps = ts} {finding = g} d) = early_one mode n A B ts e g p d
settled_one mode n A B (compared {steps = ss} {finding = f} d) (early {e = e} p) = sym (early_one mode n A B ss e f p d)
settled_one mode n A B (compared {steps = ss} {finding = f} d) (compared {steps = ts} {finding = g} e) = finding_one mode n A B ss ts f g d e

verdict_one : (mode : Mode) (n : ℕ) (A B : List Prim) (a b : Answer) → IsVerdict n A B mode a → IsVerdict n A B mode b → Agree a b
verdict_one mode n A B a b d e = says_one n d.finding e.finding a b (settled_one mode n A B d.decided e.decided) d.told e.told

-- ---- derivations
kept_moves : (S T : PathSum) (ms ns : List Move) → kept S ms ≡ kept T ns → ms ≡ ns
kept_moves S T ms ns e = cc

proof_agree : (d e : Derivation) → d.lines ≡ e.lines → Agree (Proof d) (Proof e)
proof_agree d e h = record { status = refl; text = ap lines_text h }

derivation_one : (n : ℕ) (A B : List Prim) (d e : Derivation) → IsDerivation n A B d → IsDerivation n A B e → Agree (Proof d) (Proof e)
derivation_one n A B d e x y =
    let s = (compares_one Exact n A B (kept x.first x.first_moves) (kept x.second x.second_moves) (kept y.first y.first_moves) (kept y.second y.second_moves) x.steps y.steps yes yes x.first_fills x.second_fills x.compares y.first_fills y.second_fills y.compares).0 in
    let a = kept_moves x.first y.first x.first_moves y.first_moves (fills_only x.first_fills y.first_fills) in
    let b = kept_moves x.second y.second x.second_moves y.second_moves (fills_only x.second_fills y.second_fills) in
    proof_agree d e (x.lines ∙ ap (λ (ms : List Move). lines_by ms x.second_moves x.steps) a ∙ ap (λ (ms : List Move). lines_by y.first_moves ms x.steps) b ∙ ap (λ (ss : List Step). lines_by y.first_moves y.second_moves ss) s ∙ sym y.lines)

kept_not_passed : (S : PathSum) (ms ns : List Move) (e : Overrun) → kept S ms ≡ passed e ns → ⊥
kept_not_passed S ms ns e h = cc

derived_yes : (n : ℕ) (A B : List Prim) (d : Derivation) {ss : List Step} {f : Finding} → IsDerivation n A B d → Settles n A B Exact ss f → yes ≡ f
derived_yes n A B d x (early {e = e} p) = absurd (kept_not_passed x.first x.first_moves p.moves e (fills_only x.first_fills p.fills))
derived_yes n A B d x (compared {steps = ss} {finding = f} k) =
    (compares_one Exact n A B (kept x.first x.first_moves) (kept x.second x.second_moves) k.first k.second x.steps ss yes f x.first_fills x.second_fills x.compares k.first_fills k.second_fills k.compares).1

derivation_or_other : (n : ℕ) (A B : List Prim) (d : Derivation) (a : Answer) → IsDerivation n A B d → IsVerdict n A B Exact a → a ≢ Yes → ⊥
derivation_or_other n A B d a x v h = h (says_yes_only n v.finding a (sym (derived_yes n A B d x v.decided)) v.told)

proves_one : (n : ℕ) (A B : List Prim) (a b : Answer) → Proves n A B a → Proves n A B b → Agree a b
proves_one n A B a b (derived {d = d} x) (derived {d = e} y) = derivation_one n A B d e x y
proves_one n A B a b (derived {d = d} x) (other v h) = absurd (derivation_or_other n A B d b x v h)
proves_one n A B a b (other v h) (derived {d = d} x) = absurd (derivation_or_other n A B d a x v h)
proves_one n A B a b (other v h) (other w k) = verdict_one Exact n A B a b v w

-- ---- replays
accepted_not_rejected : {l : ℕ} {w : Why} → replayed.Accepted ≡ replayed.Rejected l w → ⊥
accepted_not_rejected e = cc

accepted_not_left : {S : PathSum} → replayed.Accepted ≡ replayed.Left S → ⊥
accepted_not_left e = cc

rejected_not_left : {l : ℕ} {w : Why} {S : PathSum} → replayed.Rejected l w ≡ replayed.Left S → ⊥
rejected_not_left e = cc

rejected_line : {l m : ℕ} {w v : Why} → replayed.Rejected l w ≡ replayed.Rejected m v → l ≡ m
rejected_line e = cc

rejected_why : {l m : ℕ} {w v : Why} → replayed.Rejected l w ≡ replayed.Rejected m v → w ≡ v
rejected_why e = cc

left_sum : {S T : PathSum} → replayed.Left S ≡ replayed.Left T → S ≡ T
left_sum e = cc

echoes_one : (r s : Replayed) (a b : Answer) → r ≡ s → Echoes r a → Echoes s b → Agree a b
echoes_one r s a b e accepted accepted = same_agree Accepted
echoes_one r s a b e accepted rejected = absurd (accepted_not_rejected e)
echoes_one r s a b e accepted left = absurd (accepted_not_left e)
echoes_one r s a b e rejected accepted = absurd (accepted_not_rejected (sym e))
echoes_one r s a b e (rejected {line = l} {why = w}) (rejected {line = m} {why = v}) = equal_agree (Rejected l w) (Rejected m v) (ap (λ (x : ℕ). Rejected x w) (rejected_line e) ∙ ap (λ (x : Why). Rejected m x) (rejected_why e))
echoes_one r s a b e rejected left = absurd (rejected_not_left e)
echoes_one r s a b e left accepted = absurd (accepted_not_left (sym e))
echoes_one r s a b e left rejected = absurd (rejected_not_left (sym e))
echoes_one r s a b e (left {S = S}) (left {S = T}) = equal_agree (Left S) (Left T) (ap Left (left_sum e))

replay_one : (n : ℕ) (A B : List Prim) (d : List ℕ) (a b : Answer) → IsReplay n A B d a → IsReplay n A B d b → Agree a b
replay_one n A B d a b x y = echoes_one x.replayed y.replayed a b (replays_once x.replays y.replays) x.told y.told

-- ---- edits
behind_agree : (n front : ℕ) (i k : Input) → i.qubits ≡ n → k.qubits ≡ n → i.at ≡ k.at → Agree (NoBehind i front) (NoBehind k front)
behind_agree n front i k e f s = record {
  status = refl;
  text = ap (λ q. codes "no " ++ map bit_code (point q i.at) ++ codes " behind " ++ decimal front ++ codes "\n") (e ∙ sym f) ∙ ap (λ b. codes "no " ++ map bit_code (point k.qubits b) ++ codes " behind " ++ decimal front ++ codes "\n") s;
}

no_front : {front : ℕ} → front ≡ 0 → 0 < front → ⊥
no_front e h = omega arith

behind_same : {n front : ℕ} {f : Finding} {a b : Answer} → SaysBehind n front f a → SaysBehind n front f b → Agree a b
behind_same (plainly p s) (plainly q t) = says_same s t
behind_same (plainly p s) (behind h u v) = absurd (no_front p h)
behind_same (behind h u v) (plainly p s) = absurd (no_front p h)
behind_same {n} {front} (behind {input = i} h u v) (behind {input = k} h' u' v') = behind_agree n front i k u u' (sym v ∙ v')

behind_yes : (n front : ℕ) (f : Finding) (a : Answer) → f ≡ yes → SaysBehind n front f a → a ≡ Yes
behind_yes n front f a e s = told (subst (λ x. SaysBehind n front x a) e s)
  where
    plain : {b : Answer} → Says n yes b → b ≡ Yes
    plain says_yes = refl

    told : {b : Answer} → SaysBehind n front yes b → b ≡ Yes
    told (plainly p t) = plain t

says_unknown : {n : ℕ} {f : Finding} {a : Answer} → IsUnknown f → Says n f a → status_of a ≡ 2
says_unknown u says_yes = absurd u
says_unknown u says_yes_phase = absurd u
says_unknown u (says_no p q) = absurd u
says_unknown u (says_no_pair p q x y) = absurd u
says_unknown u says_stuck = refl
says_unknown u (says_passed p) = refl

behind_unknown : {n front : ℕ} {f : Finding} {a : Answer} → IsUnknown f → SaysBehind n front f a → status_of a ≡ 2
behind_unknown u (plainly p s) = says_unknown u s
behind_unknown u (behind h p q) = absurd u

-- one thing is found, or windows turned what is unknown in the one into the other's yes
data AreFound (f g : Finding) : Type 0 where
  same_found : f ≡ g → AreFound f g
  yes_first : f ≡ yes → IsUnknown g → AreFound f g
  yes_second : g ≡ yes → IsUnknown f → AreFound f g

still_unknown : {f g : Finding} → f ≡ g → IsUnknown f → IsUnknown g
still_unknown e u = subst IsUnknown e u

finds_alike : (n : ℕ) (M N : List (List Prim)) {f g : Finding} → Finds n M N f → Finds n M N g → AreFound f g
finds_alike n M N (nothing e) (nothing h) = same_found refl
finds_alike n M N (nothing e) (something s d) = absurd (s e)
finds_alike n M N (nothing e) (windowed s w) = absurd (s e)
finds_alike n M N (something s d) (nothing e) = absurd (s e)
finds_alike n M N (something s d) (something t k) = same_found (settled_one Exact n (run_of M) (run_of N) d k)
finds_alike n M N (something s d) (windowed t w) = yes_second refl (still_unknown (settled_one Exact n (run_of M) (run_of N) w.whole d) w.unknown)
finds_alike n M N (windowed s w) (nothing e) = absurd (s e)
finds_alike n M N (windowed s w) (something t d) = yes_first refl (still_unknown (settled_one Exact n (run_of M) (run_of N) w.whole d) w.unknown)
finds_alike n M N (windowed s w) (windowed t v) = same_found refl

found_alike : (words : List (List ℕ)) (n front : ℕ) (f g : Finding) (a b : Answer) → IsCommand command.SameLocal words → AreFound f g → SaysBehind n front f a → SaysBehind n front g b → AreAlike words a b
found_alike words n front f g a b w (same_found e) s t = agree (behind_same (subst (λ h. SaysBehind n front h a) e s) t)
found_alike words n front f g a b w (yes_first e u) s t = turned w (record { yes = behind_yes n front f a e s; unknown = behind_unknown u t })
found_alike words n front f g a b w (yes_second e u) s t = turned_back w (record { yes = behind_yes n front g b e t; unknown = behind_unknown u s })

local_alike : (words : List (List ℕ)) (n : ℕ) (I K : List (List Prim)) (a b : Answer) → IsCommand command.SameLocal words → IsLocalVerdict n I K a → IsLocalVerdict n I K b → AreAlike words a b
local_alike words n I K a b w x y =
    let c = cut_once I K x.cut y.cut x.is_cut y.is_cut in
    let f = finds_alike n y.cut.first y.cut.second (subst (λ (k : Cut). Finds n k.first k.second x.finding) c x.found) y.found in
    found_alike words n y.cut.front x.finding y.finding a b w f (subst (λ (k : Cut). SaysBehind n k.front x.finding a) c x.told) y.told

works_alike : (words : List (List ℕ)) (c : Command) (n : ℕ) (A B : List (List Prim)) (d : List ℕ) (a b : Answer) → IsCommand c words → Works c n A B d a → Works c n A B d b → AreAlike words a b
works_alike words command.Same n A B d a b w x y = agree (verdict_one Exact n (run_of A) (run_of B) a b x y)
works_alike words command.SamePhase n A B d a b w x y = agree (verdict_one Phase n (run_of A) (run_of B) a b x y)
works_alike words command.SameLocal n A B d a b w x y = local_alike words n A B a b w x y
works_alike words command.Prove n A B d a b w x y = agree (proves_one n (run_of A) (run_of B) a b x y)
works_alike words command.Replay n A B d a b w x y = agree (replay_one n (run_of A) (run_of B) d a b x y)

-- ---- two texts are read as one thing
abbrev ok_of : CircuitOf → Result CircuitOf ReadFault
ok_of c = Ok c

abbrev err_of : FaultName → ℕ → Result CircuitOf ReadFault
err_of n i = Err (Fault n i)

ok_not_err : {c : CircuitOf} {n : FaultName} {i : ℕ} → ok_of c ≡ err_of n i → ⊥
ok_not_err e = cc

same_circuit : {c d : CircuitOf} → ok_of c ≡ ok_of d → c ≡ d
same_circuit e = cc

same_name : {n m : FaultName} {i k : ℕ} → err_of n i ≡ err_of m k → n ≡ m
same_name e = cc

same_at : {n m : FaultName} {i k : ℕ} → err_of n i ≡ err_of m k → i ≡ k
same_at e = cc

fault_given : (s : ℕ) {n m : FaultName} {i k : ℕ} → err_of n i ≡ err_of m k → refuses (Text n) (s + i) ≡ refuses (Text m) (s + k)
fault_given s {n} {m} {i} {k} e = ap (λ (x : FaultName). refuses (Text x) (s + i)) (same_name e) ∙ ap (λ (x : ℕ). refuses (Text m) (s + x)) (same_at e)

first_given : {n m : FaultName} {i k : ℕ} → err_of n i ≡ err_of m k → refuses (Text n) i ≡ refuses (Text m) k
first_given {n} {m} {i} {k} e = ap (λ (x : FaultName). refuses (Text x) i) (same_name e) ∙ ap (λ (x : ℕ). refuses (Text m) x) (same_at e)

both_given : {c d c' d' : CircuitOf} → c ≡ c' → d ≡ d' → both c.qubits c.items d.items ≡ both c'.qubits c'.items d'.items
both_given {c} {d} {c'} {d'} e f = ap (λ (x : CircuitOf). both x.qubits x.items d.items) e ∙ ap (λ (x : CircuitOf). both c'.qubits c'.items x.items) f

differ_or_agree : {c d c' d' : CircuitOf} → c ≡ c' → d ≡ d' → c.qubits ≢ d.qubits → c'.qubits ≡ d'.qubits → ⊥
differ_or_agree e f h k = h (ap (λ (x : CircuitOf). x.qubits) e ∙ k ∙ sym (ap (λ (x : CircuitOf). x.qubits) f))

read_one : {text : List ℕ} {r s : Result CircuitOf ReadFault} → IsReadAs text r → IsReadAs text s → r ≡ s
read_one {r = r} a b = b.only r a.reads

texts_one : (a b : List ℕ) (s : ℕ) (g h : Given) → TextsAre a b s g → TextsAre a b s h → g ≡ h
texts_one a b s g h (first_fault x) (first_fault y) = first_given (read_one x y)
texts_one a b s g h (first_fault x) (second_fault y z) = absurd (ok_not_err (read_one y x))
texts_one a b s g h (first_fault x) (widths y z k) = absurd (ok_not_err (read_one y x))
texts_one a b s g h (first_fault x) (circuits y z k) = absurd (ok_not_err (read_one y x))
texts_one a b s g h (second_fault x y) (first_fault z) = absurd (ok_not_err (read_one x z))
texts_one a b s g h (second_fault x y) (second_fault z w) = fault_given s (read_one y w)
texts_one a b s g h (second_fault x y) (widths z w k) = absurd (ok_not_err (read_one w y))
texts_one a b s g h (second_fault x y) (circuits z w k) = absurd (ok_not_err (read_one w y))
texts_one a b s g h (widths x y k) (first_fault z) = absurd (ok_not_err (read_one x z))
texts_one a b s g h (widths x y k) (second_fault z w) = absurd (ok_not_err (read_one y w))
texts_one a b s g h (widths x y k) (widths z w l) = refl
texts_one a b s g h (widths x y k) (circuits z w l) = absurd (differ_or_agree (same_circuit (read_one x z)) (same_circuit (read_one y w)) k l)
texts_one a b s g h (circuits x y k) (first_fault z) = absurd (ok_not_err (read_one x z))
texts_one a b s g h (circuits x y k) (second_fault z w) = absurd (ok_not_err (read_one y w))
texts_one a b s g h (circuits x y k) (widths z w l) = absurd (differ_or_agree (same_circuit (read_one z x)) (same_circuit (read_one w y)) l k)
texts_one a b s g h (circuits x y k) (circuits z w l) = both_given (same_circuit (read_one x z)) (same_circuit (read_one y w))

-- ---- an input is answered in one way
refused_agree : (why why' : Refusal) (line column line' column' : ℕ) → why ≡ why' → line ≡ line' → column ≡ column' → Agree (Refused why line column) (Refused why' line' column')
refused_agree why why' line column line' column' e f g = equal_agree (Refused why line column) (Refused why' line' column') (ap (λ (x : Refusal). Refused x line column) e ∙ ap (λ (x : ℕ). Refused why' x column) f ∙ ap (λ (x : ℕ). Refused why' line' x) g)

placed_agree : (bytes : List ℕ) (why why' : Refusal) (at at' line column line' column' : ℕ) → why ≡ why' → at ≡ at' → IsPlace bytes at line column → IsPlace bytes at' line' column' → Agree (Refused why line column) (Refused why' line' column')
placed_agree bytes why why' at at' line column line' column' e f p q =
    let o = place_once bytes at' line column line' column' (subst (λ (i : ℕ). IsPlace bytes i line column) f p) q in
    refused_agree why why' line column line' column' e o.line_is o.column_is

both_not_refuses : {n : ℕ} {A B : List (List Prim)} {w : Refusal} {i : ℕ} → both n A B ≡ refuses w i → ⊥
both_not_refuses e = cc

refuses_why : {w v : Refusal} {i k : ℕ} → refuses w i ≡ refuses v k → w ≡ v
refuses_why e = cc

refuses_at : {w v : Refusal} {i k : ℕ} → refuses w i ≡ refuses v k → i ≡ k
refuses_at e = cc

both_n : {n m : ℕ} {A B C D : List (List Prim)} → both n A B ≡ both m C D → n ≡ m
both_n e = cc

both_first : {n m : ℕ} {A B C D : List (List Prim)} → both n A B ≡ both m C D → A ≡ C
both_first e = cc

both_second : {n m : ℕ} {A B C D : List (List Prim)} → both n A B ≡ both m C D → B ≡ D
both_second e = cc

-- two ways to part the input and to read the texts
given_one : (c : Command) (bytes a b d a' b' d' : List ℕ) (s s' : ℕ) (g h : Given) → IsParted c bytes a b s d → IsParted c bytes a' b' s' d' → TextsAre a b s g → TextsAre a' b' s' h → g ≡ h
given_one c bytes a b d a' b' d' s s' g h p q x y =
    let o = parts_once c bytes a b d s a' b' d' s' p q in
    texts_one a' b' s' g h (subst (λ (k : ℕ). TextsAre a' b' k g) o.start (subst (λ (k : List ℕ). TextsAre a' k s g) o.second (subst (λ (k : List ℕ). TextsAre k b s g) o.first x))) y

works_moved : (c : Command) (n m : ℕ) (A B C D : List (List Prim)) (d d' : List ℕ) (a : Answer) → n ≡ m → A ≡ C → B ≡ D → d ≡ d' → Works c n A B d a → Works c m C D d' a
works_moved c n m A B C D d d' a e f g h w = subst (λ (k : List ℕ). Works c m C D k a) h (subst (λ (k : List (List Prim)). Works c m C k d a) g (subst (λ (k : List (List Prim)). Works c m k B d a) f (subst (λ (k : ℕ). Works c k A B d a) e w)))

judges_alike : (words : List (List ℕ)) (c : Command) (bytes : List ℕ) (x y : Answer) → IsCommand c words → Judges c bytes x → Judges c bytes y → AreAlike words x y
judges_alike words c bytes x y is (lacking {line = l} {column = k} h p) (lacking {line = l'} {column = k'} h' p') = agree (placed_agree bytes Separator Separator (length bytes) (length bytes) l k l' k' refl refl p p')
judges_alike words c bytes x y is (lacking h p) (refused a b d s i q t r) = absurd (parts_or_lacks c bytes a b d s q h)
judges_alike words c bytes x y is (lacking h p) (judged a b d s n A B q t w) = absurd (parts_or_lacks c bytes a b d s q h)
judges_alike words c bytes x y is (refused a b d s i q t r) (lacking h p) = absurd (parts_or_lacks c bytes a b d s q h)
judges_alike words c bytes x y is (refused a b d s i {why = w} {line = l} {column = k} q t r) (refused a' b' d' s' i' {why = w'} {line = l'} {column = k'} q' t' r') =
    let e = given_one c bytes a b d a' b' d' s s' (refuses w i) (refuses w' i') q q' t t' in
    agree (placed_agree bytes w w' i i' l k l' k' (refuses_why e) (refuses_at e) r r')
judges_alike words c bytes x y is (refused a b d s i {why = w} q t r) (judged a' b' d' s' n A B q' t' v) =
    absurd (both_not_refuses (given_one c bytes a' b' d' a b d s' s (both n A B) (refuses w i) q' q t' t))
judges_alike words c bytes x y is (judged a b d s n A B q t w) (lacking h p) = absurd (parts_or_lacks c bytes a b d s q h)
judges_alike words c bytes x y is (judged a' b' d' s' n A B q' t' v) (refused a b d s i {why = w} q t r) =
    absurd (both_not_refuses (given_one c bytes a' b' d' a b d s' s (both n A B) (refuses w i) q' q t' t))
judges_alike words c bytes x y is (judged a b d s n A B q t w) (judged a' b' d' s' n' A' B' q' t' w') =
    let e = given_one c bytes a b d a' b' d' s s' (both n A B) (both n' A' B') q q' t t' in
    let o = parts_once c bytes a b d s a' b' d' s' q q' in
    works_alike words c n' A' B' d' x y is (works_moved c n n' A B A' B' d d' x (both_n e) (both_first e) (both_second e) o.document w) w'

-- ---- words
-- the first letter of the second word
abbrev second_letter : List (List ℕ) → ℕ
second_letter [] = 0
second_letter (a ∷ []) = 0
second_letter (a ∷ [] ∷ ws) = 0
second_letter (a ∷ (x ∷ xs) ∷ ws) = x

other_letter : (x y : ℕ) → x ≡ 112 → y ≡ 108 → x ≡ y → ⊥
other_letter x y a b e = omega arith

phase_or_local : words_of command.SamePhase ≡ words_of command.SameLocal → ⊥
phase_or_local e = other_letter (second_letter (words_of command.SamePhase)) (second_letter (words_of command.SameLocal)) refl refl (ap second_letter e)

-- the words of different commands differ in their first word, in how many there are, or in the second word
command_one : (words : List (List ℕ)) (c d : Command) → IsCommand c words → IsCommand d words → c ≡ d
command_one words c d e f = told c d (sym e ∙ f)
  where
    told : (c d : Command) → words_of c ≡ words_of d → c ≡ d
    told command.Same command.Same e = refl
    told command.Same command.SamePhase e = cc
    told command.Same command.SameLocal e = cc
    told command.Same command.Prove e = cc
    told command.Same command.Replay e = cc
    told command.SamePhase command.Same e = cc
    told command.SamePhase command.SamePhase e = refl
    told command.SamePhase command.SameLocal e = absurd (phase_or_local e)
    told command.SamePhase command.Prove e = cc
    told command.SamePhase command.Replay e = cc
    told command.SameLocal command.Same e = cc
    told command.SameLocal command.SamePhase e = absurd (phase_or_local (sym e))
    told command.SameLocal command.SameLocal e = refl
    told command.SameLocal command.Prove e = cc
    told command.SameLocal command.Replay e = cc
    told command.Prove command.Same e = cc
    told command.Prove command.SamePhase e = cc
    told command.Prove command.SameLocal e = cc
    told command.Prove command.Prove e = refl
    told command.Prove command.Replay e = cc
    told command.Replay command.Same e = cc
    told command.Replay command.SamePhase e = cc
    told command.Replay command.SameLocal e = cc
    told command.Replay command.Prove e = cc
    told command.Replay command.Replay e = refl

-- what an answer is: to wrong words, to a long input, or to what was read
data Kind (words : List (List ℕ)) (bytes : List ℕ) : Answer → Type 0 where
  wrong : ((c : Command) → ¬ (IsCommand c words)) → Kind words bytes Words
  long : (c : Command) → IsCommand c words → 16777216 < length bytes → Kind words bytes TooLong
  read : (c : Command) {a : Answer} → IsCommand c words → length bytes ≤ 16777216 → Judges c bytes a → Kind words bytes a

read_kind : (words : List (List ℕ)) (bytes : List ℕ) (c : Command) (a : Answer) → IsCommand c words → (length bytes ≤ 16777216) × Judges c bytes a → Kind words bytes a
read_kind words bytes c a w d = read c w d.0 d.1

kind_of : (words : List (List ℕ)) (bytes : List ℕ) (s s' : ℕ) (a : Answer) → Answers words (Some bytes) s s' a → IsOfInput a → Kind words bytes a
kind_of words bytes s s' Yes d i = read_kind words bytes d.command Yes d.is d.deserves
kind_of words bytes s s' (Proof k) d i = read_kind words bytes d.command (Proof k) d.is d.deserves
kind_of words bytes s s' (YesPhase p) d i = read_kind words bytes d.command (YesPhase p) d.is d.deserves
kind_of words bytes s s' (NoBehind j k) d i = read_kind words bytes d.command (NoBehind j k) d.is d.deserves
kind_of words bytes s s' (NoPair j k) d i = read_kind words bytes d.command (NoPair j k) d.is d.deserves
kind_of words bytes s s' (No k) d i = read_kind words bytes d.command (No k) d.is d.deserves
kind_of words bytes s s' (Stuck k) d i = read_kind words bytes d.command (Stuck k) d.is d.deserves
kind_of words bytes s s' (Passed k) d i = read_kind words bytes d.command (Passed k) d.is d.deserves
kind_of words bytes s s' Accepted d i = read_kind words bytes d.command Accepted d.is d.deserves
kind_of words bytes s s' (Rejected l w) d i = read_kind words bytes d.command (Rejected l w) d.is d.deserves
kind_of words bytes s s' (Left k) d i = read_kind words bytes d.command (Left k) d.is d.deserves
kind_of words bytes s s' (Refused w l k) d i = read_kind words bytes d.command (Refused w l k) d.is d.deserves
kind_of words bytes s s' Words d i = wrong d
kind_of words bytes s s' TooLong d i = long d.command d.is d.deserves
kind_of words bytes s s' Read d i = absurd i
kind_of words bytes s s' Memory d i = absurd i

kinds_alike : (words : List (List ℕ)) (bytes : List ℕ) (a b : Answer) → Kind words bytes a → Kind words bytes b → AreAlike words a b
kinds_alike words bytes a b (wrong h) (wrong k) = agree (same_agree Words)
kinds_alike words bytes a b (wrong h) (long c w l) = absurd (h c w)
kinds_alike words bytes a b (wrong h) (read c w l r) = absurd (h c w)
kinds_alike words bytes a b (long c w l) (wrong k) = absurd (k c w)
kinds_alike words bytes a b (long c w l) (long d v m) = agree (same_agree TooLong)
kinds_alike words bytes a b (long c w l) (read d v m r) = absurd (omega (arith, l, m))
kinds_alike words bytes a b (read c w l r) (wrong k) = absurd (k c w)
kinds_alike words bytes a b (read c w l r) (long d v m) = absurd (omega (arith, l, m))
kinds_alike words bytes a b (read c w l r) (read d v m q) = judges_alike words d bytes a b v (subst (λ (k : Command). Judges k bytes a) (command_one words c d w v) r) q

pub one_answer : (words : List (List ℕ)) (told : Option (List ℕ)) → IsOneAnswer words told
one_answer words None = tt
one_answer words (Some bytes) = λ r r' s s' a b d e i j. kinds_alike words bytes a b (kind_of words bytes r r' a d i) (kind_of words bytes s s' b e j)

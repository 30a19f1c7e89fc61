-- From what is found of two texts to the answer of a call.
use Rattle.std.proofs.Common.{◌≡◌, ◌≢◌, ℕ, zero, suc, min, refl, ap, sym, ◌∙◌, ◌+◌, ◌-◌, ◌≤◌, Option, Some, None, List, [], ◌∷◌, ◌++◌, length, subst, ◌⊎◌, inl, inr, append-nil, get_or, map, arith, Bool, true, false, Result, Ok, Err}
use Rattle.std.proofs.Math.Nat.{min-eq_left, min-eq_right, min-le_left}
use Rattle.std.specs.Str.{bytes_eq}
use Rattle.std.proofs.lemmas.Slice.Eq.{bytes_eq-Decides}
use Rattle.std.specs.Io.KnownBytes.{prepend_known, IsAtEnd}
use Rattle.std.specs.Prelude.{IfSome}
use Rattle.ps_prim.specs.declared.prims.Primitive.{Primitive as Prim}
use Rattle.ps_reach.specs.Findings.{Finding}
use Rattle.ps_replay.specs.declared.replayed.Replayed.{Replayed}
use Rattle.qasm_lex.specs.Places.{IsPlace}
use Rattle.qasm_expand.specs.declared.fault.FaultName.{FaultName}
use Rattle.qasm_expand.specs.declared.fault.ReadFault.{ReadFault}
use Rattle.qasm_expand.specs.declared.fault.ReadFault.TheVariants.{Fault}
use Rattle.qasm_expand.specs.Circuits.{CircuitOf, ReadsText}
use Rattle.qasm_expand.specs.Reading.{CircuitTold}
use Rattle.pathsum.specs.declared.pair.Pair.{Pair}
use Rattle.pathsum.specs.declared.pair.TwoTexts.{TwoTexts}
use Rattle.pathsum.specs.declared.pair.TwoTexts.TheVariants.{Both, Refuses}
use Rattle.pathsum.specs.declared.answer.Answer.{Answer}
use Rattle.pathsum.specs.declared.answer.Answer.TheVariants.{Yes, Proof, YesPhase, No, NoPair, NoBehind, Stuck, Passed, Accepted, Rejected, Left, Refused, Words, Read, TooLong, Memory}
use Rattle.pathsum.specs.declared.commands.Command.{Command}
use Rattle.pathsum.specs.declared.commands.Command.TheVariants as command
use Rattle.pathsum.specs.declared.refusals.Refusal.{Refusal}
use Rattle.pathsum.specs.declared.refusals.Refusal.TheVariants.{Separator, Text, Widths}
use Rattle.pathsum.specs.Answers.{status_of, text_of}
use Rattle.pathsum.specs.Commands.{IsCommand}
use Rattle.pathsum.specs.Splits.{IsParted, Lacks}
use Rattle.pathsum.specs.Texts.{IsReadAs, Given, both, refuses, TextsAre, first_fault, second_fault, widths, circuits}
use Rattle.pathsum.specs.Givens.{given_in, IsNear, OfCircuits, differ, agree}
use Rattle.pathsum.specs.Verdicts.{Says, says_yes, says_yes_phase, says_no, says_no_pair, says_stuck, says_passed}
use Rattle.pathsum.specs.Local.{SaysBehind, plainly, behind}
use Rattle.pathsum.specs.Proofs.{Proves, derived, other, Echoes, accepted, rejected, left, Works}
use Rattle.pathsum.specs.Ended.{Judges, lacking, refused, judged, Deserves, Answers, Ends, Writes}
use Rattle.pathsum.specs.Judgements.{Judged, IsRefusal}
use Rattle.pathsum.proofs.Placing.{place_beyond}

-- what may be answered of bytes that were read
abbrev IsJudgement : Answer → Type 0
IsJudgement Words = ⊥
IsJudgement Read = ⊥
IsJudgement TooLong = ⊥
IsJudgement Memory = ⊥
IsJudgement answer = Unit {0}

says_judgement : {n : ℕ} {f : Finding} {a : Answer} → Says n f a → IsJudgement a
says_judgement says_yes = tt
says_judgement says_yes_phase = tt
says_judgement (says_no p q) = tt
says_judgement (says_no_pair p q x y) = tt
says_judgement says_stuck = tt
says_judgement (says_passed p) = tt

proves_judgement : {n : ℕ} {A B : List Prim} {a : Answer} → Proves n A B a → IsJudgement a
proves_judgement (derived d) = tt
proves_judgement (other v h) = says_judgement v.told

echoes_judgement : {r : Replayed} {a : Answer} → Echoes r a → IsJudgement a
echoes_judgement accepted = tt
echoes_judgement rejected = tt
echoes_judgement left = tt

behind_judgement : {n front : ℕ} {f : Finding} {a : Answer} → SaysBehind n front f a → IsJudgement a
behind_judgement (plainly p s) = says_judgement s
behind_judgement (behind h p q) = tt

works_judgement : (c : Command) (n : ℕ) (A B : List (List Prim)) (d : List ℕ) (a : Answer) → Works c n A B d a → IsJudgement a
works_judgement command.Same n A B d a w = says_judgement w.told
works_judgement command.SamePhase n A B d a w = says_judgement w.told
works_judgement command.SameLocal n A B d a w = behind_judgement w.told
works_judgement command.Prove n A B d a w = proves_judgement w
works_judgement command.Replay n A B d a w = echoes_judgement w.told

judges_judgement : (c : Command) (bytes : List ℕ) (a : Answer) → Judges c bytes a → IsJudgement a
judges_judgement c bytes a (lacking h p) = tt
judges_judgement c bytes a (refused x y d s at p t q) = tt
judges_judgement c bytes a (judged x y d s n A B p t w) = works_judgement c n A B d a w

deserves_of : (c : Command) (told : Option (List ℕ)) (old new : ℕ) (a : Answer) → IsJudgement a → IfSome told (λ bytes. (length bytes ≤ 16777216) × Judges c bytes a) → Deserves c told old new a
deserves_of c told old new Yes i d = d
deserves_of c told old new (Proof k) i d = d
deserves_of c told old new (YesPhase p) i d = d
deserves_of c told old new (No k) i d = d
deserves_of c told old new (NoPair j k) i d = d
deserves_of c told old new (NoBehind j k) i d = d
deserves_of c told old new (Stuck k) i d = d
deserves_of c told old new (Passed k) i d = d
deserves_of c told old new Accepted i d = d
deserves_of c told old new (Rejected l w) i d = d
deserves_of c told old new (Left k) i d = d
deserves_of c told old new (Refused w l k) i d = d
deserves_of c told old new Words i d = absurd i
deserves_of c told old new Read i d = absurd i
deserves_of c told old new TooLong i d = absurd i
deserves_of c told old new Memory i d = absurd i

-- what holds of the bytes that were read holds of all that the source told
told_bytes : (P : List ℕ → Type 0) (told after : Option (List ℕ)) (items : List ℕ) → told ≡ prepend_known items after → IsAtEnd after → P items → IfSome told P
told_bytes P told after items e a p = subst (λ (o : Option (List ℕ)). IfSome o P) (sym e) (by after a)
  where
    by : (o : Option (List ℕ)) → IsAtEnd o → IfSome (prepend_known items o) P
    by None a = tt
    by (Some xs) a = subst P (sym (ap (λ (r : List ℕ). items ++ r) a ∙ append-nil items)) p

-- the answer to the bytes is that of the call
pub deserves_judged : (c : Command) (told after : Option (List ℕ)) (items : List ℕ) (old new : ℕ) (answer : Answer) → told ≡ prepend_known items after → IsAtEnd after → length items ≤ 16777216 → Judged c items answer → Deserves c told old new answer
deserves_judged c told after items old new answer e a l (inl m) = subst (Deserves c told old new) (sym m) tt
deserves_judged c told after items old new answer e a l (inr j) = deserves_of c told old new answer (judges_judgement c items answer j) (told_bytes (λ bytes. (length bytes ≤ 16777216) × Judges c bytes answer) told after items e a (l, j))

-- what `print` did ends the call
pub printed : (claims : Answer → Type 0) (old new : Option (List ℕ)) (f f' : ℕ) (status : ℕ) (answer : Answer) → claims answer → claims Memory
    → (Writes old new f f' (text_of answer) (status_of answer) status) ⊎ (Writes old new f f' (text_of Memory) 70 status) → Ends claims old new f f' status
printed claims old new f f' status answer c m (inl w) = record { answer = answer; claimed = c; written = w }
printed claims old new f f' status answer c m (inr w) = record { answer = Memory; claimed = m; written = w }

answers_of : (c : Command) (words : List (List ℕ)) (told : Option (List ℕ)) (s s' : ℕ) (answer : Answer) → IsCommand c words → Deserves c told s s' answer → Answers words told s s' answer
answers_of c words told s s' Yes w d = record { command = c; is = w; deserves = d }
answers_of c words told s s' (Proof k) w d = record { command = c; is = w; deserves = d }
answers_of c words told s s' (YesPhase p) w d = record { command = c; is = w; deserves = d }
answers_of c words told s s' (NoPair j k) w d = record { command = c; is = w; deserves = d }
answers_of c words told s s' (NoBehind j k) w d = record { command = c; is = w; deserves = d }
answers_of c words told s s' (No k) w d = record { command = c; is = w; deserves = d }
answers_of c words told s s' (Stuck k) w d = record { command = c; is = w; deserves = d }
answers_of c words told s s' (Passed k) w d = record { command = c; is = w; deserves = d }
answers_of c words told s s' Accepted w d = record { command = c; is = w; deserves = d }
answers_of c words told s s' (Rejected l y) w d = record { command = c; is = w; deserves = d }
answers_of c words told s s' (Left k) w d = record { command = c; is = w; deserves = d }
answers_of c words told s s' (Refused y l k) w d = record { command = c; is = w; deserves = d }
answers_of c words told s s' Words w d = absurd d
answers_of c words told s s' Read w d = record { command = c; is = w; deserves = d }
answers_of c words told s s' TooLong w d = record { command = c; is = w; deserves = d }
answers_of c words told s s' Memory w d = tt

-- the call with the word of a command
pub command_ends : (c : Command) (words : List (List ℕ)) (told old new : Option (List ℕ)) (s s' f f' : ℕ) (status : ℕ) → IsCommand c words → Ends (Deserves c told s s') old new f f' status → Ends (Answers words told s s') old new f f' status
command_ends c words told old new s s' f f' status w e = record { answer = e.answer; claimed = answers_of c words told s s' e.answer w e.claimed; written = e.written }

-- the call with other words
pub words_end : (words : List (List ℕ)) (told old new : Option (List ℕ)) (s s' f f' : ℕ) (status : ℕ) → ((c : Command) → ¬ (IsCommand c words))
    → (Writes old new f f' (text_of Words) 64 status) ⊎ (Writes old new f f' (text_of Memory) 70 status) → Ends (Answers words told s s') old new f f' status
words_end words told old new s s' f f' status w e = printed (Answers words told s s') old new f f' status Words w tt e

one_word : {X : Type 0} (f : X → List ℕ) (ws : List X) (w : X) → length ws ≡ 1 → w ≡ get_or ws 0 w → map f ws ≡ f w ∷ []
one_word f [] w l e = absurd (omega arith)
one_word f (v ∷ []) w l e = ap (λ u. f u ∷ []) (sym e)
one_word f (v ∷ u ∷ ws) w l e = absurd (omega arith)

-- a test of the only word
pub one_decides : {X : Type 0} (f : X → List ℕ) (ws : List X) (w : X) (t text : List ℕ) (r : Bool) → length ws ≡ 1 → w ≡ get_or ws 0 w → text ≡ f w → r ≡ bytes_eq text t
    → (r ≡ true → map f ws ≡ t ∷ []) × (map f ws ≡ t ∷ [] → r ≡ true)
one_decides f ws w t text r l e s d =
    let o = one_word f ws w l e in (
      λ h. o ∙ ap (λ (x : List ℕ). x ∷ []) (sym s ∙ (bytes_eq-Decides text t).0 (sym d ∙ h)),
      λ h. d ∙ (bytes_eq-Decides text t).1 (s ∙ head (sym o ∙ h)),
    )
  where
    head : {x y : List ℕ} → x ∷ [] ≡ y ∷ [] → x ≡ y
    head e = cc

two_words : {X : Type 0} (f : X → List ℕ) (ws : List X) (v w : X) → length ws ≡ 2 → v ≡ get_or ws 0 v → w ≡ get_or ws 1 w → map f ws ≡ f v ∷ f w ∷ []
two_words f [] v w l d e = absurd (omega arith)
two_words f (x ∷ []) v w l d e = absurd (omega arith)
two_words f (x ∷ y ∷ []) v w l d e = ap (λ u. f u ∷ f y ∷ []) (sym d) ∙ ap (λ u. f v ∷ f u ∷ []) (sym e)
two_words f (x ∷ y ∷ z ∷ ws) v w l d e = absurd (omega arith)

-- a test of both words
pub two_decide : {X : Type 0} (f : X → List ℕ) (ws : List X) (v w : X) (t u : List ℕ) (p q : List ℕ) (r s : Bool) → length ws ≡ 2 → v ≡ get_or ws 0 v → w ≡ get_or ws 1 w → p ≡ f v → q ≡ f w → r ≡ bytes_eq p t → r ≡ true → s ≡ bytes_eq q u
    → (s ≡ true → map f ws ≡ t ∷ u ∷ []) × (map f ws ≡ t ∷ u ∷ [] → s ≡ true)
two_decide f ws v w t u p q r s l d e x y i j k =
    let o = two_words f ws v w l d e in (
      λ h. o ∙ ap (λ (z : List ℕ). z ∷ f w ∷ []) (sym x ∙ (bytes_eq-Decides p t).0 (sym i ∙ j)) ∙ ap (λ (z : List ℕ). t ∷ z ∷ []) (sym y ∙ (bytes_eq-Decides q u).0 (sym k ∙ h)),
      λ h. k ∙ (bytes_eq-Decides q u).1 (y ∙ second (sym o ∙ h)),
    )
  where
    second : {a b c d : List ℕ} → a ∷ b ∷ [] ≡ c ∷ d ∷ [] → b ≡ d
    second e = cc

-- where the first word is another
pub first_other : {X : Type 0} (f : X → List ℕ) (ws : List X) (v : X) (t u : List ℕ) (p : List ℕ) (r : Bool) → v ≡ get_or ws 0 v → p ≡ f v → r ≡ bytes_eq p t → r ≡ false → map f ws ≡ t ∷ u ∷ [] → ⊥
first_other f [] v t u p r d x i j h = no_list h
  where
    no_list : {a b : List ℕ} → [] ≡ a ∷ b ∷ [] → ⊥
    no_list e = cc
first_other f (y ∷ ws) v t u p r d x i j h = clash j (i ∙ (bytes_eq-Decides p t).1 (x ∙ ap f d ∙ head h))
  where
    head : {a b c : List ℕ} {rest : List (List ℕ)} → a ∷ rest ≡ b ∷ c ∷ [] → a ≡ b
    head e = cc

    clash : {b : Bool} → b ≡ false → b ≡ true → ⊥
    clash e g = cc

-- words that are not as many, or of which the first is another, are not these two
pub other_decides : (ws : List (List ℕ)) (t u : List ℕ) (r : Bool) → r ≡ false → (ws ≡ t ∷ u ∷ [] → ⊥) → (r ≡ true → ws ≡ t ∷ u ∷ []) × (ws ≡ t ∷ u ∷ [] → r ≡ true)
other_decides ws t u r e n = (λ h. absurd (clash e h), λ h. absurd (n h))
  where
    clash : {b : Bool} → b ≡ false → b ≡ true → ⊥
    clash e g = cc

pub other_count : {X : Type 0} (f : X → List ℕ) (ws : List X) (t u : List ℕ) → (length ws ≡ 2 → ⊥) → map f ws ≡ t ∷ u ∷ [] → ⊥
other_count f [] t u n h = no_list h
  where
    no_list : {a b : List ℕ} → [] ≡ a ∷ b ∷ [] → ⊥
    no_list e = cc
other_count f (x ∷ []) t u n h = no_list h
  where
    no_list : {a b c : List ℕ} → c ∷ [] ≡ a ∷ b ∷ [] → ⊥
    no_list e = cc
other_count f (x ∷ y ∷ []) t u n h = n refl
other_count f (x ∷ y ∷ z ∷ ws) t u n h = no_list h
  where
    no_list : {a b c d e : List ℕ} {rest : List (List ℕ)} → c ∷ d ∷ e ∷ rest ≡ a ∷ b ∷ [] → ⊥
    no_list g = cc

pub no_command : (words : List (List ℕ)) → (IsCommand command.Same words → ⊥) → (IsCommand command.SamePhase words → ⊥) → (IsCommand command.SameLocal words → ⊥) → (IsCommand command.Prove words → ⊥) → (IsCommand command.Replay words → ⊥) → (c : Command) → ¬ (IsCommand c words)
no_command words f k l g h command.Same = f
no_command words f k l g h command.SamePhase = k
no_command words f k l g h command.SameLocal = l
no_command words f k l g h command.Prove = g
no_command words f k l g h command.Replay = h

-- ---- refusals
near_or_far : (x y : ℕ) → (x ≤ y) ⊎ (y ≤ x)
near_or_far zero y = inl (omega arith)
near_or_far (suc x) zero = inr (omega arith)
near_or_far (suc x) (suc y) = up (near_or_far x y)
  where
    up : (x ≤ y) ⊎ (y ≤ x) → (suc x ≤ suc y) ⊎ (suc y ≤ suc x)
    up (inl l) = inl (omega (arith, l))
    up (inr l) = inr (omega (arith, l))

pub refusal_at : (bytes : List ℕ) (why : Refusal) (at inside line column column' : ℕ) → inside ≡ min at (length bytes) → column' ≡ column + (at - inside) → IsPlace bytes inside line column → IsRefusal bytes why at (Refused why line column')
refusal_at bytes why at inside line column column' e f p = record { line = line; column = column'; place = by (near_or_far at (length bytes)); told = refl }
  where
    by : (at ≤ length bytes) ⊎ (length bytes ≤ at) → IsPlace bytes at line column'
    by (inl l) =
        let k : inside ≡ at = e ∙ min-eq_left l in
        let m : column' ≡ column = omega (arith, f, k) in
        subst (λ (i : ℕ). IsPlace bytes at line i) (sym m) (subst (λ (i : ℕ). IsPlace bytes i line column) k p)
    by (inr l) =
        let k : inside ≡ length bytes = e ∙ min-eq_right l in
        let m : column' ≡ column + (at - length bytes) = f ∙ ap (λ i. column + (at - i)) k in
        subst (λ (i : ℕ). IsPlace bytes at line i) (sym m) (place_beyond bytes at line column l (subst (λ (i : ℕ). IsPlace bytes i line column) k p))

-- the column of a place is near
pub column_near : (bytes : List ℕ) (at inside line column : ℕ) → at ≤ 8589934591 → inside ≡ min at (length bytes) → IsPlace bytes inside line column → column + (at - inside) ≤ 8589934592
column_near bytes at inside line column h e p = let k : inside ≤ at = subst (λ (i : ℕ). i ≤ at) (sym e) (min-le_left at (length bytes)) in let m = p.cell.2 in omega (arith, h, k, m)

pub lacks_judged : (c : Command) (bytes : List ℕ) (at : ℕ) (answer : Answer) → at ≡ length bytes → Lacks c bytes → IsRefusal bytes Separator at answer → Judged c bytes answer
lacks_judged c bytes at answer e h r = inr (subst (Judges c bytes) (sym r.told) (lacking {line = r.line} {column = r.column} h (subst (λ (k : ℕ). IsPlace bytes k r.line r.column) e r.place)))

pub refused_judged : (c : Command) (bytes a b d : List ℕ) (start at : ℕ) (why : Refusal) (answer : Answer) → IsParted c bytes a b start d → TextsAre a b start (refuses why at) → IsRefusal bytes why at answer → Judged c bytes answer
refused_judged c bytes a b d start at why answer p t r = inr (subst (Judges c bytes) (sym r.told) (refused a b d start at {why = why} {line = r.line} {column = r.column} p t r.place))

pub work_judged : (c : Command) (bytes a b d : List ℕ) (start n : ℕ) (A B : List (List Prim)) (answer : Answer) → IsParted c bytes a b start d → TextsAre a b start (both n A B) → Works c n A B d answer → Judged c bytes answer
work_judged c bytes a b d start n A B answer p t w = inr (judged a b d start n A B p t w)

-- ---- texts
pub first_told : (a b : List ℕ) (start : ℕ) (name : FaultName) (at : ℕ) (g : Given) → IsReadAs a (Err (Fault name at)) → g ≡ refuses (Text name) (0 + at) → TextsAre a b start g
first_told a b start name at g x e =
    let z : 0 + at ≡ at = omega arith in
    subst (TextsAre a b start) (sym (e ∙ ap (refuses (Text name)) z)) (first_fault x)

pub fault_read : (text : List ℕ) (f : ReadFault) (name : FaultName) (at : ℕ) → f ≡ Fault name at → CircuitTold (Err f) (ReadsText text) → CircuitTold (Err f) (λ a. (b : Result CircuitOf ReadFault) → ReadsText text b → b ≡ a) → IsReadAs text (Err (Fault name at))
fault_read text f name at e r o = record {
  reads = subst (λ (x : ReadFault). CircuitTold (Err x) (ReadsText text)) e r;
  only = subst (λ (x : ReadFault). CircuitTold (Err x) (λ a. (b : Result CircuitOf ReadFault) → ReadsText text b → b ≡ a)) e o;
}

pub second_told : (a b : List ℕ) (start : ℕ) (c : CircuitOf) (name : FaultName) (at : ℕ) (g : Given) → IsReadAs a (Ok c) → IsReadAs b (Err (Fault name at)) → g ≡ refuses (Text name) (start + at) → TextsAre a b start g
second_told a b start c name at g x y e = subst (TextsAre a b start) (sym e) (second_fault {c = c} x y)

-- what was read, in a branch of its own
pub near_refusal : (t : TwoTexts) (why : Refusal) (at : ℕ) → t ≡ Refuses why at → IsNear t → at ≤ 8589934591
near_refusal t why at e n = subst IsNear e n

pub refuses_read : (a b : List ℕ) (start : ℕ) (t : TwoTexts) (why : Refusal) (at : ℕ) → t ≡ Refuses why at → TextsAre a b start (given_in t) → TextsAre a b start (refuses why at)
refuses_read a b start t why at e x = subst (λ (u : TwoTexts). TextsAre a b start (given_in u)) e x

pub both_read : (a b : List ℕ) (start : ℕ) (t : TwoTexts) (pair : Pair) → t ≡ Both pair → TextsAre a b start (given_in t) → TextsAre a b start (both pair.qubits pair.first pair.second)
both_read a b start t pair e x = subst (λ (u : TwoTexts). TextsAre a b start (given_in u)) e x

pub widths_told : (c d : CircuitOf) (start at : ℕ) → c.qubits ≢ d.qubits → at ≡ start → OfCircuits c d start (refuses Widths at)
widths_told c d start at h e = subst (λ (i : ℕ). OfCircuits c d start (refuses Widths i)) (sym e) (differ h)

pub circuits_told : (c d : CircuitOf) (start : ℕ) → c.qubits ≡ d.qubits → OfCircuits c d start (both c.qubits c.items d.items)
circuits_told c d start e = agree e

pub texts_of : (a b : List ℕ) (start : ℕ) (c d : CircuitOf) (g : Given) → IsReadAs a (Ok c) → IsReadAs b (Ok d) → OfCircuits c d start g → TextsAre a b start g
texts_of a b start c d g x y (differ h) = widths {c = c} {d = d} x y h
texts_of a b start c d g x y (agree h) = circuits {c = c} {d = d} x y h

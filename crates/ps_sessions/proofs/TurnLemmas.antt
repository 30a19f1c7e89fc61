-- Turns of a seat that takes them alone, and what a command of them makes of the journal.
use Rattle.std.proofs.Common.{ℕ, ◌≡◌, ◌≤◌, ◌<◌, true, [], ◌∷◌, ◌++◌, length, Option, Some, None, refl, ap, ◌∙◌, subst, arith}
use Rattle.ps_desk.specs.Views.{entry}
use Rattle.ps_script.specs.declared.script.Line.{Line}
use Rattle.ps_journal.specs.declared.commands.Cmd.{Cmd}
use Rattle.ps_journal.specs.declared.replies.Reply.{Reply}
use Rattle.ps_journal.specs.History.{IsLegal, own_entries}
use Rattle.ps_history.specs.Inner.{Idles}
use Rattle.ps_history.specs.Matching.{Answers}
use Rattle.ps_history.specs.Bounds.{IsBounded}
use Rattle.ps_calls.specs.Turns.{TurnView, Turned}
use Rattle.ps_calls.specs.Calls.{own, GrowsBy, Grows, Done, Cut}
use Rattle.ps_calls.proofs.Views.{beginning-same, own_entries-append, own_entries-one}
use Rattle.ps_sessions.specs.Lines.{seat_of, Adds, AnswersLine, BreaksOff}

-- ---- one turn
pub alone_turned : (a b : TurnView) (c : Cmd) (reply : Reply) → b.seen ≡ a.seen ++ entry a.number c reply ∷ [] → IsLegal b.seen
    → length a.seen < 262144 → b.refused ≡ None → Turned a b c reply
alone_turned a b c reply whole legal below unrefused = record {
  before = a.seen;
  seen = beginning-same a.seen;
  whole = whole;
  lawful = legal;
  own =
      ap (own_entries a.number) whole ∙ own_entries-append a.number a.seen (entry a.number c reply ∷ [])
      ∙ ap (λ es. own_entries a.number a.seen ++ es) (own_entries-one a.number c reply);
  below = below;
  unrefused = unrefused;
  alone = λ h. refl;
}

-- nothing was refused where the journal is not full
pub never_refused : (o : Option ℕ) (n : ℕ) → ((t : ℕ) → o ≡ Some t → (t ≡ 262144) × (262144 ≤ n)) → n < 262144 → o ≡ None
never_refused None n late low = refl
never_refused (Some t) n late low = let full : ⊥ = omega (arith, (late t refl).1, low) in absurd full

-- ---- one command
module _ {a b : TurnView} (l : Line) (number : a.number ≡ seat_of l) (alone : a.alone ≡ true) (g : Grows a b) where
  own_after : own b ≡ own_entries a.number b.seen
  own_after = ap (λ n. own_entries n b.seen) g.stays.number

  line_adds : (spare : ℕ) → IsBounded l.command a.number (own a) (own b) b.seen spare → Adds l a.seen b.seen spare
  line_adds spare h = record {
    by = subst (λ n. GrowsBy n a.seen b.seen) number (g.alone alone);
    bounded =
        subst (λ n. IsBounded l.command n (own_entries n a.seen) (own_entries n b.seen) b.seen spare) number
        (subst (λ es. IsBounded l.command a.number (own a) es b.seen spare) own_after h);
  }

  pub line_answered : (reply : Reply) → Done l.command reply a b → AnswersLine l reply a.seen b.seen
  line_answered reply d = record {
    adds = line_adds 0 d.bounded;
    answers =
        subst (λ n. Answers l.command reply (own_entries n a.seen) (own_entries n b.seen)) number
        (subst (λ es. Answers l.command reply (own a) es) own_after d.answers);
  }

  pub line_broken : (ticket : ℕ) → Cut l.command ticket a b → (ticket ≡ 262144) × (262144 ≤ length b.seen) → BreaksOff l ticket a.seen b.seen
  line_broken ticket c k = record {
    adds = line_adds 1 c.bounded;
    idles =
        subst (λ n. Idles (own_entries n a.seen) (own_entries n b.seen)) number
        (subst (λ es. Idles (own a) es) own_after c.idles);
    late = k.0;
    full = k.1;
  }

-- Commands that one turn answers.
use Rattle.std.proofs.Common.{ℕ, ◌+◌, ◌≡◌, Bool, true, false, cond, List, [], ◌∷◌, ◌++◌, length, Option, refl, sym, ap, ◌∙◌, subst, arith, add-zero}
use Rattle.std.proofs.lemmas.List.{length-append}
use Rattle.std.proofs.lemmas.List.Sums.{sum_by_push}
use Rattle.std.proofs.lemmas.Bool.{false≢true}
use Rattle.std.proofs.Props.{props}
use mathlib.Core.Logic.{∥∥₁_elim}
use Rattle.ps_desk.specs.Views.{entry}
use Rattle.ps_script.specs.declared.name.Place.{Place}
use Rattle.ps_script.specs.declared.command.Command.{Command}
use Rattle.ps_journal.specs.declared.commands.Cmd.{Cmd}
use Rattle.ps_journal.specs.declared.commands.Cmd.TheVariants as cmd
use Rattle.ps_journal.specs.declared.replies.Reply.{Reply}
use Rattle.ps_journal.specs.State.{State}
use Rattle.ps_journal.specs.Opening as opening
use Rattle.ps_journal.specs.Splicing as splicing
use Rattle.ps_journal.specs.Retiring as retiring
use Rattle.ps_journal.specs.Pinning as pinning
use Rattle.ps_journal.specs.Showing as showing
use Rattle.ps_journal.specs.Step.{Step, serves, wants}
use Rattle.ps_journal.specs.History.{Entry, LeadsTo, start, next, own_entries, ends_command}
use Rattle.ps_history.specs.Inner.{Idles, none}
use Rattle.ps_history.specs.Matching.{is_misuse, MatchesCommand}
use Rattle.ps_history.specs.Bounds.{is_published, published_count, IsSingle, IsBounded}
use Rattle.ps_calls.specs.Turns.{TurnView, Stays, Turned, Refused}
use Rattle.ps_calls.specs.Calls.{own, Done, Cut}

-- ---- the last step of a history
push-some : {A : Type 0} (xs : List A) (x : A) → [] ≡ xs ++ x ∷ [] → ⊥
push-some [] x p = cc
push-some (y ∷ xs) x p = cc

pub push-same : {A : Type 0} (xs ys : List A) (x y : A) → xs ++ x ∷ [] ≡ ys ++ y ∷ [] → (xs ≡ ys) × (x ≡ y)
push-same [] [] x y p = (refl, cc)
push-same [] (b ∷ ys) x y p = let q : [] ≡ ys ++ y ∷ [] = cc in absurd (push-some ys y q)
push-same (a ∷ xs) [] x y p = let q : [] ≡ xs ++ x ∷ [] = cc in absurd (push-some xs x q)
push-same (a ∷ xs) (b ∷ ys) x y p =
    let h : a ≡ b = cc in
    let r : xs ++ x ∷ [] ≡ ys ++ y ∷ [] = cc in
    let q = push-same xs ys x y r in
    (cc (h, q.0), q.1)

pub last_step : {all : List Entry} {t : State} → LeadsTo all t → (es : List Entry) (e : Entry)
    → all ≡ es ++ e ∷ [] → (was : State) × Step was (length es) e.seat e.cmd e.reply t
last_step start es e p = absurd (push-some es e p)
last_step (next {es = fs} {e = f} {t = was} l s) es e p =
    let q = push-same fs es f e p in
    (was, rw (← q.0, ← q.1) s)

-- ---- no misuse, and nothing published
abbrev pub Proper : Reply → Type 0
Proper r = (is_misuse r ≡ false) × (is_published r ≡ false)

opens_proper : {t new : State} {i : ℕ} {name text : List ℕ} {r : Reply} → opening.Opens t i name text r new → Proper r
opens_proper (opening.name_taken _) = (refl, refl)
opens_proper (opening.circuits_full _ _) = (refl, refl)
opens_proper (opening.bad _ _ _ _) = (refl, refl)
opens_proper (opening.opens _ _ _) = (refl, refl)

splices_proper : {t new : State} {name block : List ℕ} {base from to : ℕ} {r : Reply} → splicing.Splices t name base from to block r new → Proper r
splices_proper (splicing.no_circuit _) = (refl, refl)
splices_proper (splicing.stale _ _) = (refl, refl)
splices_proper (splicing.span _ _ _ _) = (refl, refl)
splices_proper (splicing.bad _ _ _) = (refl, refl)
splices_proper (splicing.too_long _ _ _) = (refl, refl)
splices_proper (splicing.nothing _ _ _ _) = (refl, refl)
splices_proper (splicing.commits _ _ _ _) = (refl, refl)

retires_proper : {t new : State} {i : ℕ} {p : Place} {r : Reply} → retiring.Retires t i p r new → Proper r
retires_proper (retiring.no_circuit _) = (refl, refl)
retires_proper (retiring.no_version _ _) = (refl, refl)
retires_proper (retiring.is_latest _ _) = (refl, refl)
retires_proper (retiring.was_retired _ _ _) = (refl, refl)
retires_proper (retiring.retires _ _ _) = (refl, refl)

refuses_proper : {t : State} {p : Place} {r : Reply} → pinning.Refuses t p r → Proper r
refuses_proper (pinning.no_circuit _) = (refl, refl)
refuses_proper (pinning.no_version _ _) = (refl, refl)
refuses_proper (pinning.was_retired _ _) = (refl, refl)

pins_proper : {t new : State} {i seat : ℕ} {first : Place} {second : Option Place} {r : Reply} → pinning.Pins t i seat first second r new → Proper r
pins_proper (pinning.first_refused r) = refuses_proper r
pins_proper (pinning.second_refused _ r) = refuses_proper r
pins_proper (pinning.widths _ _ _) = (refl, refl)
pins_proper (pinning.pins_one _) = (refl, refl)
pins_proper (pinning.pins_two _ _ _) = (refl, refl)

reads_proper : {t new : State} {p : Place} {r : Reply} → showing.Reads t p r new → Proper r
reads_proper (showing.refused r) = refuses_proper r
reads_proper (showing.no_room _ _) = (refl, refl)
reads_proper (showing.shows _ _) = (refl, refl)

-- Open, Splice, Retire, Pin and Read
abbrev pub is_single : Cmd → Bool
is_single (cmd.Open name text) = true
is_single (cmd.Splice name base from to block) = true
is_single (cmd.Retire name version) = true
is_single (cmd.Pin first second) = true
is_single (cmd.Next pinned) = false
is_single (cmd.Publish kept) = false
is_single (cmd.Answer outcome) = false
is_single (cmd.Read place) = true
is_single (cmd.Sum outcome) = false

step_proper : {t new : State} {i seat : ℕ} {r : Reply} (c : Cmd) → is_single c ≡ true → Step t i seat c r new → Proper r
step_proper c p (wants _) = (refl, refl)
step_proper (cmd.Open name text) p (serves s) = opens_proper s
step_proper (cmd.Splice name base from to block) p (serves s) = splices_proper s
step_proper (cmd.Retire name version) p (serves s) = retires_proper s
step_proper (cmd.Pin first second) p (serves s) = pins_proper s
step_proper (cmd.Next pinned) p (serves s) = absurd (false≢true p)
step_proper (cmd.Publish kept) p (serves s) = absurd (false≢true p)
step_proper (cmd.Answer outcome) p (serves s) = absurd (false≢true p)
step_proper (cmd.Read place) p (serves s) = reads_proper s
step_proper (cmd.Sum outcome) p (serves s) = absurd (false≢true p)

last_proper : (seat : ℕ) (before : List Entry) (c : Cmd) (r : Reply) (all : List Entry)
    → is_single c ≡ true → all ≡ before ++ entry seat c r ∷ [] → (t : State) × LeadsTo all t → Proper r
last_proper seat before c r all p whole w = step_proper c p (last_step w.1 before (entry seat c r) whole).1

pub turned_proper : {a b : TurnView} {r : Reply} (c : Cmd) → is_single c ≡ true → Turned a b c r → Proper r
turned_proper {a} {b} {r} c p t = (
  ∥∥₁_elim t.lawful (hlevel props) (λ w. (last_proper a.number t.before c r b.seen p t.whole w).0),
  ∥∥₁_elim t.lawful (hlevel props) (λ w. (last_proper a.number t.before c r b.seen p t.whole w).1),
)

-- ---- one entry more
published_one : (es : List Entry) (e : Entry) → is_published e.reply ≡ false → published_count (es ++ e ∷ []) ≡ published_count es
published_one es e p =
    sum_by_push (λ x. cond (is_published x.reply) 1 0) es e ∙ (ap (λ b. published_count es + cond b 1 0) p ∙ add-zero (published_count es))

single_bound : {es fs : List Entry} (e : Entry) → fs ≡ es ++ e ∷ [] → is_published e.reply ≡ false → IsSingle es fs 0
single_bound {es} {fs} e whole p = record {
  few = omega (arith, ap length whole, length-append es (e ∷ []));
  none_published = ap published_count whole ∙ published_one es e p;
}

pub nothing_taken : (es : List Entry) → IsSingle es es 1
nothing_taken es = record { few = omega arith; none_published = refl }

-- the entries of the same seat afterwards
pub own_after : {a b : TurnView} → Stays a b → own b ≡ own_entries a.number b.seen
own_after {a} {b} s = ap (λ n. own_entries n b.seen) s.number

-- the turn answers the command, alone
pub single_done : (c : Command) (k : Cmd) {r : Reply} {a b : TurnView} → Stays a b → Turned a b k r → is_single k ≡ true → ends_command k r ≡ true
    → MatchesCommand (own a) c (entry a.number k r)
    → (IsSingle (own a) (own b) 0 → IsBounded c a.number (own a) (own b) b.seen 0) → Done c r a b
single_done c k {r} {a} {b} s t single ends matches bound =
    let p = turned_proper k single t in
    let whole : own b ≡ own a ++ entry a.number k r ∷ [] = own_after s ∙ t.own in
    record {
      answers = record {
        between = own a;
        last = entry a.number k r;
        idles = none;
        whole = whole;
        answers = record { ends = ends; matches = matches; proper = p.0 };
        reply_is = refl;
      };
      bounded = bound (single_bound (entry a.number k r) whole p.1);
      lawful = t.lawful;
      unrefused = t.unrefused;
    }

-- the one turn was refused
pub single_cut : (c : Command) {ticket : ℕ} {a b : TurnView} → Stays a b → Refused a b ticket
    → (IsSingle (own a) (own b) 1 → IsBounded c a.number (own a) (own b) b.seen 1) → Cut c ticket a b
single_cut c {ticket} {a} {b} s r bound =
    let same : own b ≡ own a = own_after s ∙ ap (own_entries a.number) r.seen in
    record {
      idles = subst (Idles (own a)) (sym same) none;
      bounded = bound (subst (λ es. IsSingle (own a) es 1) (sym same) (nothing_taken (own a)));
      refused = r.refused;
      late = r.late;
    }

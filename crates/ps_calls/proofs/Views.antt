-- What turns make of what is known of a seat.
use Rattle.std.proofs.Common.{ℕ, ◌≡◌, ◌<◌, ◌≤◌, true, eqb, List, [], ◌∷◌, ◌++◌, length, refl, sym, ap, ◌∙◌, subst, append_assoc, arith}
use Rattle.std.proofs.lemmas.List.{append-nil, length-append}
use Rattle.std.proofs.lemmas.List.Elements.{filter-append}
use Rattle.std.proofs.lemmas.Bool.Decides.{nat_tests}
use Rattle.ps_desk.specs.Views.{entry, IsBeginning}
use Rattle.ps_journal.specs.declared.commands.Cmd.{Cmd}
use Rattle.ps_journal.specs.declared.replies.Reply.{Reply}
use Rattle.ps_journal.specs.History.{Entry, IsLegal, own_entries}
use Rattle.ps_history.specs.Taken.{IsTurn}
use Rattle.ps_calls.specs.Turns.{TurnView, Stays, Turned, Refused}
use Rattle.ps_calls.specs.Calls.{GrowsBy, Grows}

-- ---- beginnings
pub beginning-same : {A : Type 0} (xs : List A) → IsBeginning xs xs
beginning-same xs = ([], sym (append-nil xs))

pub beginning-along : {A : Type 0} (xs ys zs : List A) → IsBeginning xs ys → IsBeginning ys zs → IsBeginning xs zs
beginning-along xs ys zs p q = (p.0 ++ q.0, q.1 ∙ ap (λ l. l ++ q.0) p.1 ∙ append_assoc xs p.0 q.0)

pub beginning-more : {A : Type 0} (xs ys zs : List A) → IsBeginning xs ys → IsBeginning xs (ys ++ zs)
beginning-more xs ys zs p = beginning-along xs ys (ys ++ zs) p (zs, refl)

pub beginning-shorter : {A : Type 0} (xs ys : List A) → IsBeginning xs ys → length xs ≤ length ys
beginning-shorter {A} xs ys p = omega (arith, length-append xs p.0, ap length p.1)

-- ---- entries of one seat
pub own_entries-append : (seat : ℕ) (xs ys : List Entry) → own_entries seat (xs ++ ys) ≡ own_entries seat xs ++ own_entries seat ys
own_entries-append seat xs ys = filter-append (λ e. eqb e.seat seat) xs ys

eqb-same : (n : ℕ) → eqb n n ≡ true
eqb-same n = grind (arith, nat_tests)

pub own_entries-one : (seat : ℕ) (c : Cmd) (reply : Reply) → own_entries seat (entry seat c reply ∷ []) ≡ entry seat c reply ∷ []
own_entries-one seat c reply = rw (eqb-same seat) refl

-- ---- what no turn changes
pub stays-same : (v : TurnView) → Stays v v
stays-same v = record { number = refl; over = refl; alone = refl; rest = refl }

pub stays-along : {a b c : TurnView} → Stays a b → Stays b c → Stays a c
stays-along p q = record {
  number = q.number ∙ p.number;
  over = q.over ∙ p.over;
  alone = q.alone ∙ p.alone;
  rest = q.rest ∙ p.rest;
}

-- ---- entries of the seat alone
pub by-same : (seat : ℕ) (es : List Entry) → GrowsBy seat es es
by-same seat es = record { added = []; whole = sym (append-nil es); own = refl }

pub by-along : {seat : ℕ} {a b c : List Entry} → GrowsBy seat a b → GrowsBy seat b c → GrowsBy seat a c
by-along {seat} {a} p q = record {
  added = p.added ++ q.added;
  whole = q.whole ∙ ap (λ l. l ++ q.added) p.whole ∙ append_assoc a p.added q.added;
  own = own_entries-append seat p.added q.added ∙ ap (λ l. l ++ own_entries seat q.added) p.own ∙ ap (λ l. p.added ++ l) q.own;
}

-- ---- what is seen
pub grows-same : (v : TurnView) → Grows v v
grows-same v = record {
  stays = stays-same v;
  seen = beginning-same v.seen;
  alone = λ _. by-same v.number v.seen;
  lawful = λ w. w;
}

pub grows-along : {a b c : TurnView} → Grows a b → Grows b c → Grows a c
grows-along {a} {b} {c} p q = record {
  stays = stays-along p.stays q.stays;
  seen = beginning-along a.seen b.seen c.seen p.seen q.seen;
  alone = λ w. by-along (p.alone w) (subst (λ n. GrowsBy n b.seen c.seen) p.stays.number (q.alone (p.stays.alone ∙ w)));
  lawful = λ w. q.lawful (p.lawful w);
}

pub turned-grows : {a b : TurnView} {c : Cmd} {reply : Reply} → Stays a b → Turned a b c reply → Grows a b
turned-grows {a} {b} {c} {reply} s t = record {
  stays = s;
  seen = subst (IsBeginning a.seen) (sym t.whole) (beginning-more a.seen t.before (entry a.number c reply ∷ []) t.seen);
  alone = λ w. record {
    added = entry a.number c reply ∷ [];
    whole = t.whole ∙ ap (λ l. l ++ entry a.number c reply ∷ []) (t.alone w);
    own = own_entries-one a.number c reply;
  };
  lawful = λ _. t.lawful;
}

pub refused-grows : {a b : TurnView} {ticket : ℕ} → Stays a b → Refused a b ticket → Grows a b
refused-grows {a} {b} s r = record {
  stays = s;
  seen = subst (IsBeginning a.seen) (sym r.seen) (beginning-same a.seen);
  alone = λ _. subst (GrowsBy a.number a.seen) (sym r.seen) (by-same a.number a.seen);
  lawful = λ w. subst IsLegal (sym r.seen) w;
}

pub turned-longer : (a b : TurnView) (c : Cmd) (reply : Reply) → Turned a b c reply → length a.seen < length b.seen
turned-longer a b c reply t =
    omega (arith, beginning-shorter a.seen t.before t.seen, ap length t.whole, length-append t.before (entry a.number c reply ∷ []))

pub turned-below : (a b : TurnView) (c : Cmd) (reply : Reply) → Turned a b c reply → length b.seen ≤ 262144
turned-below a b c reply t = omega (arith, t.below, ap length t.whole, length-append t.before (entry a.number c reply ∷ []))

pub grows-longer : (a b : TurnView) → Grows a b → length a.seen ≤ length b.seen
grows-longer a b g = beginning-shorter a.seen b.seen g.seen

-- ---- a turn as the seat sees it
pub turned-is : (seat : ℕ) {a b : TurnView} {c : Cmd} {reply : Reply} → a.number ≡ seat → seat < 64 → Turned a b c reply → IsTurn seat a.seen b.seen c reply
turned-is seat {a} {b} {c} {reply} n low t =
    subst (λ s. IsTurn s a.seen b.seen c reply) n record {
      below = subst (λ s. s < 64) (sym n) low;
      before = t.before;
      seen = t.seen;
      whole = t.whole;
      lawful = t.lawful;
      own = t.own;
    }

pub below_same : (r n : ℕ) → r ≡ n → r < 64 → n < 64
below_same r n e low = omega (arith, e, low)

-- the reply, as it is known
pub turned_as : {a b : TurnView} {c : Cmd} {r s : Reply} → r ≡ s → Turned a b c r → Turned a b c s
turned_as {a} {b} {c} e t = subst (λ x. Turned a b c x) e t

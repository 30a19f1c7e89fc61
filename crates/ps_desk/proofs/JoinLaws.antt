-- A seat that takes another back keeps the rule.
use Rattle.std.proofs.Common.{◌≡◌, ◌≢◌, ◌⊎◌, ℕ, ◌+◌, ◌-◌, ◌<◌, ◌≤◌, true, false, map, List, [], ◌∷◌, ◌++◌, length, length-append, set, Option, Some, None, refl, sym, ap, ◌∙◌, subst, inl, inr, ⊎_elim, arith}
use mathlib.Core.Option.{some, some-injective}
use mathlib.Core.Logic.{dite}
use native.Mathlib.Decide.{ℕ_discrete}
use lib.ListN.{get_elem?}
use Rattle.atomic_table.specs.Table.{State, Joins}
use Rattle.atomic_table.proofs.Lists.{at_set, at_map, at_longer, at_last, at_snoc, set_else}
use Rattle.ps_desk.specs.declared.entry.Entry.{Entry}
use Rattle.ps_desk.specs.declared.view.View.{View}
use Rattle.ps_desk.specs.declared.view.Ended.{Ended}
use Rattle.ps_desk.specs.Views.{Has, receiving, ended_of, spent, own_of}
use Rattle.ps_desk.specs.Rule.{Core, core, Roster, Fits, Rule, total, refusal, refusals, parts}
use Rattle.ps_desk.proofs.TotalLemmas.{total_set, total_append}
use Rattle.ps_desk.proofs.ListLemmas.{map_of_set, has_less, length_less, set_there}
use Rattle.ps_desk.proofs.ViewLemmas.{none_before, apart_set, waits_set, away_set}

module _ {O C R : Type 0} (journal : O → List (Entry C R)) (spare : O → ℕ) (legal : List (Entry C R) → Type 0) (seats : ℕ)
    (s : State (Option O) (View C R)) (r : Rule journal spare legal seats s)
    (id : ℕ) (v : View C R) (at : get_elem? s.views id ≡ some v) (live : v.live ≡ true) (idle : v.ticket ≡ None) (calm : v.found ≡ None)
    (other : ℕ) (w : View C R) (apart : other ≢ id) (there : get_elem? s.views other ≡ some w)
    (live' : w.live ≡ true) (idle' : w.ticket ≡ None) (calm' : w.found ≡ None) (has : Has v.out w.number) where
  at_core : get_elem? (map core s.views) id ≡ some (core v)
  at_core = at_map core s.views id v at

  there_core : get_elem? (map core s.views) other ≡ some (core w)
  there_core = at_map core s.views other w there

  -- Only the first seat has seats out.
  here : id ≡ 0
  here = dite (ℕ_discrete id 0) (λ z. z)
      (λ n. absurd (let o = (r.roster.others id (core v) at_core live n).2 in subst (λ (l : List ℕ). Has l w.number) o has))

  same : core v ≡ r.roster.first
  same = some-injective (core v) r.roster.first (sym at_core ∙ (ap (get_elem? (map core s.views)) here ∙ r.roster.at_first))

  next_is : r.roster.first.next ≡ v.next
  next_is = ap (λ (c : Core C R). c.next) (sym same)

  out_is : r.roster.first.out ≡ v.out
  out_is = ap (λ (c : Core C R). c.out) (sym same)

  at_ended : (k : ℕ) → get_elem? v.ended k ≡ get_elem? r.roster.first.ended k
  at_ended k = ap (λ (c : Core C R). get_elem? c.ended k) same

  abbrev IsPlain : Type 0
  IsPlain = Has v.out w.number × (w.next ≡ w.end) × (w.out ≡ []) × (w.ended ≡ [])

  other_is : IsPlain
  other_is =
      let o = r.roster.others other (core w) there_core live' (λ z. apart (z ∙ sym here)) in
      (subst (λ (l : List ℕ). Has l w.number) out_is o.0, o.1, o.2, o.3)

  abbrev gone : Core C R
  gone = core (spent {C = C} {R = R})

  abbrev Kept : List (Core C R)
  Kept = set (map core s.views) id (core (receiving v w))

  abbrev Now : List (Core C R)
  Now = set Kept other gone

  cores : map core (set (set s.views id (receiving v w)) other spent) ≡ Now
  cores = map_of_set core (set s.views id (receiving v w)) other spent ∙ ap (λ l. set l other gone) (map_of_set core s.views id (receiving v w))

  -- A live core was there before, with its number, and is not the one that came back.
  abbrev Was : ℕ → Core C R → Type 0
  Was i a = (i ≢ other) × (a' : Core C R) × (get_elem? (map core s.views) i ≡ some a') × (a'.live ≡ true) × (a'.number ≡ a.number) × (i ≢ 0 → a' ≡ a)

  was : (i : ℕ) (a : Core C R) → get_elem? Now i ≡ some a → a.live ≡ true → Was i a
  was i a e l = ⊎_elim
      (λ t. absurd (let z : false ≡ true = ap (λ (c : Core C R). c.live) t.1 ∙ l in cc))
      (λ t. ⊎_elim
      (λ p. (t.0, core v, ap (get_elem? (map core s.views)) p.0 ∙ at_core, live, ap (λ (c : Core C R). c.number) p.1, (λ n. absurd (n (p.0 ∙ here)))))
      (λ p. (t.0, a, p.1, l, refl, (λ _. refl)))
      (at_set (map core s.views) id i (core (receiving v w)) a t.1))
      (at_set Kept other i gone a e)

  not_its : (i : ℕ) (a : Core C R) → Was i a → a.number ≢ w.number
  not_its i a x eq = x.0 (r.roster.numbers i other x.1 (core w) x.2 there_core x.3 live' (x.4 ∙ eq))

  abbrev Ends : List (Ended C R)
  Ends = v.ended ++ ended_of w ∷ w.ended

  ended_was : (k : ℕ) (e : Ended C R) → get_elem? Ends k ≡ some e → (get_elem? r.roster.first.ended k ≡ some e) ⊎ (ended_of w ≡ e)
  ended_was k e a = ⊎_elim
      (λ t. inl (sym (at_ended k) ∙ t))
      (λ t. inr t)
      (at_snoc v.ended (ended_of w) e k (ap (λ l. get_elem? (v.ended ++ ended_of w ∷ l) k) (sym other_is.3) ∙ a))

  abbrev IsEnded : Ended C R → Type 0
  IsEnded e = (e.own ≡ own_of e.number r.history) × ((t : ℕ) → e.refused ≡ Some t → (262144 ≤ t) × (t < r.tickets)) × (e.number < v.next)

  abbrev IsOther : Core C R → Type 0
  IsOther c = Has r.roster.first.out c.number × (c.next ≡ c.end) × (c.out ≡ []) × (c.ended ≡ [])

  shrunk : Roster r.history r.tickets Now
  shrunk =
      let fw = r.each other w there in
      record {
        first = core (receiving v w);
        at_first = set_else Kept other 0 gone (λ z. apart (sym z ∙ sym here))
            ∙ (ap (λ k. get_elem? Kept k) (sym here) ∙ set_there (map core s.views) id (core v) (core (receiving v w)) at_core);
        first_is = (
          live,
          ap (λ (c : Core C R). c.number) same ∙ r.roster.first_is.1,
          (let i = r.roster.first_is.2 in let n = next_is in let m = ap (λ (c : Core C R). c.end) same in omega arith),
          (let i = r.roster.first_is.3 in let n = next_is in
              let a = ap (λ (c : Core C R). length c.out) same in let b = ap (λ (c : Core C R). length c.ended) same in
              let l = length_less v.out w.number other_is.0 in let k = length-append v.ended (ended_of w ∷ w.ended) in
              let z : length w.ended ≡ 0 = ap (length {A = Ended C R}) other_is.3 in omega arith),
        );
        covers = λ n low. dite (ℕ_discrete n w.number)
            (λ z. inr (inr (
              length v.ended,
              ended_of w,
              ap (λ l. get_elem? (v.ended ++ ended_of w ∷ l) (length v.ended)) other_is.3 ∙ at_last v.ended (ended_of w) (length v.ended) refl,
              sym z,
            )))
            (λ ne. ⊎_elim inl (λ t. inr (⊎_elim
            (λ h. inl (has_less v.out n w.number ne (subst (λ (l : List ℕ). Has l n) out_is h)))
            (λ e. inr (e.0, e.1, at_longer v.ended (ended_of w ∷ w.ended) e.0 e.1 (at_ended e.0 ∙ e.2), e.3)) t))
            (r.roster.covers n (let x = next_is in omega arith)));
        numbers = λ i j a b ea eb la lb eq. let x = was i a ea la in let y = was j b eb lb in
            r.roster.numbers i j x.1 y.1 x.2 y.2 x.3 y.3 (x.4 ∙ (eq ∙ sym y.4));
        below = λ i a ea la. let x = was i a ea la in let b = r.roster.below i x.1 x.2 x.3 in let n = next_is in let e = x.4 in omega arith;
        others = λ i a ea la n. let x = was i a ea la in
            let o = subst IsOther (x.5 n) (r.roster.others i x.1 x.2 x.3 n) in
            (has_less v.out a.number w.number (not_its i a x) (subst (λ (l : List ℕ). Has l a.number) out_is o.0), o.1, o.2, o.3);
        ended = λ k e a. ⊎_elim
            (λ t. let g = r.roster.ended k e t in (g.0, g.1, (let n = next_is in let h = g.2 in omega arith)))
            (λ t. subst IsEnded t
            (fw.own live', fw.refused, (let b = r.roster.below other (core w) there_core live' in let n = next_is in omega arith)))
            (ended_was k e a);
        over = λ k i e a ek ea la. let x = was i a ea la in ⊎_elim
            (λ t eq. r.roster.over k i e x.1 t x.2 x.3 (eq ∙ sym x.4))
            (λ t eq. not_its i a x (sym eq ∙ sym (ap (λ (z : Ended C R). z.number) t)))
            (ended_was k e ek);
        unused = λ n le. r.roster.unused n (let x = next_is in omega arith);
      }

  spent_fits : Fits r.history r.tickets spent
  spent_fits = record {
    seen = (r.history, refl);
    told = (r.history, refl);
    own = λ l. absurd (let z : false ≡ true = l in cc);
    own_seen = λ l. absurd (let z : false ≡ true = l in cc);
    ticket = λ k e. absurd (let z : None ≡ Some k = e in cc);
    found = λ k e. absurd (let z : None ≡ Some k = e in cc);
    refused = λ k e. absurd (let z : None ≡ Some k = e in cc);
  }

  kept_fits : Fits r.history r.tickets (receiving v w)
  kept_fits =
      let f = r.each id v at in
      record {
        seen = f.seen;
        told = (r.each other w there).seen;
        own = f.own;
        own_seen = f.own_seen;
        ticket = f.ticket;
        found = λ k e. absurd (let z : None ≡ Some k = sym calm ∙ e in cc);
        refused = f.refused;
      }

  keeps_rule : Rule journal spare legal seats record { words = s.words; homes = s.homes; views = set (set s.views id (receiving v w)) other spent }
  keeps_rule =
      let b = receiving v w in
      let mid = set s.views id b in
      let there' : get_elem? mid other ≡ some w = set_else s.views id other b apart ∙ there in
      let x1 = total_set refusals s.views id v b at in
      let x2 = total_set refusals mid other w spent there' in
      let y1 = total_set parts s.views id v b at in
      let y2 = total_set parts mid other w spent there' in
      let few = r.few in
      let shared = r.shared in
      let at_ends : List (Ended C R) → ℕ = total (λ e. refusal e.refused) in
      let tail : at_ends w.ended ≡ 0 = ap at_ends other_is.3 in
      let rv : refusals v ≡ refusal v.refused + at_ends v.ended = rw live in
      let rb : refusals b ≡ refusal v.refused + at_ends Ends = rw live in
      let rw' : refusals w ≡ refusal w.refused + at_ends w.ended = rw live' in
      let ra : at_ends Ends ≡ at_ends v.ended + at_ends (ended_of w ∷ w.ended) =
      total_append (λ (e : Ended C R). refusal e.refused) v.ended (ended_of w ∷ w.ended) in
      let pv : parts v ≡ 1 + (v.end - v.next) + length v.ended = rw live in
      let pb : parts b ≡ 1 + (v.end - v.next) + length Ends = rw live in
      let pw : parts w ≡ 1 + (w.end - w.next) + length w.ended = rw live' in
      let pa = length-append v.ended (ended_of w ∷ w.ended) in
      let flat = other_is.1 in
      record {
        history = r.history;
        tickets = r.tickets;
        words = r.words;
        lawful = r.lawful;
        behind = r.behind;
        home = λ none. r.home (none_before s.views id v b at calm (none_before mid other w spent there' calm' none));
        away = away_set mid other spent _ refl (away_set s.views id b _ calm r.away);
        each = λ j u e. ⊎_elim
            (λ t. subst (Fits r.history r.tickets) t.1 spent_fits)
            (λ t. ⊎_elim
            (λ p. subst (Fits r.history r.tickets) p.1 kept_fits)
            (λ p. r.each j u p.1)
            (at_set s.views id j b u t.1))
            (at_set mid other j spent u e);
        apart = apart_set mid other spent
            (apart_set s.views id b r.apart (λ j t u n e tu tw. let z : None ≡ Some t = sym idle ∙ tw in cc))
            (λ j t u n e tu tw. let z : None ≡ Some t = tw in cc);
        waited = λ t low high small. waits_set mid other t w spent there' (λ e. absurd (let z : None ≡ Some t = sym idle' ∙ e in cc))
            (waits_set s.views id t v b at (λ e. e) (r.waited t low high small));
        roster = subst (Roster r.history r.tickets) (sym cores) shrunk;
        few = omega arith;
        shared = (omega arith, shared.1);
      }

pub joins : {O C R : Type 0} (journal : O → List (Entry C R)) (spare : O → ℕ) (legal : List (Entry C R) → Type 0) (seats id other : ℕ) (v w : View C R)
    → v.live ≡ true → v.ticket ≡ None → v.found ≡ None → w.live ≡ true → w.ticket ≡ None → w.found ≡ None → Has v.out w.number
    → Joins (Rule journal spare legal seats) id v other w (receiving v w) spent
joins journal spare legal seats id other v w live idle calm live' idle' calm' has s r at apart there' =
    let there = sym (set_else s.views id other (receiving v w) apart) ∙ there' in
    keeps_rule journal spare legal seats s r id v at live idle calm other w apart there live' idle' calm' has

-- No circuit has more versions than the history has entries.
use Rattle.std.proofs.Common.{◌≡◌, ◌<◌, ◌≤◌, ℕ, zero, suc, ◌+◌, Bool, true, false, cond, List, [], ◌∷◌, ◌++◌, length, refl, sym, subst, arith, length-append}
use Rattle.std.proofs.Props.{props}
use Rattle.std.specs.Prelude.{Option, Some, None, map, bytes_eq, slice_set}
use Rattle.std.specs.List.{AllByRecursion}
use Rattle.std.specs.declared.sync.Arc.{Arc}
use Rattle.std.specs.declared.alloc.Global.{Global}
use mathlib.Core.Logic.{∥∥₁_elim}
use Rattle.ps_script.specs.declared.name.Place.{Place}
use Rattle.ps_reach.specs.declared.record.Record.{Record}
use Rattle.ps_versions.specs.Held as held
use Rattle.ps_versions.specs.Lookup as lookup
use Rattle.ps_versions.specs.Spliced.{latest_of as latest_number}
use Rattle.ps_journal.specs.declared.seats.Pin.{Pin}
use Rattle.ps_journal.specs.declared.commands.Cmd.{Cmd}
use Rattle.ps_journal.specs.declared.commands.Cmd.TheVariants as cmd
use Rattle.ps_journal.specs.declared.commands.Outcome.{Outcome}
use Rattle.ps_journal.specs.declared.replies.Reply.{Reply}
use Rattle.ps_journal.specs.State.{Version, Circuit, State, circuit_at, with_circuit, with_version, with_next, released, unclaimed}
use Rattle.ps_journal.specs.Keeping.{noted_versions, noted_circuit, unpinned}
use Rattle.ps_journal.specs.Opening as opening
use Rattle.ps_journal.specs.Opening.{Opens}
use Rattle.ps_journal.specs.Splicing as splicing
use Rattle.ps_journal.specs.Splicing.{Splices, next_version}
use Rattle.ps_journal.specs.Retiring as retiring
use Rattle.ps_journal.specs.Retiring.{Retires, retired_version, retired_in}
use Rattle.ps_journal.specs.Pinning as pinning
use Rattle.ps_journal.specs.Pinning.{Pins, new_pin}
use Rattle.ps_journal.specs.Claiming as claiming
use Rattle.ps_journal.specs.Claiming.{Nexts}
use Rattle.ps_journal.specs.Publishing as publishing
use Rattle.ps_journal.specs.Publishing.{Publishes}
use Rattle.ps_journal.specs.Judging as judging
use Rattle.ps_journal.specs.Judging.{Answers}
use Rattle.ps_journal.specs.Summing as summing
use Rattle.ps_journal.specs.Summing.{Sums}
use Rattle.ps_journal.specs.Showing as showing
use Rattle.ps_journal.specs.Showing.{Reads}
use Rattle.ps_journal.specs.Step.{Step, Serves, starved, serves, wants}
use Rattle.ps_journal.specs.History.{Entry, LeadsTo, start, next}
use Rattle.ps_views.specs.Fields.{Fields, IsSound}
use Rattle.ps_views.proofs.Lists.{all_append, all_weaker}
use Rattle.ps_views.proofs.Lookups.{circuit_held, circuit_seen, latest_seen}
use Rattle.ps_book.specs.Lawful.{IsLawful}

-- each circuit has so many versions at most
abbrev AtMost : ℕ → List Circuit → Type 0
AtMost n cs = AllByRecursion (λ c. length c.versions ≤ n) cs

more : (n : ℕ) (cs : List Circuit) → AtMost n cs → AtMost (n + 1) cs
more n cs a = all_weaker (λ c. length c.versions ≤ n) (λ c. length c.versions ≤ n + 1) (λ c h. omega (arith, h)) cs a

-- ---- what changes circuits
changed : (g : Circuit → Circuit) (n : ℕ) (name : List ℕ) → ((c : Circuit) → length c.versions ≤ n → length (g c).versions ≤ n + 1) → (cs : List Circuit) → AtMost n cs → AtMost (n + 1) (with_circuit g name cs)
changed g n name h [] a = tt
changed g n name h (c ∷ cs) a = by (bytes_eq name c.name) (changed g n name h cs a.1)
  where
    by : (b : Bool) → AtMost (n + 1) (with_circuit g name cs) → AtMost (n + 1) (cond b (g c ∷ cs) (c ∷ with_circuit g name cs))
    by true rest = (h c a.0, more n cs a.1)
    by false rest = (omega (arith, a.0), rest)

length-noted : (i : ℕ) (pins : List (Option Pin)) (name : List ℕ) (k : ℕ) (vs : List Version) → length (noted_versions i pins name k vs) ≡ length vs
length-noted i pins name k [] = refl
length-noted i pins name k (v ∷ vs) = omega (arith, length-noted i pins name (suc k) vs)

noted_most : (i n : ℕ) (pins : List (Option Pin)) (cs : List Circuit) → AtMost n cs → AtMost n (map (noted_circuit i pins) cs)
noted_most i n pins [] a = tt
noted_most i n pins (c ∷ cs) a = (omega (arith, length-noted i pins c.name 1 c.versions, a.0), noted_most i n pins cs a.1)

length-with : (g : Version → Version) (k : ℕ) (vs : List Version) → length (with_version g k vs) ≡ length vs
length-with g zero vs = refl
length-with g (suc k) [] = refl
length-with g (suc zero) (v ∷ vs) = refl
length-with g (suc (suc k)) (v ∷ vs) = omega (arith, length-with g (suc k) vs)

-- ---- one entry
module _ (t : State) (n i seat : ℕ) (a : AtMost n t.circuits) where
  same : AtMost (n + 1) t.circuits
  same = more n t.circuits a

  of_open : (name text : List ℕ) (r : Reply) (new : State) → Opens t i name text r new → AtMost (n + 1) new.circuits
  of_open name text r new (opening.name_taken e) = same
  of_open name text r new (opening.circuits_full e h) = same
  of_open name text r new (opening.bad e h b l) = same
  of_open name text r new (opening.opens {c = c} e h b) = all_append (λ d. length d.versions ≤ n + 1) t.circuits (opening.new_circuit t.names i name c ∷ []) same (omega arith, tt)

  of_splice : (name : List ℕ) (base from to : ℕ) (block : List ℕ) (r : Reply) (new : State) → Splices t name base from to block r new → AtMost (n + 1) new.circuits
  of_splice name base from to block r new (splicing.no_circuit e) = same
  of_splice name base from to block r new (splicing.stale e h) = same
  of_splice name base from to block r new (splicing.span e h v o) = same
  of_splice name base from to block r new (splicing.bad s h l) = same
  of_splice name base from to block r new (splicing.too_long s h l) = same
  of_splice name base from to block r new (splicing.nothing s h l m) = same
  of_splice name base from to block r new (splicing.commits {c = c} {v = v} {items = items} s h l m) =
      changed (with_next (next_version t.names v from to items)) n name (λ d q. omega (arith, q, length-append d.versions (next_version t.names v from to items ∷ []))) t.circuits a

  of_retire : (p : Place) (r : Reply) (new : State) → Retires t i p r new → AtMost (n + 1) new.circuits
  of_retire p r new (retiring.no_circuit e) = same
  of_retire p r new (retiring.no_version e h) = same
  of_retire p r new (retiring.is_latest s e) = same
  of_retire p r new (retiring.was_retired s e h) = same
  of_retire p r new (retiring.retires s e h) =
      noted_most i (n + 1) t.pins (with_circuit (retired_in i p.version) p.name t.circuits)
      (changed (retired_in i p.version) n p.name (λ d q. omega (arith, q, length-with (retired_version i) p.version d.versions)) t.circuits a)

  of_pin : (first : Place) (second : Option Place) (r : Reply) (new : State) → Pins t i seat first second r new → AtMost (n + 1) new.circuits
  of_pin first second r new (pinning.first_refused e) = same
  of_pin first second r new (pinning.second_refused s e) = same
  of_pin first second r new (pinning.widths s u e) = same
  of_pin first second r new (pinning.pins_one s) = noted_most i (n + 1) (slice_set t.pins seat (Some (new_pin first None))) t.circuits same
  of_pin first second r new (pinning.pins_two {second = q} s u e) = noted_most i (n + 1) (slice_set t.pins seat (Some (new_pin first (Some q)))) t.circuits same

  of_next : (pinned : Bool) (r : Reply) (new : State) → Nexts t i seat pinned r new → AtMost (n + 1) new.circuits
  of_next pinned r new (claiming.no_pin e) = same
  of_next pinned r new (claiming.idle e) = same
  of_next pinned r new (claiming.settled e s c d) = same
  of_next pinned r new (claiming.gives l f m s) = same

  of_publish : (kept : Option (Arc Record Global)) (r : Reply) (new : State) → Publishes t i seat kept r new → AtMost (n + 1) new.circuits
  of_publish kept r new (publishing.no_claim e) = same
  of_publish kept r new (publishing.dropped c e) = same
  of_publish kept r new (publishing.already c e p) = same
  of_publish kept r new (publishing.stands c o) = same
  of_publish kept r new (publishing.other_run c o e) = same
  of_publish kept r new (publishing.no_room c o e h) = same
  of_publish kept r new (publishing.publishes c o e h s) = same

  freed : AtMost (n + 1) (unpinned i seat t).circuits
  freed = noted_most i (n + 1) (released seat t).pins t.circuits same

  of_answer : (o : Outcome) (r : Reply) (new : State) → Answers t i seat o r new → AtMost (n + 1) new.circuits
  of_answer o r new (judging.no_pin e) = same
  of_answer o r new (judging.gives_up e g) = freed
  of_answer o r new (judging.done e) = freed
  of_answer o r new (judging.one_alone e h) = freed
  of_answer o r new (judging.other_run f b) = freed
  of_answer o r new (judging.no_room f b h) = freed
  of_answer o r new (judging.answers f b h j) = freed

  of_read : (p : Place) (r : Reply) (new : State) → Reads t p r new → AtMost (n + 1) new.circuits
  of_read p r new (showing.refused e) = same
  of_read p r new (showing.no_room s h) = same
  of_read p r new (showing.shows s h) = same

  of_sum : (o : Outcome) (r : Reply) (new : State) → Sums t i seat o r new → AtMost (n + 1) new.circuits
  of_sum o r new (summing.no_pin e) = same
  of_sum o r new (summing.gives_up e g) = freed
  of_sum o r new (summing.judged e) = freed
  of_sum o r new (summing.unsettled e f h) = freed
  of_sum o r new (summing.sums e f h c) = freed

  of_serves : (c : Cmd) (r : Reply) (new : State) → Serves t i seat c r new → AtMost (n + 1) new.circuits
  of_serves (cmd.Open name text) r new s = of_open name text.value r new s
  of_serves (cmd.Splice name base from to block) r new s = of_splice name base from to block.value r new s
  of_serves (cmd.Retire name version) r new s = of_retire (record { name = name; version = version }) r new s
  of_serves (cmd.Pin first second) r new s = of_pin first second r new s
  of_serves (cmd.Next pinned) r new s = of_next pinned r new s
  of_serves (cmd.Publish kept) r new s = of_publish kept r new s
  of_serves (cmd.Answer outcome) r new s = of_answer outcome r new s
  of_serves (cmd.Read place) r new s = of_read place r new s
  of_serves (cmd.Sum outcome) r new s = of_sum outcome r new s

  same_some : (x y : State) → Some x ≡ Some y → x ≡ y
  same_some x y e = cc

  none_some : (x : State) → None ≡ Some x → ⊥
  none_some x e = cc

  of_wanting : (c : Cmd) (new : State) → starved i seat c t ≡ Some new → AtMost (n + 1) new.circuits
  of_wanting (cmd.Open name text) new e = subst (λ u. AtMost (n + 1) u.circuits) (same_some t new e) same
  of_wanting (cmd.Splice name base from to block) new e = subst (λ u. AtMost (n + 1) u.circuits) (same_some t new e) same
  of_wanting (cmd.Retire name version) new e = absurd (none_some new e)
  of_wanting (cmd.Pin first second) new e = absurd (none_some new e)
  of_wanting (cmd.Next pinned) new e = subst (λ u. AtMost (n + 1) u.circuits) (same_some (unclaimed seat t) new e) same
  of_wanting (cmd.Publish kept) new e = subst (λ u. AtMost (n + 1) u.circuits) (same_some (unclaimed seat t) new e) same
  of_wanting (cmd.Answer outcome) new e = subst (λ u. AtMost (n + 1) u.circuits) (same_some (unpinned i seat t) new e) freed
  of_wanting (cmd.Read place) new e = subst (λ u. AtMost (n + 1) u.circuits) (same_some t new e) same
  of_wanting (cmd.Sum outcome) new e = subst (λ u. AtMost (n + 1) u.circuits) (same_some (unpinned i seat t) new e) freed

  of_step : (c : Cmd) (r : Reply) (new : State) → Step t i seat c r new → AtMost (n + 1) new.circuits
  of_step c r new (serves s) = of_serves c r new s
  of_step c r new (wants e) = of_wanting c new e

-- ---- whole histories
most_versions : (es : List Entry) (t : State) → LeadsTo es t → AtMost (length es) t.circuits
most_versions es t start = tt
most_versions es u (next {es = fs} {e = e} {t = t} l s) =
    let count : length (fs ++ e ∷ []) ≡ length fs + 1 = length-append fs (e ∷ []) in
    subst (λ n. AtMost n u.circuits) (sym count) (of_step t (length fs) (length fs) e.seat (most_versions fs t l) e.cmd e.reply u s)

found : (n : ℕ) (name : List ℕ) (c : Circuit) (cs : List Circuit) → AtMost n cs → circuit_at cs name ≡ Some c → length c.versions ≤ n
found n name c [] a e = cc
found n name c (d ∷ cs) a e = by (bytes_eq name d.name) e (found n name c cs a.1)
  where
    by : (b : Bool) → cond b (Some d) (circuit_at cs name) ≡ Some c → (circuit_at cs name ≡ Some c → length c.versions ≤ n) → length c.versions ≤ n
    by true q rest = let one : d ≡ c = cc in subst (λ x. length x.versions ≤ n) one a.0
    by false q rest = rest q

few_lawful : (f : Fields) (es : List Entry) → IsSound f → length es ≤ 262144 → IsLawful f es → (name : List ℕ) → latest_number (lookup.circuit_at f.versions.circuits name) < 4294967295
few_lawful f es sound few l name = by (lookup.circuit_at f.versions.circuits name) refl
  where
    by : (o : Option held.Circuit) → lookup.circuit_at f.versions.circuits name ≡ o → latest_number o < 4294967295
    by None e = omega arith
    by (Some c) e =
        let at = circuit_held f l.state l.stands sound.tabled name c e in
        let seen = circuit_seen f l.state l.stands sound.tabled name at.0 at.1 c at.2 in
        omega (arith, few, latest_seen f.items f.versions.nodes at.1 c, found (length es) name _ l.state.circuits (most_versions es l.state l.leads) seen)

-- LAW: no circuit of a book has so many versions that the next one has no number
pub few_versions : (f : Fields) (es : List Entry) → IsSound f → length es ≤ 262144 → ∥ IsLawful f es ∥₁ → (name : List ℕ) → latest_number (lookup.circuit_at f.versions.circuits name) < 4294967295
few_versions f es sound few l name = ∥∥₁_elim l (hlevel props) (λ x. few_lawful f es sound few x name)

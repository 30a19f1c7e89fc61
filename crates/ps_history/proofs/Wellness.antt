-- What holds of each state that a history leads to.
use Rattle.std.proofs.Common.{◌≡◌, ◌≤◌, ◌+◌, ℕ, zero, suc, Bool, true, false, cond, ◌||◌, inl, inr, List, [], ◌∷◌, ◌++◌, map, length, take, drop, refl, sym, ap, ap₂, ◌∙◌, subst, arith, eqb, bytes_eq, option_map, take-append-drop, append_assoc, length-append}
use Rattle.std.specs.Prelude.{Option, Some, None, slice_get, slice_set, is_none}
use Rattle.std.specs.List.{AllByRecursion as Each}
use Rattle.std.specs.declared.sync.Arc.{Arc}
use Rattle.std.specs.declared.alloc.Global.{Global}
use Rattle.std.proofs.lemmas.Bool.{eqb-true}
use Rattle.std.proofs.lemmas.List.{length-replicate, length-set}
use Rattle.seg_tree.specs.Trees.{Tree, run, run_maybe, build, splice}
use Rattle.seg_tree.specs.Measures.{IsBalancedMaybe}
use Rattle.seg_tree.proofs.Runs.{run-build}
use Rattle.seg_tree.proofs.Built.{balanced-build}
use Rattle.seg_tree.proofs.Fresh.{balanced-splice}
use Rattle.seg_tree.proofs.Splices.{run-splice}
use Rattle.ps_prim.specs.declared.prims.Primitive.{Primitive as Prim}
use Rattle.ps_prim.specs.Maps.{AllWithin}
use Rattle.qasm_expand.specs.Circuits.{CircuitOf}
use Rattle.ps_script.specs.declared.name.Place.{Place}
use Rattle.ps_reach.specs.declared.record.Record.{Record}
use Rattle.ps_reach.specs.Runs.{run_of}
use Rattle.ps_journal.specs.declared.seats.Pin.{Pin}
use Rattle.ps_journal.specs.declared.seats.Claim.{Claim}
use Rattle.ps_journal.specs.declared.commands.Cmd.{Cmd}
use Rattle.ps_journal.specs.declared.commands.Cmd.TheVariants as cmd
use Rattle.ps_journal.specs.declared.commands.Outcome.{Outcome}
use Rattle.ps_journal.specs.declared.replies.Reply.{Reply}
use Rattle.ps_journal.specs.State.{Item, Version, Circuit, State, Published, Finds, circuit_at, version_at, with_circuit, with_version, with_next, with_terms, released, unclaimed, empty}
use Rattle.ps_journal.specs.Segments.{published_at}
use Rattle.ps_journal.specs.Keeping.{is_kept, is_pinned, ended_by, noted_versions, noted_circuit, noted, unpinned}
use Rattle.ps_journal.specs.Opening as opening
use Rattle.ps_journal.specs.Opening.{Opens, opened, first_version, new_circuit}
use Rattle.ps_journal.specs.Splicing as splicing
use Rattle.ps_journal.specs.Splicing.{Splices, Replaces, replaced, next_version, committed}
use Rattle.ps_journal.specs.Retiring as retiring
use Rattle.ps_journal.specs.Retiring.{Retires, retired_version, retired_in, retired}
use Rattle.ps_journal.specs.Pinning as pinning
use Rattle.ps_journal.specs.Pinning.{Pins, pinned}
use Rattle.ps_journal.specs.Claiming as claiming
use Rattle.ps_journal.specs.Claiming.{Nexts, claimed}
use Rattle.ps_journal.specs.Publishing as publishing
use Rattle.ps_journal.specs.Publishing.{Publishes, Claims, IsOf, published, refused}
use Rattle.ps_journal.specs.Judging as judging
use Rattle.ps_journal.specs.Judging.{Answers}
use Rattle.ps_journal.specs.Summing as summing
use Rattle.ps_journal.specs.Summing.{Sums}
use Rattle.ps_journal.specs.Showing as showing
use Rattle.ps_journal.specs.Showing.{Reads}
use Rattle.ps_journal.specs.Step.{Step, Serves, starved, serves, wants}
use Rattle.ps_journal.specs.History.{Entry, LeadsTo, start, next}
use Rattle.ps_history.specs.Nodes.{Node, node, StandsFor, IsKnownMaybe, new_nodes_maybe}
use Rattle.ps_history.proofs.Lists.{get_front, some_same}
use Rattle.ps_history.proofs.Lookups.{at_step, same_bytes, bytes_same, circuit_mapped}
use Rattle.ps_history.proofs.Passing.{Passes, step_passes}
use Rattle.ps_history.proofs.Drafts.{known_maybe_more, known_within, known_stands, names_known, build_draft, splice_draft, run_with_names, balanced_with_names, count_new_maybe}
use Rattle.ps_history.proofs.Reading.{IsReady, IsReadable, text_readable, block_within}

-- ---- what holds
-- the version's tree is balanced and of its items, and its names stand for them; it hasn't ended while it is live; its items are few and on the circuit's qubits
pub record IsWellVersion (table : List Node) (q : ℕ) (v : Version) : Type 0 where
  pub tree : IsKnownMaybe table q v.tree
  pub balanced : IsBalancedMaybe v.tree
  pub run : run_maybe v.tree ≡ v.items
  pub live : v.retired ≡ None → v.ended ≡ None
  pub few : length v.items ≤ 65536
  pub within : AllWithin q (run_of v.items)

pub record IsWellCircuit (table : List Node) (c : Circuit) : Type 0 where
  pub qubits : (1 ≤ c.qubits) × (c.qubits ≤ 64)
  pub ready : IsReady c.qubits c.table
  pub versions : Each (IsWellVersion table c.qubits) c.versions

-- no two circuits have one name
abbrev pub Apart : List Circuit → Type 0
Apart [] = Unit {0}
Apart (c ∷ cs) = (circuit_at cs c.name ≡ None) × Apart cs

-- what was published for a name has the items and the qubits that the name stands for
pub record IsNamed (table : List Node) (k : ℕ) (p : Published) : Type 0 where
  pub of : Node
  pub there : slice_get table k ≡ Some of
  pub items : p.kept.items.value ≡ of.items
  pub qubits : p.kept.n ≡ of.qubits

abbrev pub AreNamed : List Node → List Published → Type 0
AreNamed table ps = (k : ℕ) (p : Published) → published_at ps k ≡ Some p → IsNamed table k p

pub record IsWell (t : State) : Type 0 where
  pub table : List Node
  pub names : length table ≡ t.names
  pub apart : Apart t.circuits
  pub circuits : Each (IsWellCircuit table) t.circuits
  pub named : AreNamed table t.published
  pub pins : length t.pins ≡ 64
  pub claims : length t.claims ≡ 64

-- ---- each
module _ {A : Type 0} (P : A → Type 0) where
  each_append : (xs ys : List A) → Each P xs → Each P ys → Each P (xs ++ ys)
  each_append [] ys h k = k
  each_append (x ∷ xs) ys h k = (h.0, each_append xs ys h.1 k)

  pub each_got : (xs : List A) (k : ℕ) (x : A) → Each P xs → slice_get xs k ≡ Some x → P x
  each_got [] k x h e = absurd (cc)
  each_got (y ∷ xs) zero x h e = subst P (some_same y x e) h.0
  each_got (y ∷ xs) (suc k) x h e = each_got xs k x h.1 e

  each_then : (Q : A → Type 0) → ((x : A) → P x → Q x) → (xs : List A) → Each P xs → Each Q xs
  each_then Q f [] h = tt
  each_then Q f (x ∷ xs) h = (f x h.0, each_then Q f xs h.1)

  each_map : (f : A → A) → ((x : A) → P x → P (f x)) → (xs : List A) → Each P xs → Each P (map f xs)
  each_map f g [] h = tt
  each_map f g (x ∷ xs) h = (g x h.0, each_map f g xs h.1)

pub each_found : (P : Circuit → Type 0) (cs : List Circuit) (name : List ℕ) (c : Circuit) → Each P cs → circuit_at cs name ≡ Some c → P c
each_found P [] name c h e = absurd (cc)
each_found P (d ∷ cs) name c h e = elim (at_step d c cs name e) [
  | inl a ↦ subst P a.1 h.0
  | inr b ↦ each_found P cs name c h.1 b.1
]

each_changed : (P : Circuit → Type 0) (f : Circuit → Circuit) (name : List ℕ) (cs : List Circuit) → Each P cs
    → ((c : Circuit) → circuit_at cs name ≡ Some c → P c → P (f c)) → Each P (with_circuit f name cs)
each_changed P f name [] h g = tt
each_changed P f name (c ∷ cs) h g = by (bytes_eq name c.name) refl (each_changed P f name cs h.1)
  where
    by : (b : Bool) → bytes_eq name c.name ≡ b → (((d : Circuit) → circuit_at cs name ≡ Some d → P d → P (f d)) → Each P (with_circuit f name cs))
        → Each P (cond b (f c ∷ cs) (c ∷ with_circuit f name cs))
    by true e k = (g c (ap (λ b. cond b (Some c) (circuit_at cs name)) e) h.0, h.1)
    by false e k = (h.0, k (λ d s p. g d (ap (λ b. cond b (Some c) (circuit_at cs name)) e ∙ s) p))

-- ---- names of circuits
module _ (f : Circuit → Circuit) (same : (c : Circuit) → (f c).name ≡ c.name) where
  apart_mapped : (cs : List Circuit) → Apart cs → Apart (map f cs)
  apart_mapped [] h = tt
  apart_mapped (c ∷ cs) h = (circuit_mapped f same cs (f c).name ∙ ap (option_map f) (ap (circuit_at cs) (same c) ∙ h.0), apart_mapped cs h.1)

  none_changed : (name other : List ℕ) (cs : List Circuit) → circuit_at cs other ≡ None → circuit_at (with_circuit f name cs) other ≡ None
  none_changed name other [] e = refl
  none_changed name other (c ∷ cs) e = by (bytes_eq name c.name) (bytes_eq other c.name) refl e (none_changed name other cs)
    where
      by : (a b : Bool) → bytes_eq other c.name ≡ b → cond b (Some c) (circuit_at cs other) ≡ None
          → (circuit_at cs other ≡ None → circuit_at (with_circuit f name cs) other ≡ None)
          → circuit_at (cond a (f c ∷ cs) (c ∷ with_circuit f name cs)) other ≡ None
      by a true s d k = absurd (cc)
      by true false s d k =
          ap (λ n. cond (bytes_eq other n) (Some (f c)) (circuit_at cs other)) (same c) ∙ ap (λ b. cond b (Some (f c)) (circuit_at cs other)) s ∙ d
      by false false s d k = ap (λ b. cond b (Some c) (circuit_at (with_circuit f name cs) other)) s ∙ k d

  apart_changed : (name : List ℕ) (cs : List Circuit) → Apart cs → Apart (with_circuit f name cs)
  apart_changed name [] h = tt
  apart_changed name (c ∷ cs) h = by (bytes_eq name c.name) (apart_changed name cs h.1)
    where
      by : (b : Bool) → Apart (with_circuit f name cs) → Apart (cond b (f c ∷ cs) (c ∷ with_circuit f name cs))
      by true k = (ap (circuit_at cs) (same c) ∙ h.0, h.1)
      by false k = (none_changed name c.name cs h.0, k)

none_step : (c : Circuit) (cs : List Circuit) (name : List ℕ) → circuit_at (c ∷ cs) name ≡ None → (bytes_eq name c.name ≡ false) × (circuit_at cs name ≡ None)
none_step c cs name e = by (bytes_eq name c.name) refl e
  where
    by : (b : Bool) → bytes_eq name c.name ≡ b → cond b (Some c) (circuit_at cs name) ≡ None → (bytes_eq name c.name ≡ false) × (circuit_at cs name ≡ None)
    by true s d = absurd (cc)
    by false s d = (s, d)

none_last : (cs : List Circuit) (d : Circuit) (name : List ℕ) → circuit_at cs name ≡ None → bytes_eq name d.name ≡ false → circuit_at (cs ++ d ∷ []) name ≡ None
none_last [] d name e s = ap (λ b. cond b (Some d) None) s
none_last (c ∷ cs) d name e s = let h = none_step c cs name e in ap (λ b. cond b (Some c) (circuit_at (cs ++ d ∷ []) name)) h.0 ∙ none_last cs d name h.1 s

other_way : (a b : List ℕ) → bytes_eq a b ≡ false → bytes_eq b a ≡ false
other_way a b e = by (bytes_eq b a) refl
  where
    by : (c : Bool) → bytes_eq b a ≡ c → c ≡ false
    by true s = let t : bytes_eq a b ≡ true = ap (bytes_eq a) (same_bytes b a s) ∙ bytes_same a in absurd (cc)
    by false s = refl

apart_last : (cs : List Circuit) (d : Circuit) → Apart cs → circuit_at cs d.name ≡ None → Apart (cs ++ d ∷ [])
apart_last [] d h e = (refl, tt)
apart_last (c ∷ cs) d h e = let s = none_step c cs d.name e in (none_last cs d c.name h.0 (other_way d.name c.name s.0), apart_last cs d h.1 s.1)

-- ---- longer tables
module _ (table more : List Node) where
  version_longer : (q : ℕ) (v : Version) → IsWellVersion table q v → IsWellVersion (table ++ more) q v
  version_longer q v h = record { tree = known_maybe_more table more q v.tree h.tree; balanced = h.balanced; run = h.run; live = h.live; few = h.few; within = h.within }

  circuit_longer : (c : Circuit) → IsWellCircuit table c → IsWellCircuit (table ++ more) c
  circuit_longer c h =
      record {
        qubits = h.qubits;
        ready = h.ready;
        versions = each_then (IsWellVersion table c.qubits) (IsWellVersion (table ++ more) c.qubits) (version_longer c.qubits) c.versions h.versions;
      }

  named_longer : (ps : List Published) → AreNamed table ps → AreNamed (table ++ more) ps
  named_longer ps h k p e = let n = h k p e in record { of = n.of; there = get_front table more k n.of n.there; items = n.items; qubits = n.qubits }

-- ---- versions that note an entry, or are retired
kept_live : (i : ℕ) (pins : List (Option Pin)) (p : Place) (v : Version) → v.retired ≡ None → ended_by i (is_kept pins p v) v.ended ≡ v.ended
kept_live i pins p v e = ap (λ r. ended_by i (is_none r || is_pinned pins p) v.ended) e

module _ (table : List Node) where
  versions_noted : (i : ℕ) (pins : List (Option Pin)) (name : List ℕ) (q k : ℕ) (vs : List Version) → Each (IsWellVersion table q) vs
      → Each (IsWellVersion table q) (noted_versions i pins name k vs)
  versions_noted i pins name q k [] h = tt
  versions_noted i pins name q k (v ∷ vs) h = (
    record {
      tree = h.0.tree;
      balanced = h.0.balanced;
      run = h.0.run;
      live = λ e. kept_live i pins (record { name = name; version = k }) v e ∙ h.0.live e;
      few = h.0.few;
      within = h.0.within;
    },
    versions_noted i pins name q (suc k) vs h.1,
  )

  circuit_noted : (i : ℕ) (pins : List (Option Pin)) (c : Circuit) → IsWellCircuit table c → IsWellCircuit table (noted_circuit i pins c)
  circuit_noted i pins c h = record { qubits = h.qubits; ready = h.ready; versions = versions_noted i pins c.name c.qubits 1 c.versions h.versions }

  versions_retired : (i q k : ℕ) (vs : List Version) → Each (IsWellVersion table q) vs → Each (IsWellVersion table q) (with_version (retired_version i) k vs)
  versions_retired i q zero vs h = h
  versions_retired i q (suc k) [] h = tt
  versions_retired i q (suc zero) (v ∷ vs) h = (record { tree = h.0.tree; balanced = h.0.balanced; run = h.0.run; live = λ e. absurd (cc); few = h.0.few; within = h.0.within }, h.1)
  versions_retired i q (suc (suc k)) (v ∷ vs) h = (h.0, versions_retired i q (suc k) vs h.1)

  circuit_retired : (i k : ℕ) (c : Circuit) → IsWellCircuit table c → IsWellCircuit table (retired_in i k c)
  circuit_retired i k c h = record { qubits = h.qubits; ready = h.ready; versions = versions_retired i c.qubits k c.versions h.versions }

-- ---- parts of items
run_of_both : (xs ys : List Item) → run_of (xs ++ ys) ≡ run_of xs ++ run_of ys
unfolding run_of
run_of_both [] ys = refl
run_of_both (x ∷ xs) ys = ap (λ z. x ++ z) (run_of_both xs ys) ∙ sym (append_assoc x (run_of xs) (run_of ys))

within_both : (q : ℕ) (a b : List Prim) → AllWithin q a → AllWithin q b → AllWithin q (a ++ b)
within_both q [] b h k = k
within_both q (g ∷ a) b h k = (h.0, within_both q a b h.1 k)

within_front : (q : ℕ) (a b : List Prim) → AllWithin q (a ++ b) → AllWithin q a
within_front q [] b h = tt
within_front q (g ∷ a) b h = (h.0, within_front q a b h.1)

within_back : (q : ℕ) (a b : List Prim) → AllWithin q (a ++ b) → AllWithin q b
within_back q [] b h = h
within_back q (g ∷ a) b h = within_back q a b h.1

-- few items on these qubits
pub record IsFew (q : ℕ) (items : List Item) : Type 0 where
  pub few : length items ≤ 65536
  pub within : AllWithin q (run_of items)

pub few_front : (q : ℕ) (xs ys : List Item) → IsFew q (xs ++ ys) → IsFew q xs
few_front q xs ys h =
    record {
      few = omega (arith, length-append xs ys, h.few);
      within = within_front q (run_of xs) (run_of ys) (subst (AllWithin q) (run_of_both xs ys) h.within);
    }

pub few_back : (q : ℕ) (xs ys : List Item) → IsFew q (xs ++ ys) → IsFew q ys
few_back q xs ys h =
    record {
      few = omega (arith, length-append xs ys, h.few);
      within = within_back q (run_of xs) (run_of ys) (subst (AllWithin q) (run_of_both xs ys) h.within);
    }

joined_within : (q : ℕ) (xs ys : List Item) → AllWithin q (run_of xs) → AllWithin q (run_of ys) → AllWithin q (run_of (xs ++ ys))
joined_within q xs ys h k = subst (AllWithin q) (sym (run_of_both xs ys)) (within_both q (run_of xs) (run_of ys) h k)

replaced_within : (q : ℕ) (old : List Item) (from to : ℕ) (items : List Item) → AllWithin q (run_of old) → AllWithin q (run_of items)
    → AllWithin q (run_of (replaced old from to items))
replaced_within q old from to items h k =
    let front : AllWithin q (run_of (take from old)) =
    within_front q (run_of (take from old)) (run_of (drop from old))
    (subst (AllWithin q) (run_of_both (take from old) (drop from old)) (subst (λ z. AllWithin q (run_of z)) (sym (take-append-drop from old)) h)) in
    let back : AllWithin q (run_of (drop to old)) =
    within_back q (run_of (take to old)) (run_of (drop to old))
    (subst (AllWithin q) (run_of_both (take to old) (drop to old)) (subst (λ z. AllWithin q (run_of z)) (sym (take-append-drop to old)) h)) in
    joined_within q (take from old ++ items) (drop to old) (joined_within q (take from old) items front k) back

-- ---- what is found
pub record FoundWell (table : List Node) (c : Circuit) (v : Version) : Type 0 where
  pub circuit : IsWellCircuit table c
  pub version : IsWellVersion table c.qubits v

pub found_well : (t : State) (w : IsWell t) (p : Place) (c : Circuit) (v : Version) → Finds t p c v → FoundWell w.table c v
found_well t w p c v f =
    let h : IsWellCircuit w.table c = each_found (IsWellCircuit w.table) t.circuits p.name c w.circuits f.circuit in
    record { circuit = h; version = at p.version f.version h.versions }
  where
    at : (n : ℕ) → version_at c n ≡ Some v → Each (IsWellVersion w.table c.qubits) c.versions → IsWellVersion w.table c.qubits v
    at zero e h = absurd (cc)
    at (suc k) e h = each_got (IsWellVersion w.table c.qubits) c.versions k v h e

-- ---- the steps
nothing_published : (k : ℕ) (p : Published) → published_at [] k ≡ Some p → ⊥
nothing_published k p e = cc

pub empty_well : IsWell empty
empty_well = record {
  table = [];
  names = refl;
  apart = tt;
  circuits = tt;
  named = λ k p e. absurd (nothing_published k p e);
  pins = length-replicate {A = Option Pin} 64 None;
  claims = length-replicate {A = Option Claim} 64 None;
}

module _ (t : State) (w : IsWell t) where
  -- pins and claims of as many seats, and the names as before
  well_same : (new : State) → new.circuits ≡ t.circuits → new.published ≡ t.published → new.names ≡ t.names → length new.pins ≡ length t.pins
      → length new.claims ≡ length t.claims → IsWell new
  well_same new a b c d e = record {
    table = w.table;
    names = w.names ∙ sym c;
    apart = subst Apart (sym a) w.apart;
    circuits = subst (Each (IsWellCircuit w.table)) (sym a) w.circuits;
    named = subst (AreNamed w.table) (sym b) w.named;
    pins = d ∙ w.pins;
    claims = e ∙ w.claims;
  }

  well_noted : (i : ℕ) → IsWell (noted i t)
  well_noted i = record {
    table = w.table;
    names = w.names;
    apart = apart_mapped (noted_circuit i t.pins) (λ c. refl) t.circuits w.apart;
    circuits = each_map (IsWellCircuit w.table) (noted_circuit i t.pins) (circuit_noted w.table i t.pins) t.circuits w.circuits;
    named = w.named;
    pins = w.pins;
    claims = w.claims;
  }

  well_opened : (i : ℕ) (name : List ℕ) (c : CircuitOf) → circuit_at t.circuits name ≡ None → IsReadable c → IsWell (opened i name c t)
  well_opened i name c free h =
      let more : List Node = new_nodes_maybe c.qubits (build c.items) in
      let longer : List Node = w.table ++ more in
      let first : IsWellVersion longer c.qubits (first_version t.names c) = record {
        tree = names_known w.table c.qubits t.names (build c.items) (sym w.names) (build_draft w.table c.qubits c.items);
        balanced = balanced_with_names t.names (build c.items) (balanced-build c.items);
        run = run_with_names t.names (build c.items) ∙ run-build c.items;
        live = λ e. refl;
        few = h.few;
        within = h.within;
      } in
      let there : IsWellCircuit longer (new_circuit t.names i name c) = record { qubits = h.qubits; ready = h.table; versions = (first, tt) } in
      record {
        table = longer;
        names = length-append w.table more ∙ ap₂ (λ a b. a + b) w.names (count_new_maybe c.qubits (build c.items));
        apart = apart_last t.circuits (new_circuit t.names i name c) w.apart free;
        circuits =
            each_append (IsWellCircuit longer) t.circuits (new_circuit t.names i name c ∷ [])
            (each_then (IsWellCircuit w.table) (IsWellCircuit longer) (circuit_longer w.table more) t.circuits w.circuits) (there, tt);
        named = named_longer w.table more t.published w.named;
        pins = w.pins;
        claims = w.claims;
      }

  well_committed : (name : List ℕ) (base from to : ℕ) (c : Circuit) (v : Version) (items : List Item) → Replaces t name base from to c v
      → AllWithin c.qubits (run_of items) → length (replaced v.items from to items) ≤ 65536
      → IsWell (committed name v from to items t)
  well_committed name base from to c v items r on few =
      let p : Place = record { name = name; version = length c.versions } in
      let f = found_well t w p c v (record { circuit = r.circuit; version = r.latest }) in
      let made : Option (Tree Item) = splice v.tree from to items in
      let more : List Node = new_nodes_maybe c.qubits made in
      let longer : List Node = w.table ++ more in
      let inside : to ≤ length (run_maybe v.tree) = subst (λ xs. to ≤ length xs) (sym f.version.run) r.inside in
      let version : IsWellVersion longer c.qubits (next_version t.names v from to items) = record {
        tree = names_known w.table c.qubits t.names made (sym w.names) (splice_draft w.table c.qubits v.tree from to items f.version.tree);
        balanced =
            balanced_with_names t.names made (balanced-splice v.tree from to items r.ordered inside f.version.balanced (balanced-build items));
        run = run_with_names t.names made ∙ run-splice v.tree from to items r.ordered inside ∙ ap (λ xs. replaced xs from to items) f.version.run;
        live = λ e. refl;
        few = few;
        within = replaced_within c.qubits v.items from to items f.version.within on;
      } in
      record {
        table = longer;
        names = length-append w.table more ∙ ap₂ (λ a b. a + b) w.names (count_new_maybe c.qubits made);
        apart = apart_changed (with_next (next_version t.names v from to items)) (λ d. refl) name t.circuits w.apart;
        circuits = each_changed (IsWellCircuit longer) (with_next (next_version t.names v from to items)) name t.circuits
            (each_then (IsWellCircuit w.table) (IsWellCircuit longer) (circuit_longer w.table more) t.circuits w.circuits)
            (λ d e h. let same : c ≡ d = some_same c d (sym r.circuit ∙ e) in record {
              qubits = h.qubits;
              ready = h.ready;
              versions =
                  each_append (IsWellVersion longer d.qubits) d.versions (next_version t.names v from to items ∷ []) h.versions
                  (subst (λ x. IsWellVersion longer x.qubits (next_version t.names v from to items)) same version, tt);
            });
        named = named_longer w.table more t.published w.named;
        pins = w.pins;
        claims = w.claims;
      }

  well_retired : (i : ℕ) (p : Place) → IsWell (record t { circuits = with_circuit (retired_in i p.version) p.name t.circuits })
  well_retired i p = record {
    table = w.table;
    names = w.names;
    apart = apart_changed (retired_in i p.version) (λ c. refl) p.name t.circuits w.apart;
    circuits = each_changed (IsWellCircuit w.table) (retired_in i p.version) p.name t.circuits w.circuits (λ c e h. circuit_retired w.table i p.version c h);
    named = w.named;
    pins = w.pins;
    claims = w.claims;
  }

  well_published : (i seat : ℕ) (claim : Claim) (c : Circuit) (v : Version) (s : Tree Item) (r : Record) → Claims t seat claim c v s → IsOf c s r
      → IsWell (published i claim.node r t)
  well_published i seat claim c v s r h is = record {
    table = w.table;
    names = w.names;
    apart = w.apart;
    circuits = w.circuits;
    named = λ k p e. by (eqb claim.node k) k p refl e;
    pins = w.pins;
    claims = w.claims;
  }
    where
      f : FoundWell w.table c v
      f = found_well t w claim.place c v h.found

      stands : slice_get w.table claim.node ≡ Some (node (run s) c.qubits)
      stands =
          subst (λ n. StandsFor w.table c.qubits n (run s)) h.named
          (known_stands w.table c.qubits s (known_within w.table c.qubits v.tree s (found_well t w claim.place c v h.found).version.tree h.within))

      by : (b : Bool) (k : ℕ) (p : Published) → eqb claim.node k ≡ b
          → cond b (Some (record { segment = claim.node; entry = i; kept = r })) (published_at t.published k) ≡ Some p → IsNamed w.table k p
      by true k p n e =
          subst (IsNamed w.table k) (some_same _ p e)
          (record {
            of = node (run s) c.qubits;
            there = subst (λ m. slice_get w.table m ≡ Some (node (run s) c.qubits)) (eqb-true claim.node k n) stands;
            items = is.items;
            qubits = is.qubits;
          })
      by false k p n e = w.named k p e

-- ---- each step keeps this
module _ (seat : ℕ) (t : State) (w : IsWell t) (i : ℕ) where
  well_quiet : (new : State) → Passes seat t new → new.circuits ≡ t.circuits → new.published ≡ t.published → new.names ≡ t.names → IsWell new
  well_quiet new s a b c = well_same t w new a b c s.pins.count s.claims.count

  well_unpinned : IsWell (unpinned i seat t)
  well_unpinned = well_noted (released seat t) (well_same t w (released seat t) refl refl refl (length-set t.pins seat None) refl) i

  opens_well : (name text : List ℕ) (r : Reply) (new : State) → Opens t i name text r new → IsWell new
  opens_well name text r new (opening.name_taken e) = w
  opens_well name text r new (opening.circuits_full e f) = w
  opens_well name text r new (opening.bad e f g h) = w
  opens_well name text r new (opening.opens {c = c} e f g) = well_opened t w i name c e (text_readable text c g)

  splices_well : (name : List ℕ) (base from to : ℕ) (block : List ℕ) (r : Reply) (new : State) → Splices t name base from to block r new → IsWell new
  splices_well name base from to block r new (splicing.no_circuit e) = w
  splices_well name base from to block r new (splicing.stale e f) = w
  splices_well name base from to block r new (splicing.span e f g h) = w
  splices_well name base from to block r new (splicing.bad e f g) = w
  splices_well name base from to block r new (splicing.too_long e f g) = w
  splices_well name base from to block r new (splicing.nothing e f g h) = w
  splices_well name base from to block r new (splicing.commits {c = c} {v = v} {items = items} e f g h) =
      let ready : IsReady c.qubits c.table = (each_found (IsWellCircuit w.table) t.circuits name c w.circuits e.circuit).ready in
      well_committed t w name base from to c v items e (block_within c.qubits c.table block items ready f) g

  retires_well : (p : Place) (r : Reply) (new : State) → Retires t i p r new → IsWell new
  retires_well p r new (retiring.no_circuit e) = w
  retires_well p r new (retiring.no_version e f) = w
  retires_well p r new (retiring.is_latest e f) = w
  retires_well p r new (retiring.was_retired e f g) = w
  retires_well p r new (retiring.retires e f g) =
      well_noted (record t { circuits = with_circuit (retired_in i p.version) p.name t.circuits }) (well_retired t w i p) i

  pin_well : (first : Place) (second : Option Place) → IsWell (pinned i seat first second t)
  pin_well first second =
      let u : State = record t { pins = slice_set t.pins seat (Some (pinning.new_pin first second)) } in
      well_noted u (well_same t w u refl refl refl (length-set t.pins seat (Some (pinning.new_pin first second))) refl) i

  pins_well : (first : Place) (second : Option Place) (r : Reply) (new : State) → Pins t i seat first second r new → IsWell new
  pins_well first second r new (pinning.first_refused e) = w
  pins_well first second r new (pinning.second_refused e f) = w
  pins_well first second r new (pinning.widths e f g) = w
  pins_well first second r new (pinning.pins_one e) = pin_well first None
  pins_well first second r new (pinning.pins_two {second = q} e f g) = pin_well first (Some q)

  nexts_well : (own : Bool) (r : Reply) (new : State) → Passes seat t new → Nexts t i seat own r new → IsWell new
  nexts_well own r new s (claiming.no_pin e) = well_quiet new s refl refl refl
  nexts_well own r new s (claiming.idle e) = well_quiet new s refl refl refl
  nexts_well own r new s (claiming.settled e f g h) = well_quiet new s refl refl refl
  nexts_well own r new s (claiming.gives e f g h) = well_quiet new s refl refl refl

  publishes_well : (kept : Option (Arc Record Global)) (r : Reply) (new : State) → Passes seat t new → Publishes t i seat kept r new → IsWell new
  publishes_well kept r new s (publishing.no_claim e) = w
  publishes_well kept r new s (publishing.dropped e f) = well_quiet new s refl refl refl
  publishes_well kept r new s (publishing.already e f g) = well_quiet new s refl refl refl
  publishes_well kept r new s (publishing.stands e f) = w
  publishes_well kept r new s (publishing.other_run e f g) = well_quiet new s refl refl refl
  publishes_well kept r new s (publishing.no_room e f g h) = well_quiet new s refl refl refl
  publishes_well kept r new s (publishing.publishes {r = a} {claim = claim} {c = c} {v = v} {s = x} e f g h k) =
      let p : IsWell (published i claim.node a.value t) = well_published t w i seat claim c v x a.value e g in
      record { table = p.table; names = p.names; apart = p.apart; circuits = p.circuits; named = p.named; pins = p.pins; claims = s.claims.count ∙ w.claims }

  answers_well : (o : Outcome) (r : Reply) (new : State) → Answers t i seat o r new → IsWell new
  answers_well o r new (judging.no_pin e) = w
  answers_well o r new (judging.gives_up e f) = well_unpinned
  answers_well o r new (judging.done e) = well_unpinned
  answers_well o r new (judging.one_alone e f) = well_unpinned
  answers_well o r new (judging.other_run e f) = well_unpinned
  answers_well o r new (judging.no_room e f g) = well_unpinned
  answers_well o r new (judging.answers {j = j} e f g h) =
      well_same (unpinned i seat t) well_unpinned (with_terms (judging.size j.value) (unpinned i seat t)) refl refl refl refl refl

  sums_well : (o : Outcome) (r : Reply) (new : State) → Sums t i seat o r new → IsWell new
  sums_well o r new (summing.no_pin e) = w
  sums_well o r new (summing.gives_up e f) = well_unpinned
  sums_well o r new (summing.judged e) = well_unpinned
  sums_well o r new (summing.unsettled e f g) = well_unpinned
  sums_well o r new (summing.sums e f g h) = well_unpinned

  reads_well : (p : Place) (r : Reply) (new : State) → Reads t p r new → IsWell new
  reads_well p r new (showing.refused e) = w
  reads_well p r new (showing.no_room e f) = w
  reads_well p r new (showing.shows {v = v} e f) = well_same t w (with_terms (length v.items) t) refl refl refl refl refl

  serves_well : (c : Cmd) (r : Reply) (new : State) → Passes seat t new → Serves t i seat c r new → IsWell new
  serves_well (cmd.Open name text) r new p s = opens_well name text.value r new s
  serves_well (cmd.Splice name base from to block) r new p s = splices_well name base from to block.value r new s
  serves_well (cmd.Retire name version) r new p s = retires_well (record { name = name; version = version }) r new s
  serves_well (cmd.Pin first second) r new p s = pins_well first second r new s
  serves_well (cmd.Next own) r new p s = nexts_well own r new p s
  serves_well (cmd.Publish kept) r new p s = publishes_well kept r new p s
  serves_well (cmd.Answer o) r new p s = answers_well o r new s
  serves_well (cmd.Read q) r new p s = reads_well q r new s
  serves_well (cmd.Sum o) r new p s = sums_well o r new s

  here : (u new : State) → Some u ≡ Some new → IsWell u → IsWell new
  here u new e p = subst IsWell (some_same u new e) p

  well_unclaimed : IsWell (unclaimed seat t)
  well_unclaimed = well_same t w (unclaimed seat t) refl refl refl refl (length-set t.claims seat None)

  starved_well : (c : Cmd) (new : State) → starved i seat c t ≡ Some new → IsWell new
  starved_well (cmd.Open name text) new e = here t new e w
  starved_well (cmd.Splice name base from to block) new e = here t new e w
  starved_well (cmd.Retire name version) new e = absurd (cc)
  starved_well (cmd.Pin first second) new e = absurd (cc)
  starved_well (cmd.Next own) new e = here (unclaimed seat t) new e well_unclaimed
  starved_well (cmd.Publish kept) new e = here (unclaimed seat t) new e well_unclaimed
  starved_well (cmd.Answer o) new e = here (unpinned i seat t) new e well_unpinned
  starved_well (cmd.Read p) new e = here t new e w
  starved_well (cmd.Sum o) new e = here (unpinned i seat t) new e well_unpinned

pub step_well : (seat : ℕ) (t : State) (i : ℕ) (c : Cmd) (r : Reply) (new : State) → IsWell t → Step t i seat c r new → IsWell new
step_well seat t i c r new w (serves s) = serves_well seat t w i c r new (step_passes seat t i c r new (serves s)) s
step_well seat t i c r new w (wants e) = starved_well seat t w i c new e

pub leads_well : (es : List Entry) (t : State) → LeadsTo es t → IsWell t
leads_well es t start = empty_well
leads_well es t (next {es = fs} {e = e} {t = u} l s) = step_well e.seat u (length fs) e.cmd e.reply t (leads_well fs u l) s

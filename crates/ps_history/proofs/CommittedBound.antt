-- The missing number that a committed splice is told is within its bound.
use Rattle.std.proofs.Common.{◌≡◌, ◌≤◌, ◌+◌, ℕ, List, [], ◌∷◌, ◌++◌, length, refl, sym, ap, ◌∙◌, subst, append_assoc, append-nil}
use Rattle.std.specs.Prelude.{Some, Ok, Result}
use Rattle.std.proofs.Props.{props}
use mathlib.Core.Logic.{∥∥₁_elim}
use Rattle.std.specs.declared.sync.Arc.{Arc}
use Rattle.std.specs.declared.alloc.Global.{Global}
use Rattle.seg_tree.specs.Trees.{run_maybe}
use Rattle.qasm_expand.specs.declared.fault.ReadFault.{ReadFault}
use Rattle.qasm_expand.specs.Circuits.{ReadsBlock}
use Rattle.qasm_expand.proofs.OneText.{one_block}
use Rattle.ps_desk.specs.Views.{entry}
use Rattle.ps_script.specs.declared.name.Place.{Place}
use Rattle.ps_script.specs.declared.text.Text.{Text}
use Rattle.ps_journal.specs.declared.commands.Cmd.TheVariants as cmd
use Rattle.ps_journal.specs.declared.replies.Reply.{Reply}
use Rattle.ps_journal.specs.declared.replies.Reply.TheVariants.{Committed}
use Rattle.ps_journal.specs.State.{Item, Version, Circuit, State, Finds, latest_of, version_at}
use Rattle.ps_journal.specs.Segments.{missing}
use Rattle.ps_journal.specs.Splicing as splicing
use Rattle.ps_journal.specs.Splicing.{Splices, Replaces, next_version}
use Rattle.ps_journal.specs.Step.{Step, serves, wants}
use Rattle.ps_journal.specs.History.{Entry, LeadsTo, IsLegal}
use Rattle.ps_history.specs.Commits.{most_missing, IsFewAt, CommitsWithin}
use Rattle.ps_history.proofs.Lists.{some_same}
use Rattle.ps_history.proofs.SegmentCounts.{missing_spliced}
use Rattle.ps_history.proofs.Wellness.{IsWell, FoundWell, found_well, leads_well}
use Rattle.ps_history.proofs.Others.{last_step, legal_front}

same_items : (xs ys : List Item) → ◌≡◌ {A = Result (List Item) ReadFault} (Ok ys) (Ok xs) → xs ≡ ys
same_items xs ys e = cc

-- ---- one step
module _ (t : State) (w : IsWell t) (name : List ℕ) (base from to : ℕ) where
  abbrev there : Place
  there = record { name = name; version = base }

  -- of the version that the command names, and of the items of its block
  next_few : (block : List ℕ) (c : Circuit) (v : Version) (items : List Item) → Replaces t name base from to c v → ReadsBlock c.table block (Ok items)
      → IsFewAt t there block (missing t.published (next_version t.names v from to items).tree)
  next_few block c v items r reads d x ys f again =
      let same : c ≡ d = some_same c d (sym r.circuit ∙ f.circuit) in
      let latest : version_at c base ≡ Some v = ap (version_at c) r.current ∙ r.latest in
      let version : v ≡ x = some_same v x (sym latest ∙ subst (λ y. version_at y base ≡ Some x) (sym same) f.version) in
      let read : items ≡ ys =
      same_items items ys (one_block c.table block (Ok items) (Ok ys) reads (subst (λ y. ReadsBlock y.table block (Ok ys)) (sym same) again)) in
      let well : FoundWell w.table c v = found_well t w there c v (record { circuit = r.circuit; version = latest }) in
      let inside : to ≤ length (run_maybe v.tree) = subst (λ xs. to ≤ length xs) (sym well.version.run) r.inside in
      let few : missing t.published (next_version t.names v from to items).tree ≤ most_missing t v items =
      missing_spliced t.published t.names v.tree from to items well.version.balanced r.ordered inside in
      subst (λ zs. missing t.published (next_version t.names v from to items).tree ≤ most_missing t x zs) read
      (subst (λ y. missing t.published (next_version t.names v from to items).tree ≤ most_missing t y items) version few)

  splices_few : (block : List ℕ) (version m : ℕ) (r : Reply) (new : State) → Splices t name base from to block r new → r ≡ Committed version m
      → IsFewAt t there block m
  splices_few block version m r new (splicing.no_circuit e) q = absurd (cc)
  splices_few block version m r new (splicing.stale e f) q = absurd (cc)
  splices_few block version m r new (splicing.span e f g h) q = absurd (cc)
  splices_few block version m r new (splicing.bad e f g) q = absurd (cc)
  splices_few block version m r new (splicing.too_long e f g) q = absurd (cc)
  splices_few block version m r new (splicing.nothing e f g h) q = absurd (cc)
  splices_few block version m r new (splicing.commits {c = c} {v = v} {items = items} e f g h) q =
      let told : missing t.published (next_version t.names v from to items).tree ≡ m = cc in
      subst (λ n. IsFewAt t there block n) told (next_few block c v items e f)

  step_few : (i seat : ℕ) (block : Arc Text Global) (version m : ℕ) (r : Reply) (new : State) → Step t i seat (cmd.Splice name base from to block) r new
      → r ≡ Committed version m → IsFewAt t there block.value m
  step_few i seat block version m r new (serves s) q = splices_few block.value version m r new s q
  step_few i seat block version m r new (wants e) q = absurd (cc)

-- ---- histories
-- what came before is legal
pub legal_beginning : (es more : List Entry) → IsLegal (es ++ more) → IsLegal es
legal_beginning es [] h = subst IsLegal (append-nil es) h
legal_beginning es (e ∷ more) h =
    legal_front es e (legal_beginning (es ++ e ∷ []) more (subst IsLegal (sym (append_assoc es (e ∷ []) more)) h))

-- entries lead to one state at most
abbrev pub LeadsToOne : Type 0
LeadsToOne = (es : List Entry) (a b : State) → LeadsTo es a → LeadsTo es b → a ≡ b

-- of an entry behind those before
entry_few : (before : List Entry) (seat : ℕ) (name : List ℕ) (base from to : ℕ) (block : Arc Text Global) (version m : ℕ) (t u : State) → LeadsTo before t
    → Step t (length before) seat (cmd.Splice name base from to block) (Committed version m) u
    → IsFewAt t (record { name = name; version = base }) block.value m
entry_few before seat name base from to block version m t u leads step =
    step_few t (leads_well before t leads) name base from to (length before) seat block version m (Committed version m) u step refl

-- LAW: in a legal history each committed splice was told a missing number within its bound, where entries lead to one state at most
pub commits_within : LeadsToOne → (es : List Entry) → IsLegal es → CommitsWithin es
commits_within one es legal before after seat name base from to block version m whole t leads c v items found reads =
    let e : Entry = entry seat (cmd.Splice name base from to block) (Committed version m) in
    let first : IsLegal (before ++ e ∷ []) =
    legal_beginning (before ++ e ∷ []) after (subst IsLegal (whole ∙ sym (append_assoc before (e ∷ []) after)) legal) in
    ∥∥₁_elim first (hlevel props) (λ p.
    let s = last_step before e p.0 p.1 in
    let step : Step t (length before) seat (cmd.Splice name base from to block) (Committed version m) p.0 =
    subst (λ x. Step x (length before) seat (cmd.Splice name base from to block) (Committed version m) p.0) (one before s.before t s.leads leads) s.step in
    entry_few before seat name base from to block version m t p.0 leads step c v items found reads)

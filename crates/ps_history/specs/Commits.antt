-- How many segments may have no record where a splice was committed.
use Rattle.std.specs.Prelude.{ℕ, ◌+◌, ◌*◌, ◌≡◌, ◌≤◌, max, List, ◌∷◌, ◌++◌, length, Ok}
use Rattle.std.specs.declared.sync.Arc.{Arc}
use Rattle.std.specs.declared.alloc.Global.{Global}
use Rattle.seg_tree.specs.Trees.{build}
use Rattle.seg_tree.specs.Measures.{height_maybe}
use Rattle.qasm_expand.specs.Circuits.{ReadsBlock}
use Rattle.ps_desk.specs.Views.{entry}
use Rattle.ps_script.specs.declared.name.Place.{Place}
use Rattle.ps_script.specs.declared.text.Text.{Text}
use Rattle.ps_journal.specs.declared.commands.Cmd.TheVariants as cmd
use Rattle.ps_journal.specs.declared.replies.Reply.TheVariants.{Committed}
use Rattle.ps_journal.specs.State.{Item, Version, Circuit, State, Finds}
use Rattle.ps_journal.specs.Segments.{missing}
use Rattle.ps_journal.specs.History.{Entry, LeadsTo}

-- So many may be missing where these items come into the version: those that are missing of it, and 64 * (H + 1), and 2 for each item.
-- H is the greater height of its tree and of the tree that is built of the items.
abbrev pub most_missing : State → Version → List Item → ℕ
most_missing t v items = missing t.published v.tree + 64 * (max (height_maybe v.tree) (height_maybe (build items)) + 1) + 2 * length items

-- m is at most that, of the version at the place and the items of the block
abbrev pub IsFewAt : State → Place → List ℕ → ℕ → Type 0
IsFewAt t p block m = (c : Circuit) (v : Version) (items : List Item) → Finds t p c v → ReadsBlock c.table block (Ok items) → m ≤ most_missing t v items

-- so many at most are missing of each version that a Splice committed, in each state that the entries before it lead to
abbrev pub CommitsWithin : List Entry → Type 0
CommitsWithin es =
    (before after : List Entry) (seat : ℕ) (name : List ℕ) (base from to : ℕ) (block : Arc Text Global) (version m : ℕ)
    → es ≡ before ++ entry seat (cmd.Splice name base from to block) (Committed version m) ∷ after
    → (t : State) → LeadsTo before t → IsFewAt t (record { name = name; version = base }) block.value m

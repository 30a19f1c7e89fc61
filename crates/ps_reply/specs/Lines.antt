-- The text of a journal: the replies that end commands of sessions.
use Rattle.std.specs.Prelude.{ℕ, ◌-◌, Bool, true, false, ◌≤◌, ◌≡◌, cond, List, [], ◌∷◌, ◌++◌, codes, decimal, All}
use Rattle.std.specs.List.{flat_map}
use Rattle.ps_journal.specs.History.{Entry, ends_command}
use Rattle.ps_reply.specs.Replies.{reply_text}

-- the session of an entry that ends a command: seats are numbered from 1 on for sessions, which count from 0
abbrev pub session_text : Entry → List ℕ
session_text e = decimal (e.seat - 1) ++ codes " " ++ reply_text e.reply ++ codes "\n"

-- the session's number and the reply, or nothing for an entry that ends no command
abbrev pub entry_text : Entry → List ℕ
entry_text e = cond (ends_command e.cmd e.reply) (session_text e) []

-- those of all entries, in order
abbrev pub journal_text : List Entry → List ℕ
journal_text es = flat_map entry_text es

-- an entry that ends a command is not of seat 0
abbrev pub IsOfSession : Entry → Type 0
IsOfSession e = ends_command e.cmd e.reply ≡ true → 1 ≤ e.seat

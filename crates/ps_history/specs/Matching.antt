-- What the entries of a seat have to do with the commands of a script.
use Rattle.std.specs.Prelude.{◌≡◌, Bool, true, false, List, [], ◌∷◌, ◌++◌}
use Rattle.ps_script.specs.declared.command.Command.{Command}
use Rattle.ps_script.specs.declared.command.Command.TheVariants as command
use Rattle.ps_reach.specs.declared.mode.Mode.TheVariants.{Exact, Phase}
use Rattle.ps_journal.specs.declared.commands.Cmd.TheVariants as cmd
use Rattle.ps_journal.specs.declared.replies.Reply.{Reply}
use Rattle.ps_journal.specs.declared.replies.Reply.TheVariants.{NoPin, OtherRun, NotCrowded, Unsettled}
use Rattle.ps_journal.specs.History.{Entry, ends_command}
use Rattle.ps_history.specs.Inner.{IsInner, Idles}
use Rattle.ps_history.specs.Questions.{EndsJudging, EndsSumming}

-- replies to a seat that asks what it has no ground to ask
abbrev pub is_misuse : Reply → Bool
is_misuse NoPin = true
is_misuse OtherRun = true
is_misuse NotCrowded = true
is_misuse (Unsettled missing) = true
is_misuse r = false

-- the entry answers the command, behind the entries before it of the same seat
abbrev pub MatchesCommand : List Entry → Command → Entry → Type 0
MatchesCommand own (command.Open name text) e = e.cmd ≡ cmd.Open name text
MatchesCommand own (command.Splice place from to block) e = e.cmd ≡ cmd.Splice place.name place.version from to block
MatchesCommand own (command.Retire place) e = e.cmd ≡ cmd.Retire place.name place.version
MatchesCommand own (command.Ask first second) e = EndsJudging own Exact false first second e
MatchesCommand own (command.AskPhase first second) e = EndsJudging own Phase false first second e
MatchesCommand own (command.Prove first second) e = EndsJudging own Exact true first second e
MatchesCommand own (command.Sum place) e = EndsSumming own place e
MatchesCommand own (command.Show place) e = e.cmd ≡ cmd.Read place

-- it ends a command, it matches this one, and its reply is no misuse
pub record AnswersCommand (own : List Entry) (c : Command) (e : Entry) : Type 0 where
  pub ends : ends_command e.cmd e.reply ≡ true
  pub matches : MatchesCommand own c e
  pub proper : is_misuse e.reply ≡ false

-- the entries of a seat, one after another: each is inner, or answers the next command
pub data Matched : List Entry → List Command → Type 0 where
  nothing : Matched [] []
  inner : {es : List Entry} {cs : List Command} (e : Entry) → Matched es cs → IsInner es e → Matched (es ++ e ∷ []) cs
  answer : {es : List Entry} {cs : List Command} (e : Entry) (c : Command) → Matched es cs → AnswersCommand es c e → Matched (es ++ e ∷ []) (cs ++ c ∷ [])

-- one entry that answers the command came in addition, behind inner ones, with this reply
pub record Answers (c : Command) (reply : Reply) (own after : List Entry) : Type 0 where
  pub between : List Entry
  pub last : Entry
  pub idles : Idles own between
  pub whole : after ≡ between ++ last ∷ []
  pub answers : AnswersCommand between c last
  pub reply_is : last.reply ≡ reply

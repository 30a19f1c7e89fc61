-- What a run on the calling thread holds.
use Rattle.std.proofs.Common.{◌≡◌, ℕ, refl, ap, sym, ◌∙◌, List, [], ◌∷◌, ◌++◌}
use Rattle.std.specs.Prelude.{cond, filter}
use Rattle.std.proofs.lemmas.List.Elements.{filter-append}
use Rattle.ps_script.specs.declared.script.Line.{Line}
use Rattle.ps_script.specs.declared.command.Command.{Command}
use Rattle.ps_journal.specs.History.{Entry, own_entries, session_entries, ends_command}
use Rattle.ps_history.specs.Matching.{Matched, nothing, inner, answer}
use Rattle.ps_history.proofs.Lists.{last_there}
use Rattle.ps_sessions.specs.declared.runs.Run.{Run}
use Rattle.ps_sessions.specs.Lines.{commands_of}
use Rattle.ps_sessions.specs.Runs.{IsRunOf}
use Rattle.pathsum.specs.Runs.{Holds}

-- entries that match no command end none
pub none_ends : (es : List Entry) (cs : List Command) → Matched es cs → cs ≡ [] → session_entries es ≡ []
none_ends es cs nothing e = refl
none_ends es cs (inner {es = front} x m i) e =
    let both = filter-append (λ y. ends_command y.cmd y.reply) front (x ∷ []) in
    both ∙ ap (λ l. l ++ filter (λ y. ends_command y.cmd y.reply) (x ∷ [])) (none_ends front cs m e) ∙ ap (λ b. cond b (x ∷ []) []) i.inner
none_ends es cs (answer {cs = before} x c m i) e = absurd (last_there before c e)

pub run_holds : (lines : List Line) (run : Run) (r : IsRunOf lines run) → Holds r.served run.journal
run_holds lines run r = record {
  legal = r.legal;
  each = r.matched;
  others = λ seat e. none_ends (own_entries seat run.journal) (commands_of seat r.served) (r.matched seat) e;
  just = r.just;
}

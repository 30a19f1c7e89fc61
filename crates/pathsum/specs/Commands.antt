-- The words of the commands.
use Rattle.std.specs.Prelude.{ℕ, ◌≡◌, List, [], ◌∷◌, codes}
use Rattle.pathsum.specs.declared.commands.Command.{Command}
use Rattle.pathsum.specs.declared.commands.Command.TheVariants.{Same, SamePhase, SameLocal, Prove, Replay}

abbrev pub words_of : Command → List (List ℕ)
words_of Same = codes "same" ∷ []
words_of SamePhase = codes "same" ∷ codes "phase" ∷ []
words_of SameLocal = codes "same" ∷ codes "local" ∷ []
words_of Prove = codes "prove" ∷ []
words_of Replay = codes "replay" ∷ []

-- the words are those of the command
abbrev pub IsCommand : Command → List (List ℕ) → Type 0
IsCommand c words = words ≡ words_of c

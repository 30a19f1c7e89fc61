-- Where an input is split.
use Rattle.std.specs.Prelude.{ℕ, ◌≡◌, ◌+◌, ◌≤◌, ◌⊎◌, List, [], ◌∷◌, ◌++◌, length, codes}
use Rattle.pathsum.specs.declared.commands.Command.{Command}
use Rattle.pathsum.specs.declared.commands.Command.TheVariants.{Same, SamePhase, SameLocal, Prove, Replay}

-- the separator without its LF
pub data IsMark (mark : List ℕ) : Type 0 where
  plain : mark ≡ codes "====" → IsMark mark
  returned : mark ≡ codes "====\r" → IsMark mark

-- a line ends here, by the end of the bytes, or by an LF with the rest behind it
pub data EndsLine (bytes rest : List ℕ) : Type 0 where
  at_end : bytes ≡ [] → rest ≡ [] → EndsLine bytes rest
  at_feed : bytes ≡ 10 ∷ rest → EndsLine bytes rest

-- the bytes are a separator, as a line of its own, and the rest
pub record Marks (bytes rest : List ℕ) : Type 0 where
  pub mark : List ℕ
  pub behind : List ℕ
  pub is : IsMark mark
  pub parted : bytes ≡ mark ++ behind
  pub ends : EndsLine behind rest

-- nothing, or lines of which the last has its LF too
pub data AreLines (text : List ℕ) : Type 0 where
  none : text ≡ [] → AreLines text
  some : (front : List ℕ) → text ≡ front ++ 10 ∷ [] → AreLines text

-- the bytes are a text of whole lines, a separator, and the rest
pub record Separates (bytes text rest : List ℕ) : Type 0 where
  pub behind : List ℕ
  pub lines : AreLines text
  pub parted : bytes ≡ text ++ behind
  pub mark : Marks behind rest

-- that, at the first separator; the rest begins at start
pub record SplitsAt (bytes text rest : List ℕ) (start : ℕ) : Type 0 where
  pub separates : Separates bytes text rest
  pub first : (t r : List ℕ) → Separates bytes t r → length text ≤ length t
  pub place : start + length rest ≡ length bytes

-- there is no separator
abbrev pub NoSplit : List ℕ → Type 0
NoSplit bytes = (t r : List ℕ) → Separates bytes t r → ⊥

-- ---- the pieces of an input: text a, text b, which begins at start, and a derivation d
pub record InTwo (bytes a b : List ℕ) (start : ℕ) (d : List ℕ) : Type 0 where
  pub split : SplitsAt bytes a b start
  pub none : d ≡ []

pub record InThree (bytes a b : List ℕ) (start : ℕ) (d : List ℕ) : Type 0 where
  pub rest : List ℕ
  pub from : ℕ
  pub split : SplitsAt bytes a rest start
  pub second : SplitsAt rest b d from

-- a first separator is there, and no second
pub record OneOnly (bytes : List ℕ) : Type 0 where
  pub text : List ℕ
  pub rest : List ℕ
  pub start : ℕ
  pub split : SplitsAt bytes text rest start
  pub none : NoSplit rest

abbrev pub IsParted : Command → List ℕ → List ℕ → List ℕ → ℕ → List ℕ → Type 0
IsParted Same bytes a b start d = InTwo bytes a b start d
IsParted SamePhase bytes a b start d = InTwo bytes a b start d
IsParted SameLocal bytes a b start d = InTwo bytes a b start d
IsParted Prove bytes a b start d = InTwo bytes a b start d
IsParted Replay bytes a b start d = InThree bytes a b start d

-- a separator is missing
abbrev pub Lacks : Command → List ℕ → Type 0
Lacks Same bytes = NoSplit bytes
Lacks SamePhase bytes = NoSplit bytes
Lacks SameLocal bytes = NoSplit bytes
Lacks Prove bytes = NoSplit bytes
Lacks Replay bytes = NoSplit bytes ⊎ OneOnly bytes

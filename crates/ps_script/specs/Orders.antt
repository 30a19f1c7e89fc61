-- How command lines are spelled.
use Rattle.std.specs.Prelude.{◌≡◌, ℕ, ◌^◌, ◌<◌, Bool, true, false, List, [], ◌∷◌, codes, decimal}
use Rattle.ps_script.specs.declared.name.Place.{Place}
use Rattle.ps_script.specs.declared.order.Order.{Order}
use Rattle.ps_script.specs.declared.order.Order.TheVariants.{Open, Splice, Retire, Ask, AskPhase, Prove, Sum, Show}
use Rattle.ps_script.specs.Names.{is_name}
use Rattle.ps_script.specs.Words.{words}

-- A place is a name and a number.
abbrev pub place_words : Place → List (List ℕ)
place_words p = p.name ∷ decimal p.version ∷ []

abbrev pub pair_words : Place → Place → List (List ℕ)
pair_words p q = p.name ∷ decimal p.version ∷ q.name ∷ decimal q.version ∷ []

-- The first word of an order,
abbrev pub verb_of : Order → List ℕ
verb_of (Open n) = codes "open"
verb_of (Splice p f t) = codes "splice"
verb_of (Retire p) = codes "retire"
verb_of (Ask p q) = codes "ask"
verb_of (AskPhase p q) = codes "ask"
verb_of (Prove p q) = codes "prove"
verb_of (Sum p) = codes "sum"
verb_of (Show p) = codes "show"

-- and the others.
abbrev pub argument_words : Order → List (List ℕ)
argument_words (Open n) = n ∷ []
argument_words (Splice p f t) = p.name ∷ decimal p.version ∷ decimal f ∷ decimal t ∷ []
argument_words (Retire p) = place_words p
argument_words (Ask p q) = pair_words p q
argument_words (AskPhase p q) = codes "phase" ∷ pair_words p q
argument_words (Prove p q) = pair_words p q
argument_words (Sum p) = place_words p
argument_words (Show p) = place_words p

-- The order's names are names, and its numbers are below 2^32.
pub record IsPlace (p : Place) : Type 0 where
  pub name : is_name p.name ≡ true
  pub below : p.version < 2 ^ 32

abbrev pub IsOrder : Order → Type 0
IsOrder (Open n) = is_name n ≡ true
IsOrder (Splice p f t) = IsPlace p × (f < 2 ^ 32) × (t < 2 ^ 32)
IsOrder (Retire p) = IsPlace p
IsOrder (Ask p q) = IsPlace p × IsPlace q
IsOrder (AskPhase p q) = IsPlace p × IsPlace q
IsOrder (Prove p q) = IsPlace p × IsPlace q
IsOrder (Sum p) = IsPlace p
IsOrder (Show p) = IsPlace p

-- The line is this order of this session,
pub record Spells (line : List ℕ) (session : ℕ) (o : Order) : Type 0 where
  pub spelled : words line ≡ decimal session ∷ verb_of o ∷ argument_words o
  pub below : session < 2 ^ 32
  pub formed : IsOrder o

-- or no order of any session.
abbrev pub SpellsNone : List ℕ → Type 0
SpellsNone line = (session : ℕ) (o : Order) → Spells line session o → ⊥

-- A block follows it.
abbrev pub takes_block : Order → Bool
takes_block (Open n) = true
takes_block (Splice p f t) = true
takes_block (Retire p) = false
takes_block (Ask p q) = false
takes_block (AskPhase p q) = false
takes_block (Prove p q) = false
takes_block (Sum p) = false
takes_block (Show p) = false

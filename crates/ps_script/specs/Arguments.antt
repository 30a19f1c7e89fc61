-- What the readers of parts of a command line tell.
use Rattle.std.specs.Prelude.{◌≡◌, ℕ, ◌^◌, ◌<◌, List, [], ◌∷◌, codes, decimal}
use Rattle.ps_script.specs.declared.name.Place.{Place}
use Rattle.ps_script.specs.declared.order.Order.{Order}
use Rattle.ps_script.specs.Words.{words}
use Rattle.ps_script.specs.Orders.{place_words, pair_words, IsPlace, IsOrder, verb_of, argument_words}

pub record SpellsPlace (bytes : List ℕ) (p : Place) : Type 0 where
  pub spelled : words bytes ≡ place_words p
  pub formed : IsPlace p

abbrev pub NoPlace : List ℕ → Type 0
NoPlace bytes = (p : Place) → SpellsPlace bytes p → ⊥

pub record SpellsPair (bytes : List ℕ) (p q : Place) : Type 0 where
  pub spelled : words bytes ≡ pair_words p q
  pub first : IsPlace p
  pub second : IsPlace q

abbrev pub NoPair : List ℕ → Type 0
NoPair bytes = (p q : Place) → SpellsPair bytes p q → ⊥

-- the word `phase`, and two places
pub record SpellsPhase (bytes : List ℕ) (p q : Place) : Type 0 where
  pub spelled : words bytes ≡ codes "phase" ∷ pair_words p q
  pub first : IsPlace p
  pub second : IsPlace q

abbrev pub NoPhase : List ℕ → Type 0
NoPhase bytes = (p q : Place) → SpellsPhase bytes p q → ⊥

-- two numbers
pub record SpellsSpan (bytes : List ℕ) (f t : ℕ) : Type 0 where
  pub spelled : words bytes ≡ decimal f ∷ decimal t ∷ []
  pub first : f < 2 ^ 32
  pub second : t < 2 ^ 32

abbrev pub NoSpan : List ℕ → Type 0
NoSpan bytes = (f t : ℕ) → SpellsSpan bytes f t → ⊥

-- an order with this first word, and with these arguments
pub record HasArguments (verb bytes : List ℕ) (o : Order) : Type 0 where
  pub verb_is : verb_of o ≡ verb
  pub spelled : words bytes ≡ argument_words o
  pub formed : IsOrder o

abbrev pub HasNone : List ℕ → List ℕ → Type 0
HasNone verb bytes = (o : Order) → HasArguments verb bytes o → ⊥

-- an order with all its words
pub record SpellsOrder (bytes : List ℕ) (o : Order) : Type 0 where
  pub spelled : words bytes ≡ verb_of o ∷ argument_words o
  pub formed : IsOrder o

abbrev pub NoOrder : List ℕ → Type 0
NoOrder bytes = (o : Order) → SpellsOrder bytes o → ⊥

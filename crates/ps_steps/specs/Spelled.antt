-- What the reader of one line tells.
use Rattle.std.specs.Prelude.{◌≡◌, ◌≢◌, ℕ, ◌<◌, Bool, true, false, ◌||◌, nat_eq, nat_lt, List, ◌++◌, codes, decimal}
use Rattle.ps_rules.specs.declared.steps.Step.{Step}
use Rattle.ps_steps.specs.declared.lines.Line.{Line}
use Rattle.ps_steps.specs.declared.lines.Line.TheVariants.{Head, Leaf, Id, Join, Rewrite, Overlap, End}
use Rattle.ps_steps.specs.Steps.{is_head, is_inner, is_end, is_step}
use Rattle.ps_steps.specs.Texts.{step_text, line_text}

-- a line of some form, wherever it may stand
unfoldable pub is_line : Line → Bool
is_line (Head n) = nat_eq n 1
is_line (Leaf b i) = nat_lt i 4294967296
is_line (Id b) = true
is_line Join = true
is_line (Rewrite s) = is_step s
is_line Overlap = true
is_line End = true

-- a line that is spelled in one way alone
unfoldable pub is_word : Line → Bool
is_word (Head n) = true
is_word (Leaf b i) = false
is_word (Id b) = true
is_word Join = true
is_word (Rewrite s) = false
is_word Overlap = true
is_word End = true

-- it may stand first, or behind the head
unfoldable pub may_stand : Bool → Line → Bool
may_stand true l = is_head l
may_stand false l = is_inner l || is_end l

pub record Spells (piece : List ℕ) (l : Line) : Type 0 where
  pub spelled : line_text l ≡ piece
  pub formed : is_line l ≡ true

abbrev pub NoWord : List ℕ → Type 0
NoWord piece = (l : Line) → is_word l ≡ true → is_line l ≡ true → line_text l ≢ piece

abbrev pub NoLeaf : List ℕ → Type 0
NoLeaf piece = (b : Bool) (i : ℕ) → i < 4294967296 → line_text (Leaf b i) ≢ piece

pub record SpellsStep (piece : List ℕ) (s : Step) : Type 0 where
  pub spelled : step_text s ≡ piece
  pub formed : is_step s ≡ true

abbrev pub NoStep : List ℕ → Type 0
NoStep piece = (s : Step) → is_step s ≡ true → step_text s ≢ piece

abbrev pub NoLine : List ℕ → Type 0
NoLine piece = (l : Line) → is_line l ≡ true → line_text l ≢ piece

pub record StandsThere (first : Bool) (piece : List ℕ) (l : Line) : Type 0 where
  pub spelled : line_text l ≡ piece
  pub stands : may_stand first l ≡ true

abbrev pub NoneStands : Bool → List ℕ → Type 0
NoneStands first piece = (l : Line) → may_stand first l ≡ true → line_text l ≢ piece

-- two path variables below 2^16
pub record IsPair (bytes : List ℕ) (y z : ℕ) : Type 0 where
  pub spelled : decimal y ++ (codes " " ++ decimal z) ≡ bytes
  pub first_below : y < 65536
  pub second_below : z < 65536

abbrev pub NoPair : List ℕ → Type 0
NoPair bytes = (y z : ℕ) → IsPair bytes y z → ⊥

-- whether it is a head, with whatever number
unfoldable pub is_any_head : Line → Bool
is_any_head (Head n) = true
is_any_head (Leaf b i) = false
is_any_head (Id b) = false
is_any_head Join = false
is_any_head (Rewrite s) = false
is_any_head Overlap = false
is_any_head End = false

-- Whether two terminals are one.
use Rattle.std.proofs.Common.{◌≡◌, ◌≢◌, ℕ, Bool, true, false, nat_eq, ◌⊎◌, inl, inr, List, [], ◌∷◌, get_or, sym, ◌∙◌, ap, refl}
use Rattle.std.proofs.lemmas.Bool.{eqb-true, eq-eqb}
use Rattle.qasm_parse.specs.declared.sort.Sort.{Sort}
use Rattle.qasm_parse.specs.declared.sort.Sort.TheVariants.{End, OpenQasm, Include, Qreg, Creg, Gate, Opaque, Barrier, Outside, Universal, Cx, Pi, Function, Id, Other, Whole, Decimal, Library, Text, Semicolon, Comma, Open, Close, OpenBracket, CloseBracket, OpenBrace, CloseBrace, Plus, Minus, Times, Over, Power}

all_sorts : List Sort
all_sorts = End ∷ OpenQasm ∷ Include ∷ Qreg ∷ Creg ∷ Gate ∷ Opaque ∷ Barrier ∷ Outside ∷ Universal ∷ Cx ∷ Pi ∷ Function ∷ Id ∷ Other ∷ Whole ∷ Decimal ∷ Library ∷ Text ∷ Semicolon ∷ Comma ∷ Open ∷ Close ∷ OpenBracket ∷ CloseBracket ∷ OpenBrace ∷ CloseBrace ∷ Plus ∷ Minus ∷ Times ∷ Over ∷ Power ∷ []

-- the place of a terminal among all
unfoldable pub number_of : Sort → ℕ
number_of End = 0
number_of OpenQasm = 1
number_of Include = 2
number_of Qreg = 3
number_of Creg = 4
number_of Gate = 5
number_of Opaque = 6
number_of Barrier = 7
number_of Outside = 8
number_of Universal = 9
number_of Cx = 10
number_of Pi = 11
number_of Function = 12
number_of Id = 13
number_of Other = 14
number_of Whole = 15
number_of Decimal = 16
number_of Library = 17
number_of Text = 18
number_of Semicolon = 19
number_of Comma = 20
number_of Open = 21
number_of Close = 22
number_of OpenBracket = 23
number_of CloseBracket = 24
number_of OpenBrace = 25
number_of CloseBrace = 26
number_of Plus = 27
number_of Minus = 28
number_of Times = 29
number_of Over = 30
number_of Power = 31

numbered : (s : Sort) → get_or all_sorts (number_of s) End ≡ s
unfolding all_sorts number_of
numbered End = refl
numbered OpenQasm = refl
numbered Include = refl
numbered Qreg = refl
numbered Creg = refl
numbered Gate = refl
numbered Opaque = refl
numbered Barrier = refl
numbered Outside = refl
numbered Universal = refl
numbered Cx = refl
numbered Pi = refl
numbered Function = refl
numbered Id = refl
numbered Other = refl
numbered Whole = refl
numbered Decimal = refl
numbered Library = refl
numbered Text = refl
numbered Semicolon = refl
numbered Comma = refl
numbered Open = refl
numbered Close = refl
numbered OpenBracket = refl
numbered CloseBracket = refl
numbered OpenBrace = refl
numbered CloseBrace = refl
numbered Plus = refl
numbered Minus = refl
numbered Times = refl
numbered Over = refl
numbered Power = refl

pub same_by : (s t : Sort) → nat_eq (number_of s) (number_of t) ≡ true → s ≡ t
same_by s t e = sym (numbered s) ∙ ap (λ n. get_or all_sorts n End) (eqb-true (number_of s) (number_of t) e) ∙ numbered t

pub other_by : (s t : Sort) → nat_eq (number_of s) (number_of t) ≡ false → s ≢ t
other_by s t e d = let h : nat_eq (number_of s) (number_of t) ≡ true = eq-eqb (number_of s) (number_of t) (ap number_of d) in absurd (cc)

unfoldable pub test_by : (s t : Sort) (b : Bool) → nat_eq (number_of s) (number_of t) ≡ b → (s ≡ t) ⊎ (s ≢ t)
test_by s t true e = inl (same_by s t e)
test_by s t false e = inr (other_by s t e)

-- they are one, or they are not
abbrev pub is_sort : (s t : Sort) → (s ≡ t) ⊎ (s ≢ t)
is_sort s t = test_by s t (nat_eq (number_of s) (number_of t)) refl

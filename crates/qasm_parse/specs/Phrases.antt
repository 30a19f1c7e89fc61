-- Phrases: what is read from a place on.
use Rattle.std.specs.Prelude.{◌≡◌, ◌≢◌, ℕ, ◌+◌, ◌<◌, ◌≤◌, List, [], ◌∷◌, ◌++◌, length, get_or, Some, None, Result, Ok, Err}
use Rattle.qasm_lex.specs.declared.types.Token.{Token}
use Rattle.qasm_lex.specs.declared.types.Kind.TheVariants.{Sign}
use Rattle.qasm_parse.specs.declared.sort.Sort.{Sort}
use Rattle.qasm_parse.specs.declared.sort.Sort.TheVariants.{Id, Whole, Open, Close, OpenBracket, CloseBracket, Comma}
use Rattle.qasm_parse.specs.declared.program.Span.{Span}
use Rattle.qasm_parse.specs.declared.program.Arg.{Arg}
use Rattle.qasm_parse.specs.declared.fault.ParseFault.{ParseFault}
use Rattle.qasm_parse.specs.declared.fault.ParseFault.TheVariants.{Syntax, Memory}
use Rattle.qasm_parse.specs.declared.phrases.Form.{Form}
use Rattle.qasm_parse.specs.declared.phrases.Form.TheVariants.{Bare, Indexed}
use Rattle.qasm_parse.specs.Grammar.{at}

-- a thing and the place behind it, or the first fault; both by the places of tokens
pub data Got (A : Type 0) : Type 0 where
  got : A → ℕ → Got A
  miss : ParseFault → Got A

-- this thing, and nothing more is read
abbrev pub Gives : {A : Type 0} → A → ℕ → Got A → Type 0
Gives a i r = r ≡ got a i

-- this terminal, and then the rest
pub data After {B : Type 0} (ts : List Sort) (s : Sort) (rest : ℕ → Got B → Type 0) (i : ℕ) : Got B → Type 0 where
  after : {r : Got B} → at ts i ≡ s → rest (i + 1) r → After ts s rest i r
  elsewhere : at ts i ≢ s → After ts s rest i (miss (Syntax i))

-- this thing, and then the rest with it
pub data Then {A B : Type 0} (thing : ℕ → Got A → Type 0) (rest : A → ℕ → Got B → Type 0) (i : ℕ) : Got B → Type 0 where
  then : {a : A} {j : ℕ} {r : Got B} → thing i (got a j) → rest a j r → Then thing rest i r
  missed : {f : ParseFault} → thing i (miss f) → Then thing rest i (miss f)

-- things before what is got behind them
abbrev pub put : {A : Type 0} → List A → Got (List A) → Got (List A)
put xs (got ys j) = got (xs ++ ys) j
put xs (miss f) = miss f

-- one or more things, separated by commas
pub data Listed {A : Type 0} (ts : List Sort) (thing : ℕ → Got A → Type 0) : ℕ → Got (List A) → Type 0 where
  final : {i j : ℕ} {a : A} → thing i (got a j) → at ts j ≢ Comma → Listed ts thing i (got (a ∷ []) j)
  next : {i j : ℕ} {a : A} {r : Got (List A)} → thing i (got a j) → at ts j ≡ Comma → Listed ts thing (j + 1) r → Listed ts thing i (put (a ∷ []) r)
  missing : {i : ℕ} {f : ParseFault} → thing i (miss f) → Listed ts thing i (miss f)

-- [ "(" [ things ] ")" ]
pub data Enclosed {A : Type 0} (ts : List Sort) (thing : ℕ → Got A → Type 0) (i : ℕ) : Got (List A) → Type 0 where
  absent : at ts i ≢ Open → Enclosed ts thing i (got [] i)
  empty : at ts i ≡ Open → at ts (i + 1) ≡ Close → Enclosed ts thing i (got [] (i + 2))
  full : {r : Got (List A)} → at ts i ≡ Open → at ts (i + 1) ≢ Close → Then (Listed ts thing) (λ xs. After ts Close (Gives xs)) (i + 1) r → Enclosed ts thing i r

-- the place of a token
abbrev pub span_of : List Token → ℕ → Span
span_of tk i = let t = get_or tk i (record { kind = Sign; from = 0; to = 0 }) in record { from = t.from; to = t.to }

-- the place of a terminal that has to stand there
pub data IsSpan (tk : List Token) (ts : List Sort) (s : Sort) (i : ℕ) : Got Span → Type 0 where
  there : at ts i ≡ s → IsSpan tk ts s i (got (span_of tk i) (i + 1))
  other : at ts i ≢ s → IsSpan tk ts s i (miss (Syntax i))

-- arg = id | id [ whole ]; a bare one is an id
pub data IsArg (tk : List Token) (ts : List Sort) : Form → ℕ → Got Arg → Type 0 where
  bare : {i : ℕ} {r : Got Arg} → Then (IsSpan tk ts Id) (λ name. Gives (record { name = name; index = None })) i r → IsArg tk ts Bare i r
  plain : {i j : ℕ} {name : Span} → IsSpan tk ts Id i (got name j) → at ts j ≢ OpenBracket → IsArg tk ts Indexed i (got (record { name = name; index = None }) j)
  indexed : {i j : ℕ} {name : Span} {r : Got Arg} → IsSpan tk ts Id i (got name j) → at ts j ≡ OpenBracket → Then (IsSpan tk ts Whole) (λ index. After ts CloseBracket (Gives (record { name = name; index = Some index }))) (j + 1) r → IsArg tk ts Indexed i r
  no_name : {i : ℕ} {f : ParseFault} → IsSpan tk ts Id i (miss f) → IsArg tk ts Indexed i (miss f)

-- what was answered, want of memory aside
abbrev pub Told : {A : Type 0} → Result (A × ℕ) ParseFault → (Got A → Type 0) → Type 0
Told (Ok x) P = P (got x.0 x.1)
Told (Err Memory) P = Unit {0}
Told (Err f) P = P (miss f)

-- the same of a vector, which is seen as its items
abbrev pub Listing : {A B : Type 0} → (A → B) → Result (A × ℕ) ParseFault → (Got B → Type 0) → Type 0
Listing view (Ok x) P = P (got (view x.0) x.1)
Listing view (Err Memory) P = Unit {0}
Listing view (Err f) P = P (miss f)

-- it goes on, and not past the end
abbrev pub Onward : {A : Type 0} → List Sort → ℕ → Result (A × ℕ) ParseFault → Type 0
Onward ts i (Ok x) = (i < x.1) × (x.1 ≤ length ts)
Onward ts i (Err f) = Unit {0}

-- it does not go back, and not past the end
abbrev pub Not_back : {A : Type 0} → List Sort → ℕ → Result (A × ℕ) ParseFault → Type 0
Not_back ts i (Ok x) = (i ≤ x.1) × (x.1 ≤ length ts)
Not_back ts i (Err f) = Unit {0}

-- whether a terminal stands at a place
abbrev pub Stands : List Sort → Sort → ℕ → Result ℕ ParseFault → Type 0
Stands ts s i (Ok j) = (at ts i ≡ s) × (j ≡ i + 1) × (j ≤ length ts)
Stands ts s i (Err (Syntax n)) = (at ts i ≢ s) × (n ≡ i)
Stands ts s i (Err f) = ⊥

-- In a block no statement but an application or a barrier can stand.
use Rattle.std.proofs.Common.{◌≡◌, ℕ, ◌+◌, List, [], ◌∷◌, Ok, refl, sym, subst}
use Rattle.std.specs.Prelude.{All}
use Rattle.std.proofs.lemmas.List.Elements.{All-nil, All-cons}
use Rattle.qasm_lex.specs.declared.types.Token.{Token}
use Rattle.qasm_parse.specs.declared.sort.Sort.{Sort}
use Rattle.qasm_parse.specs.declared.sort.Sort.TheVariants.{Semicolon}
use Rattle.qasm_parse.specs.declared.program.Arg.{Arg}
use Rattle.qasm_parse.specs.declared.program.Call.{Call}
use Rattle.qasm_parse.specs.declared.program.Statement.{Statement}
use Rattle.qasm_parse.specs.declared.program.Statement.TheVariants.{Include, Qreg, Creg, Gate, Apply, Barrier}
use Rattle.qasm_parse.specs.declared.whence.Whence.{Whence}
use Rattle.qasm_parse.specs.declared.whence.Whence.TheVariants.{Block}
use Rattle.qasm_parse.specs.Sorts.{sorts_of}
use Rattle.qasm_parse.specs.Phrases.{Got, got, miss, put, Gives, After, after, elsewhere, Then, then, missed}
use Rattle.qasm_parse.specs.Statements.{IsStatement, apply, barrier, declares, outside, opaquely, no_statement, IsProgram, over, statement, faulty, answer, OfBlock}
use Rattle.qasm_expand.specs.Blocks.{IsPlain}

-- what was got is an application or a barrier, and so are all of them
abbrev One : Got Statement → Type 0
One (got s j) = IsPlain s
One (miss f) = Unit {0}

abbrev Each : Got (List Statement) → Type 0
Each (got ss j) = All IsPlain ss
Each (miss f) = Unit {0}

gives_one : (s : Statement) (i : ℕ) (g : Got Statement) → IsPlain s → Gives s i g → One g
gives_one s i g p e = subst One (sym e) p

module _ (bytes : List ℕ) (tk : List Token) (ts : List Sort) where
  call_one : (thing : ℕ → Got Call → Type 0) (i : ℕ) (g : Got Statement) → Then thing (λ c. Gives (Apply c)) i g → One g
  call_one thing i g (then {a = a} {j = j} x y) = gives_one (Apply a) j g tt y
  call_one thing i g (missed x) = tt

  last_one : (args : List Arg) (i : ℕ) (g : Got Statement) → After ts Semicolon (Gives (Barrier args)) i g → One g
  last_one args i g (after e k) = gives_one (Barrier args) (i + 1) g tt k
  last_one args i g (elsewhere n) = tt

  args_one : (thing : ℕ → Got (List Arg) → Type 0) (i : ℕ) (g : Got Statement) → Then thing (λ args. After ts Semicolon (Gives (Barrier args))) i g → One g
  args_one thing i g (then {a = a} {j = j} x y) = last_one a j g y
  args_one thing i g (missed x) = tt

  statement_one : (w : Whence) (i : ℕ) (g : Got Statement) → w ≡ Block → IsStatement bytes tk ts w i g → One g
  statement_one w i g b (apply h) = call_one _ i g h
  statement_one w i g b (barrier e h) = args_one _ (i + 1) g h
  statement_one w i g b (declares t h) = absurd (cc)
  statement_one w i g b (outside e) = tt
  statement_one w i g b (opaquely e) = tt
  statement_one w i g b (no_statement e) = tt

  put_each : (s : Statement) (g : Got (List Statement)) → IsPlain s → Each g → Each (put (s ∷ []) g)
  put_each s (got ss j) p q = All-cons IsPlain s ss p q
  put_each s (miss f) p q = tt

  program_each : (w : Whence) (i : ℕ) (g : Got (List Statement)) → w ≡ Block → IsProgram bytes tk ts w i g → Each g
  program_each w i g b (over e) = All-nil IsPlain
  program_each w i g b (statement {j = j} {s = s} {r = r} n h k) = put_each s r (statement_one w i (got s j) b h) (program_each w j r b k)
  program_each w i g b (faulty n h) = tt

as_answer : (bytes : List ℕ) (tk : List Token) (g : Got (List Statement)) (ss : List Statement) → Ok ss ≡ answer bytes tk g → Each g → All IsPlain ss
as_answer bytes tk (got xs j) ss e h = let f : ss ≡ xs = cc in subst (All IsPlain) (sym f) h
as_answer bytes tk (miss f) ss e h = absurd (cc)

-- all statements of a block are
pub block_plain : (bytes : List ℕ) (tk : List Token) (ss : List Statement) → OfBlock bytes tk (Ok ss) → All IsPlain ss
block_plain bytes tk ss (g, h, e) = as_answer bytes tk g ss e (program_each bytes tk (sorts_of bytes tk) Block 0 g refl h)

-- there is no other
pub no_other : (s : Statement) → IsPlain s → ((c : Call) → s ≡ Apply c → ⊥) → ((args : List Arg) → s ≡ Barrier args → ⊥) → ⊥
no_other (Apply c) p a b = a c refl
no_other (Barrier args) p a b = b args refl
no_other (Include x) p a b = p
no_other (Qreg x y) p a b = p
no_other (Creg x y) p a b = p
no_other (Gate x y z w) p a b = p

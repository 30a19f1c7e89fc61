-- The library, and what including it does.
use Rattle.std.specs.Prelude.{◌≡◌, ℕ, Bool, true, false, ◌&&◌, not, nat_le, nat_lt, Option, Some, None, List, [], ◌∷◌, ◌++◌, length, codes, Result, Ok, Err}
use Rattle.ps_prim.specs.declared.prims.Primitive.{Primitive as Prim}
use Rattle.qasm_lex.specs.declared.types.Token.{Token}
use Rattle.qasm_lex.specs.declared.types.LexFault.{LexFault}
use Rattle.qasm_lex.specs.Tokens.{Reads}
use Rattle.qasm_parse.specs.declared.fault.ParseFault.{ParseFault}
use Rattle.qasm_parse.specs.declared.program.Span.{Span}
use Rattle.qasm_parse.specs.declared.program.Inner.{Inner as Stated}
use Rattle.qasm_parse.specs.declared.program.Statement.{Statement}
use Rattle.qasm_parse.specs.declared.program.Statement.TheVariants.{Include, Qreg, Creg, Gate, Apply, Barrier}
use Rattle.qasm_parse.specs.Statements.{OfText, OfBlock}
use Rattle.qasm_expand.specs.declared.defs.Def.{Def}
use Rattle.qasm_expand.specs.declared.state.Shelf.{Shelf}
use Rattle.qasm_expand.specs.declared.state.State.{State}
use Rattle.qasm_expand.specs.declared.fault.FaultName.TheVariants.{Redeclared}
use Rattle.qasm_expand.specs.declared.fault.ReadFault.{ReadFault}
use Rattle.qasm_expand.specs.Tables.{Bound, meaning, rebound}
use Rattle.qasm_expand.specs.Checks.{spelled, and_then, refuse, of_tokens, of_grammar}
use Rattle.qasm_expand.specs.Gates.{def_of}

-- the text of the library
unfoldable pub library_text : List ℕ
library_text =
    codes "OPENQASM 2.0;\n"
    ++ codes "gate u3(theta,phi,lambda) q { U(theta,phi,lambda) q; }\n"
    ++ codes "gate u2(phi,lambda) q { U(pi/2,phi,lambda) q; }\n"
    ++ codes "gate u1(lambda) q { U(0,0,lambda) q; }\n"
    ++ codes "gate u(theta,phi,lambda) q { U(theta,phi,lambda) q; }\n"
    ++ codes "gate p(lambda) q { U(0,0,lambda) q; }\n"
    ++ codes "gate cx c,t { CX c,t; }\n"
    ++ codes "gate id a { U(0,0,0) a; }\n"
    ++ codes "gate x a { u3(pi,0,pi) a; }\n"
    ++ codes "gate y a { u3(pi,pi/2,pi/2) a; }\n"
    ++ codes "gate z a { u1(pi) a; }\n"
    ++ codes "gate h a { u2(0,pi) a; }\n"
    ++ codes "gate s a { u1(pi/2) a; }\n"
    ++ codes "gate sdg a { u1(-pi/2) a; }\n"
    ++ codes "gate t a { u1(pi/4) a; }\n"
    ++ codes "gate tdg a { u1(-pi/4) a; }\n"
    ++ codes "gate rx(theta) a { u3(theta,-pi/2,pi/2) a; }\n"
    ++ codes "gate ry(theta) a { u3(theta,0,0) a; }\n"
    ++ codes "gate rz(phi) a { u1(phi) a; }\n"
    ++ codes "gate cz a,b { h b; cx a,b; h b; }\n"
    ++ codes "gate cy a,b { sdg b; cx a,b; s b; }\n"
    ++ codes "gate ch a,b { s b; h b; t b; cx a,b; tdg b; h b; sdg b; }\n"
    ++ codes "gate swap a,b { cx a,b; cx b,a; cx a,b; }\n"
    ++ codes "gate ccx a,b,c { h c; cx b,c; tdg c; cx a,c; t c; cx b,c; tdg c;\n"
    ++ codes "  cx a,c; t b; t c; h c; cx a,b; t a; tdg b; cx a,b; }\n"
    ++ codes "gate cswap a,b,c { cx c,b; ccx a,b,c; cx c,b; }\n"
    ++ codes "gate crz(lambda) a,b { u1(lambda/2) b; cx a,b; u1(-lambda/2) b; cx a,b; }\n"
    ++ codes "gate cu1(lambda) a,b { u1(lambda/2) a; cx a,b; u1(-lambda/2) b; cx a,b;\n"
    ++ codes "  u1(lambda/2) b; }\n"
    ++ codes "gate cp(lambda) a,b { u1(lambda/2) a; cx a,b; u1(-lambda/2) b; cx a,b;\n"
    ++ codes "  u1(lambda/2) b; }\n"
    ++ codes "gate cu3(theta,phi,lambda) c,t { u1((lambda+phi)/2) c;\n"
    ++ codes "  u1((lambda-phi)/2) t; cx c,t; u3(-theta/2,0,-(phi+lambda)/2) t;\n"
    ++ codes "  cx c,t; u3(theta/2,phi,0) t; }\n"
    ++ codes "gate rzz(theta) a,b { cx a,b; u1(theta) b; cx a,b; }\n"
    ++ codes "gate sx a { sdg a; h a; sdg a; }\n"

-- what the grammar makes of tokens
abbrev pub parsed : Result (List Statement) ParseFault → Result (List Statement) ReadFault
parsed (Ok ss) = Ok ss
parsed (Err f) = Err (of_grammar f)

-- the statements of a whole text, or its first fault: all faults of tokens come before those of the grammar
pub data TextIs (bytes : List ℕ) : Result (List Statement) ReadFault → Type 0 where
  bad_tokens : {f : LexFault} → Reads bytes 0 (Err f) → TextIs bytes (Err (of_tokens f))
  by_grammar : {tk : List Token} {r : Result (List Statement) ParseFault} → Reads bytes 0 (Ok tk) → OfText bytes tk r → TextIs bytes (parsed r)

-- and of a block
pub data BlockIs (bytes : List ℕ) : Result (List Statement) ReadFault → Type 0 where
  bad_block_tokens : {f : LexFault} → Reads bytes 0 (Err f) → BlockIs bytes (Err (of_tokens f))
  by_block_grammar : {tk : List Token} {r : Result (List Statement) ParseFault} → Reads bytes 0 (Ok tk) → OfBlock bytes tk r → BlockIs bytes (parsed r)

-- ---- gates, one after the other
pub record Gates : Type 0 where
  pub defs : List Def
  pub bound : List Bound

-- the gate of a definition, behind the others, and its name means it
abbrev pub with_gate : List ℕ → Gates → Span → Def → Gates
with_gate bytes g name d = record { defs = g.defs ++ d ∷ []; bound = rebound g.bound (spelled bytes name) (length g.defs) }

abbrev pub defined : List ℕ → Gates → Span → List Span → List Span → List Stated → Result Gates ReadFault
defined bytes g name params args body = and_then (def_of bytes g.defs g.bound params args body) (λ d. Ok (with_gate bytes g name d))

-- all definitions among statements, in order
unfoldable pub all_defined : List ℕ → Gates → List Statement → Result Gates ReadFault
all_defined bytes g [] = Ok g
all_defined bytes g (Include p ∷ ss) = all_defined bytes g ss
all_defined bytes g (Qreg name size ∷ ss) = all_defined bytes g ss
all_defined bytes g (Creg name size ∷ ss) = all_defined bytes g ss
all_defined bytes g (Gate name params args body ∷ ss) = and_then (defined bytes g name params args body) (λ g'. all_defined bytes g' ss)
all_defined bytes g (Apply c ∷ ss) = all_defined bytes g ss
all_defined bytes g (Barrier args ∷ ss) = all_defined bytes g ss

-- ---- what including the library does
-- the gate is not one of the library's
abbrev pub is_outside : Option Shelf → ℕ → Bool
is_outside None d = true
is_outside (Some s) d = not (nat_le s.from d && nat_lt d s.to)

-- the text itself defined the name
abbrev pub means_own : Option Shelf → Option ℕ → Bool
means_own shelf None = false
means_own shelf (Some d) = is_outside shelf d

abbrev pub is_own : State → List ℕ → Bool
is_own st name = means_own st.library (meaning st.bound name)

-- the name means the gate, unless it means one already
abbrev pub kept_or : Option ℕ → List Bound → Bound → List Bound
kept_or (Some d) bound b = bound
kept_or None bound b = bound ++ b ∷ []

unfoldable pub with_all : List Bound → List Bound → List Bound
with_all bound [] = bound
with_all bound (b ∷ bs) = with_all (kept_or (meaning bound b.name) bound b) bs

abbrev pub with_library : State → Gates → State
with_library st g = record { registers = st.registers; defs = g.defs; bound = with_all st.bound g.bound; library = Some (record { from = length st.defs; to = length g.defs }); items = st.items }

-- a text is read, and behind any gates all its definitions come to gates: it has no fault
abbrev pub IsFaultless : List ℕ → Type 0
IsFaultless text = (ss : List Statement) × TextIs text (Ok ss) × ((front : List Def) → (g : Gates) × (all_defined text (record { defs = front; bound = [] }) ss ≡ Ok g))

-- What including the library makes of what is known; it has no fault. At the first include the library's gates stand behind those
-- that are there, their bodies mean each other, and each of their names means its gate, but where the text has defined the name
-- itself. A second time nothing changes.
pub data Includes (st : State) : State → Type 0 where
  first : {ss : List Statement} {g : Gates} → st.library ≡ None → TextIs library_text (Ok ss) → all_defined library_text (record { defs = st.defs; bound = [] }) ss ≡ Ok g → Includes st (with_library st g)
  again : {s : Shelf} → st.library ≡ Some s → Includes st st

-- a definition in the text
abbrev pub with_gates : State → Gates → State
with_gates st g = record { registers = st.registers; defs = g.defs; bound = g.bound; library = st.library; items = st.items }

abbrev pub defining : List ℕ → State → Span → List Span → List Span → List Stated → Result State ReadFault
defining bytes st name params args body =
    refuse (is_own st (spelled bytes name)) Redeclared name (
    and_then (defined bytes (record { defs = st.defs; bound = st.bound }) name params args body) (λ g. Ok (with_gates st g)))

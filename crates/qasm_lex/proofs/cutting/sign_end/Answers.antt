use Rattle.std.proofs.Common.{◌≡◌, ◌+◌, arith, true, false, ◌∙◌}
use Rattle.qasm_lex.specs.Tokens.{byte, is_sign_byte}
use Rattle.qasm_lex.proofs.Longest.{longest_arrow, longest_equals, longest_sign, no_token}
use Rattle.qasm_lex.proofs.cutting.sign_end.Goals as goal
use Rattle.qasm_lex.proofs.cutting.sign_end.Goals.{else-first-eq45-via-then-first-eq45+else-next-eq62, else-first-eq45-via-else-first-eq45, else-first-eq61-via-then-first-eq61+else-next-eq61, else-first-eq61-via-else-first-eq61}

pub returns-then-next-eq62 : goal.returns-then-next-eq62
returns-then-next-eq62 c =
    let e : byte c.args.bytes.now c.args.at ≡ 45 = cc in
    let f : byte c.args.bytes.now (c.args.at + 1) ≡ 62 = cc in
    let h = c.byte_at-next.ensures.inside in
    (longest_arrow c.args.bytes.now c.args.at e f, omega arith, omega arith)

pub returns-then-next-eq61 : goal.returns-then-next-eq61
returns-then-next-eq61 c =
    let e : byte c.args.bytes.now c.args.at ≡ 61 = cc in
    let f : byte c.args.bytes.now (c.args.at + 1) ≡ 61 = cc in
    let h = c.byte_at-next.ensures.inside in
    (longest_equals c.args.bytes.now c.args.at e f, omega arith, omega arith)

pub returns-then-is_sign : goal.returns-then-is_sign
returns-then-is_sign c =
    let s : is_sign_byte (byte c.args.bytes.now c.args.at) ≡ true = cc in
    let x : byte c.args.bytes.now c.args.at ≡ 45 → byte c.args.bytes.now (c.args.at + 1) ≡ 62 → ⊥ = λ e f. elim c.else-first-eq45.branch [ else-first-eq45-via-then-first-eq45+else-next-eq62 w ↦ w.if-next-eq62.false (c.byte_at-next.ensures.value ∙ f) | else-first-eq45-via-else-first-eq45 w ↦ w.if-first-eq45.false e ] in
    let y : byte c.args.bytes.now c.args.at ≡ 61 → byte c.args.bytes.now (c.args.at + 1) ≡ 61 → ⊥ = λ e f. elim c.else-first-eq61.branch [ else-first-eq61-via-then-first-eq61+else-next-eq61 w ↦ w.if-next-eq61.false (c.byte_at-next.ensures.value ∙ f) | else-first-eq61-via-else-first-eq61 w ↦ w.if-first-eq61.false e ] in
    (longest_sign c.args.bytes.now c.args.at s x y, omega arith, omega arith)

pub returns-else-is_sign : goal.returns-else-is_sign
returns-else-is_sign c =
    let s : is_sign_byte (byte c.args.bytes.now c.args.at) ≡ false = cc in
    let x : byte c.args.bytes.now c.args.at ≡ 45 → byte c.args.bytes.now (c.args.at + 1) ≡ 62 → ⊥ = λ e f. elim c.else-first-eq45.branch [ else-first-eq45-via-then-first-eq45+else-next-eq62 w ↦ w.if-next-eq62.false (c.byte_at-next.ensures.value ∙ f) | else-first-eq45-via-else-first-eq45 w ↦ w.if-first-eq45.false e ] in
    let y : byte c.args.bytes.now c.args.at ≡ 61 → byte c.args.bytes.now (c.args.at + 1) ≡ 61 → ⊥ = λ e f. elim c.else-first-eq61.branch [ else-first-eq61-via-then-first-eq61+else-next-eq61 w ↦ w.if-next-eq61.false (c.byte_at-next.ensures.value ∙ f) | else-first-eq61-via-else-first-eq61 w ↦ w.if-first-eq61.false e ] in
    no_token c.args.bytes.now c.args.at c.requires.letter c.requires.digit (λ e h. let d = c.requires.point e in cc) c.requires.quote s x y

-- What begins no statement.
use Rattle.std.proofs.Common.{◌≡◌, ◌⊎◌, inl, inr, refl, false, ap, ◌∙◌}
use Rattle.qasm_parse.specs.declared.sort.Sort.{Sort}
use Rattle.qasm_parse.specs.declared.sort.Sort.TheVariants.{End, OpenQasm, Include, Qreg, Creg, Gate, Opaque, Barrier, Outside, Universal, Cx, Pi, Function, Id, Other, Whole, Decimal, Library, Text, Semicolon, Comma, Open, Close, OpenBracket, CloseBracket, OpenBrace, CloseBrace, Plus, Minus, Times, Over, Power}
use Rattle.qasm_parse.specs.declared.whence.Whence.{Whence}
use Rattle.qasm_parse.specs.declared.whence.Whence.TheVariants.{Text as TextWhence, Block}
use Rattle.qasm_parse.specs.Statements.{begins_inner, begins}

pub not_inner : (s : Sort) → (s ≡ Universal → ⊥) → (s ≡ Cx → ⊥) → (s ≡ Id → ⊥) → (s ≡ Barrier → ⊥) → (s ≡ Outside → ⊥) → (s ≡ Opaque → ⊥) → begins_inner s ≡ false
not_inner End _ _ _ _ _ _ = refl
not_inner OpenQasm _ _ _ _ _ _ = refl
not_inner Include _ _ _ _ _ _ = refl
not_inner Qreg _ _ _ _ _ _ = refl
not_inner Creg _ _ _ _ _ _ = refl
not_inner Gate _ _ _ _ _ _ = refl
not_inner Opaque _ _ _ _ _ h = absurd (h refl)
not_inner Barrier _ _ _ h _ _ = absurd (h refl)
not_inner Outside _ _ _ _ h _ = absurd (h refl)
not_inner Universal h _ _ _ _ _ = absurd (h refl)
not_inner Cx _ h _ _ _ _ = absurd (h refl)
not_inner Pi _ _ _ _ _ _ = refl
not_inner Function _ _ _ _ _ _ = refl
not_inner Id _ _ h _ _ _ = absurd (h refl)
not_inner Other _ _ _ _ _ _ = refl
not_inner Whole _ _ _ _ _ _ = refl
not_inner Decimal _ _ _ _ _ _ = refl
not_inner Library _ _ _ _ _ _ = refl
not_inner Text _ _ _ _ _ _ = refl
not_inner Semicolon _ _ _ _ _ _ = refl
not_inner Comma _ _ _ _ _ _ = refl
not_inner Open _ _ _ _ _ _ = refl
not_inner Close _ _ _ _ _ _ = refl
not_inner OpenBracket _ _ _ _ _ _ = refl
not_inner CloseBracket _ _ _ _ _ _ = refl
not_inner OpenBrace _ _ _ _ _ _ = refl
not_inner CloseBrace _ _ _ _ _ _ = refl
not_inner Plus _ _ _ _ _ _ = refl
not_inner Minus _ _ _ _ _ _ = refl
not_inner Times _ _ _ _ _ _ = refl
not_inner Over _ _ _ _ _ _ = refl
not_inner Power _ _ _ _ _ _ = refl

pub not_statement : (w : Whence) (s : Sort) → (s ≡ Universal → ⊥) → (s ≡ Cx → ⊥) → (s ≡ Id → ⊥) → (s ≡ Barrier → ⊥) → (s ≡ Outside → ⊥) → (s ≡ Opaque → ⊥) → (s ≡ Include → ⊥) → (s ≡ Qreg → ⊥) → (s ≡ Creg → ⊥) → (s ≡ Gate → ⊥) → begins w s ≡ false
not_statement TextWhence End _ _ _ _ _ _ _ _ _ _ = refl
not_statement TextWhence OpenQasm _ _ _ _ _ _ _ _ _ _ = refl
not_statement TextWhence Include _ _ _ _ _ _ h _ _ _ = absurd (h refl)
not_statement TextWhence Qreg _ _ _ _ _ _ _ h _ _ = absurd (h refl)
not_statement TextWhence Creg _ _ _ _ _ _ _ _ h _ = absurd (h refl)
not_statement TextWhence Gate _ _ _ _ _ _ _ _ _ h = absurd (h refl)
not_statement TextWhence Opaque _ _ _ _ _ h _ _ _ _ = absurd (h refl)
not_statement TextWhence Barrier _ _ _ h _ _ _ _ _ _ = absurd (h refl)
not_statement TextWhence Outside _ _ _ _ h _ _ _ _ _ = absurd (h refl)
not_statement TextWhence Universal h _ _ _ _ _ _ _ _ _ = absurd (h refl)
not_statement TextWhence Cx _ h _ _ _ _ _ _ _ _ = absurd (h refl)
not_statement TextWhence Pi _ _ _ _ _ _ _ _ _ _ = refl
not_statement TextWhence Function _ _ _ _ _ _ _ _ _ _ = refl
not_statement TextWhence Id _ _ h _ _ _ _ _ _ _ = absurd (h refl)
not_statement TextWhence Other _ _ _ _ _ _ _ _ _ _ = refl
not_statement TextWhence Whole _ _ _ _ _ _ _ _ _ _ = refl
not_statement TextWhence Decimal _ _ _ _ _ _ _ _ _ _ = refl
not_statement TextWhence Library _ _ _ _ _ _ _ _ _ _ = refl
not_statement TextWhence Text _ _ _ _ _ _ _ _ _ _ = refl
not_statement TextWhence Semicolon _ _ _ _ _ _ _ _ _ _ = refl
not_statement TextWhence Comma _ _ _ _ _ _ _ _ _ _ = refl
not_statement TextWhence Open _ _ _ _ _ _ _ _ _ _ = refl
not_statement TextWhence Close _ _ _ _ _ _ _ _ _ _ = refl
not_statement TextWhence OpenBracket _ _ _ _ _ _ _ _ _ _ = refl
not_statement TextWhence CloseBracket _ _ _ _ _ _ _ _ _ _ = refl
not_statement TextWhence OpenBrace _ _ _ _ _ _ _ _ _ _ = refl
not_statement TextWhence CloseBrace _ _ _ _ _ _ _ _ _ _ = refl
not_statement TextWhence Plus _ _ _ _ _ _ _ _ _ _ = refl
not_statement TextWhence Minus _ _ _ _ _ _ _ _ _ _ = refl
not_statement TextWhence Times _ _ _ _ _ _ _ _ _ _ = refl
not_statement TextWhence Over _ _ _ _ _ _ _ _ _ _ = refl
not_statement TextWhence Power _ _ _ _ _ _ _ _ _ _ = refl
not_statement Block End _ _ _ _ _ _ _ _ _ _ = refl
not_statement Block OpenQasm _ _ _ _ _ _ _ _ _ _ = refl
not_statement Block Include _ _ _ _ _ _ h _ _ _ = absurd (h refl)
not_statement Block Qreg _ _ _ _ _ _ _ h _ _ = absurd (h refl)
not_statement Block Creg _ _ _ _ _ _ _ _ h _ = absurd (h refl)
not_statement Block Gate _ _ _ _ _ _ _ _ _ h = absurd (h refl)
not_statement Block Opaque _ _ _ _ _ h _ _ _ _ = absurd (h refl)
not_statement Block Barrier _ _ _ h _ _ _ _ _ _ = absurd (h refl)
not_statement Block Outside _ _ _ _ h _ _ _ _ _ = absurd (h refl)
not_statement Block Universal h _ _ _ _ _ _ _ _ _ = absurd (h refl)
not_statement Block Cx _ h _ _ _ _ _ _ _ _ = absurd (h refl)
not_statement Block Pi _ _ _ _ _ _ _ _ _ _ = refl
not_statement Block Function _ _ _ _ _ _ _ _ _ _ = refl
not_statement Block Id _ _ h _ _ _ _ _ _ _ = absurd (h refl)
not_statement Block Other _ _ _ _ _ _ _ _ _ _ = refl
not_statement Block Whole _ _ _ _ _ _ _ _ _ _ = refl
not_statement Block Decimal _ _ _ _ _ _ _ _ _ _ = refl
not_statement Block Library _ _ _ _ _ _ _ _ _ _ = refl
not_statement Block Text _ _ _ _ _ _ _ _ _ _ = refl
not_statement Block Semicolon _ _ _ _ _ _ _ _ _ _ = refl
not_statement Block Comma _ _ _ _ _ _ _ _ _ _ = refl
not_statement Block Open _ _ _ _ _ _ _ _ _ _ = refl
not_statement Block Close _ _ _ _ _ _ _ _ _ _ = refl
not_statement Block OpenBracket _ _ _ _ _ _ _ _ _ _ = refl
not_statement Block CloseBracket _ _ _ _ _ _ _ _ _ _ = refl
not_statement Block OpenBrace _ _ _ _ _ _ _ _ _ _ = refl
not_statement Block CloseBrace _ _ _ _ _ _ _ _ _ _ = refl
not_statement Block Plus _ _ _ _ _ _ _ _ _ _ = refl
not_statement Block Minus _ _ _ _ _ _ _ _ _ _ = refl
not_statement Block Times _ _ _ _ _ _ _ _ _ _ = refl
not_statement Block Over _ _ _ _ _ _ _ _ _ _ = refl
not_statement Block Power _ _ _ _ _ _ _ _ _ _ = refl

-- in a block nothing is declared
pub block_declares : (w : Whence) (s : Sort) → w ≡ Block → (s ≡ Include) ⊎ (s ≡ Qreg) ⊎ (s ≡ Creg) ⊎ (s ≡ Gate) → begins w s ≡ false
block_declares w s e h = ap (λ x. begins x s) e ∙ elim h [ inl a ↦ ap (begins Block) a | inr (inl a) ↦ ap (begins Block) a | inr (inr (inl a)) ↦ ap (begins Block) a | inr (inr (inr a)) ↦ ap (begins Block) a ]

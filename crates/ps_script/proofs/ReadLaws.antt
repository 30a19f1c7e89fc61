-- What bytes are read as is one thing, and what is read first leads on.
use Rattle.std.proofs.Common.{◌≡◌, ◌≢◌, ℕ, ◌+◌, ◌^◌, ◌<◌, ◌≤◌, true, false, List, [], ◌∷◌, ◌++◌, map, decimal, Ok, Err, refl, sym, ap, ap₂, ◌∙◌, subst, arith, append_assoc, append-nil}
use Rattle.std.proofs.lemmas.Fmt.{decimal_injective}
use Rattle.ps_script.specs.declared.name.Place.{Place}
use Rattle.ps_script.specs.declared.order.Order.{Order}
use Rattle.ps_script.specs.declared.order.Order.TheVariants.{Open, Splice, Retire, Ask, AskPhase, Prove, Sum, Show}
use Rattle.ps_script.specs.declared.script.Line.{Line}
use Rattle.ps_script.specs.declared.fault.ScriptFault.{ScriptFault}
use Rattle.ps_script.specs.declared.fault.ScriptFault.TheVariants.{Form, Session, Block, Memory}
use Rattle.ps_script.specs.Lines.{line_of, rest_of}
use Rattle.ps_script.specs.Orders.{pair_words, IsPlace, IsOrder, verb_of, argument_words, Spells, SpellsNone, takes_block}
use Rattle.ps_script.specs.Reading.{Read, Asked, asked_of, behind, is_skipped, IsReading, at_end, at_line, IsLineReading, skipped, ordered, formless, IsOrderReading, above, plain, blocked, unended, Known, Only}
use Rattle.ps_script.specs.Items.{IsBody, with_block, without_block, LacksBody, LeadsOn, OrderLeadsOn, FaultIs}
use Rattle.ps_script.proofs.WordLemmas.{not_both}
use Rattle.ps_script.proofs.OrderLemmas.{letters}
use Rattle.ps_script.proofs.LineLemmas.{block_once, block_or_none}

-- ---- a line spells one order of one session
number_once : (m n : ℕ) → m < 2 ^ 32 → n < 2 ^ 32 → decimal m ≡ decimal n → m ≡ n
number_once m n h k e = decimal_injective m n (omega arith) (omega arith) e

place_once : (p q : Place) → IsPlace p → IsPlace q → p.name ≡ q.name → decimal p.version ≡ decimal q.version → p ≡ q
place_once p q h k e f = ap₂ (λ (n : List ℕ) (v : ℕ). record { name = n; version = v }) e (number_once p.version q.version h.below k.below f)

pair_once : {A : Type 0} (make : Place → Place → A) (p q p' q' : Place) → IsPlace p → IsPlace q → IsPlace p' → IsPlace q'
    → pair_words p q ≡ pair_words p' q' → make p q ≡ make p' q'
pair_once make p q p' q' hp hq hp' hq' e = ap₂ make (place_once p p' hp hp' (cc) (cc)) (place_once q q' hq hq' (cc) (cc))

order_once : (o o' : Order) → verb_of o ≡ verb_of o' → argument_words o ≡ argument_words o' → IsOrder o → IsOrder o' → o ≡ o'
unfolding letters
order_once (Open n) (Open m) v e h k = let same : n ≡ m = cc in ap Open same
order_once (Open n) o v e h k = absurd (let f = ap letters v in omega (arith, f))
order_once (Splice p f t) (Splice q g u) v e h k =
    let a : decimal f ≡ decimal g = cc in
    let b : decimal t ≡ decimal u = cc in
    let places : p ≡ q = place_once p q h.0 k.0 (cc) (cc) in
    ap (λ x. Splice x f t) places ∙ ap₂ (λ (x y : ℕ). Splice q x y) (number_once f g h.1 k.1 a) (number_once t u h.2 k.2 b)
order_once (Splice p f t) o v e h k = absurd (let f = ap letters v in omega (arith, f))
order_once (Retire p) (Retire q) v e h k = ap Retire (place_once p q h k (cc) (cc))
order_once (Retire p) o v e h k = absurd (let f = ap letters v in omega (arith, f))
order_once (Ask p q) (Ask p' q') v e h k = pair_once Ask p q p' q' h.0 h.1 k.0 k.1 e
order_once (Ask p q) (AskPhase p' q') v e h k = absurd (cc)
order_once (Ask p q) o v e h k = absurd (let f = ap letters v in omega (arith, f))
order_once (AskPhase p q) (AskPhase p' q') v e h k = pair_once AskPhase p q p' q' h.0 h.1 k.0 k.1 (let f : pair_words p q ≡ pair_words p' q' = cc in f)
order_once (AskPhase p q) (Ask p' q') v e h k = absurd (cc)
order_once (AskPhase p q) o v e h k = absurd (let f = ap letters v in omega (arith, f))
order_once (Prove p q) (Prove p' q') v e h k = pair_once Prove p q p' q' h.0 h.1 k.0 k.1 e
order_once (Prove p q) o v e h k = absurd (let f = ap letters v in omega (arith, f))
order_once (Sum p) (Sum q) v e h k = ap Sum (place_once p q h k (cc) (cc))
order_once (Sum p) o v e h k = absurd (let f = ap letters v in omega (arith, f))
order_once (Show p) (Show q) v e h k = ap Show (place_once p q h k (cc) (cc))
order_once (Show p) o v e h k = absurd (let f = ap letters v in omega (arith, f))

record SameOrder (s s' : ℕ) (o o' : Order) : Type 0 where
  session : s ≡ s'
  order : o ≡ o'

spelled_once : (line : List ℕ) (s s' : ℕ) (o o' : Order) → Spells line s o → Spells line s' o' → SameOrder s s' o o'
spelled_once line s s' o o' h k =
    let e : decimal s ∷ verb_of o ∷ argument_words o ≡ decimal s' ∷ verb_of o' ∷ argument_words o' = sym h.spelled ∙ k.spelled in
    let number : decimal s ≡ decimal s' = cc in
    let verbs : verb_of o ≡ verb_of o' = cc in
    let others : argument_words o ≡ argument_words o' = cc in
    record { session = number_once s s' h.below k.below number; order = order_once o o' verbs others h.formed k.formed }

-- ---- what bytes are read as is one thing
asked_once : (s : ℕ) (o : Order) (b c : List ℕ) (r r' : Read) → b ≡ c → r ≡ r'
    → behind (record { session = s; order = o; block = b } ∷ []) r ≡ behind (record { session = s; order = o; block = c } ∷ []) r'
asked_once s o b c r r' e f =
    ap (λ (x : List ℕ). behind (record { session = s; order = o; block = x } ∷ []) r) e ∙ ap (behind (record { session = s; order = o; block = c } ∷ [])) f

mutual
  same_reading : (n : ℕ) (bytes : List ℕ) (r s : Read) → IsReading n bytes r → IsReading n bytes s → r ≡ s
  same_reading n bytes r s (at_end e f) (at_end e' f') = f ∙ sym f'
  same_reading n bytes r s (at_end e f) (at_line g l) = absurd (g e)
  same_reading n bytes r s (at_line g l) (at_end e f) = absurd (g e)
  same_reading n bytes r s (at_line g l) (at_line g' l') = same_line n (line_of bytes) (rest_of bytes) r s l l'

  same_line : (n : ℕ) (line rest : List ℕ) (r s : Read) → IsLineReading n line rest r → IsLineReading n line rest s → r ≡ s
  same_line n line rest r s (skipped e h) (skipped e' h') = same_reading (n + 1) rest r s h h'
  same_line n line rest r s (skipped e h) (ordered e' k' h') = absurd (not_both (is_skipped line) e e')
  same_line n line rest r s (skipped e h) (formless e' k' f') = absurd (not_both (is_skipped line) e e')
  same_line n line rest r s (ordered e k h) (skipped e' h') = absurd (not_both (is_skipped line) e' e)
  same_line n line rest r s (ordered {session} {o} e k h) (ordered {session = session'} {o = o'} e' k' h') =
      let same = spelled_once line session' session o' o k' k in
      same_order n session o rest r s h (subst (λ x. IsOrderReading n x o rest s) same.session (subst (λ x. IsOrderReading n session' x rest s) same.order h'))
  same_line n line rest r s (ordered {session} {o} e k h) (formless e' k' f') = absurd (k' session o k)
  same_line n line rest r s (formless e k f) (skipped e' h') = absurd (not_both (is_skipped line) e' e)
  same_line n line rest r s (formless e k f) (ordered {session} {o} e' k' h') = absurd (k session o k')
  same_line n line rest r s (formless e k f) (formless e' k' f') = f ∙ sym f'

  same_order : (n session : ℕ) (o : Order) (rest : List ℕ) (r s : Read) → IsOrderReading n session o rest r → IsOrderReading n session o rest s → r ≡ s
  same_order n session o rest r s (above h f) (above h' f') = f ∙ sym f'
  same_order n session o rest r s (above h f) (plain l e k g) = absurd (omega arith)
  same_order n session o rest r s (above h f) (blocked l e b k g) = absurd (omega arith)
  same_order n session o rest r s (above h f) (unended l e b g) = absurd (omega arith)
  same_order n session o rest r s (plain l e k g) (above h f) = absurd (omega arith)
  same_order n session o rest r s (plain {s = t} l e k g) (plain {s = t'} l' e' k' g') =
      g ∙ (asked_once session o [] [] t t' refl (same_reading (n + 1) rest t t' k k') ∙ sym g')
  same_order n session o rest r s (plain l e k g) (blocked l' e' b k' g') = absurd (not_both (takes_block o) e' e)
  same_order n session o rest r s (plain l e k g) (unended l' e' b g') = absurd (not_both (takes_block o) e' e)
  same_order n session o rest r s (blocked l e b k g) (above h f) = absurd (omega arith)
  same_order n session o rest r s (blocked l e b k g) (plain l' e' k' g') = absurd (not_both (takes_block o) e e')
  same_order n session o rest r s (blocked {lines} {text} {after} {s = t} l e b k g)
      (blocked {lines = lines'} {text = text'} {after = after'} {s = t'} l' e' b' k' g') =
      let same = block_once rest text' text lines' lines after' after b' b in
      let moved = subst (λ x. IsReading (n + 1 + x) after t') same.lines (subst (λ x. IsReading (n + 1 + lines') x t') same.rest k') in
      g ∙ (asked_once session o text text' t t' (sym same.text) (same_reading (n + 1 + lines) after t t' k moved) ∙ sym g')
  same_order n session o rest r s (blocked {lines} {text} {after} l e b k g) (unended l' e' b' g') = absurd (block_or_none rest text lines after b b')
  same_order n session o rest r s (unended l e b g) (above h f) = absurd (omega arith)
  same_order n session o rest r s (unended l e b g) (plain l' e' k' g') = absurd (not_both (takes_block o) e e')
  same_order n session o rest r s (unended l e b g) (blocked {lines} {text} {after} l' e' b' k' g') = absurd (block_or_none rest text lines after b' b)
  same_order n session o rest r s (unended l e b g) (unended l' e' b' g') = g ∙ sym g'

pub only_reading : (bytes : List ℕ) (r : Read) → Known r (IsReading 1 bytes) → Only r (IsReading 1 bytes)
only_reading bytes (Ok xs) h = λ s k. same_reading 1 bytes s (Ok xs) k h
only_reading bytes (Err (Form n)) h = λ s k. same_reading 1 bytes s (Err (Form n)) k h
only_reading bytes (Err (Session n)) h = λ s k. same_reading 1 bytes s (Err (Session n)) k h
only_reading bytes (Err (Block n)) h = λ s k. same_reading 1 bytes s (Err (Block n)) k h
only_reading bytes (Err Memory) h = tt

-- ---- one item, and what stands behind it
behind_nothing : (r : Read) → behind [] r ≡ r
behind_nothing (Ok xs) = refl
behind_nothing (Err e) = refl

module _ (n : ℕ) (bytes : List ℕ) (some : bytes ≢ []) (line rest : List ℕ) (l : line ≡ line_of bytes) (t : rest ≡ rest_of bytes) where
  -- by the first line and what stands behind it
  by_line : (r : Read) → IsLineReading n line rest r → IsReading n bytes r
  by_line r h = at_line some (subst (λ x. IsLineReading n x (rest_of bytes) r) l (subst (λ x. IsLineReading n line x r) t h))

  pub skip_leads : is_skipped line ≡ true → LeadsOn n bytes [] (n + 1) rest
  skip_leads e r h = subst (IsReading n bytes) (sym (behind_nothing r)) (by_line r (skipped e h))

  pub order_leads : (session : ℕ) (o : Order) (xs : List Asked) (m : ℕ) (more : List ℕ) → is_skipped line ≡ false → Spells line session o
      → OrderLeadsOn n session o rest xs m more → LeadsOn n bytes xs m more
  order_leads session o xs m more e s h r k = by_line (behind xs r) (ordered e s (h r k))

  pub form_read : is_skipped line ≡ false → SpellsNone line → IsReading n bytes (Err (Form n))
  form_read e s = by_line (Err (Form n)) (formless e s refl)

  pub order_fault : (session : ℕ) (o : Order) (e : ScriptFault) → is_skipped line ≡ false → Spells line session o
      → FaultIs e (IsOrderReading n session o rest) → FaultIs e (IsReading n bytes)
  order_fault session o (Form k) f s h = by_line (Err (Form k)) (ordered f s h)
  order_fault session o (Session k) f s h = by_line (Err (Session k)) (ordered f s h)
  order_fault session o (Block k) f s h = by_line (Err (Block k)) (ordered f s h)
  order_fault session o Memory f s h = tt

-- a right session and a body
pub body_leads : (n session : ℕ) (o : Order) (bytes text : List ℕ) (lines : ℕ) (rest : List ℕ) (a : Asked) (m : ℕ)
    → session ≤ 15 → IsBody o bytes text lines rest
    → a ≡ record { session = session; order = o; block = text } → m ≡ n + (lines + 1) → OrderLeadsOn n session o bytes (a ∷ []) m rest
body_leads n session o bytes text lines rest a m low (with_block takes has) e k r h =
    blocked low takes has (subst (λ i. IsReading i rest r) (k ∙ omega arith) h) (ap (λ (x : Asked). behind (x ∷ []) r) e)
body_leads n session o bytes text lines rest a m low (without_block takes empty zero same) e k r h =
    let count : m ≡ n + 1 = k ∙ ap (λ i. n + (i + 1)) zero in
    let none : a ≡ record { session = session; order = o; block = [] } = e ∙ ap (λ (x : List ℕ). record { session = session; order = o; block = x }) empty in
    plain low takes (subst (λ i. IsReading i bytes r) count (subst (λ x. IsReading m x r) same h)) (ap (λ (x : Asked). behind (x ∷ []) r) none)

pub session_read : (n session : ℕ) (o : Order) (bytes : List ℕ) → 15 < session → IsOrderReading n session o bytes (Err (Session n))
session_read n session o bytes h = above h refl

pub block_read : (n session : ℕ) (o : Order) (bytes : List ℕ) → session ≤ 15 → LacksBody o bytes → IsOrderReading n session o bytes (Err (Block n))
block_read n session o bytes low lacks = unended low lacks.wanted lacks.missing refl

-- ---- the end of the items
pub leads_end : (bytes : List ℕ) (lines : List Line) (n : ℕ) (rest : List ℕ) → LeadsOn 1 bytes (map asked_of lines) n rest → rest ≡ []
    → IsReading 1 bytes (Ok (map asked_of lines))
leads_end bytes lines n rest h e =
    subst (λ xs. IsReading 1 bytes (Ok xs)) (append-nil (map asked_of lines)) (h (Ok []) (at_end e refl))

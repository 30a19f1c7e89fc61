-- The words `gen S Q N`, and how the run of a generated script ends.
use Rattle.std.proofs.Common.{◌≡◌, ℕ, refl, ap, sym, ◌∙◌, ◌+◌, ◌<◌, ◌≤◌, ◌^◌, Bool, true, false, Option, List, [], ◌∷◌, ◌++◌, length, length-append, get_or, subst, ◌⊎◌, inl, inr, append-nil, map, arith, Result, Ok}
use Rattle.std.specs.Prelude.{codes, decimal, All, not}
use Rattle.std.specs.Str.{bytes_eq}
use Rattle.std.specs.Io.KnownBytes.{append_known}
use Rattle.std.proofs.lemmas.Fmt.{length-decimal-le, decimal_injective}
use Rattle.std.proofs.lemmas.Slice.Eq.{bytes_eq-Decides}
use Rattle.ps_script.specs.declared.script.Line.{Line}
use Rattle.ps_script.specs.Names.{is_name}
use Rattle.ps_journal.specs.History.{Entry, IsLegal}
use Rattle.ps_reply.specs.Lines.{journal_text, IsOfSession}
use Rattle.ps_sessions.specs.declared.runs.Ending.{Ending}
use Rattle.ps_sessions.specs.declared.runs.Ending.TheVariants as ending
use Rattle.ps_sessions.specs.declared.runs.Run.{Run}
use Rattle.ps_sessions.proofs.Above.{of_sessions}
use Rattle.pathsum.specs.Ended.{Writes, whole, failed}
use Rattle.pathsum.specs.Runs.{Holds}
use Rattle.pathsum.specs.Outcomes.{ending_status}
use Rattle.pathsum.specs.Generated.{IsNumber, IsWithin, IsGeneration, IsGeneratedScript, empty_circuit, heading, Generates, GenerationComes, starved, done, full, GenerationEnds}
use Rattle.pathsum.specs.GeneratedRuns.{IsGeneratedRun, closing_line, generated_text, PrintsGenerated}
use Rattle.pathsum.proofs.AloneLemmas.{run_holds}
use Rattle.pathsum.proofs.RunLemmas.{other_number}

-- ---- numbers
pub clash : {b : Bool} → b ≡ false → b ≡ true → ⊥
clash e g = cc

pub same_number : (m n : ℕ) → m < 2 ^ 32 → n < 2 ^ 32 → decimal m ≡ decimal n → m ≡ n
same_number m n h k e = decimal_injective m n (omega arith) (omega arith) e

same_ok : {E : Type 0} {r : Result ℕ E} (m n : ℕ) → r ≡ Ok m → r ≡ Ok n → m ≡ n
same_ok m n p q = cc

-- what is written of the number that was read is not the word, so no number is
pub misspelled : {E : Type 0} (r : Result ℕ E) (word text : List ℕ) (m n : ℕ) (same : Bool) → r ≡ Ok m → r ≡ Ok n → text ≡ decimal m → word ≡ decimal n
    → same ≡ bytes_eq text word → same ≡ false → ⊥
misspelled r word text m n same p q t w e f =
    clash (sym e ∙ f) ((bytes_eq-Decides text word).1 (t ∙ ap decimal (same_ok m n p q) ∙ sym w))

-- ---- words
pub same_word : (a t : List ℕ) (r : Bool) → r ≡ not (bytes_eq a t) → r ≡ false → a ≡ t
same_word a t r e f = (bytes_eq-Decides a t).0 (turned (bytes_eq a t) (sym e ∙ f))
  where
    turned : (b : Bool) → not b ≡ false → b ≡ true
    turned true h = refl
    turned false h = sym h

pub four_words : {X : Type 0} (f : X → List ℕ) (ws : List X) (a b c d : X) → length ws ≡ 4 → a ≡ get_or ws 0 a → b ≡ get_or ws 1 b → c ≡ get_or ws 2 c
    → d ≡ get_or ws 3 d → map f ws ≡ f a ∷ f b ∷ f c ∷ f d ∷ []
four_words f [] a b c d l i j k m = absurd (omega arith)
four_words f (v ∷ []) a b c d l i j k m = absurd (omega arith)
four_words f (v ∷ w ∷ []) a b c d l i j k m = absurd (omega arith)
four_words f (v ∷ w ∷ x ∷ []) a b c d l i j k m = absurd (omega arith)
four_words f (v ∷ w ∷ x ∷ y ∷ []) a b c d l i j k m = cc
four_words f (v ∷ w ∷ x ∷ y ∷ z ∷ ws) a b c d l i j k m = absurd (omega arith)

-- four words, of which the last three are numbers
pub record AreNumbers (words : List (List ℕ)) (s q n : ℕ) : Type 0 where
  pub first : List ℕ
  pub seed : List ℕ
  pub qubits : List ℕ
  pub items : List ℕ
  pub words_are : words ≡ first ∷ seed ∷ qubits ∷ items ∷ []
  pub word : first ≡ codes "gen"
  pub seed_is : IsNumber seed s
  pub qubits_is : IsNumber qubits q
  pub items_is : IsNumber items n

pub are_numbers : {X : Type 0} (f : X → List ℕ) (ws : List X) (a b c d : X) (w x y z : List ℕ) (s q n : ℕ) → length ws ≡ 4 → a ≡ get_or ws 0 a → b ≡ get_or ws 1 b
    → c ≡ get_or ws 2 c → d ≡ get_or ws 3 d → w ≡ f a → x ≡ f b → y ≡ f c → z ≡ f d → w ≡ codes "gen" → IsNumber x s → IsNumber y q → IsNumber z n
    → AreNumbers (map f ws) s q n
are_numbers f ws a b c d w x y z s q n l ga gb gc gd ew ex ey ez word seed qubits items =
    record { first = w; seed = x; qubits = y; items = z; words_are = whole; word = word; seed_is = seed; qubits_is = qubits; items_is = items }
  where
    whole : map f ws ≡ w ∷ x ∷ y ∷ z ∷ []
    whole = let e : map f ws ≡ f a ∷ f b ∷ f c ∷ f d ∷ [] = four_words f ws a b c d l ga gb gc gd in cc

pub are_generation : (words : List (List ℕ)) (s q n : ℕ) → AreNumbers words s q n → IsWithin q n → IsGeneration words s q n
are_generation words s q n a w = record { words_are = spelled; seed_below = a.seed_is.below; within = w }
  where
    spelled : words ≡ codes "gen" ∷ decimal s ∷ decimal q ∷ decimal n ∷ []
    spelled = cc (a.words_are, a.word, a.seed_is.spelled, a.qubits_is.spelled, a.items_is.spelled)

third : {a b c d e f g h : List ℕ} → a ∷ b ∷ c ∷ d ∷ [] ≡ e ∷ f ∷ g ∷ h ∷ [] → c ≡ g
third e = cc

fourth : {a b c d e f g h : List ℕ} → a ∷ b ∷ c ∷ d ∷ [] ≡ e ∷ f ∷ g ∷ h ∷ [] → d ≡ h
fourth e = cc

pub out_of_bounds : (words : List (List ℕ)) (s q n s' q' n' : ℕ) → AreNumbers words s q n → (IsWithin q n → ⊥) → IsGeneration words s' q' n' → ⊥
out_of_bounds words s q n s' q' n' a out g =
    let both : a.first ∷ a.seed ∷ a.qubits ∷ a.items ∷ [] ≡ codes "gen" ∷ decimal s' ∷ decimal q' ∷ decimal n' ∷ [] = sym a.words_are ∙ g.words_are in
    let qubits : q ≡ q' = same_number q q' a.qubits_is.below (omega (arith, g.within.most_qubits)) (sym a.qubits_is.spelled ∙ third both) in
    let items : n ≡ n' = same_number n n' a.items_is.below (omega (arith, g.within.most_items)) (sym a.items_is.spelled ∙ fourth both) in
    out (subst (λ k. IsWithin k n) (sym qubits) (subst (λ k. IsWithin q' k) (sym items) g.within))

-- the words determine the numbers
pub one_generation : (P : ℕ → ℕ → ℕ → Type 0) (words : List (List ℕ)) (s q n s' q' n' : ℕ) → IsGeneration words s q n → IsGeneration words s' q' n' → P s q n → P s' q' n'
one_generation P words s q n s' q' n' g h p =
    let both : codes "gen" ∷ decimal s ∷ decimal q ∷ decimal n ∷ [] ≡ codes "gen" ∷ decimal s' ∷ decimal q' ∷ decimal n' ∷ [] = sym g.words_are ∙ h.words_are in
    let seed : s ≡ s' = same_number s s' g.seed_below h.seed_below (second both) in
    let qubits : q ≡ q' = same_number q q' (omega (arith, g.within.most_qubits)) (omega (arith, h.within.most_qubits)) (third both) in
    let items : n ≡ n' = same_number n n' (omega (arith, g.within.most_items)) (omega (arith, h.within.most_items)) (fourth both) in
    subst (λ k. P k q' n') seed (subst (λ k. P s k n') qubits (subst (λ k. P s q k) items p))
  where
    second : {a b c d e f g h : List ℕ} → a ∷ b ∷ c ∷ d ∷ [] ≡ e ∷ f ∷ g ∷ h ∷ [] → b ≡ f
    second e = cc

-- ---- the script
pub named : is_name (codes "g") ≡ true
unfolding is_name
named = refl

pub empty_short : (qubits : ℕ) → qubits < 2 ^ 32 → length (empty_circuit qubits) ≤ 16777216
empty_short qubits below =
    let digits : length (decimal qubits) ≤ 10 = length-decimal-le 10 qubits (omega arith) (omega arith) (omega arith) in
    let tail : length (decimal qubits ++ codes "];\n") ≡ length (decimal qubits) + 3 = length-append (decimal qubits) (codes "];\n") in
    omega arith

-- ---- the run
pub generated_of_sessions : (s q n : ℕ) (run : Run) → IsGeneratedRun s q n run → All IsOfSession run.journal
generated_of_sessions s q n run r = of_sessions r.lines run r.runs

pub generated_is_legal : (s q n : ℕ) (journal : List Entry) (run : Run) → IsGeneratedRun s q n run → journal ≡ run.journal → IsLegal journal
generated_is_legal s q n journal run r j = subst IsLegal (sym j) r.runs.legal

module _ (s q n : ℕ) where
  comes : (run : Run) (x : Ending) → (r : IsGeneratedRun s q n run) → run.ending ≡ x
      → GenerationComes s q n run.journal (ending_status run.ending) (generated_text s q n run)
  comes run ending.Done r e =
      let runs = r.runs in
      let all : runs.served ≡ r.lines = sym (runs.split ∙ ap (λ l. runs.served ++ l) (runs.complete e) ∙ append-nil runs.served) in
      done r.lines r.script (subst (λ (l : List Line). Holds l run.journal) all (run_holds r.lines run runs)) (ap ending_status e)
      (ap (λ (x : Ending). heading s q n ++ journal_text run.journal ++ closing_line x run.journal) e)
  comes run (ending.Full ticket) r e =
      let runs = r.runs in
      let cut = runs.cut ticket e in
      full runs.served runs.left (subst (IsGeneratedScript s q n) runs.split r.script) cut.some_left (run_holds r.lines run runs) cut.full (ap ending_status e)
      (ap (λ (x : Ending). heading s q n ++ journal_text run.journal ++ closing_line x run.journal) e)

  module _ (old new : Option (List ℕ)) (f f' : ℕ) (journal : List Entry) (status : ℕ) where
    pub starved_ends : Writes old new f f' (codes "memory\n") 70 status ⊎ Writes old new f f' (codes "memory\n") 70 status → GenerationEnds s q n old new f f' journal status
    starved_ends (inl w) = record { wanted = 70; text = codes "memory\n"; comes = starved refl refl; written = w }
    starved_ends (inr w) = record { wanted = 70; text = codes "memory\n"; comes = starved refl refl; written = w }

    pub generated_ends : (run : Run) → IsGeneratedRun s q n run → journal ≡ run.journal → PrintsGenerated s q n run old new f f' status
        → GenerationEnds s q n old new f f' journal status
    generated_ends run r j p = subst (λ (es : List Entry). GenerationEnds s q n old new f f' es status) (sym j) (by p)
      where
        by : PrintsGenerated s q n run old new f f' status → GenerationEnds s q n old new f f' run.journal status
        by (inl w) = record { wanted = ending_status run.ending; text = generated_text s q n run; comes = comes run run.ending r refl; written = w }
        by (inr w) = record { wanted = 70; text = codes "memory\n"; comes = starved refl refl; written = w }

    generates_from : (k : ℕ) (t : List ℕ) → GenerationComes s q n journal k t → k ≡ 0 → new ≡ append_known old t → Generates s q n old new journal
    generates_from k t (starved w x) e y = absurd (omega (arith, w, e))
    generates_from k t (done lines p h w x) e y = record { lines = lines; script = p; holds = h; written = y ∙ ap (append_known old) x }
    generates_from k t (full served left p l h c w x) e y = absurd (omega (arith, w, e))

    generates_by : (k : ℕ) (t : List ℕ) → GenerationComes s q n journal k t → Writes old new f f' t k status → status ≡ 0 → Generates s q n old new journal
    generates_by k t c (whole y e) z = generates_from k t c (other_number e z) y
    generates_by k t c (failed p r e) z = absurd (omega (arith, e, z))

    pub generates_of : GenerationEnds s q n old new f f' journal status → status ≡ 0 → Generates s q n old new journal
    generates_of r z = generates_by r.wanted r.text r.comes r.written z

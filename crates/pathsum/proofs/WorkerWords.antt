-- The words `run W`.
use Rattle.std.proofs.Common.{◌≡◌, ℕ, refl, ap, sym, ◌∙◌, ◌<◌, ◌≤◌, ◌^◌, List, [], ◌∷◌, length, get_or, subst, map, arith}
use Rattle.std.specs.Prelude.{codes, decimal}
use Rattle.pathsum.specs.Scripts.{IsRun, AskToRun}
use Rattle.pathsum.specs.Generated.{IsNumber, IsGeneration}
use Rattle.pathsum.proofs.GenerationLemmas.{same_number}

two_words : {X : Type 0} (f : X → List ℕ) (ws : List X) (a b : X) → length ws ≡ 2 → a ≡ get_or ws 0 a → b ≡ get_or ws 1 b → map f ws ≡ f a ∷ f b ∷ []
two_words f [] a b l i j = absurd (omega arith)
two_words f (v ∷ []) a b l i j = absurd (omega arith)
two_words f (v ∷ w ∷ []) a b l i j = cc
two_words f (v ∷ w ∷ x ∷ ws) a b l i j = absurd (omega arith)

-- two words, the first of which is `run`, and the second this number
pub record RunsBeside (words : List (List ℕ)) (n : ℕ) : Type 0 where
  pub words_are : words ≡ codes "run" ∷ decimal n ∷ []
  pub below : n < 2 ^ 32

pub asks_to_run : {X : Type 0} (f : X → List ℕ) (ws : List X) (a b : X) (w x : List ℕ) (n : ℕ) → length ws ≡ 2 → a ≡ get_or ws 0 a → b ≡ get_or ws 1 b → w ≡ f a → x ≡ f b
    → w ≡ codes "run" → IsNumber x n → RunsBeside (map f ws) n
asks_to_run f ws a b w x n l ga gb ea eb word number = record { words_are = whole; below = number.below }
  where
    whole : map f ws ≡ codes "run" ∷ decimal n ∷ []
    whole =
        let e : map f ws ≡ f a ∷ f b ∷ [] = two_words f ws a b l ga gb in
        let first : f a ≡ codes "run" = sym ea ∙ word in
        let second : f b ≡ decimal n = sym eb ∙ number.spelled in
        cc

second_word : {a b c d : List ℕ} → a ∷ b ∷ [] ≡ c ∷ d ∷ [] → b ≡ d
second_word e = cc

same_workers : (words : List (List ℕ)) (m n : ℕ) → RunsBeside words m → IsRun words n → m ≡ n
same_workers words m n w r = same_number m n w.below (let few = r.few in omega arith) (second_word (sym w.words_are ∙ r.words_are))

pub too_many : (words : List (List ℕ)) (m n : ℕ) → RunsBeside words m → 16 < m → IsRun words n → ⊥
too_many words m n w high r = let e = same_workers words m n w r in let few = r.few in omega (arith, e, few, high)

-- the words determine the number
pub one_run : (P : ℕ → Type 0) (words : List (List ℕ)) (m n : ℕ) → IsRun words m → IsRun words n → P m → P n
one_run P words m n q r p = subst P (same_workers words m n (record { words_are = q.words_are; below = (let few = q.few in omega arith) }) r) p

-- words are of one of the two forms at most
pub never_both : (words : List (List ℕ)) (s q n : ℕ) → AskToRun words → IsGeneration words s q n → ⊥
never_both words s q n r g = clash (sym r.1.words_are ∙ g.words_are)
  where
    clash : {a b c d e f : List ℕ} → a ∷ b ∷ [] ≡ c ∷ d ∷ e ∷ f ∷ [] → ⊥
    clash e = cc

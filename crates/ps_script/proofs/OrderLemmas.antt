-- Parts of command lines, from the words of their bytes.
use Rattle.std.proofs.Common.{◌≡◌, ◌≢◌, ℕ, ◌+◌, ◌*◌, ◌^◌, ◌<◌, true, false, List, [], ◌∷◌, codes, decimal, refl, sym, ap, ◌∙◌, arith}
use Rattle.ps_script.specs.declared.name.Place.{Place}
use Rattle.ps_script.specs.declared.order.Order.{Order}
use Rattle.ps_script.specs.declared.order.Order.TheVariants.{Open, Splice, Retire, Ask, AskPhase, Prove, Sum, Show}
use Rattle.ps_script.specs.Names.{is_name}
use Rattle.ps_script.specs.Words.{words, SpellsNumber, NoNumber}
use Rattle.ps_script.specs.Orders.{place_words, pair_words, IsPlace, verb_of, argument_words, Spells, SpellsNone}
use Rattle.ps_script.specs.Arguments.{SpellsPlace, NoPlace, SpellsPair, NoPair, SpellsPhase, NoPhase, SpellsSpan, NoSpan, HasArguments, HasNone, SpellsOrder, NoOrder}
use Rattle.ps_script.proofs.WordLemmas.{alone, name_word, number_word, number_alone}

first_same : {x y : List ℕ} {xs ys : List (List ℕ)} → x ∷ xs ≡ y ∷ ys → x ≡ y
first_same e = cc

rest_same : {x y : List ℕ} {xs ys : List (List ℕ)} → x ∷ xs ≡ y ∷ ys → xs ≡ ys
rest_same e = cc

no_rest : {x y z : List ℕ} {zs : List (List ℕ)} → x ∷ [] ≡ y ∷ z ∷ zs → ⊥
no_rest e = cc

not_name : (a b : List ℕ) → is_name a ≡ false → a ≡ b → is_name b ≡ true → ⊥
not_name a b f e t = let z : true ≡ false = sym t ∙ (ap is_name (sym e) ∙ f) in cc

-- The name and the number of a place are told apart by the first space.
module _ (bytes first rest : List ℕ) (cut : words bytes ≡ first ∷ words rest) where
  -- a name that is none
  pub no_named : (n : List ℕ) (ws : List (List ℕ)) → is_name first ≡ false → words bytes ≡ n ∷ ws → is_name n ≡ true → ⊥
  no_named n ws f e t = not_name first n f (first_same (sym cut ∙ e)) t

  pub behind_first : (x : List ℕ) (ws : List (List ℕ)) → words bytes ≡ x ∷ ws → words rest ≡ ws
  behind_first x ws e = rest_same (sym cut ∙ e)

  pub first_is : (x : List ℕ) (ws : List (List ℕ)) → words bytes ≡ x ∷ ws → first ≡ x
  first_is x ws e = first_same (sym cut ∙ e)

  -- a number that is none
  pub no_numbered : (v : ℕ) (ws : List (List ℕ)) → NoNumber first → words bytes ≡ decimal v ∷ ws → v < 2 ^ 32 → ⊥
  no_numbered v ws none e below = none v below (sym (first_is (decimal v) ws e))

  -- ---- places
  pub place_is : (p : Place) → p.name ≡ first → is_name first ≡ true → SpellsNumber rest p.version → SpellsPlace bytes p
  place_is p e name s = record {
    spelled = cut ∙ (ap (λ x. x ∷ words rest) (sym e) ∙ ap (λ ws. p.name ∷ ws) (number_word rest p.version s));
    formed = record { name = ap is_name e ∙ name; below = s.below };
  }

  pub place_unnamed : is_name first ≡ false → NoPlace bytes
  place_unnamed f p s = no_named p.name (decimal p.version ∷ []) f s.spelled s.formed.name

  pub place_unnumbered : NoNumber rest → NoPlace bytes
  place_unnumbered none p s = number_alone rest p.version s.formed.below none (behind_first p.name (decimal p.version ∷ []) s.spelled)

  -- ---- two numbers
  pub span_is : (f t : ℕ) → SpellsNumber first f → SpellsNumber rest t → SpellsSpan bytes f t
  span_is f t a b = record {
    spelled = cut ∙ (ap (λ x. x ∷ words rest) (sym a.spelled) ∙ ap (λ ws. decimal f ∷ ws) (number_word rest t b));
    first = a.below;
    second = b.below;
  }

  pub span_first_none : NoNumber first → NoSpan bytes
  span_first_none none f t s = no_numbered f (decimal t ∷ []) none s.spelled s.first

  pub span_second_none : NoNumber rest → NoSpan bytes
  span_second_none none f t s = number_alone rest t s.second none (behind_first (decimal f) (decimal t ∷ []) s.spelled)

  -- ---- two places
  pub pair_unnamed : is_name first ≡ false → NoPair bytes
  pair_unnamed f p q s = no_named p.name _ f s.spelled s.first.name

  pub pair_ends : words rest ≡ rest ∷ [] → NoPair bytes
  pair_ends e p q s = no_rest (sym e ∙ behind_first p.name (decimal p.version ∷ place_words q) s.spelled)

  module _ (second more : List ℕ) (cut' : words rest ≡ second ∷ words more) where
    pub pair_is : (p q : Place) → p.name ≡ first → is_name first ≡ true → SpellsNumber second p.version → SpellsPlace more q → SpellsPair bytes p q
    pair_is p q e name s k = record {
      spelled = cut ∙ (ap (λ x. x ∷ words rest) (sym e) ∙ ap (λ ws. p.name ∷ ws)
          (cut' ∙ (ap (λ x. x ∷ words more) (sym s.spelled) ∙ ap (λ ws. decimal p.version ∷ ws) k.spelled)));
      first = record { name = ap is_name e ∙ name; below = s.below };
      second = k.formed;
    }

    inner : (p q : Place) → SpellsPair bytes p q → words rest ≡ decimal p.version ∷ place_words q
    inner p q s = behind_first p.name (decimal p.version ∷ place_words q) s.spelled

    pub pair_unnumbered : NoNumber second → NoPair bytes
    pair_unnumbered none p q s = none p.version s.first.below (sym (first_same (sym cut' ∙ inner p q s)))

    pub pair_unplaced : NoPlace more → NoPair bytes
    pair_unplaced none p q s = none q (record { spelled = rest_same (sym cut' ∙ inner p q s); formed = s.second })

pub place_ends : (bytes : List ℕ) → words bytes ≡ bytes ∷ [] → NoPlace bytes
place_ends bytes e p s = no_rest (sym e ∙ s.spelled)

pub span_ends : (bytes : List ℕ) → words bytes ≡ bytes ∷ [] → NoSpan bytes
span_ends bytes e f t s = no_rest (sym e ∙ s.spelled)

pub pair_is_cut : (bytes : List ℕ) → words bytes ≡ bytes ∷ [] → NoPair bytes
pair_is_cut bytes e p q s = no_rest (sym e ∙ s.spelled)

-- ---- orders by their first word
-- the first two letters of a word as one number
unfoldable pub letters : List ℕ → ℕ
letters [] = 0
letters (a ∷ []) = a
letters (a ∷ b ∷ bs) = 256 * a + b

pub open_none : (bytes : List ℕ) → is_name bytes ≡ false → HasNone (codes "open") bytes
unfolding letters
open_none bytes f (Open n) h = not_name bytes n f (alone bytes n h.spelled) h.formed
open_none bytes f o h = absurd (let e = ap letters h.verb_is in omega (arith, e))

pub open_is : (bytes n : List ℕ) → n ≡ bytes → is_name bytes ≡ true → HasArguments (codes "open") bytes (Open n)
open_is bytes n e h =
    let name : is_name n ≡ true = ap is_name e ∙ h in
    record { verb_is = refl; spelled = ap words (sym e) ∙ name_word n name; formed = name }

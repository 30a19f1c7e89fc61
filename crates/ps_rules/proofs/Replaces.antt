-- The outputs with a polynomial in place of a variable, one after another.
use Rattle.std.proofs.Common.{◌≡◌, ◌≢◌, ℕ, zero, suc, ◌+◌, refl, ap, ap₂, sym, ◌∙◌, subst, arith, ◌<◌, ◌≤◌, Bool, true, false, not, nat_eq, ◌&&◌, ◌||◌, List, [], ◌∷◌, ◌++◌, length, take, drop, set, get_or, append-nil, drop_of_length-le}
use Rattle.std.proofs.lemmas.List.{take_more, take_all, take_more_set, get_or-set_other}
use Rattle.std.proofs.Math.ListN.{length-set}
use Rattle.ps_mono.specs.Lists.{nat_eq_true}
use Rattle.ps_mono.specs.Truth.{with_value}
use Rattle.ps_bool.specs.Polys.{bool_value, occurs, IsPoly}
use Rattle.ps_bool.proofs.Laws.{bool_value-with_value}
use Rattle.ps_phase.proofs.Adding.{neither, no_or}
use Rattle.ps_sum.specs.Forms.{AllPolys}
use Rattle.ps_sum.specs.Outs.{values, outs_occur}
use Rattle.ps_sum.proofs.Closings.{polys_push}
use Rattle.ps_rules.specs.Closing.{IsReplaced}
use Rattle.ps_rules.proofs.Closes.{off}

-- the first i of old are replaced
pub record Replacing (v : ℕ) (q : List (List ℕ)) (old : List (List (List ℕ))) (i : ℕ) (xs : List (List (List ℕ))) : Type 0 where
  pub size : length xs ≡ length old
  pub value : (a : ℕ → Bool) → values (take i xs) a ≡ values (take i old) (with_value a v (bool_value q a))
  pub known : (u : ℕ) → (outs_occur u old && not (nat_eq u v)) ≡ false → occurs u q ≡ false → outs_occur u (take i xs) ≡ false
  pub form : AllPolys (take i xs)
  pub rest : (k : ℕ) (d : List (List ℕ)) → i ≤ k → get_or xs k d ≡ get_or old k d

pub replacing_start : (v : ℕ) (q : List (List ℕ)) (old xs : List (List (List ℕ))) → xs ≡ old → Replacing v q old 0 xs
unfolding values outs_occur
replacing_start v q old xs e = record { size = ap (λ (r : List (List (List ℕ))). length r) e; value = λ a. refl; known = λ u n o. refl; form = tt; rest = λ k d h. ap (λ (r : List (List (List ℕ))). get_or r k d) e }

values_push : (fs : List (List (List ℕ))) (f : List (List ℕ)) (a : ℕ → Bool) → values (fs ++ f ∷ []) a ≡ values fs a ++ bool_value f a ∷ []
unfolding values
values_push [] f a = refl
values_push (g ∷ fs) f a = ap (λ (r : List Bool). bool_value g a ∷ r) (values_push fs f a)

outs_push : (w : ℕ) (fs : List (List (List ℕ))) (f : List (List ℕ)) → outs_occur w fs ≡ false → occurs w f ≡ false → outs_occur w (fs ++ f ∷ []) ≡ false
unfolding outs_occur
outs_push w [] f h s = ap (λ b. b || false) s
outs_push w (g ∷ fs) f h s = let n = neither (occurs w g) (outs_occur w fs) h in no_or _ _ n.0 (outs_push w fs f n.1 s)

outs_at : (u : ℕ) (fs : List (List (List ℕ))) (i : ℕ) (f d : List (List ℕ)) → i < length fs → f ≡ get_or fs i d → occurs u f ≡ true → outs_occur u fs ≡ true
unfolding outs_occur
outs_at u [] i f d h e o = absurd (omega arith)
outs_at u (g ∷ fs) zero f d h e o = ap (λ b. b || outs_occur u fs) (ap (occurs u) (sym e) ∙ o)
outs_at u (g ∷ fs) (suc i) f d h e o = later (occurs u g) (outs_at u fs i f d (omega arith) e o)
  where
    later : (p : Bool) {q : Bool} → q ≡ true → (p || q) ≡ true
    later true e = refl
    later false e = e

polys_at : (fs : List (List (List ℕ))) (i : ℕ) (f d : List (List ℕ)) → i < length fs → f ≡ get_or fs i d → AllPolys fs → IsPoly f
polys_at [] i f d h e p = absurd (omega arith)
polys_at (g ∷ fs) zero f d h e p = subst IsPoly (sym e) p.0
polys_at (g ∷ fs) (suc i) f d h e p = polys_at fs i f d (omega arith) e p.1

-- y is what becomes of f
pub record Becoming (v : ℕ) (q f y : List (List ℕ)) : Type 0 where
  pub value : (a : ℕ → Bool) → bool_value y a ≡ bool_value f (with_value a v (bool_value q a))
  pub known : (u : ℕ) → occurs u y ≡ true → ((occurs u f && not (nat_eq u v)) || occurs u q) ≡ true
  pub form : IsPoly y

pub stays : (v : ℕ) (q f : List (List ℕ)) → occurs v f ≡ false → IsPoly f → Becoming v q f f
stays v q f n p = record {
  value = λ a. sym (bool_value-with_value f v a (bool_value q a) n);
  known = λ u o. by u o (nat_eq u v) refl;
  form = p;
}
  where
    one : (p r s : Bool) → p ≡ true → r ≡ false → ((p && not r) || s) ≡ true
    one p r s e f = ap₂ (λ (x y : Bool). (x && not y) || s) e f

    by : (u : ℕ) → occurs u f ≡ true → (t : Bool) → nat_eq u v ≡ t → ((occurs u f && not (nat_eq u v)) || occurs u q) ≡ true
    by u o true e = absurd (off (subst (λ (w : ℕ). occurs w f ≡ true) (nat_eq_true u v e) o) n)
    by u o false e = one _ _ _ o e

replaced_more : (v : ℕ) (q : List (List ℕ)) (old xs ys : List (List (List ℕ))) (i : ℕ) (f y d : List (List ℕ)) → i < length old → f ≡ get_or xs i d → take (i + 1) ys ≡ take i xs ++ y ∷ [] → length ys ≡ length xs → ((k : ℕ) (e : List (List ℕ)) → i + 1 ≤ k → get_or ys k e ≡ get_or xs k e)
    → Becoming v q f y → Replacing v q old i xs → Replacing v q old (i + 1) ys
replaced_more v q old xs ys i f y d h ef et el er b s =
    let eo : f ≡ get_or old i d = ef ∙ s.rest i d (omega arith) in
    let to : take (i + 1) old ≡ take i old ++ f ∷ [] = take_more old i d h ∙ ap (λ (r : List (List ℕ)). take i old ++ r ∷ []) (sym eo) in
    record {
      size = el ∙ s.size;
      value = λ a. ap (λ (r : List (List (List ℕ))). values r a) et ∙ values_push (take i xs) y a ∙ ap₂ (λ (r : List Bool) (c : Bool). r ++ c ∷ []) (s.value a) (b.value a)
          ∙ sym (ap (λ (r : List (List (List ℕ))). values r (with_value a v (bool_value q a))) to ∙ values_push (take i old) f (with_value a v (bool_value q a)));
      known = λ u n o. ap (outs_occur u) et ∙ outs_push u (take i xs) y (s.known u n o) (never u n o (occurs u y) refl (occurs u f) refl eo);
      form = subst AllPolys (sym et) (polys_push (take i xs) y s.form b.form);
      rest = λ k e l. er k e l ∙ s.rest k e (omega arith);
    }
  where
    none : (p r s : Bool) → p ≡ false → s ≡ false → ((p && r) || s) ≡ false
    none p r s e f = ap₂ (λ (x y : Bool). (x && r) || y) e f

    none_two : (p r s : Bool) → (p && r) ≡ false → s ≡ false → ((p && r) || s) ≡ false
    none_two p r s e f = ap₂ (λ (x y : Bool). x || y) e f

    never : (u : ℕ) → (outs_occur u old && not (nat_eq u v)) ≡ false → occurs u q ≡ false → (t : Bool) → occurs u y ≡ t → (w : Bool) → occurs u f ≡ w → f ≡ get_or old i d → t ≡ false
    never u n o false e w k m = refl
    never u n o true e false k m = absurd (off (b.known u e) (none (occurs u f) (not (nat_eq u v)) (occurs u q) k o))
    never u n o true e true k m = absurd (off (b.known u e) (none_two (occurs u f) (not (nat_eq u v)) (occurs u q) (ap (λ c. c && not (nat_eq u v)) (k ∙ sym (outs_at u old i f d h m k)) ∙ n) o))

pub replacing_set : (v : ℕ) (q : List (List ℕ)) (old xs ys : List (List (List ℕ))) (i : ℕ) (f y d : List (List ℕ)) → i < length old → f ≡ get_or xs i d → ys ≡ set xs i y → Becoming v q f y → Replacing v q old i xs → Replacing v q old (i + 1) ys
replacing_set v q old xs ys i f y d h ef ey b s =
    replaced_more v q old xs ys i f y d h ef (ap (take (i + 1)) ey ∙ take_more_set xs i y (omega (arith, s.size))) (ap (λ (r : List (List (List ℕ))). length r) ey ∙ length-set xs i y)
    (λ k e l. let c : k ≢ i = omega arith in ap (λ (r : List (List (List ℕ))). get_or r k e) ey ∙ rw get_or-set_other refl) b s

pub replacing_stay : (v : ℕ) (q : List (List ℕ)) (old xs ys : List (List (List ℕ))) (i : ℕ) (f d : List (List ℕ)) → i < length old → f ≡ get_or xs i d → ys ≡ set xs i f → occurs v f ≡ false → AllPolys old → Replacing v q old i xs → Replacing v q old (i + 1) ys
replacing_stay v q old xs ys i f d h ef ey n p s = replacing_set v q old xs ys i f f d h ef ey (stays v q f n (polys_at old i f d h (ef ∙ s.rest i d (omega arith)) p)) s

pub replacing_end : (v : ℕ) (q : List (List ℕ)) (old xs : List (List (List ℕ))) (i n : ℕ) → length old ≤ i → n ≡ length old → Replacing v q old i xs → IsReplaced v q old (take n (xs ++ drop (length xs) old))
replacing_end v q old xs i n h en s =
    let b : drop (length xs) old ≡ [] = drop_of_length-le old (omega (arith, s.size)) in
    let w : take n (xs ++ drop (length xs) old) ≡ xs = ap (λ t. take n (xs ++ t)) b ∙ ap (take n) (append-nil xs) ∙ take_all n xs (omega (arith, s.size)) in
    let t : take i xs ≡ xs = take_all i xs (omega (arith, s.size)) in
    subst (IsReplaced v q old) (sym w) (record {
      size = s.size;
      value = λ a. ap (λ (r : List (List (List ℕ))). values r a) (sym t) ∙ s.value a ∙ ap (λ (r : List (List (List ℕ))). values r (with_value a v (bool_value q a))) (take_all i old h);
      known = λ u k o. ap (outs_occur u) (sym t) ∙ s.known u k o;
      form = subst AllPolys t s.form;
    })

-- Half a turn for each place at which the outputs of two sums differ.
use Rattle.std.proofs.Common.{◌≡◌, ◌≢◌, ℕ, suc, ◌+◌, ◌-◌, ◌%◌, refl, ap, ap₂, sym, ◌∙◌, arith, ◌<◌, ◌≤◌, Bool, true, false, ◌&&◌, ◌||◌, cond, List, [], ◌∷◌, ◌++◌, length, take, drop, get_or}
use mathlib.Core.Bool.{xor}
use Rattle.std.proofs.Math.Seq.{drop-cons}
use Rattle.std.proofs.lemmas.List.{take_more, take_all}
use Rattle.ps_mono.specs.Sets.{holds, stands}
use Rattle.ps_mono.specs.Lists.{nat_eq_other}
use Rattle.ps_mono.specs.Truth.{times, differ}
use Rattle.ps_mono.proofs.Laws.{holds_union}
use Rattle.ps_bool.specs.Polys.{bool_value, occurs}
use Rattle.ps_phase.specs.declared.terms.Term.{Term}
use Rattle.ps_phase.specs.Phases.{phase_value, phase_occurs}
use Rattle.ps_phase.proofs.Adding.{no_or}
use Rattle.ps_phase.proofs.Values.{phase_append, one_value, free_push}
use Rattle.ps_ring.specs.Joins.{pairing}
use Rattle.ps_ring.specs.Readings.{Assignment, taken, moved_name}
use Rattle.ps_sum.specs.Outs.{values, outs_occur}
use Rattle.ps_sum.proofs.Lifts.{bool_push, mono_free}
use Rattle.ps_sum.proofs.Closings.{outs_get}
use Rattle.ps_overlap.proofs.Moved.{stands_one, holds_one}

-- ---- one output, read at s a
half_more : (b r h : Bool) (x s : ℕ) → x % 4294967296 ≡ (s + cond (b && r) 2147483648 0) % 4294967296 → (x + times (h && b) 2147483648) % 4294967296 ≡ (s + cond (b && differ r h) 2147483648 0) % 4294967296
unfolding times differ
half_more true true true x s e = omega arith
half_more true true false x s e = omega arith
half_more true false true x s e = omega arith
half_more true false false x s e = omega arith
half_more false true true x s e = omega arith
half_more false true false x s e = omega arith
half_more false false true x s e = omega arith
half_more false false false x s e = omega arith

pub record Halved (σ : Assignment → Assignment) (Free : ℕ → Type 0) (w : List ℕ) (f : List (List ℕ)) (i : ℕ) (start out : List Term) : Type 0 where
  pub value : (a : Assignment) → phase_value out a % 4294967296 ≡ (phase_value start a + cond (holds w a && bool_value (take i f) (σ a)) 2147483648 0) % 4294967296
  pub free : (u : ℕ) → stands u w ≡ false → Free u → phase_occurs u start ≡ false → phase_occurs u out ≡ false

pub halved_start : (σ : Assignment → Assignment) (Free : ℕ → Type 0) (w : List ℕ) (f : List (List ℕ)) (start : List Term) → Halved σ Free w f 0 start start
unfolding bool_value
halved_start σ Free w f start = record { value = λ a. none (holds w a) (phase_value start a); free = λ u s g o. o }
  where
    none : (b : Bool) (x : ℕ) → x % 4294967296 ≡ (x + cond (b && false) 2147483648 0) % 4294967296
    none true x = omega arith
    none false x = omega arith

pub halved_more : (σ : Assignment → Assignment) (Free : ℕ → Type 0) (w : List ℕ) (f : List (List ℕ)) (start out out' : List Term) (i q : ℕ) (m k u : List ℕ) → i < length f → m ≡ get_or f i m → ((a : Assignment) → holds k a ≡ holds m (σ a)) → ((v : ℕ) → Free v → stands v k ≡ false)
    → ((v : ℕ) → stands v u ≡ (stands v k || stands v w)) → q ≡ 2147483648 → out' ≡ out ++ record { mono = u; phase = q } ∷ [] → Halved σ Free w f i start out → Halved σ Free w f (i + 1) start out'
halved_more σ Free w f start out out' i q m k u h em hk fk eu eq e s = record {
  value = λ a.
      let t : take (i + 1) f ≡ take i f ++ m ∷ [] = take_more f i m h ∙ ap (λ (r : List ℕ). take i f ++ r ∷ []) (sym em) in
      ap (λ (r : List Term). phase_value r a % 4294967296) e
      ∙ ap (λ n. n % 4294967296) (phase_append out _ a ∙ ap (λ n. phase_value out a + n) (one_value (record { mono = u; phase = q }) a ∙ ap₂ times (holds_union k w u eu a ∙ ap (λ b. b && holds w a) (hk a)) eq))
      ∙ half_more (holds w a) (bool_value (take i f) (σ a)) (holds m (σ a)) (phase_value out a) (phase_value start a) (s.value a)
      ∙ sym (ap (λ b. (phase_value start a + cond (holds w a && b) 2147483648 0) % 4294967296) (ap (λ (r : List (List ℕ)). bool_value r (σ a)) t ∙ bool_push (take i f) m (σ a)));
  free = λ v s' g o. ap (phase_occurs v) e ∙ free_push v out _ (s.free v s' g o) (eu v ∙ no_or (stands v k) (stands v w) (fk v g) s');
}

pub halved_value : (σ : Assignment → Assignment) (Free : ℕ → Type 0) (w : List ℕ) (f : List (List ℕ)) (start out : List Term) (i : ℕ) → length f ≤ i → Halved σ Free w f i start out
    → (a : Assignment) → phase_value out a % 4294967296 ≡ (phase_value start a + cond (holds w a && bool_value f (σ a)) 2147483648 0) % 4294967296
halved_value σ Free w f start out i h s a = s.value a ∙ ap (λ (r : List (List ℕ)). (phase_value start a + cond (holds w a && bool_value r (σ a)) 2147483648 0) % 4294967296) (take_all i f h)

abbrev pub as_is : Assignment → Assignment
as_is a = a

abbrev pub moved_at : ℕ → ℕ → Assignment → Assignment
moved_at n by a = λ v. a (moved_name n by v)

abbrev pub MonosNotMoved : ℕ → ℕ → List (List ℕ) → ℕ → Type 0
MonosNotMoved n by f u = (v : ℕ) → moved_name n by v ≡ u → occurs v f ≡ false

abbrev pub OutsNotMoved : ℕ → ℕ → List (List (List ℕ)) → ℕ → Type 0
OutsNotMoved n by fs u = (v : ℕ) → moved_name n by v ≡ u → outs_occur v fs ≡ false

pub small_mono : (b : ℕ) (f : List (List ℕ)) (i : ℕ) (m : List ℕ) → i < length f → m ≡ get_or f i m → ((v : ℕ) → 512 ≤ v + b → occurs v f ≡ false) → (v : ℕ) → 512 ≤ v + b → stands v m ≡ false
small_mono b f i m h e g v l = mono_free v f i m h e (g v l)

pub small_monos : (b : ℕ) (fs : List (List (List ℕ))) (i : ℕ) (f ms : List (List ℕ)) → i < length fs → f ≡ get_or fs i f → ms ≡ f → ((v : ℕ) → 512 ≤ v + b → outs_occur v fs ≡ false) → (v : ℕ) → 512 ≤ v + b → occurs v ms ≡ false
small_monos b fs i f ms h e em g v l = ap (occurs v) em ∙ outs_get v fs i f h e (g v l)

-- the output at a place, by its monomials
pub output_at : (fs : List (List (List ℕ))) (i : ℕ) (f ms : List (List ℕ)) → f ≡ get_or fs i f → ms ≡ f → ms ≡ get_or fs i ms
output_at fs i f ms e em = em ∙ e ∙ ap (λ (x : List (List ℕ)). get_or fs i x) (sym em)

-- ---- all outputs
pub record Pairing (lo n by : ℕ) (fs gs : List (List (List ℕ))) (i : ℕ) (start out : List Term) : Type 0 where
  pub value : (a : Assignment) → (phase_value out a + pairing (taken (lo + i) (length fs - i) a) (values (drop i fs) a) (values (drop i gs) (moved_at n by a))) % 4294967296
      ≡ (phase_value start a + pairing (taken lo (length fs) a) (values fs a) (values gs (moved_at n by a))) % 4294967296
  pub free : (u : ℕ) → lo + length fs ≤ u → outs_occur u fs ≡ false → OutsNotMoved n by gs u → phase_occurs u start ≡ false → phase_occurs u out ≡ false

pub pairing_start : (lo n by : ℕ) (fs gs : List (List (List ℕ))) (start : List Term) → Pairing lo n by fs gs 0 start start
pairing_start lo n by fs gs start = record {
  value = λ a. let e : lo + 0 ≡ lo = omega arith in let d : length fs - 0 ≡ length fs = omega arith in
      ap₂ (λ (x y : ℕ). (phase_value start a + pairing (taken x y a) (values fs a) (values gs (moved_at n by a))) % 4294967296) e d;
  free = λ u l f g o. o;
}

both_halves : (b x y : Bool) (o d e r : ℕ) → d % 4294967296 ≡ (o + cond (b && x) 2147483648 0) % 4294967296 → e % 4294967296 ≡ (d + cond (b && y) 2147483648 0) % 4294967296 → (e + r) % 4294967296 ≡ (o + (cond (b && xor x y) 2147483648 0 + r)) % 4294967296
unfolding xor
both_halves true true true o d e r p q = omega arith
both_halves true true false o d e r p q = omega arith
both_halves true false true o d e r p q = omega arith
both_halves true false false o d e r p q = omega arith
both_halves false true true o d e r p q = omega arith
both_halves false true false o d e r p q = omega arith
both_halves false false true o d e r p q = omega arith
both_halves false false false o d e r p q = omega arith

pair_head : (lo k : ℕ) (a b : Assignment) (f g : List (List ℕ)) (fs gs : List (List (List ℕ))) → pairing (taken lo (suc k) a) (values (f ∷ fs) a) (values (g ∷ gs) b) ≡ cond (a lo && xor (bool_value f a) (bool_value g b)) 2147483648 0 + pairing (taken (suc lo) k a) (values fs a) (values gs b)
unfolding pairing taken values
pair_head lo k a b f g fs gs = refl

pub pairing_more : (lo n by : ℕ) (fs gs : List (List (List ℕ))) (start out mid out' : List Term) (i : ℕ) (f g : List (List ℕ)) (w : List ℕ) → length fs ≡ length gs → i < length fs → f ≡ get_or fs i f → g ≡ get_or gs i g → w ≡ (lo + i) ∷ []
    → ((a : Assignment) → phase_value mid a % 4294967296 ≡ (phase_value out a + cond (holds w a && bool_value f a) 2147483648 0) % 4294967296)
    → ((a : Assignment) → phase_value out' a % 4294967296 ≡ (phase_value mid a + cond (holds w a && bool_value g (moved_at n by a)) 2147483648 0) % 4294967296)
    → ((u : ℕ) → stands u w ≡ false → occurs u f ≡ false → phase_occurs u out ≡ false → phase_occurs u mid ≡ false) → ((u : ℕ) → stands u w ≡ false → MonosNotMoved n by g u → phase_occurs u mid ≡ false → phase_occurs u out' ≡ false)
    → Pairing lo n by fs gs i start out → Pairing lo n by fs gs (i + 1) start out'
pairing_more lo n by fs gs start out mid out' i f g w el h ef eg ew v1 v2 f1 f2 s = record {
  value = λ a.
      let b = moved_at n by a in
      let k = length fs - (i + 1) in
      let c : length fs - i ≡ suc k = omega arith in
      let d : suc (lo + i) ≡ lo + (i + 1) = omega arith in
      let j : suc i ≡ i + 1 = omega arith in
      let df : drop i fs ≡ f ∷ drop (i + 1) fs = drop-cons fs i f h ∙ ap₂ (λ (x : List (List ℕ)) (y : ℕ). x ∷ drop y fs) (sym ef) j in
      let dg : drop i gs ≡ g ∷ drop (i + 1) gs = drop-cons gs i g (omega arith) ∙ ap₂ (λ (x : List (List ℕ)) (y : ℕ). x ∷ drop y gs) (sym eg) j in
      let r = pairing (taken (lo + (i + 1)) k a) (values (drop (i + 1) fs) a) (values (drop (i + 1) gs) b) in
      let hw : holds w a ≡ a (lo + i) = ap (λ (x : List ℕ). holds x a) ew ∙ holds_one (lo + i) a in
      let p1 = v1 a ∙ ap (λ q. (phase_value out a + cond (q && bool_value f a) 2147483648 0) % 4294967296) hw in
      let p2 = v2 a ∙ ap (λ q. (phase_value mid a + cond (q && bool_value g b) 2147483648 0) % 4294967296) hw in
      let front : pairing (taken (lo + i) (length fs - i) a) (values (drop i fs) a) (values (drop i gs) b) ≡ cond (a (lo + i) && xor (bool_value f a) (bool_value g b)) 2147483648 0 + r =
      ap (λ (x : ℕ). pairing (taken (lo + i) x a) (values (drop i fs) a) (values (drop i gs) b)) c
      ∙ ap₂ (λ (x y : List (List (List ℕ))). pairing (taken (lo + i) (suc k) a) (values x a) (values y b)) df dg
      ∙ pair_head (lo + i) k a b f g (drop (i + 1) fs) (drop (i + 1) gs)
      ∙ ap (λ (x : ℕ). cond (a (lo + i) && xor (bool_value f a) (bool_value g b)) 2147483648 0 + pairing (taken x k a) (values (drop (i + 1) fs) a) (values (drop (i + 1) gs) b)) d in
      both_halves (a (lo + i)) (bool_value f a) (bool_value g b) (phase_value out a) (phase_value mid a) (phase_value out' a) r p1 p2
      ∙ ap (λ x. (phase_value out a + x) % 4294967296) (sym front) ∙ s.value a;
  free = λ u l of og o.
      let d : u ≢ lo + i = omega arith in
      let q : stands u w ≡ false = ap (stands u) ew ∙ stands_one u (lo + i) ∙ nat_eq_other u (lo + i) d in
      f2 u q (λ v e. outs_get v gs i g (omega arith) eg (og v e)) (f1 u q (outs_get u fs i f h ef of) (s.free u l of og o));
}

none_paired : (l : ℕ) (a : Assignment) (p q : List Bool) → pairing (taken l 0 a) p q ≡ 0
unfolding pairing taken
none_paired l a p q = refl

pub pairing_value : (lo n by : ℕ) (fs gs : List (List (List ℕ))) (start out : List Term) (i : ℕ) → length fs ≤ i → Pairing lo n by fs gs i start out
    → (a : Assignment) → phase_value out a % 4294967296 ≡ (phase_value start a + pairing (taken lo (length fs) a) (values fs a) (values gs (moved_at n by a))) % 4294967296
pairing_value lo n by fs gs start out i h s a =
    let z : length fs - i ≡ 0 = omega arith in
    let e : pairing (taken (lo + i) (length fs - i) a) (values (drop i fs) a) (values (drop i gs) (moved_at n by a)) ≡ 0 = ap (λ (x : ℕ). pairing (taken (lo + i) x a) (values (drop i fs) a) (values (drop i gs) (moved_at n by a))) z ∙ none_paired (lo + i) a (values (drop i fs) a) (values (drop i gs) (moved_at n by a)) in
    end (phase_value out a) _ _ e (s.value a)
  where
    end : (x r y : ℕ) → r ≡ 0 → (x + r) % 4294967296 ≡ y % 4294967296 → x % 4294967296 ≡ y % 4294967296
    end x r y e f = omega arith

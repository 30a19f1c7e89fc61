-- One prim behind the other.
use Rattle.std.proofs.Common.{◌≡◌, ℕ, zero, suc, ◌+◌, ◌*◌, ◌<◌, ◌≤◌, refl, ap, sym, ◌∙◌, subst, arith, Option, Some, None, List, [], ◌∷◌, ◌++◌, length, drop, get_or, map}
use Rattle.std.specs.declared.sync.Arc.{Arc}
use Rattle.std.specs.declared.alloc.Global.{Global}
use Rattle.ps_prim.specs.declared.prims.Primitive.{Primitive as Prim}
use Rattle.ps_prim.specs.declared.items.Item.{Item}
use Rattle.ps_prim.specs.Maps.{IsWithin, AllWithin}
use Rattle.ps_sum.specs.declared.sums.PathSum.{PathSum}
use Rattle.ps_rules.specs.declared.steps.Move.{Move}
use Rattle.ps_reach.specs.declared.evidence.Evidence.{Evidence}
use Rattle.ps_reach.specs.Runs.{prims_of, run_of}
use Rattle.ps_reach.specs.Parts.{overrun_of}
use Rattle.ps_reach.specs.Fillings.{Outcome, kept, passed, Joins, Leaves, FillsFrom, leaf_over, join_over, next, Fills, first_over, first}
use Rattle.ps_reach.proofs.Denoting.{within_first, within_second, scaled_more}
use Rattle.ps_reach.proofs.Replaying.{length_both}
use Rattle.ps_normal.specs.declared.parts.Part.{Part}
use Rattle.ps_normal.specs.declared.parts.Part.TheVariants as part
use Rattle.ps_normal.specs.declared.parts.LeafPart.{LeafPart}
use Rattle.ps_normal.specs.declared.parts.LeafPart.TheVariants as leaf
use Rattle.ps_normal.specs.declared.parts.Taken.{Taken}
use Rattle.ps_normal.specs.declared.parts.Taken.TheVariants as taken
use Rattle.ps_normal.specs.Pieces.{PartIs, UsablePart, IsProgress, IsTaken}
use Rattle.ps_normal.specs.Keeping.{LeafIs}
use Rattle.ps_normal.specs.Takings.{Takes, UsableHeld, UsableTaken}

-- ---- one prim
first_taken : (n i : ℕ) (A more : List Prim) (ms ms' : List Move) (g : Prim) (T : PathSum) (p : Part) (held : Option PathSum) → held ≡ None → p ≡ part.Sum T → PartIs (Leaves n i g ms) ms' p
    → IsProgress n A (g ∷ more) held i ms → (o : Outcome) → FillsFrom n (i + 1) T ms' more o → Fills n A o
first_taken n i A more ms ms' g T p held h e l w o f =
    let q : (A ≡ g ∷ more) × ((i ≡ 0) × (ms ≡ [])) = subst (λ x. IsProgress n A (g ∷ more) x i ms) h w in
    let k : Leaves n i g ms (kept T ms') = subst (PartIs (Leaves n i g ms) ms') e l in
    let k0 : Leaves n 0 g [] (kept T ms') = subst (λ x. Leaves n 0 g x (kept T ms')) q.1.1 (subst (λ x. Leaves n x g ms (kept T ms')) q.1.0 k) in
    subst (λ B. Fills n B o) (sym q.0) (first k0 (subst (λ x. FillsFrom n (x + 1) T ms' more o) q.1.0 f))

over_cases : (n i : ℕ) (A more : List Prim) (ms ms' : List Move) (g : Prim) (e : Evidence) (held : Option PathSum) → Leaves n i g ms (passed (overrun_of e) ms') → IsProgress n A (g ∷ more) held i ms → Fills n A (passed (overrun_of e) ms')
over_cases n i A more ms ms' g e None l w =
    subst (λ B. Fills n B (passed (overrun_of e) ms')) (sym w.0) (first_over (subst (λ x. Leaves n 0 g x (passed (overrun_of e) ms')) w.1.1 (subst (λ x. Leaves n x g ms (passed (overrun_of e) ms')) w.1.0 l)))
over_cases n i A more ms ms' g e (Some S) l w = w _ (leaf_over l)

over_taken : (n i : ℕ) (A more : List Prim) (ms ms' : List Move) (g : Prim) (e : Evidence) (p : Part) (held : Option PathSum) → p ≡ part.Over e → PartIs (Leaves n i g ms) ms' p → IsProgress n A (g ∷ more) held i ms → Fills n A (passed (overrun_of e) ms')
over_taken n i A more ms ms' g e p held is l w = over_cases n i A more ms ms' g e held (subst (PartIs (Leaves n i g ms) ms') is l) w

pub joined_cases : (n i : ℕ) (A more : List Prim) (ms ms' ms2 : List Move) (g : Prim) (S T : PathSum) (q : Part) → Leaves n i g ms (kept T ms') → PartIs (Joins 0 i (i + 1) S T ms') ms2 q → IsProgress n A (g ∷ more) (Some S) i ms → IsTaken n A more (i + 1) ms2 q
joined_cases n i A more ms ms' ms2 g S T (part.Sum U) l j w = λ o f. w o (next l j f)
joined_cases n i A more ms ms' ms2 g S T (part.Over e) l j w = w _ (join_over l j)
joined_cases n i A more ms ms' ms2 g S T part.Stopped l j w = tt

pub first_part : (n i : ℕ) (A more : List Prim) (ms ms' : List Move) (g : Prim) (p : Part) (held : Option PathSum) → held ≡ None → PartIs (Leaves n i g ms) ms' p → IsProgress n A (g ∷ more) held i ms → IsTaken n A more (i + 1) ms' p
first_part n i A more ms ms' g (part.Sum T) held h l w = λ o f. first_taken n i A more ms ms' g T (part.Sum T) held h refl l w o f
first_part n i A more ms ms' g (part.Over e) held h l w = over_taken n i A more ms ms' g e (part.Over e) held refl l w
first_part n i A more ms ms' g part.Stopped held h l w = tt

pub next_over : (n i : ℕ) (A more : List Prim) (ms ms' : List Move) (g : Prim) (S : PathSum) (e : Evidence) (p : LeafPart) → p ≡ leaf.Over e → LeafIs (Leaves n i g ms) ms' p → IsProgress n A (g ∷ more) (Some S) i ms → Fills n A (passed (overrun_of e) ms')
next_over n i A more ms ms' g S e p is l w = w _ (leaf_over (subst (LeafIs (Leaves n i g ms) ms') is l))

pub usable_more : (n a b : ℕ) (p : Part) → a ≤ b → UsablePart n a p → UsablePart n b p
usable_more n a b (part.Sum T) h u = (record { n_is = u.0.n_is; wide = u.0.wide; scale = scaled_more a b T h u.0.scale }, u.1)
usable_more n a b (part.Over e) h u = tt
usable_more n a b part.Stopped h u = tt

-- ---- prims of a list
pub within_at : (n : ℕ) (A : List Prim) (i : ℕ) (g : Prim) → AllWithin n A → i < length A → g ≡ get_or A i g → IsWithin n g
within_at n [] i g w h e = absurd (omega arith)
within_at n (a ∷ A) zero g w h e = subst (IsWithin n) (sym e) w.0
within_at n (a ∷ A) (suc i) g w h e = within_at n A i g w.1 (omega arith) e

pub prims_cut : (A : List Prim) (i : ℕ) (g : Prim) → i < length A → g ≡ get_or A i g → drop i A ≡ g ∷ drop (i + 1) A
prims_cut [] i g h e = absurd (omega arith)
prims_cut (a ∷ A) zero g h e = ap (λ x. x ∷ A) (sym e)
prims_cut (a ∷ A) (suc i) g h e =
    let k : suc (i + 1) ≡ suc i + 1 = omega arith in
    prims_cut A i g (omega arith) e ∙ ap (λ (x : ℕ). g ∷ drop x (a ∷ A)) k

drop_none : (i : ℕ) → drop {A = Prim} i [] ≡ []
drop_none zero = refl
drop_none (suc i) = refl

pub prims_end : (A B : List Prim) (i : ℕ) → length A ≤ i → drop i A ++ B ≡ B
prims_end [] B i h = ap (λ (xs : List Prim). xs ++ B) (drop_none i)
prims_end (a ∷ A) B zero h = absurd (omega arith)
prims_end (a ∷ A) B (suc i) h = prims_end A B i (omega arith)

-- the sum so far, and what follows
pub record Walk (n place : ℕ) (prims : List Prim) (old : Option PathSum) (ms : List Move) (i at : ℕ) (held : Option PathSum) (ms' : List Move) : Type 0 where
  pub at_is : at ≡ place + i
  pub usable : UsableHeld n at held
  pub progress : (A more : List Prim) → IsProgress n A (prims ++ more) old place ms → IsProgress n A (drop i prims ++ more) held at ms'

pub walk_start : (n place : ℕ) (prims : List Prim) (old : Option PathSum) (ms : List Move) → UsableHeld n place old → Walk n place prims old ms 0 place old ms
walk_start n place prims old ms u = record { at_is = omega arith; usable = u; progress = λ A more w. w }

pub walk_more : (n place : ℕ) (prims : List Prim) (old held : Option PathSum) (ms ms' ms2 : List Move) (i at : ℕ) (g : Prim) (T : PathSum) (p : Part) → i < length prims → g ≡ get_or prims i g → Walk n place prims old ms i at held ms' → p ≡ part.Sum T
    → ((A more : List Prim) → IsProgress n A (g ∷ more) held at ms' → IsTaken n A more (at + 1) ms2 p) → UsablePart n (at + 1) p → Walk n place prims old ms (i + 1) (at + 1) (Some T) ms2
walk_more n place prims old held ms ms' ms2 i at g T p h eg w is t u = record {
  at_is = omega (arith, w.at_is);
  usable = subst (UsablePart n (at + 1)) is u;
  progress = λ A more k.
      subst (IsTaken n A (drop (i + 1) prims ++ more) (at + 1) ms2) is
      (t A (drop (i + 1) prims ++ more) (subst (λ xs. IsProgress n A (xs ++ more) held at ms') (prims_cut prims i g h eg) (w.progress A more k)));
}

pub walk_over : (n place : ℕ) (prims : List Prim) (old held : Option PathSum) (ms ms' ms2 : List Move) (i at : ℕ) (g : Prim) (e : Evidence) (p : Part) → i < length prims → g ≡ get_or prims i g → Walk n place prims old ms i at held ms' → p ≡ part.Over e
    → ((A more : List Prim) → IsProgress n A (g ∷ more) held at ms' → IsTaken n A more (at + 1) ms2 p) → (A more : List Prim) → IsProgress n A (prims ++ more) old place ms → Fills n A (passed (overrun_of e) ms2)
walk_over n place prims old held ms ms' ms2 i at g e p h eg w is t A more k =
    subst (IsTaken n A (drop (i + 1) prims ++ more) (at + 1) ms2) is
    (t A (drop (i + 1) prims ++ more) (subst (λ xs. IsProgress n A (xs ++ more) held at ms') (prims_cut prims i g h eg) (w.progress A more k)))

pub walk_end : (n place : ℕ) (prims : List Prim) (old held : Option PathSum) (ms ms' : List Move) (i at : ℕ) → length prims ≤ i → i ≤ length prims → Walk n place prims old ms i at held ms'
    → (A more : List Prim) → IsProgress n A (prims ++ more) old place ms → IsProgress n A more held (place + length prims) ms'
walk_end n place prims old held ms ms' i at h h' w A more k =
    let e : at ≡ place + length prims = omega (arith, w.at_is, h, h') in
    subst (λ x. IsProgress n A more held x ms') e (subst (λ xs. IsProgress n A xs held at ms') (prims_end prims more i h) (w.progress A more k))

pub walk_usable : (n place : ℕ) (prims : List Prim) (old held : Option PathSum) (ms ms' : List Move) (i at : ℕ) → length prims ≤ i → i ≤ length prims → Walk n place prims old ms i at held ms' → UsableHeld n (place + length prims) held
walk_usable n place prims old held ms ms' i at h h' w =
    let e : at ≡ place + length prims = omega (arith, w.at_is, h, h') in
    subst (λ x. UsableHeld n x held) e w.usable

-- ---- prims of items
pub items_cut : (L : List (Arc Item Global)) (i : ℕ) (a : Arc Item Global) → i < length L → a ≡ get_or L i a → run_of (map prims_of (drop i L)) ≡ prims_of a ++ run_of (map prims_of (drop (i + 1) L))
unfolding run_of
items_cut [] i a h e = absurd (omega arith)
items_cut (b ∷ L) zero a h e = ap (λ x. prims_of x ++ run_of (map prims_of L)) (sym e)
items_cut (b ∷ L) (suc i) a h e =
    let k : suc (i + 1) ≡ suc i + 1 = omega arith in
    items_cut L i a (omega arith) e ∙ ap (λ (x : ℕ). prims_of a ++ run_of (map prims_of (drop x (b ∷ L)))) k

pub items_end : (L : List (Arc Item Global)) (i : ℕ) → length L ≤ i → run_of (map prims_of (drop i L)) ≡ []
unfolding run_of
items_end [] zero h = refl
items_end [] (suc i) h = refl
items_end (b ∷ L) zero h = absurd (omega arith)
items_end (b ∷ L) (suc i) h = items_end L i (omega arith)

pub item_few : (a : Arc Item Global) → length (prims_of a) ≤ 4096
item_few a = a.value.bounded.0

-- the items' prims up to a place, and those that follow
pub record Tour (n : ℕ) (L : List (Arc Item Global)) (i at : ℕ) (held : Option PathSum) (ms : List Move) : Type 0 where
  pub at_is : at + length (run_of (map prims_of (drop i L))) ≡ length (run_of (map prims_of L))
  pub at_few : at ≤ 4096 * i
  pub usable : UsableHeld n at held
  pub progress : IsProgress n (run_of (map prims_of L)) (run_of (map prims_of (drop i L))) held at ms
  pub inside : AllWithin n (run_of (map prims_of (drop i L)))

pub tour_start : (n : ℕ) (L : List (Arc Item Global)) (at : ℕ) (ms : List Move) → at ≡ 0 → ms ≡ [] → AllWithin n (run_of (map prims_of L)) → Tour n L 0 at None ms
tour_start n L at ms e f w = record { at_is = omega (arith, e); at_few = omega (arith, e); usable = tt; progress = (refl, (e, f)); inside = w }

pub tour_within : (n : ℕ) (L : List (Arc Item Global)) (i at : ℕ) (held : Option PathSum) (ms : List Move) (a : Arc Item Global) → i < length L → a ≡ get_or L i a → Tour n L i at held ms → AllWithin n (prims_of a)
tour_within n L i at held ms a h e w = within_first n (prims_of a) _ (subst (AllWithin n) (items_cut L i a h e) w.inside)

pub tour_room : (n : ℕ) (L : List (Arc Item Global)) (i at : ℕ) (held : Option PathSum) (ms : List Move) (a : Arc Item Global) → i < length L → length L ≤ 65536 → Tour n L i at held ms → at + length (prims_of a) ≤ 268435456
tour_room n L i at held ms a h k w = omega (arith, h, k, w.at_few, item_few a)

pub tour_more : (n : ℕ) (L : List (Arc Item Global)) (i at at' : ℕ) (held sum : Option PathSum) (ms ms' : List Move) (a : Arc Item Global) (prims : List Prim) (t : Taken) → i < length L → a ≡ get_or L i a → prims ≡ prims_of a → at' ≡ at + length prims → Tour n L i at held ms → t ≡ taken.Going sum
    → ((A more : List Prim) → IsProgress n A (prims ++ more) held at ms → Takes n A more (at + length prims) ms' t) → UsableTaken n (at + length prims) t → Tour n L (i + 1) at' sum ms'
tour_more n L i at at' held sum ms ms' a prims t h ea ep eat w is k u = record {
  at_is = omega (arith, w.at_is, eat, ap length ep, ap length (items_cut L i a h ea), length_both (prims_of a) (run_of (map prims_of (drop (i + 1) L))));
  at_few = omega (arith, w.at_few, item_few a, eat, ap length ep);
  usable = subst (λ x. UsableHeld n x sum) (sym eat) (subst (UsableTaken n (at + length prims)) is u);
  progress = subst (λ x. IsProgress n (run_of (map prims_of L)) (run_of (map prims_of (drop (i + 1) L))) sum x ms') (sym eat)
      (subst (Takes n (run_of (map prims_of L)) (run_of (map prims_of (drop (i + 1) L))) (at + length prims) ms') is (k _ _ (cut w.progress)));
  inside = within_second n (prims_of a) _ (subst (AllWithin n) (items_cut L i a h ea) w.inside);
}
  where
    cut : IsProgress n (run_of (map prims_of L)) (run_of (map prims_of (drop i L))) held at ms → IsProgress n (run_of (map prims_of L)) (prims ++ run_of (map prims_of (drop (i + 1) L))) held at ms
    cut q = subst (λ xs. IsProgress n (run_of (map prims_of L)) (xs ++ run_of (map prims_of (drop (i + 1) L))) held at ms) (sym ep) (subst (λ xs. IsProgress n (run_of (map prims_of L)) xs held at ms) (items_cut L i a h ea) q)

pub tour_over : (n : ℕ) (L : List (Arc Item Global)) (i at : ℕ) (held : Option PathSum) (ms ms' : List Move) (a : Arc Item Global) (prims : List Prim) (t : Taken) (e : Evidence) → i < length L → a ≡ get_or L i a → prims ≡ prims_of a → Tour n L i at held ms → t ≡ taken.Over e
    → ((A more : List Prim) → IsProgress n A (prims ++ more) held at ms → Takes n A more (at + length prims) ms' t) → Fills n (run_of (map prims_of L)) (passed (overrun_of e) ms')
tour_over n L i at held ms ms' a prims t e h ea ep w is k =
    subst (Takes n (run_of (map prims_of L)) (run_of (map prims_of (drop (i + 1) L))) (at + length prims) ms') is
    (k _ _ (subst (λ xs. IsProgress n (run_of (map prims_of L)) (xs ++ run_of (map prims_of (drop (i + 1) L))) held at ms) (sym ep) (subst (λ xs. IsProgress n (run_of (map prims_of L)) xs held at ms) (items_cut L i a h ea) w.progress)))

pub tour_end : (n : ℕ) (L : List (Arc Item Global)) (i at : ℕ) (held : Option PathSum) (ms : List Move) → length L ≤ i → Tour n L i at held ms → IsProgress n (run_of (map prims_of L)) [] held (length (run_of (map prims_of L))) ms
tour_end n L i at held ms h w =
    let z = items_end L i h in
    let e : at ≡ length (run_of (map prims_of L)) = omega (arith, w.at_is, ap length z) in
    subst (λ x. IsProgress n (run_of (map prims_of L)) [] held x ms) e (subst (λ xs. IsProgress n (run_of (map prims_of L)) xs held at ms) z w.progress)

pub tour_usable : (n : ℕ) (L : List (Arc Item Global)) (i at : ℕ) (held : Option PathSum) (ms : List Move) → length L ≤ i → Tour n L i at held ms → UsableHeld n (length (run_of (map prims_of L))) held
tour_usable n L i at held ms h w =
    let z = items_end L i h in
    let e : at ≡ length (run_of (map prims_of L)) = omega (arith, w.at_is, ap length z) in
    subst (λ x. UsableHeld n x held) e w.usable

-- What is known of the gates of a sound list.
use Rattle.std.proofs.Common.{◌≡◌, ◌<◌, ℕ, zero, suc, ◌+◌, length, length-append, arith, List, [], ◌∷◌, ◌++◌, refl, sym, ◌∙◌, ap, subst, append_assoc, true, ◌&&◌, Some}
use Rattle.std.specs.Prelude.{nat_eq, nat_lt, Bool, min, slice_get}
use Rattle.std.proofs.lemmas.Bool.Decides.{nat_tests}
use Rattle.qasm_expand.specs.declared.defs.Called.{Called}
use Rattle.qasm_expand.specs.declared.defs.Called.TheVariants.{U, Cx, Def as ADef}
use Rattle.qasm_expand.specs.declared.defs.Inner.{Inner}
use Rattle.qasm_expand.specs.declared.defs.Def.{Def}
use Rattle.qasm_expand.specs.Tables.{params_of_def, args_of_def, size_of_def, params_of, args_of, size_of, prim_count, body_size, all_below, all_different, exprs_below, is_earlier, inner_sound, body_sound, def_sound, defs_sound_from, defs_sound}
use Rattle.qasm_expand.specs.Frames.{InnerFits, BodyFits, DefFits}

both_true : (a b : Bool) → (a && b) ≡ true → (a ≡ true) × (b ≡ true)
both_true a b h = grind arith

six_true : (a b c d e f : Bool) → (a && (b && (c && (d && (e && f))))) ≡ true → (a ≡ true) × (b ≡ true) × (c ≡ true) × (d ≡ true) × (e ≡ true) × (f ≡ true)
six_true a b c d e f h =
    let p = both_true a (b && (c && (d && (e && f)))) h in
    let q = both_true b (c && (d && (e && f))) p.1 in
    let r = both_true c (d && (e && f)) q.1 in
    let s = both_true d (e && f) r.1 in
    let t = both_true e f s.1 in
    (p.0, q.0, r.0, s.0, t.0, t.1)

test_eq : (m n : ℕ) → nat_eq m n ≡ true → m ≡ n
test_eq m n h = grind (arith, nat_tests)

pub test_lt : (m n : ℕ) → nat_lt m n ≡ true → m < n
test_lt m n h = grind (arith, nat_tests)

pub earlier_lt : (n d : ℕ) → is_earlier n (ADef d) ≡ true → d < n
unfolding is_earlier
earlier_lt n d h = test_lt d n h

-- gates mean the same with others behind them
get_before : (before more : List Def) (d : ℕ) → d < length before → slice_get (before ++ more) d ≡ slice_get before d
get_before [] more d lt = absurd (omega arith)
get_before (x ∷ xs) more zero lt = refl
get_before (x ∷ xs) more (suc d) lt = get_before xs more d (omega arith)

params_before : (before more : List Def) (c : Called) → is_earlier (length before) c ≡ true → params_of (before ++ more) c ≡ params_of before c
params_before before more U h = refl
params_before before more Cx h = refl
params_before before more (ADef d) h = ap params_of_def (get_before before more d (earlier_lt (length before) d h))

args_before : (before more : List Def) (c : Called) → is_earlier (length before) c ≡ true → args_of (before ++ more) c ≡ args_of before c
args_before before more U h = refl
args_before before more Cx h = refl
args_before before more (ADef d) h = ap args_of_def (get_before before more d (earlier_lt (length before) d h))

size_before : (before more : List Def) (c : Called) → is_earlier (length before) c ≡ true → size_of (before ++ more) c ≡ size_of before c
size_before before more U h = refl
size_before before more Cx h = refl
size_before before more (ADef d) h = ap size_of_def (get_before before more d (earlier_lt (length before) d h))

module _ (before more : List Def) (params args : ℕ) where
  inner_fits : (i : Inner) → inner_sound before params args i ≡ true → InnerFits (before ++ more) (length before) args i
  unfolding inner_sound
  inner_fits i s =
      let h = six_true (is_earlier (length before) i.gate) (nat_eq (length i.params) (params_of before i.gate)) (exprs_below params i.params) (nat_eq (length i.args) (args_of before i.gate)) (all_below args i.args) (all_different i.args) s in
      record {
        earlier = h.0;
        params = test_eq (length i.params) (params_of before i.gate) h.1 ∙ sym (params_before before more i.gate h.0);
        takes = test_eq (length i.args) (args_of before i.gate) h.3 ∙ sym (args_before before more i.gate h.0);
        below = h.4;
        different = h.5;
      }

  body_fits : (is : List Inner) → body_sound before params args is ≡ true → BodyFits (before ++ more) (length before) args is
  unfolding body_sound
  body_fits [] s = tt
  body_fits (i ∷ is) s = let h = both_true (inner_sound before params args i) (body_sound before params args is) s in (inner_fits i h.0, body_fits is h.1)

  count_before : (is : List Inner) → body_sound before params args is ≡ true → prim_count before is ≡ prim_count (before ++ more) is
  unfolding body_sound prim_count
  count_before [] s = refl
  count_before (i ∷ is) s =
      let h = both_true (inner_sound before params args i) (body_sound before params args is) s in
      let e = size_before before more i.gate (inner_fits i h.0).earlier in
      let f = count_before is h.1 in
      ap (λ n. n + prim_count before is) (sym e) ∙ ap (λ n. size_of (before ++ more) i.gate + n) f

def_fits_here : (before more : List Def) (d : Def) → def_sound before d ≡ true → DefFits (before ++ more) (length before) d
def_fits_here before more d s =
    let h = both_true (body_sound before d.params d.args d.body) (nat_eq d.size (body_size before d.body)) s in
    record {
      body = body_fits before more d.params d.args d.body h.0;
      size = test_eq d.size (body_size before d.body) h.1 ∙ ap (λ n. min n 4097) (count_before before more d.params d.args d.body h.0);
    }

def_fits_from : (before ds : List Def) (k n : ℕ) (g : Def) → defs_sound_from before ds ≡ true → slice_get ds k ≡ Some g → n ≡ length before + k → DefFits (before ++ ds) n g
unfolding defs_sound_from
def_fits_from before [] k n g s e q = cc
def_fits_from before (d ∷ ds) zero n g s e q =
    let h = both_true (def_sound before d) (defs_sound_from (before ++ (d ∷ [])) ds) s in
    let same : d ≡ g = cc in
    let m : length before ≡ n = omega arith in
    subst (λ x. DefFits (before ++ (d ∷ ds)) n x) same (subst (λ x. DefFits (before ++ (d ∷ ds)) x d) m (def_fits_here before (d ∷ ds) d h.0))
def_fits_from before (d ∷ ds) (suc k) n g s e q =
    let h = both_true (def_sound before d) (defs_sound_from (before ++ (d ∷ [])) ds) s in
    let m : n ≡ length (before ++ (d ∷ [])) + k = omega (arith, length-append before (d ∷ [])) in
    subst (λ x. DefFits x n g) (append_assoc before (d ∷ []) ds) (def_fits_from (before ++ (d ∷ [])) ds k n g h.1 e m)

-- a gate of a sound list
pub def_fits : (defs : List Def) (d : ℕ) (g : Def) → defs_sound defs ≡ true → slice_get defs d ≡ Some g → DefFits defs d g
def_fits defs d g s e = def_fits_from [] defs d d g s e (omega arith)

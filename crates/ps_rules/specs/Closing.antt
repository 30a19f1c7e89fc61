-- Names that close up in place: terms and monomials, one after another.
use Rattle.std.specs.Prelude.{ℕ, ◌≡◌, Bool, false, not, ◌&&◌, nat_eq, List, map, length}
use Rattle.ps_mono.specs.Truth.{with_value}
use Rattle.ps_bool.specs.Polys.{bool_value, occurs}
use Rattle.ps_sum.specs.Forms.{AllPolys}
use Rattle.ps_sum.specs.Outs.{values, outs_occur}
use Rattle.ps_phase.specs.declared.terms.Term.{Term}
use Rattle.ps_phase.specs.Adding.{terms_without}
use Rattle.ps_sum.specs.Names.{closed}

-- the monomial with the names above v one lower
abbrev pub closed_mono : ℕ → List ℕ → List ℕ
closed_mono v m = map (λ u. closed v u) m

abbrev pub closed_term : ℕ → Term → Term
closed_term v t = record { mono = closed_mono v t.mono; phase = t.phase }

abbrev pub closed_terms : ℕ → List Term → List Term
closed_terms v ts = map (λ t. closed_term v t) ts

-- the terms without v, closed up
abbrev pub settled_terms : ℕ → List Term → List Term
settled_terms v ts = closed_terms v (terms_without v ts)

abbrev pub closed_monos : ℕ → List (List ℕ) → List (List ℕ)
closed_monos v f = map (λ m. closed_mono v m) f

abbrev pub closed_polys : ℕ → List (List (List ℕ)) → List (List (List ℕ))
closed_polys v fs = map (λ f. closed_monos v f) fs

-- the outputs with q in place of v
pub record IsReplaced (v : ℕ) (q : List (List ℕ)) (fs gs : List (List (List ℕ))) : Type 0 where
  pub size : length gs ≡ length fs
  pub value : (a : ℕ → Bool) → values gs a ≡ values fs (with_value a v (bool_value q a))
  pub known : (u : ℕ) → (outs_occur u fs && not (nat_eq u v)) ≡ false → occurs u q ≡ false → outs_occur u gs ≡ false
  pub form : AllPolys gs

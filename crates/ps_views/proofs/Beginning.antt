-- Fields with nothing in them.
use Rattle.std.proofs.Common.{◌≡◌, ◌<◌, ◌≤◌, ◌+◌, ℕ, zero, suc, Bool, true, false, List, [], ◌∷◌, length, replicate, refl, sym, ap, ◌∙◌, subst, arith}
use Rattle.std.specs.Prelude.{Option, Some, None, slice_get, slice_index_or}
use Rattle.seg_tree.specs.Trees.{Tree}
use Rattle.ps_script.specs.declared.name.Place.{Place}
use Rattle.ps_versions.specs.Held.{Held, Version, Circuit}
use Rattle.ps_versions.specs.Lookup.{place_of, circuit_in, version_in}
use Rattle.ps_versions.specs.Reached.{is_reached}
use Rattle.ps_journal.specs.declared.seats.Pin.{Pin}
use Rattle.ps_journal.specs.declared.seats.Claim.{Claim}
use Rattle.ps_journal.specs.State.{State, empty}
use Rattle.ps_views.specs.Counts.{pins_on}
use Rattle.ps_views.specs.Older.{IsForest}
use Rattle.ps_views.specs.Fields.{Fields, IsSound, held_at}
use Rattle.ps_views.specs.Stands.{Stands}
use Rattle.ps_views.specs.declared.filed.Filed.{Filed}
use Rattle.ps_views.proofs.Lookups.{place-none}

none_pinned : (p : Place) (n : ℕ) → pins_on p (replicate n None) ≡ 0
none_pinned p zero = refl
none_pinned p (suc n) = omega (arith, none_pinned p n)

none_there : {A : Type 0} (n seat : ℕ) → slice_index_or {A = Option A} (replicate n None) seat None ≡ None
none_there zero seat = refl
none_there (suc n) zero = refl
none_there (suc n) (suc seat) = none_there n seat

length-replicate : {A : Type 0} (n : ℕ) (x : A) → length (replicate n x) ≡ n
length-replicate zero x = refl
length-replicate (suc n) x = omega (arith, length-replicate n x)

some_none : {A : Type 0} (x : A) → None ≡ Some x → ⊥
some_none x e = cc

no_version : (h : Held Filed) (p : Place) → h.circuits ≡ [] → held_at h p ≡ None
no_version h p e = ap (λ cs. version_in (circuit_in cs (place_of cs p.name)) p.version) e ∙ ap (λ o. version_in (circuit_in [] o) p.version) (place-none p.name)

no_circuit : (cs : List Circuit) (i : ℕ) (c : Circuit) → cs ≡ [] → slice_get cs i ≡ Some c → ⊥
no_circuit [] i c e g = cc
no_circuit (d ∷ cs) i c e g = cc

no_node : (ns : List (Tree ℕ)) (k : ℕ) → ns ≡ [] → k < length ns → ⊥
no_node [] k e h = omega arith
no_node (n ∷ ns) k e h = cc

not_reached : (h : Held Filed) (k : ℕ) → h.circuits ≡ [] → is_reached h k ≡ true → ⊥
not_reached h k e g = at h.circuits e g
  where
    at : (cs : List Circuit) → cs ≡ [] → is_reached (record h { circuits = cs }) k ≡ true → ⊥
    at [] e g = cc
    at (c ∷ cs) e g = cc

abbrev pub fresh_fields : Held Filed → Fields
fresh_fields h = record { versions = h; tables = []; items = []; pins = replicate 64 None; claims = replicate 64 None; terms = 0 }

module _ (h : Held Filed) (circuits : h.circuits ≡ []) (nodes : h.nodes ≡ []) (kept : h.kept ≡ []) where
  no_claim : (seat : ℕ) (c : Claim) → slice_index_or (replicate 64 None) seat None ≡ Some c → ⊥
  no_claim seat c e = some_none c (sym (none_there 64 seat) ∙ e)

  pub fresh_sound : IsSound (record { versions = h; tables = []; items = []; pins = replicate 64 None; claims = replicate 64 None; terms = 0 })
  fresh_sound = record {
    tabled = ap length (sym circuits);
    named = λ i c e. absurd (no_circuit h.circuits i c circuits e);
    wide = λ i c e. absurd (no_circuit h.circuits i c circuits e);
    lives = λ i k c v e g. absurd (no_circuit h.circuits i c circuits e);
    grown = record {
      named = λ k e. absurd (no_node h.nodes k nodes e);
      left = λ k n l r e g. absurd (no_node h.nodes k nodes e);
      right = λ k n l r e g. absurd (no_node h.nodes k nodes e);
    };
    rooted = λ i k r c v e g w. absurd (no_circuit h.circuits i c circuits e);
    recorded = ap length kept ∙ ap length (sym nodes);
    numbered = λ k e. absurd (no_node h.nodes k nodes e);
    seats = (length-replicate {A = Option Pin} 64 None, length-replicate {A = Option Claim} 64 None);
    pinned = λ p e. absurd (omega (arith, none_pinned p 64, e));
    counted = λ p v e. absurd (some_none v (sym (no_version h p circuits) ∙ e));
    claimed = λ seat c e. absurd (no_claim seat c e);
    ready = λ seat c v e g k. absurd (no_claim seat c e);
    room = omega arith;
  }

  pub fresh_stands : Stands (record { versions = h; tables = []; items = []; pins = replicate 64 None; claims = replicate 64 None; terms = 0 }) empty
  fresh_stands = record {
    circuits = refl;
    published = λ k e. absurd (not_reached h k circuits e);
    unnamed = λ k e. refl;
    pins = refl;
    claims = refl;
    terms = refl;
    names = ap length (sym nodes);
  }

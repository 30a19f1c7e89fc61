-- What a finding for what is left of two lists of items claims of the lists.
use Rattle.std.proofs.Common.{◌≡◌, ℕ, refl, sym, ◌∙◌, subst, List, []}
use Rattle.ps_prim.specs.declared.prims.Primitive.{Primitive as Prim}
use Rattle.ps_prim.specs.Maps.{AllWithin, SameMap, DiffersAt}
use Rattle.ps_rules.specs.declared.steps.Step.{Step}
use Rattle.ps_overlap.specs.Overlapping.{point}
use Rattle.ps_overlap.proofs.LeastPoints.{point_length}
use Rattle.ps_reach.specs.Runs.{run_of}
use Rattle.ps_reach.specs.Findings.{Finding, yes, yes_phase, no, no_pair, stuck, limit, IsJustified}
use Rattle.ps_reach.specs.declared.mode.Mode.TheVariants.{Exact, Phase}
use Rattle.ps_normal.specs.declared.decision.Decision.{Decision}
use Rattle.ps_normal.specs.declared.decision.Decision.TheVariants as decision
use Rattle.ps_normal.specs.Comparing.{Settles, early, both, IsDecision}
use Rattle.ps_normal.specs.Fillings.{CanRun}
use Rattle.ps_cut.specs.Ends.{SharesEnds}
use Rattle.ps_cut.proofs.Congruence.{map_reflexive}
use Rattle.ps_cut.proofs.Cancelling.{not_both}
use Rattle.ps_cut.proofs.Ends.{ends_differ, frontless_differs}
use Rattle.ps_local.specs.declared.cut.Cut.{Cut}
use Rattle.ps_local.specs.declared.local.Found.{Found}
use Rattle.ps_local.specs.declared.local.Found.TheVariants.{Nothing, Decided, Windows}
use Rattle.ps_local.specs.Cuts.{IsCut}
use Rattle.ps_local.specs.Local.{NothingLeft, Finds, nothing, something, windowed, IsCompared, IsFound, IsLocal, DiffersBehind, Tells}
use Rattle.ps_local.specs.LocalLaws.{FoundFinds, FindingTells}
use Rattle.ps_local.proofs.Pieces.{shared_ends, middles_same, middles_tell}
use Rattle.ps_local.proofs.Windowing.{settled_justified, windows_tell}

differs_behind : (n : ℕ) (I K : List (List Prim)) (c : Cut) (bits : List ℕ) → IsCut I K c → AllWithin n (run_of I) → DiffersAt n (run_of c.first) (run_of c.second) (point n bits) → DiffersBehind n I K c bits
differs_behind n I K c bits h w d =
    let s = shared_ends n I K c h in
    let e = s.within w in
    record {
      middles = d;
      somewhere = ends_differ n _ _ s.front _ _ s.back (point n bits) s.ends e.0 e.1 (point_length n bits) d;
      apart = λ m. not_both n _ _ _ d (middles_tell n I K c h w m (point n bits) (point_length n bits));
      frontless = λ z. frontless_differs n _ _ _ _ s.back (point n bits) (subst (λ F. SharesEnds n (run_of I) (run_of K) F (run_of c.first) (run_of c.second) s.back) (s.none z) s.ends) e.1 (point_length n bits) d;
    }

other_mode : Exact ≡ Phase → ⊥
other_mode e = cc

justified_tells : (n : ℕ) (I K : List (List Prim)) (c : Cut) (f : Finding) → IsCut I K c → AllWithin n (run_of I) → IsJustified n (run_of c.first) (run_of c.second) Exact f → Tells n I K c f
justified_tells n I K c yes h w j = middles_same n I K c h j.1
justified_tells n I K c (yes_phase p) h w j = other_mode j.0
justified_tells n I K c (no bits) h w j = differs_behind n I K c bits h w j
justified_tells n I K c (no_pair x y) h w j = other_mode j.0
justified_tells n I K c (stuck S) h w j = j
justified_tells n I K c (limit e) h w j = j

same_nothing : (n : ℕ) (M N : List (List Prim)) → M ≡ [] → N ≡ [] → SameMap n (run_of M) (run_of N)
same_nothing n M N a b = subst (λ (L : List (List Prim)). SameMap n (run_of M) (run_of L)) (a ∙ sym b) (map_reflexive n (run_of M))

found_tells : (n : ℕ) (I K : List (List Prim)) (c : Cut) {f : Finding} → IsCut I K c → AllWithin n (run_of I) → Finds n c.first c.second f → Tells n I K c f
found_tells n I K c h w (nothing e) = middles_same n I K c h (same_nothing n c.first c.second e.0 e.1)
found_tells n I K c h w (something {f = f} s d) = justified_tells n I K c f h w (settled_justified n (run_of c.first) (run_of c.second) d)
found_tells n I K c h w (windowed s x) = middles_same n I K c h (windows_tell n c.first c.second x.windows)

pub finding_tells : FindingTells
finding_tells n I K c f h w r = found_tells n I K c h w r

pub found_finds : FoundFinds
found_finds n M N Nothing h = nothing h
found_finds n M N (Decided (decision.Judged j)) h = let d = h.1.decided in something h.0 (both d)
found_finds n M N (Decided (decision.Passed e)) h = something h.0 (early h.1)
found_finds n M N Windows h = windowed h.0 h.1

-- ---- what was asked
found_some : (n : ℕ) (M N : List (List Prim)) (f : Found) → ¬ (NothingLeft M N) → IsCompared n M N f → IsFound n M N f
found_some n M N Nothing s h = absurd h
found_some n M N (Decided d) s h = (s, h)
found_some n M N Windows s h = (s, h)

pub asked : (n : ℕ) (I K : List (List Prim)) (c : Cut) (f : Found) → IsCut I K c → ¬ (NothingLeft c.first c.second) → IsCompared n c.first c.second f → IsLocal n I K (record { front = c.front; back = c.back; found = f })
asked n I K c f h s r = record { cut = c; is_cut = h; front = refl; back = refl; found = found_some n c.first c.second f s r }

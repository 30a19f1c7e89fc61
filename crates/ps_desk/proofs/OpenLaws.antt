-- A new desk meets the rule.
use Rattle.std.proofs.Common.{◌≡◌, ℕ, zero, suc, ◌≤◌, List, [], ◌∷◌, Some, None, refl, sym, ap, ◌∙◌, subst, inl, arith}
use mathlib.Core.Option.{some, some-injective, some-ne-none}
use lib.ListN.{get_elem?}
use Rattle.atomic_table.specs.Table.{opening}
use Rattle.ps_desk.specs.declared.entry.Entry.{Entry}
use Rattle.ps_desk.specs.declared.view.View.{View}
use Rattle.ps_desk.specs.Views.{opened}
use Rattle.ps_desk.specs.Rule.{Core, core, Fits, Rule}

only : {A : Type 0} (a b : A) (i : ℕ) → get_elem? (a ∷ []) i ≡ some b → (i ≡ 0) × (a ≡ b)
only a b zero e = (refl, some-injective a b e)
only a b (suc i) e = absurd (some-ne-none b (sym e))

none_at : {A : Type 0} (b : A) (i : ℕ) → get_elem? [] i ≡ some b → ⊥
none_at b i e = some-ne-none b (sym e)

module _ {O C R : Type 0} (journal : O → List (Entry C R)) (spare : O → ℕ) (legal : List (Entry C R) → Type 0) (seats : ℕ) where
  pub opens : (o : O) → 1 ≤ seats → seats ≤ 64 → journal o ≡ [] → legal [] → 262144 ≤ spare o
      → Rule journal spare legal seats (opening (0 ∷ 0 ∷ []) (Some o ∷ []) (opened seats))
  opens o one most fresh lawful room =
      let v : View C R = opened seats in
      record {
        history = [];
        tickets = 0;
        words = refl;
        lawful = lawful;
        behind = omega arith;
        home = λ _. (o, refl, fresh, omega arith);
        away = λ i u h e f. absurd (let z : None ≡ Some h = ap (λ (x : View C R). x.found) (only v u i e).1 ∙ f in cc);
        each = λ i u e. subst (Fits [] 0) (only v u i e).1 (record {
          seen = ([], refl);
          told = ([], refl);
          own = λ _. refl;
          own_seen = λ _. refl;
          ticket = λ t e'. absurd (let z : None ≡ Some t = e' in cc);
          found = λ h e'. absurd (let z : None ≡ Some h = e' in cc);
          refused = λ t e'. absurd (let z : None ≡ Some t = e' in cc);
        });
        apart = λ i j t a b ea eb ta tb. (only v a i ea).0 ∙ sym (only v b j eb).0;
        waited = λ t low high small. absurd (omega arith);
        roster = record {
          first = core v;
          at_first = refl;
          first_is = (refl, refl, one, refl);
          covers = λ n low. inl (omega arith);
          numbers = λ i j a b ea eb la lb same. (only (core v) a i ea).0 ∙ sym (only (core v) b j eb).0;
          below = λ i a ea la. let z : 0 ≡ a.number = ap (λ (k : Core C R). k.number) (only (core v) a i ea).1 in omega arith;
          others = λ i a ea la other. absurd (other (only (core v) a i ea).0);
          ended = λ k e at. absurd (none_at e k at);
          over = λ k i e a at _ _. absurd (none_at e k at);
          unused = λ n le. refl;
        };
        few = omega arith;
        shared = (omega arith, most);
      }

-- The steps of a seat, as the calls of the table ask for them.
use Rattle.std.proofs.Common.{◌≡◌, ℕ, ◌+◌, ◌%◌, ◌^◌, ◌≤◌, true, List, [], ◌∷◌, ◌++◌, length, Option, Some, None, sym, ap, ◌∙◌, subst}
use Rattle.atomic_table.specs.Table.{Me, Allows, rest}
use Rattle.ps_desk.specs.declared.entry.Entry.{Entry}
use Rattle.ps_desk.specs.declared.view.View.{View}
use Rattle.ps_desk.specs.Rule.{Rule}
use Rattle.ps_desk.specs.Steps.{Draws, Looks, Ends, Settles, Sitting}
use Rattle.ps_desk.proofs.DrawLaws.{draws}
use Rattle.ps_desk.proofs.TurnLaws.{looks, ends}
use Rattle.ps_desk.proofs.SettleLaws.{settles}

-- A fact of a seat that holds nothing, at a table of one slot.
at_rest : {O C R : Type 0} (P : ℕ → Sitting O C R → Type 0) (slots : ℕ) (m m0 : Sitting O C R) → slots ≡ 1 → m ≡ m0 → m0.1 ≡ []
    → P 1 (m0.0, []) → P slots m
at_rest {O} {C} {R} P slots m m0 one same empty p =
    let Q : List (ℕ × Option O) → Type 0 = λ c. P 1 (m0.0, c) in
    let S : ℕ → Type 0 = λ k. P k m0 in
    subst (P slots) (sym same) (subst S (sym one) (subst Q (sym empty) p))

module _ {O C R : Type 0} (journal : O → List (Entry C R)) (spare : O → ℕ) (legal : List (Entry C R) → Type 0) (seats slots id : ℕ) (m m0 : Sitting O C R)
    (one : slots ≡ 1) (same : m ≡ m0) (live : m0.0.live ≡ true) where
  pub draw_allowed : m0.1 ≡ [] → m0.0.ticket ≡ None → m0.0.found ≡ None → m0.0.refused ≡ None
      → Allows (Rule journal spare legal seats) slots id m 0 (λ n. (n + 1) % 2 ^ 64) (Draws m)
  draw_allowed empty idle calm first =
      let P : ℕ → Sitting O C R → Type 0 = λ k n. Allows (Rule journal spare legal seats) k id n 0 (λ n. (n + 1) % 2 ^ 64) (Draws n) in
      at_rest P slots m m0 one same empty (draws journal spare legal seats id m0.0 live idle calm first)

  pub look_allowed : m0.1 ≡ [] → m0.0.found ≡ None → Allows (Rule journal spare legal seats) slots id m 1 (λ n. n) (Looks journal spare legal m)
  look_allowed empty calm =
      let P : ℕ → Sitting O C R → Type 0 = λ k n. Allows (Rule journal spare legal seats) k id n 1 (λ n. n) (Looks journal spare legal n) in
      at_rest P slots m m0 one same empty (looks journal spare legal seats id m0.0 live calm)

  pub settle_allowed : m0.1 ≡ [] → m0.0.found ≡ None → Allows (Rule journal spare legal seats) slots id m 1 (λ n. n) (λ n w. Settles m w)
  settle_allowed empty calm =
      let P : ℕ → Sitting O C R → Type 0 = λ k n. Allows (Rule journal spare legal seats) k id n 1 (λ n. n) (λ _ w. Settles n w) in
      at_rest P slots m m0 one same empty (settles journal spare legal seats id m0.0 live calm)

pub end_allowed : {O C R : Type 0} (journal : O → List (Entry C R)) (spare : O → ℕ) (legal : List (Entry C R) → Type 0) (seats slots id : ℕ) (m : Sitting O C R)
    (v : View C R) (o : O) → slots ≡ 1 → m ≡ (v, (0, Some o) ∷ []) → v.live ≡ true → (h : List (Entry C R)) (x : Entry C R)
    → v.found ≡ Some h → journal o ≡ h ++ x ∷ [] → x.seat ≡ v.number → legal (journal o) → 262144 ≤ spare o + length (journal o)
    → Allows (Rule journal spare legal seats) slots id m 1 (λ n. (n + 1) % 2 ^ 64) (Ends journal m)
end_allowed {O} {C} {R} journal spare legal seats slots id m v o one same live h x mine adds by lawful room =
    let P : ℕ → Sitting O C R → Type 0 = λ k n. Allows (Rule journal spare legal seats) k id n 1 (λ n. (n + 1) % 2 ^ 64) (Ends journal n) in
    let p : P 1 (v, (0, Some o) ∷ []) = ends journal spare legal seats id v live o h x mine adds by lawful room in
    subst (P slots) (sym same) (subst (λ k. P k (v, (0, Some o) ∷ [])) (sym one) p)

pub holds_first : {S : Type 0} (c : List (ℕ × S)) (x : S) → c ≡ (0, x) ∷ [] → c ≡ (0, x) ∷ rest c
holds_first c x e = e ∙ ap (λ l. (0, x) ∷ rest l) (sym e)

some_same : {O : Type 0} {a b : O} → Some a ≡ Some b → a ≡ b
some_same e = cc

-- What an exchange found is what the seat held.
pub found_held : {O : Type 0} (c : List (ℕ × Option O)) (o b : O) (r : Option O) → c ≡ (0, Some o) ∷ [] → c ≡ (0, r) ∷ rest c → r ≡ Some b → b ≡ o
found_held {O} c o b r held found is =
    let one : (0, Some o) ≡ (0, r) = cc in
    let inner : Some o ≡ r = ap (λ (k : ℕ × Option O). k.1) one in
    let both : Some b ≡ Some o = sym is ∙ sym inner in
    some_same both

-- What a seat holds after it took the object out and put one back.
pub puts : {O V : Type 0} (m m2 m3 : Me (Option O) V) (o b : O) (r : Option O) → m.1 ≡ (0, Some o) ∷ [] → m2 ≡ (m.0, (0, r) ∷ rest m.1)
    → m3 ≡ (m2.0, (0, Some b) ∷ rest m2.1) → m3 ≡ (m.0, (0, Some b) ∷ [])
puts {O} {V} m m2 m3 o b r held e2 e3 =
    let tail : rest m2.1 ≡ [] = ap (λ (x : Me (Option O) V). rest x.1) e2 ∙ ap rest held in
    let view : m2.0 ≡ m.0 = ap (λ (x : Me (Option O) V). x.0) e2 in
    e3 ∙ (ap (λ (v : V). (v, (0, Some b) ∷ rest m2.1)) view ∙ ap (λ (l : List (ℕ × Option O)). (m.0, (0, Some b) ∷ l)) tail)

-- A seat between turns, after it gave a number away or took a seat back.
use Rattle.std.proofs.Common.{◌≡◌, ℕ, ◌-◌, List, [], Option, refl, sym, ap, ◌∙◌, subst, arith}
use Rattle.ps_desk.specs.declared.entry.Entry.{Entry}
use Rattle.ps_desk.specs.declared.view.View.{View}
use Rattle.ps_desk.specs.Views.{Has, receiving, settled, joined, own_of, IsBeginning}
use Rattle.ps_desk.specs.Steps.{Sitting, Settles}
use Rattle.ps_desk.specs.Resting.{Rests}
use Rattle.ps_desk.proofs.ListLemmas.{length_less}

-- With nothing told of before, what the two steps of a join come to.
joined_is : {C R : Type 0} (v w : View C R) → v.told ≡ [] → settled (receiving v w) ≡ joined v w
joined_is {C} {R} v w none = ap (λ (l : List (Entry C R)). record (joined v w) { told = l }) (sym none)

module _ {O C R : Type 0} (m mid after : Sitting O C R) (w : View C R) (number next end out : ℕ) (refused : Option ℕ) (r : Rests m number next end out refused)
    (is : mid ≡ (receiving m.0 w, m.1)) (told : Settles mid after) where
  -- What the seat then knows.
  pub view_joined : after.0 ≡ joined m.0 w
  view_joined =
      ap (λ (k : Sitting O C R). k.0) told.seat ∙ (ap (λ (k : Sitting O C R). settled k.0) is ∙ joined_is m.0 w r.told)

  pub seen_joined : IsBeginning m.0.seen after.0.seen × IsBeginning w.seen after.0.seen
  seen_joined =
      let view : after.0 ≡ settled mid.0 = ap (λ (k : Sitting O C R). k.0) told.seat in
      let P : View C R → Type 0 = λ k. IsBeginning mid.0.seen k.seen × IsBeginning mid.0.told k.seen in
      let both = subst P (sym view) (told.seen, told.told) in
      let Q : Sitting O C R → Type 0 = λ k. IsBeginning k.0.seen after.0.seen × IsBeginning k.0.told after.0.seen in
      subst Q is both

  pub rests_joined : Has m.0.out w.number → Rests after number next end (out - 1) refused
  rests_joined has =
      let P : Sitting O C R → Type 0 = λ k. k.0.own ≡ own_of k.0.number (settled k.0).seen → Rests (settled k.0, k.1) number next end (out - 1) refused in
      let Q : Sitting O C R → Type 0 = λ k. Rests k number next end (out - 1) refused in
      let l = length_less m.0.out w.number has in
      let o = r.out_is in
      subst Q (sym told.seat) (subst P (sym is) (λ own. record {
        holds = r.holds;
        live = r.live;
        ticket = r.ticket;
        found = r.found;
        told = refl;
        number_is = r.number_is;
        spare = r.spare;
        out_is = (omega arith, omega arith);
        refused_is = r.refused_is;
        over = r.over;
        own = own ∙ ap (λ n. own_of n (settled (receiving m.0 w)).seen) r.number_is.0;
        plain = λ other. absurd (subst (λ (k : List ℕ). Has k w.number) (r.plain other).1 has);
      }) told.own)

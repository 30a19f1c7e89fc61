-- What pinning is answered.
use Rattle.std.proofs.Common.{◌≡◌, ℕ, length, refl, sym, subst}
use Rattle.std.specs.Prelude.{Option, Some, None}
use Rattle.ps_script.specs.declared.name.Place.{Place}
use Rattle.ps_journal.specs.declared.replies.Reply.{Reply}
use Rattle.ps_journal.specs.declared.replies.Reply.TheVariants.{Pinned, Widths}
use Rattle.ps_journal.specs.State.{State}
use Rattle.ps_journal.specs.Pinning.{Pins, pinned}
use Rattle.ps_journal.specs.Pinning as pinning
use Rattle.ps_views.specs.Fields.{Fields}
use Rattle.ps_views.specs.Stands.{Stands, Leaves}
use Rattle.ps_views.specs.Living.{LivesAt, RefusesAt}
use Rattle.ps_views.proofs.Replies.{pins_refused_second, pins_widths, pins_one_now, pins_two_now}

module _ (f : Fields) (tabled : length f.tables ≡ length f.versions.circuits) (i seat : ℕ) (first : Place) (second : Option Place) (r : Reply)
    (t : State) (so : Stands f t) where
  pub refused_first : RefusesAt f first r → Leaves (λ new. Pins t i seat first second r new) f
  refused_first h = record { state = t; does_so = pinning.first_refused (h t so); stands = so }

  -- what was asked leaves this state
  leaves : (o : Option Place) (y : Reply) (g : Fields) (new : State) → second ≡ o → r ≡ y → Pins t i seat first o y new → Stands g new
      → Leaves (λ new. Pins t i seat first second r new) g
  leaves o y g new e is p s = record {
    state = new;
    does_so = subst (λ x. Pins t i seat first x r new) (sym e)
        (subst (λ x. Pins t i seat first o x new) (sym is) p);
    stands = s;
  }

  pub refused_second : (q : Place) (m : ℕ) → second ≡ Some q → LivesAt f first m → RefusesAt f q r → Leaves (λ new. Pins t i seat first second r new) f
  refused_second q m e a h = leaves (Some q) r f t e refl (pins_refused_second f t so tabled i seat first q m r a (h t so)) so

  pub widths_differ : (q : Place) (m n : ℕ) → second ≡ Some q → LivesAt f first m → LivesAt f q n → (m ≡ n → ⊥) → r ≡ Widths m n
      → Leaves (λ new. Pins t i seat first second r new) f
  widths_differ q m n e a b off is = leaves (Some q) (Widths m n) f t e is (pins_widths f t so tabled i seat first q m n a b off) so

  module _ (g : Fields) (is : r ≡ Pinned) where
    pub one_pinned : (m : ℕ) → second ≡ None → LivesAt f first m → Stands g (pinned i seat first None t) → Leaves (λ new. Pins t i seat first second r new) g
    one_pinned m e a s = leaves None Pinned g (pinned i seat first None t) e is (pins_one_now f t so tabled i seat first m a) s

    pub two_pinned : (q : Place) (m n : ℕ) → second ≡ Some q → LivesAt f first m → LivesAt f q n → m ≡ n → Stands g (pinned i seat first (Some q) t)
        → Leaves (λ new. Pins t i seat first second r new) g
    two_pinned q m n e a b same s = leaves (Some q) Pinned g (pinned i seat first (Some q) t) e is (pins_two_now f t so tabled i seat first q m n a b same) s

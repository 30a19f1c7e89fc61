use Rattle.std.proofs.Common.{◌≡◌, ◌++◌, [], ◌∷◌, map, refl, sym, ap, ◌∙◌, subst}
use Rattle.ps_rules.specs.declared.steps.Move.TheVariants.{Id}
use Rattle.ps_reach.specs.Runs.{prims_of}
use Rattle.ps_journal.specs.Summing.{IsIdentity}
use Rattle.ps_book.proofs.Identities.{identity_few, identity_within, identity_scale, identity_right, identity_fills}
use Rattle.ps_book.proofs.summing.identity_record.Goals as goal

pub invariant_of-record : goal.invariant_of-record
invariant_of-record c =
    let none : c.in_ok-items.items.value ≡ [] = c.in_ok-items.ensures.ok ∙ c.from_vec.ensures ∙ ap (map prims_of) c.new-2.ensures.items in
    let moves : c.from_vec-2.result ≡ Id ∷ [] = c.from_vec-2.ensures ∙ c.in_ok-push.ensures.items ∙ ap (λ xs. xs ++ Id ∷ []) c.new-moves.ensures.items in
    let n = c.args.n in
    let first = c.in_ok-identity.field-0 in
    let sum = c.in_ok-sum.sum in
    let items = c.in_ok-items.items.value in
    record {
      qubits = c.requires;
      few = identity_few n first sum c.from_vec-2.result items c.in_ok-identity.ensures.sum c.in_ok-sum.ensures.ok moves none;
      within = identity_within n first sum c.from_vec-2.result items c.in_ok-identity.ensures.sum c.in_ok-sum.ensures.ok moves none;
      scaled = identity_scale n first sum c.from_vec-2.result items c.in_ok-identity.ensures.sum c.in_ok-sum.ensures.ok moves none;
      right = identity_right n first sum c.from_vec-2.result items c.in_ok-identity.ensures.sum c.in_ok-sum.ensures.ok moves none;
    }

pub returns : goal.returns
returns c =
    let none : c.in_ok-items.items.value ≡ [] = c.in_ok-items.ensures.ok ∙ c.from_vec.ensures ∙ ap (map prims_of) c.new-2.ensures.items in
    let moves : c.from_vec-2.result ≡ Id ∷ [] = c.from_vec-2.ensures ∙ c.in_ok-push.ensures.items ∙ ap (λ xs. xs ++ Id ∷ []) c.new-moves.ensures.items in
    subst (IsIdentity c.args.n) (sym c.in_ok-new.ensures.ok)
    (record {
      qubits = refl;
      items = none;
      filled = identity_fills c.args.n c.in_ok-identity.field-0 c.in_ok-sum.sum.value c.from_vec-2.result
          c.in_ok-identity.ensures.sum c.in_ok-sum.ensures.ok moves;
    })

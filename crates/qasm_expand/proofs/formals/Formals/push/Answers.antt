use Rattle.std.proofs.Common.{◌∙◌, ap, ap₂, vec_items, map, ◌++◌, ◌∷◌, []}
use Rattle.std.specs.Option.{is_none}
use Rattle.qasm_expand.specs.Gates.{place_of}
use Rattle.qasm_expand.proofs.Lookups.{new_of_keys, pushed_keys}
use Rattle.qasm_expand.proofs.formals.Formals.push.Goals as goal

pub returns-clause-told : goal.returns-clause-told
returns-clause-told c =
    let k = c.in_ok-to_vec.field-0 in
    c.in_ok-new.ensures.added ∙ new_of_keys c.self.inside.table.keys k.items ∙ ap₂ (λ b n. is_none (place_of b n)) c.self.view_is (c.in_ok-to_vec.ensures.items_if_clones_equal (λ x y e. e))

pub returns-clause-pushed : goal.returns-clause-pushed
returns-clause-pushed c t =
    let k = c.in_ok-to_vec.field-0 in
    ap (λ ks. map vec_items ks) c.in_ok-new.ensures.keys ∙ pushed_keys c.self.inside.table.keys k c.in_ok-new.new c.in_ok-new.ensures.added t ∙ ap₂ (λ b n. b ++ n ∷ []) c.self.view_is (c.in_ok-to_vec.ensures.items_if_clones_equal (λ x y e. e))

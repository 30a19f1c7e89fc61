use Rattle.std.proofs.Common.{◌∙◌, ap, length, sym, refl, rules}
use Rattle.std.proofs.lemmas.Result.{IfOk-weaker}
use Rattle.ps_sum.proofs.TableWorths.{tabled_value, tabled_free, written_back, same_units}
use Rattle.ps_sum.proofs.tabling.tabled.Goals as goal

pub returns-clause-value : goal.returns-clause-value
returns-clause-value c = IfOk-weaker c.gather.result _ _ (λ p e. tabled_value c.args.support.now c.in_ok-names.names.items c.deref.result.now c.deref-2.result.now c.args.monos.now c.args.by c.degree.result c.in_ok-table.table.items c.deref_mut.result.now c.transform.new.table c.deref-3.result.now c.one.result
    c.new-out.result.items _ p c.in_ok-names.ensures.names c.deref.ensures.value c.deref-2.ensures.value c.degree.ensures c.deref_mut.ensures.value (c.deref-3.ensures.value ∙ written_back c.in_ok-table.table.len c.transform.new.table c.in_ok-table.table.items (c.transform.auto.table ∙ ap length c.deref_mut.ensures.value) (sym c.deref_mut.ensures.len ∙ ap length c.deref_mut.ensures.value)) c.in_ok-table.ensures.odd
    (same_units c.args.by c.units.result c.degree.result _ _ c.units.ensures c.transform.ensures) c.one.ensures c.new-out.ensures.items c.in_ok-push_words.ensures.value e) c.gather.ensures.value

pub returns-clause-variables : goal.returns-clause-variables
returns-clause-variables c = IfOk-weaker c.gather.result _ _ (λ p e. tabled_free c.args.support.now c.in_ok-names.names.items c.deref-2.result.now c.args.monos.now c.one.result c.new-out.result.items _ p c.in_ok-names.ensures.names c.deref-2.ensures.value c.one.ensures c.new-out.ensures.items
    c.requires.covered c.in_ok-push_words.ensures.variables e) c.gather.ensures.variables

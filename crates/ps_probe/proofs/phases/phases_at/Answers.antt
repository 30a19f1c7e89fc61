use Rattle.std.proofs.Common.{◌∙◌, length, ap, sym, List, ℕ}
use Rattle.ps_sum.proofs.TableWorths.{written_back}
use Rattle.ps_probe.specs.Tallies.{tallied, listing, worth}
use Rattle.ps_probe.proofs.Tables.{table_counts, names_few, names_true, table_size}
use Rattle.ps_probe.proofs.phases.phases_at.Goals as goal

pub marked-requires-clause-few : goal.marked-requires-clause-few
marked-requires-clause-few c = names_few c.args.sum.now.n c.args.sum.now.m c.deref.result.now (c.deref.ensures.value ∙ c.in_ok-names.ensures.names) c.requires.few

pub marked-requires-clause-covered : goal.marked-requires-clause-covered
marked-requires-clause-covered c = names_true c.args.sum.now.n c.args.sum.now.m c.args.at.now c.all_paths-all.result c.deref.result.now (c.deref.ensures.value ∙ c.in_ok-names.ensures.names) c.all_paths-all.ensures

pub spread-requires : goal.spread-requires
spread-requires c = ap length c.deref_mut.ensures.value ∙ table_size c.args.sum.now.n c.args.sum.now.m c.deref.result.now c.in_ok-table.table.items (c.deref.ensures.value ∙ c.in_ok-names.ensures.names) c.in_ok-table.ensures.size

pub returns : goal.returns
returns c =
    let back = written_back c.in_ok-table.table.len c.spread.new.table c.in_ok-table.table.items (c.spread.auto.table ∙ ap length c.deref_mut.ensures.value) (sym c.deref_mut.ensures.len ∙ ap length c.deref_mut.ensures.value) in
    λ j. table_counts c.args.sum.now c.args.at.now c.all_paths-all.result c.deref.result.now c.in_ok-table.table.items c.spread.new.table c.terms.result.now c.requires.closed (c.deref.ensures.value ∙ c.in_ok-names.ensures.names) c.terms.ensures.value c.all_paths-all.ensures
    c.in_ok-table.ensures.worth (c.spread.ensures ∙ ap (λ (r : List ℕ). listing c.args.sum.now.m (λ y. worth y r 0)) c.deref_mut.ensures.value) j ∙ sym (ap (λ (r : List ℕ). tallied r j) back)

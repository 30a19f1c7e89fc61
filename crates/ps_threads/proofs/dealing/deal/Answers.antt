use Rattle.std.proofs.Common.{rules, ◌≡◌, ◌<◌, ◌∷◌, [], ◌++◌, length, ap, sym, ◌∙◌, append_assoc, arith}
use mathlib.Core.Option.{some}
use Rattle.std.specs.Vec.Iter.{into_iter_items}
use Rattle.ps_threads.proofs.ListLaws.{at_index}
use Rattle.ps_threads.proofs.DealLaws.{dealt_more}
use Rattle.ps_threads.proofs.dealing.deal.Goals as goal

pub loop-line-preserved : goal.loop-line-preserved
loop-line-preserved c =
    let i = c.loop-line.invariant in
    let l = c.in-Some.line in
    let dealt = c.loop-line.dealt.items in
    let here = c.index_mut.result.now in
    let steps : into_iter_items c.loop-line.line-iterator ≡ l ∷ into_iter_items c.next.new.self = search rules in
    let low : l.session < length dealt = omega (arith, l.low, i.len, c.loop-line.dealt.ok.0) in
    record {
      len = i.len;
      served = i.served ++ l ∷ [];
      split = i.split ∙ ap (λ ls. i.served ++ ls) steps ∙ sym (append_assoc i.served (l ∷ []) (into_iter_items c.next.new.self));
      dealt =
          dealt_more i.served l dealt here c.push.new.self i.dealt (at_index dealt l.session here low ∙ ap some (sym c.index_mut.ensures.value))
          c.in_ok-push.ensures.items;
    }

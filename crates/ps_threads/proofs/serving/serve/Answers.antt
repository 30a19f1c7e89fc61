use Rattle.std.proofs.Common.{rules, ◌≡◌, [], ◌∷◌, ◌++◌, sym, ap, ◌∙◌, append_assoc, arith}
use Rattle.std.proofs.lemmas.List.{nil_from_length}
use Rattle.std.specs.Vec.Iter.{into_iter_items}
use Rattle.ps_desk.specs.Rule.{core}
use Rattle.ps_desk.specs.Seats.{view_of, desk_of}
use Rattle.ps_threads.proofs.TurnLaws.{stays_desk, stays_core}
use Rattle.ps_threads.proofs.ServedLaws.{stands_none, seat_next, handed_done, handed_cut}
use Rattle.ps_threads.proofs.serving.serve.Goals as goal

pub loop-asked-init : goal.loop-asked-init
loop-asked-init g c =
    let made = c.new-session.ensures in
    let items : into_iter_items c.into_iter-asked-iterator.result ≡ c.args.job.commands.items = search rules in
    record {
      desk = ap desk_of made;
      core_is = ap (λ s. core (view_of s)) made;
      served = [];
      split = sym items;
      stands = stands_none (view_of c.new-session.result.seat).own (ap (λ s. (view_of s).own) made ∙ c.requires.1.own);
    }

pub loop-asked-preserved : goal.loop-asked-preserved
loop-asked-preserved g c =
    let i = c.loop-asked.invariant in
    let old = c.loop-asked.session.seat in
    let new = c.command.new.turns.seat in
    let g = c.command.ensures.grows in
    let steps : into_iter_items c.loop-asked.asked-iterator ≡ c.in-Some.asked ∷ into_iter_items c.next.new.self = search rules in
    record {
      desk = stays_desk old new g.stays ∙ i.desk;
      core_is = stays_core old new g.stays ∙ i.core_is;
      served = i.served ++ c.in-Some.asked ∷ [];
      split =
          i.split ∙ ap (λ cs. i.served ++ cs) steps
          ∙ sym (append_assoc i.served (c.in-Some.asked ∷ []) (into_iter_items c.next.new.self));
      stands = seat_next old new i.served i.stands c.in-Some.asked c.in-Ok.reply c.in-Ok.ensures.done;
    }

pub returns-in-Err : goal.returns-in-Err
returns-in-Err g c =
    let i = c.loop-asked.invariant in
    let steps : into_iter_items c.loop-asked.asked-iterator ≡ c.in-Some.asked ∷ into_iter_items c.next.new.self = search rules in
    handed_cut c.args.job.seat c.loop-asked.session.seat c.args.job.commands.items i.served i.desk i.core_is i.stands c.command.new.turns.seat
    c.finish.result (into_iter_items c.next.new.self) c.in-Some.asked c.in-Err.full.ticket (i.split ∙ ap (λ cs. i.served ++ cs) steps)
    c.command.ensures.grows c.in-Err.ensures.cut c.finish.ensures

pub returns : goal.returns
returns g c =
    let i = c.loop-asked.invariant in
    let none : into_iter_items c.loop-asked.asked-iterator ≡ [] =
    nil_from_length (into_iter_items c.loop-asked.asked-iterator) (omega (arith, c.in-None.ensures.steps.0, c.loop-asked.asked-iterator.rest.ok.0)) in
    handed_done c.args.job.seat c.loop-asked.session.seat c.args.job.commands.items i.served i.desk i.core_is i.stands c.finish-2.result
    (i.split ∙ ap (λ cs. i.served ++ cs) none) c.finish-2.ensures

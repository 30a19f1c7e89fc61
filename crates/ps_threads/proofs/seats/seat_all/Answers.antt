use Rattle.std.proofs.Common.{rules, ◌≡◌, ◌+◌, ◌∷◌, [], ◌++◌, length, ap, sym, ◌∙◌, subst, append_assoc, length-append, vec_len, arith}
use Rattle.std.specs.Vec.Iter.{into_iter_items}
use Rattle.ps_desk.specs.declared.view.View.{View}
use Rattle.ps_desk.specs.Seats.{desk_of, view_of}
use Rattle.ps_journal.specs.declared.commands.Cmd.{Cmd}
use Rattle.ps_journal.specs.declared.replies.Reply.{Reply}
use Rattle.ps_threads.specs.declared.parts.Job.{Job}
use Rattle.ps_threads.specs.Lent.{Lends}
use Rattle.ps_threads.proofs.SeatLaws.{lends_more, jobs_more}
use Rattle.ps_threads.proofs.seats.seat_all.Goals as goal

pub loop-commands-preserved : goal.loop-commands-preserved
loop-commands-preserved c =
    let i = c.loop-commands.invariant in
    let made = c.in-Ok.ensures in
    let pushed = c.push_reserved.ensures in
    let old = view_of c.loop-commands.first in
    let new = view_of c.split.new.seat in
    let steps : into_iter_items c.loop-commands.commands-iterator ≡ c.in-Some.commands ∷ into_iter_items c.next.new.self = search rules in
    let job : Job = record { seat = c.in-Ok.seat; commands = c.in-Some.commands } in
    let longer : vec_len c.push_reserved.new.self ≡ vec_len c.loop-commands.jobs + 1 = omega (arith, pushed.len) in
    let next : new.next ≡ old.next + 1 = ap (λ (v : View Cmd Reply). v.next) made.giving in
    record {
      desk = made.desk ∙ i.desk;
      ended = ap (λ (v : View Cmd Reply). v.ended) made.giving ∙ i.ended;
      end = ap (λ (v : View Cmd Reply). v.end) made.giving ∙ i.end;
      next = omega (arith, next, i.next, longer);
      lends = subst (λ n. Lends new (n + 1)) (sym longer) (lends_more old new (vec_len c.loop-commands.jobs + 1) i.lends i.next made.giving);
      count = omega (arith, i.count, ap length steps, longer);
      capacity = pushed.capacity ∙ i.capacity;
      before = i.before ++ c.in-Some.commands ∷ [];
      split =
          i.split ∙ ap (λ l. i.before ++ l) steps
          ∙ sym (append_assoc i.before (c.in-Some.commands ∷ []) (into_iter_items c.next.new.self));
      placed = omega (arith, length-append i.before (c.in-Some.commands ∷ []), i.placed, longer);
      jobs = λ lines dealt.
          jobs_more lines (desk_of c.args.first.now) c.args.dealt.items i.before (into_iter_items c.next.new.self) c.loop-commands.jobs.items
          c.push_reserved.new.self.items job old (i.split ∙ ap (λ l. i.before ++ l) steps) dealt (omega (arith, i.placed, c.loop-commands.jobs.ok.0))
          (i.jobs lines dealt) pushed.items (made.given_desk ∙ i.desk) made.given (omega (arith, i.next, c.loop-commands.jobs.ok.0));
    }

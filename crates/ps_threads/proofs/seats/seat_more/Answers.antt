use Rattle.std.proofs.Common.{◌≡◌, ◌+◌, ◌<◌, ap, ◌∙◌, length, arith}
use Rattle.ps_desk.specs.declared.view.View.{View}
use Rattle.ps_desk.specs.Seats.{desk_of, view_of}
use Rattle.ps_journal.specs.declared.commands.Cmd.{Cmd}
use Rattle.ps_journal.specs.declared.replies.Reply.{Reply}
use Rattle.ps_threads.proofs.SeatLaws.{lends_next, idle_more}
use Rattle.ps_threads.proofs.seats.seat_more.Goals as goal

pub loop-preserved : goal.loop-preserved
loop-preserved c =
    let i = c.loop.invariant in
    let made = c.in-Ok.ensures in
    let pushed = c.push_reserved.ensures in
    let old = view_of c.loop.first in
    let new = view_of c.split.new.seat in
    let next : new.next ≡ old.next + 1 = ap (λ (v : View Cmd Reply). v.next) made.giving in
    let n = i.next in
    let l = i.len in
    let r = i.room in
    let p = pushed.len in
    let q = pushed.capacity in
    let t = c.loop-test.true in
    let s = c.loop.seats.ok.0 in
    record {
      desk = made.desk ∙ i.desk;
      ended = ap (λ (v : View Cmd Reply). v.ended) made.giving ∙ i.ended;
      end = ap (λ (v : View Cmd Reply). v.end) made.giving ∙ i.end;
      next = omega (arith, next, n);
      lends = lends_next old new i.lends made.giving;
      len = omega (arith, l, p);
      few = omega (arith, t);
      room = omega (arith, r, q);
      idle =
          idle_more (desk_of c.args.first.now) (view_of c.args.first.now).next c.loop.seats.items c.push_reserved.new.self.items c.in-Ok.seat old i.idle
          pushed.items (made.given_desk ∙ i.desk) made.given (omega (arith, n, l, s));
    }

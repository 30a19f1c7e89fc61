use Rattle.std.proofs.Common.{◌≡◌, ◌+◌, ◌<◌, ◌∷◌, ◌++◌, [], length, length-append, ap, sym, ◌∙◌, subst, vec_len, arith}
use Rattle.ps_desk.specs.declared.view.View.{View}
use Rattle.ps_desk.specs.declared.view.Ended.{Ended}
use Rattle.ps_desk.specs.Seats.{view_of}
use Rattle.ps_desk.specs.Views.{Has, ended_of}
use Rattle.ps_journal.specs.declared.commands.Cmd.{Cmd}
use Rattle.ps_journal.specs.declared.replies.Reply.{Reply}
use Rattle.ps_threads.specs.Lent.{HasServed}
use Rattle.ps_threads.proofs.ListLaws.{front_at, last_at}
use Rattle.ps_threads.proofs.SeatLaws.{lends_less, came_more}
use Rattle.ps_threads.proofs.seats.take_back.Goals as goal

pub join-requires-clause-desk : goal.join-requires-clause-desk
join-requires-clause-desk c =
    let i = c.loop-finished.invariant in
    let rest = c.pop.new.self.items in
    let last = i.back (length rest) c.in-Some.finished (last_at rest c.loop-finished.done.items c.in-Some.finished c.in-Some.ensures.items) in
    (i.desk ∙ c.requires.desk, last.desk_is ∙ c.requires.desk)

pub join-requires-clause-split : goal.join-requires-clause-split
join-requires-clause-split c =
    let i = c.loop-finished.invariant in
    let rest = c.pop.new.self.items in
    let last = i.back (length rest) c.in-Some.finished (last_at rest c.loop-finished.done.items c.in-Some.finished c.in-Some.ensures.items) in
    let lens : length c.loop-finished.done.items ≡ length rest + 1 =
    ap length c.in-Some.ensures.items ∙ length-append rest (c.in-Some.finished ∷ []) in
    let low : length rest + 1 < vec_len c.loop-finished.done + 1 = omega (arith, lens, c.loop-finished.done.ok.0) in
    subst (Has (view_of c.loop-finished.first).out) (sym last.number) (i.lends.out (length rest + 1) (omega arith) low)

pub loop-finished-preserved : goal.loop-finished-preserved
loop-finished-preserved c =
    let i = c.loop-finished.invariant in
    let rest = c.pop.new.self.items in
    let all = c.loop-finished.done.items in
    let f = c.in-Some.finished in
    let items = c.in-Some.ensures.items in
    let at = last_at rest all f items in
    let last = i.back (length rest) f at in
    let joins = c.join.ensures.joined in
    let old = view_of c.loop-finished.first in
    let new = view_of c.join.new.seat in
    let w = view_of f.seat in
    let lens : length all ≡ length rest + 1 = ap length items ∙ length-append rest (f ∷ []) in
    let l1 = c.loop-finished.done.ok.0 in
    let l2 = c.pop.new.self.ok.0 in
    let number : w.number ≡ vec_len c.pop.new.self + 1 = omega (arith, last.number, l2) in
    let below : w.number + length old.ended ≡ vec_len c.args.done = omega (arith, last.number, i.count, lens, l1) in
    let more : length new.ended ≡ length (old.ended ++ ended_of w ∷ w.ended) = ap (λ (v : View Cmd Reply). length v.ended) joins in
    let sum : length (old.ended ++ ended_of w ∷ w.ended) ≡ length old.ended + length (ended_of w ∷ w.ended) =
    length-append old.ended (ended_of w ∷ w.ended) in
    let none : length w.ended ≡ 0 = ap (length {A = Ended Cmd Reply}) last.ended in
    let longer : length new.ended ≡ length old.ended + 1 = omega (arith, more, sum, none) in
    record {
      desk = c.join.ensures.desk ∙ i.desk;
      lends =
          lends_less old w new (vec_len c.pop.new.self + 1) (vec_len c.loop-finished.done + 1) i.lends number (omega arith)
          (omega (arith, lens, l1, l2)) joins;
      count = omega (arith, longer, i.count, lens, l1, l2);
      back = λ k f' e. i.back k f' (front_at rest all f items k f' e);
      came = λ lines serve.
          let both = i.came lines serve in
          let serves : HasServed lines w.number w.own w.refused f.ending =
          subst (λ n. HasServed lines n w.own w.refused f.ending) (sym last.number) (both.0 (length rest) f at) in (
            (λ k f' e. both.0 k f' (front_at rest all f items k f' e)),
            came_more lines (vec_len c.args.done) c.loop-finished.ending f.ending c.earlier-ending.result old w new both.1 c.earlier-ending.ensures joins
                last.ended below serves,
          );
    }

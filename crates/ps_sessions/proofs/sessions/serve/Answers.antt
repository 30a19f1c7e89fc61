use Rattle.std.proofs.Common.{rules, ◌≡◌, [], ◌∷◌, ◌++◌, length, sym, ap, ◌∙◌, subst, append_assoc, arith}
use Rattle.std.proofs.lemmas.List.{nil_from_length}
use Rattle.std.specs.Vec.Iter.{into_iter_items}
use Rattle.ps_book.specs.Books.{entries}
use Rattle.ps_sessions.specs.declared.runs.Ending.TheVariants.{Done, Full}
use Rattle.ps_sessions.proofs.Serving.{AreServed, served_start, served_next}
use Rattle.ps_sessions.proofs.Endings.{run_as, done_run, cut_run}
use Rattle.ps_sessions.proofs.sessions.serve.Goals as goal

pub loop-line-init : goal.loop-line-init
loop-line-init g c =
    let items : into_iter_items c.into_iter-line-iterator.result ≡ c.args.lines.items = search rules in
    record {
      room = omega (arith, ap length items, ap length c.requires.none, c.requires.room, c.args.lines.ok.0, c.args.responses.ok.0);
      served = [];
      split = sym items;
      stands = served_start (entries c.args.book) c.args.responses.items c.requires.new c.requires.none;
    }

pub push_reserved-requires : goal.push_reserved-requires
push_reserved-requires g c =
    let steps : into_iter_items c.loop-line.line-iterator ≡ c.in-Some.line ∷ into_iter_items c.next.new.self = search rules in
    omega (arith, c.loop-line.invariant.room, ap length steps)

pub loop-line-preserved : goal.loop-line-preserved
loop-line-preserved g c =
    let i = c.loop-line.invariant in
    let steps : into_iter_items c.loop-line.line-iterator ≡ c.in-Some.line ∷ into_iter_items c.next.new.self = search rules in
    let pushed = c.push_reserved.ensures in
    record {
      room = omega (arith, i.room, ap length steps, pushed.len, pushed.capacity);
      served = i.served ++ c.in-Some.line ∷ [];
      split =
          i.split ∙ ap (λ ls. i.served ++ ls) steps
          ∙ sym (append_assoc i.served (c.in-Some.line ∷ []) (into_iter_items c.next.new.self));
      stands =
          subst (AreServed (i.served ++ c.in-Some.line ∷ []) (entries c.answer.new.book)) (sym pushed.items)
          (served_next i.served (entries c.loop-line.book) (entries c.answer.new.book) c.loop-line.responses.items c.in-Some.line c.in-Ok.reply
          i.stands c.in-Ok.ensures.done c.answer.ensures.lawful);
    }

pub returns-in-Err : goal.returns-in-Err
returns-in-Err g c =
    let i = c.loop-line.invariant in
    let steps : into_iter_items c.loop-line.line-iterator ≡ c.in-Some.line ∷ into_iter_items c.next.new.self = search rules in
    run_as c.args.lines.items c.from_vec.result (entries c.answer.new.book) c.from_vec-in-Err.result c.loop-line.responses.items (Full c.in-Err.full.ticket)
    (c.from_vec.ensures ∙ c.into_journal.ensures.value) c.from_vec-in-Err.ensures
    (cut_run c.args.lines.items i.served (into_iter_items c.next.new.self) c.in-Some.line (entries c.loop-line.book) (entries c.answer.new.book)
    c.loop-line.responses.items c.in-Err.full.ticket (i.split ∙ ap (λ ls. i.served ++ ls) steps) i.stands c.in-Err.ensures.cut c.answer.ensures.lawful)

pub returns : goal.returns
returns g c =
    let i = c.loop-line.invariant in
    let none : into_iter_items c.loop-line.line-iterator ≡ [] =
    nil_from_length (into_iter_items c.loop-line.line-iterator) (omega (arith, c.in-None.ensures.steps.0, c.loop-line.line-iterator.rest.ok.0)) in
    run_as c.args.lines.items c.from_vec-2.result (entries c.loop-line.book) c.from_vec-3.result c.loop-line.responses.items Done
    (c.from_vec-2.ensures ∙ c.into_journal-2.ensures.value) c.from_vec-3.ensures
    (done_run c.args.lines.items i.served (entries c.loop-line.book) c.loop-line.responses.items (i.split ∙ ap (λ ls. i.served ++ ls) none) i.stands)

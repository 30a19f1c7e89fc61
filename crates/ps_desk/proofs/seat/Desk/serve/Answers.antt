use Rattle.std.proofs.Common.{ap, sym, subst, ◌∙◌, ◌++◌, ◌∷◌, [], length, length-append, ◌+◌, ◌≡◌, Some, arith}
use Rattle.ps_desk.specs.Views.{entry}
use Rattle.ps_desk.proofs.StepLaws.{end_allowed, holds_first, found_held, puts}
use Rattle.ps_desk.proofs.seat.Desk.serve.Goals as goal

pub exchange-requires : goal.exchange-requires
exchange-requires g c = let h = c.requires.holds in (c.requires.desk, (Some h.0, holds_first _ _ h.1.held))

pub fetch_add-requires : goal.fetch_add-requires
fetch_add-requires g c =
    let ob = g.O.Object in
    let desk = c.args.self.now in
    let o = c.requires.holds.0 in
    let had = c.requires.holds.1 in
    let b = c.apply-reply.new.self in
    let same = found_held _ o c.in-Some.object c.exchange.result had.held c.exchange.ensures.2 c.in-Some.is in
    let now = puts c.args.token.now.me c.exchange.new.seat.me c.exchange-2.new.seat.me o b _ had.held c.exchange.ensures.3 c.exchange-2.ensures.3 in
    let x = entry c.args.number c.args.cmd c.apply-reply.result in
    let h = ob.journal o in
    let applied = c.apply-reply.ensures in
    let adds : ob.journal b ≡ h ++ x ∷ [] = applied.entry ∙ ap (λ k. ob.journal k ++ x ∷ []) same in
    let lawful : ob.legal (ob.journal b) = applied.lawful (subst (λ k. ob.legal (ob.journal k)) (sym same) had.lawful) in
    let longer = ap length adds ∙ length-append h (x ∷ []) in
    let spare : ob.spare b + 1 ≡ ob.spare o = applied.spare ∙ ap ob.spare same in
    let room = had.room in (
      c.exchange-2.ensures.0 ∙ (c.exchange.ensures.0 ∙ c.requires.desk),
      omega arith,
      end_allowed ob.journal ob.spare ob.legal _ _ _ _ c.args.token.now.me.0 b desk.slots now had.live
          h x had.found adds (sym c.requires.number.0) lawful (omega arith),
    )

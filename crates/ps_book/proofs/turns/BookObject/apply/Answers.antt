use Rattle.std.proofs.Common.{◌≡◌, length, sym, subst, arith}
use Rattle.ps_journal.specs.State.{State}
use Rattle.ps_journal.specs.Step.{Step}
use Rattle.ps_journal.specs.History.{Entry}
use Rattle.ps_views.specs.Stands.{Stands, Leaves}
use Rattle.ps_book.specs.Lawful.{IsLawful}
use Rattle.ps_book.specs.Services.{fields_of}
use Rattle.ps_book.proofs.Journals.{lawful_more, legal_of}
use Rattle.ps_book.proofs.VersionCounts.{few_versions}
use Rattle.ps_book.proofs.turns.BookObject.apply.Goals as goal
use Rattle.ps_book.proofs.turns.BookObject.apply.Goals.{After-push_reserved}

abbrev entry : After-push_reserved → Entry
entry c = record { seat = c.args.seat; cmd = c.args.cmd; reply = c.serve-reply.result.copy }

step : (c : After-push_reserved) (t : State) → Stands (fields_of c.args.self.now.service) t
    → Leaves (λ u. Step t (length c.args.self.now.journal.items) c.args.seat c.args.cmd c.serve-reply.result.copy u) (fields_of c.serve-reply.new.self)
step c t s =
    let old = c.args.self.now in
    let f = fields_of c.serve-reply.new.self in
    let number : c.len-number.result ≡ length old.journal.items = omega (arith, c.len-number.ensures, old.journal.ok.0) in
    subst (λ r. Leaves (λ u. Step t (length old.journal.items) c.args.seat c.args.cmd r u) f) (sym c.serve-reply.result.same)
    (subst (λ k. Leaves (λ u. Step t k c.args.seat c.args.cmd c.serve-reply.result.reply u) f) number (c.serve-reply.ensures t s))

keeps : (c : After-push_reserved) → ∥ IsLawful (fields_of c.serve-reply.new.self) c.push_reserved.new.self.items ∥₁
keeps c =
    let old = c.args.self.now in
    let f = fields_of c.serve-reply.new.self in
    subst (λ es. ∥ IsLawful f es ∥₁) (sym c.push_reserved.ensures.items)
    (lawful_more (fields_of old.service) f old.journal.items (entry c) (step c) old.lawful)

pub serve-reply-requires-clause-few : goal.serve-reply-requires-clause-few
serve-reply-requires-clause-few c = let old = c.args.self.now in few_versions (fields_of old.service) old.journal.items old.service.sound old.few old.lawful

pub invariant_of-self : goal.invariant_of-self
invariant_of-self c =
    let x = (goal.at.invariant_of-self c).After-push_reserved in
    let old = c.args.self.now in
    record {
      few = omega (arith, c.requires.room, c.push_reserved.ensures.len, c.push_reserved.new.self.ok.0, old.journal.ok.0);
      room = omega (arith, old.room, c.push_reserved.ensures.capacity);
      lawful = keeps x;
    }

pub returns-clause-lawful : goal.returns-clause-lawful
returns-clause-lawful c _ =
    legal_of (fields_of c.serve-reply.new.self) c.push_reserved.new.self.items (keeps (goal.at.returns-clause-lawful c).After-push_reserved)

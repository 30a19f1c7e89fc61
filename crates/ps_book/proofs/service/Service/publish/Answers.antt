use Rattle.std.proofs.Common.{◌≡◌, ◌<◌, ℕ, List, length, inl, refl, sym, ◌∙◌, subst, arith, get_or}
use Rattle.std.proofs.lemmas.List.{get_or_default}
use Rattle.std.specs.Prelude.{Option, Some, None}
use Rattle.ps_journal.specs.declared.seats.Claim.{Claim}
use Rattle.ps_journal.specs.declared.replies.Reply.TheVariants.{Stands}
use Rattle.ps_views.specs.Fields.{held_at, claim_at}
use Rattle.ps_views.specs.Stands.{Leaves}
use Rattle.ps_views.specs.Objections.{IsFree}
use Rattle.ps_views.proofs.Publications.{claim_there, claim_within, claim_stands}
use Rattle.ps_book.specs.Services.{fields_of}
use Rattle.ps_book.specs.Wanting.{PublishesOr}
use Rattle.ps_book.proofs.PublishedRecords.{free_of, unclaimed_told, objected_leaves}
use Rattle.ps_book.proofs.service.Service.publish.Goals as goal
use Rattle.ps_book.proofs.service.Service.publish.Goals.{Start, In-Some}

-- a claim that was read is the seat's
read_as : (claims : List (Option Claim)) (seat : ℕ) (d o : Option Claim) → seat < length claims → get_or claims seat d ≡ o → get_or claims seat None ≡ o
read_as claims seat d o near e = get_or_default claims seat None d near ∙ e

near : (c : Start) → c.args.seat < length c.args.self.now.claims.seats
near c = omega (arith, c.requires, c.args.self.now.sound.seats.1)

claim_is : (c : In-Some) → claim_at (fields_of c.args.self.now) c.args.seat ≡ Some c.in-Some.claim
claim_is c = read_as c.args.self.now.claims.seats c.args.seat _ (Some c.in-Some.claim) (omega (arith, c.requires, c.args.self.now.sound.seats.1)) c.in-Some.is

pub objection-requires-clause-there : goal.objection-requires-clause-there
objection-requires-clause-there c =
    let s = c.args.self.now in
    let claim = c.in-Some.claim in
    claim_there (fields_of s) s.sound (held_at s.versions claim.place) claim.node (s.sound.claimed c.args.seat claim (claim_is (goal.at.objection-requires-clause-there c).In-Some))

pub objection-requires-clause-node : goal.objection-requires-clause-node
objection-requires-clause-node c =
    let s = c.args.self.now in
    let claim = c.in-Some.claim in
    claim_within (fields_of s) s.sound claim.place claim.node (s.sound.claimed c.args.seat claim (claim_is (goal.at.objection-requires-clause-node c).In-Some))

pub publish_record-requires-clause-free : goal.publish_record-requires-clause-free
publish_record-requires-clause-free c = free_of (fields_of c.args.self.now) c.in-Some.claim None c.in-None-objection.ensures.objects refl

pub publish_record-requires-clause-claimed : goal.publish_record-requires-clause-claimed
publish_record-requires-clause-claimed c = claim_is (goal.at.publish_record-requires-clause-claimed c).In-Some

pub returns-in-None-clause-leaves : goal.returns-in-None-clause-leaves
returns-in-None-clause-leaves c =
    let s = c.args.self.now in
    λ t so. record {
      state = t;
      does_so = unclaimed_told (fields_of s) t c.args.number c.args.seat c.args.kept.now so (read_as s.claims.seats c.args.seat _ None (near (goal.at.returns-in-None-clause-leaves c).Start) c.in-None.is);
      stands = so;
    }

pub returns-in-Some-objection-clause-leaves : goal.returns-in-Some-objection-clause-leaves
returns-in-Some-objection-clause-leaves c =
    let s = c.args.self.now in
    let is = claim_is (goal.at.returns-in-Some-objection-clause-leaves c).In-Some in
    λ t so.
    objected_leaves (fields_of s) (fields_of c.unclaim.new.self) t s.sound so c.args.number c.args.seat c.in-Some.claim is c.args.kept.now c.in-Some-objection.reply c.unclaim.ensures
    c.in-Some-objection.ensures.objects

pub returns-in-None-kept-clause-leaves : goal.returns-in-None-kept-clause-leaves
returns-in-None-kept-clause-leaves c =
    let s = c.args.self.now in
    let is = claim_is (goal.at.returns-in-None-kept-clause-leaves c).In-Some in
    let free : IsFree (fields_of s) c.in-Some.claim = free_of (fields_of s) c.in-Some.claim None c.in-None-objection.ensures.objects refl in
    λ t so. record {
      state = t;
      does_so = subst (λ k. PublishesOr t c.args.number c.args.seat k Stands t) (sym c.in-None-kept.is) (inl (claim_stands (fields_of s) t s.sound so c.args.seat c.in-Some.claim is c.args.number free));
      stands = so;
    }

pub returns-in-Some-kept-clause-leaves : goal.returns-in-Some-kept-clause-leaves
returns-in-Some-kept-clause-leaves c =
    λ t so.
    subst (λ k. Leaves (λ new. PublishesOr t c.args.number c.args.seat k c.publish_record.result new) (fields_of c.publish_record.new.self)) (sym c.in-Some-kept.is)
    (c.publish_record.ensures.leaves t so)

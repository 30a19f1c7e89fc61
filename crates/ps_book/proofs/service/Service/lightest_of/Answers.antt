use Rattle.std.proofs.Common.{◌∙◌, sym}
use Rattle.ps_book.specs.Counts.{claims_of}
use Rattle.ps_views.proofs.PinnedLaws.{pinned_one, pinned_before, pinned_behind}
use Rattle.ps_book.specs.Services.{fields_of}
use Rattle.ps_book.proofs.Giving.{kept_there, ready_one, ready_two, settled_one, settled_behind, settled_before}
use Rattle.ps_book.proofs.service.Service.lightest_of.Goals as goal

pub lightest_at-requires : goal.lightest_at-requires
lightest_at-requires c = kept_there (fields_of c.args.self.now) c.args.pin.now.first c.requires.first

pub returns-in-None : goal.returns-in-None
returns-in-None c =
    let s = c.args.self.now in
    let f = fields_of s in
    let pin = c.args.pin.now in
    record {
      value = c.lightest_at.ensures.value ∙ sym (pinned_one f s.sound (claims_of s.claims) pin c.in-None.is c.requires);
      ready = ready_one f s.sound (claims_of s.claims) pin.first c.requires.first c.lightest_at.result c.lightest_at.ensures.value;
      settled = settled_one f pin c.lightest_at.result c.in-None.is c.lightest_at.ensures.none;
    }

pub lightest_of_two-requires-clause-first : goal.lightest_of_two-requires-clause-first
lightest_of_two-requires-clause-first c = kept_there (fields_of c.args.self.now) c.in-Some.second (c.requires.second c.in-Some.second c.in-Some.is)

pub lightest_of_two-requires-clause-second : goal.lightest_of_two-requires-clause-second
lightest_of_two-requires-clause-second c = kept_there (fields_of c.args.self.now) c.args.pin.now.first c.requires.first

pub returns-then-comes_before : goal.returns-then-comes_before
returns-then-comes_before c =
    let s = c.args.self.now in
    let f = fields_of s in
    let pin = c.args.pin.now in
    let q = c.in-Some.second in
    record {
      value = c.lightest_of_two.ensures.value ∙ sym (pinned_before f s.sound (claims_of s.claims) pin q c.in-Some.is c.requires
          (sym c.comes_before.ensures ∙ c.if-comes_before.true));
      ready = ready_two f s.sound (claims_of s.claims) q pin.first (c.requires.second q c.in-Some.is) c.requires.first c.lightest_of_two.result
          c.lightest_of_two.ensures.value;
      settled = settled_before f pin q c.lightest_of_two.result c.in-Some.is c.lightest_of_two.ensures.none;
    }

pub lightest_of_two-requires-else-comes_before-clause-second : goal.lightest_of_two-requires-else-comes_before-clause-second
lightest_of_two-requires-else-comes_before-clause-second c = kept_there (fields_of c.args.self.now) c.in-Some.second
    (c.requires.second c.in-Some.second c.in-Some.is)

pub returns-else-comes_before : goal.returns-else-comes_before
returns-else-comes_before c =
    let s = c.args.self.now in
    let f = fields_of s in
    let pin = c.args.pin.now in
    let q = c.in-Some.second in
    record {
      value = c.lightest_of_two-else-comes_before.ensures.value ∙ sym (pinned_behind f s.sound (claims_of s.claims) pin q c.in-Some.is c.requires
          (sym c.comes_before.ensures ∙ c.if-comes_before.false));
      ready = ready_two f s.sound (claims_of s.claims) pin.first q c.requires.first (c.requires.second q c.in-Some.is)
          c.lightest_of_two-else-comes_before.result c.lightest_of_two-else-comes_before.ensures.value;
      settled = settled_behind f pin q c.lightest_of_two-else-comes_before.result c.in-Some.is c.lightest_of_two-else-comes_before.ensures.none;
    }

use Rattle.std.proofs.Common.{◌≡◌, sym, ap, ◌∙◌, subst}
use Rattle.ps_versions.specs.Lookup.{circuit_at}
use Rattle.ps_journal.specs.declared.replies.Reply.TheVariants.{Retired}
use Rattle.ps_journal.specs.Retiring.{Retires, retired, claims_on}
use Rattle.ps_views.specs.Fields.{held_at}
use Rattle.ps_views.proofs.Replies as replies
use Rattle.ps_views.proofs.Retirement.{retired_sound, retired_stands}
use Rattle.ps_book.specs.Services.{fields_of}
use Rattle.ps_book.proofs.service.Service.retire.Goals as goal

pub returns-in-None-clause-leaves : goal.returns-in-None-clause-leaves
returns-in-None-clause-leaves c t s =
    let f = fields_of c.args.self.now in
    record {
      state = t;
      does_so = replies.retires_no_circuit f t s c.args.self.now.sound.tabled c.args.number c.args.place.now c.in-None.ensures.about;
      stands = s;
    }

pub returns-then-not-exists-clause-leaves : goal.returns-then-not-exists-clause-leaves
returns-then-not-exists-clause-leaves c t s =
    let f = fields_of c.args.self.now in
    record {
      state = t;
      does_so =
          replies.retires_no_version f t s c.args.self.now.sound.tabled c.args.number c.args.place.now c.in-Some.about c.in-Some.ensures.about
          (sym c.exists.ensures ∙ c.if-not-exists.true);
      stands = s;
    }

pub returns-then-place-about-clause-leaves : goal.returns-then-place-about-clause-leaves
returns-then-place-about-clause-leaves c t s =
    let f = fields_of c.args.self.now in
    record {
      state = t;
      does_so =
          replies.retires_latest_there f t s c.args.self.now.sound.tabled c.args.number c.args.place.now c.in-Some.about c.in-Some.ensures.about
          (sym c.exists.ensures ∙ c.if-not-exists.false) c.if-place-about.true;
      stands = s;
    }

pub retire-requires-clause-earlier : goal.retire-requires-clause-earlier
retire-requires-clause-earlier c =
    let f = fields_of c.args.self.now in
    replies.earlier_at (circuit_at f.versions.circuits c.args.place.now.name) c.in-Some.about c.args.place.now.version c.in-Some.ensures.about
    (sym c.exists.ensures ∙ c.if-not-exists.false) c.if-place-about.false

pub returns-in-Some-retired-clause-leaves : goal.returns-in-Some-retired-clause-leaves
returns-in-Some-retired-clause-leaves c t s =
    let f = fields_of c.args.self.now in
    record {
      state = t;
      does_so =
          replies.retires_was f t s c.args.self.now.sound.tabled c.args.number c.args.place.now c.in-Some.about c.in-Some.ensures.about c.state.result
          c.state.ensures.told c.in-Some-retired.entry c.if-place-about.false c.in-Some-retired.is;
      stands = s;
    }

pub invariant_of-self : goal.invariant_of-self
invariant_of-self c =
    let old = c.args.self.now in
    let f = fields_of old in
    let p = c.args.place.now in
    let v = replies.version_told (held_at f.versions p) c.state.result c.state.ensures.told in
    record {
      sound =
          retired_sound c.args.number f old.sound p v.0 v.1 (sym v.2 ∙ c.in-None-retired.is)
          c.retire.new.self c.retire.ensures.circuits c.retire.ensures.nodes c.retire.ensures.kept;
    }

pub returns-in-None-retired-clause-leaves : goal.returns-in-None-retired-clause-leaves
returns-in-None-retired-clause-leaves c t s =
    let old = c.args.self.now in
    let f = fields_of old in
    let p = c.args.place.now in
    let v = replies.version_told (held_at f.versions p) c.state.result c.state.ensures.told in
    let bits : c.on.result ≡ claims_on p t.claims = c.on.ensures ∙ ap (claims_on p) (sym s.claims) in
    record {
      state = retired c.args.number p t;
      does_so = subst (λ n. Retires t c.args.number p (Retired n) (retired c.args.number p t)) (sym bits)
          (replies.retires_now f t s old.sound.tabled c.args.number p c.in-Some.about c.in-Some.ensures.about
          c.state.result c.state.ensures.told c.if-place-about.false c.in-None-retired.is);
      stands =
          retired_stands c.args.number f old.sound p v.0 v.1
          (sym v.2 ∙ c.in-None-retired.is) c.retire.new.self c.retire.ensures.circuits c.retire.ensures.nodes c.retire.ensures.kept t s;
    }

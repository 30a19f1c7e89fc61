use Rattle.std.proofs.Common.{sym, ◌∙◌}
use Rattle.ps_book.specs.Services.{fields_of}
use Rattle.ps_views.proofs.Replies.{lives_at, refuses_no_circuit, refuses_no_version, refuses_retired}
use Rattle.ps_book.proofs.service.Service.live_at.Goals as goal

pub returns-in-None-clause-told : goal.returns-in-None-clause-told
returns-in-None-clause-told c = let s = c.args.self.now in λ t so. refuses_no_circuit (fields_of s) t so s.sound.tabled c.args.place.now c.in-None.ensures.about

pub returns-then-not-exists-clause-told : goal.returns-then-not-exists-clause-told
returns-then-not-exists-clause-told c = let s = c.args.self.now in λ t so. refuses_no_version (fields_of s) t so s.sound.tabled c.args.place.now
    c.in-Some.about c.in-Some.ensures.about (sym c.exists.ensures ∙ c.if-not-exists.true)

pub returns-in-Some-retired-clause-told : goal.returns-in-Some-retired-clause-told
returns-in-Some-retired-clause-told c =
    let s = c.args.self.now in
    λ t so. refuses_retired (fields_of s) t so s.sound.tabled c.args.place.now c.in-Some.about c.state.result c.in-Some-retired.entry
    c.in-Some.ensures.about c.state.ensures.told c.in-Some-retired.is

pub returns-in-None-retired-clause-told : goal.returns-in-None-retired-clause-told
returns-in-None-retired-clause-told c =
    let s = c.args.self.now in
    lives_at (fields_of s) c.args.place.now c.in-Some.about c.state.result c.in-Some.ensures.about c.state.ensures.told c.in-None-retired.is

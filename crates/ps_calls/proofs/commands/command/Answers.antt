use Rattle.std.proofs.Common.{true, false, refl}
use Rattle.ps_script.specs.declared.command.Command.TheVariants as command
use Rattle.ps_reach.specs.declared.mode.Mode.TheVariants.{Exact, Phase}
use Rattle.ps_journal.specs.declared.commands.Cmd.TheVariants as cmd
use Rattle.ps_calls.specs.declared.questions.Question.{Question}
use Rattle.ps_calls.proofs.Calls.{turn_grows, single_dones, single_cuts, done_as, cut_as, asked_done, asked_cut}
use Rattle.ps_calls.proofs.commands.command.Goals as goal

pub returns-in-Open : goal.returns-in-Open
returns-in-Open g c =
    let a = g.T.Turns.view c.args.turns.now in
    let b = g.T.Turns.view c.turn.new.self in
    let res = c.turn.result in
    let whole = command.Open c.in-Open.name c.in-Open.text in
    let k = cmd.Open c.in-Open.name c.in-Open.text in
    record {
      grows = turn_grows k res c.turn.ensures.stays c.turn.ensures.done c.turn.ensures.full;
      done = done_as a b res c.args.command whole c.in-Open.is
          (single_dones whole k res c.turn.ensures.stays c.turn.ensures.done refl (λ r. refl) (λ r. refl) (λ one. one));
      cut = cut_as a b res c.args.command whole c.in-Open.is
          (single_cuts whole res c.turn.ensures.stays c.turn.ensures.full (λ one. one));
    }

pub returns-in-Splice : goal.returns-in-Splice
returns-in-Splice g c =
    let a = g.T.Turns.view c.args.turns.now in
    let b = g.T.Turns.view c.turn-in-Splice.new.self in
    let res = c.turn-in-Splice.result in
    let whole = command.Splice c.in-Splice.place c.in-Splice.from c.in-Splice.to c.in-Splice.block in
    let k = cmd.Splice c.in-Splice.place.name c.in-Splice.place.version c.in-Splice.from c.in-Splice.to c.in-Splice.block in
    record {
      grows = turn_grows k res c.turn-in-Splice.ensures.stays c.turn-in-Splice.ensures.done c.turn-in-Splice.ensures.full;
      done = done_as a b res c.args.command whole c.in-Splice.is
          (single_dones whole k res c.turn-in-Splice.ensures.stays c.turn-in-Splice.ensures.done refl (λ r. refl) (λ r. refl) (λ one. one));
      cut = cut_as a b res c.args.command whole c.in-Splice.is
          (single_cuts whole res c.turn-in-Splice.ensures.stays c.turn-in-Splice.ensures.full (λ one. one));
    }

pub returns-in-Retire : goal.returns-in-Retire
returns-in-Retire g c =
    let a = g.T.Turns.view c.args.turns.now in
    let b = g.T.Turns.view c.turn-in-Retire.new.self in
    let res = c.turn-in-Retire.result in
    let whole = command.Retire c.in-Retire.place in
    let k = cmd.Retire c.in-Retire.place.name c.in-Retire.place.version in
    record {
      grows = turn_grows k res c.turn-in-Retire.ensures.stays c.turn-in-Retire.ensures.done c.turn-in-Retire.ensures.full;
      done = done_as a b res c.args.command whole c.in-Retire.is
          (single_dones whole k res c.turn-in-Retire.ensures.stays c.turn-in-Retire.ensures.done refl (λ r. refl) (λ r. refl) (λ one. one));
      cut = cut_as a b res c.args.command whole c.in-Retire.is
          (single_cuts whole res c.turn-in-Retire.ensures.stays c.turn-in-Retire.ensures.full (λ one. one));
    }

pub returns-in-Show : goal.returns-in-Show
returns-in-Show g c =
    let a = g.T.Turns.view c.args.turns.now in
    let b = g.T.Turns.view c.turn-in-Show.new.self in
    let res = c.turn-in-Show.result in
    let whole = command.Show c.in-Show.place in
    let k = cmd.Read c.in-Show.place in
    record {
      grows = turn_grows k res c.turn-in-Show.ensures.stays c.turn-in-Show.ensures.done c.turn-in-Show.ensures.full;
      done = done_as a b res c.args.command whole c.in-Show.is
          (single_dones whole k res c.turn-in-Show.ensures.stays c.turn-in-Show.ensures.done refl (λ r. refl) (λ r. refl) (λ one. one));
      cut = cut_as a b res c.args.command whole c.in-Show.is
          (single_cuts whole res c.turn-in-Show.ensures.stays c.turn-in-Show.ensures.full (λ one. one));
    }

pub returns-in-Sum : goal.returns-in-Sum
returns-in-Sum g c =
    let a = g.T.Turns.view c.args.turns.now in
    let b = g.T.Turns.view c.sum.new.turns in
    let whole = command.Sum c.in-Sum.place in
    record {
      grows = c.sum.ensures.grows;
      done = done_as a b c.sum.result c.args.command whole c.in-Sum.is c.sum.ensures.done;
      cut = cut_as a b c.sum.result c.args.command whole c.in-Sum.is c.sum.ensures.cut;
    }

pub returns-in-Ask : goal.returns-in-Ask
returns-in-Ask g c =
    let a = g.T.Turns.view c.args.turns.now in
    let b = g.T.Turns.view c.ask.new.turns in
    let res = c.ask.result in
    let whole = command.Ask c.in-Ask.first c.in-Ask.second in
    let q : Question = record { first = c.in-Ask.first; second = c.in-Ask.second; mode = Exact; proof = false } in
    record {
      grows = c.ask.ensures.grows;
      done = done_as a b res c.args.command whole c.in-Ask.is (asked_done a b q whole (refl, refl, refl, refl) res c.ask.ensures.done);
      cut = cut_as a b res c.args.command whole c.in-Ask.is (asked_cut a b q whole (refl, refl, refl, refl) res c.ask.ensures.cut);
    }

pub returns-in-AskPhase : goal.returns-in-AskPhase
returns-in-AskPhase g c =
    let a = g.T.Turns.view c.args.turns.now in
    let b = g.T.Turns.view c.ask-in-AskPhase.new.turns in
    let res = c.ask-in-AskPhase.result in
    let whole = command.AskPhase c.in-AskPhase.first c.in-AskPhase.second in
    let q : Question = record { first = c.in-AskPhase.first; second = c.in-AskPhase.second; mode = Phase; proof = false } in
    record {
      grows = c.ask-in-AskPhase.ensures.grows;
      done = done_as a b res c.args.command whole c.in-AskPhase.is (asked_done a b q whole (refl, refl, refl, refl) res c.ask-in-AskPhase.ensures.done);
      cut = cut_as a b res c.args.command whole c.in-AskPhase.is (asked_cut a b q whole (refl, refl, refl, refl) res c.ask-in-AskPhase.ensures.cut);
    }

pub returns-in-Prove : goal.returns-in-Prove
returns-in-Prove g c =
    let a = g.T.Turns.view c.args.turns.now in
    let b = g.T.Turns.view c.ask-in-Prove.new.turns in
    let res = c.ask-in-Prove.result in
    let whole = command.Prove c.in-Prove.first c.in-Prove.second in
    let q : Question = record { first = c.in-Prove.first; second = c.in-Prove.second; mode = Exact; proof = true } in
    record {
      grows = c.ask-in-Prove.ensures.grows;
      done = done_as a b res c.args.command whole c.in-Prove.is (asked_done a b q whole (refl, refl, refl, refl) res c.ask-in-Prove.ensures.done);
      cut = cut_as a b res c.args.command whole c.in-Prove.is (asked_cut a b q whole (refl, refl, refl, refl) res c.ask-in-Prove.ensures.cut);
    }

use Rattle.pathsum.proofs.RunLemmas.{none_is_legal, headline_of, cut_short_of, one_refusal_of}
use Rattle.pathsum.proofs.GenerationLemmas.{one_generation, generates_of}
use Rattle.pathsum.proofs.WorkerWords.{never_both, one_run}
use Rattle.pathsum.proofs.Answering.{one_answer}
use Rattle.pathsum.specs.Runs.{RunEnds, Headline, CutShort}
use Rattle.pathsum.specs.Generated.{GenerationEnds, Generates}
use Rattle.pathsum.proofs.run.Goals as goal

pub returns-in-Some-clause-ends : goal.returns-in-Some-clause-ends
returns-in-Some-clause-ends g c = λ n m. absurd (n (_, c.in-Some.ensures))

pub returns-in-Some-clause-one_answer : goal.returns-in-Some-clause-one_answer
returns-in-Some-clause-one_answer g c = one_answer _ _

pub returns-in-Some-clause-unserved : goal.returns-in-Some-clause-unserved
returns-in-Some-clause-unserved g c = λ n m. absurd (n (_, c.in-Some.ensures))

pub returns-in-Some-clause-run_ends : goal.returns-in-Some-clause-run_ends
returns-in-Some-clause-run_ends g c = λ n w.
    one_run (λ k. RunEnds k (g.S.Source.remaining c.args.source.now) (g.S.Source.faults c.args.source.now) (g.S.Source.faults c.script_run.new.source)
    (g.W.Sink.held c.args.sink.now) (g.W.Sink.held c.script_run.new.sink) (g.W.Sink.faults c.args.sink.now) (g.W.Sink.faults c.script_run.new.sink)
    c.script_run.result.journal c.script_run.result.status) _ c.in-Some.workers n c.in-Some.ensures w c.script_run.ensures.ends

pub returns-in-Some-clause-headline : goal.returns-in-Some-clause-headline
returns-in-Some-clause-headline g c = λ n w z.
    one_run (λ k. Headline k (g.S.Source.remaining c.args.source.now) (g.W.Sink.held c.args.sink.now) (g.W.Sink.held c.script_run.new.sink) c.script_run.result.journal) _
    c.in-Some.workers n c.in-Some.ensures w (headline_of _ _ _ _ _ _ _ _ _ _ c.script_run.ensures.ends z)

pub returns-in-Some-clause-cut_short : goal.returns-in-Some-clause-cut_short
returns-in-Some-clause-cut_short g c = λ n w z.
    one_run (λ k. CutShort k (g.S.Source.remaining c.args.source.now) (g.W.Sink.held c.args.sink.now) (g.W.Sink.held c.script_run.new.sink) c.script_run.result.journal) _
    c.in-Some.workers n c.in-Some.ensures w (cut_short_of _ _ _ _ _ _ _ _ _ _ c.script_run.ensures.ends z)

pub returns-in-Some-clause-one_refusal : goal.returns-in-Some-clause-one_refusal
returns-in-Some-clause-one_refusal g c = λ w. one_refusal_of _ _ _ _ _ _ _ _ _ _ c.script_run.ensures.ends

pub returns-in-Some-clause-generation_ends : goal.returns-in-Some-clause-generation_ends
returns-in-Some-clause-generation_ends g c = λ s q n w. absurd (never_both _ s q n (_, c.in-Some.ensures) w)

pub returns-in-Some-clause-generates : goal.returns-in-Some-clause-generates
returns-in-Some-clause-generates g c = λ s q n w z. absurd (never_both _ s q n (_, c.in-Some.ensures) w)

pub returns-in-Some-generation_of-clause-ends : goal.returns-in-Some-generation_of-clause-ends
returns-in-Some-generation_of-clause-ends g c = λ n m. absurd (m (_, _, _, c.in-Some-generation_of.ensures))

pub returns-in-Some-generation_of-clause-one_answer : goal.returns-in-Some-generation_of-clause-one_answer
returns-in-Some-generation_of-clause-one_answer g c = one_answer _ _

pub returns-in-Some-generation_of-clause-unserved : goal.returns-in-Some-generation_of-clause-unserved
returns-in-Some-generation_of-clause-unserved g c = λ n m. absurd (m (_, _, _, c.in-Some-generation_of.ensures))

pub returns-in-Some-generation_of-clause-generation_ends : goal.returns-in-Some-generation_of-clause-generation_ends
returns-in-Some-generation_of-clause-generation_ends g c = λ s q n w.
    one_generation (λ x y z. GenerationEnds x y z (g.W.Sink.held c.args.sink.now) (g.W.Sink.held c.gen_run.new.sink) (g.W.Sink.faults c.args.sink.now) (g.W.Sink.faults c.gen_run.new.sink)
    c.gen_run.result.journal c.gen_run.result.status) _ c.in-Some-generation_of.wanted.seed c.in-Some-generation_of.wanted.qubits c.in-Some-generation_of.wanted.items s q n c.in-Some-generation_of.ensures w c.gen_run.ensures.ends

pub returns-in-Some-generation_of-clause-generates : goal.returns-in-Some-generation_of-clause-generates
returns-in-Some-generation_of-clause-generates g c = λ s q n w z.
    one_generation (λ x y z. Generates x y z (g.W.Sink.held c.args.sink.now) (g.W.Sink.held c.gen_run.new.sink) c.gen_run.result.journal) _ c.in-Some-generation_of.wanted.seed c.in-Some-generation_of.wanted.qubits c.in-Some-generation_of.wanted.items s q n
    c.in-Some-generation_of.ensures w (generates_of _ _ _ _ _ _ _ _ _ c.gen_run.ensures.ends z)

pub returns-in-None-clause-one_answer : goal.returns-in-None-clause-one_answer
returns-in-None-clause-one_answer g c = one_answer _ _

pub returns-in-None-clause-generation_ends : goal.returns-in-None-clause-generation_ends
returns-in-None-clause-generation_ends g c = λ s q n w. absurd (c.in-None.ensures s q n w)

pub returns-in-None-clause-generates : goal.returns-in-None-clause-generates
returns-in-None-clause-generates g c = λ s q n w z. absurd (c.in-None.ensures s q n w)

pub returns-in-None-clause-legal : goal.returns-in-None-clause-legal
returns-in-None-clause-legal g c = none_is_legal _ c.command_run.ensures.unserved

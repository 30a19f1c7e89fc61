use Rattle.std.proofs.Common.{◌∙◌, ◌<◌, sym, subst}
use Rattle.std.proofs.lemmas.List.{length-map}
use Rattle.qasm_parse.specs.declared.program.Arg.{Arg}
use Rattle.qasm_expand.specs.Gates.{arg_names}
use Rattle.qasm_expand.proofs.Aiming.{even_within}
use Rattle.qasm_expand.proofs.targets.count.Goals as goal

pub first_repeated-requires-clause-within : goal.first_repeated-requires-clause-within
first_repeated-requires-clause-within c =
    λ i h. even_within 64 c.args.targets.now (arg_names c.args.args.now) i (c.requires.same ∙ sym (length-map c.args.args.now (λ (a : Arg). a.name))) (sym c.in-None.ensures) c.requires.within
    (subst (λ n. i < n) c.index_count-count.ensures h)

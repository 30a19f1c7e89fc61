use Rattle.std.proofs.Common.{◌∙◌, ap, sym, subst, List, All, length}
use Rattle.std.proofs.lemmas.List.{length-map}
use Rattle.qasm_parse.specs.declared.program.Formula.{Formula}
use Rattle.qasm_parse.specs.Places.{FormulaIn}
use Rattle.qasm_expand.specs.Gates.{arg_names}
use Rattle.qasm_expand.proofs.Soundness.{places_sound}
use Rattle.qasm_expand.proofs.gates.inner.Goals as goal

pub different-requires : goal.different-requires
different-requires c =
    ap length c.as_slice.ensures ∙ (places_sound c.args.bytes.now c.args.args.now (arg_names c.items-on.result.now) c.in_ok-places.places (sym c.in_ok-places.ensures)).1 ∙ length-map c.items-on.result.now (λ a. a.name)

pub expressions-requires : goal.expressions-requires
expressions-requires c = subst (λ (fs : List Formula). All (FormulaIn c.args.bytes.now) fs) (sym c.items-own.ensures) c.requires.1

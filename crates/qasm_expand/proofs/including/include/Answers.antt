use Rattle.std.proofs.Common.{◌≡◌, refl, ap, sym, ◌∙◌, subst, Ok, [], length, List}
use Rattle.qasm_parse.specs.declared.program.Statement.{Statement}
use Rattle.qasm_expand.specs.Tables.{Bound}
use Rattle.qasm_expand.specs.Checks.{Known}
use Rattle.qasm_expand.specs.Library.{library_text, TextIs, all_defined}
use Rattle.qasm_expand.proofs.Libraries.{none_of_shelf, included_again, included_fault, defining_faulty, all_included, library_sound, none_sound, text_of, fault_by, shelved}
use Rattle.qasm_expand.proofs.including.include.Goals as goal

pub returns-then-is_some-clause-included : goal.returns-then-is_some-clause-included
returns-then-is_some-clause-included c = included_again c.args.state.now (sym c.is_some.ensures ∙ c.if-is_some.true)

pub text_program-requires : goal.text_program-requires
text_program-requires c = c.text-bytes.ensures.small

pub returns-in-Err-clause-included : goal.returns-in-Err-clause-included
returns-in-Err-clause-included c = included_fault c.args.state.now _ c.in-Err.fault (subst (λ z. Known {A = List Statement} (Rattle.std.proofs.Common.Err c.in-Err.fault) (TextIs z)) c.text-bytes.ensures.same c.in-Err.ensures.reads)

pub define_all-requires-clause-names : goal.define_all-requires-clause-names
define_all-requires-clause-names c = none_sound (length c.args.state.now.defs) c.new-names.result c.new-names.ensures

pub returns-in-Err-define_all-clause-included : goal.returns-in-Err-define_all-clause-included
returns-in-Err-define_all-clause-included c =
    let st = c.args.state.now in
    let h : TextIs library_text (Ok c.statements.result.now) = text_of c.text-bytes.result.now c.in-Ok.program c.statements.result.now c.text-bytes.ensures.same c.statements.ensures c.in-Ok.ensures.reads in
    defining_faulty st _ (record { defs = st.defs; bound = c.new-names.result }) (record { defs = c.define_all.new.defs; bound = c.define_all.new.bound }) c.statements.result.now c.in-Err-define_all.fault h
    (ap (λ (z : List Bound). record { defs = st.defs; bound = z }) c.new-names.ensures) (fault_by c.text-bytes.result.now _ _ _ c.in-Err-define_all.fault c.text-bytes.ensures.same c.in-Err-define_all.ensures.defined)

pub returns-clause-included : goal.returns-clause-included
returns-clause-included c =
    let st = c.args.state.now in
    let h : TextIs library_text (Ok c.statements.result.now) = text_of c.text-bytes.result.now c.in-Ok.program c.statements.result.now c.text-bytes.ensures.same c.statements.ensures c.in-Ok.ensures.reads in
    all_included st _ (record { defs = st.defs; bound = c.new-names.result }) (record { defs = c.define_all.new.defs; bound = c.define_all.new.bound }) c.statements.result.now (none_of_shelf st (sym c.is_some.ensures ∙ c.if-is_some.false)) h
    (ap (λ (z : List Bound). record { defs = st.defs; bound = z }) c.new-names.ensures)
    (c.in-Ok-define_all.ensures.defined ∙ ap (λ z. all_defined z (record { defs = st.defs; bound = c.new-names.result }) c.statements.result.now) c.text-bytes.ensures.same)
    (shelved st c.define_all.new.defs c.define_all.new.bound c.keep_all.new.self c.in_ok-from.from c.in_ok-to.to c.in_ok-keep_all.ensures.bound (c.in_ok-from.ensures ∙ ap length c.as_slice.ensures) (c.in_ok-to.ensures ∙ ap length c.as_slice-2.ensures))

pub returns-clause-sound : goal.returns-clause-sound
returns-clause-sound c =
    let st = c.args.state.now in
    library_sound st _ (record { defs = st.defs; bound = c.new-names.result }) (record { defs = c.define_all.new.defs; bound = c.define_all.new.bound }) c.statements.result.now c.requires.sound
    (ap (λ (z : List Bound). record { defs = st.defs; bound = z }) c.new-names.ensures)
    (c.in-Ok-define_all.ensures.defined ∙ ap (λ z. all_defined z (record { defs = st.defs; bound = c.new-names.result }) c.statements.result.now) c.text-bytes.ensures.same)
    c.in-Ok-define_all.ensures.gates c.in-Ok-define_all.ensures.names
    (shelved st c.define_all.new.defs c.define_all.new.bound c.keep_all.new.self c.in_ok-from.from c.in_ok-to.to c.in_ok-keep_all.ensures.bound (c.in_ok-from.ensures ∙ ap length c.as_slice.ensures) (c.in_ok-to.ensures ∙ ap length c.as_slice-2.ensures))

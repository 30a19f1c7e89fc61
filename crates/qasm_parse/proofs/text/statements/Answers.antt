use Rattle.std.proofs.Common.{◌∙◌, sym, subst, arith, Vec, Global, List, [], ◌∷◌}
use Rattle.std.proofs.lemmas.Result.{err_from_is_err_and}
use Rattle.qasm_parse.specs.declared.program.Statement.{Statement}
use Rattle.qasm_parse.specs.Phrases.{got, miss}
use Rattle.std.proofs.Common.{append-nil}
use Rattle.qasm_parse.specs.Phrases.{put}
use Rattle.qasm_parse.specs.Statements.{IsProgram, IsStatement, statement, faulty, over}
use Rattle.qasm_parse.proofs.Passing.{put_one, listing_on, put_none}
use Rattle.qasm_parse.proofs.text.statements.Goals as goal

pub loop-out-init : goal.loop-out-init
loop-out-init c =
    let bytes = c.args.bytes.now in let tk = c.args.tokens.now in let ts = c.args.sorts.now in
    record {
      within = c.requires.inside;
      ordered = omega arith;
      rest = λ r h. subst (λ (xs : List Statement). IsProgram bytes tk ts c.args.whence c.args.at (put xs r)) (sym c.new-out.ensures.items) (put_none (IsProgram bytes tk ts c.args.whence c.args.at) r h);
    }

pub returns-in_err-one : goal.returns-in_err-one
returns-in_err-one c =
    let bytes = c.args.bytes.now in let tk = c.args.tokens.now in let ts = c.args.sorts.now in
    listing_on (λ (v : Vec Statement Global). v.items) (IsProgram bytes tk ts c.args.whence c.args.at) (IsStatement bytes tk ts c.args.whence c.loop-out.from) c.in_err-one.field-0.0 c.from_residual.result
    (err_from_is_err_and c.from_residual.result c.from_residual.ensures.1)
    (λ f h. c.loop-out.invariant.rest (miss f) (faulty (λ e. c.in_default.not-End (c.sort_at.ensures.value ∙ e)) h)) c.in_err-one.ensures.reads

pub loop-out-preserved : goal.loop-out-preserved
loop-out-preserved c =
    let bytes = c.args.bytes.now in let tk = c.args.tokens.now in let ts = c.args.sorts.now in
    let on = c.in_ok-one.ensures.goes_on in
    let low = c.loop-out.invariant.ordered in
    record {
      within = on.1;
      ordered = omega arith;
      rest = λ r h. subst (λ x. IsProgram bytes tk ts c.args.whence c.args.at x) (put_one c.loop-out.out.items c.push.new.self.items c.in_ok-one.one r c.in_ok-push.ensures.items)
          (c.loop-out.invariant.rest (put (c.in_ok-one.one ∷ []) r) (statement (λ e. c.in_default.not-End (c.sort_at.ensures.value ∙ e)) c.in_ok-one.ensures.reads h));
    }

pub returns-in-End : goal.returns-in-End
returns-in-End c =
    let bytes = c.args.bytes.now in let tk = c.args.tokens.now in let ts = c.args.sorts.now in
    subst (λ (xs : List Statement). IsProgram bytes tk ts c.args.whence c.args.at (got xs c.loop-out.from)) (append-nil c.loop-out.out.items) (c.loop-out.invariant.rest (got [] c.loop-out.from) (over (sym c.in-End.ensures.value)))

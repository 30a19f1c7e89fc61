use Rattle.std.proofs.Common.{sym, subst, rules}
use Rattle.std.proofs.lemmas.Int.{to_z-of_z}
use mir.Val.{SFits, to_z, of_z}
use mir.Syntax.{w32}
use Rattle.qasm_parse.specs.Formulas.{OpIs, number_is, id_is, pi_is, neg_is, add_is, sub_is, mul_is, div_is, pow_is, func_is, text_at}
use Rattle.qasm_parse.specs.Numbers.{IsNumeral}
use Rattle.qasm_angle.specs.declared.types.Op.TheVariants.{Number, Pi, Id, Neg, Add, Sub, Mul, Div, Pow, Func}
use Rattle.qasm_parse.proofs.formulas.operation.Goals as goal

pub returns-in-Number : goal.returns-in-Number
returns-in-Number c =
    let d = c.numeral-digits.result.0 in let t = c.numeral-digits.result.1 in
    let f : SFits w32 t = search rules in
    let h : IsNumeral (text_at c.args.bytes.now c.args.tokens.now c.in-Number.at) d t = subst (λ x. IsNumeral x d t) c.token_text.ensures.value c.numeral-digits.ensures in
    let z : IsNumeral (text_at c.args.bytes.now c.args.tokens.now c.in-Number.at) d (to_z w32 (of_z w32 t)) = subst (λ y. IsNumeral (text_at c.args.bytes.now c.args.tokens.now c.in-Number.at) d y) (sym (to_z-of_z w32 t f)) h in
    subst (λ m. OpIs c.args.bytes.now c.args.tokens.now c.args.sorts.now c.args.from m (Number d (to_z w32 (of_z w32 t)))) (sym c.in-Number.is) (number_is z)

pub returns-in-Pi : goal.returns-in-Pi
returns-in-Pi c = subst (λ m. OpIs c.args.bytes.now c.args.tokens.now c.args.sorts.now c.args.from m Pi) (sym c.in-Pi.is) pi_is

pub returns-in-Neg : goal.returns-in-Neg
returns-in-Neg c = subst (λ m. OpIs c.args.bytes.now c.args.tokens.now c.args.sorts.now c.args.from m Neg) (sym c.in-Neg.is) neg_is

pub returns-in-Add : goal.returns-in-Add
returns-in-Add c = subst (λ m. OpIs c.args.bytes.now c.args.tokens.now c.args.sorts.now c.args.from m Add) (sym c.in-Add.is) add_is

pub returns-in-Sub : goal.returns-in-Sub
returns-in-Sub c = subst (λ m. OpIs c.args.bytes.now c.args.tokens.now c.args.sorts.now c.args.from m Sub) (sym c.in-Sub.is) sub_is

pub returns-in-Mul : goal.returns-in-Mul
returns-in-Mul c = subst (λ m. OpIs c.args.bytes.now c.args.tokens.now c.args.sorts.now c.args.from m Mul) (sym c.in-Mul.is) mul_is

pub returns-in-Div : goal.returns-in-Div
returns-in-Div c = subst (λ m. OpIs c.args.bytes.now c.args.tokens.now c.args.sorts.now c.args.from m Div) (sym c.in-Div.is) div_is

pub returns-in-Pow : goal.returns-in-Pow
returns-in-Pow c = subst (λ m. OpIs c.args.bytes.now c.args.tokens.now c.args.sorts.now c.args.from m Pow) (sym c.in-Pow.is) pow_is

pub returns-in-Func : goal.returns-in-Func
returns-in-Func c = subst (λ m. OpIs c.args.bytes.now c.args.tokens.now c.args.sorts.now c.args.from m Func) (sym c.in-Func.is) func_is

pub returns-in-Id : goal.returns-in-Id
returns-in-Id c = subst (λ m. OpIs c.args.bytes.now c.args.tokens.now c.args.sorts.now c.args.from m (Id c.args.id)) (sym c.in-Id.is) (id_is (c.requires.known _ c.in-Id.is))

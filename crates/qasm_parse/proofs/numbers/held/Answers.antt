use Rattle.qasm_parse.proofs.Numerals.{held_is}
use Rattle.qasm_parse.proofs.numbers.held.Goals as goal

pub returns : goal.returns
returns c =
    let z = c.ranges.zeros.fits in let p = c.ranges.places.fits in
    held_is c.args.size c.args.zeros c.args.places c.signed.result c.clamp.result c.requires z p c.args.negative c.signed.ensures c.clamp.ensures.value

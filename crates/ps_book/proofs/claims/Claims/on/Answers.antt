use Rattle.std.proofs.Common.{◌≡◌, Bool, true, false, refl, sym, ap, ◌∙◌, arith}
use mir.Val.{bool_byte}
use Rattle.ps_book.specs.Seats.{is_on}
use Rattle.ps_book.proofs.ClaimBits.{bit_of, bits_none, bits_more, bits_below}
use Rattle.ps_book.proofs.claims.Claims.on.Goals as goal

byte_is : (b : Bool) → bool_byte b ≡ bit_of b
byte_is true = refl
byte_is false = refl

pub loop-i-init : goal.loop-i-init
loop-i-init c = (sym (bits_none c.args.place.now c.args.self.now.seats c.requires), omega arith)

pub loop-i-preserved : goal.loop-i-preserved
loop-i-preserved c =
    let bit : c.from-bit.result ≡ bit_of c.is_on.result = c.from-bit.ensures ∙ byte_is c.is_on.result in
    let more =
    bits_more c.args.place.now c.args.self.now.seats c.loop-i.i c.index-self-i.result c.is_on.result c.loop-i.bits c.requires c.loop-i-test.true
    c.index-self-i.is (c.is_on.ensures ∙ sym (ap (is_on c.args.place.now) c.index-self-i.is)) c.loop-i.invariant.0 in
    let few = bits_below c.loop-i.bits c.loop-i.i c.is_on.result c.loop-i.invariant.1 in
    (omega (arith, bit, more), omega (arith, bit, few))

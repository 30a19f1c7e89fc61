use Rattle.std.proofs.Common.{◌+◌, ◌*◌, ◌/◌, ◌∙◌, ℕ, nat_lt, sym, ap, arith}
use Rattle.ps_mono.proofs.Pairs.{pairing_start, pairing_near, pairing_first, pairing_once, pairing_second, pairing_twice, pairing_end}
use Rattle.ps_mono.proofs.words.close_twice.Goals as goal

pub returns-then-first-second-clause-bits : goal.returns-then-first-second-clause-bits
returns-then-first-second-clause-bits c =
    let low = c.args.low in
    let last = c.args.last in
    let o = c.requires.order in
    let inside = c.requires.inside in
    let most = c.requires.used in
    let e = c.if-first-second.true in
    let start = pairing_start low last c.args.words.now o c.requires.words in
    let near = pairing_near low last (low / 64) c.args.kept c.args.once c.chosen.result c.chosen-moved.result c.one_lower.result c.two_lower.result c.args.words.now c.args.words.now o (omega arith) c.chosen.ensures.small c.requires.kept
    (λ j h. c.requires.once j h ∙ ap (λ (n : ℕ). nat_lt (64 * n + j) last) (sym e)) (record { on = c.chosen.ensures.on; off = c.chosen.ensures.off }) (record { on = c.chosen-moved.ensures.on; off = c.chosen-moved.ensures.off }) c.one_lower.ensures.bits c.two_lower.ensures.bits start in
    let all = pairing_twice low last (low / 64 + 1) c.args.used c.args.words.now _ c.lower_twice.new.words o (omega arith) c.lower_twice.ensures.fits c.lower_twice.ensures.bits c.lower_twice.ensures.before c.lower_twice.ensures.behind (omega arith) near in
    pairing_end low last c.args.used c.args.words.now c.lower_twice.new.words o inside c.requires.empty all

pub returns-clause-bits : goal.returns-clause-bits
returns-clause-bits c =
    let low = c.args.low in
    let last = c.args.last in
    let o = c.requires.order in
    let inside = c.requires.inside in
    let most = c.requires.used in
    let d = c.if-first-second.false in
    let start = pairing_start low last c.args.words.now o c.requires.words in
    let first = pairing_first low last (low / 64) c.args.kept c.chosen-2.result c.one_lower-2.result c.args.words.now c.args.words.now o (omega arith) c.chosen-2.ensures.small (omega arith) c.requires.kept
    (record { on = c.chosen-2.ensures.on; off = c.chosen-2.ensures.off }) c.one_lower-2.ensures.bits start in
    let between = pairing_once low last (low / 64 + 1) (last / 64) c.args.words.now _ c.lower_once.new.words (omega arith) (omega arith) c.lower_once.ensures.fits c.lower_once.ensures.bits c.lower_once.ensures.before c.lower_once.ensures.behind (omega arith) first in
    let second = pairing_second low last (last / 64) c.args.once c.chosen-3.result c.one_lower-3.result c.two_lower-2.result c.args.words.now c.lower_once.new.words o (omega arith) c.chosen-3.ensures.small (omega arith) c.requires.once
    (record { on = c.chosen-3.ensures.on; off = c.chosen-3.ensures.off }) c.one_lower-3.ensures.bits c.two_lower-2.ensures.bits between in
    let all = pairing_twice low last (last / 64 + 1) c.args.used c.args.words.now _ c.lower_twice-2.new.words o (omega arith) c.lower_twice-2.ensures.fits c.lower_twice-2.ensures.bits c.lower_twice-2.ensures.before c.lower_twice-2.ensures.behind (omega arith) second in
    pairing_end low last c.args.used c.args.words.now c.lower_twice-2.new.words o inside c.requires.empty all

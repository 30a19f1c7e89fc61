use Rattle.std.proofs.Common.{◌≡◌, [], arith}
use Rattle.ps_threads.proofs.ListLaws.{all_more}
use Rattle.ps_threads.proofs.dealing.nothing.Goals as goal

pub push_reserved-requires : goal.push_reserved-requires
push_reserved-requires c = let i = c.loop.invariant in omega (arith, i.len, i.room, c.loop-test.true)

pub loop-preserved : goal.loop-preserved
loop-preserved c =
    let i = c.loop.invariant in
    let pushed = c.push_reserved.ensures in
    record {
      len = omega (arith, i.len, pushed.len);
      few = omega (arith, i.few, c.loop-test.true);
      room = omega (arith, i.room, pushed.capacity);
      empty = all_more c.loop.dealt.items c.push_reserved.new.self.items c.new.result pushed.items (λ k v. v.items ≡ []) i.empty c.new.ensures.items;
    }

pub returns-clause-len : goal.returns-clause-len
returns-clause-len c = let i = c.loop.invariant in omega (arith, i.len, i.few, c.loop-test.false)

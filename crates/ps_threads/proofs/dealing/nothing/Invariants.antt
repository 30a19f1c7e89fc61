use Rattle.std.proofs.Common.{◌≡◌, ◌≤◌, vec_len, vec_capacity}
use Rattle.ps_threads.proofs.DealLaws.{AllEmpty}
use Rattle.ps_threads.proofs.dealing.nothing.Given as goal

abbrev pub invariant-loop : goal.invariant-loop
invariant-loop l =
    record {
      len : vec_len l.dealt ≡ l.counter;
      few : l.counter ≤ 16;
      room : 16 ≤ vec_capacity l.dealt;
      empty : AllEmpty l.dealt.items;
    }

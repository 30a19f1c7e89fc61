use Rattle.std.proofs.Common.{◌≡◌, List, ◌++◌, vec_len}
use Rattle.std.specs.Vec.Iter.{into_iter_items}
use Rattle.ps_script.specs.declared.script.Line.{Line}
use Rattle.ps_threads.specs.Served.{AreDealt}
use Rattle.ps_threads.proofs.dealing.deal.Given as goal

abbrev pub invariant-loop-line : goal.invariant-loop-line
invariant-loop-line l =
    record {
      len : vec_len l.dealt ≡ 16;
      served : List Line;
      split : l.fn.lines.items ≡ served ++ into_iter_items l.line-iterator;
      dealt : AreDealt served l.dealt.items;
    }

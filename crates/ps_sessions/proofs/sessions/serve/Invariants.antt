use Rattle.std.proofs.Common.{◌≡◌, ◌+◌, ◌≤◌, ◌++◌, List, length, vec_len, vec_capacity}
use Rattle.std.specs.Vec.Iter.{into_iter_items}
use Rattle.ps_script.specs.declared.script.Line.{Line}
use Rattle.ps_book.specs.Books.{entries}
use Rattle.ps_sessions.proofs.Serving.{AreServed}
use Rattle.ps_sessions.proofs.sessions.serve.Given as goal

abbrev pub invariant-loop-line : goal.invariant-loop-line
invariant-loop-line g l =
    record {
      room : length (into_iter_items l.line-iterator) + vec_len l.responses ≤ vec_capacity l.responses;
      served : List Line;
      split : l.fn.lines.items ≡ served ++ into_iter_items l.line-iterator;
      stands : AreServed served (entries l.book) l.responses.items;
    }

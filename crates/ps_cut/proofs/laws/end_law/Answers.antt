use Rattle.ps_cut.proofs.Cancelling.{map_cancels, differs_between, differs_somewhere, differs_before}
use Rattle.ps_cut.proofs.Ends.{ends_same, ends_tell, ends_differ, frontless_differs}
use Rattle.ps_cut.proofs.laws.end_law.Goals as goal

pub returns : goal.returns
returns c = record {
  cancels = map_cancels;
  differs = differs_between;
  somewhere = differs_somewhere;
  frontless = differs_before;
  ends_same = ends_same;
  ends_tell = ends_tell;
  ends_differ = ends_differ;
  no_front = frontless_differs;
}

use Rattle.ps_local.proofs.windows.found_windows.Goals as goal

pub past_window-requires-clause-windows : goal.past_window-requires-clause-windows
past_window-requires-clause-windows c = c.past_equal-at.ensures c.args.n c.loop.invariant

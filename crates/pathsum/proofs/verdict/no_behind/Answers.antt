use Rattle.pathsum.proofs.Edits.{no_first, no_later}
use Rattle.pathsum.proofs.verdict.no_behind.Goals as goal

pub returns-then-front-eq0 : goal.returns-then-front-eq0
returns-then-front-eq0 c = no_first c.args.input c.args.front c.if-front-eq0.true

pub returns-else-front-eq0 : goal.returns-else-front-eq0
returns-else-front-eq0 c = no_later c.args.input c.args.front c.if-front-eq0.false

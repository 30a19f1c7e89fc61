use Rattle.ps_join.proofs.PlainJoins.{exchange_join, exchange_fits, exchange_means}
use Rattle.ps_join.proofs.plains.join_exchange.Goals as goal

pub returns-in-Ok-clause-sum : goal.returns-in-Ok-clause-sum
returns-in-Ok-clause-sum c = λ S l. exchange_join c.args.c c.args.t c.args.first S c.in-Ok.sum c.requires.wide l c.in-Ok.ensures

pub returns-in-Ok-clause-fits : goal.returns-in-Ok-clause-fits
returns-in-Ok-clause-fits c = λ S l. exchange_fits c.args.c c.args.t c.args.first S c.requires.within c.requires.wide c.requires.near l

pub returns-in-Ok-clause-denotes : goal.returns-in-Ok-clause-denotes
returns-in-Ok-clause-denotes c = exchange_means c.args.c c.args.t c.args.first c.in-Ok.sum c.requires.within (λ S l. exchange_join c.args.c c.args.t c.args.first S c.in-Ok.sum c.requires.wide l c.in-Ok.ensures)

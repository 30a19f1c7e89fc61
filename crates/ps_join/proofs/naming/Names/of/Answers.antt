use Rattle.ps_join.proofs.NamedParts.{name_front, name_back}
use Rattle.ps_join.proofs.naming.Names.of.Goals as goal

pub returns-then-v-self-clause-value : goal.returns-then-v-self-clause-value
returns-then-v-self-clause-value c = name_front c.args.self.now.n c.args.self.now.m1 c.args.self.now.m2 c.args.v c.own.result c.if-v-self.true c.own.ensures.value

pub returns-else-v-self-clause-value : goal.returns-else-v-self-clause-value
returns-else-v-self-clause-value c = name_back c.args.self.now.n c.args.self.now.m1 c.args.self.now.m2 c.args.v c.if-v-self.false

use Rattle.ps_book.specs.Services.{fields_of}
use Rattle.ps_book.proofs.Giving.{branch_of, branch_work}
use Rattle.ps_book.proofs.service.Service.work.Goals as goal

pub returns-in_ok-second-in-Branch : goal.returns-in_ok-second-in-Branch
returns-in_ok-second-in-Branch c =
    branch_work (fields_of c.args.self.now) c.args.node c.in-Branch.left c.in-Branch.right
    (branch_of (fields_of c.args.self.now) c.nodes.result.now c.args.node c.in-Branch.left c.in-Branch.right c.nodes.ensures.nodes
    c.in-Branch.ensures) c.requires.ready
    c.in_ok-first-in-Branch.first c.in_ok-second-in-Branch.second c.in_ok-first-in-Branch.ensures c.in_ok-second-in-Branch.ensures

use Rattle.std.proofs.Common.{arith}
use Rattle.ps_book.proofs.Giving.{record_within}
use Rattle.ps_book.proofs.service.Service.record_of.Goals as goal

pub kept_at-requires : goal.kept_at-requires
kept_at-requires c =
    let s = c.args.self.now in
    omega (arith, record_within s.versions.kept c.args.node c.requires, s.sound.recorded)

use Rattle.ps_book.specs.Services.{fields_of}
use Rattle.ps_book.proofs.Giving.{kept_there}
use Rattle.ps_book.proofs.Summed.{root_there, root_decides, limit_decides, found_some}
use Rattle.ps_book.proofs.service.Service.deciding.Goals as goal

pub kept_at-requires : goal.kept_at-requires
kept_at-requires c = let s = c.args.self.now in root_there (fields_of s) s.sound c.args.place.now c.requires.kept c.args.root c.requires.root c.requires.settled

pub first_passed-requires : goal.first_passed-requires
first_passed-requires c = kept_there (fields_of c.args.self.now) c.args.place.now c.requires.kept

pub returns-in-None : goal.returns-in-None
returns-in-None c =
    let s = c.args.self.now in
    root_decides (fields_of s) s.sound c.args.place.now c.requires.kept c.args.root c.requires.root c.requires.settled c.in-None.ensures.value

pub returns-in-Some : goal.returns-in-Some
returns-in-Some c =
    let s = c.args.self.now in
    limit_decides (fields_of s) s.sound c.args.place.now c.requires.kept c.args.root c.requires.root c.requires.settled c.in-Some.node
    c.in-Some.ensures.value c.in-Some.ensures.passed
    (λ e. c.kept_at.ensures.below (found_some c.kept_at.result _ _ c.kept_at.ensures.value e))

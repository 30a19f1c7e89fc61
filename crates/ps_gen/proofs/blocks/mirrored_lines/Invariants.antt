use Rattle.std.proofs.Common.{◌≡◌, string_bytes, take, map}
use Rattle.std.specs.List.{flat_map}
use Rattle.ps_gen.specs.Texts.{line, mirrored}
use Rattle.ps_gen.proofs.blocks.mirrored_lines.Given as goal

abbrev pub invariant-loop-application : goal.invariant-loop-application
invariant-loop-application l = string_bytes l.text ≡ flat_map line (map mirrored (take l.application-index l.fn.list))

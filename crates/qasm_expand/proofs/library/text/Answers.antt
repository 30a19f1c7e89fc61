use Rattle.std.proofs.Common.{refl}
use Rattle.qasm_expand.specs.Library.{library_text}
use Rattle.qasm_expand.proofs.LibraryText.{library_faultless}
use Rattle.qasm_expand.proofs.library.text.Goals as goal

pub returns-clause-same : goal.returns-clause-same
unfolding library_text
returns-clause-same c = refl

pub returns-clause-faultless : goal.returns-clause-faultless
returns-clause-faultless c = library_faultless

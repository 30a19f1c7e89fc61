-- The number of segments without a record, of a version at a place.
use Rattle.std.proofs.Common.{◌≡◌, ℕ, List, refl, sym, ap, ◌∙◌, true}
use Rattle.std.specs.Prelude.{Option, Some, None}
use Rattle.seg_tree.specs.Table.{root_tree}
use Rattle.ps_script.specs.declared.name.Place.{Place}
use Rattle.ps_versions.specs.Held as held
use Rattle.ps_versions.specs.Lives.{is_kept}
use Rattle.ps_versions.specs.Questions as held_questions
use Rattle.ps_versions.specs.Questions.{missing_in}
use Rattle.ps_journal.specs.State.{State}
use Rattle.ps_journal.specs.Segments as model
use Rattle.ps_views.specs.Views.{version_of}
use Rattle.ps_views.specs.Fields.{Fields, IsSound, held_at}
use Rattle.ps_views.specs.Stands.{Stands}
use Rattle.ps_views.proofs.Growth.{Stood, stood_at}
use Rattle.ps_views.proofs.Knowledge.{missing_kept}

-- LAW: what the tables tell of a kept version is what is missing of it
pub missing_told : (f : Fields) (t : State) → IsSound f → Stands f t → (p : Place) (v : held.Version) (m : ℕ) → held_at f.versions p ≡ Some v → is_kept v ≡ true
    → Some m ≡ held_questions.missing f.versions (held_at f.versions p) → m ≡ model.missing t.published (version_of f.items f.versions.nodes v).tree
missing_told f t sound so p v m at live told =
    let s : Stood f.versions.circuits v = stood_at f.versions.circuits p.name p.version v at in
    let found : Some m ≡ Some (missing_in f.versions.kept (root_tree f.versions.nodes v.root)) = told ∙ ap (held_questions.missing f.versions) at in
    let same : m ≡ missing_in f.versions.kept (root_tree f.versions.nodes v.root) = cc in
    same ∙ sym (missing_kept f t sound so s.index s.number s.circuit v s.at s.there live)

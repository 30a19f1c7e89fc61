use Rattle.std.proofs.Common.{◌≡◌, ℕ, ◌-◌, ◌<◌, ◌≤◌, length, get_or, [], refl, sym, ap, ◌∙◌, subst, arith}
use Rattle.std.specs.Prelude.{Some, None, IsSome, slice_get}
use Rattle.std.proofs.lemmas.Option.{slice_get_read}
use Rattle.std.proofs.lemmas.List.{length-set}
use Rattle.ps_versions.specs.Lookup.{circuit_at, version_in, change_at, with_version, replaced_in}
use Rattle.ps_versions.specs.Lives.{IsLife, IsLiveAtEnd}
use Rattle.ps_versions.specs.Records.{IsOnce}
use Rattle.ps_versions.specs.Views.{circuit_of, version_of, EndsLive}
use Rattle.ps_versions.specs.declared.data.Edition.{Edition}
use Rattle.ps_versions.proofs.Lookups.{length-circuits, get-circuits, length-versions, version_there, versions-set, circuits-set, each_set, ends_set}
use Rattle.ps_versions.proofs.versions.Versions.replace.Goals as goal

pub index_mut-course-requires : goal.index_mut-course-requires
index_mut-course-requires g c = omega (arith, c.in-Some.ensures.found.0, ap (λ h. length h.circuits) c.self.view_is, length-circuits c.self.inside.names.keys c.self.inside.courses.items c.self.invariant.named, c.self.inside.courses.ok.0)

pub index_mut-requires : goal.index_mut-requires
index_mut-requires g c =
    let cs = c.self.inside.courses.items in
    let keys = c.self.inside.names.keys in
    let course = c.index_mut-course.result.now in
    let i = c.in-Some.index in
    let v = c.args.place.now.version in
    let near : i < length cs = omega (arith, c.in-Some.ensures.found.0, ap (λ h. length h.circuits) c.self.view_is, length-circuits keys cs c.self.invariant.named) in
    let got : slice_get cs i ≡ Some course = slice_get_read cs (length cs) i course refl near c.index_mut-course.ensures.value in
    let found : circuit_at c.args.self.now.circuits c.args.place.now.name ≡ Some (circuit_of (get_or keys i []) course) = c.in-Some.ensures.found.1 ∙ ap (λ h. slice_get h.circuits i) (sym c.self.view_is) ∙ get-circuits keys cs i course c.self.invariant.named got in
    let there = version_there (circuit_of (get_or keys i []) course) v (subst (λ o. IsSome (version_in o v)) found c.requires.there) in
    let below : v - 1 < length course.editions.items = omega (arith, there.1, length-versions course.editions.items) in
    omega (arith, below, course.editions.ok.0)

pub invariant_of-self : goal.invariant_of-self
invariant_of-self g c =
    let cs = c.self.inside.courses.items in
    let keys = c.self.inside.names.keys in
    let course = c.index_mut-course.result.now in
    let i = c.in-Some.index in
    let v = c.args.place.now.version in
    let near : i < length cs = omega (arith, c.in-Some.ensures.found.0, ap (λ h. length h.circuits) c.self.view_is, length-circuits keys cs c.self.invariant.named) in
    let got : slice_get cs i ≡ Some course = slice_get_read cs (length cs) i course refl near c.index_mut-course.ensures.value in
    let found : circuit_at c.args.self.now.circuits c.args.place.now.name ≡ Some (circuit_of (get_or keys i []) course) = c.in-Some.ensures.found.1 ∙ ap (λ h. slice_get h.circuits i) (sym c.self.view_is) ∙ get-circuits keys cs i course c.self.invariant.named got in
    let there = version_there (circuit_of (get_or keys i []) course) v (subst (λ o. IsSome (version_in o v)) found c.requires.there) in
    let below : v - 1 < length course.editions.items = omega (arith, there.1, length-versions course.editions.items) in
    let es = course.editions.items in
    let nodes = c.self.inside.nodes in
    let once : IsOnce nodes c.args.edition.root = subst (λ h. IsOnce h.nodes c.args.edition.root) (sym c.self.view_is) c.requires.once in
    let live : v ≡ length (circuit_of (get_or keys i []) course).versions → c.args.edition.retired ≡ None = subst (λ o. IsLiveAtEnd o v c.args.edition.retired) found c.requires.live in
    record {
      named = c.self.invariant.named ∙ sym (length-set cs i _);
      recorded = c.self.invariant.recorded;
      numbered = each_set (λ x. length x.editions.items < 4294967296) cs i _ c.self.invariant.numbered (omega (arith, length-set es (v - 1) c.args.edition, c.self.invariant.numbered i course got));
      once = λ k j x y h r. each_set (λ z. (j : ℕ) (y : Edition) → slice_get z.editions.items j ≡ Some y → IsOnce nodes y.root) cs i _ (λ k x h j y r. c.self.invariant.once k j x y h r)
          (each_set (λ y. IsOnce nodes y.root) es (v - 1) c.args.edition (λ j y r. c.self.invariant.once i j course y got r) once) k x h j y r;
      lives = λ k j x y h r. each_set (λ z. (j : ℕ) (y : Edition) → slice_get z.editions.items j ≡ Some y → IsLife (version_of y)) cs i _ (λ k x h j y r. c.self.invariant.lives k j x y h r)
          (each_set (λ y. IsLife (version_of y)) es (v - 1) c.args.edition (λ j y r. c.self.invariant.lives i j course y got r) c.requires.life) k x h j y r;
      few = subst (λ n. n ≤ 256) (sym (length-set cs i _)) c.self.invariant.few;
      begun = each_set (λ x. 0 < length x.editions.items) cs i _ c.self.invariant.begun (omega (arith, length-set es (v - 1) c.args.edition, below));
      live = each_set (λ x. EndsLive x.editions.items) cs i _ c.self.invariant.live (ends_set es (v - 1) c.args.edition (c.self.invariant.live i course got) (λ last. live (omega (arith, last, there.0, below, length-versions es))));
      filled = c.self.invariant.filled;
      counted = c.self.invariant.counted;
    }

pub returns-clause-circuits : goal.returns-clause-circuits
returns-clause-circuits g c =
    let cs = c.self.inside.courses.items in
    let keys = c.self.inside.names.keys in
    let course = c.index_mut-course.result.now in
    let i = c.in-Some.index in
    let v = c.args.place.now.version in
    let near : i < length cs = omega (arith, c.in-Some.ensures.found.0, ap (λ h. length h.circuits) c.self.view_is, length-circuits keys cs c.self.invariant.named) in
    let got : slice_get cs i ≡ Some course = slice_get_read cs (length cs) i course refl near c.index_mut-course.ensures.value in
    let found : circuit_at c.args.self.now.circuits c.args.place.now.name ≡ Some (circuit_of (get_or keys i []) course) = c.in-Some.ensures.found.1 ∙ ap (λ h. slice_get h.circuits i) (sym c.self.view_is) ∙ get-circuits keys cs i course c.self.invariant.named got in
    let there = version_there (circuit_of (get_or keys i []) course) v (subst (λ o. IsSome (version_in o v)) found c.requires.there) in
    let below : v - 1 < length course.editions.items = omega (arith, there.1, length-versions course.editions.items) in
    let es = course.editions.items in
    let w = version_of c.args.edition in
    circuits-set keys cs i course _ (with_version v w) c.self.invariant.named got
    (λ n. ap (λ vs. record { name = n; qubits = course.qubits; opened = course.opened; versions = vs }) (versions-set es (v - 1) c.args.edition below))
    ∙ ap (λ h. change_at h.circuits i (with_version v w)) c.self.view_is
    ∙ ap (λ o. replaced_in c.args.self.now.circuits o v w) c.in-Some.ensures.place

use Rattle.std.proofs.Common.{◌≡◌, ℕ, ◌+◌, ◌-◌, ◌*◌, ◌<◌, ◌≤◌, ◌++◌, max, List, [], ◌∷◌, length, replicate, refl, sym, ap, ◌∙◌, subst, arith, append-nil}
use Rattle.std.specs.Prelude.{None, slice_get, vec_len}
use Rattle.seg_tree.specs.Trees.{Tree, build, splice}
use Rattle.seg_tree.specs.Measures.{height_maybe, uses_maybe}
use Rattle.seg_tree.specs.Table.{root_tree}
use Rattle.seg_tree.specs.Growth.{PlantsMaybe, Passes}
use Rattle.ps_versions.specs.Lives.{IsLife}
use Rattle.ps_versions.specs.Records.{IsOnce}
use Rattle.ps_versions.specs.Spliced.{latest_of, latest_root}
use Rattle.ps_versions.specs.Gains.{Gains}
use Rattle.ps_versions.specs.Views.{seen, version_of}
use Rattle.ps_versions.proofs.Lookups.{length-circuits}
use Rattle.ps_versions.proofs.Ends.{fresh_life}
use Rattle.ps_versions.proofs.Heights.{low-build}
use Rattle.ps_versions.proofs.Growths.{once_new}
use Rattle.ps_versions.proofs.Gaining.{gains_length, gains_then, sound_gains, ends_more, ends_same, no_more, one_more, keeps_all, keeps_same, seen_same, count_of, spliced}
use Rattle.ps_versions.specs.declared.data.Edition.{Edition}
use Rattle.ps_versions.proofs.versions.Versions.splice_at.Goals as goal

pub make_place-requires : goal.make_place-requires
make_place-requires g c = omega (arith, c.requires.there, ap (λ h. length h.circuits) c.self.view_is, length-circuits c.self.inside.names.keys c.self.inside.courses.items c.self.invariant.named, c.self.inside.courses.ok.0)

pub invariant_of-self : goal.invariant_of-self
invariant_of-self g c =
    let a = c.self.inside in
    let i = c.args.index in
    let gains : Gains a.courses.items c.make_place.new.courses.items i [] = c.make_place.ensures.courses in
    let few : length gains.was.editions.items < 4294967296 = c.self.invariant.numbered i gains.was gains.there in
    sound_gains g.R.Kept.passed a (record { names = a.names; courses = c.make_place.new.courses; nodes = a.nodes; records = c.make_place.new.records; passed = a.passed }) i [] 0 refl gains (keeps_all a.nodes)
    (c.make_place.ensures.records ∙ sym (append-nil a.records.items))
    (ap length c.make_place.ensures.records ∙ c.self.invariant.recorded)
    refl
    (omega (arith, few))
    (ends_same gains.was.editions.items (c.self.invariant.live i gains.was gains.there))
    (no_more (λ y. IsOnce a.nodes y.root))
    (no_more (λ y. IsLife (version_of y)))
    c.self.invariant

pub returns-in_default-clause-err : goal.returns-in_default-clause-err
returns-in_default-clause-err g c =
    let a = c.self.inside in
    let i = c.args.index in
    let gains : Gains a.courses.items c.make_place.new.courses.items i [] = c.make_place.ensures.courses in
    seen_same g.R.Kept.passed a (record { names = a.names; courses = c.make_place.new.courses; nodes = a.nodes; records = c.make_place.new.records; passed = a.passed }) i refl gains refl c.make_place.ensures.records c.self.invariant ∙ c.self.view_is

pub invariant_of-self-in_default-splice : goal.invariant_of-self-in_default-splice
invariant_of-self-in_default-splice g c =
    let a = c.self.inside in
    let i = c.args.index in
    let gains : Gains a.courses.items c.make_place.new.courses.items i [] = c.make_place.ensures.courses in
    let few : length gains.was.editions.items < 4294967296 = c.self.invariant.numbered i gains.was gains.there in
    let stays : c.splice.new.self ≡ a.nodes = c.in_default-splice.ensures.err in
    sound_gains g.R.Kept.passed a (record { names = a.names; courses = c.make_place.new.courses; nodes = c.splice.new.self; records = c.make_place.new.records; passed = a.passed }) i [] 0 refl gains (keeps_same a.nodes c.splice.new.self stays)
    (c.make_place.ensures.records ∙ sym (append-nil a.records.items))
    (ap length c.make_place.ensures.records ∙ c.self.invariant.recorded ∙ ap length (sym stays))
    refl
    (omega (arith, few))
    (ends_same gains.was.editions.items (c.self.invariant.live i gains.was gains.there))
    (no_more (λ y. IsOnce c.splice.new.self y.root))
    (no_more (λ y. IsLife (version_of y)))
    c.self.invariant

pub returns-in_default-splice-clause-err : goal.returns-in_default-splice-clause-err
returns-in_default-splice-clause-err g c =
    let a = c.self.inside in
    let i = c.args.index in
    let gains : Gains a.courses.items c.make_place.new.courses.items i [] = c.make_place.ensures.courses in
    let stays : c.splice.new.self ≡ a.nodes = c.in_default-splice.ensures.err in
    seen_same g.R.Kept.passed a (record { names = a.names; courses = c.make_place.new.courses; nodes = c.splice.new.self; records = c.make_place.new.records; passed = a.passed }) i refl gains stays c.make_place.ensures.records c.self.invariant ∙ c.self.view_is

pub fill-requires-clause-room : goal.fill-requires-clause-room
fill-requires-clause-room g c =
    let a = c.self.inside in
    let r = c.latest_root-root.result in
    let items = c.args.items.now in
    let nodes_is : a.nodes ≡ c.args.self.now.nodes = ap (λ h. h.nodes) c.self.view_is in
    let low : height_maybe (root_tree a.nodes r) ≤ 32 = subst (λ (ts : List (Tree ℕ)). height_maybe (root_tree ts r) ≤ 32) (sym nodes_is) (omega (arith, c.height_below.ensures.value, c.height_below.ensures.low)) in
    let most : length c.splice.new.self ≤ length a.nodes + 64 * (max (height_maybe (root_tree a.nodes r)) (height_maybe (build items)) + 1) + 2 * length items = c.in-Ok-splice.ensures.bound in
    omega (arith, c.count.ensures, most, low, low-build items c.requires.inserted, c.in-Ok.ensures.record, c.make_place.new.records.ok.0, ap length c.make_place.ensures.records, c.self.invariant.recorded)

pub add_version-requires-clause-there : goal.add_version-requires-clause-there
add_version-requires-clause-there g c =
    let a = c.self.inside in
    let i = c.args.index in
    let gains : Gains a.courses.items c.make_place.new.courses.items i [] = c.make_place.ensures.courses in
    omega (arith, c.requires.there, ap (λ h. length h.circuits) c.self.view_is, length-circuits a.names.keys a.courses.items c.self.invariant.named, gains_length a.courses.items c.make_place.new.courses.items i [] gains, c.make_place.new.courses.ok.0)

pub overflow_add-result : goal.overflow_add-result
overflow_add-result g c =
    let a = c.self.inside in
    let i = c.args.index in
    let gains : Gains a.courses.items c.make_place.new.courses.items i [] = c.make_place.ensures.courses in
    let latest : latest_of (slice_get (seen a).circuits i) ≡ c.in-Ok.count = count_of a.names.keys a.courses.items i c.in-Ok.count gains.was c.self.invariant.named gains.there c.in-Ok.ensures.count in
    let tie : latest_of (slice_get (seen a).circuits i) ≡ latest_of (slice_get c.args.self.now.circuits i) = ap (λ h. latest_of (slice_get h.circuits i)) c.self.view_is in
    let small : c.in-Ok.count < 4294967295 = omega (arith, latest, tie, c.requires.number) in
    omega (arith, small)

pub invariant_of-self-2 : goal.invariant_of-self-2
invariant_of-self-2 g c =
    let a = c.self.inside in
    let i = c.args.index in
    let gains : Gains a.courses.items c.make_place.new.courses.items i [] = c.make_place.ensures.courses in
    let latest : latest_of (slice_get (seen a).circuits i) ≡ c.in-Ok.count = count_of a.names.keys a.courses.items i c.in-Ok.count gains.was c.self.invariant.named gains.there c.in-Ok.ensures.count in
    let tie : latest_of (slice_get (seen a).circuits i) ≡ latest_of (slice_get c.args.self.now.circuits i) = ap (λ h. latest_of (slice_get h.circuits i)) c.self.view_is in
    let small : c.in-Ok.count < 4294967295 = omega (arith, latest, tie, c.requires.number) in
    let r = c.latest_root-root.result in
    let e : Edition = record { root = c.in-Ok-splice.next; retired = None; ended = None; pins = 0 } in
    let both : Gains a.courses.items c.add_version.new.courses.items i (e ∷ []) = gains_then a.courses.items c.make_place.new.courses.items c.add_version.new.courses.items i (e ∷ []) gains c.add_version.ensures in
    let planted : PlantsMaybe a.nodes c.splice.new.self (splice (root_tree a.nodes r) c.args.from c.args.to c.args.items.now) c.in-Ok-splice.next = c.in-Ok-splice.ensures.tree in
    let passes : Passes (length a.nodes) (length c.splice.new.self) (λ k. uses_maybe k (root_tree a.nodes r)) (λ k. uses_maybe k (root_tree c.splice.new.self c.in-Ok-splice.next)) = c.in-Ok-splice.ensures.nodes in
    let nodes_is : a.nodes ≡ c.args.self.now.nodes = ap (λ h. h.nodes) c.self.view_is in
    let before : IsOnce a.nodes r = subst (λ (ts : List (Tree ℕ)). IsOnce ts r) (sym nodes_is) c.latest_root-root.ensures.once in
    let counted : length both.was.editions.items ≡ c.in-Ok.count = c.in-Ok.ensures.count both.was both.there in
    sound_gains g.R.Kept.passed a (record { names = a.names; courses = c.add_version.new.courses; nodes = c.splice.new.self; records = c.fill.new.records; passed = a.passed }) i (e ∷ []) (c.count.result - vec_len c.make_place.new.records) refl both planted.kept
    (c.fill.ensures.items ∙ ap (λ rs. rs ++ replicate (c.count.result - vec_len c.make_place.new.records) None) c.make_place.ensures.records)
    (omega (arith, c.fill.ensures.len, c.count.ensures, c.fill.new.records.ok.0))
    refl
    (omega (arith, counted, small))
    (ends_more both.was.editions.items e refl)
    (one_more (λ y. IsOnce c.splice.new.self y.root) e (once_new (length a.nodes) (length c.splice.new.self) c.splice.new.self c.in-Ok-splice.next (λ k. uses_maybe k (root_tree a.nodes r)) planted.within passes before.once))
    (one_more (λ y. IsLife (version_of y)) e (fresh_life e.root))
    c.self.invariant

pub returns-clause-spliced : goal.returns-clause-spliced
returns-clause-spliced g c =
    let a = c.self.inside in
    let i = c.args.index in
    let gains : Gains a.courses.items c.make_place.new.courses.items i [] = c.make_place.ensures.courses in
    let latest : latest_of (slice_get (seen a).circuits i) ≡ c.in-Ok.count = count_of a.names.keys a.courses.items i c.in-Ok.count gains.was c.self.invariant.named gains.there c.in-Ok.ensures.count in
    let tie : latest_of (slice_get (seen a).circuits i) ≡ latest_of (slice_get c.args.self.now.circuits i) = ap (λ h. latest_of (slice_get h.circuits i)) c.self.view_is in
    let small : c.in-Ok.count < 4294967295 = omega (arith, latest, tie, c.requires.number) in
    let r = c.latest_root-root.result in
    let e : Edition = record { root = c.in-Ok-splice.next; retired = None; ended = None; pins = 0 } in
    let both : Gains a.courses.items c.add_version.new.courses.items i (e ∷ []) = gains_then a.courses.items c.make_place.new.courses.items c.add_version.new.courses.items i (e ∷ []) gains c.add_version.ensures in
    let planted : PlantsMaybe a.nodes c.splice.new.self (splice (root_tree a.nodes r) c.args.from c.args.to c.args.items.now) c.in-Ok-splice.next = c.in-Ok-splice.ensures.tree in
    let passes : Passes (length a.nodes) (length c.splice.new.self) (λ k. uses_maybe k (root_tree a.nodes r)) (λ k. uses_maybe k (root_tree c.splice.new.self c.in-Ok-splice.next)) = c.in-Ok-splice.ensures.nodes in
    let more : c.count.result - vec_len c.make_place.new.records ≡ length c.splice.new.self - length a.nodes = omega (arith, c.count.ensures, c.make_place.new.records.ok.0, ap length c.make_place.ensures.records, c.self.invariant.recorded) in
    spliced g.R.Kept.passed a (record { names = a.names; courses = c.add_version.new.courses; nodes = c.splice.new.self; records = c.fill.new.records; passed = a.passed }) c.args.self.now i c.args.from c.args.to (c.in-Ok.count + 1) c.args.items.now e r refl both refl
    (c.fill.ensures.items ∙ ap (λ rs. rs ++ replicate (c.count.result - vec_len c.make_place.new.records) None) c.make_place.ensures.records ∙ ap (λ m. a.records.items ++ replicate m None) more)
    (c.latest_root-root.ensures.value ∙ ap (λ h. latest_root (slice_get h.circuits i)) (sym c.self.view_is))
    c.in-Ok-splice.ensures.run
    planted
    passes
    c.in-Ok-splice.ensures.bound
    (omega (arith, latest))
    c.self.invariant
    c.self.view_is

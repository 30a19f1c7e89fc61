use Rattle.std.proofs.Common.{◌≡◌, ◌<◌, ◌⊎◌, inl, inr, length, sym, ap, ◌∙◌, subst, arith}
use Rattle.seg_tree.specs.Trees.{run_maybe}
use Rattle.seg_tree.specs.Table.{root_tree}
use Rattle.ps_versions.specs.Lookup.{circuit_at, version_at, root_of}
use Rattle.ps_versions.specs.Spliced.{latest_of}
use Rattle.ps_views.specs.Stands.{Leaves}
use Rattle.ps_views.proofs.Replies.{circuit_told}
use Rattle.ps_book.specs.Services.{fields_of}
use Rattle.ps_book.specs.Wanting.{SplicesOr}
use Rattle.ps_book.proofs.SplicedVersions.{has_range, splice_nowhere, splice_stale, splice_outside}
use Rattle.ps_book.proofs.service.Service.splice.Goals as goal
use Rattle.ps_book.proofs.service.Service.splice.Goals.{After-len_at-len}

pub returns-in-None-clause-leaves : goal.returns-in-None-clause-leaves
returns-in-None-clause-leaves c =
    let s = c.args.self.now in
    λ t so. record { state = t; does_so = splice_nowhere (fields_of s) t s.sound so c.args.name c.args.base c.args.from c.args.to c.args.block.now c.in-None.ensures.about; stands = so }

pub returns-then-base-about-clause-leaves : goal.returns-then-base-about-clause-leaves
returns-then-base-about-clause-leaves c =
    let s = c.args.self.now in
    λ t so. record {
      state = t;
      does_so = splice_stale (fields_of s) t s.sound so c.args.name c.args.base c.args.from c.args.to c.args.block.now c.in-Some.about c.in-Some.ensures.about c.if-base-about.true;
      stands = so;
    }

counted : (c : After-len_at-len) → c.len_at-len.result ≡ length (run_maybe (root_tree c.args.self.now.versions.nodes (root_of (version_at c.args.self.now.versions.circuits c.args.name c.in-Some.about.latest))))
counted c =
    let h = c.args.self.now.versions in
    c.len_at-len.ensures.value ∙ ap (λ n. length (run_maybe (root_tree h.nodes (root_of (version_at h.circuits c.args.name n))))) c.if-base-about.false

pub splice_block-requires : goal.splice_block-requires
splice_block-requires c =
    let s = c.args.self.now in
    let d = circuit_told (circuit_at s.versions.circuits c.args.name) c.in-Some.about c.in-Some.ensures.about in
    let few : c.in-Some.about.latest < 4294967295 = omega (arith, d.2, ap latest_of d.1, c.requires c.args.name) in
    has_range (fields_of s) c.args.name c.args.from c.args.to c.len_at-len.result c.in-Some.about c.in-Some.ensures.about c.in-Some.ensures.latest (counted (goal.at.splice_block-requires c).After-len_at-len)
    c.if-from-to.false c.if-to-len.false c.len_at-len.ensures.short few

pub returns-then-from-to-clause-leaves : goal.returns-then-from-to-clause-leaves
returns-then-from-to-clause-leaves c =
    let s = c.args.self.now in
    let out : (c.args.to < c.args.from) ⊎ (c.len_at-len.result < c.args.to) = elim c.then-from-to.either [ inl h ↦ inl h | inr h ↦ inr h.1 ] in
    let count = counted (goal.at.returns-then-from-to-clause-leaves c).After-len_at-len in
    λ t so. record {
      state = t;
      does_so = splice_outside (fields_of s) t s.sound so c.args.name c.args.base c.args.from c.args.to c.args.block.now c.in-Some.about c.in-Some.ensures.about c.len_at-len.result c.if-base-about.false c.in-Some.ensures.latest count out;
      stands = so;
    }

pub returns-else-to-len-clause-leaves : goal.returns-else-to-len-clause-leaves
returns-else-to-len-clause-leaves c =
    let s = c.args.self.now in
    let d = circuit_told (circuit_at s.versions.circuits c.args.name) c.in-Some.about c.in-Some.ensures.about in
    let base : c.args.base ≡ length d.0.versions = c.if-base-about.false ∙ d.2 in
    λ t so.
    subst (λ n. Leaves (λ new. SplicesOr t c.args.name n c.args.from c.args.to c.args.block.now c.splice_block.result new) (fields_of c.splice_block.new.self)) (sym base)
    (c.splice_block.ensures.leaves t d.0 so d.1)

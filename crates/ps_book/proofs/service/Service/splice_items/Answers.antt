use Rattle.std.proofs.Common.{◌≡◌, ◌<◌, ◌≤◌, ◌+◌, ◌-◌, ◌⊎◌, inl, inr, List, [], ◌∷◌, length, refl, ap, sym, ◌∙◌, arith}
use Rattle.std.proofs.lemmas.Bool.{eqb-true, eqb-false}
use Rattle.std.specs.Prelude.{map, vec_len}
use Rattle.ps_reach.specs.Runs.{prims_of}
use Rattle.ps_views.proofs.Lookups.{mapped_length}
use Rattle.ps_book.specs.Services.{fields_of}
use Rattle.ps_book.proofs.SplicedVersions.{splice_long, splice_nothing, spliced_leaves}
use Rattle.ps_book.proofs.service.Service.splice_items.Goals as goal
use Rattle.ps_book.proofs.service.Service.splice_items.Goals.{After-len, else-range-via-then-range+else-is_empty, else-range-via-else-range}

many : (c : After-len) → c.len.result ≡ length (map prims_of c.args.items.items)
many c = omega (arith, c.len.ensures, c.args.items.ok.0, mapped_length prims_of c.args.items.items)

empty : {A : Type 0} (xs : List A) → length xs ≡ 0 → xs ≡ []
empty [] e = refl
empty (x ∷ xs) e = absurd (omega arith)

pub returns-then-count-gt65536-clause-leaves : goal.returns-then-count-gt65536-clause-leaves
returns-then-count-gt65536-clause-leaves c =
    let s = c.args.self.now in
    let r = c.args.range in
    let more = map prims_of c.args.items.items in
    let same = many (goal.at.returns-then-count-gt65536-clause-leaves c).After-len in
    λ t d block so is a.
    record {
      state = t;
      does_so = splice_long (fields_of s) c.args.name r.from r.to r.len c.requires.range t s.sound so (length d.versions) block more a (r.len - (r.to - r.from) + c.len.result) (ap (λ n. r.len - (r.to - r.from) + n) same) c.if-count-gt65536.true;
      stands = so;
    }

pub returns-then-is_empty-clause-leaves : goal.returns-then-is_empty-clause-leaves
returns-then-is_empty-clause-leaves c =
    let s = c.args.self.now in
    let r = c.args.range in
    let more = map prims_of c.args.items.items in
    let same = many (goal.at.returns-then-is_empty-clause-leaves c).After-len in
    let zero_len : vec_len c.args.items ≡ 0 = eqb-true (vec_len c.args.items) 0 (sym c.is_empty.ensures ∙ c.if-is_empty.true) in
    let none : more ≡ [] = empty more (omega (arith, zero_len, same, c.len.ensures)) in
    let few : r.len - (r.to - r.from) + length more ≤ 65536 = omega (arith, same, c.if-count-gt65536.false) in
    λ t d block so is a.
    record { state = t; does_so = splice_nothing (fields_of s) c.args.name r.from r.to r.len c.requires.range t s.sound so (length d.versions) block more a few c.if-range.true none; stands = so }

pub returns-in-Ok-clause-leaves : goal.returns-in-Ok-clause-leaves
returns-in-Ok-clause-leaves c =
    let s = c.args.self.now in
    let r = c.args.range in
    let more = map prims_of c.args.items.items in
    let same = many (goal.at.returns-in-Ok-clause-leaves c).After-len in
    let few : r.len - (r.to - r.from) + length more ≤ 65536 = omega (arith, same, c.if-count-gt65536.false) in
    let some : (r.from < r.to) ⊎ (0 < length more) = elim c.else-range.branch [
      | else-range-via-then-range+else-is_empty w ↦ inr (omega (arith, eqb-false (vec_len c.args.items) 0 (sym w.is_empty.ensures ∙ w.if-is_empty.false), same, c.len.ensures))
      | else-range-via-else-range w ↦ inl (omega (arith, w.if-range.false, c.requires.range.ordered))
    ] in
    λ t d block so is a.
    spliced_leaves (fields_of s) c.args.name r.from r.to r.len c.requires.range t s.sound so (length d.versions) block more a (fields_of c.add_version.new.self) c.in-Ok.version c.missing_of.result
    c.in-Ok.ensures.added few some c.missing_of.ensures

use Rattle.std.proofs.Common.{◌≡◌, ◌<◌, ◌+◌, length, Bool, true, false, sym, ap, ap₂, ◌∙◌, subst}
use Rattle.std.specs.Prelude.{Some, None, slice_set}
use Rattle.ps_versions.specs.Records.{record_at, ChildrenHaveSums}
use Rattle.ps_versions.specs.Reached.{is_reached}
use Rattle.seg_tree.specs.Table.{tree}
use Rattle.ps_journal.specs.Publishing.{size}
use Rattle.ps_views.specs.Fields.{Fields, fields, IsSound, passed}
use Rattle.ps_views.specs.Objections.{IsRecordAt, refuses}
use Rattle.ps_views.specs.declared.filed.Filed.{Filed}
use Rattle.ps_views.proofs.Storing.{with_record, with_filed, filed_sound}
use Rattle.ps_views.proofs.Publications.{IsStorableFor, storable_for}
use Rattle.ps_book.specs.Services.{fields_of}
use Rattle.ps_book.proofs.PublishedRecords.{held_same, moved, other_leaves, wanting_leaves, crowded_leaves, published_leaves}
use Rattle.ps_book.proofs.service.Service.publish_record.Goals as goal
use Rattle.ps_book.proofs.service.Service.publish_record.Goals.{After-unclaim, After-is_record_of, After-size, After-store}

tables_same : (c : After-unclaim) → c.unclaim.new.self.versions ≡ c.args.self.now.versions
tables_same c = ap (λ (x : Fields). x.versions) c.unclaim.ensures

storable : (c : After-unclaim) → IsStorableFor (fields_of c.args.self.now) c.args.self.now.sound c.args.claim.now
storable c = storable_for (fields_of c.args.self.now) c.args.self.now.sound c.args.seat c.args.claim.now c.requires.claimed c.requires.free

there : (c : After-unclaim) → c.args.claim.now.node < length c.unclaim.new.self.versions.nodes
there c = subst (λ h. c.args.claim.now.node < length h.nodes) (sym (tables_same c)) (storable c).there

pub is_record_of-requires-clause-node : goal.is_record_of-requires-clause-node
is_record_of-requires-clause-node c = there (goal.at.is_record_of-requires-clause-node c).After-unclaim

pub store-requires-clause-there : goal.store-requires-clause-there
store-requires-clause-there c = there (goal.at.store-requires-clause-there c).After-unclaim

pub store-requires-clause-ready : goal.store-requires-clause-ready
store-requires-clause-ready c =
    let u = (goal.at.store-requires-clause-ready c).After-unclaim in
    subst (λ h. ChildrenHaveSums passed h.kept (tree h.nodes c.args.claim.now.node)) (sym (tables_same u)) (storable u).ready

pub store-requires-clause-reached : goal.store-requires-clause-reached
store-requires-clause-reached c =
    let u = (goal.at.store-requires-clause-reached c).After-unclaim in
    subst (λ h. is_reached h c.args.claim.now.node ≡ true) (sym (tables_same u)) (storable u).reached

no_both : (b : Bool) → b ≡ true → b ≡ false → ⊥
no_both b e h = cc

pub returns-then-not-is_record_of-clause-leaves : goal.returns-then-not-is_record_of-clause-leaves
returns-then-not-is_record_of-clause-leaves c =
    let s = c.args.self.now in
    let u = c.unclaim.new.self in
    let r = c.args.given.now in
    let off : IsRecordAt (fields_of u) c.args.claim.now r.value → ⊥ =
    λ q. no_both c.is_record_of.result (c.is_record_of.ensures.1 (subst (λ x. IsRecordAt (fields_of u) c.args.claim.now x) (sym c.deref.ensures) q)) c.if-not-is_record_of.true in
    λ t so. other_leaves (fields_of s) (fields_of u) t s.sound so c.args.number c.args.seat c.args.claim.now c.requires.claimed r c.requires.free c.unclaim.ensures off

is_of : (c : After-is_record_of) → c.is_record_of.result ≡ true → IsRecordAt (fields_of c.args.self.now) c.args.claim.now c.args.given.now.value
is_of c same =
    moved (fields_of c.args.self.now) c.args.seat c.args.claim.now c.args.given.now.value
    (subst (λ x. IsRecordAt x c.args.claim.now c.args.given.now.value) c.unclaim.ensures (subst (λ x. IsRecordAt (fields_of c.unclaim.new.self) c.args.claim.now x) c.deref.ensures (c.is_record_of.ensures.0 same)))

sum_is : (c : After-size) → c.unclaim.new.self.terms + c.size.result ≡ c.args.self.now.terms + size c.args.given.now.value
sum_is c = ap₂ (λ a b. a + b) (ap (λ (x : Fields). x.terms) c.unclaim.ensures) (c.size.ensures ∙ ap size c.deref-2.ensures)

pub returns-then-total-gt-MOST_TERMS-clause-leaves : goal.returns-then-total-gt-MOST_TERMS-clause-leaves
returns-then-total-gt-MOST_TERMS-clause-leaves c =
    let s = c.args.self.now in
    let total = c.unclaim.new.self.terms + c.size.result in
    let is = is_of (goal.at.returns-then-total-gt-MOST_TERMS-clause-leaves c).After-is_record_of c.if-not-is_record_of.false in
    let sum = sum_is (goal.at.returns-then-total-gt-MOST_TERMS-clause-leaves c).After-size in
    λ t so.
    crowded_leaves (fields_of s) (fields_of c.refuse.new.self) t s.sound so c.args.number c.args.seat c.args.claim.now c.requires.claimed c.args.given.now c.requires.free total
    (c.refuse.ensures ∙ ap (refuses c.args.seat total) c.unclaim.ensures) is sum c.if-total-gt-MOST_TERMS.true

pub returns-in-Err-clause-leaves : goal.returns-in-Err-clause-leaves
returns-in-Err-clause-leaves c =
    let s = c.args.self.now in
    λ t so. wanting_leaves (fields_of s) (fields_of c.unclaim.new.self) t s.sound so c.args.number c.args.seat c.args.claim.now c.requires.claimed c.args.given.now c.requires.free c.unclaim.ensures

stored : (c : After-store) → c.store.new.self ≡ with_record c.args.claim.now.node c.args.number (record { shared = c.in-Ok.shared }) c.unclaim.new.self.versions
stored c = held_same c.store.new.self (with_record c.args.claim.now.node c.args.number (record { shared = c.in-Ok.shared }) c.unclaim.new.self.versions) c.store.ensures.circuits c.store.ensures.nodes c.store.ensures.kept

pub invariant_of-self : goal.invariant_of-self
invariant_of-self c =
    let u = c.unclaim.new.self in
    let node = c.args.claim.now.node in
    let total = u.terms + c.size.result in
    let lacks : record_at u.versions.kept node ≡ None = subst (λ h. record_at h.kept node ≡ None) (sym (tables_same (goal.at.invariant_of-self c).After-unclaim)) c.requires.free.lacks in
    record {
      sound = subst (λ h. IsSound (fields h u.tables.items u.items.items u.pins u.claims.seats total)) (sym (stored (goal.at.invariant_of-self c).After-store))
          (filed_sound (fields_of u) node c.args.number total (record { shared = c.in-Ok.shared }) lacks c.if-total-gt-MOST_TERMS.false u.sound);
    }

pub returns-in-Ok-clause-leaves : goal.returns-in-Ok-clause-leaves
returns-in-Ok-clause-leaves c =
    let s = c.args.self.now in
    let u = c.unclaim.new.self in
    let node = c.args.claim.now.node in
    let total = u.terms + c.size.result in
    let filed : Filed = record { shared = c.in-Ok.shared } in
    let same = tables_same (goal.at.returns-in-Ok-clause-leaves c).After-unclaim in
    let is = is_of (goal.at.returns-in-Ok-clause-leaves c).After-is_record_of c.if-not-is_record_of.false in
    let sum = sum_is (goal.at.returns-in-Ok-clause-leaves c).After-size in
    let made = ap (λ h. fields h u.tables.items u.items.items u.pins u.claims.seats total) (stored (goal.at.returns-in-Ok-clause-leaves c).After-store) ∙ ap (with_filed node c.args.number filed total) c.unclaim.ensures in
    let kept : record_at (slice_set s.versions.kept node (Some (c.args.number, filed))) node ≡ Some (c.args.number, filed) =
    ap (λ ks. record_at ks node) (ap (λ h. slice_set h.kept node (Some (c.args.number, filed))) (sym same) ∙ sym c.store.ensures.kept) ∙ c.store.ensures.stored in
    λ t so.
    published_leaves (fields_of s) _ t s.sound so c.args.number c.args.seat c.args.claim.now c.requires.claimed c.args.given.now c.requires.free total filed made is sum c.if-total-gt-MOST_TERMS.false
    c.args.given.now.value.right (storable (goal.at.returns-in-Ok-clause-leaves c).After-unclaim).there kept c.in-Ok.ensures

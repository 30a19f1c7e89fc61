-- An entry leads from a state to one state alone.
use Rattle.std.proofs.Common.{◌≡◌, ◌<◌, ◌≤◌, ◌+◌, ℕ, zero, suc, Bool, true, false, List, [], ◌∷◌, ◌++◌, length, refl, sym, ap, ap₂, ◌∙◌, subst, arith}
use Rattle.std.specs.Prelude.{Option, Some, None, Result, Ok, Err}
use Rattle.std.specs.List.{AllByRecursion}
use Rattle.std.specs.declared.sync.Arc.{Arc}
use Rattle.std.specs.declared.alloc.Global.{Global}
use Rattle.seg_tree.specs.Trees.{Tree, name_of}
use Rattle.qasm_expand.specs.Circuits.{CircuitOf, ReadsText, ReadsBlock}
use Rattle.qasm_expand.specs.declared.fault.ReadFault.{ReadFault}
use Rattle.qasm_expand.proofs.OneText.{one_text, one_block}
use Rattle.ps_script.specs.declared.name.Place.{Place}
use Rattle.ps_reach.specs.declared.record.Record.{Record}
use Rattle.ps_journal.specs.declared.seats.Pin.{Pin}
use Rattle.ps_journal.specs.declared.seats.Claim.{Claim}
use Rattle.ps_journal.specs.declared.commands.Cmd.{Cmd}
use Rattle.ps_journal.specs.declared.commands.Cmd.TheVariants as cmd
use Rattle.ps_journal.specs.declared.commands.Outcome.{Outcome}
use Rattle.ps_journal.specs.declared.replies.Reply.{Reply}
use Rattle.ps_journal.specs.declared.replies.Reply.TheVariants as reply
use Rattle.ps_journal.specs.State.{Item, Version, Circuit, State, empty, circuit_at, latest_of, version_at, pin_of, claim_of, unclaimed, with_terms}
use Rattle.ps_journal.specs.Keeping.{unpinned}
use Rattle.ps_journal.specs.Opening as opening
use Rattle.ps_journal.specs.Opening.{Opens, opened}
use Rattle.ps_journal.specs.Splicing as splicing
use Rattle.ps_journal.specs.Splicing.{Splices, committed}
use Rattle.ps_journal.specs.Retiring as retiring
use Rattle.ps_journal.specs.Retiring.{Retires, retired}
use Rattle.ps_journal.specs.Pinning as pinning
use Rattle.ps_journal.specs.Pinning.{Pins, Refuses, pinned}
use Rattle.ps_journal.specs.Claiming as claiming
use Rattle.ps_journal.specs.Claiming.{Nexts, LooksAt, Standing, Candidate, IsFirstOfFewest, candidates, claim_count, claimed, kept_versions, pinned_versions}
use Rattle.ps_journal.specs.Publishing as publishing
use Rattle.ps_journal.specs.Publishing.{Publishes, refused, published}
use Rattle.ps_journal.specs.Judging as judging
use Rattle.ps_journal.specs.Judging.{Answers, size}
use Rattle.ps_journal.specs.Summing as summing
use Rattle.ps_journal.specs.Summing.{Sums, GivesUp}
use Rattle.ps_journal.specs.Showing as showing
use Rattle.ps_journal.specs.Showing.{Reads}
use Rattle.ps_journal.specs.Step.{Step, Serves, starved, serves, wants}
use Rattle.ps_journal.specs.History.{Entry, LeadsTo, start, next}

same_ok : {A B : Type 0} (x y : A) → ◌≡◌ {A = Result A B} (Ok x) (Ok y) → x ≡ y
same_ok x y e = cc

same_some : {A : Type 0} (x y : A) → Some x ≡ Some y → x ≡ y
same_some x y e = cc

none_some : {A : Type 0} (x : A) → None ≡ Some x → ⊥
none_some x e = cc

-- ---- opening
module _ (t : State) (i : ℕ) (name text : List ℕ) where
  abbrev OpenAfter : Reply → State → Type 0
  OpenAfter (reply.Opened m) new = (c : CircuitOf) × ReadsText text (Ok c) × (new ≡ opened i name c t)
  OpenAfter r new = new ≡ t

  open_after : (r : Reply) (new : State) → Opens t i name text r new → OpenAfter r new
  open_after r new (opening.name_taken e) = refl
  open_after r new (opening.circuits_full e h) = refl
  open_after r new (opening.bad e h b l) = refl
  open_after r new (opening.opens {c = c} e h b) = (c, b, refl)

  open_one : (r : Reply) (a b : State) → OpenAfter r a → OpenAfter r b → a ≡ b
  open_one (reply.Opened m) a b p q =
      let same : p.0 ≡ q.0 = same_ok {B = ReadFault} p.0 q.0 (one_text text (Ok q.0) (Ok p.0) q.1 p.1) in
      p.2 ∙ ap (λ c. opened i name c t) same ∙ sym q.2
  open_one r a b p q = p ∙ sym q

-- ---- splicing
module _ (t : State) (name : List ℕ) (base from to : ℕ) (block : List ℕ) where
  abbrev SpliceAfter : Reply → State → Type 0
  SpliceAfter (reply.Committed n m) new =
      (c : Circuit) × (v : Version) × (items : List Item) × (circuit_at t.circuits name ≡ Some c) × (version_at c (latest_of c) ≡ Some v) × ReadsBlock c.table block (Ok items) × (new ≡ committed name v from to items t)
  SpliceAfter r new = new ≡ t

  splice_after : (r : Reply) (new : State) → Splices t name base from to block r new → SpliceAfter r new
  splice_after r new (splicing.no_circuit e) = refl
  splice_after r new (splicing.stale e h) = refl
  splice_after r new (splicing.span e h v o) = refl
  splice_after r new (splicing.bad s h l) = refl
  splice_after r new (splicing.too_long s h l) = refl
  splice_after r new (splicing.nothing s h l n) = refl
  splice_after r new (splicing.commits {c = c} {v = v} {items = items} s h l n) = (c, v, items, s.circuit, s.latest, h, refl)

  splice_one : (r : Reply) (a b : State) → SpliceAfter r a → SpliceAfter r b → a ≡ b
  splice_one (reply.Committed n m) a b p q =
      let circuit : p.0 ≡ q.0 = same_some p.0 q.0 (sym p.3 ∙ q.3) in
      let version : p.1 ≡ q.1 = same_some p.1 q.1 (sym p.4 ∙ ap (λ c. version_at c (latest_of c)) circuit ∙ q.4) in
      let read : ReadsBlock q.0.table block (Ok p.2) = subst (λ c. ReadsBlock c.table block (Ok p.2)) circuit p.5 in
      let items : p.2 ≡ q.2 = same_ok {B = ReadFault} p.2 q.2 (one_block q.0.table block (Ok q.2) (Ok p.2) q.5 read) in
      p.6 ∙ ap₂ (λ v is. committed name v from to is t) version items ∙ sym q.6
  splice_one r a b p q = p ∙ sym q

-- ---- retiring and pinning
module _ (t : State) (i seat : ℕ) (p : Place) where
  abbrev RetireAfter : Reply → State → Type 0
  RetireAfter (reply.Retired k) new = new ≡ retired i p t
  RetireAfter r new = new ≡ t

  retire_after : (r : Reply) (new : State) → Retires t i p r new → RetireAfter r new
  retire_after r new (retiring.no_circuit e) = refl
  retire_after r new (retiring.no_version e h) = refl
  retire_after r new (retiring.is_latest s e) = refl
  retire_after r new (retiring.was_retired s e h) = refl
  retire_after r new (retiring.retires s e h) = refl

  retire_one : (r : Reply) (a b : State) → RetireAfter r a → RetireAfter r b → a ≡ b
  retire_one (reply.Retired k) a b e h = e ∙ sym h
  retire_one r a b e h = e ∙ sym h

  abbrev PinAfter : Option Place → Reply → State → Type 0
  PinAfter second reply.Pinned new = new ≡ pinned i seat p second t
  PinAfter second r new = new ≡ t

  refused_after : (second : Option Place) (r : Reply) → Refuses t p r → PinAfter second r t
  refused_after second r (pinning.no_circuit e) = refl
  refused_after second r (pinning.no_version e h) = refl
  refused_after second r (pinning.was_retired s e) = refl

module _ (t : State) (i seat : ℕ) (p : Place) where
  second_after : (q : Place) (second : Option Place) (r : Reply) → Refuses t q r → PinAfter t i seat p second r t
  second_after q second r (pinning.no_circuit e) = refl
  second_after q second r (pinning.no_version e h) = refl
  second_after q second r (pinning.was_retired s e) = refl

  pin_after : (second : Option Place) (r : Reply) (new : State) → Pins t i seat p second r new → PinAfter t i seat p second r new
  pin_after second r new (pinning.first_refused e) = refused_after t i seat p second r e
  pin_after second r new (pinning.second_refused {second = q} s e) = second_after q second r e
  pin_after second r new (pinning.widths s e h) = refl
  pin_after second r new (pinning.pins_one s) = refl
  pin_after second r new (pinning.pins_two s e h) = refl

  pin_one : (second : Option Place) (r : Reply) (a b : State) → PinAfter t i seat p second r a → PinAfter t i seat p second r b → a ≡ b
  pin_one second reply.Pinned a b e h = e ∙ sym h
  pin_one second r a b e h = e ∙ sym h

-- ---- asking for a segment
module _ {A : Type 0} (count : A → ℕ) where
  abbrev all_above : ℕ → List A → Type 0
  all_above n xs = AllByRecursion (λ y. n < count y) xs

  abbrev none_below : ℕ → List A → Type 0
  none_below n xs = AllByRecursion (λ y. n ≤ count y) xs

  below_within : (n : ℕ) (xs ys : List A) (y : A) → none_below n (xs ++ y ∷ ys) → n ≤ count y
  below_within n [] ys y h = h.0
  below_within n (x ∷ xs) ys y h = below_within n xs ys y h.1

  first_one : (bs cs ds es : List A) (x y : A) → bs ++ x ∷ ds ≡ cs ++ y ∷ es → all_above (count x) bs → none_below (count x) ds → all_above (count y) cs → none_below (count y) es → x ≡ y
  first_one [] [] ds es x y e f g h k = cc
  first_one [] (c ∷ cs) ds es x y e f g h k =
      let head : x ≡ c = cc in
      let tail : ds ≡ cs ++ y ∷ es = cc in
      let low : count x ≤ count y = below_within (count x) cs es y (subst (λ zs. none_below (count x) zs) tail g) in
      let high : count y < count x = subst (λ z. count y < count z) (sym head) h.0 in
      absurd (omega (arith, low, high))
  first_one (b ∷ bs) [] ds es x y e f g h k =
      let head : b ≡ y = cc in
      let tail : bs ++ x ∷ ds ≡ es = cc in
      let low : count y ≤ count x = below_within (count y) bs ds x (subst (λ zs. none_below (count y) zs) (sym tail) k) in
      let high : count x < count y = subst (λ z. count x < count z) head f.0 in
      absurd (omega (arith, low, high))
  first_one (b ∷ bs) (c ∷ cs) ds es x y e f g h k =
      let tail : bs ++ x ∷ ds ≡ cs ++ y ∷ es = cc in
      first_one bs cs ds es x y tail f.1 g h.1 k

module _ (t : State) (i seat : ℕ) where
  looks_one : (pinned : Bool) (xs ys : List Standing) → LooksAt t seat pinned xs → LooksAt t seat pinned ys → xs ≡ ys
  looks_one false xs ys claiming.all claiming.all = refl
  looks_one true xs ys (claiming.own {pin = p} e) (claiming.own {pin = q} h) = ap (pinned_versions t) (same_some p q (sym e ∙ h))

  record Gives (pinned : Bool) (new : State) : Type 0 where
    pub ss : List Standing
    pub x : Candidate
    pub node : ℕ
    pub looks : LooksAt t seat pinned ss
    pub first : IsFirstOfFewest (unclaimed seat t).claims (candidates t.published ss) x
    pub named : name_of x.segment ≡ Some node
    pub new_is : new ≡ claimed i seat x.of.place node t

  abbrev NextAfter : Bool → Reply → State → Type 0
  NextAfter pinned (reply.Task task) new = Gives pinned new
  NextAfter pinned r new = new ≡ unclaimed seat t

  next_after : (pinned : Bool) (r : Reply) (new : State) → Nexts t i seat pinned r new → NextAfter pinned r new
  next_after pinned r new (claiming.no_pin e) = refl
  next_after pinned r new (claiming.idle e) = refl
  next_after pinned r new (claiming.settled e h a b) = refl
  next_after pinned r new (claiming.gives {ss = ss} {x = x} {node = node} l f n k) = record { ss = ss; x = x; node = node; looks = l; first = f; named = n; new_is = refl }

  next_one : (pinned : Bool) (r : Reply) (a b : State) → NextAfter pinned r a → NextAfter pinned r b → a ≡ b
  next_one pinned (reply.Task task) a b p q =
      let looks : p.ss ≡ q.ss = looks_one pinned p.ss q.ss p.looks q.looks in
      let whole : p.first.before ++ p.x ∷ p.first.behind ≡ q.first.before ++ q.x ∷ q.first.behind = sym p.first.whole ∙ ap (candidates t.published) looks ∙ q.first.whole in
      let same : p.x ≡ q.x = first_one (λ y. claim_count (unclaimed seat t).claims y.segment) p.first.before q.first.before p.first.behind q.first.behind p.x q.x whole p.first.fewer p.first.fewest q.first.fewer q.first.fewest in
      let node : p.node ≡ q.node = same_some p.node q.node (sym p.named ∙ ap (λ x. name_of x.segment) same ∙ q.named) in
      p.new_is ∙ ap₂ (λ x k. claimed i seat x.of.place k t) same node ∙ sym q.new_is
  next_one pinned r a b p q = p ∙ sym q

-- ---- publishing
module _ (t : State) (i seat : ℕ) (kept : Option (Arc Record Global)) where
  abbrev PublishAfter : Reply → State → Type 0
  PublishAfter reply.NoClaim new = new ≡ t
  PublishAfter reply.Stands new = new ≡ t
  PublishAfter (reply.NoRoom total) new = new ≡ refused seat total (unclaimed seat t)
  PublishAfter reply.Published new = (claim : Claim) × (r : Arc Record Global) × (claim_of t seat ≡ Some claim) × (kept ≡ Some r) × (new ≡ published i claim.node r.value (unclaimed seat t))
  PublishAfter r new = new ≡ unclaimed seat t

module _ (t : State) (i seat : ℕ) where
  publish_after : (kept : Option (Arc Record Global)) (r : Reply) (new : State) → Publishes t i seat kept r new → PublishAfter t i seat kept r new
  publish_after kept r new (publishing.no_claim e) = refl
  publish_after kept r new (publishing.dropped s e) = refl
  publish_after kept r new (publishing.already s e h) = refl
  publish_after kept r new (publishing.stands s e) = refl
  publish_after kept r new (publishing.other_run s e h) = refl
  publish_after kept r new (publishing.no_room s e h k) = refl
  publish_after kept r new (publishing.publishes {r = record_of} {claim = claim} s e h k l) = (claim, record_of, s.claim_is, refl, refl)

  publish_one : (kept : Option (Arc Record Global)) (r : Reply) (a b : State) → PublishAfter t i seat kept r a → PublishAfter t i seat kept r b → a ≡ b
  publish_one kept reply.NoClaim a b p q = p ∙ sym q
  publish_one kept reply.Stands a b p q = p ∙ sym q
  publish_one kept (reply.NoRoom total) a b p q = p ∙ sym q
  publish_one kept reply.Published a b p q =
      let claim : p.0 ≡ q.0 = same_some p.0 q.0 (sym p.2 ∙ q.2) in
      let same : p.1 ≡ q.1 = same_some p.1 q.1 (sym p.3 ∙ q.3) in
      p.4 ∙ ap₂ (λ c r. published i c.node r.value (unclaimed seat t)) claim same ∙ sym q.4
  publish_one kept r a b p q = p ∙ sym q

-- ---- ends of questions, and showing
module _ (t : State) (i seat : ℕ) where
  abbrev AnswerAfter : Reply → State → Type 0
  AnswerAfter reply.NoPin new = new ≡ t
  AnswerAfter (reply.Answered j proof) new = new ≡ with_terms (size j) (unpinned i seat t)
  AnswerAfter r new = new ≡ unpinned i seat t

  given_up : (pin : Pin) (o : Outcome) (r : Reply) → GivesUp pin o r → AnswerAfter r (unpinned i seat t)
  given_up pin o r summing.starved = refl
  given_up pin o r (summing.crowded e) = refl
  given_up pin o r (summing.not_crowded e) = refl

  answer_after : (o : Outcome) (r : Reply) (new : State) → Answers t i seat o r new → AnswerAfter r new
  answer_after o r new (judging.no_pin e) = refl
  answer_after o r new (judging.gives_up {pin = pin} e g) = given_up pin o r g
  answer_after o r new (judging.done e) = refl
  answer_after o r new (judging.one_alone e h) = refl
  answer_after o r new (judging.other_run e h) = refl
  answer_after o r new (judging.no_room e h k) = refl
  answer_after o r new (judging.answers e h k l) = refl

  answer_one : (r : Reply) (a b : State) → AnswerAfter r a → AnswerAfter r b → a ≡ b
  answer_one reply.NoPin a b p q = p ∙ sym q
  answer_one (reply.Answered j proof) a b p q = p ∙ sym q
  answer_one r a b p q = p ∙ sym q

  abbrev SumAfter : Reply → State → Type 0
  SumAfter reply.NoPin new = new ≡ t
  SumAfter r new = new ≡ unpinned i seat t

  sum_given_up : (pin : Pin) (o : Outcome) (r : Reply) → GivesUp pin o r → SumAfter r (unpinned i seat t)
  sum_given_up pin o r summing.starved = refl
  sum_given_up pin o r (summing.crowded e) = refl
  sum_given_up pin o r (summing.not_crowded e) = refl

  sum_after : (o : Outcome) (r : Reply) (new : State) → Sums t i seat o r new → SumAfter r new
  sum_after o r new (summing.no_pin e) = refl
  sum_after o r new (summing.gives_up {pin = pin} e g) = sum_given_up pin o r g
  sum_after o r new (summing.judged e) = refl
  sum_after o r new (summing.unsettled e h k) = refl
  sum_after o r new (summing.sums e h k c) = refl

  sum_one : (r : Reply) (a b : State) → SumAfter r a → SumAfter r b → a ≡ b
  sum_one reply.NoPin a b p q = p ∙ sym q
  sum_one r a b p q = p ∙ sym q

  abbrev ReadAfter : Reply → State → Type 0
  ReadAfter (reply.Shown items) new = new ≡ with_terms (length items) t
  ReadAfter r new = new ≡ t

  read_refused : (p : Place) (r : Reply) → Refuses t p r → ReadAfter r t
  read_refused p r (pinning.no_circuit e) = refl
  read_refused p r (pinning.no_version e h) = refl
  read_refused p r (pinning.was_retired s e) = refl

  read_after : (p : Place) (r : Reply) (new : State) → Reads t p r new → ReadAfter r new
  read_after p r new (showing.refused e) = read_refused p r e
  read_after p r new (showing.no_room s h) = refl
  read_after p r new (showing.shows s h) = refl

  read_one : (r : Reply) (a b : State) → ReadAfter r a → ReadAfter r b → a ≡ b
  read_one (reply.Shown items) a b p q = p ∙ sym q
  read_one r a b p q = p ∙ sym q

-- ---- one step
module _ (t : State) (i seat : ℕ) where
  abbrev After : Cmd → Reply → State → Type 0
  After (cmd.Open name text) r new = OpenAfter t i name text.value r new
  After (cmd.Splice name base from to block) r new = SpliceAfter t name base from to block.value r new
  After (cmd.Retire name version) r new = RetireAfter t i seat (record { name = name; version = version }) r new
  After (cmd.Pin first second) r new = PinAfter t i seat first second r new
  After (cmd.Next pinned) r new = NextAfter t i seat pinned r new
  After (cmd.Publish kept) r new = PublishAfter t i seat kept r new
  After (cmd.Answer outcome) r new = AnswerAfter t i seat r new
  After (cmd.Read place) r new = ReadAfter t i seat r new
  After (cmd.Sum outcome) r new = SumAfter t i seat r new

  served : (c : Cmd) (r : Reply) (new : State) → Serves t i seat c r new → After c r new
  served (cmd.Open name text) r new s = open_after t i name text.value r new s
  served (cmd.Splice name base from to block) r new s = splice_after t name base from to block.value r new s
  served (cmd.Retire name version) r new s = retire_after t i seat (record { name = name; version = version }) r new s
  served (cmd.Pin first second) r new s = pin_after t i seat first second r new s
  served (cmd.Next pinned) r new s = next_after t i seat pinned r new s
  served (cmd.Publish kept) r new s = publish_after t i seat kept r new s
  served (cmd.Answer outcome) r new s = answer_after t i seat outcome r new s
  served (cmd.Read place) r new s = read_after t i seat place r new s
  served (cmd.Sum outcome) r new s = sum_after t i seat outcome r new s

  wanted : (c : Cmd) (new : State) → starved i seat c t ≡ Some new → After c reply.Memory new
  wanted (cmd.Open name text) new e = sym (same_some t new e)
  wanted (cmd.Splice name base from to block) new e = sym (same_some t new e)
  wanted (cmd.Retire name version) new e = absurd (none_some new e)
  wanted (cmd.Pin first second) new e = absurd (none_some new e)
  wanted (cmd.Next pinned) new e = sym (same_some (unclaimed seat t) new e)
  wanted (cmd.Publish kept) new e = sym (same_some (unclaimed seat t) new e)
  wanted (cmd.Answer outcome) new e = sym (same_some (unpinned i seat t) new e)
  wanted (cmd.Read place) new e = sym (same_some t new e)
  wanted (cmd.Sum outcome) new e = sym (same_some (unpinned i seat t) new e)

  stepped : (c : Cmd) (r : Reply) (new : State) → Step t i seat c r new → After c r new
  stepped c r new (serves s) = served c r new s
  stepped c r new (wants e) = wanted c new e

  after_one : (c : Cmd) (r : Reply) (a b : State) → After c r a → After c r b → a ≡ b
  after_one (cmd.Open name text) r a b p q = open_one t i name text.value r a b p q
  after_one (cmd.Splice name base from to block) r a b p q = splice_one t name base from to block.value r a b p q
  after_one (cmd.Retire name version) r a b p q = retire_one t i seat (record { name = name; version = version }) r a b p q
  after_one (cmd.Pin first second) r a b p q = pin_one t i seat first second r a b p q
  after_one (cmd.Next pinned) r a b p q = next_one t i seat pinned r a b p q
  after_one (cmd.Publish kept) r a b p q = publish_one t i seat kept r a b p q
  after_one (cmd.Answer outcome) r a b p q = answer_one t i seat r a b p q
  after_one (cmd.Read place) r a b p q = read_one t i seat r a b p q
  after_one (cmd.Sum outcome) r a b p q = sum_one t i seat r a b p q

  -- an entry leads from a state to one state alone
  pub step_one : (c : Cmd) (r : Reply) (a b : State) → Step t i seat c r a → Step t i seat c r b → a ≡ b
  step_one c r a b p q = after_one c r a b (stepped c r a p) (stepped c r b q)

-- ---- whole journals
empty_end : (es : List Entry) (e : Entry) → [] ≡ es ++ e ∷ [] → ⊥
empty_end [] e h = cc
empty_end (x ∷ es) e h = cc

same_end : (es fs : List Entry) (e f : Entry) → es ++ e ∷ [] ≡ fs ++ f ∷ [] → (es ≡ fs) × (e ≡ f)
same_end [] [] e f h = let s : e ≡ f = cc in (refl, s)
same_end [] (y ∷ fs) e f h = let s : [] ≡ fs ++ f ∷ [] = cc in absurd (empty_end fs f s)
same_end (x ∷ es) [] e f h = let s : es ++ e ∷ [] ≡ [] = cc in absurd (empty_end es e (sym s))
same_end (x ∷ es) (y ∷ fs) e f h =
    let head : x ≡ y = cc in
    let tail : es ++ e ∷ [] ≡ fs ++ f ∷ [] = cc in
    let r = same_end es fs e f tail in
    (ap₂ (λ z zs. z ∷ zs) head r.0, r.1)

-- the last step that a journal took
pub data LastOf (es : List Entry) (u : State) : Type 0 where
  none : es ≡ [] → u ≡ empty → LastOf es u
  some : {fs : List Entry} {e : Entry} {t : State} → es ≡ fs ++ e ∷ [] → LeadsTo fs t → Step t (length fs) e.seat e.cmd e.reply u → LastOf es u

last_of : (es : List Entry) (u : State) → LeadsTo es u → LastOf es u
last_of es u start = none refl refl
last_of es u (next l s) = some refl l s

-- a journal leads to one state alone
pub leads_one : (es : List Entry) (a b : State) → LeadsTo es a → LeadsTo es b → a ≡ b
leads_one es a b start q = by es b (last_of [] b q)
  where
    by : (es : List Entry) (b : State) → LastOf [] b → empty ≡ b
    by es b (none e u) = sym u
    by es b (some {fs = fs} {e = e} h l s) = absurd (empty_end fs e h)
leads_one es a b (next {es = gs} {e = g} {t = t} l s) q = by (last_of (gs ++ g ∷ []) b q) (λ fs u h m. leads_one gs t u l (subst (λ xs. LeadsTo xs u) (sym h) m))
  where
    by : LastOf (gs ++ g ∷ []) b → ((fs : List Entry) (u : State) → gs ≡ fs → LeadsTo fs u → t ≡ u) → a ≡ b
    by (none e u) ih = absurd (empty_end gs g (sym e))
    by (some {fs = fs} {e = f} {t = u} h m r) ih =
        let e = same_end gs fs g f h in
        let same : t ≡ u = ih fs u e.0 m in
        let first : Step u (length fs) f.seat f.cmd f.reply a =
        subst (λ v. Step v (length fs) f.seat f.cmd f.reply a) same (subst (λ xs. Step t (length xs) f.seat f.cmd f.reply a) e.0 (subst (λ x. Step t (length gs) x.seat x.cmd x.reply a) e.1 s)) in
        step_one u (length fs) f.seat f.cmd f.reply a b first r

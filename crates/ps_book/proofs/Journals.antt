-- Steps of the service, and a journal with one entry more.
use Rattle.std.proofs.Common.{◌≡◌, ℕ, List, [], ◌∷◌, ◌++◌, length, refl, sym, ap, ◌∙◌, subst, ◌⊎◌, inl, inr}
use Rattle.std.specs.Prelude.{Bool, Option, Some, None, replicate}
use mathlib.Core.Logic.{∥∥₁_map}
use Rattle.std.specs.declared.sync.Arc.{Arc}
use Rattle.std.specs.declared.alloc.Global.{Global}
use Rattle.ps_script.specs.declared.name.Place.{Place}
use Rattle.ps_script.specs.declared.text.Text.{Text}
use Rattle.ps_reach.specs.declared.record.Record.{Record}
use Rattle.ps_journal.specs.declared.commands.Cmd.{Cmd}
use Rattle.ps_journal.specs.declared.commands.Cmd.TheVariants as cmd
use Rattle.ps_journal.specs.declared.commands.Outcome.{Outcome}
use Rattle.ps_journal.specs.declared.replies.Reply.{Reply}
use Rattle.ps_journal.specs.State.{State, empty, unclaimed}
use Rattle.ps_journal.specs.Keeping.{unpinned}
use Rattle.ps_journal.specs.Step.{starved, Serves, Step, serves, wants}
use Rattle.ps_journal.specs.Retiring.{Retires}
use Rattle.ps_journal.specs.Pinning.{Pins}
use Rattle.ps_journal.specs.History.{Entry, IsLegal, start, next}
use Rattle.qasm_expand.specs.declared.tables.Table.{Table}
use Rattle.ps_prim.specs.declared.items.Item.{Item as AnItem}
use Rattle.ps_versions.specs.Held.{Held}
use Rattle.ps_journal.specs.declared.seats.Pin.{Pin}
use Rattle.ps_journal.specs.declared.seats.Claim.{Claim}
use Rattle.ps_views.specs.declared.filed.Filed.{Filed}
use Rattle.ps_views.specs.Fields.{Fields, fields}
use Rattle.ps_views.proofs.Beginning.{fresh_fields}
use Rattle.ps_views.specs.Stands.{Stands, Leaves}
use Rattle.ps_book.specs.Lawful.{IsLawful}
use Rattle.ps_book.specs.Wanting.{Starves, OpensOr, SplicesOr, NextsOr, PublishesOr, AnswersOr, ReadsOr, SumsOr}

-- ---- what a turn does
pub leaves_weaker : (P Q : State → Type 0) (f : Fields) → ((u : State) → P u → Q u) → Leaves P f → Leaves Q f
leaves_weaker P Q f h l = record { state = l.state; does_so = h l.state l.does_so; stands = l.stands }

module _ (t : State) (i seat : ℕ) (c : Cmd) (left : State) (wants_it : starved i seat c t ≡ Some left) where
  -- what a command does, or that it wants memory, is a step
  pub step_or : (r : Reply) (new : State) → Serves t i seat c r new ⊎ Starves left r new → Step t i seat c r new
  step_or r new (inl h) = serves h
  step_or r new (inr h) = subst (λ x. Step t i seat c x new) (sym h.reply) (wants (wants_it ∙ ap Some (sym h.state)))

  pub leaves_step : (r : Reply) (f : Fields) → Leaves (λ new. Serves t i seat c r new ⊎ Starves left r new) f → Leaves (λ new. Step t i seat c r new) f
  leaves_step r f l = record { state = l.state; does_so = step_or r l.state l.does_so; stands = l.stands }

pub leaves_served : (t : State) (i seat : ℕ) (c : Cmd) (r : Reply) (f : Fields) → Leaves (λ new. Serves t i seat c r new) f
    → Leaves (λ new. Step t i seat c r new) f
leaves_served t i seat c r f l = record { state = l.state; does_so = serves l.does_so; stands = l.stands }

-- ---- each command, told as it was asked
told_step : (t : State) (i seat : ℕ) (c asked : Cmd) (r told : Reply) (f : Fields) → asked ≡ c → told ≡ r → Leaves (λ new. Step t i seat c r new) f
    → Leaves (λ new. Step t i seat asked told new) f
told_step t i seat c asked r told f e h l =
    subst (λ x. Leaves (λ new. Step t i seat x told new) f) (sym e) (subst (λ x. Leaves (λ new. Step t i seat c x new) f) (sym h) l)

module _ (t : State) (i seat : ℕ) (asked : Cmd) (r told : Reply) (f : Fields) (same : told ≡ r) where
  pub opened_step : (name : List ℕ) (text : Arc Text Global) (read : List ℕ) → asked ≡ cmd.Open name text → read ≡ text.value
      → Leaves (λ new. OpensOr t i name read r new) f → Leaves (λ new. Step t i seat asked told new) f
  opened_step name text read e h l =
      told_step t i seat (cmd.Open name text) asked r told f e same
      (leaves_step t i seat (cmd.Open name text) t refl r f (subst (λ x. Leaves (λ new. OpensOr t i name x r new) f) h l))

  pub spliced_step : (name : List ℕ) (base from to : ℕ) (block : Arc Text Global) (read : List ℕ) → asked ≡ cmd.Splice name base from to block
      → read ≡ block.value
      → Leaves (λ new. SplicesOr t name base from to read r new) f → Leaves (λ new. Step t i seat asked told new) f
  spliced_step name base from to block read e h l =
      told_step t i seat (cmd.Splice name base from to block) asked r told f e same
      (leaves_step t i seat (cmd.Splice name base from to block) t refl r f (subst (λ x. Leaves (λ new. SplicesOr t name base from to x r new) f) h l))

  pub retired_step : (name : List ℕ) (version : ℕ) → asked ≡ cmd.Retire name version
      → Leaves (λ new. Retires t i (record { name = name; version = version }) r new) f → Leaves (λ new. Step t i seat asked told new) f
  retired_step name version e l = told_step t i seat (cmd.Retire name version) asked r told f e same (leaves_served t i seat (cmd.Retire name version) r f l)

  pub pinned_step : (first : Place) (second : Option Place) → asked ≡ cmd.Pin first second → Leaves (λ new. Pins t i seat first second r new) f
      → Leaves (λ new. Step t i seat asked told new) f
  pinned_step first second e l = told_step t i seat (cmd.Pin first second) asked r told f e same (leaves_served t i seat (cmd.Pin first second) r f l)

  pub published_step : (kept : Option (Arc Record Global)) → asked ≡ cmd.Publish kept → Leaves (λ new. PublishesOr t i seat kept r new) f
      → Leaves (λ new. Step t i seat asked told new) f
  published_step kept e l =
      told_step t i seat (cmd.Publish kept) asked r told f e same (leaves_step t i seat (cmd.Publish kept) (unclaimed seat t) refl r f l)

module _ (t : State) (i seat : ℕ) (asked : Cmd) (r : Reply) (f : Fields) where
  pub next_step : (pinned : Bool) → asked ≡ cmd.Next pinned → Leaves (λ new. NextsOr t i seat pinned r new) f → Leaves (λ new. Step t i seat asked r new) f
  next_step pinned e l = told_step t i seat (cmd.Next pinned) asked r r f e refl (leaves_step t i seat (cmd.Next pinned) (unclaimed seat t) refl r f l)

  pub answered_step : (outcome : Outcome) → asked ≡ cmd.Answer outcome → Leaves (λ new. AnswersOr t i seat outcome r new) f
      → Leaves (λ new. Step t i seat asked r new) f
  answered_step outcome e l =
      told_step t i seat (cmd.Answer outcome) asked r r f e refl (leaves_step t i seat (cmd.Answer outcome) (unpinned i seat t) refl r f l)

  pub read_step : (p : Place) → asked ≡ cmd.Read p → Leaves (λ new. ReadsOr t p r new) f → Leaves (λ new. Step t i seat asked r new) f
  read_step p e l = told_step t i seat (cmd.Read p) asked r r f e refl (leaves_step t i seat (cmd.Read p) t refl r f l)

  pub summed_step : (outcome : Outcome) → asked ≡ cmd.Sum outcome → Leaves (λ new. SumsOr t i seat outcome r new) f
      → Leaves (λ new. Step t i seat asked r new) f
  summed_step outcome e l = told_step t i seat (cmd.Sum outcome) asked r r f e refl (leaves_step t i seat (cmd.Sum outcome) (unpinned i seat t) refl r f l)

-- ---- one entry more
lawful_step : (old new : Fields) (es : List Entry) (e : Entry) → ((t : State) → Stands old t → Leaves (λ u. Step t (length es) e.seat e.cmd e.reply u) new)
    → IsLawful old es → IsLawful new (es ++ e ∷ [])
lawful_step old new es e step h =
    let l = step h.state h.stands in
    record { state = l.state; leads = next h.leads l.does_so; stands = l.stands }

pub lawful_more : (old new : Fields) (es : List Entry) (e : Entry)
    → ((t : State) → Stands old t → Leaves (λ u. Step t (length es) e.seat e.cmd e.reply u) new) → ∥ IsLawful old es ∥₁ → ∥ IsLawful new (es ++ e ∷ []) ∥₁
lawful_more old new es e step w = ∥∥₁_map w (lawful_step old new es e step)

pub lawful_start : (f : Fields) → Stands f empty → ∥ IsLawful f [] ∥₁
lawful_start f s = ∣ record { state = empty; leads = start; stands = s } ∣₁

pub legal_of : (f : Fields) (es : List Entry) → ∥ IsLawful f es ∥₁ → IsLegal es
legal_of f es w = ∥∥₁_map w (λ h. (h.state, h.leads))

-- ---- fields with nothing in them
pub nothing_held : (h : Held Filed) (tables : List (Arc Table Global)) (items : List (Arc AnItem Global)) (pins : List (Option Pin))
    (claims : List (Option Claim))
    → tables ≡ [] → items ≡ [] → pins ≡ replicate 64 None → claims ≡ replicate 64 None → fields h tables items pins claims 0 ≡ fresh_fields h
nothing_held h tables items pins claims a b c d =
    ap (λ x. fields h x items pins claims 0) a ∙ ap (λ x. fields h [] x pins claims 0) b ∙ ap (λ x. fields h [] [] x claims 0) c
    ∙ ap (λ x. fields h [] [] (replicate 64 None) x 0) d

-- What the entries that a command adds are.
use Rattle.std.proofs.Common.{◌≡◌, true, false, cond, List, [], ◌∷◌, ◌++◌, refl, sym, ap, ◌∙◌, subst, append_assoc, append-nil}
use Rattle.std.proofs.lemmas.List.{append_cancel_left}
use Rattle.std.proofs.lemmas.List.Elements.{filter-append}
use Rattle.ps_script.specs.declared.command.Command.{Command}
use Rattle.ps_journal.specs.declared.replies.Reply.{Reply}
use Rattle.ps_journal.specs.History.{Entry, ends_command, session_entries}
use Rattle.ps_history.specs.Inner.{Idles, none, more}
use Rattle.ps_history.specs.Matching.{Matched, inner, answer, Answers}

-- ---- entries that end commands
pub session_both : (xs ys : List Entry) → session_entries (xs ++ ys) ≡ session_entries xs ++ session_entries ys
session_both xs ys = filter-append (λ (e : Entry). ends_command e.cmd e.reply) xs ys

session_one : (e : Entry) → ends_command e.cmd e.reply ≡ true → session_entries (e ∷ []) ≡ e ∷ []
session_one e h = ap (λ b. cond b (e ∷ []) []) h

session_none : (e : Entry) → ends_command e.cmd e.reply ≡ false → session_entries (e ∷ []) ≡ []
session_none e h = ap (λ b. cond b (e ∷ []) []) h

-- ---- inner entries
-- those that came in addition, none of which ends a command
record Inners (own after : List Entry) : Type 0 where
  added : List Entry
  whole : after ≡ own ++ added
  quiet : session_entries added ≡ []

idles_inners : (own after : List Entry) → Idles own after → Inners own after
idles_inners own after none = record { added = []; whole = sym (append-nil own); quiet = refl }
idles_inners own after (more {es = es} e i k) =
    let h = idles_inners own es i in
    record {
      added = h.added ++ e ∷ [];
      whole = ap (λ l. l ++ e ∷ []) h.whole ∙ append_assoc own h.added (e ∷ []);
      quiet = session_both h.added (e ∷ []) ∙ ap (λ l. l ++ session_entries (e ∷ [])) h.quiet ∙ session_none e k.inner;
    }

-- what an answer adds to the entries of its seat: inner ones, and the one that ends the command
pub record AddsAnswer (added : List Entry) (reply : Reply) : Type 0 where
  pub inners : List Entry
  pub last : Entry
  pub whole : added ≡ inners ++ last ∷ []
  pub ending : session_entries added ≡ last ∷ []
  pub reply_is : last.reply ≡ reply

pub answer_added : (c : Command) (reply : Reply) (own added after : List Entry) → after ≡ own ++ added → Answers c reply own after → AddsAnswer added reply
answer_added c reply own added after grown a =
    let h = idles_inners own a.between a.idles in
    let long : after ≡ own ++ (h.added ++ a.last ∷ []) =
    a.whole ∙ ap (λ l. l ++ a.last ∷ []) h.whole ∙ append_assoc own h.added (a.last ∷ []) in
    let short : added ≡ h.added ++ a.last ∷ [] = append_cancel_left own added (h.added ++ a.last ∷ []) (sym grown ∙ long) in
    record {
      inners = h.added;
      last = a.last;
      whole = short;
      ending =
          ap session_entries short ∙ session_both h.added (a.last ∷ []) ∙ ap (λ l. l ++ session_entries (a.last ∷ [])) h.quiet
          ∙ session_one a.last a.answers.ends;
      reply_is = a.reply_is;
    }

pub idles_added : (own added after : List Entry) → after ≡ own ++ added → Idles own after → session_entries added ≡ []
idles_added own added after grown i =
    let h = idles_inners own after i in
    ap session_entries (append_cancel_left own added h.added (sym grown ∙ h.whole)) ∙ h.quiet

-- ---- matching goes on
pub matched_idles : (own after : List Entry) (cs : List Command) → Matched own cs → Idles own after → Matched after cs
matched_idles own after cs m none = m
matched_idles own after cs m (more {es = es} e i k) = inner e (matched_idles own es cs m i) k

pub matched_answer : (own after : List Entry) (cs : List Command) (c : Command) (reply : Reply) → Matched own cs → Answers c reply own after
    → Matched after (cs ++ c ∷ [])
matched_answer own after cs c reply m a =
    subst (λ es. Matched es (cs ++ c ∷ [])) (sym a.whole) (answer a.last c (matched_idles own a.between cs m a.idles) a.answers)

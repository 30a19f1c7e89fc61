-- What a source has left and what a sink holds, over several calls one after another.
use Rattle.std.proofs.Common.{◌≡◌, ℕ, ◌+◌, ◌-◌, ◌≤◌, List, ◌++◌, length, take, drop, Option, None, Some, refl, ap, sym, ◌∙◌, arith, append_assoc, length-drop, length-take}
use Rattle.std.proofs.lemmas.List.{take_all}
use Rattle.std.proofs.Math.Seq.{take-add}
use Rattle.std.specs.Io.KnownBytes.{append_known, prepend_known}
use Rattle.ps_io.specs.Streams.{AppendsPrefix, IsRest}

-- Bytes in front, and before them others.
prepend_both : (first later : List ℕ) (known : Option (List ℕ)) → prepend_known first (prepend_known later known) ≡ prepend_known (first ++ later) known
prepend_both first later None = refl
prepend_both first later (Some left) = ap Some (sym (append_assoc first later left))

-- One more piece was read.
pub read_more : (start before after : Option (List ℕ)) (first piece : List ℕ) → start ≡ prepend_known first before → before ≡ prepend_known piece after → IsRest start after
read_more start before after first piece s b = (first ++ piece, s ∙ ap (prepend_known first) b ∙ prepend_both first piece after)

-- Bytes behind, and after them others.
append_both : (known : Option (List ℕ)) (first later : List ℕ) → append_known (append_known known first) later ≡ append_known known (first ++ later)
append_both None first later = refl
append_both (Some held) first later = ap Some (append_assoc held first later)

-- All that is still to be written.
rest_is : (bytes : List ℕ) (done : ℕ) → take (length bytes - done) (drop done bytes) ≡ drop done bytes
rest_is bytes done = take_all (length bytes - done) (drop done bytes) (omega (arith, length-drop done bytes))

-- One more piece was written.
pub wrote_more : (start before after : Option (List ℕ)) (bytes : List ℕ) (done n : ℕ) → before ≡ append_known start (take done bytes) → after ≡ append_known before (take n (take (length bytes - done) (drop done bytes))) → after ≡ append_known start (take (done + n) bytes)
wrote_more start before after bytes done n b a =
    a ∙ ap (λ rest. append_known before (take n rest)) (rest_is bytes done) ∙ ap (λ known. append_known known (take n (drop done bytes))) b
    ∙ append_both start (take done bytes) (take n (drop done bytes)) ∙ ap (append_known start) (sym (take-add done n bytes))

-- A front of what was still to be written makes a front of it all.
pub wrote_front : (start before after : Option (List ℕ)) (bytes : List ℕ) (done : ℕ) → done ≤ length bytes → before ≡ append_known start (take done bytes) → AppendsPrefix before after (take (length bytes - done) (drop done bytes)) → AppendsPrefix start after bytes
wrote_front start before after bytes done within b (n, most, a) =
    (done + n, omega (arith, length-take (length bytes - done) (drop done bytes), length-drop done bytes), wrote_more start before after bytes done n b a)

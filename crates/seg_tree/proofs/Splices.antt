-- The run of a splice.
use Rattle.std.proofs.Common.{◌≡◌, ℕ, ◌+◌, ◌-◌, ◌≤◌, List, ◌++◌, length, take, drop, refl, sym, ap, ◌∙◌, arith, length-append, append_assoc, append-nil, take-append-drop, length-take, length-drop}
use Rattle.std.specs.Prelude.{Some, None, Option}
use Rattle.std.proofs.lemmas.List.{take_at, drop_at, drop-drop}
use Rattle.std.proofs.lemmas.Bool.Decides.{nat_tests}
use Rattle.seg_tree.specs.Trees.{Tree, leaf, branch, run, run_maybe, concat, split, split_maybe, build, splice}
use Rattle.seg_tree.proofs.Cases.{run-concat}
use Rattle.seg_tree.proofs.Runs.{front_length_maybe, back_length_maybe, run-build}

module _ {A : Type 0} where
  -- what a cut gives is what there was
  pub whole_split : (t : Tree A) (at : ℕ) → run_maybe (split t at).0 ++ run_maybe (split t at).1 ≡ run t
  unfolding split
  whole_split (leaf n xs) at = grind (arith, nat_tests, take-append-drop at xs, append-nil xs)
  whole_split (branch n l r) at = grind (arith, nat_tests, append-nil (run l ++ run r), whole_split l at, whole_split r (at - length (run l)), run-concat (split l at).1 (Some r), run-concat (Some l) (split r (at - length (run l))).0, append_assoc (run_maybe (split l at).0) (run_maybe (split l at).1) (run r), append_assoc (run l) (run_maybe (split r (at - length (run l))).0) (run_maybe (split r (at - length (run l))).1))

  whole_maybe : (t : Option (Tree A)) (at : ℕ) → run_maybe (split_maybe t at).0 ++ run_maybe (split_maybe t at).1 ≡ run_maybe t
  whole_maybe None at = refl
  whole_maybe (Some t) at = whole_split t at

  pub run_front : (t : Option (Tree A)) (at : ℕ) → at ≤ length (run_maybe t) → run_maybe (split_maybe t at).0 ≡ take at (run_maybe t)
  run_front t at h = sym (take_at (run_maybe (split_maybe t at).0) (run_maybe (split_maybe t at).1) at (front_length_maybe t at h)) ∙ ap (take at) (whole_maybe t at)

  pub run_back : (t : Option (Tree A)) (at : ℕ) → at ≤ length (run_maybe t) → run_maybe (split_maybe t at).1 ≡ drop at (run_maybe t)
  run_back t at h = sym (drop_at (run_maybe (split_maybe t at).0) (run_maybe (split_maybe t at).1) at (front_length_maybe t at h)) ∙ ap (drop at) (whole_maybe t at)

  pub run-splice : (t : Option (Tree A)) (from to : ℕ) (items : List A) → from ≤ to → to ≤ length (run_maybe t) → run_maybe (splice t from to items) ≡ take from (run_maybe t) ++ items ++ drop to (run_maybe t)
  unfolding splice
  run-splice t from to items h k =
      let back : run_maybe (split_maybe (split_maybe t from).1 (to - from)).1 ≡ drop to (run_maybe t) =
      run_back (split_maybe t from).1 (to - from) (omega (arith, back_length_maybe t from (omega arith))) ∙ ap (drop (to - from)) (run_back t from (omega arith)) ∙ drop-drop (to - from) from (run_maybe t) ∙ ap (λ n. drop n (run_maybe t)) (omega arith) in
      run-concat (concat (split_maybe t from).0 (build items)) (split_maybe (split_maybe t from).1 (to - from)).1
      ∙ cc (run-concat (split_maybe t from).0 (build items), run_front t from (omega arith), run-build items, back)

  pub length-splice : (t : Option (Tree A)) (from to : ℕ) (items : List A) → from ≤ to → to ≤ length (run_maybe t) → length (run_maybe (splice t from to items)) ≡ length (run_maybe t) - (to - from) + length items
  length-splice t from to items h k =
      let total : length (take from (run_maybe t) ++ items ++ drop to (run_maybe t)) ≡ length (take from (run_maybe t)) + length items + length (drop to (run_maybe t)) = length-append (take from (run_maybe t) ++ items) (drop to (run_maybe t)) ∙ ap (λ n. n + length (drop to (run_maybe t))) (length-append (take from (run_maybe t)) items) in
      omega (arith, ap length (run-splice t from to items h k), total, length-take from (run_maybe t), length-drop to (run_maybe t))

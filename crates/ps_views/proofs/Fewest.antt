-- The lightest segment is the first candidate with the fewest claims.
use Rattle.std.proofs.Common.{◌≡◌, ℕ, zero, suc, ◌+◌, ◌<◌, ◌≤◌, List, [], ◌∷◌, ◌++◌, length, refl, sym, ap, ap₂, ◌∙◌, subst, arith, Bool, true, false, cond}
use Rattle.std.specs.Prelude.{Option, Some, None, map, nat_lt, count_by}
use Rattle.std.specs.List.{AllByRecursion}
use Rattle.std.proofs.lemmas.Bool.Decides.{nat_tests}
use Rattle.seg_tree.specs.Trees.{name_of}
use Rattle.ps_versions.specs.Choices.{lighter, lighter_of, lightest}
use Rattle.ps_versions.specs.declared.data.Ready.{Ready}
use Rattle.ps_journal.specs.declared.seats.Claim.{Claim}
use Rattle.ps_journal.specs.Claiming.{Candidate, claims_node, claim_count, IsFirstOfFewest}
use Rattle.ps_views.specs.Older.{number_in}
use Rattle.ps_views.proofs.Lists.{all_append, all_right, all_weaker}
use Rattle.ps_views.proofs.Candidates.{ready_of}

-- what is true of all is true of the lightest
pub lightest_all : (w : ℕ → ℕ) (P : Ready → Type 0) (rs : List Ready) (r : Ready) → AllByRecursion P rs → lightest w rs ≡ Some r → P r
lightest_all w P [] r h e = absurd (no e)
  where
    no : None ≡ Some r → ⊥
    no q = cc
lightest_all w P (x ∷ rs) r h e = by (lightest w rs) refl e (λ y. lightest_all w P rs y h.1)
  where
    pick : (b : Bool) (y : Ready) → P y → cond b (Some y) (Some x) ≡ Some r → P r
    pick true y q e = let same : y ≡ r = cc in subst P same q
    pick false y q e = let same : x ≡ r = cc in subst P same h.0

    by : (o : Option Ready) → lightest w rs ≡ o → lighter w x o ≡ Some r → ((y : Ready) → lightest w rs ≡ Some y → P y) → P r
    by None q e rest = let same : x ≡ r = cc in subst P same h.0
    by (Some y) q e rest = pick (nat_lt (w y.node) (w x.node)) y (rest y q) e

pub lighter_all : (w : ℕ → ℕ) (P : Ready → Type 0) (a b : Option Ready) (r : Ready) → ((x : Ready) → a ≡ Some x → P x) → ((x : Ready) → b ≡ Some x → P x) → lighter_of w a b ≡ Some r → P r
lighter_all w P None b r f g e = g r e
lighter_all w P (Some x) None r f g e = f r e
lighter_all w P (Some x) (Some y) r f g e = pick (nat_lt (w y.node) (w x.node)) e
  where
    pick : (c : Bool) → cond c (Some y) (Some x) ≡ Some r → P r
    pick true e = g r e
    pick false e = f r e

module _ (claims : List (Option Claim)) where
  -- how many claims name the node
  abbrev pub weight_by : ℕ → ℕ
  weight_by k = count_by (claims_node (Some k)) claims

  -- a candidate with a name weighs as many claims as name its segment
  pub record IsNamed (x : Candidate) : Type 0 where
    pub number : ℕ
    pub named : name_of x.segment ≡ Some number

  weighs : (x : Candidate) → IsNamed x → weight_by (ready_of x).node ≡ claim_count claims x.segment
  weighs x n = ap (λ m. count_by (claims_node (Some (number_in m))) claims) n.named ∙ sym (ap (λ m. count_by (claims_node m) claims) n.named)

  pub record Chosen (all : List Candidate) (r : Ready) : Type 0 where
    pub candidate : Candidate
    pub told : ready_of candidate ≡ r
    pub first : IsFirstOfFewest claims all candidate

  none_left : (w : ℕ → ℕ) (P : Candidate → Type 0) (xs : List Candidate) → lightest w (map ready_of xs) ≡ None → AllByRecursion P xs
  none_left w P [] e = tt
  none_left w P (x ∷ xs) e = absurd (by (lightest w (map ready_of xs)) e)
    where
      pick : (b : Bool) (y z : Ready) → cond b (Some y) (Some z) ≡ None → ⊥
      pick true y z e = cc
      pick false y z e = cc

      by : (o : Option Ready) → lighter w (ready_of x) o ≡ None → ⊥
      by None e = cc
      by (Some y) e = pick (nat_lt (w y.node) (w (ready_of x).node)) y (ready_of x) e

  less : (a b c d : ℕ) → a ≡ c → b ≡ d → nat_lt a b ≡ true → c < d
  less a b c d p q e = let h : a < b = lt a b e in omega arith
    where
      lt : (a b : ℕ) → nat_lt a b ≡ true → a < b
      lt a b e = grind (arith, nat_tests)

  at_most : (a b c d : ℕ) → a ≡ c → b ≡ d → nat_lt a b ≡ false → d ≤ c
  at_most a b c d p q e = let h : b ≤ a = le a b e in omega arith
    where
      le : (a b : ℕ) → nat_lt a b ≡ false → b ≤ a
      le a b e = grind (arith, nat_tests)

  -- the chosen one has at most as many claims as any
  least : (all : List Candidate) (x : Candidate) → IsFirstOfFewest claims all x → AllByRecursion (λ y. claim_count claims x.segment ≤ claim_count claims y.segment) all
  least all x first =
      let P : Candidate → Type 0 = λ y. claim_count claims x.segment ≤ claim_count claims y.segment in
      subst (AllByRecursion P) (sym first.whole)
      (all_append P first.before (x ∷ first.behind)
      (all_weaker (λ y. claim_count claims x.segment < claim_count claims y.segment) P (λ y h. omega arith) first.before first.fewer) ((omega arith, first.fewest)))

  -- LAW: the lightest of the candidates is the first with the fewest claims
  pub chosen : (xs : List Candidate) (r : Ready) → AllByRecursion IsNamed xs → lightest weight_by (map ready_of xs) ≡ Some r → Chosen xs r
  chosen [] r h e = absurd (no e)
    where
      no : None ≡ Some r → ⊥
      no q = cc
  chosen (x ∷ xs) r h e = by (lightest weight_by (map ready_of xs)) refl e (λ y. chosen xs y h.1)
    where
      pick : (b : Bool) (y : Ready) (rest : Chosen xs y) → nat_lt (weight_by y.node) (weight_by (ready_of x).node) ≡ b → cond b (Some y) (Some (ready_of x)) ≡ Some r → Chosen (x ∷ xs) r
      pick true y rest q e =
          let same : y ≡ r = cc in
          let named : IsNamed rest.candidate = (all_right IsNamed rest.first.before (rest.candidate ∷ rest.first.behind) (subst (AllByRecursion IsNamed) rest.first.whole h.1)).0 in
          let weight : weight_by y.node ≡ claim_count claims rest.candidate.segment = ap (λ z. weight_by z.node) (sym rest.told) ∙ weighs rest.candidate named in
          record {
            candidate = rest.candidate;
            told = rest.told ∙ same;
            first = record {
              before = x ∷ rest.first.before;
              behind = rest.first.behind;
              whole = ap (λ ys. x ∷ ys) rest.first.whole;
              fewer = (less (weight_by y.node) (weight_by (ready_of x).node) (claim_count claims rest.candidate.segment) (claim_count claims x.segment) weight (weighs x h.0) q, rest.first.fewer);
              fewest = rest.first.fewest;
            };
          }
      pick false y rest q e =
          let same : ready_of x ≡ r = cc in
          let named : IsNamed rest.candidate = (all_right IsNamed rest.first.before (rest.candidate ∷ rest.first.behind) (subst (AllByRecursion IsNamed) rest.first.whole h.1)).0 in
          let weight : weight_by y.node ≡ claim_count claims rest.candidate.segment = ap (λ z. weight_by z.node) (sym rest.told) ∙ weighs rest.candidate named in
          let most : claim_count claims x.segment ≤ claim_count claims rest.candidate.segment =
          at_most (weight_by y.node) (weight_by (ready_of x).node) (claim_count claims rest.candidate.segment) (claim_count claims x.segment) weight (weighs x h.0) q in
          record {
            candidate = x;
            told = same;
            first = record {
              before = [];
              behind = xs;
              whole = refl;
              fewer = tt;
              fewest = all_weaker (λ z. claim_count claims rest.candidate.segment ≤ claim_count claims z.segment) (λ z. claim_count claims x.segment ≤ claim_count claims z.segment) (λ z k. omega arith) xs (least xs rest.candidate rest.first);
            };
          }

      by : (o : Option Ready) → lightest weight_by (map ready_of xs) ≡ o → lighter weight_by (ready_of x) o ≡ Some r → ((y : Ready) → lightest weight_by (map ready_of xs) ≡ Some y → Chosen xs y) → Chosen (x ∷ xs) r
      by None q e rest =
          let same : ready_of x ≡ r = cc in
          record {
            candidate = x;
            told = same;
            first = record { before = []; behind = xs; whole = refl; fewer = tt; fewest = none_left weight_by (λ z. claim_count claims x.segment ≤ claim_count claims z.segment) xs q };
          }
      by (Some y) q e rest = pick (nat_lt (weight_by y.node) (weight_by (ready_of x).node)) y (rest y q) refl e

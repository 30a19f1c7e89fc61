-- What a function that reads a part answers, from what those answer that it calls.
use Rattle.std.proofs.Common.{◌≡◌, ℕ, ◌≤◌, List, [], ◌∷◌, ◌++◌, length, take, refl, sym, ◌∙◌, ap, subst, append_assoc, Result, Ok, Err, None}
use Rattle.std.proofs.lemmas.List.{get_or_past}
use Rattle.std.proofs.Math.Seq.{take-append_seam}
use Rattle.qasm_parse.specs.declared.sort.Mark.{Mark}
use Rattle.qasm_parse.specs.declared.sort.Sort.{Sort}
use Rattle.qasm_parse.specs.declared.sort.Sort.TheVariants.{End}
use Rattle.qasm_parse.specs.declared.fault.ParseFault.{ParseFault}
use Rattle.qasm_parse.specs.declared.fault.ParseFault.TheVariants.{Version, Syntax, NotUnitary, Include, Opaque, Deep, Memory}
use Rattle.qasm_parse.specs.Grammar.{at, leaf_of, Found, done, bad, front, Part, Reads, Answers}

-- the same operations and place, or the same fault
pub same_found : (ts : List Sort) (p q : Part) (d i : ℕ) (old new : List Mark) (r : Result ℕ ParseFault) → ((x : Found) → Reads ts q d i x → Reads ts p d i x) → Answers ts q d i old new r → Answers ts p d i old new r
same_found ts p q d i old new (Ok j) f (es, e, h) = (es, e, f (done es j) h)
same_found ts p q d i old new (Err Memory) f h = tt
same_found ts p q d i old new (Err (Syntax n)) f h = f (bad (Syntax n)) h
same_found ts p q d i old new (Err (Deep n)) f h = f (bad (Deep n)) h
same_found ts p q d i old new (Err (Version n)) f h = f (bad (Version n)) h
same_found ts p q d i old new (Err (NotUnitary n)) f h = f (bad (NotUnitary n)) h
same_found ts p q d i old new (Err (Include n)) f h = f (bad (Include n)) h
same_found ts p q d i old new (Err (Opaque n)) f h = f (bad (Opaque n)) h

fault_only : (ts : List Sort) (p q : Part) (d i b k : ℕ) (old new old2 new2 : List Mark) (x : ParseFault) → ((f : ParseFault) → Reads ts q b k (bad f) → Reads ts p d i (bad f)) → Answers ts q b k old2 new2 (Err x) → Answers ts p d i old new (Err x)
fault_only ts p q d i b k old new old2 new2 Memory f h = tt
fault_only ts p q d i b k old new old2 new2 (Syntax n) f h = f (Syntax n) h
fault_only ts p q d i b k old new old2 new2 (Deep n) f h = f (Deep n) h
fault_only ts p q d i b k old new old2 new2 (Version n) f h = f (Version n) h
fault_only ts p q d i b k old new old2 new2 (NotUnitary n) f h = f (NotUnitary n) h
fault_only ts p q d i b k old new old2 new2 (Include n) f h = f (Include n) h
fault_only ts p q d i b k old new old2 new2 (Opaque n) f h = f (Opaque n) h

-- a fault that is passed on
pub passed : (ts : List Sort) (p q : Part) (d i b k : ℕ) (old new old2 new2 : List Mark) (x : ParseFault) (r : Result ℕ ParseFault) → (y : ParseFault) × (r ≡ Err y) × (y ≡ x) → ((f : ParseFault) → Reads ts q b k (bad f) → Reads ts p d i (bad f)) → Answers ts q b k old2 new2 (Err x) → Answers ts p d i old new r
passed ts p q d i b k old new old2 new2 x r (y, e, g) f h = subst (λ z. Answers ts p d i old new z) (sym (e ∙ ap Err g)) (fault_only ts p q d i b k old new old2 new2 x f h)

pub one_behind : (old mid new es : List Mark) (e : Mark) → mid ≡ old ++ es → new ≡ mid ++ (e ∷ []) → new ≡ old ++ (es ++ (e ∷ []))
one_behind old mid new es e p q = q ∙ ap (λ x. x ++ (e ∷ [])) p ∙ append_assoc old es (e ∷ [])

pub two_behind : (old mid more new es fs : List Mark) (e : Mark) → mid ≡ old ++ es → more ≡ mid ++ fs → new ≡ more ++ (e ∷ []) → new ≡ old ++ (es ++ (fs ++ (e ∷ [])))
two_behind old mid more new es fs e p q r = one_behind mid more new fs e q r ∙ ap (λ x. x ++ (fs ++ (e ∷ []))) p ∙ append_assoc old es (fs ++ (e ∷ []))

pub front_front : (es fs : List Mark) (r : Found) → front es (front fs r) ≡ front (es ++ fs) r
front_front es fs (done gs j) = ap (λ x. done x j) (sym (append_assoc es fs gs))
front_front es fs (bad f) = refl

-- no terminal past the last
pub none_past : (ts : List Sort) (i : ℕ) → length ts ≤ i → leaf_of (at ts i) i ≡ None
none_past ts i h = ap (λ s. leaf_of s i) (get_or_past ts i End h)

-- operations cut back, and one behind
pub cut_back : (old mid cut new es : List Mark) (e : Mark) → mid ≡ old ++ es → cut ≡ take (length old) mid → new ≡ cut ++ (e ∷ []) → new ≡ old ++ (e ∷ [])
cut_back old mid cut new es e p q r = r ∙ ap (λ x. x ++ (e ∷ [])) (q ∙ ap (take (length old)) p ∙ take-append_seam old es)

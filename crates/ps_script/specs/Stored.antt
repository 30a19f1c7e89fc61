-- A name as it is stored: its bytes, with zeros up to 32.
use Rattle.std.specs.Prelude.{ℕ, ◌≡◌, ◌-◌, ◌≤◌, true, List, ◌++◌, length, take, drop, replicate}
use Rattle.std.proofs.Common.{sym, ap, ap₂, ◌∙◌, arith, take-append-drop, length-take}
use Rattle.ps_script.specs.Names.{is_name}
use Rattle.ps_script.specs.declared.name.Name.TheInside.{Inside}

abbrev pub seen : Inside → List ℕ
seen a = take a.len a.bytes

pub record IsStored (a : Inside) : Type 0 where
  pub size : length a.bytes ≡ 32
  pub short : a.len ≤ 32
  pub name : is_name (take a.len a.bytes) ≡ true
  pub padded : drop a.len a.bytes ≡ replicate (32 - a.len) 0

abbrev pub put_back : List ℕ → Inside
put_back bytes = record { len = length bytes; bytes = bytes ++ replicate (32 - length bytes) 0 }

pub put_back_ok : (a : Inside) → IsStored a → put_back (seen a) ≡ a
put_back_ok a h =
    let n : length (take a.len a.bytes) ≡ a.len = omega (arith, length-take a.len a.bytes, h.size, h.short) in
    let whole : take a.len a.bytes ++ replicate (32 - length (take a.len a.bytes)) 0 ≡ a.bytes =
    ap (λ k. take a.len a.bytes ++ replicate (32 - k) 0) n ∙ ap (λ zs. take a.len a.bytes ++ zs) (sym h.padded) ∙ take-append-drop a.len a.bytes in
    ap₂ (λ (k : ℕ) (bs : List ℕ). record { len = k; bytes = bs }) n whole

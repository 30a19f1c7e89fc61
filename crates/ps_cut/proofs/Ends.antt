-- Lists that have the maps of two lists with a common front and back.
use Rattle.std.proofs.Common.{◌++◌, inl, inr}
use Rattle.ps_prim.specs.declared.prims.Primitive.{Primitive as Prim}
use Rattle.ps_prim.proofs.Deciding.{same_or_differs}
use Rattle.ps_cut.specs.MapLaws.{MapMovesDifference}
use Rattle.ps_cut.specs.EndLaws.{EndsSame, EndsTell, EndsDiffer, FrontlessDiffers}
use Rattle.ps_cut.proofs.Congruence.{same_at_trans, map_symmetric, map_transitive, map_between}
use Rattle.ps_cut.proofs.Cancelling.{not_both, map_cancels, differs_before, differs_somewhere}

pub moves_difference : MapMovesDifference
moves_difference n A A' B B' x a b lx d = elim (same_or_differs n A' B' x) [
  | inl s ↦ absurd (not_both n A B x d (same_at_trans n A A' B x (a x lx) (same_at_trans n A' B' B x s (map_symmetric n B B' b x lx))))
  | inr e ↦ e
]

pub ends_same : EndsSame
ends_same n A B F M N S e h =
    map_transitive n A (F ++ (M ++ S)) B e.first (map_transitive n (F ++ (M ++ S)) (F ++ (N ++ S)) B (map_between n F M N S h) (map_symmetric n B (F ++ (N ++ S)) e.second))

pub ends_tell : EndsTell
ends_tell n A B F M N S e f s h =
    map_cancels n F M N S f s (map_transitive n (F ++ (M ++ S)) A (F ++ (N ++ S)) (map_symmetric n A (F ++ (M ++ S)) e.first) (map_transitive n A B (F ++ (N ++ S)) h e.second))

pub ends_differ : EndsDiffer
ends_differ n A B F M N S x e f s lx d =
    let r = differs_somewhere n F M N S x f s lx d in
    (r.0, r.1, moves_difference n (F ++ (M ++ S)) A (F ++ (N ++ S)) B r.0 (map_symmetric n A (F ++ (M ++ S)) e.first) (map_symmetric n B (F ++ (N ++ S)) e.second) r.1 r.2)

pub frontless_differs : FrontlessDiffers
frontless_differs n A B M N S x e s lx d =
    moves_difference n (M ++ S) A (N ++ S) B x (map_symmetric n A (M ++ S) e.first) (map_symmetric n B (N ++ S) e.second) lx (differs_before n M N S x s lx d)

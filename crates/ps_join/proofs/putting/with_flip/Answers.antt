use Rattle.std.proofs.Common.{◌≡◌, sym, subst, get_or}
use Rattle.ps_join.proofs.Puts.{made_flip, set_twice}
use Rattle.ps_join.proofs.putting.with_flip.Goals as goal

pub returns : goal.returns
returns c =
    let there = subst (λ f. f ≡ get_or c.args.outs.items c.args.q f) (sym c.replace-old.ensures.value) c.index_mut.ensures.value in (
      c.in_ok-poly.poly,
      (
        made_flip c.args.q c.args.outs.items c.replace-old.result c.in_ok-poly.poly c.requires there c.in_ok-poly.ensures.form c.in_ok-poly.ensures.value c.in_ok-poly.ensures.variables,
        set_twice c.args.q c.args.outs.items c.replace-old.new.dest c.in_ok-poly.poly,
      ),
    )

use Rattle.std.proofs.Common.{◌≡◌, ◌<◌, length, set, sym, refl, rules, arith}
use Rattle.std.proofs.lemmas.List.{drop-set-lt, length-take-le, length-set}
use Rattle.std.proofs.Math.Seq.{take-set-lt}
use Rattle.shelf.specs.SliceVecs.{items}
use Rattle.shelf.proofs.slice_vec.SliceVec.replace.Goals as goal

pub returns-clause-after : goal.returns-clause-after
returns-clause-after g c =
    let s = c.args.self.now in
    let long = length-take-le s.shelf.used s.slots.now s.within in
    let same : length (set (items s) c.args.i c.args.item) ≡ s.shelf.used = simp length-set long in
    let inside : c.args.i < s.shelf.used = omega (arith, c.len.ensures, long) in
    record {
      same_slots = refl;
      items = take-set-lt s.shelf.used s.slots.now c.args.i c.args.item inside;
      used = sym same;
      others = drop-set-lt _ s.slots.now c.args.i c.args.item (omega (arith, same, inside));
      slots = search rules;
    }

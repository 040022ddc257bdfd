use Rattle.std.proofs.Common.{◌+◌, ◌≤◌, length, arith, rules}
use Rattle.game.proofs.Rows.{count_few, offset_small, offset_top}
use Rattle.sheet.proofs.back.load.Goals as goal

pub overflow_add-from : goal.overflow_add-from
overflow_add-from g c = let laws = g.L.Lattice.lawful c.args.lattice.now in omega (arith, offset_small laws c.args.t, count_few laws c.args.t)

pub offset_bounds-values-from : goal.offset_bounds-values-from
offset_bounds-values-from g c = omega (arith, offset_small (g.L.Lattice.lawful c.args.lattice.now) c.args.t)

pub slice_bounds-copy_from_slice-end : goal.slice_bounds-copy_from_slice-end
slice_bounds-copy_from_slice-end g c = let n : c.offset-from.result + c.nodes-n.result ≤ length c.args.values.now = omega (arith, offset_top (g.L.Lattice.lawful c.args.lattice.now) c.args.t) in search rules

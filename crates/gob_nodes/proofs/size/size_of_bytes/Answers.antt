use Rattle.std.proofs.Common.{◌^◌, ◌-◌, min}
use Rattle.gob_nodes.specs.Size.{bytes_size}
use Rattle.gob_nodes.proofs.SizeLaws.{size_end}
use Rattle.gob_nodes.proofs.size.size_of_bytes.Goals as goal

pub returns : goal.returns
returns c =
    size_end c.args.defines c.nodes.left.now c.nodes.size (min (bytes_size c.args.defines c.args.nodes.now) (2 ^ 64 -
    1))
    c.in_default.len_below c.nodes.invariant.small c.nodes.invariant.all

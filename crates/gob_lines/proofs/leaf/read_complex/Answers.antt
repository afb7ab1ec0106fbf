use Rattle.gob_lines.proofs.PartLaws.{complex_it}
use Rattle.gob_lines.proofs.leaf.read_complex.Goals as goal

pub returns-clause-whole : goal.returns-clause-whole
returns-clause-whole c = λ p q rest f g said.
    complex_it p q c.in_ok-real.real c.in_ok-imaginary.imaginary c.args.tokens.now c.take_array.new.tokens
    c.read_pattern.new.tokens c.read_pattern-2.new.tokens c.take_array_end.new.tokens rest f g c.in_ok-real.ensures.fits
    c.in_ok-imaginary.ensures.fits c.in_ok-take_array.ensures.ok c.in_ok-real.ensures.ok c.in_ok-imaginary.ensures.ok
    c.in_ok-take_array_end.ensures.ok said

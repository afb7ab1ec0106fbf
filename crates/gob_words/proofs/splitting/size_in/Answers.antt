-- A word that says no size is that of no part.
use Rattle.gob_words.proofs.SizeLaws.{no_part_size}
use Rattle.gob_words.proofs.splitting.size_in.Goals as goal

pub returns-in_err-bytes_of-in-Some-None : goal.returns-in_err-bytes_of-in-Some-None
returns-in_err-bytes_of-in-Some-None c =
    rw c.from_residual-in_err-bytes_of-in-Some-None.ensures (no_part_size c.args.bytes c.args.values
    c.in-Some-None.word c.in-Some-None.is-0 c.in-Some-None.is-1 c.in_err-bytes_of-in-Some-None.ensures)
